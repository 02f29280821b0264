-- What a call leaves of a disk as it was: one word for each kind of call, over the ghost members of the
-- disk. Counts of failures, and of bytes given from memory, never fall.
use Rattle.std.specs.Prelude.{◌≡◌, ℕ, ◌≤◌, List, Option, is_some}

-- The call reads and asks: the image is as it was, no write or sync has failed, and at each moment of the
-- call a crash may leave what it might have left before.
pub record OnlyReads {D : Type 0} (image : D → Option (List ℕ)) (faults write_faults cached : D → ℕ) (may_leave : D → List ℕ → Type 0) (moment : D → ℕ) (left_since : D → ℕ → List ℕ → Type 0) (old new : D) : Type 0 where
  pub same_image : image new ≡ image old
  pub counted : faults old ≤ faults new
  pub no_write_failed : write_faults new ≡ write_faults old
  pub cache_counted : cached old ≤ cached new
  pub same_moment : moment new ≡ moment old
  pub leaves : (c : List ℕ) → may_leave new c → may_leave old c
  pub left : (c : List ℕ) → may_leave old c → may_leave new c
  pub since : (t : ℕ) (c : List ℕ) → left_since new t c → left_since old t c

-- The call reads, asks and syncs: the image is as it was, and at each moment of the call a crash may leave
-- nothing that it might not have left before.
pub record ReadsAndSyncs {D : Type 0} (image : D → Option (List ℕ)) (faults write_faults cached : D → ℕ) (may_leave : D → List ℕ → Type 0) (moment : D → ℕ) (left_since : D → ℕ → List ℕ → Type 0) (old new : D) : Type 0 where
  pub same_image : image new ≡ image old
  pub counted : faults old ≤ faults new
  pub writes_counted : write_faults old ≤ write_faults new
  pub cache_counted : cached old ≤ cached new
  pub later : moment old ≤ moment new
  pub leaves : (c : List ℕ) → may_leave new c → may_leave old c
  pub since : (t : ℕ) (c : List ℕ) → t ≤ moment old → left_since new t c → left_since old t c

-- The call writes and syncs, and reads nothing. Whether the disk tells its image stays the same.
pub record OnlyWrites {D : Type 0} (image : D → Option (List ℕ)) (faults write_faults taken cached : D → ℕ) (old new : D) : Type 0 where
  pub told : is_some (image new) ≡ is_some (image old)
  pub counted : faults old ≤ faults new
  pub writes_counted : write_faults old ≤ write_faults new
  pub cache_counted : cached old ≤ cached new
  pub nothing_read : taken new ≡ taken old

-- The call may do anything that a disk does. Whether the disk tells its image stays the same.
pub record GoesOn {D : Type 0} (image : D → Option (List ℕ)) (faults write_faults cached : D → ℕ) (old new : D) : Type 0 where
  pub told : is_some (image new) ≡ is_some (image old)
  pub counted : faults old ≤ faults new
  pub writes_counted : write_faults old ≤ write_faults new
  pub cache_counted : cached old ≤ cached new
