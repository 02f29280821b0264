-- What a crash may leave of a disk's bytes. It is a fact about lists of bytes: it holds of each list that
-- a crash at that moment may leave.
use Rattle.std.specs.Prelude.{◌≡◌, ◌⊎◌, ◌↔◌, ℕ, ◌+◌, ◌≤◌, List, length, take, drop, IfSome, Option}

-- The bytes after a write of len bytes at the offset that a crash cut short: bytes before the range and
-- behind it are as they were, those in it may be any, and nothing is cut. So the bytes end anywhere from
-- their old end to the later of this and the end of the range.
pub record Torn (offset len : ℕ) (old new : List ℕ) : Type 0 where
  pub before : take offset new ≡ take offset old
  pub behind : drop (offset + len) new ≡ drop (offset + len) old
  pub kept : length old ≤ length new

-- what a crash may leave now is what it might have left before, with that write torn
abbrev pub LeavesTorn : ℕ → ℕ → (List ℕ → Type 0) → (List ℕ → Type 0) → Type 0
LeavesTorn offset len old new = (c : List ℕ) → new c → (d : List ℕ) × old d × Torn offset len d c

-- a crash may leave the same as before
abbrev pub LeavesSame : (List ℕ → Type 0) → (List ℕ → Type 0) → Type 0
LeavesSame old new = (c : List ℕ) → old c ↔ new c

-- a crash may leave nothing that it might not have left before
abbrev pub LeavesNoMore : (List ℕ → Type 0) → (List ℕ → Type 0) → Type 0
LeavesNoMore old new = (c : List ℕ) → new c → old c

-- a crash leaves the image and nothing else, where the image is told
abbrev pub IsSettled : Option (List ℕ) → (List ℕ → Type 0) → Type 0
IsSettled image leaves = IfSome image (λ bytes. (c : List ℕ) → leaves c → c ≡ bytes)

-- Time goes on from one moment to another: a crash at some moment since t may have left what one up to the
-- first moment might have left, or what one may leave now, and nothing else.
pub record Passes (first last : ℕ) (old_since new_since : ℕ → List ℕ → Type 0) (leaves : List ℕ → Type 0) : Type 0 where
  pub later : first ≤ last
  pub either : (t : ℕ) (c : List ℕ) → t ≤ first → new_since t c → old_since t c ⊎ leaves c
  pub earlier : (t : ℕ) (c : List ℕ) → t ≤ first → old_since t c → new_since t c

-- A crash at any moment from one state of a disk to a later one leaves bytes that have P.
pub record LeavesOnly {D : Type 0} (moment : D → ℕ) (left_since : D → ℕ → List ℕ → Type 0) (old new : D) (P : List ℕ → Type 0) : Type 0 where
  pub later : moment old ≤ moment new
  pub within : (c : List ℕ) → left_since new (moment old) c → P c
  -- the same for whoever began to watch at an earlier moment
  pub since : (t : ℕ) (c : List ℕ) → t ≤ moment old → left_since new t c → left_since old t c ⊎ P c

-- Over a disk that tells its image, and of which a crash now leaves the image and nothing else, a crash at
-- any moment up to the later state leaves bytes that have P of the image.
abbrev pub CrashLeaves : {D : Type 0} → (D → Option (List ℕ)) → (D → List ℕ → Type 0) → (D → ℕ) → (D → ℕ → List ℕ → Type 0) → D → D → (List ℕ → List ℕ → Type 0) → Type 0
CrashLeaves image may_leave moment left_since old new P =
    IfSome (image old) (λ bytes. ((c : List ℕ) → may_leave old c → c ≡ bytes) → LeavesOnly moment left_since old new (P bytes))

-- the bytes before the offset are as they were, and nothing is cut
pub record Behind (offset : ℕ) (old new : List ℕ) : Type 0 where
  pub same : take offset new ≡ take offset old
  pub kept : length old ≤ length new

-- what a crash might have left before, with writes from the offset on torn
abbrev pub TornBehind : ℕ → (List ℕ → Type 0) → List ℕ → Type 0
TornBehind offset leaves c = (d : List ℕ) × leaves d × Behind offset d c
