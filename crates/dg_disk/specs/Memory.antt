-- What a disk in memory holds, which of its calls fail, and what a call leaves.
use Rattle.std.specs.Prelude.{ℕ, ◌+◌, ◌≤◌, Bool, ◌||◌, ◌==◌, if◌then◌else◌, nat_lt, nat_le, List, [], ◌∷◌, ◌++◌, length, take}
use Rattle.std.specs.List.{list_any}
use Rattle.std.proofs.Common.{inl, refl, subst, sym}
use Rattle.std.proofs.Math.Nat.{le_refl}
use Rattle.std.proofs.lemmas.List.{take_all}
use Rattle.dg_disk.specs.Counts.{raised_by}
use Rattle.dg_disk.specs.Deeds.{Deed, Moment, settled, after_all, Leaves}

pub record DiskState : Type 0 where
  pub first : List ℕ  -- the bytes at the beginning, all of them on the device
  pub deeds : List Deed  -- the writes and syncs that succeeded, the first of them first
  pub room : ℕ  -- the end of the last byte that a write may reach
  pub calls : ℕ  -- the most calls that may succeed
  pub fails : List ℕ  -- the numbers, from 0, of further calls that fail
  pub made : ℕ  -- the calls so far
  pub faults : ℕ  -- the calls that failed
  pub write_faults : ℕ  -- the writes and syncs that failed
  pub unrecorded : ℕ  -- those of them that failed since there was no memory to record them
  pub taken : ℕ  -- the bytes read

-- the disk after so many of its deeds
abbrev pub moment_at : DiskState → ℕ → Moment
moment_at s k = after_all (take k s.deeds) (settled s.first)

-- the disk as it is
abbrev pub current : DiskState → Moment
current s = after_all s.deeds (settled s.first)

-- the bytes as they read
abbrev pub image_of : DiskState → List ℕ
image_of s = (current s).image

-- the moment, as a number: how many deeds were done
abbrev pub moment_of : DiskState → ℕ
moment_of s = length s.deeds

-- what a crash may leave
abbrev pub MayLeave : DiskState → List ℕ → Type 0
MayLeave s c = Leaves (current s) c

-- what a crash at some moment since t might have left
abbrev pub LeftSince : DiskState → ℕ → List ℕ → Type 0
LeftSince s t c = (k : ℕ) × (t ≤ k) × (k ≤ length s.deeds) × Leaves (moment_at s k) c

-- whether a call fails by its number: it comes after the last that may succeed, or is one of those that fail
abbrev pub is_due : ℕ → List ℕ → ℕ → Bool
is_due calls fails call = nat_le calls call || list_any (λ n. n == call) fails

-- whether the next call fails by its number
abbrev pub next_is_due : DiskState → Bool
next_is_due s = is_due s.calls s.fails s.made

-- whether a write of so many bytes at the offset fails: by its number, or since it reaches past the room
abbrev pub write_fails : DiskState → ℕ → ℕ → Bool
write_fails s offset len = next_is_due s || nat_lt s.room (offset + len)

-- one call more
abbrev pub called : DiskState → DiskState
called s = record s { made = raised_by 1 s.made }

-- one call more, which failed
abbrev pub call_failed : DiskState → DiskState
call_failed s = record s { made = raised_by 1 s.made; faults = raised_by 1 s.faults }

-- one call more, a write or a sync, which failed
abbrev pub write_failed : DiskState → DiskState
write_failed s = record s { made = raised_by 1 s.made; faults = raised_by 1 s.faults; write_faults = raised_by 1 s.write_faults }

-- one call more, a write or a sync, which failed for want of memory to record it
abbrev pub not_recorded : DiskState → DiskState
not_recorded s = record s { made = raised_by 1 s.made; faults = raised_by 1 s.faults; write_faults = raised_by 1 s.write_faults; unrecorded = raised_by 1 s.unrecorded }

-- one call more, a write or a sync, which failed: as it was due, or else for want of memory to record it
abbrev pub failed_where : Bool → DiskState → DiskState
failed_where due s = if due then write_failed s else not_recorded s

-- one call more, which read so many bytes
abbrev pub read_done : ℕ → DiskState → DiskState
read_done len s = record s { made = raised_by 1 s.made; taken = raised_by len s.taken }

-- one call more, which did this
abbrev pub done : Deed → DiskState → DiskState
done deed s = record s { made = raised_by 1 s.made; deeds = s.deeds ++ deed ∷ [] }

-- a crash may leave the image
pub image_is_left : (s : DiskState) → MayLeave s (image_of s)
image_is_left s = inl refl

-- the present moment is one of those since an earlier one
pub present_counts : (s : DiskState) (t : ℕ) (c : List ℕ) → t ≤ moment_of s → MayLeave s c → LeftSince s t c
present_counts s t c le left =
    (length s.deeds, le, le_refl (length s.deeds), subst (λ (l : List Deed). Leaves (after_all l (settled s.first)) c) (sym (take_all (length s.deeds) s.deeds (le_refl (length s.deeds)))) left)

-- since the present moment there is no other
pub present_alone : (s : DiskState) (c : List ℕ) → LeftSince s (moment_of s) c → MayLeave s c
present_alone s c left =
    subst (λ (l : List Deed). Leaves (after_all l (settled s.first)) c) (take_all left.0 s.deeds left.1) left.3
