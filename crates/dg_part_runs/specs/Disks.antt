-- What a call leaves of several disks, and of the counts that they keep.
use Rattle.std.specs.Prelude.{◌≡◌, ◌⊎◌, ℕ, ◌+◌, ◌≤◌, List, [], ◌∷◌, Option, map}
use Rattle.std.specs.List.{AllZip}
use Rattle.dg_disk.specs.Calls.{ReadsDisk, SyncsDisk}
use Rattle.dg_disk.specs.Counts.{Rose, raised_by}
use Rattle.dg_disk.specs.declared.disk.Disk.{Ghosts}

-- each of them is read and asked
abbrev pub ReadsAll : {D : Type 0} → Ghosts D → List D → List D → Type 0
ReadsAll d old new = AllZip (ReadsDisk d) old new

-- each of them is read, asked and synced
abbrev pub SyncsAll : {D : Type 0} → Ghosts D → List D → List D → Type 0
SyncsAll d old new = AllZip (SyncsDisk d) old new

-- the bytes of each, where it tells them
abbrev pub images_of : {D : Type 0} → Ghosts D → List D → List (Option (List ℕ))
images_of d disks = map d.image disks

-- how many calls of each have failed
abbrev pub faults_of : {D : Type 0} → Ghosts D → List D → List ℕ
faults_of d disks = map d.faults disks

-- one of the counts rose
abbrev pub SomeRose : List ℕ → List ℕ → Type 0
SomeRose (a ∷ old) (b ∷ new) = Rose a b ⊎ SomeRose old new
SomeRose old new = ⊥

-- the counts rose by so much together, or by more
abbrev pub RoseBy : ℕ → List ℕ → List ℕ → Type 0
RoseBy n (a ∷ old) (b ∷ new) = (here : ℕ) × (more : ℕ) × (n ≡ here + more) × (raised_by here a ≤ b) × RoseBy more old new
RoseBy n [] [] = n ≡ 0
RoseBy n old new = ⊥
