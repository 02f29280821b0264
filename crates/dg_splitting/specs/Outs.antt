-- The outs: the disks to which the parts are written, one for each part, by its number.
use Rattle.std.specs.Prelude.{◌≡◌, ℕ, ◌<◌, true, false, List, Option, Some, None, IfSome, slice_get}
use Rattle.dg_disk.specs.Calls.{Fails, IsOnDevice, SyncsDisk, UsesDisk}
use Rattle.dg_disk.specs.declared.disk.Disk.{Ghosts}
use Rattle.dg_index.specs.ImageOfHistory.{is_blank}

-- the fact holds of each out, by its number
abbrev pub EachOut : {D : Type 0} → (ℕ → D → Type 0) → List D → Type 0
EachOut {D = D} P outs = (number : ℕ) (out : D) → slice_get outs number ≡ Some out → P number out

-- the fact holds of each out as it was and as it is
abbrev pub EachPair : {D : Type 0} → (ℕ → D → D → Type 0) → List D → List D → Type 0
EachPair {D = D} P outs left =
    (number : ℕ) (old new : D) → slice_get outs number ≡ Some old → slice_get left number ≡ Some new → P number old new

-- the out has no index, where it tells its image
abbrev pub IsBlank : {D : Type 0} → Ghosts D → D → Type 0
IsBlank g out = IfSome (g.image out) (λ image. is_blank image ≡ true)

abbrev pub AreBlank : {D : Type 0} → Ghosts D → List D → Type 0
AreBlank g outs = EachOut (λ number out. IsBlank g out) outs

-- the outs were only asked
abbrev pub AreAsked : {D : Type 0} → Ghosts D → List D → List D → Type 0
AreAsked g outs left = EachPair (λ number old new. SyncsDisk g old new) outs left

abbrev pub AreUsed : {D : Type 0} → Ghosts D → List D → List D → Type 0
AreUsed g outs left = EachPair (λ number old new. UsesDisk g old new) outs left

-- what each out holds is on the device
abbrev pub AreOnDevice : {D : Type 0} → Ghosts D → List D → Type 0
AreOnDevice g outs = EachOut (λ number out. IsOnDevice g out) outs

-- a call of one of the outs failed
pub record OneFails {D : Type 0} (g : Ghosts D) (outs left : List D) : Type 0 where
  pub number : ℕ
  pub old : D
  pub new : D
  pub was : slice_get outs number ≡ Some old
  pub there : slice_get left number ≡ Some new
  pub failed : Fails g old new

-- one of the outs does not tell its image
pub record OneIsUntold {D : Type 0} (g : Ghosts D) (outs : List D) : Type 0 where
  pub number : ℕ
  pub out : D
  pub there : slice_get outs number ≡ Some out
  pub untold : g.image out ≡ None

-- The out of this number is the first that is not blank, where those before it tell their images.
pub record IsFirstTaken {D : Type 0} (g : Ghosts D) (outs : List D) (number : ℕ) : Type 0 where
  pub out : D
  pub there : slice_get outs number ≡ Some out
  pub taken : IfSome (g.image out) (λ image. is_blank image ≡ false)
  pub before : (earlier : ℕ) (blank : D) → earlier < number → slice_get outs earlier ≡ Some blank → IsBlank g blank
