-- Which images of the index file stand for a history.
use Rattle.std.specs.Prelude.{◌≡◌, ◌≢◌, ℕ, ◌≤◌, Bool, true, ◌&&◌, ◌||◌, ◌==◌, not, List, Option, Some, None, length, nat_lt, take, slice_get, slice_index}
use Rattle.dg_history.specs.declared.limits.TheConstants.{FILE_BYTES_MAX}
use Rattle.dg_history.specs.History.{History}
use Rattle.dg_history.specs.LegalHistory.{IsLegal}
use Rattle.dg_index.specs.FileOfHistory.{file, size}

-- the image begins with the file of the history, and the gate behind it is closed
pub record IsImageOf (z : History) (image : List ℕ) : Type 0 where
  pub legal : IsLegal z
  pub fits : size z ≤ FILE_BYTES_MAX
  pub begins : take (length (file z)) image ≡ file z
  pub gate : ℕ
  pub there : slice_get image (length (file z)) ≡ Some gate
  pub closed : gate ≢ 1

-- the image is no index: it has fewer bytes than a header, or as many and its gate is closed
abbrev pub is_blank : List ℕ → Bool
is_blank image = nat_lt (length image) 18 || (length image == 18 && not (slice_index image 0 == 1))

-- the image stands for an index with this history, or for none
abbrev pub StandsAs : Option History → List ℕ → Type 0
StandsAs None image = is_blank image ≡ true
StandsAs (Some z) image = IsImageOf z image
