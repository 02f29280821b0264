-- Which images have just the bytes of the file of a history and the gate that closes it.
use Rattle.std.specs.Prelude.{◌≡◌, ◌+◌, ℕ, true, List, [], ◌∷◌, ◌++◌, Option, Some, None, Ok, IfSome, length}
use Rattle.dg_history.specs.History.{History}
use Rattle.dg_index.specs.FileOfHistory.{file}
use Rattle.dg_index.specs.ImageOfHistory.{is_blank}
use Rattle.dg_index.specs.OpenedIndex.{Opened, opening}

-- the image is so many bytes, and the last of them is a gate that is closed by 0
pub record EndsAtGate (used : ℕ) (image : List ℕ) : Type 0 where
  pub front : List ℕ
  pub is : image ≡ front ++ 0 ∷ []
  pub long : length front + 1 ≡ used

-- Where the image is opened as an index, it is just the bytes in use: the gate that closes them is 0, and no byte stands
-- behind it.
abbrev pub IsTidy : List ℕ → Type 0
IsTidy image = (x : Opened) → opening image ≡ Ok x → EndsAtGate x.index.used image

-- where the image is tidy before, it is so behind
abbrev pub StaysTidy : Option (List ℕ) → Option (List ℕ) → Type 0
StaysTidy before after = IfSome before IsTidy → IfSome after IsTidy

-- the image is the file of the history and a closed gate, and nothing else; or there is no index
abbrev pub IsJustFile : Option History → List ℕ → Type 0
IsJustFile None image = is_blank image ≡ true
IsJustFile (Some z) image = image ≡ file z ++ 0 ∷ []
