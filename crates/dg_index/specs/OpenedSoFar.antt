-- An image that is opened so far.
use Rattle.std.specs.Prelude.{◌≡◌, ℕ, ◌+◌, ◌<◌, ◌≤◌, List, length}
use Rattle.dg_index.specs.OpenedIndex.{Opened, opening, opened_or, read_on}

-- the image is opened as what is read on from here
pub record OpensOn (image : List ℕ) (x : Opened) : Type 0 where
  pub turns : ℕ
  pub enough : length image < turns + x.index.used
  pub begun : 18 ≤ x.index.used
  pub is : opening image ≡ opened_or (read_on turns image x)
