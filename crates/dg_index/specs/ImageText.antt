-- Numbers, the header, names and gates as they stand in an image of the index file.
use Rattle.std.specs.Prelude.{ℕ, zero, suc, ◌+◌, Bool, ◌&&◌, ◌==◌, List, [], ◌∷◌, Option, Some, None, if◌then◌else◌, codes, length, take, drop, nat_le, nat_lt, option_and_then, slice_index}
use Rattle.std.specs.Int.{from_be_bytes, w16, w32, w64}
use Rattle.std.specs.Option.{option_map}
use Rattle.std.specs.Str.{bytes_eq}
use Rattle.dg_graph.specs.declared.function.Function.{Function}
use Rattle.dg_graph.specs.declared.function.Function.TheVariants.{Intersection, Union, Balanced, Skewed}
use Rattle.dg_history.specs.declared.limits.TheConstants.{FILE_BYTES_MAX}
use Rattle.dg_graph.specs.declared.limits.TheConstants.{SKEW_MAX}
use Rattle.dg_history.specs.declared.form.Form.{Form}
use Rattle.dg_history.specs.declared.form.Form.TheVariants as form
use Rattle.dg_history.specs.declared.params.Params.{Params}
use Rattle.dg_history.specs.History.{are_parameters}

-- the number of four or of eight bytes at the offset
abbrev pub four_at : List ℕ → ℕ → ℕ
four_at image at = from_be_bytes w32 (take 4 (drop at image))

abbrev pub eight_at : List ℕ → ℕ → ℕ
eight_at image at = from_be_bytes w64 (take 8 (drop at image))

abbrev pub function_in : ℕ → Option Function
function_in byte =
    if byte == 1 then Some Intersection else (if byte == 2 then Some Union else (if byte == 3 then Some Balanced else None))

-- the function of a header of the second form, with its share
abbrev pub shared_function_in : ℕ → ℕ → Option Function
shared_function_in byte share =
    if byte == 4 then (if nat_le share SKEW_MAX then Some (Skewed share) else None)
    else (if share == 0 then function_in byte else None)

abbrev pub params_with : ℕ → ℕ → Option Function → Option Params
params_with l k None = None
params_with l k (Some f) = if are_parameters l k then Some (record { l = l; k = k; function = f }) else None

abbrev pub two_at : List ℕ → ℕ → ℕ
two_at image at = from_be_bytes w16 (take 2 (drop at image))

-- what a header says: the form that the file begins with, and the parameters
pub record Header : Type 0 where
  pub form : Form
  pub params : Params

abbrev pub header_with : Form → Option Params → Option Header
header_with form o = option_map (λ (params : Params). record { form = form; params = params }) o

-- the header, where the image begins with one whose gate is open
abbrev pub header_in : List ℕ → Option Header
header_in image =
    if bytes_eq (take 8 image) (1 ∷ codes "DGRAPH1")
    then header_with form.One (params_with (four_at image 8) (four_at image 12) (function_in (slice_index image 16)))
    else (if bytes_eq (take 8 image) (1 ∷ codes "DGRAPH2")
    then header_with form.Two (params_with (four_at image 8) (two_at image 14) (shared_function_in (slice_index image 16) (two_at image 12)))
    else None)

-- the text at the offset, behind its length, and the offset behind it, where it is within the bytes
abbrev pub name_at : List ℕ → ℕ → Option (List ℕ × ℕ)
name_at bytes at =
    if nat_lt (length bytes) (at + 2) then None
    else (if nat_lt (length bytes) (at + 2 + two_at bytes at) then None
    else Some (take (two_at bytes at) (drop (at + 2) bytes), at + 2 + two_at bytes at))

-- so many texts from the offset on, and the offset behind them
abbrev pub names_at : ℕ → List ℕ → ℕ → Option (List (List ℕ) × ℕ)
names_at zero bytes at = Some ([], at)
names_at (suc k) bytes at =
    option_and_then (λ (n : List ℕ × ℕ). option_map (λ (more : List (List ℕ) × ℕ). (n.0 ∷ more.0, more.1)) (names_at k bytes n.1))
    (name_at bytes at)

-- The offset of the gate behind the segment at the offset, which begins with the lengths of its directory
-- and of its columns, eight bytes each.
abbrev pub gate_behind : List ℕ → ℕ → ℕ
gate_behind image at = at + 16 + eight_at image at + eight_at image (at + 8)

-- the segment and the gate behind it are within the image, and within the bytes of a file
abbrev pub is_within : List ℕ → ℕ → Bool
is_within image at =
    nat_le (at + 16) (length image)
    && (nat_le (gate_behind image at + 1) (length image) && nat_le (gate_behind image at + 1) FILE_BYTES_MAX)

-- a marker stands at the offset: a directory of one number, no event, and no columns
abbrev pub is_marker : List ℕ → ℕ → Bool
is_marker image at = eight_at image at == 8 && (eight_at image (at + 8) == 0 && eight_at image (at + 16) == 0)
