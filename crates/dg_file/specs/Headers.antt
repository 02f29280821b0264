-- The header of an index file, and what is known of an image once it and some segments are read.
use Rattle.std.specs.Prelude.{◌≡◌, ℕ, ◌-◌, ◌≤◌, Bool, true, false, List, [], ◌∷◌, ◌++◌, Some, codes, length, slice_index}
use Rattle.dg_graph.specs.Columns.{four, two}
use Rattle.dg_history.specs.declared.form.Form.{Form}
use Rattle.dg_history.specs.declared.form.Form.TheVariants as form
use Rattle.dg_history.specs.declared.params.Params.{Params}
use Rattle.dg_index.specs.FileOfHistory.{function_byte, share_of}
use Rattle.dg_index.specs.ImageOfHistory.{is_blank}
use Rattle.dg_index.specs.ImageText.{Header, header_in}
use Rattle.dg_index.specs.OpenedIndex.{Opening}
use Rattle.dg_index.specs.OpenedSoFar.{OpensOn}
use Rattle.dg_file.specs.declared.fault.ReopenFault.{ReopenFault}
use Rattle.dg_file.specs.declared.fault.ReopenFault.TheVariants as fault
use Rattle.dg_file.specs.declared.header.Header.{Header as FoundHeader}
use Rattle.dg_file.specs.declared.reads.Found.{Found}

-- the header of a new index behind its gate, with a closed gate behind it
abbrev pub header_rest_one : Params → List ℕ
header_rest_one params = codes "DGRAPH1" ++ (four params.l ++ (four params.k ++ function_byte params.function ∷ 0 ∷ []))

abbrev pub header_rest_two : Params → List ℕ
header_rest_two params =
    codes "DGRAPH2" ++ (four params.l ++ (two (share_of params.function) ++ (two params.k ++ function_byte params.function ∷ 0 ∷ [])))

abbrev pub header_rest : Form → Params → List ℕ
header_rest form.One params = header_rest_one params
header_rest (form.Upgraded b) params = header_rest_one params
header_rest form.Two params = header_rest_two params

-- the file goes on in the second form behind a marker
abbrev pub is_upgraded : Form → Bool
is_upgraded form.One = false
is_upgraded (form.Upgraded b) = true
is_upgraded form.Two = false

-- what a header of an image says, as the code has it
abbrev pub as_header : Header → FoundHeader
as_header h = record { form = h.form; params = h.params }

-- the image begins with this header, and has so many bytes
pub record IsFoundIn (image : List ℕ) (found : Found) : Type 0 where
  pub there : is_blank image ≡ false
  pub header : header_in image ≡ Some (record { form = found.form; params = found.params })
  pub len : found.len ≡ length image
  pub gate : found.gate ≡ slice_index image 17

-- the image is opened as what is read on behind this index and these names, and the gate behind it has this byte
pub record IsOpenedSoFar (image : List ℕ) (o : Opening) (names : List (List ℕ)) (gate : ℕ) : Type 0 where
  pub opens : OpensOn image (record { index = o; names = names })
  pub within : o.used ≤ length image
  pub byte : slice_index image (o.used - 1) ≡ gate

-- where the fault is a damaged segment, it is the one at this offset and the fact holds; else the disk failed,
-- or memory ran out
abbrev pub Misses : ℕ → Type 0 → ReopenFault → Type 0
Misses offset fact (fault.Damaged at) = (at ≡ offset) × fact
Misses offset fact fault.Disk = Unit {0}
Misses offset fact fault.Memory = Unit {0}
Misses offset fact fault.Blank = ⊥
Misses offset fact fault.Foreign = ⊥
