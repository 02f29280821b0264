-- How the lines that follow a command are read.
use Rattle.std.specs.Prelude.{◌≡◌, ℕ, ◌≤◌, List, [], ◌∷◌, ◌++◌, Option, Some, None, Result, Ok, Err, if◌then◌else◌, map, length, take, nat_lt}
use Rattle.dg_io.specs.declared.lines.Line.{Line}
use Rattle.dg_io.specs.declared.lines.Line.TheVariants as line
use Rattle.dg_io.specs.declared.lines.LineFault.{LineFault}
use Rattle.dg_io.specs.declared.lines.LineFault.TheVariants as fault
use Rattle.dg_graph.specs.declared.event.Change.{Change}
use Rattle.dg_changes.specs.Batch.{changes_after, names_after}
use Rattle.dg_changes.specs.ChangeGrammar.{ChangeByText, change_by_text_in, named, change_with}
use Rattle.dg_text.specs.Lines.{ScriptLine, Text, Long}
use Rattle.dg_text.specs.declared.limits.TheConstants.{NAMES_MAX}
use Rattle.dg_machine.specs.declared.reply.Refusal.{Refusal}
use Rattle.dg_machine.specs.declared.reply.Refusal.TheVariants as refusal
use Rattle.dg_append.specs.declared.batch.Batch.{Batch}
use Rattle.dg_append.specs.declared.front.Front.{Front}
use Rattle.dg_append.specs.declared.front.Front.TheVariants.{Whole, Form, Unkept}
use Rattle.dg_append.specs.Fronts.{IsFront}
use Rattle.dg_batch.specs.declared.halt.Halt.{Halt}
use Rattle.dg_batch.specs.declared.halt.Halt.TheVariants as halt
use Rattle.dg_batch.specs.declared.stop.Stop.{Stop}
use Rattle.dg_batch.specs.declared.stop.Stop.TheVariants as stop

-- why a step stops, by why a line is not given
abbrev pub stop_of : LineFault → Stop
stop_of fault.Read = stop.Read
stop_of fault.Limit = stop.Limit

-- the line with this text; the end of input has no change, as a line that is too long
abbrev pub line_read : Line → List ℕ → ScriptLine
line_read (line.Text n) text = Text text
line_read line.TooLong text = Long
line_read line.End text = Long

-- What a line says was kept behind the changes, and the names have its texts; or the line is no
-- change. Where it is not kept, nothing is said.
abbrev pub KeepsChange : Front → Option ChangeByText → List (List ℕ) → List (List ℕ) → List Change → List Change → Type 0
KeepsChange Whole due names new changes then_changes =
    (said : ChangeByText) × (due ≡ Some said) × (then_changes ≡ changes ++ change_with names said ∷ []) × (new ≡ named names said.asked)
KeepsChange Form due names new changes then_changes = (due ≡ None) × (then_changes ≡ changes)
KeepsChange Unkept due names new changes then_changes = Unit {0}

-- where every line is a change, the names have all their texts
abbrev pub NamesGrow : Front → List (List ℕ) → List (List ℕ) → List ScriptLine → Type 0
NamesGrow Whole names new got = new ≡ names_after names (map change_by_text_in got)
NamesGrow Form names new got = Unit {0}
NamesGrow Unkept names new got = Unit {0}

-- these lines were read: so many, their changes are kept so far, and the names have grown by them
pub record ReadsAs (got : List ScriptLine) (read : ℕ) (front : Front) (names new : List (List ℕ)) (changes : List Change) : Type 0 where
  pub read_is : length got ≡ read
  pub changes_are : IsFront front changes (changes_after names (map change_by_text_in got))
  pub names_are : NamesGrow front names new got

-- Why a command of `count` lines is refused of which so many were read, before they are completed: they are
-- too few, or no batch is added whatever its lines are.
abbrev pub first_refusal : ℕ → ℕ → Option Refusal → Option Refusal
first_refusal read count barred = if nat_lt read count then Some (refusal.ShortBatch read count) else barred

-- As many lines as were asked for were read, and nothing bars the batch. The names have grown by theirs.
pub record IsBatch (count : ℕ) (barred : Option Refusal) (AreTaken : List ScriptLine → Type 0) (names new : List (List ℕ)) (batch : Batch) : Type 0 where
  pub got : List ScriptLine
  pub taken : AreTaken got
  pub known : batch.known ≡ length names
  pub reads : ReadsAs got (length got) batch.front names new batch.changes.items
  pub free : first_refusal (length got) count barred ≡ None
  pub most : length got ≤ count
  pub within : length batch.changes.items ≤ length got
  pub kept : take (length names) new ≡ names
  pub few : batch.front ≡ Whole → length new ≤ NAMES_MAX

-- The lines that were read are refused so, and the names are as they were.
pub record IsBarred (count : ℕ) (barred : Option Refusal) (AreTaken : List ScriptLine → Type 0) (names new : List (List ℕ)) (r : Refusal) : Type 0 where
  pub got : List ScriptLine
  pub taken : AreTaken got
  pub refused : first_refusal (length got) count barred ≡ Some r
  pub same : new ≡ names

-- What the lines that follow the command come to: which lines are taken, or that the script is cut within them, is said by
-- the two words.
abbrev pub ReadsBatch : ℕ → Option Refusal → (List ScriptLine → Type 0) → Type 0 → List (List ℕ) → List (List ℕ) → Result Batch Halt → Type 0
ReadsBatch count barred AreTaken IsCut names new (Ok batch) = IsBatch count barred AreTaken names new batch
ReadsBatch count barred AreTaken IsCut names new (Err (halt.Refusal r)) = IsBarred count barred AreTaken names new r
ReadsBatch count barred AreTaken IsCut names new (Err (halt.Stop s)) = (new ≡ names) × IsCut

-- the refusal is for too few lines
abbrev pub IsShort : Refusal → Type 0
IsShort (refusal.ShortBatch read count) = Unit {0}
IsShort r = ⊥

-- it is refused so
abbrev pub IsShortBatch : {A : Type 0} → Result A Halt → Type 0
IsShortBatch (Ok x) = ⊥
IsShortBatch (Err (halt.Refusal r)) = IsShort r
IsShortBatch (Err (halt.Stop s)) = ⊥
