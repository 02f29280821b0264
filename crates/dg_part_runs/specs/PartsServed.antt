-- What is owed for a script over parts: the texts of a run of the machine of parts.
use Rattle.std.specs.Prelude.{◌≡◌, ℕ, List, [], ◌++◌, Option, Some, IfSome}
use Rattle.std.specs.List.{AllZip}
use Rattle.std.specs.Option.{option_map}
use Rattle.dg_graph.specs.declared.element.Columns.{Columns}
use Rattle.dg_graph.specs.declared.element.Element.{Element}
use Rattle.dg_history.specs.History.{History}
use Rattle.dg_index.specs.ImageOfHistory.{IsImageOf}
use Rattle.dg_line.specs.PartGrammar.{part_command_of}
use Rattle.dg_machine.specs.Script.{Entry, script_by}
use Rattle.dg_part_runs.specs.declared.status.PartsStatus.{PartsStatus}
use Rattle.dg_part_runs.specs.declared.status.PartsStatus.TheVariants as status
use Rattle.dg_part_runs.specs.Disks.{RoseBy}
use Rattle.dg_part_runs.specs.PartsMachine.{PartsAnswered, PartsRun, PartsState, failed_reads_in, names_of_parts, texts_by}
use Rattle.dg_part_runs.specs.PartsOutside.{PartsOutside}
use Rattle.dg_part_runs.specs.PartsStatuses.{status_of}
use Rattle.dg_turns.specs.declared.end.End.{End}
use Rattle.dg_turns.specs.Ends.{GainsFor, TakesFor}

-- the disk tells an image, and it is that of the history
abbrev pub TellsHistory : Option (List ℕ) → History → Type 0
TellsHistory told z = (image : List ℕ) × (told ≡ Some image) × IsImageOf z image

-- the images are those of these histories
abbrev pub AreImagesOf : List (Option (List ℕ)) → List History → Type 0
AreImagesOf told parts = AllZip TellsHistory told parts

-- What the sink gained is the texts of the replies of a run of the machine from m over the first entries of the script, with
-- `Done` over all of them, where the parts together show what `shows` says. As many calls of the disks failed as replies say
-- that a read did.
pub record PartsServed (shows : ℕ → Columns → List Element) (m : PartsState) (s : PartsStatus) (start now : PartsOutside) : Type 0 where
  pub ending : End
  pub ended : s ≡ status_of ending
  pub entries : List Entry
  pub answers : List PartsAnswered
  pub run : PartsRun shows m entries answers
  pub more : Option (List Entry)
  pub front : option_map (script_by part_command_of) start.left ≡ option_map (λ rest. entries ++ rest) more
  pub whole : s ≡ status.Done → IfSome more (λ rest. rest ≡ [])
  pub gained : GainsFor ending start.written (texts_by (names_of_parts m.parts) answers) now.written
  -- The entries were taken of the script, and where it was cut they are all that stand whole in what was taken.
  pub takes : TakesFor part_command_of ending entries start.left now.left
  pub failed : RoseBy (failed_reads_in answers) start.disk_faults now.disk_faults
