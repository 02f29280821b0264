-- How many bytes the replies of a run account for, of those that were read of the index file.
use Rattle.std.specs.Prelude.{◌≡◌, ℕ, ◌+◌, Bool, true, false, ◌&&◌, not, List, [], ◌∷◌, Option, Some, None, IfSome}
use Rattle.std.specs.List.{sum}
use Rattle.dg_file.specs.OpeningBytes.{blank_bytes}
use Rattle.dg_fold.specs.BytesRead.{TakesAtMost}
use Rattle.dg_text.specs.Lines.{ScriptLine}
use Rattle.dg_history.specs.declared.node.NodeId.TheVariants.{Root}
use Rattle.dg_history.specs.History.{History}
use Rattle.dg_index.specs.OpenedIndex.{opened_of}
use Rattle.dg_machine.specs.declared.command.Command.{Command}
use Rattle.dg_machine.specs.declared.command.Command.TheVariants as command
use Rattle.dg_machine.specs.declared.reply.Reply.{Reply}
use Rattle.dg_machine.specs.Answer.{Answered, IsPlannedBy, answer, is_refusal, weight_told}
use Rattle.dg_machine.specs.MachineState.{MachineState, history_in}
use Rattle.dg_machine.specs.Needs.{needs, refused}
use Rattle.dg_machine.specs.Planning.{Planned, record_edges_in}
use Rattle.dg_machine.specs.Run.{last_state}
use Rattle.dg_machine.specs.Script.{Entry, Asked, No_command, Long_line}
use Rattle.dg_plan.specs.HistoryGraph.{all_columns}
use Rattle.dg_plan.specs.IndexGraph.{arcs_of}
use Rattle.dg_plan.specs.Walks.{AreSingles}
use Rattle.dg_session.specs.BatchReads.{is_early, older_for}
use Rattle.dg_session.specs.HistoryBytes.{records_length}
use Rattle.dg_start.specs.SessionStart.{PlansLastLeaf, start_bytes}
use Rattle.dg_run.specs.Outside.{Outside}
use Rattle.dg_run.specs.Served.{Served}
use Rattle.dg_run.specs.declared.status.Status.{Status}
use Rattle.dg_run.specs.declared.status.Status.TheVariants as status

-- what a start reads of an image that stands for this index: all that is in use but the columns, the recent pieces and the
-- records along the plan of the last leaf; of one that stands for no index, the header that it may have
abbrev pub IsOpening : Option History → List ℕ → ℕ → Type 0
IsOpening None image n = n ≡ blank_bytes image
IsOpening (Some z) image n = (steps : List ℕ) × PlansLastLeaf (opened_of z).index steps × (n ≡ start_bytes (opened_of z).index steps)

-- what the single plans of the older children weigh together, of the interior nodes that a batch of so many lines completes
abbrev pub WeighsOlder : MachineState → ℕ → ℕ → Type 0
WeighsOlder m count n =
    (singles : List ℕ) × AreSingles (arcs_of (record_edges_in m all_columns)) (Root ∷ []) (older_for m count) singles × (n ≡ sum singles)

-- what a retrieval tells that it weighs; where it is refused, what its answer would tell
abbrev pub WeighsTold : Bool → MachineState → Command → List ScriptLine → Reply → ℕ → Type 0
WeighsTold false m c got reply n = n ≡ weight_told reply
WeighsTold true m c got reply n = (p : Planned) × IsPlannedBy (refused m c got) m c p × (n ≡ weight_told (answer m c got p).reply)

-- what a command weighs that reads: `verify` the columns of all records, each once
abbrev pub WeighsReading : MachineState → Command → List ScriptLine → Reply → ℕ → Type 0
WeighsReading m (command.Load count) got reply n = WeighsOlder m count n
WeighsReading m (command.Append count) got reply n = WeighsOlder m count n
WeighsReading m (command.Workload seed count) got reply n = WeighsOlder m count n
WeighsReading m command.Verify got reply n = n ≡ records_length (history_in m.index)
WeighsReading m c got reply n = WeighsTold (is_refusal reply) m c got reply n

abbrev pub WeighsWhere : Bool → MachineState → Command → List ScriptLine → Reply → ℕ → Type 0
WeighsWhere true m c got reply n = WeighsReading m c got reply n
WeighsWhere false m c got reply n = n ≡ 0

-- What the entry weighs that was answered in the state m with this reply: nothing where it reads no records, or is a batch
-- that is refused before any is read.
abbrev pub Weighs : MachineState → Entry → Reply → ℕ → Type 0
Weighs m (Asked c got) reply n = WeighsWhere ((needs c).reads && not (is_early reply)) m c got reply n
Weighs m (No_command line) reply n = n ≡ 0
Weighs m Long_line reply n = n ≡ 0

-- what the entries of a run from m weigh together
abbrev pub RunWeighs : MachineState → List Entry → List Answered → ℕ → Type 0
RunWeighs m [] [] n = n ≡ 0
RunWeighs m (e ∷ entries) (a ∷ answers) n = (k l : ℕ) × Weighs m e a.reply k × RunWeighs a.state entries answers l × (n ≡ k + l)
RunWeighs m [] (a ∷ answers) n = ⊥
RunWeighs m (e ∷ entries) [] n = ⊥

abbrev pub WeighsToWrite : Bool → MachineState → ℕ → ℕ → Type 0
WeighsToWrite true m count n = WeighsOlder m count n
WeighsToWrite false m count n = n ≡ 0

-- what a command weighs within which the disk failed, the first of the entries to come
abbrev pub CutWeighs : MachineState → Option (List Entry) → ℕ → Type 0
CutWeighs m (Some (Asked c got ∷ rest)) n = WeighsToWrite (needs c).reads m (needs c).changes n
CutWeighs m (Some (No_command line ∷ rest)) n = n ≡ 0
CutWeighs m (Some (Long_line ∷ rest)) n = n ≡ 0
CutWeighs m (Some []) n = n ≡ 0
CutWeighs m None n = ⊥

-- what was left when the run ended so
abbrev pub EndWeighs : Status → MachineState → Option (List Entry) → ℕ → Type 0
EndWeighs status.Done m more n = n ≡ 0
EndWeighs status.Words m more n = n ≡ 0
EndWeighs status.SourceFault m more n = n ≡ 0
EndWeighs status.SinkFault m more n = n ≡ 0
EndWeighs status.DiskFault m more n = CutWeighs m more n
EndWeighs status.NoMemory m more n = n ≡ 0
EndWeighs (status.Refused fault) m more n = n ≡ 0
EndWeighs status.ScriptLimit m more n = n ≡ 0

-- so many bytes are those of a start that is not checked, over an image that stands for the index
abbrev pub OpensBy : Bool → Option History → Option (List ℕ) → ℕ → Type 0
OpensBy checked index image n = (checked ≡ false) × IfSome image (λ bytes. IsOpening index bytes n)

-- No more bytes were read in a run than its opening has, for which so many is one, than its replies account for, and than a
-- command weighs within which the disk failed.
pub record ReadsNoMore {m : MachineState} {s : Status} {start now : Outside} {crashes : (List ℕ → List ℕ → Type 0) → Type 0} (IsOpening : ℕ → Type 0) (x : Served m s start now crashes) : Type 0 where
  pub reads : (opening n last : ℕ) → IsOpening opening → RunWeighs m x.entries x.answers n → EndWeighs s (last_state m x.answers) x.more last
      → TakesAtMost (opening + (n + last)) start.bytes_read now.bytes_read
