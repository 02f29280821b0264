-- What adds a batch: a command with the lines that follow it, or one with a seed.
use Rattle.std.proofs.Common.{◌≡◌, ℕ, ◌≤◌, true, List, Option, Result, map, refl}
use Rattle.std.specs.Prelude.{◌&&◌}
use Rattle.dg_graph.specs.declared.element.Element.{Element}
use Rattle.dg_text.specs.Lines.{ScriptLine}
use Rattle.dg_changes.specs.ChangeGrammar.{ChangeByText, change_by_text_in}
use Rattle.dg_history.specs.History.{Batch, History}
use Rattle.dg_history.specs.declared.limits.TheConstants.{BATCH_LINES_MAX}
use Rattle.dg_machine.specs.declared.command.Command.{Command}
use Rattle.dg_machine.specs.declared.command.Command.TheVariants as command
use Rattle.dg_machine.specs.declared.reply.Head.{Head}
use Rattle.dg_machine.specs.declared.reply.Head.TheVariants as head
use Rattle.dg_machine.specs.Answer.{Answered, accepted, graph_with, with_new}
use Rattle.dg_changes.specs.GeneratedChanges.{batch_of_changes, generated}
use Rattle.dg_machine.specs.MachineState.{MachineState, history_in}
use Rattle.dg_machine.specs.Needs.{is_writing, needs}
use Rattle.dg_machine.specs.Planning.{IsPlanned, no_plan}
use Rattle.dg_query.specs.Queries.{counts_of}
use Rattle.dg_batch.proofs.ChangeGrammarRanges.{lines_fit}
use Rattle.dg_batch.proofs.GeneratedChangeRanges.{generated_fit}
use Rattle.dg_batch.proofs.LegalHistory.{AskedFit}
use Rattle.dg_session.specs.BatchCommand.{command_with, batch_head}
use Rattle.dg_session.specs.Decided.{IsHeadOf}
use Rattle.dg_session.specs.declared.batch_command.BatchCommand.{BatchCommand}
use Rattle.dg_session.specs.declared.batch_command.BatchCommand.TheVariants.{Load, Append}

-- from where the changes of a batch come
pub data Origin : Type 0 where
  Lines_of : BatchCommand → Origin
  Seed : ℕ → Origin

-- the command that adds so many of them
abbrev pub adding : Origin → ℕ → Command
adding (Lines_of which) count = command_with which count
adding (Seed seed) count = command.Workload seed count

-- what they ask for, where these lines follow the command
abbrev pub asked_from : Origin → ℕ → List ScriptLine → List (Option ChangeByText)
asked_from (Lines_of which) count got = map change_by_text_in got
asked_from (Seed seed) count got = generated seed count

-- the first line of the answer, where this is the graph of the history with the batch
abbrev pub head_over : Origin → List Element → ℕ → ℕ → ℕ → Head
head_over (Lines_of which) graph events total last = batch_head which events total last
head_over (Seed seed) graph events total last = head.Generated events last (counts_of graph).nodes (counts_of graph).edges

-- the answer, by what they come to behind the history
abbrev pub with_made : MachineState → History → Origin → Result Batch (ℕ × ℕ) → Answered
with_made m z from made = with_new m z (head_over from (graph_with z made)) made

pub accepted_made : (from : Origin) (m : MachineState) (count : ℕ) (got : List ScriptLine)
    → accepted m (adding from count) got no_plan ≡ with_made m (history_in m.index) from (batch_of_changes (history_in m.index) (asked_from from count got))
accepted_made (Lines_of Load) m count got = refl
accepted_made (Lines_of Append) m count got = refl
accepted_made (Seed seed) m count got = refl

-- a batch has no plan
pub unplanned : (from : Origin) (m : MachineState) (count : ℕ) → IsPlanned m (adding from count) no_plan
unplanned (Lines_of Load) m count = refl
unplanned (Lines_of Append) m count = refl
unplanned (Seed seed) m count = refl

pub adds : (from : Origin) (count : ℕ) → ((needs (adding from count)).reads && (needs (adding from count)).writes) ≡ true
adds (Lines_of Load) count = refl
adds (Lines_of Append) count = refl
adds (Seed seed) count = refl

-- the file grows by it
pub grows : (from : Origin) (count : ℕ) → ((needs (adding from count)).index && (needs (adding from count)).writes) ≡ true
grows (Lines_of Load) count = refl
grows (Lines_of Append) count = refl
grows (Seed seed) count = refl

pub writes : (from : Origin) (count : ℕ) → is_writing (adding from count) ≡ true
writes (Lines_of Load) count = refl
writes (Lines_of Append) count = refl
writes (Seed seed) count = refl

pub lacks : (from : Origin) (count : ℕ) → (needs (adding from count)).memory ≡ true
lacks (Lines_of Load) count = refl
lacks (Lines_of Append) count = refl
lacks (Seed seed) count = refl

pub reads_records : (from : Origin) (count : ℕ) → (needs (adding from count)).reads ≡ true
reads_records (Lines_of Load) count = refl
reads_records (Lines_of Append) count = refl
reads_records (Seed seed) count = refl

pub fits_head : (from : Origin) (count : ℕ) (graph : List Element) (events total last : ℕ) → IsHeadOf (adding from count) (head_over from graph events total last)
fits_head (Lines_of Load) count graph events total last = tt
fits_head (Lines_of Append) count graph events total last = tt
fits_head (Seed seed) count graph events total last = tt

-- what they ask for fits its ranges
pub asked_fit : (from : Origin) (count : ℕ) (got : List ScriptLine) → count ≤ BATCH_LINES_MAX → AskedFit (asked_from from count got)
asked_fit (Lines_of which) count got few = lines_fit got
asked_fit (Seed seed) count got few = generated_fit seed count few
