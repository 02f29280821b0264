-- Which nodes a batch reads the sets of, and which batch reads nothing.
use Rattle.std.specs.Prelude.{ℕ, ◌+◌, Bool, true, false, List, length}
use Rattle.dg_history.specs.declared.node.NodeId.{NodeId}
use Rattle.dg_history.specs.History.{events_of}
use Rattle.dg_index.specs.Hierarchy.{leaves}
use Rattle.dg_index.specs.OlderNodes.{older}
use Rattle.dg_machine.specs.declared.reply.Refusal.TheVariants as refusal
use Rattle.dg_machine.specs.declared.reply.Reply.{Reply}
use Rattle.dg_machine.specs.declared.reply.Reply.TheVariants as replied
use Rattle.dg_machine.specs.MachineState.{MachineState, history_in}

-- the older children of the interior nodes that a batch of so many lines completes
abbrev pub older_for : MachineState → ℕ → List NodeId
older_for m count =
    let z = history_in m.index in
    older z.params.k (leaves z.params (length (events_of z))) (leaves z.params (length (events_of z) + count))

-- the batch is refused before anything is read
abbrev pub is_early : Reply → Bool
is_early (replied.Refused refusal.NoIndex) = true
is_early (replied.Refused refusal.AlreadyLoaded) = true
is_early (replied.Refused (refusal.ShortBatch read asked)) = true
is_early (replied.Refused (refusal.HistoryFull held asked)) = true
is_early (replied.Refused (refusal.BadChange number reason)) = true
is_early (replied.Refused refusal.OldFormat) = true
is_early r = false
