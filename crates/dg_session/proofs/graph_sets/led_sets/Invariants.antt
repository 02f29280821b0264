use Rattle.std.proofs.Common.{◌≡◌, ◌++◌}
use Rattle.dg_batch.specs.Held.{graphs_held}
use Rattle.dg_handles.specs.Handles.{held_by}
use Rattle.dg_session.proofs.GraphSets.{graphs_from}
use Rattle.dg_session.proofs.graph_sets.led_sets.Given as goal

abbrev pub invariant-loop-i : goal.invariant-loop-i
invariant-loop-i l =
    l.sets.items ++ graphs_from l.held.live.history.now.graph (held_by l.held.handles.table (graphs_held l.held)) l.cols l.leads.begins.items l.leads.writings.items l.i
    ≡ graphs_from l.held.live.history.now.graph (held_by l.held.handles.table (graphs_held l.held)) l.cols l.leads.begins.items l.leads.writings.items 0
