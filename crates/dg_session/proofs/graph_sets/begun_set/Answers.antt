use Rattle.std.proofs.Common.{◌≡◌, sym, ◌∙◌, ap, List}
use Rattle.dg_batch.specs.Held.{graphs_held}
use Rattle.dg_graph.specs.declared.event.Event.{Event}
use Rattle.dg_graph.specs.Replay.{replay_from}
use Rattle.dg_handles.specs.Handles.{held_by}
use Rattle.dg_retrieval.specs.declared.graph_lead.Beginning.{Beginning}
use Rattle.dg_retrieval.specs.Beginnings.{begun_with}
use Rattle.dg_session.proofs.ChosenGraphs.{if_ok}
use Rattle.dg_session.proofs.graph_sets.begun_set.Goals as goal

pub returns-in-Now : goal.returns-in-Now
returns-in-Now c =
    let h = c.args.held.now in
    let now = h.live.history.now in
    let begun : Beginning → _ = begun_with now.graph (held_by h.handles.table (graphs_held h)) in
    if_ok c.set_past.result (λ set. set ≡ replay_from now.graph now.pending) (λ set. set ≡ begun c.args.begins)
    (λ set is. is ∙ ap (λ (es : List Event). replay_from now.graph es) c.requires.held.live.sound.pending ∙ sym (ap begun c.in-Now.is)) c.set_past.ensures
