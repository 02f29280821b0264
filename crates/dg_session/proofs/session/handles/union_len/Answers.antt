use Rattle.std.proofs.Common.{length, sym, ap, ◌∙◌}
use Rattle.dg_graph.specs.Replay.{replay_from}
use Rattle.dg_session.proofs.PoolOverlays.{alone}
use Rattle.dg_session.proofs.session.handles.union_len.Goals as goal

pub returns-in-None : goal.returns-in-None
returns-in-None c =
    let held = c.args.held.now in
    c.len_past.ensures ∙ ap (λ events. length (replay_from held.live.history.now.graph events)) c.requires.live.sound.pending
    ∙ ap length (sym (alone held.handles held.live.pool c.in-None.is c.requires.handles.tied held.live.history.now.graph))
