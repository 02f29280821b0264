use Rattle.std.proofs.Common.{subst, sym}
use Rattle.dg_ask.specs.KeptPlanner.{IsKeptFor}
use Rattle.dg_session.proofs.PoolOverlays.{held_over}
use Rattle.dg_session.proofs.session.Session.overlay.Goals as goal
use Rattle.dg_stored.specs.declared.stored_history.StoredHistory.{StoredHistory}
use Rattle.dg_stored.specs.StoredHistory.{index_opening}

pub invariant_of-self : goal.invariant_of-self
invariant_of-self c =
    let s = c.self.inside in
    let live = c.overlay.ensures in (
      c.self.invariant.0,
      held_over c.law_tie_is_kept.ensures s.held c.overlay.new.self c.self.invariant.1 live.history live.live live.slots,
      subst (λ (z : StoredHistory). IsKeptFor (index_opening z.index) s.held.handles.table s.planner) (sym live.history) c.self.invariant.2,
    )
