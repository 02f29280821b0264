use Rattle.std.proofs.Common.{◌∙◌, ap, refl}
use Rattle.dg_append.proofs.Overlays.{overlay_stays, same_slots}
use Rattle.dg_append.specs.Overlays.{pool_in, pool_of}
use Rattle.dg_ask.proofs.KeptAdjacencies.{graphs_same}
use Rattle.dg_session.proofs.PoolOverlays.{held_over}
use Rattle.dg_session.proofs.SessionPoolStep.{clean_answers}
use Rattle.dg_session.proofs.session.Session.clean.Goals as goal
use Rattle.dg_session.specs.contracts.session.Session.{the_view}
use Rattle.dg_session.specs.Parts.{Parts}
use Rattle.dg_session.specs.SessionState.{SessionState}

pub returns-clause-comes : goal.returns-clause-comes
returns-clause-comes c image =
    let view : Parts = (the_view c.self.inside).parts in
    let s = c.self.inside in
    let same = graphs_same (pool_of s.held.live.pool) (pool_of c.sweep.new.pool) (same_slots (pool_in s.held.live.pool) (pool_in c.sweep.new.pool) c.sweep.ensures.graphs) s.held.handles.slots in
    clean_answers c.args.self.now.parts _ c.args.cells image c.headed.result
    ((λ i. let x : Parts = record view { graphs = same i } in x) ∙ ap (λ (x : SessionState). x.parts) c.self.view_is) c.headed.ensures

pub invariant_of-self : goal.invariant_of-self
invariant_of-self c =
    let s = c.self.inside in
    let old = pool_in s.held.live.pool in
    let new = pool_in c.sweep.new.pool in (
      c.self.invariant.0,
      held_over c.law_tie_is_kept.ensures s.held (record { history = s.held.live.history; pool = c.sweep.new.pool }) c.self.invariant.1 refl
          (record { sound = c.self.invariant.1.live.sound; pool = overlay_stays s.held.live.history.now.graph old new c.self.invariant.1.live.pool c.sweep.ensures.graphs })
          (same_slots old new c.sweep.ensures.graphs),
      c.self.invariant.2,
    )
