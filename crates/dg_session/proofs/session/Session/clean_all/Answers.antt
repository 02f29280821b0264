use Rattle.std.proofs.Common.{◌∙◌, ◌∷◌, ap, length, refl, subst}
use Rattle.dg_append.proofs.Overlays.{overlay_stays, same_slots}
use Rattle.dg_append.specs.Overlays.{overlaid, pool_in}
use Rattle.dg_ask.proofs.KeptAdjacencies.{graphs_same}
use Rattle.dg_machine.specs.declared.command.Command.TheVariants as command
use Rattle.dg_machine.specs.MachineState.{union_of_sets}
use Rattle.dg_session.proofs.PoolOverlays.{held_over, left_is}
use Rattle.dg_session.proofs.SessionPoolStep.{clean_all_answers, whole_sweep}
use Rattle.dg_session.proofs.session.Session.clean_all.Goals as goal
use Rattle.dg_session.specs.contracts.session.Session.{the_view}
use Rattle.dg_session.specs.Parts.{Parts}
use Rattle.dg_session.specs.SessionState.{SessionState}
use Rattle.dg_session.specs.Sweeps.{SweepsPool}

pub returns-clause-comes : goal.returns-clause-comes
returns-clause-comes c image =
    let view : Parts = (the_view c.self.inside).parts in
    let s = c.self.inside in
    let old = pool_in s.held.live.pool in
    let new = pool_in c.sweep_whole.new.pool in
    let slots = same_slots old new c.sweep_whole.ensures.graphs in
    let same = graphs_same (overlaid old) (overlaid new) slots s.held.handles.slots in
    let tied = c.law_tie_is_kept.ensures (overlaid old) (overlaid new) s.held.handles slots c.self.invariant.1.handles.tied in
    let size = left_is c.law_union_of_handles.ensures c.sweep_whole.new.pool view.graph s.held.handles c.cells_left-cells.result tied
    (overlay_stays view.graph old new c.self.invariant.1.live.pool c.sweep_whole.ensures.graphs) c.sweep_whole.ensures.whole c.cells_left-cells.ensures
    ∙ (λ i. length (union_of_sets (view.graph ∷ same i)))
    ∙ ap (λ (x : SessionState). length (union_of_sets (x.parts.graph ∷ x.parts.graphs))) c.self.view_is in
    clean_all_answers c.args.self.now.parts _ c.cells_left-cells.result image c.headed.result
    ((λ i. let x : Parts = record view { graphs = same i } in x) ∙ ap (λ (x : SessionState). x.parts) c.self.view_is) size c.headed.ensures

pub returns-clause-swept : goal.returns-clause-swept
returns-clause-swept c =
    let s = c.self.inside in
    let old = pool_in s.held.live.pool in
    let new = pool_in c.sweep_whole.new.pool in
    subst (λ (x : SessionState). SweepsPool command.CleanAll x.pool new c.headed.result) c.self.view_is
    (whole_sweep old new (length s.held.live.history.now.graph) c.cells_left-cells.result c.headed.result c.sweep_whole.ensures.graphs c.sweep_whole.ensures.whole c.cells_left-cells.ensures c.headed.ensures)

pub invariant_of-self : goal.invariant_of-self
invariant_of-self c =
    let s = c.self.inside in
    let old = pool_in s.held.live.pool in
    let new = pool_in c.sweep_whole.new.pool in (
      c.self.invariant.0,
      held_over c.law_tie_is_kept.ensures s.held (record { history = s.held.live.history; pool = c.sweep_whole.new.pool }) c.self.invariant.1 refl
          (record { sound = c.self.invariant.1.live.sound; pool = overlay_stays s.held.live.history.now.graph old new c.self.invariant.1.live.pool c.sweep_whole.ensures.graphs })
          (same_slots old new c.sweep_whole.ensures.graphs),
      c.self.invariant.2,
    )
