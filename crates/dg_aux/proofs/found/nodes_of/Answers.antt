use Rattle.std.proofs.Common.{◌≡◌, ◌∙◌, false, sym, ap, subst, nat_eq}
use Rattle.std.proofs.lemmas.Result.{IfOk-weaker}
use Rattle.std.specs.List.{list_any}
use Rattle.std.specs.List.Sorted.{IsNonDecreasingBy}
use Rattle.dg_aux.specs.declared.turns.Turn.{Turn}
use Rattle.dg_aux.specs.Turns.{IsRising, told_from}
use Rattle.dg_aux.proofs.Told.{rises, lasts_told, lasts_rise}
use Rattle.dg_aux.proofs.found.nodes_of.Goals as goal

pub returns-clause-rise : goal.returns-clause-rise
returns-clause-rise c =
    let ms = c.deref.result.now in
    let up = rises ms (subst (IsNonDecreasingBy (λ (m : Turn). m.id)) (sym c.deref.ensures.value) c.in_ok-sort_by_id.ensures.rises) in
    IfOk-weaker c.lasts.result _ _ (λ ids is. subst IsRising (sym is) (lasts_rise ms up)) c.lasts.ensures

pub returns-clause-found : goal.returns-clause-found
returns-clause-found c =
    let ms = c.deref.result.now in
    let up = rises ms (subst (IsNonDecreasingBy (λ (m : Turn). m.id)) (sym c.deref.ensures.value) c.in_ok-sort_by_id.ensures.rises) in
    IfOk-weaker c.lasts.result _ _
    (λ ids is i. ap (list_any (nat_eq i)) is ∙ lasts_told ms i up ∙ ap (λ l. told_from false l i) c.deref.ensures.value ∙ c.sort_by_id.ensures.stays i)
    c.lasts.ensures
