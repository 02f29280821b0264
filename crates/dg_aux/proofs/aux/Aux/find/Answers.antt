use Rattle.std.proofs.Common.{◌≡◌, ◌∙◌, ◌++◌, List, ap, drop, filter, sym, take}
use Rattle.std.proofs.lemmas.List.{take_rest}
use Rattle.std.proofs.lemmas.Result.{IfOk-weaker}
use Rattle.dg_aux.specs.declared.turns.Turn.{Turn}
use Rattle.dg_aux.specs.Turns.{AuxState, is_told, says}
use Rattle.dg_aux.proofs.Sorted.{of}
use Rattle.dg_aux.proofs.Told.{found_all}
use Rattle.dg_aux.proofs.aux.Aux.find.Goals as goal

pub returns-clause-found : goal.returns-clause-found
returns-clause-found c =
    let ms = c.self.inside.turns.items in
    let n = c.self.inside.sorted in
    let v = c.args.value in
    let t = c.args.t in
    IfOk-weaker c.nodes_of.result _ _
    (λ ids found id.
    found id
    ∙ found_all v id t n ms c.of_value.result.now _ c.push_told.new.told.items c.push_told-2.new.told.items
    (c.of_value.ensures ∙ ap (λ (l : List Turn). filter (of v) (take n l)) c.deref.ensures.value)
    (take_rest c.deref-2.result.now n ∙ ap (drop n) c.deref-2.ensures.value)
    (c.in_ok-push_told.ensures ∙ ap (λ (l : List Turn). l ++ filter (is_told v t) c.of_value.result.now) c.new-told.ensures.items)
    c.in_ok-push_told-2.ensures
    ∙ ap (λ (a : AuxState). says a.turns v id t) c.self.view_is)
    c.nodes_of.ensures.found
