use Rattle.std.proofs.Common.{◌++◌, take, sym, ap, ◌∙◌, subst}
use Rattle.std.proofs.lemmas.Slice.{between_is}
use Rattle.dg_graph.specs.Elements.{IsSet}
use Rattle.dg_graph.specs.Sets.{unioned, without_all}
use Rattle.dg_graph.specs.Composition.{Delta}
use Rattle.dg_delta.proofs.stack.DeltaStack.compose.Goals as goal

pub replace_within-requires-clause-set : goal.replace_within-requires-clause-set
replace_within-requires-clause-set c =
    subst IsSet (sym (between_is c.args.self.now.minus.items c.args.first.minus c.args.then.minus)) c.requires.first.minus

pub replace_within-requires-2-clause-set : goal.replace_within-requires-2-clause-set
replace_within-requires-2-clause-set c =
    subst IsSet (sym (between_is c.args.self.now.plus.items c.args.first.plus c.args.then.plus)) c.requires.first.plus

pub returns : goal.returns
returns c =
    let minus = c.args.self.now.minus.items in
    let plus = c.args.self.now.plus.items in
    let first = c.args.first in
    let then = c.args.then in
    let later_minus = ap (λ (d : Delta). d.minus) c.in_ok-copy_top.ensures in
    let later_plus = ap (λ (d : Delta). d.plus) c.in_ok-copy_top.ensures in
    let lost_minus = c.deref.ensures.value ∙ later_plus in
    let gained_minus = c.deref-2.ensures.value ∙ later_minus in
    let lost_plus = c.deref-3.ensures.value ∙ later_minus in
    let gained_plus = c.deref-4.ensures.value ∙ later_plus in
    let new_minus = c.replace_within.ensures
    ∙ (λ i. take first.minus minus ++ unioned (without_all (between_is minus first.minus then.minus i) (lost_minus i)) (gained_minus i)) in
    let new_plus = c.replace_within-2.ensures
    ∙ (λ i. take first.plus plus ++ unioned (without_all (between_is plus first.plus then.plus i) (lost_plus i)) (gained_plus i)) in
    λ i. record { minus = new_minus i; plus = new_plus i }
