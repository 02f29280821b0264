use Rattle.std.proofs.Common.{◌≡◌, Some, sym, ap, subst, ◌∙◌}
use Rattle.std.specs.Option.{IfSome, option_map}
use Rattle.std.specs.Map.{lookup}
use Rattle.std.specs.Map.Iter.{deref_pair}
use Rattle.dg_current.specs.HeldSet.{only_first}
use Rattle.dg_current.specs.contracts.element_id.ElementIdPartialEq.TheImpl as of_ids
use Rattle.dg_current.proofs.HeldSet.{found_at_index}
use Rattle.dg_current.proofs.held_set.change_at.Goals as goal

pub returns-clause-lost : goal.returns-clause-lost
returns-clause-lost c = λ d.
    let entries = c.args.elements.now.entries in
    let pair = c.unwrap.result in
    let value = subst (λ r. IfSome r (λ p. lookup ((of_ids.ghosts).eq p.0.now) entries ≡ Some p.1.now)) c.unwrap.ensures c.get_index.ensures.value in
    let found = found_at_index c.args.base.now entries c.args.index d pair.0.now pair.1.now c.element_at-before.result c.element-now.result
    (sym c.get_index.ensures.entry ∙ ap (option_map deref_pair) c.unwrap.ensures) value c.element_at-before.ensures c.element-now.ensures in
    c.only_first.ensures ∙ (λ i. only_first (found.0 i) (found.1 i))

pub returns-clause-gained : goal.returns-clause-gained
returns-clause-gained c = λ d.
    let entries = c.args.elements.now.entries in
    let pair = c.unwrap.result in
    let value = subst (λ r. IfSome r (λ p. lookup ((of_ids.ghosts).eq p.0.now) entries ≡ Some p.1.now)) c.unwrap.ensures c.get_index.ensures.value in
    let found = found_at_index c.args.base.now entries c.args.index d pair.0.now pair.1.now c.element_at-before.result c.element-now.result
    (sym c.get_index.ensures.entry ∙ ap (option_map deref_pair) c.unwrap.ensures) value c.element_at-before.ensures c.element-now.ensures in
    c.only_first-2.ensures ∙ (λ i. only_first (found.1 i) (found.0 i))
