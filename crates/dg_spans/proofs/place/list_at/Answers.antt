use Rattle.std.proofs.Common.{◌≡◌, ℕ, true, ap, ◌∙◌, is_some, subst, sym, arith}
use Rattle.std.specs.Map.{lookup}
use Rattle.dg_history.specs.declared.node.Key.TheVariants as key
use Rattle.dg_history.specs.declared.params.Params.{Params}
use Rattle.dg_history.specs.Keys.{same_key}
use Rattle.dg_history.proofs.ParameterRanges.{in_range}
use Rattle.dg_index.specs.Hierarchy.{leaves}
use Rattle.dg_spans.proofs.Places.{list_held}
use Rattle.dg_spans.proofs.place.list_at.Goals as goal

pub returns-clause-readable : goal.returns-clause-readable
returns-clause-readable c =
    let o = c.args.index.now.opening in
    let range = in_range o.params.l o.params.k c.facts.ensures.parameters in
    record {
      held =
          subst (λ (n : ℕ). is_some (lookup (same_key (key.List n)) o.records) ≡ true)
          (sym (c.leaves-number.ensures.leaves ∙ ap (λ (p : Params). leaves p c.args.at) c.params-2.ensures))
          (list_held o c.args.at range.list_some range.arity_two c.facts.ensures.kept c.requires.closed);
      few = omega (arith, c.from-size.ensures, ap (λ (p : Params). p.l) c.params.ensures, range.list_most);
    }
