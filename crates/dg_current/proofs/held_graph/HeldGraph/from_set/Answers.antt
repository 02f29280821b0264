use Rattle.std.proofs.Common.{◌≡◌, List, length, sym, ap, subst, ◌∙◌}
use Rattle.dg_current.specs.declared.element_entry.ElementEntry.{ElementEntry}
use Rattle.dg_current.specs.declared.element_id.ElementId.{ElementId}
use Rattle.dg_current.specs.HeldGraph.{HeldGraphIsSound, elements_of}
use Rattle.dg_current.proofs.HeldGraph.{elements_at_start, start_sound}
use Rattle.dg_current.proofs.held_graph.HeldGraph.from_set.Goals as goal

pub invariant_of-result : goal.invariant_of-result
invariant_of-result c =
    let base = c.in_ok-base.base in
    subst (λ (entries : List (ElementId × ElementEntry)). HeldGraphIsSound base entries × (c.len-len.result ≡ length (elements_of base entries))) (sym c.with_hasher.ensures.empty)
    (start_sound base c.facts.ensures, c.len-len.ensures.len ∙ ap length (sym (elements_at_start base c.facts.ensures)))

pub returns-clause-ok : goal.returns-clause-ok
returns-clause-ok c = ap (elements_of c.in_ok-base.base) c.with_hasher.ensures.empty ∙ elements_at_start c.in_ok-base.base c.facts.ensures ∙ c.in_ok-base.ensures.ok
