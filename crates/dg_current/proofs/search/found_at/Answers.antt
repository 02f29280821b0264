use Rattle.std.proofs.Common.{ap, sym, ◌∙◌, arith}
use Rattle.std.proofs.lemmas.Bool.{true≢false}
use Rattle.std.proofs.lemmas.List.{get_or_default}
use Rattle.dg_graph.specs.declared.element.Element.{Element}
use Rattle.dg_graph.specs.declared.element.Element.TheVariants as element
use Rattle.dg_current.specs.ElementIds.{element_id_of}
use Rattle.dg_current.proofs.HeldGraph.{equal_ids, unequal_ids, same_id_from}
use Rattle.dg_current.proofs.SortedSearches.{found_here, found_none}
use Rattle.dg_current.proofs.search.found_at.Goals as goal
use Rattle.dg_current.proofs.search.found_at.Goals.{else-index-items-via-then-index-items+else-eq, else-index-items-via-else-index-items}

-- what an index past the list reads as
abbrev past : Element
past = element.Node 0

pub returns-then-eq : goal.returns-then-eq
returns-then-eq c =
    sym (found_here c.args.items.now c.requires.set c.args.id c.args.index c.requires.first past c.if-index-items.true
    (sym c.of.ensures ∙ equal_ids c.of.result c.args.id c.eq.result c.eq.ensures c.if-eq.true))

pub returns-else-index-items : goal.returns-else-index-items
returns-else-index-items c =
    let xs = c.args.items.now in
    let i = c.args.index in
    sym (found_none xs c.requires.set c.args.id i c.requires.first
    (λ d less is.
    elim c.else-index-items.branch [
      | else-index-items-via-then-index-items+else-eq w ↦
          true≢false
          (sym (same_id_from w.of.result c.args.id (w.of.ensures ∙ ap element_id_of (get_or_default xs i past d less) ∙ is))
          ∙ unequal_ids w.of.result c.args.id w.eq.result w.eq.ensures w.if-eq.false)
      | else-index-items-via-else-index-items w ↦ let past_end = w.if-index-items.false in absurd (omega arith)
    ]))
