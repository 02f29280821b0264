use Rattle.std.proofs.Common.{◌+◌, ◌==◌, slice_index_or, ap, sym, ◌∙◌}
use Rattle.std.proofs.lemmas.List.{take_all}
use Rattle.std.proofs.lemmas.List.Sorted.{IsNonDecreasingBy-from_sort, sum_by-IsPermutation}
use Rattle.std.specs.List.{count_by}
use Rattle.dg_graph.specs.Elements.{bit}
use Rattle.dg_current.specs.Sorted.{has_end}
use Rattle.dg_current.proofs.SortedGraphs.{past}
use Rattle.dg_current.proofs.SortedSearches.{count_more}
use Rattle.dg_current.proofs.ends.sorted_ends.Goals as goal

pub returns : goal.returns
returns c =
    let items = c.args.items.now in
    record {
      rises = IsNonDecreasingBy-from_sort (λ n. n) _ c.sort_unstable.ensures.sorted;
      counts = λ id.
          sum_by-IsPermutation (λ n. bit (n == id)) _ _ c.sort_unstable.ensures.permutation ∙ c.loop-element.invariant id
          ∙ ap (count_by (has_end id)) (take_all c.loop-element.element-index items c.loop-element-test.false);
    }

pub loop-element-preserved : goal.loop-element-preserved
loop-element-preserved c = λ id.
    let items = c.args.items.now in
    let i = c.loop-element.element-index in
    c.in_ok-push_ends.ensures id ∙ ap (λ n. n + bit (has_end id (slice_index_or items i past))) (c.loop-element.invariant id)
    ∙ sym (count_more (has_end id) items i past c.loop-element-test.true)
