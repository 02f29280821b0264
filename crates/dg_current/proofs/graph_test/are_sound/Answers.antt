use Rattle.std.proofs.Common.{◌≡◌, ◌+◌, ◌≤◌, Some, None, is_some, length, slice_index_or, refl, subst, sym, ap, ◌∙◌, arith}
use Rattle.std.proofs.lemmas.Bool.{true≢false, false≢true}
use Rattle.std.proofs.lemmas.List.{take_all}
use Rattle.std.proofs.lemmas.List.Folds.{list_all_at}
use Rattle.std.specs.List.{list_all}
use Rattle.dg_graph.specs.Graph.{has_needs}
use Rattle.dg_current.specs.Sorted.{IsFirstFrom, holder_of, least}
use Rattle.dg_current.proofs.HeldGraph.{same_id_exact}
use Rattle.dg_current.proofs.SortedGraphs.{HoldersPast, NeighboursDiffer, all_more, holders_next, holders_still, ids_differ, index_meets, needs_ends, needs_held, neighbours_more, past}
use Rattle.dg_current.proofs.graph_test.are_sound.Goals as goal
use Rattle.dg_current.proofs.graph_test.are_sound.Goals.{else-index-gt0-via-then-index-gt0+else-have_one_id, else-index-gt0-via-else-index-gt0, in-Some, in-None}

pub returns : goal.returns
returns c =
    let xs = c.args.items.now in
    let all = c.loop-index.invariant in (
      λ e. (
        ids_differ xs c.requires.set (λ k d less. all.apart k d (omega (arith, c.loop-index-test.false))),
        ap (list_all (has_needs xs)) (sym (take_all c.loop-index.index xs c.loop-index-test.false)) ∙ all.fed,
      ),
      λ both. refl,
    )

pub returns-then-have_one_id : goal.returns-then-have_one_id
returns-then-have_one_id c = (
  λ e. absurd (false≢true e),
  λ both. absurd (index_meets c.args.items.now c.loop-index.index c.if-index-gt0.true c.loop-index-test.true c.requires.set
      (same_id_exact _ _ (sym c.have_one_id.ensures ∙ c.if-have_one_id.true)) both.0),
)

pub returns-then-not-is_fed : goal.returns-then-not-is_fed
returns-then-not-is_fed c =
    let xs = c.args.items.now in
    let i = c.loop-index.index in
    let x = slice_index_or xs i past in
    let is : has_needs xs x ≡ c.match-holder_of.is_fed =
    elim c.match-holder_of.branch [
      | in-Some w ↦ needs_held xs x w.in-Some.id (sym w.in-Some.ensures) ∙ ap is_some (sym w.found_at.ensures) ∙ sym w.is_some-is_fed.ensures ∙ sym w.is_fed-is
      | in-None w ↦ needs_ends xs x (sym c.holder_of.ensures ∙ w.in-None.is) ∙ sym w.has_ends-is_fed.ensures ∙ sym w.is_fed-is
    ] in (
      λ e. absurd (false≢true e),
      λ both. absurd (true≢false (sym both.1 ∙ list_all_at (has_needs xs) xs i past c.loop-index-test.true (is ∙ c.if-not-is_fed.true))),
    )

pub loop-index-preserved : goal.loop-index-preserved
loop-index-preserved c =
    let xs = c.args.items.now in
    let i = c.loop-index.index in
    let x = slice_index_or xs i past in
    let less = c.loop-index-test.true in
    let old = c.loop-index.invariant in
    let apart : NeighboursDiffer xs (i + 1) =
    elim c.else-index-gt0.branch [
      | else-index-gt0-via-then-index-gt0+else-have_one_id w ↦
          neighbours_more xs i w.if-index-gt0.true less old.apart (sym w.have_one_id.ensures ∙ w.if-have_one_id.false)
      | else-index-gt0-via-else-index-gt0 w ↦ λ k d up. let first = w.if-index-gt0.false in absurd (omega arith)
    ] in
    elim c.match-holder_of.branch [
      | in-Some w ↦
          let holder : holder_of x ≡ Some w.in-Some.id = sym w.in-Some.ensures in
          let first : IsFirstFrom (least w.in-Some.id) xs c.match-holder_of.at = subst (λ n. IsFirstFrom (least w.in-Some.id) xs n) (sym w.at-is) w.next_from-at.ensures in
          record {
            apart = apart;
            fed = all_more (has_needs xs) xs i past less old.fed
                (needs_held xs x w.in-Some.id holder ∙ ap is_some (sym w.found_at.ensures) ∙ sym w.is_some-is_fed.ensures ∙ sym w.is_fed-is ∙ c.if-not-is_fed.false);
            within = first.within;
            past = holders_next xs c.requires.set c.match-holder_of.at i w.in-Some.id less holder first.below;
          }
      | in-None w ↦
          let holder : holder_of x ≡ None = sym c.holder_of.ensures ∙ w.in-None.is in
          record {
            apart = apart;
            fed = all_more (has_needs xs) xs i past less old.fed (needs_ends xs x holder ∙ sym w.has_ends-is_fed.ensures ∙ sym w.is_fed-is ∙ c.if-not-is_fed.false);
            within = subst (λ n. n ≤ length xs) (sym w.at-is) old.within;
            past = subst (λ n. HoldersPast xs n (i + 1)) (sym w.at-is) (holders_still xs c.loop-index.at i old.past);
          }
    ]
