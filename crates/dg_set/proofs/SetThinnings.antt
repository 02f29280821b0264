-- How a set loses the elements of another in its own cells, from the first of them on.
--     drop_further, moved_rest      items have been moved down, and those behind them stand where they were
--     step_thinned, step_skipped      a step of the walk for one element that is lost, and for all in front of an item
use Rattle.std.proofs.Common.{◌≡◌, ℕ, ◌+◌, ◌-◌, ◌<◌, ◌≤◌, List, [], ◌++◌, length, take, drop, get_or, length-append, refl, sym, ap, ◌∙◌, subst, arith}
use Rattle.std.specs.List.{copy_within}
use Rattle.std.proofs.lemmas.List.{drop_more, drop-drop, drop_at, length-take-le, length-drop}
use Rattle.dg_graph.specs.declared.element.Element.{Element}
use Rattle.dg_graph.specs.Elements.{IsSet}
use Rattle.dg_graph.specs.Sets.{without_all}
use Rattle.dg_set.specs.Indices.{before_it, behind_it}
use Rattle.dg_set.proofs.SetMerges.{rest_is_set}
use Rattle.dg_set.proofs.SetReplacements.{lost_next, passed_before}

-- ---- the cells

-- what is the same from an index on is so from a greater one on
pub drop_further : (xs ys : List Element) (less more : ℕ) → less ≤ more → drop less xs ≡ drop less ys → drop more xs ≡ drop more ys
drop_further xs ys less more le same =
    let is : less + (more - less) ≡ more = omega arith in
    ap (λ n. drop n xs) (sym is)
    ∙ sym (drop-drop (more - less) less xs)
    ∙ ap (drop (more - less)) same
    ∙ drop-drop (more - less) less ys
    ∙ ap (λ n. drop n ys) is

module _ (cells : List Element) (place start end : ℕ) (down : place ≤ start) (order : start ≤ end) (within : end ≤ length cells) where
  abbrev run : List Element
  run = take (end - start) (drop start cells)

  abbrev many : ℕ
  many = place + (end - start)

  abbrev moved : List Element
  moved = copy_within cells start end place

  long : length (take place cells ++ run) ≡ many
  long =
      length-append (take place cells) run
      ∙ (λ i. length-take-le place cells (omega arith) i + length-take-le (end - start) (drop start cells) (omega (arith, length-drop start cells)) i)

  pub moved_rest : drop end moved ≡ drop end cells
  moved_rest = drop_further moved cells many end (omega arith) (drop_at (take place cells ++ run) (drop many cells) many long)

-- ---- a step of the walk

pub step_thinned : (rest lost : List Element) (k : ℕ) (d : Element) → IsSet rest → IsSet lost → k < length lost
    → without_all rest (drop k lost) ≡ before_it (get_or lost k d) rest ++ without_all (behind_it (get_or lost k d) rest) (drop (k + 1) lost)
step_thinned rest lost k d s t k_in =
    ap (without_all rest) (drop_more lost k d k_in)
    ∙ lost_next (get_or lost k d) rest (drop (k + 1) lost) [] s (rest_is_set lost k d k_in t) tt tt

pub step_skipped : (cells lost : List Element) (next k m : ℕ) (d : Element) → IsSet (drop next cells) → next < length cells → take m (drop k lost) ≡ before_it (get_or cells next d) (drop k lost)
    → without_all (drop next cells) (drop k lost) ≡ without_all (drop next cells) (drop (k + m) lost)
step_skipped cells lost next k m d s next_in losses =
    let e = drop_more cells next d next_in in
    ap (λ a. without_all a (drop k lost)) e
    ∙ passed_before (get_or cells next d) (drop (next + 1) cells) (drop k lost) [] 0 m (subst IsSet e s) tt refl losses
    ∙ (λ t. without_all (sym e t) (drop-drop m k lost t))
