-- The chosen elements are in the graphs.
use Rattle.std.proofs.Common.{◌≡◌, ℕ, ◌⊎◌, inl, inr, Bool, true, false, ◌&&◌, List, [], ◌∷◌, map, filter, refl, sym, ap, ◌∙◌}
use Rattle.std.specs.List.{AllByRecursion}
use Rattle.std.proofs.lemmas.Bool.{and_parts, false≢true, or_cases}
use Rattle.dg_graph.specs.declared.element.Columns.{Columns}
use Rattle.dg_graph.specs.declared.element.Element.{Element}
use Rattle.dg_graph.specs.Elements.{IsSet, asks, column_of, has, shown}
use Rattle.dg_graph.proofs.Sets.{IsSet-filter, has-filter, has-unioned, same_members}
use Rattle.dg_expr.specs.declared.expression.Word.{Word}
use Rattle.dg_expr.specs.Chosen.{all_of, chosen, holds}
use Rattle.dg_expr.specs.Expressions.{instants_of}
use Rattle.dg_expr.specs.ExpressionLaws.{ChosenAreShown}
use Rattle.dg_expr.proofs.Walks.{IsSet-all_of}

absorb : (a b : Bool) → (b ≡ true → a ≡ true) → (a && b) ≡ b
absorb a true f = ap (λ (q : Bool). q && true) (f refl)
absorb true false f = refl
absorb false false f = refl

module _ (graph : ℕ → List Element) (cols : Columns) (sets : (t : ℕ) → IsSet (graph t)) (same : (t : ℕ) → shown (graph t) cols ≡ graph t) where
  in_all : (x : Element) (ts : List ℕ) → has (all_of (map graph ts)) x ≡ true → asks cols (column_of x) ≡ true
  in_all x [] h = absurd (false≢true h)
  in_all x (t ∷ ts) h = elim (or_cases (has (graph t) x) (has (all_of (map graph ts)) x) (sym (has-unioned (graph t) (all_of (map graph ts)) x) ∙ h)) [
    | inl here ↦
        (and_parts (asks cols (column_of x)) (has (graph t) x)
        (sym (has-filter (λ y. asks cols (column_of y)) (graph t) x) ∙ ap (λ (l : List Element). has l x) (same t) ∙ here)).0
    | inr later ↦ in_all x ts later
  ]

  each_set : (ts : List ℕ) → AllByRecursion IsSet (map graph ts)
  each_set [] = tt
  each_set (t ∷ ts) = (sets t, each_set ts)

  shown_chosen : (ws : List Word) → shown (chosen ws graph) cols ≡ chosen ws graph
  shown_chosen ws =
      let all = all_of (map graph (instants_of ws)) in
      let is_set : IsSet (chosen ws graph) = IsSet-filter (λ x. holds ws x graph) all (IsSet-all_of (map graph (instants_of ws)) (each_set (instants_of ws))) in
      same_members (shown (chosen ws graph) cols) (chosen ws graph) (IsSet-filter (λ y. asks cols (column_of y)) (chosen ws graph) is_set) is_set
      (λ x. has-filter (λ y. asks cols (column_of y)) (chosen ws graph) x
      ∙ absorb (asks cols (column_of x)) (has (chosen ws graph) x) (λ h.
      in_all x (instants_of ws) (and_parts (holds ws x graph) (has all x) (sym (has-filter (λ y. holds ws y graph) all x) ∙ h)).1))

pub chosen_are_shown : ChosenAreShown
chosen_are_shown = λ ws graph cols sets same. shown_chosen graph cols sets same ws
