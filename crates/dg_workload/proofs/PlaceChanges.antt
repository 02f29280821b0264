-- One more change is generated.
use Rattle.std.proofs.Common.{◌≡◌, ℕ, suc, ◌≤◌, List, [], ◌∷◌, ◌++◌, Option, Some, length, map, take, sym, ap, ◌∙◌, arith, append_assoc}
use Rattle.std.proofs.lemmas.List.{map-append, length-take, take-take}
use Rattle.dg_graph.specs.declared.event.Change.{Change}
use Rattle.dg_changes.specs.Batch.{changes_after, names_after}
use Rattle.dg_changes.specs.ChangeGrammar.{change_with, named}
use Rattle.dg_changes.specs.GeneratedChanges.{generated_from}
use Rattle.dg_workload.specs.Position.{Position, change_at, next_position}

-- the change at this position is the first of those that are left
module _ (names new : List (List ℕ)) (left now : ℕ) (position behind : Position) (one : now ≡ suc left) (named_now : new ≡ named names (change_at position).asked)
    (goes_on : behind ≡ next_position position) where
  pub changes_go_on : (before after : List Change) (change : Change) (whole : List (Option Change)) → after ≡ before ++ change ∷ []
      → change ≡ change_with names (change_at position)
      → map Some before ++ changes_after names (generated_from now position.index position.number) ≡ whole
      → map Some after ++ changes_after new (generated_from left behind.index behind.number) ≡ whole
  changes_go_on before after change whole pushed is e =
      let rest : List (Option Change) = changes_after new (generated_from left behind.index behind.number) in
      ap (λ l. map Some l ++ rest) pushed ∙ ap (λ l. l ++ rest) (map-append Some before (change ∷ [])) ∙ append_assoc (map Some before) (Some change ∷ []) rest
      ∙ (λ j. map Some before ++ Some (is j) ∷ changes_after (named_now j) (generated_from left (goes_on j).index (goes_on j).number))
      ∙ ap (λ n. map Some before ++ changes_after names (generated_from n position.index position.number)) (sym one) ∙ e

  pub names_go_on : (whole : List (List ℕ)) → names_after names (generated_from now position.index position.number) ≡ whole
      → names_after new (generated_from left behind.index behind.number) ≡ whole
  names_go_on whole e =
      (λ j. names_after (named_now j) (generated_from left (goes_on j).index (goes_on j).number))
      ∙ ap (λ n. names_after names (generated_from n position.index position.number)) (sym one) ∙ e

-- what keeps the names keeps the first of them
pub first_kept : (first names new : List (List ℕ)) → take (length first) names ≡ first → take (length names) new ≡ names → take (length first) new ≡ first
first_kept first names new in_front kept =
    let few : length first ≤ length names = omega (arith, length-take (length first) names, ap length in_front) in
    sym (take-take (length first) (length names) new few) ∙ ap (take (length first)) kept ∙ in_front
