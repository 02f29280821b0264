-- The last events of targets.
use Rattle.std.proofs.Common.{◌≡◌, ◌<◌, ◌+◌, ℕ, true, cond, List, [], ◌∷◌, ◌++◌, length, get_or, drop, Some, Ok, Err, refl, sym, ap, ◌∙◌, arith}
use Rattle.std.proofs.lemmas.List.{drop_more}
use Rattle.dg_graph.specs.declared.event.Event.{Event}
use Rattle.dg_history.specs.declared.node.Key.TheVariants as key
use Rattle.dg_history.specs.Keys.{same_key}
use Rattle.dg_fold.specs.declared.fault.FoldFault.{FoldFault}
use Rattle.dg_fold.specs.declared.fault.FoldFault.TheVariants as fault
use Rattle.dg_fold.specs.declared.part.Part.{Part}
use Rattle.dg_fold.specs.Parts.{beside}
use Rattle.dg_fold.specs.Steps.{PartedStep, steps_in}
use Rattle.dg_fold.specs.declared.tree.Branch.{Branch}
use Rattle.dg_fold.specs.Ends.{list_part, last_in, lasts_in, FailsIn}
use Rattle.dg_fold.specs.TreeSteps.{FailsAt}
use Rattle.dg_fold.proofs.TreeStepPaths.{Due, beside_associates}

pub found : (list : ℕ) (parts : List Part) (i : ℕ) (p : Part) → i < length parts → p ≡ get_or parts i p → same_key p.key (key.List list) ≡ true → list_part list (drop i parts) ≡ Some p
found list parts i p h is yes_it_is =
    ap (list_part list) (drop_more parts i p h ∙ ap (λ q. q ∷ drop (i + 1) parts) (sym is))
    ∙ ap (λ b. cond b (Some p) (list_part list (drop (i + 1) parts))) yes_it_is

module _ (names : ℕ) (recent : List Event) (parts : List Part) where
  pub lasts_cut : (xs : List Branch) (ts : List ℕ) (ys : List Branch) (us : List ℕ) → length ts ≡ length xs
      → lasts_in names recent parts (xs ++ ys) (ts ++ us) ≡ beside (lasts_in names recent parts xs ts) (lasts_in names recent parts ys us)
  lasts_cut [] [] ys us n = none (lasts_in names recent parts ys us)
    where
      none : (a : Due) → a ≡ beside (Ok []) a
      none (Ok list) = refl
      none (Err f) = refl
  lasts_cut [] (t ∷ ts) ys us n = absurd (omega arith)
  lasts_cut (x ∷ xs) [] ys us n = absurd (omega arith)
  lasts_cut (x ∷ xs) (t ∷ ts) ys us n =
      ap (beside (last_in names recent parts x.to t)) (lasts_cut xs ts ys us (omega arith))
      ∙ sym (beside_associates (last_in names recent parts x.to t) (lasts_in names recent parts xs ts) (lasts_in names recent parts ys us))

pub first_fails : (names : ℕ) (recent : List Event) (all : List PartedStep) (f : FoldFault) (due : Due) → FailsAt f names recent all → FailsIn f (beside (steps_in names recent all) due)
first_fails names recent all (fault.Damaged k col) due h = ap (λ a. beside a due) h
first_fails names recent all fault.Memory due h = tt
