-- What is written for each target of a tree leads to it: what the steps of its path do, and then its last events.
use Rattle.std.proofs.Common.{◌≡◌, ◌<◌, ◌≤◌, ◌+◌, ◌≢◌, cond, ℕ, suc, List, [], ◌∷◌, ◌++◌, length, get_or, map, take, drop, Ok, Err, refl, sym, ap, subst, ◌∙◌, arith, length-take}
use Rattle.std.proofs.lemmas.List.{drop_more, take_more, take_all, take-append-drop}
use Rattle.dg_graph.specs.declared.event.Event.{Event}
use Rattle.dg_graph.specs.Composition.{Delta}
use Rattle.dg_history.specs.declared.node.NodeId.TheVariants.{Root}
use Rattle.dg_fold.specs.declared.tree_step.Stepped.{Stepped}
use Rattle.dg_fold.specs.declared.fault.FoldFault.{FoldFault}
use Rattle.dg_fold.specs.declared.fault.FoldFault.TheVariants as fault
use Rattle.dg_fold.specs.declared.part.Part.{Part}
use Rattle.dg_fold.specs.declared.tree.Branch.{Branch}
use Rattle.dg_fold.specs.declared.writing.Writing.{Writing}
use Rattle.dg_fold.specs.Ends.{last_in, lasts_in, Lead, LeadsUntil, AreLedUntil, FailsIn}
use Rattle.dg_fold.specs.Parts.{beside, Folds}
use Rattle.dg_fold.specs.PathIndependence.{begun_at}
use Rattle.dg_fold.specs.Steps.{PartedStep, steps_in}
use Rattle.dg_fold.specs.TreeSteps.{AreStepped, step_edges, step_deltas}
use Rattle.dg_fold.specs.Writings.{composed_all, written_for, AreWrittenFrom}
use Rattle.dg_fold.specs.WritingSteps.{AreLasts, IsForOnly, IsWritten}
use Rattle.dg_fold.proofs.EndTargets.{lasts_cut}
use Rattle.dg_fold.proofs.PartCompositions.{folds_both}
use Rattle.dg_fold.proofs.TreeStepPaths.{path_leads}
use Rattle.dg_fold.proofs.WritingCompositions.{composes_all, composes_last}

-- ---- what is written for a target

for_another : (n m : ℕ) (w : Writing) (writings : List Writing) → IsForOnly m w → n ≢ m → written_for n (w ∷ writings) ≡ written_for n writings
for_another n m w writings only apart = ap (λ b. cond b (w.delta ∷ written_for n writings) (written_for n writings)) (only.1 n apart)

for_this : (n : ℕ) (w : Writing) (writings : List Writing) → IsForOnly n w → written_for n (w ∷ writings) ≡ w.delta ∷ written_for n writings
for_this n w writings only = ap (λ b. cond b (w.delta ∷ written_for n writings) (written_for n writings)) only.0

module _ (names : ℕ) (recent : List Event) (parts : List Part) where
  -- none of the last events are those of an earlier target
  none_before : (k n : ℕ) (branches : List Branch) (times : List ℕ) (lasts : List Writing) → AreLasts names recent parts k branches times lasts → n < k → written_for n lasts ≡ []
  none_before k n [] times [] h less = refl
  none_before k n [] times (w ∷ lasts) h less = absurd h
  none_before k n (b ∷ branches) [] lasts h less = absurd h
  none_before k n (b ∷ branches) (t ∷ times) [] h less = absurd h
  none_before k n (b ∷ branches) (t ∷ times) (w ∷ lasts) h less =
      for_another n k w lasts h.0 (λ e. absurd (omega arith)) ∙ none_before (suc k) n branches times lasts h.2 (omega arith)

  lasts_more : (k m : ℕ) (branches : List Branch) (times : List ℕ) (lasts : List Writing) (b : Branch) (t : ℕ) (w : Writing) → length times ≡ length branches → m ≡ k + length branches
      → AreLasts names recent parts k branches times lasts → IsForOnly m w → Folds (Ok w.delta) (last_in names recent parts b.to t)
      → AreLasts names recent parts k (branches ++ b ∷ []) (times ++ t ∷ []) (lasts ++ w ∷ [])
  lasts_more k m [] [] [] b t w same at h for folds = (subst (λ n. IsForOnly n w) (omega arith) for, folds, tt)
  lasts_more k m [] [] (v ∷ lasts) b t w same at h for folds = absurd h
  lasts_more k m [] (u ∷ times) lasts b t w same at h for folds = absurd (omega arith)
  lasts_more k m (c ∷ branches) [] lasts b t w same at h for folds = absurd h
  lasts_more k m (c ∷ branches) (u ∷ times) [] b t w same at h for folds = absurd h
  lasts_more k m (c ∷ branches) (u ∷ times) (v ∷ lasts) b t w same at h for folds =
      (h.0, h.1, lasts_more (suc k) m branches times lasts b t w (omega arith) (omega arith) h.2 for folds)

  -- What is known when so many targets have their last events.
  pub record Written (branches : List Branch) (times : List ℕ) (i : ℕ) (lasts : List Writing) : Type 0 where
    pub done : AreLasts names recent parts 0 (take i branches) (take i times) lasts
    pub list : List Delta
    pub due : lasts_in names recent parts (take i branches) (take i times) ≡ Ok list

  pub written_none : (branches : List Branch) (times : List ℕ) (lasts : List Writing) → lasts ≡ [] → Written branches times 0 lasts
  written_none branches times lasts none = record {
    done = subst (AreLasts names recent parts 0 [] []) (sym none) tt;
    list = [];
    due = refl;
  }

  module _ (branches : List Branch) (times : List ℕ) (i : ℕ) (lasts : List Writing) (b : Branch) (t : ℕ) (same : length times ≡ length branches) (h : i < length branches)
      (u : Written branches times i lasts) where
    fronts : length (take i times) ≡ length (take i branches)
    fronts = omega (arith, length-take i times, length-take i branches)

    pub written_next : (w : Writing) (new : List Writing) → IsForOnly i w → Folds (Ok w.delta) (last_in names recent parts (get_or branches i b).to (get_or times i t))
        → new ≡ lasts ++ w ∷ [] → Written branches times (i + 1) new
    written_next w new for folds is =
        let one = get_or branches i b in
        let at = get_or times i t in
        let next_branches = take_more branches i b h in
        let next_times = take_more times i t (omega arith) in
        record {
          done = subst (λ l. AreLasts names recent parts 0 l (take (i + 1) times) new) (sym next_branches)
              (subst (λ l. AreLasts names recent parts 0 (take i branches ++ one ∷ []) l new) (sym next_times)
              (subst (AreLasts names recent parts 0 (take i branches ++ one ∷ []) (take i times ++ at ∷ [])) (sym is)
              (lasts_more 0 i (take i branches) (take i times) lasts one at w fronts (omega (arith, length-take i branches)) u.done for folds)));
          list = u.list ++ (folds.0 ++ []);
          due = (λ j. lasts_in names recent parts (next_branches j) (next_times j))
              ∙ lasts_cut names recent parts (take i branches) (take i times) (one ∷ []) (at ∷ []) fronts ∙ (λ j. beside (u.due j) (beside (folds.1 j) (Ok [])));
        }

    pub written_fails : (f : FoldFault) → Folds (Err f) (last_in names recent parts (get_or branches i b).to (get_or times i t)) → FailsIn f (lasts_in names recent parts branches times)
    written_fails (fault.Damaged k col) fails =
        let one = get_or branches i b in
        let at = get_or times i t in
        let apart = sym (take-append-drop i branches) ∙ ap (λ l. take i branches ++ l) (drop_more branches i b h) in
        let apart_times = sym (take-append-drop i times) ∙ ap (λ l. take i times ++ l) (drop_more times i t (omega arith)) in
        let more = lasts_in names recent parts (drop (i + 1) branches) (drop (i + 1) times) in
        (λ j. lasts_in names recent parts (apart j) (apart_times j))
        ∙ lasts_cut names recent parts (take i branches) (take i times) (one ∷ drop (i + 1) branches) (at ∷ drop (i + 1) times) fronts
        ∙ (λ j. beside (u.due j) (beside (fails j) more))
    written_fails fault.Memory fails = tt

  pub written_all : (branches : List Branch) (times : List ℕ) (i : ℕ) (lasts : List Writing) → length times ≡ length branches → length branches ≤ i → Written branches times i lasts
      → AreLasts names recent parts 0 branches times lasts
  written_all branches times i lasts same end u =
      subst (λ l. AreLasts names recent parts 0 l times lasts) (take_all i branches (omega arith))
      (subst (λ l. AreLasts names recent parts 0 (take i branches) l lasts) (take_all i times (omega arith)) u.done)

  pub lasts_fail : (f : FoldFault) (all : List PartedStep) (list : List Delta) (due : _) → steps_in names recent all ≡ Ok list → FailsIn f due → FailsIn f (beside (steps_in names recent all) due)
  lasts_fail (fault.Damaged k col) all list due done fails = λ j. beside (done j) (fails j)
  lasts_fail fault.Memory all list due done fails = tt

  -- ---- what leads to all targets

  module _ (all : List PartedStep) (steps : List Stepped) (stepped : AreStepped names recent all steps) (front whole : List Writing) where
    -- what leads to one target
    led : (n : ℕ) (b : Branch) (t : ℕ) (last : Delta) → IsWritten steps n b.to front → Folds (Ok last) (last_in names recent parts b.to t)
        → written_for n whole ≡ written_for n front ++ last ∷ []
        → (lead : Lead) × LeadsUntil names recent parts all b.to t lead.begun lead.delta × (lead.delta ≡ composed_all (written_for n whole))
    led n b t last own folds is =
        let deltas = step_deltas own.0 in
        let first = composed_all deltas in
        let begun = begun_at Root (step_edges own.0) in
        let from = path_leads names recent all steps stepped b.to own.0 own.1 first (composes_all deltas) in
        let delta = composed_all (deltas ++ last ∷ []) in
        let lead : Lead = record { begun = begun; delta = delta } in
        let joined = folds_both delta first last (steps_in names recent from.0) (last_in names recent parts b.to t) from.3 folds (composes_last deltas last) in
        (lead, (from.0, from.1, from.2, joined), ap composed_all (sym (is ∙ ap (λ l. l ++ last ∷ []) own.2)))

    pub all_led : (k : ℕ) (branches : List Branch) (times : List ℕ) (lasts : List Writing) → AreLasts names recent parts k branches times lasts
        → ((n : ℕ) → n < length branches → IsWritten steps (k + n) (get_or (map (λ (b : Branch). b.to) branches) n Root) front)
        → ((n : ℕ) → k ≤ n → written_for n whole ≡ written_for n front ++ written_for n lasts)
        → (leads : List Lead) × AreLedUntil names recent parts all branches times leads × AreWrittenFrom k leads whole
    all_led k [] times [] h own parted = ([], tt, tt)
    all_led k [] times (w ∷ lasts) h own parted = absurd h
    all_led k (b ∷ branches) [] lasts h own parted = absurd h
    all_led k (b ∷ branches) (t ∷ times) [] h own parted = absurd h
    all_led k (b ∷ branches) (t ∷ times) (w ∷ lasts) h own parted =
        let here = led k b t w.delta (subst (λ n. IsWritten steps n b.to front) (omega arith) (own 0 (omega arith))) h.1
        (parted k (omega arith) ∙ ap (λ l. written_for k front ++ l) (for_this k w lasts h.0 ∙ ap (λ l. w.delta ∷ l) (none_before (suc k) k branches times lasts h.2 (omega arith)))) in
        let rest = all_led (suc k) branches times lasts h.2
        (λ n less. subst (λ m. IsWritten steps m (get_or (map (λ (c : Branch). c.to) branches) n Root) front) (omega arith) (own (suc n) (omega arith)))
        (λ n after. parted n (omega arith) ∙ ap (λ l. written_for n front ++ l) (for_another n k w lasts h.0 (λ e. absurd (omega arith)))) in
        (here.0 ∷ rest.0, (here.1, rest.1), (here.2, rest.2))
