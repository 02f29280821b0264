-- Going back over the steps of a tree from the targets: what is written for each is what the steps of its path do.
use Rattle.std.proofs.Common.{◌≡◌, ◌≢◌, ◌⊎◌, inl, inr, ◌<◌, ◌≤◌, ◌+◌, Bool, false, cond, ℕ, List, [], ◌∷◌, ◌++◌, length, get_or, set, take, drop, refl, sym, ap, subst, ◌∙◌, arith, reverse}
use Rattle.std.specs.List.{All}
use Rattle.std.proofs.lemmas.Bool.{cases_eq}
use Rattle.std.proofs.lemmas.List.{append_assoc, append-nil, get_or-set_same, get_or-set_other, get_or_append_left, get_or_push, length-set, length_push, reverse-append, take_at}
use Rattle.std.proofs.lemmas.List.Elements.{All-get_or}
use Rattle.dg_history.specs.declared.node.NodeId.{NodeId}
use Rattle.dg_history.specs.declared.node.NodeId.TheVariants.{Root}
use Rattle.dg_plan.specs.declared.edge.Edge.{Edge}
use Rattle.dg_fold.specs.declared.tree_step.Stepped.{Stepped}
use Rattle.dg_fold.specs.declared.writing.Writing.{Writing}
use Rattle.dg_fold.specs.TreeSteps.{IsAmongSteps, AreIn, Walks, Begins, step_deltas}
use Rattle.dg_fold.specs.Writings.{is_for, written_for}
use Rattle.dg_fold.specs.WritingSteps.{IsEnteredNode, AreRooted, GoesBack, By_the_edge, Stays, IsWritten}
use Rattle.dg_fold.proofs.Trees.{path_on, behind, either}

-- ---- one step back

-- What is known when the paths of so many targets have gone back by the edge.
pub record Gone (edge : Edge) (first at : List NodeId) (i : ℕ) (takes : List Bool) : Type 0 where
  pub long : length at ≡ length first
  pub count : length takes ≡ i
  pub back : (n : ℕ) → n < i → GoesBack edge (get_or first n Root) (get_or at n Root) (get_or takes n false)
  pub rest : (n : ℕ) → i ≤ n → get_or at n Root ≡ get_or first n Root

less_or : (n i : ℕ) → n < i + 1 → (n < i) ⊎ (n ≡ i)
less_or n i h = by (cases_eq n i)
  where
    by : (n ≡ i) ⊎ (n ≡ i → ⊥) → (n < i) ⊎ (n ≡ i)
    by (inl same) = inr same
    by (inr apart) = inl (grind arith)

pub gone_on : (edge : Edge) (first at : List NodeId) (i : ℕ) (takes : List Bool) → Gone edge first at i takes → i < length at
    → (next : NodeId) (taken : Bool) (new : List Bool) → GoesBack edge (get_or at i Root) next taken → new ≡ takes ++ taken ∷ [] → Gone edge first (set at i next) (i + 1) new
gone_on edge first at i takes g h next taken new one grown = record {
  long = length-set at i next ∙ g.long;
  count = ap length grown ∙ length_push takes taken ∙ ap (λ k. k + 1) g.count;
  back = λ n less. by n (less_or n i less);
  rest = λ n less. get_or-set_other at i n next Root (λ e. absurd (omega arith)) ∙ g.rest n (omega arith);
}
  where
    by : (n : ℕ) → (n < i) ⊎ (n ≡ i) → GoesBack edge (get_or first n Root) (get_or (set at i next) n Root) (get_or new n false)
    by n (inl less) =
        subst (λ m. GoesBack edge (get_or first n Root) m (get_or new n false)) (sym (get_or-set_other at i n next Root (λ e. absurd (omega arith))))
        (subst (GoesBack edge (get_or first n Root) (get_or at n Root))
        (sym (ap (λ l. get_or l n false) grown ∙ get_or_append_left takes (taken ∷ []) false n (let c = g.count in omega arith))) (g.back n less))
    by n (inr same) =
        subst (λ k. GoesBack edge (get_or first k Root) (get_or (set at i next) k Root) (get_or new k false)) (sym same)
        (subst (λ m. GoesBack edge (get_or first i Root) m (get_or new i false)) (sym (get_or-set_same at i next Root h))
        (subst (GoesBack edge (get_or first i Root) next) (sym (ap (λ l. get_or l i false) grown ∙ get_or_push takes taken false i g.count))
        (subst (λ m. GoesBack edge m next taken) (g.rest i (omega arith)) one)))

-- ---- all steps back

-- What is known of a target's path when it has to reach this node by these steps yet.
abbrev pub GoneBack : List Stepped → List Stepped → ℕ → NodeId → NodeId → List Writing → Type 0
GoneBack steps rest n at to writings = (walk : List Stepped) × Walks at walk to × AreIn walk steps × (written_for n writings ≡ step_deltas walk) × IsEnteredNode at rest

-- What is known when these steps are left; the writings are those behind them, in order.
pub record Backed (steps rest : List Stepped) (ends at : List NodeId) (writings : List Writing) : Type 0 where
  pub long : length at ≡ length ends
  pub back : List Stepped
  pub parted : steps ≡ rest ++ back
  pub gone : (n : ℕ) → n < length ends → GoneBack steps rest n (get_or at n Root) (get_or ends n Root) writings

pub backed_none : (steps : List Stepped) (ends : List NodeId) (writings : List Writing) → All (λ n. IsEnteredNode n steps) ends → writings ≡ [] → Backed steps steps ends ends writings
backed_none steps ends writings entered none = record {
  long = refl;
  back = [];
  parted = sym (append-nil steps);
  gone = λ n less. ([], refl, λ s h. absurd h, ap (written_for n) none, All-get_or (λ m. IsEnteredNode m steps) ends n Root less entered);
}

-- a node that the last of the steps does not enter
entered_before : (node : NodeId) (front : List Stepped) (s : Stepped) → IsEnteredNode node (front ++ s ∷ []) → node ≢ s.edge.to → IsEnteredNode node front
entered_before node front s (inl root) apart = inl root
entered_before node front s (inr e) apart = by (either front (s ∷ []) e.0 e.1)
  where
    by : IsAmongSteps e.0 front ⊎ IsAmongSteps e.0 (s ∷ []) → IsEnteredNode node front
    by (inl early) = inr (e.0, early, e.2)
    by (inr (inl is)) = absurd (apart (e.2 ∙ ap (λ (t : Stepped). t.edge.to) is))
    by (inr (inr none)) = absurd none

module _ (steps rest front : List Stepped) (s : Stepped) (ends at next : List NodeId) (writings : List Writing) (w : Writing)
    (rooted : AreRooted steps) (g : Backed steps rest ends at writings) (last : rest ≡ front ++ s ∷ []) (same : w.delta ≡ s.delta)
    (back : (n : ℕ) → n < length at → GoesBack s.edge (get_or at n Root) (get_or next n Root) (is_for n w)) where
  split : steps ≡ front ++ s ∷ g.back
  split = g.parted ∙ ap (λ l. l ++ g.back) last ∙ append_assoc front (s ∷ []) g.back

  one_back : (n : ℕ) → n < length ends → GoesBack s.edge (get_or at n Root) (get_or next n Root) (is_for n w)
      → GoneBack steps front n (get_or next n Root) (get_or ends n Root) (w ∷ writings)
  one_back n less (By_the_edge to from takes) =
      let old = g.gone n less in (
        s ∷ old.0,
        (sym from, subst (λ m. Walks m old.0 (get_or ends n Root)) to old.1),
        λ t h. among t h,
        ap (λ b. cond b (w.delta ∷ written_for n writings) (written_for n writings)) takes ∙ (λ j. same j ∷ old.3 j),
        subst (λ m. IsEnteredNode m front) (sym from) (rooted front s g.back split),
      )
    where
      among : (t : Stepped) → IsAmongSteps t (s ∷ (g.gone n less).0) → IsAmongSteps t steps
      among t (inl is) = subst (IsAmongSteps t) (sym split) (behind front (s ∷ g.back) t (inl is))
      among t (inr h) = (g.gone n less).2 t h
  one_back n less (Stays apart stays takes) =
      let old = g.gone n less in (
        old.0,
        subst (λ m. Walks m old.0 (get_or ends n Root)) (sym stays) old.1,
        old.2,
        ap (λ b. cond b (w.delta ∷ written_for n writings) (written_for n writings)) takes ∙ old.3,
        subst (λ m. IsEnteredNode m front) (sym stays) (entered_before (get_or at n Root) front s (subst (IsEnteredNode (get_or at n Root)) last old.4) apart),
      )

  pub backed_on : length next ≡ length at → Backed steps front ends next (w ∷ writings)
  backed_on long = record {
    long = long ∙ g.long;
    back = s ∷ g.back;
    parted = split;
    gone = λ n less. one_back n less (back n (let e = g.long in omega arith));
  }

-- where no step is left, each path begins at Root
pub all_written : (steps rest : List Stepped) (ends at : List NodeId) (writings : List Writing) → Backed steps rest ends at writings → rest ≡ []
    → (n : ℕ) → n < length ends → IsWritten steps n (get_or ends n Root) writings
all_written steps rest ends at writings g none n less =
    let old = g.gone n less in
    (old.0, path_on steps old.0 Root (get_or ends n Root) [] Begins (subst (λ m. Walks m old.0 (get_or ends n Root)) (root (subst (IsEnteredNode (get_or at n Root)) none old.4)) old.1) old.2, old.3)
  where
    root : IsEnteredNode (get_or at n Root) [] → get_or at n Root ≡ Root
    root (inl is) = is
    root (inr e) = absurd e.1

-- the writings in order, with one more
pub reverse_push : (writings : List Writing) (w : Writing) → reverse (writings ++ w ∷ []) ≡ w ∷ reverse writings
reverse_push writings w = reverse-append writings (w ∷ [])

-- what is put back into a row that is as long
pub put_back : (n : ℕ) (xs ys : List NodeId) → length xs ≡ n → take n (xs ++ drop (length xs) ys) ≡ xs
put_back n xs ys long = take_at xs (drop (length xs) ys) n long
