-- Going back over the edges of a tree from some nodes: which of the paths to them take which edges.
use Rattle.std.proofs.Common.{◌≡◌, ◌≢◌, ◌⊎◌, inl, inr, ◌<◌, ◌≤◌, ◌+◌, Bool, ℕ, List, [], ◌∷◌, ◌++◌, length, get_or, map, take, drop, refl, sym, ap, subst, ◌∙◌, arith, reverse}
use Rattle.std.specs.Global.{Vec}
use Rattle.std.specs.List.{All, Contains}
use Rattle.std.proofs.lemmas.List.{append-nil, append_assoc, drop_all, drop_more, length_push, reverse-append, take-append-drop, take_all, take_more}
use Rattle.std.proofs.lemmas.List.Elements.{All-cons, All-contains, All-get_or, All-head, All-nil, All-push, All-tail, All-weaker}
use Rattle.dg_fold.specs.declared.tree.Branch.{Branch}
use Rattle.dg_fold.specs.Trees.{Grow, IsAmong, LeadsToTarget, all_edges}
use Rattle.dg_fold.specs.WritingSteps.{GoesBack, By_the_edge, Stays}
use Rattle.dg_fold.proofs.WritingRoots.{Rooted, head_front, rooted_append, walk_rooted}
use Rattle.dg_history.specs.declared.node.NodeId.{NodeId}
use Rattle.dg_history.specs.declared.node.NodeId.TheVariants.{Root}
use Rattle.dg_plan.specs.declared.edge.Edge.{Edge}
use Rattle.dg_steps.specs.TreeStepWalks.{AreRooted, GoesBackOver, IsEntered, takes_it}

-- ---- the edges of a tree lead on from Root

-- the edges of branches that grow, and the targets of these
grow_on : (before : List Edge) (branches : List Branch) → Grow before branches → All LeadsToTarget branches
    → Rooted before (all_edges branches) × All (λ n. IsEntered n (before ++ all_edges branches)) (map (λ (b : Branch). b.to) branches)
grow_on before [] g leads = (tt, All-nil (λ n. IsEntered n (before ++ [])))
grow_on before (b ∷ branches) g leads =
    let own = walk_rooted before b.edges.items b.from b.to g.0 (All-head LeadsToTarget b branches leads) in
    let rest = grow_on (before ++ b.edges.items) branches g.1 (All-tail LeadsToTarget b branches leads) in
    let same = append_assoc before b.edges.items (all_edges branches) in
    let targets = map (λ (c : Branch). c.to) branches in (
      rooted_append before b.edges.items (all_edges branches) own.0 rest.0,
      All-cons (λ n. IsEntered n (before ++ all_edges (b ∷ branches))) b.to targets
          (subst (IsEntered b.to) same (head_front b.to (before ++ b.edges.items) (all_edges branches) own.1))
          (subst (λ l. All (λ n. IsEntered n l) targets) same rest.1),
    )

rooted_at : (before front : List Edge) (e : Edge) (back : List Edge) → Rooted before (front ++ e ∷ back) → IsEntered e.from (before ++ front)
rooted_at before [] e back h = subst (IsEntered e.from) (sym (append-nil before)) h.0
rooted_at before (t ∷ front) e back h = subst (IsEntered e.from) (append_assoc before (t ∷ []) front) (rooted_at (before ++ t ∷ []) front e back h.1)

pub rooted : (branches : List Branch) → Grow [] branches → All LeadsToTarget branches → AreRooted (all_edges branches)
rooted branches grow leads front e back is = rooted_at [] front e back (subst (Rooted []) is (grow_on [] branches grow leads).0)

pub entered : (branches : List Branch) (nodes : List NodeId) → Grow [] branches → All LeadsToTarget branches
    → All (Contains (map (λ (b : Branch). b.to) branches)) nodes → All (λ n. IsEntered n (all_edges branches)) nodes
entered branches nodes grow leads reached =
    let targets = map (λ (b : Branch). b.to) branches in
    All-weaker (Contains targets) (λ n. IsEntered n (all_edges branches))
    (λ n h. All-contains (λ m. IsEntered m (all_edges branches)) targets n (grow_on [] branches grow leads).1 h) nodes reached

-- ---- all edges back

-- What is known when so many edges are left: the paths are those of the edges behind them, the last first.
pub record Back (edges : List Edge) (nodes at : List NodeId) (left : ℕ) (paths : List (Vec Bool)) : Type 0 where
  pub within : left ≤ length edges
  pub long : length at ≡ length nodes
  pub count : length paths + left ≡ length edges
  pub all : All (λ (f : Vec Bool). length f.items ≡ length nodes) paths
  pub gone : (n : ℕ) → n < length nodes → GoesBackOver n (get_or nodes n Root) (drop left edges) (reverse paths) (get_or at n Root)
  pub entered : (n : ℕ) → n < length nodes → IsEntered (get_or at n Root) (take left edges)

pub back_none : (edges : List Edge) (nodes : List NodeId) (paths : List (Vec Bool)) → All (λ n. IsEntered n edges) nodes → paths ≡ [] → Back edges nodes nodes (length edges) paths
back_none edges nodes paths all none = record {
  within = omega arith;
  long = refl;
  count = omega (arith, ap length none);
  all = subst (All (λ (f : Vec Bool). length f.items ≡ length nodes)) (sym none) (All-nil (λ (f : Vec Bool). length f.items ≡ length nodes));
  gone = λ n less.
      subst (λ l. GoesBackOver n (get_or nodes n Root) l (reverse paths) (get_or nodes n Root)) (sym (drop_all (length edges) edges (omega arith)))
      (subst (λ (p : List (Vec Bool)). GoesBackOver n (get_or nodes n Root) [] (reverse p) (get_or nodes n Root)) (sym none) refl);
  entered = λ n less.
      subst (IsEntered (get_or nodes n Root)) (sym (take_all (length edges) edges (omega arith))) (All-get_or (λ m. IsEntered m edges) nodes n Root less all);
}

either : (xs ys : List Edge) (e : Edge) → IsAmong e (xs ++ ys) → IsAmong e xs ⊎ IsAmong e ys
either [] ys e h = inr h
either (x ∷ xs) ys e (inl is) = inl (inl is)
either (x ∷ xs) ys e (inr h) = by (either xs ys e h)
  where
    by : IsAmong e xs ⊎ IsAmong e ys → IsAmong e (x ∷ xs) ⊎ IsAmong e ys
    by (inl a) = inl (inr a)
    by (inr b) = inr b

-- a node that the last of the edges does not enter
entered_before : (node : NodeId) (front : List Edge) (e : Edge) → IsEntered node (front ++ e ∷ []) → node ≢ e.to → IsEntered node front
entered_before node front e (inl root) apart = inl root
entered_before node front e (inr h) apart = by (either front (e ∷ []) h.0 h.1)
  where
    by : IsAmong h.0 front ⊎ IsAmong h.0 (e ∷ []) → IsEntered node front
    by (inl early) = inr (h.0, early, h.2)
    by (inr (inl is)) = absurd (apart (h.2 ∙ ap (λ (z : Edge). z.to) is))
    by (inr (inr none)) = absurd none

module _ (edges : List Edge) (nodes at : List NodeId) (left l : ℕ) (paths : List (Vec Bool)) (rooted : AreRooted edges) (g : Back edges nodes at left paths)
    (less : l + 1 ≡ left) (d : Edge) where
  abbrev pub e : Edge
  e = get_or edges l d

  within : l < length edges
  within = let w = g.within in omega arith

  behind : drop l edges ≡ e ∷ drop left edges
  behind = drop_more edges l d within ∙ (λ i. e ∷ drop (less i) edges)

  before : take left edges ≡ take l edges ++ e ∷ []
  before = ap (λ k. take k edges) (sym less) ∙ take_more edges l d within

  leaves : IsEntered e.from (take l edges)
  leaves = rooted (take l edges) e (drop left edges) (sym (take-append-drop l edges) ∙ ap (λ r. take l edges ++ r) behind)

  enters : (node next : NodeId) (takes : Bool) → GoesBack e node next takes → IsEntered node (take left edges) → IsEntered next (take l edges)
  enters node next takes (By_the_edge to from is) h = subst (λ m. IsEntered m (take l edges)) (sym from) leaves
  enters node next takes (Stays apart stays is) h =
      subst (λ m. IsEntered m (take l edges)) (sym stays) (entered_before node (take l edges) e (subst (IsEntered node) before h) apart)

  pub back_on : (next : List NodeId) (f : Vec Bool) (new : List (Vec Bool)) → length next ≡ length at → length f.items ≡ length at
      → ((n : ℕ) → n < length at → GoesBack e (get_or at n Root) (get_or next n Root) (takes_it n f.items)) → new ≡ paths ++ f ∷ [] → Back edges nodes next l new
  back_on next f new long takes back grown = record {
    within = let w = within in omega arith;
    long = long ∙ g.long;
    count = let c = g.count in let p = ap length grown ∙ length_push paths f in omega arith;
    all = subst (All (λ (f : Vec Bool). length f.items ≡ length nodes)) (sym grown) (All-push (λ (f : Vec Bool). length f.items ≡ length nodes) paths f g.all (takes ∙ g.long));
    gone = λ n small.
        subst (λ r. GoesBackOver n (get_or nodes n Root) r (reverse new) (get_or next n Root)) (sym behind)
        (subst (λ p. GoesBackOver n (get_or nodes n Root) (e ∷ drop left edges) p (get_or next n Root)) (sym (ap reverse grown ∙ reverse-append paths (f ∷ [])))
        (get_or at n Root, back n (let s = g.long in omega arith), g.gone n small));
    entered = λ n small. enters (get_or at n Root) (get_or next n Root) (takes_it n f.items) (back n (let s = g.long in omega arith)) (g.entered n small);
  }

-- where no edge is left, each path begins at Root
pub back_all : (edges : List Edge) (nodes at : List NodeId) (left : ℕ) (paths : List (Vec Bool)) → Back edges nodes at left paths → left ≡ 0
    → (n : ℕ) → n < length nodes → GoesBackOver n (get_or nodes n Root) edges (reverse paths) Root
back_all edges nodes at left paths g none n less =
    subst (GoesBackOver n (get_or nodes n Root) edges (reverse paths)) (root (subst (λ k. IsEntered (get_or at n Root) (take k edges)) none (g.entered n less)))
    (subst (λ k. GoesBackOver n (get_or nodes n Root) (drop k edges) (reverse paths) (get_or at n Root)) none (g.gone n less))
  where
    root : IsEntered (get_or at n Root) [] → get_or at n Root ≡ Root
    root (inl is) = is
    root (inr h) = absurd h.1
