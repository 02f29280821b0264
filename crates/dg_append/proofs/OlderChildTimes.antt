-- The older children in the order of time, listed from the last back; each is one of those by height and number.
use Rattle.std.proofs.Common.{◌≡◌, ℕ, zero, suc, ◌+◌, ◌-◌, ◌*◌, ◌/◌, ◌^◌, ◌<◌, ◌≤◌, Bool, true, false, cond, List as ListOf, [], ◌∷◌, ◌++◌, map, reverse, refl, sym, ap, subst, ◌∙◌, append_assoc, arith, nat_lt, lt-ltb, le-ltb, ltb-true}
use Rattle.std.specs.List.{All, Contains}
use Rattle.std.proofs.lemmas.List.{reverse-append}
use Rattle.std.proofs.lemmas.List.Elements.{All-append, All-contains_itself, All-nil, All-weaker}
use Rattle.dg_append.proofs.OlderNodeHeights.{all_leaves, higher_up, some_older}
use Rattle.dg_catalogue.proofs.HierarchyRecords.{height_few}
use Rattle.dg_build.specs.OlderSteps.{in_time, older_in_time}
use Rattle.dg_history.specs.declared.node.NodeId.{NodeId}
use Rattle.dg_index.specs.Hierarchy.{numbers}
use Rattle.dg_index.specs.OlderNodes.{node_at, older, older_at}
use Rattle.dg_plan.proofs.IndexGraphReachability.{contains_flat, contains_number}

-- ---- from the last back

pub back_one : (f : ℕ → NodeId) (n there : ℕ) (now new before : ListOf NodeId) → 1 ≤ n → n ≤ there → new ≡ now ++ f n ∷ [] → reverse now ≡ map f (numbers (n + 1) (there - n)) ++ before
    → reverse new ≡ map f (numbers (n - 1 + 1) (there - (n - 1))) ++ before
back_one f n there now new before some within is so_far =
    ap reverse is ∙ reverse-append now (f n ∷ []) ∙ ap (λ (l : ListOf NodeId). f n ∷ l) so_far ∙ (λ i. map f (numbers (sym first i) (sym many i)) ++ before)
  where
    first : n - 1 + 1 ≡ n
    first = omega (arith, some)

    many : there - (n - 1) ≡ suc (there - n)
    many = omega (arith, some, within)

pub back_none : (f : ℕ → NodeId) (there : ℕ) (before : ListOf NodeId) → reverse before ≡ map f (numbers (there + 1) (there - there)) ++ reverse before
back_none f there before = λ i. map f (numbers (there + 1) (sym none i)) ++ reverse before
  where
    none : there - there ≡ 0
    none = omega arith

pub back_all : (f : ℕ → NodeId) (n done there : ℕ) (nodes before : ListOf NodeId) → n ≡ done → reverse nodes ≡ map f (numbers (n + 1) (there - n)) ++ before → reverse nodes ≡ map f (numbers (done + 1) (there - done)) ++ before
back_all f n done there nodes before is so_far = so_far ∙ (λ i. map f (numbers (is i + 1) (there - is i)) ++ before)

-- ---- height after height

-- those of one height more
pub height_more : (k turns h low high : ℕ) (now new all : ListOf NodeId) → low / k < high / k → reverse new ≡ map (node_at h) (numbers (low / k * k + 1) (low - low / k * k)) ++ reverse now
    → in_time k (suc turns) h low high ++ reverse now ≡ all → in_time k turns (suc h) (low / k) (high / k) ++ reverse new ≡ all
height_more k turns h low high now new all due is so_far =
    ap (λ (l : ListOf NodeId). above ++ l) is ∙ sym (append_assoc above here (reverse now))
    ∙ ap (λ (b : Bool). cond b (above ++ here) [] ++ reverse now) (sym (lt-ltb (low / k) (high / k) due)) ∙ so_far
  where
    above : ListOf NodeId
    above = in_time k turns (suc h) (low / k) (high / k)

    here : ListOf NodeId
    here = map (node_at h) (numbers (low / k * k + 1) (low - low / k * k))

-- there is none above
pub no_more_heights : (k turns h low high : ℕ) → high / k ≤ low / k → in_time k turns h low high ≡ []
no_more_heights k zero h low high none = refl
no_more_heights k (suc turns) h low high none =
    ap (λ (b : Bool). cond b (in_time k turns (suc h) (low / k) (high / k) ++ map (node_at h) (numbers (low / k * k + 1) (low - low / k * k))) []) (le-ltb (low / k) (high / k) none)

pub heights_end : (k turns h low high : ℕ) (nodes all : ListOf NodeId) → high / k ≤ low / k → in_time k turns h low high ++ reverse nodes ≡ all → reverse nodes ≡ all
heights_end k turns h low high nodes all none so_far = ap (λ (l : ListOf NodeId). l ++ reverse nodes) (sym (no_more_heights k turns h low high none)) ∙ so_far

-- ---- each is an older child

pub in_time_among : (k m after : ℕ) → 2 ≤ k → (turns h low high : ℕ) → low ≡ m / k ^ h → high ≡ after / k ^ h → All (Contains (older k m after)) (in_time k turns h low high)
in_time_among k m after wide zero h low high is_low is_high = All-nil (Contains (older k m after))
in_time_among k m after wide (suc turns) h low high is_low is_high = by (nat_lt (low / k) (high / k)) refl (in_time_among k m after wide turns (suc h) (low / k) (high / k) up_low up_high)
  where
    above : ListOf NodeId
    above = in_time k turns (suc h) (low / k) (high / k)

    here : ListOf NodeId
    here = map (node_at h) (numbers (low / k * k + 1) (low - low / k * k))

    next : h + 1 ≡ suc h
    next = omega arith

    up_low : low / k ≡ m / k ^ suc h
    up_low = higher_up m k h low is_low ∙ ap (λ n. m / k ^ n) next

    up_high : high / k ≡ after / k ^ suc h
    up_high = higher_up after k h high is_high ∙ ap (λ n. after / k ^ n) next

    one : low / k < high / k → All (Contains (older k m after)) here
    one due =
        let few : h + 1 ≤ after = height_few k after (h + 1) wide (let e = higher_up after k h high is_high in omega (arith, due, e)) in
        let among : Contains (numbers 1 after) (h + 1) = subst (Contains (numbers 1 after)) (let e : 1 + h ≡ h + 1 = omega arith in e) (contains_number 1 after h (omega (arith, few))) in
        subst (All (Contains (older k m after))) (sym (some_older k m after h low high is_low is_high due))
        (All-weaker (Contains (older_at k m after (h + 1))) (Contains (older k m after)) (λ x there. contains_flat (older_at k m after) (numbers 1 after) (h + 1) x among there) (older_at k m after (h + 1)) (All-contains_itself (older_at k m after (h + 1))))

    by : (b : Bool) → nat_lt (low / k) (high / k) ≡ b → All (Contains (older k m after)) above → All (Contains (older k m after)) (cond b (above ++ here) [])
    by false is more = All-nil (Contains (older k m after))
    by true is more = All-append (Contains (older k m after)) above here more (one (ltb-true (low / k) (high / k) is))

pub older_among : (k m after : ℕ) → 2 ≤ k → All (Contains (older k m after)) (older_in_time k m after)
older_among k m after wide = in_time_among k m after wide after 0 m after (all_leaves m k) (all_leaves after k)
