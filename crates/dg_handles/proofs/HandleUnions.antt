-- The union of a pool, by the graphs of the handles.
use Rattle.std.proofs.Common.{arith, ◌≡◌, ℕ, zero, suc, ◌+◌, ◌<◌, ◌≤◌, Bool, true, ◌||◌, eqb, List, [], ◌∷◌, Option, Some, None, IsSome, length, refl, sym, ap, ◌∙◌, ◌⊎◌, inl, inr}
use Rattle.std.proofs.lemmas.Bool.{cases_lt, eqb-true, or_cases, or_left, or_right}
use Rattle.std.proofs.lemmas.List.{get_or_past}
use Rattle.std.specs.Cmp.{both_ways}
use Rattle.dg_graph.specs.declared.element.Element.{Element}
use Rattle.dg_graph.specs.Elements.{IsSet, has, with_one}
use Rattle.dg_graph.specs.Sets.{unioned}
use Rattle.dg_graph.proofs.Sets.{IsSet-put, IsSet-unioned, has-unioned, same_members}
use Rattle.dg_cells.specs.Rows.{Row, is_current}
use Rattle.dg_handles.specs.Handles.{HandlesState, IsTied, UnionOfHandles, slot_graphs, members_at}
use Rattle.dg_handles.proofs.HandleTies.{some_nowhere}
use Rattle.dg_machine.specs.MachineState.{union_of_sets}
use Rattle.dg_pool.specs.declared.slots.SlotState.{SlotState}
use Rattle.dg_pool.specs.declared.slots.SlotState.TheVariants as state
use Rattle.dg_pool.specs.Graphs.{PoolState, SlotGraph, given, graph_as, graph_now, is_listed, picked, slot_at, slot_graph}
use Rattle.dg_pool.specs.Sweeps.{live_union, members_as}

-- ---- by slots

module _ (rows : List (Option Row)) (x : Element) where
  -- a slot has what the union has
  from_union : (s : ℕ) (slots : List SlotState) → has (live_union rows s slots) x ≡ true → (k : ℕ) × (has (members_as (graph_as rows (s + k) (slot_at slots k))) x ≡ true)
  from_union s [] e = cc
  from_union s (slot ∷ slots) e =
      at (or_cases (has (members_as (graph_as rows s slot)) x) (has (live_union rows (s + 1) slots) x) (sym (has-unioned (members_as (graph_as rows s slot)) (live_union rows (s + 1) slots) x) ∙ e))
      (from_union (s + 1) slots)
    where
      at : (has (members_as (graph_as rows s slot)) x ≡ true) ⊎ (has (live_union rows (s + 1) slots) x ≡ true)
          → (has (live_union rows (s + 1) slots) x ≡ true → (k : ℕ) × (has (members_as (graph_as rows (s + 1 + k) (slot_at slots k))) x ≡ true))
          → (k : ℕ) × (has (members_as (graph_as rows (s + k) (slot_at (slot ∷ slots) k))) x ≡ true)
      at (inl f) rest = (0, ap (λ n. has (members_as (graph_as rows n slot)) x) (let same : s + 0 ≡ s = omega arith in same) ∙ f)
      at (inr f) rest =
          let r = rest f in
          (suc r.0, ap (λ n. has (members_as (graph_as rows n (slot_at slots r.0))) x) (let same : s + suc r.0 ≡ s + 1 + r.0 = omega arith in same) ∙ r.1)

  -- the union has what a slot has
  to_union : (s : ℕ) (slots : List SlotState) (k : ℕ) → k < length slots → has (members_as (graph_as rows (s + k) (slot_at slots k))) x ≡ true → has (live_union rows s slots) x ≡ true
  to_union s [] k within e = absurd (omega (arith, within))
  to_union s (slot ∷ slots) zero within e =
      has-unioned (members_as (graph_as rows s slot)) (live_union rows (s + 1) slots) x
      ∙ or_left (has (members_as (graph_as rows s slot)) x) (has (live_union rows (s + 1) slots) x)
      (ap (λ n. has (members_as (graph_as rows n slot)) x) (let same : s ≡ s + 0 = omega arith in same) ∙ e)
  to_union s (slot ∷ slots) (suc k) within e =
      has-unioned (members_as (graph_as rows s slot)) (live_union rows (s + 1) slots) x
      ∙ or_right (has (members_as (graph_as rows s slot)) x) (has (live_union rows (s + 1) slots) x)
      (to_union (s + 1) slots k (omega (arith, within)) (ap (λ n. has (members_as (graph_as rows n (slot_at slots k))) x) (let same : s + 1 + k ≡ s + suc k = omega arith in same) ∙ e))

-- ---- by handles

module _ (p : PoolState) (x : Element) where
  from_handles : (slots : List ℕ) → has (union_of_sets (slot_graphs p slots)) x ≡ true → (s : ℕ) × (has (members_at p s) x ≡ true)
  from_handles [] e = cc
  from_handles (s ∷ slots) e =
      at (or_cases (has (members_at p s) x) (has (union_of_sets (slot_graphs p slots)) x) (sym (has-unioned (members_at p s) (union_of_sets (slot_graphs p slots)) x) ∙ e))
      (from_handles slots)
    where
      at : (has (members_at p s) x ≡ true) ⊎ (has (union_of_sets (slot_graphs p slots)) x ≡ true) → (has (union_of_sets (slot_graphs p slots)) x ≡ true → (t : ℕ) × (has (members_at p t) x ≡ true)) → (t : ℕ) × (has (members_at p t) x ≡ true)
      at (inl f) rest = (s, f)
      at (inr f) rest = rest f

  to_handles : (slots : List ℕ) (s : ℕ) → is_listed slots s ≡ true → has (members_at p s) x ≡ true → has (union_of_sets (slot_graphs p slots)) x ≡ true
  to_handles [] s in' e = cc
  to_handles (t ∷ slots) s in' e =
      has-unioned (members_at p t) (union_of_sets (slot_graphs p slots)) x
      ∙ at (or_cases (eqb t s) (is_listed slots s) in') (λ f. to_handles slots s f e)
    where
      at : (eqb t s ≡ true) ⊎ (is_listed slots s ≡ true) → (is_listed slots s ≡ true → has (union_of_sets (slot_graphs p slots)) x ≡ true) → (has (members_at p t) x || has (union_of_sets (slot_graphs p slots)) x) ≡ true
      at (inl f) rest = or_left (has (members_at p t) x) (has (union_of_sets (slot_graphs p slots)) x) (ap (λ n. has (members_at p n) x) (eqb-true t s f) ∙ e)
      at (inr f) rest = or_right (has (members_at p t) x) (has (union_of_sets (slot_graphs p slots)) x) (rest f)

  some_if : (o : Option SlotGraph) → has (members_as o) x ≡ true → IsSome o
  some_if None e = cc
  some_if (Some g) e = refl

  -- a slot that has an element is one of the slots
  within : (s : ℕ) → IsSome (slot_graph p s) → s < length p.slots
  within s h = at (cases_lt s (length p.slots))
    where
      at : (s < length p.slots) ⊎ (length p.slots ≤ s) → s < length p.slots
      at (inl lt) = lt
      at (inr past) = absurd (some_nowhere (slot_graph p s) (ap (graph_as p.rows s) (get_or_past p.slots s state.Free past)) h)

  has_alike : (h : HandlesState) → IsTied p h → has (live_union p.rows 0 p.slots) x ≡ has (union_of_sets (slot_graphs p h.slots)) x
  has_alike h t = both_ways (has (live_union p.rows 0 p.slots) x) (has (union_of_sets (slot_graphs p h.slots)) x) forth back
    where
      forth : has (live_union p.rows 0 p.slots) x ≡ true → has (union_of_sets (slot_graphs p h.slots)) x ≡ true
      forth e =
          let r = from_union p.rows x 0 p.slots e in
          let at : has (members_at p r.0) x ≡ true = ap (λ n. has (members_as (graph_as p.rows n (slot_at p.slots r.0))) x) (let same : r.0 ≡ 0 + r.0 = omega arith in same) ∙ r.1 in
          to_handles h.slots r.0 (t.only r.0 (some_if (slot_graph p r.0) at)) at

      back : has (union_of_sets (slot_graphs p h.slots)) x ≡ true → has (live_union p.rows 0 p.slots) x ≡ true
      back e =
          let r = from_handles h.slots e in
          to_union p.rows x 0 p.slots r.0 (within r.0 (some_if (slot_graph p r.0) r.1))
          (ap (λ n. has (members_as (graph_as p.rows n (slot_at p.slots r.0))) x) (let same : 0 + r.0 ≡ r.0 = omega arith in same) ∙ r.1)

IsSet-with_one : (set : List Element) (o : Option Element) → IsSet set → IsSet (with_one set o)
IsSet-with_one set None h = h
IsSet-with_one set (Some x) h = IsSet-put x set h

IsSet-picked : (test : Row → Bool) (rows : List (Option Row)) → IsSet (picked test rows)
IsSet-picked test [] = tt
IsSet-picked test (o ∷ rows) = IsSet-with_one (picked test rows) (given test o) (IsSet-picked test rows)

pub union_of_handles : UnionOfHandles
union_of_handles = λ p h t.
    let now = graph_now p in
    let set = IsSet-picked is_current p.rows in
    same_members (unioned now (live_union p.rows 0 p.slots)) (unioned now (union_of_sets (slot_graphs p h.slots)))
    (IsSet-unioned now (live_union p.rows 0 p.slots) set) (IsSet-unioned now (union_of_sets (slot_graphs p h.slots)) set)
    (λ x. has-unioned now (live_union p.rows 0 p.slots) x ∙ ap (λ b. has now x || b) (has_alike p x h t) ∙ sym (has-unioned now (union_of_sets (slot_graphs p h.slots)) x))
