-- The union of the live graphs, by the cells.
use Rattle.std.proofs.Common.{arith, ◌≡◌, ℕ, suc, ◌+◌, Bool, true, false, ◌||◌, ◌&&◌, List, [], ◌∷◌, Option, Some, length, refl, sym, ap, ◌∙◌}
use Rattle.std.proofs.lemmas.Bool.{true≢false, or_left, or_right, or_from}
use Rattle.dg_graph.specs.declared.element.Element.{Element}
use Rattle.dg_graph.specs.declared.element.Columns.{Columns}
use Rattle.dg_graph.specs.Elements.{IsSet, has, asks, column_of}
use Rattle.dg_graph.specs.Sets.{unioned}
use Rattle.dg_graph.proofs.Sets.{has-unioned, IsSet-unioned}
use Rattle.dg_delta.specs.Deltas.{is_in_after}
use Rattle.dg_pool.specs.declared.slots.Base.{Base}
use Rattle.dg_pool.specs.declared.slots.SlotState.{SlotState}
use Rattle.dg_pool.specs.declared.slots.SlotState.TheVariants as state
use Rattle.dg_cells.specs.Rows.{Row, cell_at, is_current, pair, CellsAreApart, Lacks}
use Rattle.dg_pool.specs.Graphs.{slot_at, AreSlots, pair_says, in_base, in_slot, graph_as, graph_now, PoolState, SameGraphs}
use Rattle.dg_pool.specs.Sweeps.{in_state, wants, wanted_from, is_needed, members_as, live_union, union_of}
use Rattle.dg_pool.proofs.GraphSets.{picked_set, picked_decides, picked_nothing}
use Rattle.dg_pool.proofs.SweepCells.{member_needed}

abbrev pub in_some : ℕ → List SlotState → Row → Bool
in_some s [] r = false
in_some s (slot ∷ slots) r = in_state s slot r || in_some (s + 1) slots r

pub has-members : (rows : List (Option Row)) (n : ℕ) (r : Row) → CellsAreApart rows → cell_at rows n ≡ Some r → (s : ℕ) (slot : SlotState) → has (members_as (graph_as rows s slot)) r.element ≡ in_state s slot r
has-members rows n r apart there s state.Free = refl
has-members rows n r apart there s (state.Released swept) = refl
has-members rows n r apart there s (state.Live b cols) = picked_decides (in_slot s b cols) rows r.element n r apart there refl

has-live_union : (rows : List (Option Row)) (n : ℕ) (r : Row) → CellsAreApart rows → cell_at rows n ≡ Some r → (s : ℕ) (slots : List SlotState) → has (live_union rows s slots) r.element ≡ in_some s slots r
has-live_union rows n r apart there s [] = refl
has-live_union rows n r apart there s (slot ∷ slots) =
    let first = has-members rows n r apart there s slot in
    let rest = has-live_union rows n r apart there (s + 1) slots in
    has-unioned (members_as (graph_as rows s slot)) (live_union rows (s + 1) slots) r.element ∙ (λ i. first i || rest i)

pub lacks-members : (rows : List (Option Row)) (x : Element) → Lacks rows x → (s : ℕ) (slot : SlotState) → has (members_as (graph_as rows s slot)) x ≡ false
lacks-members rows x lacks s state.Free = refl
lacks-members rows x lacks s (state.Released swept) = refl
lacks-members rows x lacks s (state.Live b cols) = picked_nothing (in_slot s b cols) rows x lacks

lacks-live_union : (rows : List (Option Row)) (x : Element) → Lacks rows x → (s : ℕ) (slots : List SlotState) → has (live_union rows s slots) x ≡ false
lacks-live_union rows x lacks s [] = refl
lacks-live_union rows x lacks s (slot ∷ slots) =
    has-unioned (members_as (graph_as rows s slot)) (live_union rows (s + 1) slots) x
    ∙ or_from (has (members_as (graph_as rows s slot)) x) (has (live_union rows (s + 1) slots) x) (lacks-members rows x lacks s slot) (lacks-live_union rows x lacks (s + 1) slots)

pub union_lacks : (p : PoolState) (x : Element) → Lacks p.rows x → has (union_of p) x ≡ false
union_lacks p x lacks =
    has-unioned (graph_now p) (live_union p.rows 0 p.slots) x
    ∙ or_from (has (graph_now p) x) (has (live_union p.rows 0 p.slots) x) (picked_nothing is_current p.rows x lacks) (lacks-live_union p.rows x lacks 0 p.slots)

-- ---- a cell is needed exactly where the union has its element

wants_in : (s : ℕ) (slot : SlotState) (r : Row) → wants s slot r ≡ true → in_state s slot r ≡ true
wants_in s state.Free r e = cc
wants_in s (state.Released swept) r e = cc
wants_in s (state.Live b cols) r e = at (asks cols (column_of r.element)) (pair s r).0 (pair s r).1 (in_base b r) e
  where
    at : (a e o has_it : Bool) → (a && is_in_after (pair_says (e, o)) false) ≡ true → (a && is_in_after (pair_says (e, o)) has_it) ≡ true
    at true true true h p = refl
    at true true false h p = cc
    at true false o h p = cc
    at false e o h p = cc

wanted_in : (s : ℕ) (slots : List SlotState) (r : Row) → wanted_from s slots r ≡ true → in_some s slots r ≡ true
wanted_in s [] r e = cc
wanted_in s (slot ∷ slots) r e = at (wanted_in (s + 1) slots r) (wants s slot r) refl e
  where
    at : (wanted_from (s + 1) slots r ≡ true → in_some (s + 1) slots r ≡ true) → (t : Bool) → wants s slot r ≡ t → (wants s slot r || wanted_from (s + 1) slots r) ≡ true → (in_state s slot r || in_some (s + 1) slots r) ≡ true
    at rest true f g = or_left (in_state s slot r) (in_some (s + 1) slots r) (wants_in s slot r f)
    at rest false f g =
        or_right (in_state s slot r) (in_some (s + 1) slots r)
        (rest (ap (λ t. t || wanted_from (s + 1) slots r) (sym f) ∙ g))

seen_is : (s : ℕ) (slot : SlotState) (r : Row) → in_state s slot r ≡ true → (b : Base) × (cols : Columns) × (slot ≡ state.Live b cols) × (in_slot s b cols r ≡ true)
seen_is s state.Free r e = cc
seen_is s (state.Released swept) r e = cc
seen_is s (state.Live b cols) r e = (b, cols, refl, e)

some_at : (s : ℕ) (slots : List SlotState) (r : Row) → in_some s slots r ≡ true → (k : ℕ) × (in_state (s + k) (slot_at slots k) r ≡ true)
some_at s [] r e = cc
some_at s (slot ∷ slots) r e = at (some_at (s + 1) slots r) (in_state s slot r) refl
  where
    at : (in_some (s + 1) slots r ≡ true → (k : ℕ) × (in_state ((s + 1) + k) (slot_at slots k) r ≡ true)) → (t : Bool) → in_state s slot r ≡ t → (k : ℕ) × (in_state (s + k) (slot_at (slot ∷ slots) k) r ≡ true)
    at next true f = let same : s + 0 ≡ s = omega arith in (0, ap (λ n. in_state n slot r) same ∙ f)
    at next false f =
        let rest = next (ap (λ t. t || in_some (s + 1) slots r) (sym f) ∙ e) in
        let same : s + suc rest.0 ≡ (s + 1) + rest.0 = omega arith in
        (suc rest.0, ap (λ n. in_state n (slot_at slots rest.0) r) same ∙ rest.1)

in_some_needed : (slots : List SlotState) → AreSlots slots → (r : Row) → in_some 0 slots r ≡ true → is_needed slots r ≡ true
in_some_needed slots fit r e =
    let f = some_at 0 slots r e in
    let same : 0 + f.0 ≡ f.0 = omega arith in
    let g = seen_is f.0 (slot_at slots f.0) r (ap (λ n. in_state n (slot_at slots f.0) r) (sym same) ∙ f.1) in
    member_needed slots fit r f.0 g.0 g.1 g.2 g.3

needed_by : (slots : List SlotState) → AreSlots slots → (r : Row) → (is_current r || in_some 0 slots r) ≡ is_needed slots r
needed_by slots fit r = at (is_current r) refl (in_some 0 slots r) refl (wanted_from 0 slots r) refl
  where
    at : (a : Bool) → is_current r ≡ a → (b : Bool) → in_some 0 slots r ≡ b → (d : Bool) → wanted_from 0 slots r ≡ d → (is_current r || in_some 0 slots r) ≡ is_needed slots r
    at true e b f d g = or_left (is_current r) (in_some 0 slots r) e ∙ sym (or_left (is_current r) (wanted_from 0 slots r) e)
    at false e true f d g = or_right (is_current r) (in_some 0 slots r) f ∙ sym (in_some_needed slots fit r f)
    at false e false f true g = absurd (true≢false (sym (wanted_in 0 slots r g) ∙ f))
    at false e false f false g = or_from (is_current r) (in_some 0 slots r) e f ∙ sym (or_from (is_current r) (wanted_from 0 slots r) e g)

pub union_decides : (p : PoolState) → AreSlots p.slots → CellsAreApart p.rows → (n : ℕ) (r : Row) → cell_at p.rows n ≡ Some r → has (union_of p) r.element ≡ is_needed p.slots r
union_decides p fit apart n r there =
    let first = picked_decides is_current p.rows r.element n r apart there refl in
    let rest = has-live_union p.rows n r apart there 0 p.slots in
    has-unioned (graph_now p) (live_union p.rows 0 p.slots) r.element ∙ (λ i. first i || rest i) ∙ needed_by p.slots fit r

-- ---- the union is a function of the graphs

live_union_same : (rows rows2 : List (Option Row)) (s : ℕ) (slots slots2 : List SlotState) → length slots ≡ length slots2 → ((k : ℕ) → graph_as rows2 (s + k) (slot_at slots2 k) ≡ graph_as rows (s + k) (slot_at slots k)) → live_union rows2 s slots2 ≡ live_union rows s slots
live_union_same rows rows2 s [] [] e f = refl
live_union_same rows rows2 s [] (slot ∷ slots2) e f = absurd (omega arith)
live_union_same rows rows2 s (slot ∷ slots) [] e f = absurd (omega arith)
live_union_same rows rows2 s (slot ∷ slots) (slot2 ∷ slots2) e f =
    let same : s + 0 ≡ s = omega arith in
    let first : graph_as rows2 s slot2 ≡ graph_as rows s slot = ap (λ n. graph_as rows2 n slot2) (sym same) ∙ f 0 ∙ ap (λ n. graph_as rows n slot) same in
    let rest = live_union_same rows rows2 (s + 1) slots slots2 (omega arith) (λ k.
    let next : (s + 1) + k ≡ s + suc k = omega arith in
    ap (λ n. graph_as rows2 n (slot_at slots2 k)) next ∙ f (suc k) ∙ ap (λ n. graph_as rows n (slot_at slots k)) (sym next)) in
    λ i. unioned (members_as (first i)) (rest i)

pub union_same : (old new : PoolState) → length old.slots ≡ length new.slots → SameGraphs old new → union_of new ≡ union_of old
union_same old new count g =
    let rest = live_union_same old.rows new.rows 0 old.slots new.slots count (λ k.
    let same : 0 + k ≡ k = omega arith in
    ap (λ n. graph_as new.rows n (slot_at new.slots k)) same ∙ g.slots k ∙ ap (λ n. graph_as old.rows n (slot_at old.slots k)) (sym same)) in
    λ i. unioned (g.now i) (rest i)

pub IsSet-union_of : (p : PoolState) → IsSet (union_of p)
IsSet-union_of p = IsSet-unioned (graph_now p) (live_union p.rows 0 p.slots) (picked_set is_current p.rows)

pub IsSet-members : (rows : List (Option Row)) (s : ℕ) (slot : SlotState) → IsSet (members_as (graph_as rows s slot))
IsSet-members rows s state.Free = tt
IsSet-members rows s (state.Released swept) = tt
IsSet-members rows s (state.Live b cols) = picked_set (in_slot s b cols) rows
