-- Slots that are given one after another, and the tie over them.
use Rattle.std.proofs.Common.{arith, ◌≡◌, ℕ, ◌+◌, ◌<◌, ◌≤◌, true, false, ◌||◌, eqb, List, [], ◌∷◌, ◌++◌, Option, Some, None, IsSome, length, map, take, get_or, length-append, refl, sym, ap, ◌∙◌, subst, ◌⊎◌, inl, inr}
use Rattle.std.specs.List.{All, AllByRecursion, AllZip}
use Rattle.std.proofs.lemmas.Bool.{cases_Bool, both_ways, eq-eqb, eqb-true, false_from_ne_true, ne_eqb, or_cases, or_from, or_left, or_parts, or_right}
use Rattle.std.proofs.lemmas.List.{map_more, map_push}
use Rattle.std.proofs.lemmas.List.Elements.{recursion_from_All}
use Rattle.dg_graph.specs.declared.element.Columns.{Columns}
use Rattle.dg_graph.specs.declared.element.Element.{Element}
use Rattle.dg_graph.specs.Elements.{shown}
use Rattle.dg_handles.specs.Attached.{AreAttached, IsAttached, graph_begun, graph_led, resting}
use Rattle.dg_handles.specs.Handles.{BeginsOn, CanBegin, HandlesState, SlotHolds, IsTied, RestsOn, at_slot, slot_graphs, held_by, members_at, numbered, overlays_on}
use Rattle.dg_handles.proofs.HandleEntries.{Entries, entry_append, of_some, slot_append, slot_listed, zip-append, zip-each, zip-map, zip-of_map}
use Rattle.dg_handles.proofs.HandleNumbers.{distinct-append, listed-append, listed_push, many_listed, map_same}
use Rattle.dg_handles.proofs.HandleTies.{Stays, base_slot, held_at, holds_still, live_slot, many, rests_among, rests_still, some_by, some_nowhere}
use Rattle.dg_machine.specs.declared.stands.Stands.{Stands}
use Rattle.dg_machine.specs.MachineState.{overlay_on}
use Rattle.dg_pool.specs.declared.slots.Base.{Base as PoolBase}
use Rattle.dg_pool.specs.declared.slots.Base.TheVariants as base
use Rattle.dg_pool.specs.declared.slots.Slot.{Slot}
use Rattle.dg_pool.specs.Changes.{NoneRestsOn, numbers_of}
use Rattle.dg_pool.specs.Graphs.{PoolState, SameGraphs, SlotGraph, graph_now, is_listed, slot_graph}
use Rattle.dg_pool.specs.Slots.{AllLive, BaseFits, IsBaseWith, base_members}
use Rattle.dg_pool.specs.Sweeps.{members_as}
use Rattle.dg_retrieval.specs.Beginnings.{GraphLead, base_handle, begun_with, led_to}
use Rattle.dg_retrieval.specs.declared.graph_lead.Beginning.{Beginning}
use Rattle.dg_retrieval.specs.declared.graph_lead.Beginning.TheVariants as begins

-- ---- which graph a slot has

abbrev pub front : List (Option SlotGraph) → Option SlotGraph
front [] = None
front (o ∷ os) = o

abbrev pub rest : List (Option SlotGraph) → List (Option SlotGraph)
rest [] = []
rest (o ∷ os) = os

some_graph : (f : ℕ → Option SlotGraph) (slots : List ℕ) (graphs : List SlotGraph) → map f slots ≡ map (λ g. Some g) graphs → (s : ℕ) → is_listed slots s ≡ true → (g : SlotGraph) × (f s ≡ Some g)
some_graph f [] graphs same s in' = cc
some_graph f (t ∷ slots) [] same s in' = cc
some_graph f (t ∷ slots) (g ∷ graphs) same s in' = at (or_cases (eqb t s) (is_listed slots s) in') (some_graph f slots graphs (ap rest same) s)
  where
    at : (eqb t s ≡ true) ⊎ (is_listed slots s ≡ true) → (is_listed slots s ≡ true → (x : SlotGraph) × (f s ≡ Some x)) → (x : SlotGraph) × (f s ≡ Some x)
    at (inl e) next = (g, ap f (sym (eqb-true t s e)) ∙ ap front same)
    at (inr e) next = next e

begun_graph : (Q : Beginning → Type 0) (begun : Beginning → SlotGraph) (f : ℕ → Option SlotGraph) (slots : List ℕ) (begins : List Beginning) → AllByRecursion Q begins
    → map f slots ≡ map (λ g. Some g) (map begun begins) → (s : ℕ) → is_listed slots s ≡ true → (b : Beginning) × Q b × (f s ≡ Some (begun b))
begun_graph Q begun f [] begins all same s in' = cc
begun_graph Q begun f (t ∷ slots) [] all same s in' = cc
begun_graph Q begun f (t ∷ slots) (b ∷ begins) all same s in' = at (or_cases (eqb t s) (is_listed slots s) in') (begun_graph Q begun f slots begins all.1 (ap rest same) s)
  where
    at : (eqb t s ≡ true) ⊎ (is_listed slots s ≡ true) → (is_listed slots s ≡ true → (x : Beginning) × Q x × (f s ≡ Some (begun x))) → (x : Beginning) × Q x × (f s ≡ Some (begun x))
    at (inl e) next = (b, all.0, ap f (sym (eqb-true t s e)) ∙ ap front same)
    at (inr e) next = next e

members_of : (p : PoolState) (slots : List ℕ) (graphs : List SlotGraph) → map (slot_graph p) slots ≡ map (λ g. Some g) graphs → slot_graphs p slots ≡ map (λ (g : SlotGraph). g.members) graphs
members_of p [] [] same = refl
members_of p [] (g ∷ graphs) same = cc
members_of p (s ∷ slots) [] same = cc
members_of p (s ∷ slots) (g ∷ graphs) same = let next = members_of p slots graphs (ap rest same) in λ i. members_as (front (same i)) ∷ next i

-- the members of the graphs to which leads come
pub members_led : (h : HandlesState) (old new : PoolState) (cols : Columns) (slots : List ℕ) (leads : List GraphLead) → map (slot_graph new) slots ≡ map (λ g. Some g) (map (graph_led h old cols) leads)
    → slot_graphs new slots ≡ map (led_to (graph_now old) (held_by h.table (slot_graphs old h.slots)) cols) leads
members_led h old new cols slots leads same = members_of new slots (map (graph_led h old cols) leads) same ∙ twice leads
  where
    twice : (ls : List GraphLead) → map (λ (g : SlotGraph). g.members) (map (graph_led h old cols) ls) ≡ map (led_to (graph_now old) (held_by h.table (slot_graphs old h.slots)) cols) ls
    twice [] = refl
    twice (l ∷ ls) = ap (λ gs. led_to (graph_now old) (held_by h.table (slot_graphs old h.slots)) cols l ∷ gs) (twice ls)

pub graphs_led : (led : GraphLead → SlotGraph) (leads : List GraphLead) → map (λ g. Some g) (map led leads) ≡ map (λ l. Some (led l)) leads
graphs_led led [] = refl
graphs_led led (l ∷ leads) = ap (λ gs. Some (led l) ∷ gs) (graphs_led led leads)

-- ---- slots more

module _ (old new : PoolState) (slots : List ℕ) (graphs : List SlotGraph) (a : AreAttached old new slots graphs) where
  pub attached_live : (s : ℕ) → is_listed slots s ≡ true → IsSome (slot_graph new s)
  attached_live s in' = let r = some_graph (slot_graph new) slots graphs a.hold s in' in some_by (slot_graph new s) r.0 r.1

  pub attached_still : (last : PoolState) → SameGraphs new last → AreAttached old last slots graphs
  attached_still last same = record {
    fresh = a.fresh;
    apart = a.apart;
    hold = map_same (slot_graph last) (slot_graph new) slots (λ s in'. same.slots s) ∙ a.hold;
    others = λ s e. same.slots s ∙ a.others s e;
    now = same.now ∙ a.now;
  }

  module _ (last : PoolState) (k : ℕ) (graph : SlotGraph) (b : IsAttached new last k graph) where
    past : (s : ℕ) → is_listed slots s ≡ true → s ≡ k → ⊥
    past s in' same = some_nowhere (slot_graph new s) (ap (slot_graph new) same ∙ b.fresh) (attached_live s in')

    lacks : is_listed slots k ≡ false
    lacks = false_from_ne_true (is_listed slots k) (λ in'. past k in' refl)

    pub attached_more : AreAttached old last (slots ++ k ∷ []) (graphs ++ graph ∷ [])
    attached_more = record {
      fresh = λ s e. at_fresh s (or_cases (is_listed slots s) (eqb k s) (sym (listed_push slots k s) ∙ e));
      apart = distinct-append slots (k ∷ []) a.apart (refl, tt) (λ s in'. or_from (eqb k s) false (ne_eqb k s (λ same. past s in' (sym same))) refl);
      hold = map_push (slot_graph last) slots k ∙ (λ i. kept i ++ b.holds i ∷ []) ∙ sym (map_push (λ (g : SlotGraph). Some g) graphs graph);
      others = λ s e. at_others s (or_parts (is_listed slots s) (eqb k s) (sym (listed_push slots k s) ∙ e));
      now = b.now ∙ a.now;
    }
      where
        at_fresh : (s : ℕ) → (is_listed slots s ≡ true) ⊎ (eqb k s ≡ true) → slot_graph old s ≡ None
        at_fresh s (inl e) = a.fresh s e
        at_fresh s (inr e) = let same = eqb-true k s e in ap (slot_graph old) (sym same) ∙ sym (a.others k lacks) ∙ b.fresh

        at_others : (s : ℕ) → (is_listed slots s ≡ false) × (eqb k s ≡ false) → slot_graph last s ≡ slot_graph old s
        at_others s e = b.others s (λ same. both_ways (eqb k s) e.1 (eq-eqb k s (sym same))) ∙ a.others s e.0

        kept : map (slot_graph last) slots ≡ map (λ g. Some g) graphs
        kept = map_same (slot_graph last) (slot_graph new) slots (λ s in'. b.others s (past s in')) ∙ a.hold

pub attached_none : (p : PoolState) → AreAttached p p [] []
attached_none p = record { fresh = λ s in'. cc; apart = tt; hold = refl; others = λ s e. refl; now = refl }

-- ---- over a tie

module _ (old new : PoolState) (h : HandlesState) (t : IsTied old h) (slots : List ℕ) (graphs : List SlotGraph) (a : AreAttached old new slots graphs) where
  pub others_held : (s : ℕ) → is_listed h.slots s ≡ true → is_listed slots s ≡ false
  others_held s in' = false_from_ne_true (is_listed slots s) (λ e. some_nowhere (slot_graph old s) (a.fresh s e) (live_slot old h t s in'))

  pub graphs_kept : map (slot_graph new) h.slots ≡ map (slot_graph old) h.slots
  graphs_kept = map_same (slot_graph new) (slot_graph old) h.slots (λ s in'. a.others s (others_held s in'))

  pub held_kept : slot_graphs new h.slots ≡ slot_graphs old h.slots
  held_kept = map_same (members_at new) (members_at old) h.slots (λ s in'. ap members_as (a.others s (others_held s in')))

  live_among : (s : ℕ) → IsSome (slot_graph new s) → is_listed (h.slots ++ slots) s ≡ true
  live_among s live = listed-append h.slots slots s ∙ at (cases_Bool (is_listed slots s))
    where
      at : (is_listed slots s ≡ true) ⊎ (is_listed slots s ≡ false) → (is_listed h.slots s || is_listed slots s) ≡ true
      at (inl e) = or_right (is_listed h.slots s) (is_listed slots s) e
      at (inr e) = or_left (is_listed h.slots s) (is_listed slots s) (t.only s (subst (λ (o : Option SlotGraph). IsSome o) (a.others s e) live))

  pub some_free : length h.table + length slots < 127 → AllLive new → ⊥
  some_free few all =
      let most : 127 ≤ length (h.slots ++ slots) = many_listed 127 (h.slots ++ slots) (λ s low high. live_among s (all s low (omega (arith, high)))) in
      omega (arith, few, most, length-append h.slots slots, many old h t)

  -- what begins on a base may rest on it
  pub fits : (cols : Columns) (begins : Beginning) → CanBegin h.table cols begins → BaseFits new (resting h begins) cols
  fits cols begins.Nothing on = tt
  fits cols begins.Now on = tt
  fits cols (begins.Base handle) on =
      let b = base_slot old h t handle cols (on handle refl) in
      let same : slot_graph new b.0 ≡ slot_graph old b.0 = a.others b.0 (others_held b.0 (slot_listed handle h.table h.slots b.0 b.1)) in
      subst (λ (o : Option ℕ). BaseFits new (at_slot o) cols) (sym b.1) (subst (IsBaseWith cols) (sym same) b.2)

  -- and has the set with which it begins by that base
  begun_at : (cols : Columns) (begins : Beginning) → CanBegin h.table cols begins
      → base_members new (resting h begins) ≡ begun_with (graph_now old) (held_by h.table (slot_graphs old h.slots)) begins
  begun_at cols begins.Nothing on = refl
  begun_at cols begins.Now on = a.now
  begun_at cols (begins.Base handle) on =
      let b = base_slot old h t handle cols (on handle refl) in
      let same : slot_graph new b.0 ≡ slot_graph old b.0 = a.others b.0 (others_held b.0 (slot_listed handle h.table h.slots b.0 b.1)) in
      ap (λ o. base_members new (at_slot o)) b.1 ∙ ap members_as same ∙ sym (held_at old h t handle b.0 b.1)

-- the graph that begins as the one at an index
pub attached_begun : (old mid new : PoolState) (h : HandlesState) → IsTied old h → (cols : Columns) (begins : List Beginning) (i : ℕ) (d : Beginning) (slots after : List Slot) (k : Slot)
    → i < length begins → All (CanBegin h.table cols) begins → after ≡ slots ++ k ∷ []
    → AreAttached old mid (numbers_of slots) (map (graph_begun h old cols) (take i begins))
    → IsAttached mid new k.0 (record { base = resting h (get_or begins i d); cols = cols; members = shown (base_members mid (resting h (get_or begins i d))) cols })
    → AreAttached old new (numbers_of after) (map (graph_begun h old cols) (take (i + 1) begins))
attached_begun old mid new h t cols begins i d slots after k within on after_is a b =
    let begun : Beginning = get_or begins i d in
    let graph : Beginning → SlotGraph = graph_begun h old cols in
    let numbers : numbers_of after ≡ numbers_of slots ++ k.0 ∷ [] = ap numbers_of after_is ∙ map_push (λ (slot : Slot). slot.0) slots k in
    let graphs : map graph (take (i + 1) begins) ≡ map graph (take i begins) ++ graph begun ∷ [] = map_more graph begins i d within in
    let set = begun_at old mid h t (numbers_of slots) (map graph (take i begins)) a cols begun (on i d within) in
    subst (λ (ns : List ℕ). AreAttached old new ns (map graph (take (i + 1) begins))) (sym numbers)
    (subst (λ (gs : List SlotGraph). AreAttached old new (numbers_of slots ++ k.0 ∷ []) gs) (sym graphs)
    (attached_more old mid (numbers_of slots) (map graph (take i begins)) a new k.0 (graph begun)
    (subst (λ (m : List Element). IsAttached mid new k.0 (record { base = resting h begun; cols = cols; members = shown m cols })) set b)))

-- no live slot rests on one that was given
pub none_on_new : (old new : PoolState) (h : HandlesState) → IsTied old h → (cols : Columns) (slots : List ℕ) (begins : List Beginning) → All (CanBegin h.table cols) begins
    → AreAttached old new slots (map (graph_begun h old cols) begins) → (s : ℕ) → is_listed slots s ≡ true → NoneRestsOn new s
none_on_new old new h t cols slots begun on a s in' = λ u g b is rests same. at u g b is rests same (cases_Bool (is_listed slots u))
  where
    -- a slot of a handle is not new
    apart : (k : ℕ) → is_listed h.slots k ≡ true → k ≡ s → ⊥
    apart k held same = some_nowhere (slot_graph old k) (a.fresh k (ap (is_listed slots) same ∙ in')) (live_slot old h t k held)

    led : (begins : Beginning) → CanBegin h.table cols begins → (b : Slot) → resting h begins ≡ base.Slot b → b.0 ≡ s → ⊥
    led begins.Nothing on' b rests same = cc
    led begins.Now on' b rests same = cc
    led (begins.Base handle) on' b rests same =
        let r = base_slot old h t handle cols (on' handle refl) in
        let there : base.Slot (record { 0 = r.0 }) ≡ base.Slot b = sym (ap at_slot r.1) ∙ rests in
        apart b.0 (subst (λ (n : ℕ). is_listed h.slots n ≡ true) (ap number there) (slot_listed handle h.table h.slots r.0 r.1)) same
      where
        number : PoolBase → ℕ
        number base.Nothing = 0
        number base.Now = 0
        number (base.Slot c) = c.0

    at : (u : ℕ) (g : SlotGraph) (b : Slot) → slot_graph new u ≡ Some g → g.base ≡ base.Slot b → b.0 ≡ s → (is_listed slots u ≡ true) ⊎ (is_listed slots u ≡ false) → ⊥
    at u g b is rests same (inl e) =
        let r = begun_graph (CanBegin h.table cols) (graph_begun h old cols) (slot_graph new) slots begun (recursion_from_All (CanBegin h.table cols) begun on) a.hold u e in
        let it : graph_begun h old cols r.0 ≡ g = of_some (graph_begun h old cols r.0) g (sym r.2 ∙ is) in
        led r.0 r.1 b (ap (λ (x : SlotGraph). x.base) it ∙ rests) same
    at u g b is rests same (inr e) = apart b.0 (rests_among old h t u g b (sym (a.others u e) ∙ is) rests) same

-- ---- the tie to more handles

-- the handles with these behind them
abbrev pub with_more : HandlesState → Entries → List ℕ → ℕ → HandlesState
with_more h more slots next = record { table = h.table ++ more; slots = h.slots ++ slots; next = next }

pub stays : (h : HandlesState) (more : Entries) (slots : List ℕ) (next handle : ℕ) → Stays h (with_more h more slots next) handle
stays h more slots next handle = record {
  entry = entry_append handle h.table more;
  slot = slot_append handle h.table more h.slots slots;
}

module _ (old new : PoolState) (h : HandlesState) (t : IsTied old h) (more : Entries) (slots : List ℕ) (next : ℕ) (graphs : List SlotGraph) (a : AreAttached old new slots graphs) where
  abbrev NowHeld : ℕ × Stands → Option SlotGraph → Type 0
  NowHeld entry o = SlotHolds (with_more h more slots next) entry.1 o

  first_held : AllZip (λ (entry : ℕ × Stands) (s : ℕ). NowHeld entry (slot_graph new s)) h.table h.slots
  first_held =
      zip-each (λ (entry : ℕ × Stands) (s : ℕ). SlotHolds h entry.1 (slot_graph old s)) (λ (entry : ℕ × Stands) (s : ℕ). NowHeld entry (slot_graph new s)) h.table h.slots t.held
      (λ entry s in' held. subst (NowHeld entry) (sym (a.others s (others_held old new h t slots graphs a s in')))
      (holds_still old h (with_more h more slots next) t entry.1.cols (overlay_on entry.1.what) (slot_graph old s) (λ handle e. stays h more slots next handle) held))

  pub tied_more : AllZip (λ (entry : ℕ × Stands) (g : SlotGraph). SlotHolds (with_more h more slots next) entry.1 (Some g)) more graphs → IsTied new (with_more h more slots next)
  tied_more new_held = record {
    held = zip-append (λ (entry : ℕ × Stands) (s : ℕ). NowHeld entry (slot_graph new s)) h.table more h.slots slots first_held
        (zip-of_map NowHeld (slot_graph new) more slots (subst (AllZip NowHeld more) (sym a.hold) (zip-map NowHeld (λ (g : SlotGraph). Some g) more graphs new_held)));
    apart = distinct-append h.slots slots t.apart a.apart (others_held old new h t slots graphs a);
    only = live_among old new h t slots graphs a;
  }

-- the graphs to which leads come are as overlays on what they begin with
pub overlays_held : (p : PoolState) (h k : HandlesState) → IsTied p h → ((handle : ℕ) → Stays h k handle) → (cols : Columns) (next : ℕ) (times : List ℕ) (leads : List GraphLead) → length leads ≡ length times
    → AllByRecursion (BeginsOn h.table cols) leads
    → AllZip (λ (entry : ℕ × Stands) (g : SlotGraph). SlotHolds k entry.1 (Some g)) (numbered next (overlays_on cols times (map (λ (l : GraphLead). base_handle l.begins) leads))) (map (graph_led h p cols) leads)
overlays_held p h k t stays' cols next [] [] many' on = tt
overlays_held p h k t stays' cols next [] (l ∷ leads) many' on = absurd (omega (arith, many'))
overlays_held p h k t stays' cols next (time ∷ times) [] many' on = absurd (omega (arith, many'))
overlays_held p h k t stays' cols next (time ∷ times) (l ∷ leads) many' on =
    ((refl, rests_still p h k t cols (base_handle l.begins) (resting h l.begins) (λ handle e. stays' handle) (rests l.begins on.0)), overlays_held p h k t stays' cols (next + 1) times leads (omega (arith, many')) on.1)
  where
    rests : (begins : Beginning) → CanBegin h.table cols begins → RestsOn h cols (base_handle begins) (resting h begins)
    rests begins.Nothing on' = tt
    rests begins.Now on' = tt
    rests (begins.Base handle) on' = (on' handle refl, refl)
