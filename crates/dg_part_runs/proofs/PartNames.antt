-- The names by which the parts of a history write are those of the history.
use Rattle.std.proofs.Common.{arith, ◌≡◌, ℕ, zero, suc, ◌+◌, ◌<◌, ◌≤◌, ◌%◌, Bool, true, false, cond, List, [], ◌∷◌, ◌++◌, Option, Some, None, length, length-append, map, drop, append-nil, refl, sym, ap, ◌∙◌}
use Rattle.std.specs.Prelude.{if◌then◌else◌, is_some}
use Rattle.std.specs.List.{flat_map}
use Rattle.std.proofs.Math.Nat.{mod-lt}
use Rattle.std.proofs.lemmas.Bool.{eq-eqb}
use Rattle.dg_graph.specs.declared.event.Event.{Event}
use Rattle.dg_history.specs.History.{Batch, History, events_of, names_of, span_of}
use Rattle.dg_history.specs.LegalHistory.{AreLegalAfter, IsLegal}
use Rattle.dg_index.specs.Hierarchy.{numbers}
use Rattle.dg_partition.specs.Cuts.{cut, cut_of}
use Rattle.dg_partition.specs.HistoryParts.{batches_of, cut_batches, part_of}
use Rattle.dg_partition.specs.Owners.{events_of_part, is_placed, owner_of_body}
use Rattle.dg_partition.specs.PartLaws.{PartsHaveTheirEvents}
use Rattle.dg_part_runs.specs.PartNames.{PartsHaveTheNames}
use Rattle.dg_part_runs.specs.PartsMachine.{names_of_parts}

-- ---- the names of a part

abbrev names_among : List Batch → List (List ℕ)
names_among batches = flat_map (λ (b : Batch). b.names) batches

no_names : (more : List (List Event)) → names_among (batches_of [] more) ≡ []
no_names [] = refl
no_names (events ∷ more) = no_names more

-- all names are those of the first batch
names_of_cuts : (names : List (List ℕ)) (e : Event) (events : List Event) → names_among (cut_batches names (e ∷ events)) ≡ names
names_of_cuts names e events = ap (λ l. names ++ l) (no_names (cut (length events) (drop (cut_of (e ∷ events)) (e ∷ events)))) ∙ append-nil names

-- ---- some part has each event

place : ℕ → Option ℕ → ℕ
place p None = 0
place p (Some id) = id % p

placed : (p : ℕ) (o : Option ℕ) → is_placed p (place p o) o ≡ true
unfolding place
placed p None = refl
placed p (Some id) = eq-eqb (id % p) (id % p) refl

place_below : (p : ℕ) (o : Option ℕ) → 1 ≤ p → place p o < p
unfolding place
place_below p None some = omega (arith, some)
place_below p (Some id) some = let below = mod-lt id (let l : 0 < p = omega (arith, some) in l) in omega (arith, below)

-- a history whose batches have no event has no batch, and so no name
nameless : (names : List (List ℕ)) (before : List Event) (batches : List Batch) → AreLegalAfter names before batches → flat_map (λ (b : Batch). b.events) batches ≡ [] → names_among batches ≡ []
nameless names before [] legal none = refl
nameless names before (b ∷ batches) legal none =
    let many : length b.events + length (flat_map (λ (b : Batch). b.events) batches) ≡ 0 = sym (length-append b.events (flat_map (λ (b : Batch). b.events) batches)) ∙ ap length none in
    absurd (omega (arith, many, legal.0.some))

module _ (law : PartsHaveTheirEvents) (z : History) (legal : IsLegal z) (p : ℕ) where
  -- the events that belong to a part
  abbrev own : ℕ → List Event
  own i = events_of_part p i (events_of z)

  abbrev part : ℕ → History
  part i = part_of z i p

  -- the first of the parts has an event
  with_event : (i : ℕ) (e : Event) (events : List Event) → own i ≡ e ∷ events → (parts : List History) → names_of_parts (part i ∷ parts) ≡ names_of z
  with_event i e events is parts =
      ap (λ (l : List Event). if is_some (span_of l) then names_of (part i) else names_of_parts parts) (law z legal i p ∙ is)
      ∙ ap (λ (l : List Event). names_among (cut_batches (names_of z) l)) is ∙ names_of_cuts (names_of z) e events

  -- and it has none
  without_event : (i : ℕ) → own i ≡ [] → (parts : List History) → names_of_parts (part i ∷ parts) ≡ names_of_parts parts
  without_event i is parts = ap (λ (l : List Event). if is_some (span_of l) then names_of (part i) else names_of_parts parts) (law z legal i p ∙ is)

  -- where one of so many parts, from this number on, has an event, their names are those of the whole
  abbrev Found : ℕ → ℕ → Type 0
  Found first count = (j : ℕ) → j < count → is_some (span_of (own (first + j))) ≡ true → names_of_parts (map part (numbers first count)) ≡ names_of z

  found : (first count : ℕ) → Found first count
  found first zero j lt has = absurd (omega (arith, lt))
  found first (suc count) j lt has = by (own first) refl (found (first + 1) count)
    where
      later : (j : ℕ) → j < suc count → own first ≡ [] → is_some (span_of (own (first + j))) ≡ true → Found (first + 1) count → names_of_parts (map part (numbers (first + 1) count)) ≡ names_of z
      later zero lt is has rest =
          let here : own (first + 0) ≡ [] = ap own (let e : first + 0 ≡ first = omega arith in e) ∙ is in
          absurd (let no : true ≡ false = sym has ∙ ap (λ (l : List Event). is_some (span_of l)) here in cc)
      later (suc j) lt is has rest = rest j (omega (arith, lt)) (ap (λ n. is_some (span_of (own n))) (let e : first + 1 + j ≡ first + suc j = omega arith in e) ∙ has)

      by : (l : List Event) → own first ≡ l → Found (first + 1) count → names_of_parts (map part (numbers first (suc count))) ≡ names_of z
      by [] is rest = without_event first is (map part (numbers (first + 1) count)) ∙ later j lt is has rest
      by (e ∷ events) is rest = with_event first e events is (map part (numbers (first + 1) count))

  none_found : (first count : ℕ) → events_of z ≡ [] → names_of_parts (map part (numbers first count)) ≡ []
  none_found first zero none = refl
  none_found first (suc count) none =
      without_event first (ap (λ (l : List Event). events_of_part p first l) none) (map part (numbers (first + 1) count)) ∙ none_found (first + 1) count none

  -- the part to which the first event belongs has an event
  has_first : (e : Event) (events : List Event) → events_of z ≡ e ∷ events → is_some (span_of (own (place p (owner_of_body e.body)))) ≡ true
  has_first e events is =
      let i = place p (owner_of_body e.body) in
      ap (λ (l : List Event). is_some (span_of (events_of_part p i l))) is
      ∙ ap (λ (b : Bool). is_some (span_of (cond b (e ∷ events_of_part p i events) (events_of_part p i events)))) (placed p (owner_of_body e.body))

  whole_names : 1 ≤ p → names_of_parts (map part (numbers 0 p)) ≡ names_of z
  whole_names some = by (events_of z) refl
    where
      by : (l : List Event) → events_of z ≡ l → names_of_parts (map part (numbers 0 p)) ≡ names_of z
      by [] none = none_found 0 p none ∙ sym (nameless (names_of z) [] z.batches legal.batches none)
      by (e ∷ events) is =
          let i = place p (owner_of_body e.body) in
          found 0 p i (place_below p (owner_of_body e.body) some) (ap (λ n. is_some (span_of (own n))) (let e : 0 + i ≡ i = omega arith in e) ∙ has_first e events is)

pub parts_have_the_names : PartsHaveTheirEvents → PartsHaveTheNames
parts_have_the_names law z legal p some = whole_names law z legal p some
