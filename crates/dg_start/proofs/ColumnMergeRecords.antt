-- What is read of a record has numbers of names that can be spelled, as many events as are due, and times that do not fall.
use Rattle.std.proofs.Common.{◌≡◌, ℕ, zero, suc, ◌+◌, ◌<◌, ◌≤◌, ◌^◌, Bool, true, false, List, [], ◌∷◌, ◌++◌, Option, Some, None, Result, Ok, Err, if◌then◌else◌, length, map, find, refl, sym, ap, subst, ◌∙◌, arith}
use Rattle.std.specs.Prelude.{IfErr, IfOk, IfSome, ◌==◌, nat_le, option_and_then}
use Rattle.std.specs.Global.{Vec}
use Rattle.std.specs.List.{All}
use Rattle.std.specs.Option.{option_map}
use Rattle.std.proofs.lemmas.List.Elements.{All-nil, All-cons, All-head, All-tail, All-append}
use Rattle.std.proofs.lemmas.Bool.{and_parts, leb-true}
use Rattle.dg_columns.specs.NamesInRange.{NamesFit}
use Rattle.dg_columns.specs.Ranges.{BodyFits, EventsFit}
use Rattle.dg_graph.specs.declared.event.Body.{Body}
use Rattle.dg_graph.specs.declared.event.Body.TheVariants as body
use Rattle.dg_graph.specs.declared.event.Event.{Event}
use Rattle.dg_graph.specs.declared.limits.TheConstants.{TIME_MAX}
use Rattle.dg_graph.specs.declared.placed.Placed.{Placed}
use Rattle.dg_history.specs.EventTimes.{RisesFrom}
use Rattle.dg_graph.specs.ColumnMerge.{at_positions, if_never_fall, merged, never_fall}
use Rattle.dg_graph.specs.declared.element.Column.{Column}
use Rattle.dg_history.specs.declared.node.Key.{Key}
use Rattle.dg_index.specs.OpenedIndex.{Opening}
use Rattle.dg_records.specs.Calls.{IsPlacedRead}
use Rattle.dg_records.specs.EventNames.{BodyHasNamesThere, EventNamesAreThere}
use Rattle.dg_records.specs.declared.fault.RecordFault.{RecordFault}
use Rattle.dg_records.specs.declared.fault.RecordFault.TheVariants as fault
use Rattle.dg_start.specs.declared.fault.StartFault.TheVariants as start_fault
use Rattle.dg_start.specs.Calls.{EventIsInRange}
use Rattle.dg_start.specs.EventSources.{WhereTold}
use Rattle.dg_start.specs.Faults.{start_fault_of}
use Rattle.dg_start.specs.RecentEvents.{placed_in_record, spelled_or_fault}
use Rattle.dg_start.specs.Refusals.{IsReason}

-- an event of a column is in range
abbrev pub PlacedFits : ℕ → Placed → Type 0
PlacedFits names p = EventIsInRange names p.event

value_fits : (names : ℕ) (o : Option ℕ) → names ≤ 2 ^ 30 → IfSome o (λ n. n < names) → IfSome o (λ n. n < 2 ^ 30)
value_fits names None few h = tt
value_fits names (Some n) few h = omega (arith, h, few)

body_fits : (names : ℕ) (b : Body) → names ≤ 2 ^ 30 → BodyFits names b → NamesFit b
body_fits names (body.NodeAdded id) few h = tt
body_fits names (body.NodeRemoved id) few h = tt
body_fits names (body.EdgeAdded directed id src dst) few h = tt
body_fits names (body.EdgeRemoved directed id src dst) few h = tt
body_fits names (body.NodeAttr key id old new) few h = (omega (arith, h.key_fits, few), value_fits names old few h.old_fits, value_fits names new few h.new_fits)
body_fits names (body.EdgeAttr key id old new) few h = (omega (arith, h.key_fits, few), value_fits names old few h.old_fits, value_fits names new few h.new_fits)
body_fits names (body.Message src dst value) few h = tt

pub spelled : (names : ℕ) (events : List Event) → names ≤ 2 ^ 30 → All (EventIsInRange names) events → All (λ (e : Event). NamesFit e.body) events
spelled names [] few f = All-nil (λ (e : Event). NamesFit e.body)
spelled names (e ∷ events) few f =
    All-cons (λ (e : Event). NamesFit e.body) e events (body_fits names e.body few (All-head (EventIsInRange names) e events f).0) (spelled names events few (All-tail (EventIsInRange names) e events f))

body_there : (names : ℕ) (b : Body) → BodyFits names b → BodyHasNamesThere names b
body_there names (body.NodeAdded id) h = tt
body_there names (body.NodeRemoved id) h = tt
body_there names (body.EdgeAdded directed id src dst) h = tt
body_there names (body.EdgeRemoved directed id src dst) h = tt
body_there names (body.NodeAttr key id old new) h = (h.key_fits, h.old_fits, h.new_fits)
body_there names (body.EdgeAttr key id old new) h = (h.key_fits, h.old_fits, h.new_fits)
body_there names (body.Message src dst value) h = h.2

pub names_there : (names : ℕ) (events : List Event) → All (EventIsInRange names) events → EventNamesAreThere names events
names_there names [] f = All-nil (λ (e : Event). BodyHasNamesThere names e.body)
names_there names (e ∷ events) f =
    All-cons (λ (e : Event). BodyHasNamesThere names e.body) e events (body_there names e.body (All-head (EventIsInRange names) e events f).0) (names_there names events (All-tail (EventIsInRange names) e events f))

pub in_time : (names : ℕ) (events : List Event) → All (EventIsInRange names) events → All (λ (e : Event). e.time ≤ TIME_MAX) events
in_time names [] f = All-nil (λ (e : Event). e.time ≤ TIME_MAX)
in_time names (e ∷ events) f =
    All-cons (λ (e : Event). e.time ≤ TIME_MAX) e events (All-head (EventIsInRange names) e events f).1 (in_time names events (All-tail (EventIsInRange names) e events f))

-- events that are read of a column, in a history with so many names
pub read_fits : (names earliest : ℕ) (placed : List Placed) → EventsFit names earliest (map (λ (p : Placed). p.event) placed) → All (PlacedFits names) placed
read_fits names earliest [] h = All-nil (PlacedFits names)
read_fits names earliest (p ∷ placed) h = All-cons (PlacedFits names) p placed (h.0.fits, h.0.not_after) (read_fits names p.event.time placed h.1)

-- ---- the columns together

found_all : (P : Placed → Type 0) (p : Placed → Bool) (xs : List Placed) (x : Placed) → All P xs → find p xs ≡ Some x → P x
found_all P p [] x f h = cc
found_all P p (y ∷ xs) x f h = go (p y) h (λ e. found_all P p xs x (All-tail P y xs f) e)
  where
    go : (b : Bool) → (if b then Some y else find p xs) ≡ Some x → (find p xs ≡ Some x → P x) → P x
    go true e later = let s : y ≡ x = cc in subst P s (All-head P y xs f)
    go false e later = later e

if_not_falling : (es events : List Event) → if_never_fall es ≡ Some events → (es ≡ events) × (never_fall 0 es ≡ true)
if_not_falling es events h = by_test (never_fall 0 es) refl h
  where
    by_test : (b : Bool) → never_fall 0 es ≡ b → (if b then Some es else None) ≡ Some events → (es ≡ events) × (never_fall 0 es ≡ true)
    by_test true is e = (cc, is)
    by_test false is e = cc

never_falls : (earliest : ℕ) (events : List Event) → never_fall earliest events ≡ true → RisesFrom earliest events
never_falls earliest [] h = tt
never_falls earliest (e ∷ events) h =
    let parts = and_parts (nat_le earliest e.time) (never_fall e.time events) h in
    (leb-true earliest e.time parts.0, never_falls e.time events parts.1)

module _ (names : ℕ) where
  -- so many events, all of which fit
  abbrev pub AreSoMany : ℕ → List Event → Type 0
  AreSoMany n events = (length events ≡ n) × All (EventIsInRange names) events

  positions_fit : (k n : ℕ) (placed : List Placed) (events : List Event) → All (PlacedFits names) placed → at_positions k n placed ≡ Some events → AreSoMany k events
  positions_fit zero n placed events f h =
      let is : [] ≡ events = cc in subst (λ (es : List Event). AreSoMany 0 es) is (refl, All-nil (EventIsInRange names))
  positions_fit (suc k) n placed events f h =
      by_found (find (λ (p : Placed). p.at == n) placed) refl h (λ more e. positions_fit k (n + 1) placed more f e)
    where
      by_more : (p : Placed) (o : Option (List Event)) → PlacedFits names p → option_map (λ (es : List Event). p.event ∷ es) o ≡ Some events
          → ((more : List Event) → o ≡ Some more → AreSoMany k more) → AreSoMany (suc k) events
      by_more p None fits e next = cc
      by_more p (Some more) fits e next =
          let is : p.event ∷ more ≡ events = cc in
          let rest : AreSoMany k more = next more refl in
          subst (λ (es : List Event). AreSoMany (suc k) es) is
          (ap (λ m. suc m) rest.0, All-cons (EventIsInRange names) p.event more fits rest.1)

      by_found : (o : Option Placed) → find (λ (p : Placed). p.at == n) placed ≡ o
          → option_and_then (λ (p : Placed). option_map (λ (es : List Event). p.event ∷ es) (at_positions k (n + 1) placed)) o ≡ Some events
          → ((more : List Event) → at_positions k (n + 1) placed ≡ Some more → AreSoMany k more) → AreSoMany (suc k) events
      by_found None is e next = cc
      by_found (Some p) is e next =
          by_more p (at_positions k (n + 1) placed) (found_all (PlacedFits names) (λ (p : Placed). p.at == n) placed p f is) e next

  -- so many events, all of which fit, and whose times do not fall
  pub record IsMerged (n : ℕ) (events : List Event) : Type 0 where
    pub many : length events ≡ n
    pub fit : All (EventIsInRange names) events
    pub rises : RisesFrom 0 events

  pub merged_fit : (a b c d : List Placed) (len : ℕ) (events : List Event) → All (PlacedFits names) a → All (PlacedFits names) b → All (PlacedFits names) c → All (PlacedFits names) d
      → merged a b c d len ≡ Some events → IsMerged len events
  merged_fit a b c d len events fa fb fc fd h = by_length (length (a ++ b ++ c ++ d) == len) h
    where
      all : All (PlacedFits names) (a ++ b ++ c ++ d)
      all = All-append (PlacedFits names) (a ++ b ++ c) d (All-append (PlacedFits names) (a ++ b) c (All-append (PlacedFits names) a b fa fb) fc) fd

      by_positions : (o : Option (List Event)) → at_positions len 0 (a ++ b ++ c ++ d) ≡ o → option_and_then if_never_fall o ≡ Some events → IsMerged len events
      by_positions None is e = cc
      by_positions (Some es) is e =
          let kept = if_not_falling es events e in
          let many = positions_fit len 0 (a ++ b ++ c ++ d) es all is in
          subst (λ (xs : List Event). IsMerged len xs) kept.0 (record { many = many.0; fit = many.1; rises = never_falls 0 es kept.1 })

      by_length : (t : Bool) → (if t then option_and_then if_never_fall (at_positions len 0 (a ++ b ++ c ++ d)) else None) ≡ Some events → IsMerged len events
      by_length true e = by_positions (at_positions len 0 (a ++ b ++ c ++ d)) refl e
      by_length false e = cc

-- ---- a column of a record

-- what was read of a column, as a start says it
pub placed_read : (names : ℕ) (told : Option (List ℕ)) (o : Opening) (k : Key) (col : Column) (r : Result (Vec Placed) RecordFault) → WhereTold told (λ image. IsPlacedRead names image o k col r)
    → IfOk r (λ placed. WhereTold told (λ image. placed_in_record image names o k col ≡ Ok placed.items))
placed_read names told o k col (Err f) h = tt
placed_read names told o k col (Ok placed) h = λ image is. ap (spelled_or_fault k col) (h image is)

-- or why it was not
pub placed_refused : (names : ℕ) (told : Option (List ℕ)) (o : Opening) (k : Key) (col : Column) (r : Result (Vec Placed) RecordFault) → WhereTold told (λ image. IsPlacedRead names image o k col r)
    → IfErr r (λ f. WhereTold told (λ image. IsReason (start_fault_of f) (placed_in_record image names o k col)))
placed_refused names told o k col (Ok placed) h = tt
placed_refused names told o k col (Err fault.Disk) h = λ image is. tt
placed_refused names told o k col (Err fault.Memory) h = λ image is. tt
placed_refused names told o k col (Err (fault.Damaged key c)) h = λ image is. let read = h image is in ap (spelled_or_fault k col) read.1 ∙ sym (λ i. Err (start_fault.BadRecord (read.2 i) (read.3 i)))
