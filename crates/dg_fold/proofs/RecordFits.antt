-- The records of an index can be spelled: each element of each set was added by an event.
use Rattle.std.proofs.Common.{◌≡◌, ◌<◌, ◌≤◌, ◌^◌, ◌+◌, ◌*◌, ◌-◌, ℕ, zero, suc, Bool, true, false, cond, not, ◌||◌, ◌&&◌, List, [], ◌∷◌, ◌++◌, length, take, drop, Option, Some, None, IfSome, nat_eq, refl, sym, ap, subst, ◌∙◌, arith}
use Rattle.std.specs.Option.{option_to_list, option_map, option_eq}
use Rattle.std.specs.List.{flat_map}
use Rattle.std.proofs.lemmas.Bool.{false≢true, or_right}
use Rattle.dg_graph.specs.declared.element.Column.TheVariants as column
use Rattle.dg_graph.specs.declared.element.Element.{Element}
use Rattle.dg_graph.specs.declared.element.Element.TheVariants as element
use Rattle.dg_graph.specs.declared.event.Body.{Body}
use Rattle.dg_graph.specs.declared.event.Body.TheVariants as body
use Rattle.dg_graph.specs.declared.event.Event.{Event}
use Rattle.dg_graph.specs.Columns.{in_column, same_column}
use Rattle.dg_graph.specs.Composition.{between}
use Rattle.dg_graph.specs.Effect.{moved, added_by}
use Rattle.dg_graph.specs.Elements.{column_of, same, IsSet, has, with_one}
use Rattle.dg_graph.specs.Sets.{without_all}
use Rattle.dg_graph.proofs.Sets.{element_exact, has_first, has-put, has-without_all, IsSet-put, IsSet-without_all}
use Rattle.dg_columns.specs.Ranges.{BodyFits, ElementFits, ElementsFit, EventsFit}
use Rattle.dg_columns.proofs.EventRanges.{fit_drop, fit_parts, fit_take}
use Rattle.dg_delta.proofs.Deltas.{apart_between}
use Rattle.dg_history.specs.declared.node.Key.{Key}
use Rattle.dg_history.specs.declared.node.Key.TheVariants as key
use Rattle.dg_history.specs.declared.params.Params.{Params}
use Rattle.dg_history.specs.History.{History, Batch, events_of}
use Rattle.dg_index.specs.EverAdded.{ever}
use Rattle.dg_index.specs.Hierarchy.{parent, set_at, leaves}
use Rattle.dg_index.specs.IndexRecords.{Events, Exact, piece_at, record_among}
use Rattle.dg_index.proofs.HierarchySteps.{IsSet-node}
use Rattle.dg_index.proofs.EverAddedBounds.{ever_few, fewer, node_within, piece_short}
use Rattle.dg_fold.specs.Parts.{RecordFits}
use Rattle.dg_fold.specs.RecordFits.{RecordsFit}

-- ---- the elements that events add

ever_set : (events : List Event) → IsSet (ever events)
ever_set [] = tt
ever_set (e ∷ events) = by (added_by e.body) (ever_set events)
  where
    by : (o : Option Element) → IsSet (ever events) → IsSet (with_one (ever events) o)
    by None s = s
    by (Some x) s = IsSet-put x (ever events) s

has_with : (set : List Element) (o : Option Element) (q : Element) → has (with_one set o) q ≡ (has (option_to_list o) q || has set q)
has_with set None q = refl
has_with set (Some y) q = has-put y set q ∙ ap (λ b. b || has set q) (or_none (same q y))
  where
    or_none : (a : Bool) → a ≡ (a || false)
    or_none true = refl
    or_none false = refl

or_of : {P : Type 0} (a b : Bool) → (a || b) ≡ true → (a ≡ true → P) → (b ≡ true → P) → P
or_of true b e f g = f refl
or_of false b e f g = g e

-- ---- ranges

moved_fits : (names : ℕ) (make : ℕ → Element) (value other : Option ℕ) → ((n : ℕ) → n < names → ElementFits names (make n)) → IfSome value (λ n. n < names) → IfSome (moved make value other) (ElementFits names)
moved_fits names make value other fits h = by (option_eq nat_eq value other) value h
  where
    by : (b : Bool) (v : Option ℕ) → IfSome v (λ n. n < names) → IfSome (cond b None (option_map make v)) (ElementFits names)
    by true v k = tt
    by false None k = tt
    by false (Some n) k = fits n k

added_fits : (names : ℕ) (b : Body) → BodyFits names b → IfSome (added_by b) (ElementFits names)
added_fits names (body.NodeAdded id) f = f
added_fits names (body.NodeRemoved id) f = tt
added_fits names (body.EdgeAdded directed id src dst) f = f
added_fits names (body.EdgeRemoved directed id src dst) f = tt
added_fits names (body.NodeAttr k id old new) f = moved_fits names (element.NodeAttr id k) new old (λ n h. (f.id_fits, f.key_fits, h)) f.new_fits
added_fits names (body.EdgeAttr k id old new) f = moved_fits names (element.EdgeAttr id k) new old (λ n h. (f.id_fits, f.key_fits, h)) f.new_fits
added_fits names (body.Message src dst value) f = tt

one_fits : (names : ℕ) (o : Option Element) (q : Element) → IfSome o (ElementFits names) → has (option_to_list o) q ≡ true → ElementFits names q
one_fits names None q f h = absurd (false≢true h)
one_fits names (Some y) q f h = or_of (same q y) false h (λ is. subst (ElementFits names) (sym (element_exact q y is)) f) (λ e. absurd (false≢true e))

ever_fits : (names earliest : ℕ) (events : List Event) → EventsFit names earliest events → (q : Element) → has (ever events) q ≡ true → ElementFits names q
ever_fits names earliest [] f q h = absurd (false≢true h)
ever_fits names earliest (e ∷ events) f q h =
    or_of (has (option_to_list (added_by e.body)) q) (has (ever events) q) (sym (has_with (ever events) (added_by e.body) q) ∙ h)
    (one_fits names (added_by e.body) q (added_fits names e.body f.0.fits)) (ever_fits names e.time events f.1 q)

elements_fit : (names : ℕ) (set : List Element) → ((q : Element) → has set q ≡ true → ElementFits names q) → ElementsFit names set
elements_fit names [] f = tt
elements_fit names (x ∷ set) f = (f x (has_first x set), elements_fit names set (λ q h. f q (or_right (same q x) (has set q) h)))

-- ---- messages

abbrev IsNoMessage : Element → Type 0
IsNoMessage x = same_column (column_of x) column.Transient ≡ false

moved_quiet : (make : ℕ → Element) → ((n : ℕ) → IsNoMessage (make n)) → (value other : Option ℕ) → IfSome (moved make value other) IsNoMessage
moved_quiet make quiet value other = by (option_eq nat_eq value other) value
  where
    by : (b : Bool) (v : Option ℕ) → IfSome (cond b None (option_map make v)) IsNoMessage
    by true v = tt
    by false None = tt
    by false (Some n) = quiet n

-- no event adds a message
added_quiet : (b : Body) → IfSome (added_by b) IsNoMessage
added_quiet (body.NodeAdded id) = refl
added_quiet (body.NodeRemoved id) = tt
added_quiet (body.EdgeAdded directed id src dst) = refl
added_quiet (body.EdgeRemoved directed id src dst) = tt
added_quiet (body.NodeAttr k id old new) = moved_quiet (element.NodeAttr id k) (λ n. refl) new old
added_quiet (body.EdgeAttr k id old new) = moved_quiet (element.EdgeAttr id k) (λ n. refl) new old
added_quiet (body.Message src dst value) = tt

one_quiet : (o : Option Element) (q : Element) → IfSome o IsNoMessage → has (option_to_list o) q ≡ true → IsNoMessage q
one_quiet None q f h = absurd (false≢true h)
one_quiet (Some y) q f h = or_of (same q y) false h (λ is. subst IsNoMessage (sym (element_exact q y is)) f) (λ e. absurd (false≢true e))

ever_quiet : (events : List Event) (q : Element) → has (ever events) q ≡ true → IsNoMessage q
ever_quiet [] q h = absurd (false≢true h)
ever_quiet (e ∷ events) q h =
    or_of (has (option_to_list (added_by e.body)) q) (has (ever events) q) (sym (has_with (ever events) (added_by e.body) q) ∙ h)
    (one_quiet (added_by e.body) q (added_quiet e.body)) (ever_quiet events q)

no_messages : (set : List Element) → ((q : Element) → has set q ≡ true → IsNoMessage q) → in_column column.Transient set ≡ []
no_messages [] f = refl
no_messages (x ∷ set) f =
    let rest = no_messages set (λ q h. f q (or_right (same q x) (has set q) h)) in
    ap (λ b. cond b (x ∷ in_column column.Transient set) (in_column column.Transient set)) (f x (has_first x set)) ∙ rest

-- ---- the events of lists

take_length : (n : ℕ) (events : List Event) → length (take n events) ≤ n
take_length zero events = omega arith
take_length (suc n) [] = omega arith
take_length (suc n) (e ∷ events) = (let rest = take_length n events in omega arith)

-- ---- pieces

pieces_fit : (names : ℕ) (p : Params) → 0 < p.l → p.l ≤ 65536 → (before : List Event) (batches : List Batch) (s : ℕ)
    → EventsFit names 0 (flat_map (λ (b : Batch). b.events) batches) → RecordFits names (Events (piece_at p before batches s))
pieces_fit names p some short before [] s f = ((omega arith), tt)
pieces_fit names p some short before (b ∷ batches) zero f = (
  (let few = piece_short p before b some in omega arith),
  fit_drop names 0 (leaves p (length before + length b.events) * p.l - length before) b.events (fit_parts names 0 b.events (flat_map (λ (c : Batch). c.events) batches) f).0,
)
pieces_fit names p some short before (b ∷ batches) (suc s) f =
    pieces_fit names p some short (before ++ b.events) batches s (fit_parts names 0 b.events (flat_map (λ (c : Batch). c.events) batches) f).1

-- ---- records

module _ (names : ℕ) (z : History) (fit : EventsFit names 0 (events_of z)) (few : length (events_of z) ≤ 2 ^ 28) (some : 0 < z.params.l) (short : z.params.l ≤ 65536) where
  abbrev pub p : Params
  p = z.params

  abbrev pub events : List Event
  events = events_of z

  sets : (h j : ℕ) → IsSet (set_at p events h j)
  sets h j = IsSet-node p events h j

  exact_fits : (a b : List Element) → IsSet a → IsSet b → ((q : Element) → has a q ≡ true → has (ever events) q ≡ true) → ((q : Element) → has b q ≡ true → has (ever events) q ≡ true)
      → RecordFits names (Exact (between a b))
  exact_fits a b s t f g = (
    record { minus = IsSet-without_all a b s; plus = IsSet-without_all b a t; apart = apart_between a b },
    small (without_all a b) (IsSet-without_all a b s) (λ q h. f q (part a b q h)),
    small (without_all b a) (IsSet-without_all b a t) (λ q h. g q (part b a q h)),
    elements_fit names (without_all a b) (λ q h. ever_fits names 0 events fit q (f q (part a b q h))),
    elements_fit names (without_all b a) (λ q h. ever_fits names 0 events fit q (g q (part b a q h))),
    (
      no_messages (without_all a b) (λ q h. ever_quiet events q (f q (part a b q h))),
      no_messages (without_all b a) (λ q h. ever_quiet events q (g q (part b a q h))),
    ),
  )
    where
      and_first : (u v : Bool) → (u && v) ≡ true → u ≡ true
      and_first true v e = refl
      and_first false v e = absurd (false≢true e)

      part : (c d : List Element) (q : Element) → has (without_all c d) q ≡ true → has c q ≡ true
      part c d q h = and_first (has c q) (not (has d q)) (sym (has-without_all c d q) ∙ h)

      small : (c : List Element) → IsSet c → ((q : Element) → has c q ≡ true → has (ever events) q ≡ true) → length c < 2 ^ 32
      small c k sub =
          (let one = fewer c (ever events) k (ever_set events) sub in
          let two = ever_few events in omega arith)

  pub record_fits : (k : Key) → RecordFits names (record_among p events z.batches k)
  record_fits (key.List i) = (
    (let n = take_length p.l (drop (i * p.l) events) in omega arith),
    fit_take names 0 p.l (drop (i * p.l) events) (fit_drop names 0 (i * p.l) events fit),
  )
  record_fits (key.Piece s) = pieces_fit names p some short [] z.batches s fit
  record_fits (key.Top h) = exact_fits [] (set_at p events h 1) tt (sets h 1) (λ q e. absurd (false≢true e)) (node_within p events h 1)
  record_fits (key.Down h c) =
      exact_fits (set_at p events h (parent p.k c)) (set_at p events (h - 1) c) (sets h (parent p.k c)) (sets (h - 1) c) (node_within p events h (parent p.k c)) (node_within p events (h - 1) c)

pub records_fit : RecordsFit
records_fit names z fit few some short k = record_fits names z fit few some short k
