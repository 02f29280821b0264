-- The columns of a record say together what the record says.
use Rattle.std.proofs.Common.{◌≡◌, ◌<◌, ◌^◌, ℕ, ◌+◌, Bool, true, false, cond, ◌||◌, ◌&&◌, List, [], ◌∷◌, ◌++◌, map, filter, reverse, Option, Some, None, IfSome, Ok, nat_eq, refl, sym, ap, ◌∙◌}
use Rattle.std.specs.Option.{option_to_list, option_map, option_eq}
use Rattle.std.proofs.lemmas.Bool.{false≢true}
use Rattle.std.proofs.lemmas.List.Elements.{filter-append}
use Rattle.std.proofs.lemmas.List.{append-nil, reverse-append}
use Rattle.dg_graph.specs.declared.element.Column.{Column}
use Rattle.dg_graph.specs.declared.element.Column.TheVariants as column
use Rattle.dg_graph.specs.declared.element.Columns.{Columns}
use Rattle.dg_graph.specs.declared.element.Element.{Element}
use Rattle.dg_graph.specs.declared.element.Element.TheVariants as element
use Rattle.dg_graph.specs.declared.event.Body.{Body}
use Rattle.dg_graph.specs.declared.event.Body.TheVariants as body
use Rattle.dg_graph.specs.declared.event.Event.{Event}
use Rattle.dg_graph.specs.declared.placed.Placed.{Placed}
use Rattle.dg_graph.specs.Columns.{same_column, column_of_body, placed_from, placed_in, in_column, delta_column, parts_bytes}
use Rattle.dg_graph.specs.ColumnGrammar.{may_change, changes_in, no_changes_in, delta_in}
use Rattle.dg_graph.specs.Composition.{Delta, Says, In, Out, As_it_was, says, then_says, composition}
use Rattle.dg_graph.specs.Effect.{moved, removed_by, added_by}
use Rattle.dg_graph.specs.Elements.{has, same, asks, column_of}
use Rattle.dg_graph.proofs.Sets.{element_exact, has-filter, and_swap}
use Rattle.dg_columns.specs.ColumnLaws.{HasNoMessage}
use Rattle.dg_columns.proofs.ColumnLawDeltas.{deltas_back}
use Rattle.dg_columns.proofs.ColumnLawEvents.{events_back}
use Rattle.dg_delta.proofs.Deltas.{word, can_be_cut}
use Rattle.dg_graph.specs.ExactEvents.{effect_of}
use Rattle.dg_net.specs.Lists.{counts}
use Rattle.dg_net.proofs.ReplayNets.{back_of}
use Rattle.dg_fold.specs.declared.part.Part.{Part}
use Rattle.dg_plan.specs.declared.edge.Way.{Way}
use Rattle.dg_plan.specs.declared.edge.Way.TheVariants as way
use Rattle.dg_index.specs.IndexRecords.{Record, Events, Exact, column_of_record, exact_column}
use Rattle.dg_fold.specs.PathIndependence.{taken}
use Rattle.dg_fold.specs.Parts.{and_then, fault_named, record_in, part_column_in, beside, are_events, graph_columns, PartHasRecord, RecordFits, PartsAreRead}

-- ---- columns

same_itself : (c : Column) → same_column c c ≡ true
same_itself column.Structure = refl
same_itself column.NodeAttr = refl
same_itself column.EdgeAttr = refl
same_itself column.Transient = refl

same_is : (a b : Column) → same_column a b ≡ true → a ≡ b
same_is column.Structure column.Structure e = refl
same_is column.NodeAttr column.NodeAttr e = refl
same_is column.EdgeAttr column.EdgeAttr e = refl
same_is column.Transient column.Transient e = refl
same_is column.Structure column.NodeAttr e = cc
same_is column.Structure column.EdgeAttr e = cc
same_is column.Structure column.Transient e = cc
same_is column.NodeAttr column.Structure e = cc
same_is column.NodeAttr column.EdgeAttr e = cc
same_is column.NodeAttr column.Transient e = cc
same_is column.EdgeAttr column.Structure e = cc
same_is column.EdgeAttr column.NodeAttr e = cc
same_is column.EdgeAttr column.Transient e = cc
same_is column.Transient column.Structure e = cc
same_is column.Transient column.NodeAttr e = cc
same_is column.Transient column.EdgeAttr e = cc

-- x is in the column c, and y is not
differ : (x y c : Column) → same_column x c ≡ true → same_column y c ≡ false → same_column x y ≡ false
differ x y c e f = by (same_column x y) refl
  where
    by : (b : Bool) → same_column x y ≡ b → b ≡ false
    by true is = sym (ap (λ z. same_column z c) (sym (same_is x y is)) ∙ e) ∙ f
    by false is = refl

-- y is in the column c, and x is not
differ_back : (x y c : Column) → same_column x c ≡ false → same_column y c ≡ true → same_column x y ≡ false
differ_back x y c e f = by (same_column x y) refl
  where
    by : (b : Bool) → same_column x y ≡ b → b ≡ false
    by true is = sym (ap (λ z. same_column z c) (same_is x y is) ∙ f) ∙ e
    by false is = refl

-- ---- what an event names is in its column

away : (y x : Element) → same_column (column_of y) (column_of x) ≡ false → same x y ≡ false
away y x e = by (same x y) refl
  where
    by : (b : Bool) → same x y ≡ b → b ≡ false
    by true is = sym (same_itself (column_of x)) ∙ ap (λ z. same_column (column_of z) (column_of x)) (element_exact x y is) ∙ e
    by false is = refl

away_option : (c : Column) (o : Option Element) (x : Element) → IfSome o (λ y. column_of y ≡ c) → same_column c (column_of x) ≡ false → has (option_to_list o) x ≡ false
away_option c None x in_c e = refl
away_option c (Some y) x in_c e =
    ap (λ b. b || false) (away y x (ap (λ z. same_column z (column_of x)) in_c ∙ e))

moved_in : (c : Column) (make : ℕ → Element) → ((n : ℕ) → column_of (make n) ≡ c) → (value other : Option ℕ) → IfSome (moved make value other) (λ y. column_of y ≡ c)
moved_in c make in_c value other = by (option_eq nat_eq value other) value
  where
    by : (b : Bool) (v : Option ℕ) → IfSome (cond b None (option_map make v)) (λ y. column_of y ≡ c)
    by true v = tt
    by false None = tt
    by false (Some n) = in_c n

added_in : (b : Body) → IfSome (added_by b) (λ y. column_of y ≡ column_of_body b)
added_in (body.NodeAdded id) = refl
added_in (body.NodeRemoved id) = tt
added_in (body.EdgeAdded directed id src dst) = refl
added_in (body.EdgeRemoved directed id src dst) = tt
added_in (body.NodeAttr key id old new) = moved_in column.NodeAttr (element.NodeAttr id key) (λ n. refl) new old
added_in (body.EdgeAttr key id old new) = moved_in column.EdgeAttr (element.EdgeAttr id key) (λ n. refl) new old
added_in (body.Message src dst value) = tt

removed_in : (b : Body) → IfSome (removed_by b) (λ y. column_of y ≡ column_of_body b)
removed_in (body.NodeAdded id) = tt
removed_in (body.NodeRemoved id) = refl
removed_in (body.EdgeAdded directed id src dst) = tt
removed_in (body.EdgeRemoved directed id src dst) = refl
removed_in (body.NodeAttr key id old new) = moved_in column.NodeAttr (element.NodeAttr id key) (λ n. refl) old new
removed_in (body.EdgeAttr key id old new) = moved_in column.EdgeAttr (element.EdgeAttr id key) (λ n. refl) old new
removed_in (body.Message src dst value) = tt

-- an event says nothing of an element of another column
abbrev pub IsOfItsColumn : (Event → Delta) → Type 0
IsOfItsColumn f = (e : Event) (x : Element) → same_column (column_of_body e.body) (column_of x) ≡ false → says (f e) x ≡ As_it_was

effect_apart : IsOfItsColumn effect_of
effect_apart e x h =
    let plus = away_option (column_of_body e.body) (added_by e.body) x (added_in e.body) h in
    let minus = away_option (column_of_body e.body) (removed_by e.body) x (removed_in e.body) h in
    λ i. word (plus i) (minus i)

back_apart : IsOfItsColumn back_of
back_apart e x h =
    let plus = away_option (column_of_body e.body) (added_by e.body) x (added_in e.body) h in
    let minus = away_option (column_of_body e.body) (removed_by e.body) x (removed_in e.body) h in
    λ i. word (minus i) (plus i)

-- a message says nothing
abbrev pub IsSilent : (Event → Delta) → Type 0
IsSilent f = (e : Event) (x : Element) → same_column (column_of_body e.body) column.Transient ≡ true → says (f e) x ≡ As_it_was

unmoved : (b : Body) → same_column (column_of_body b) column.Transient ≡ true → (added_by b ≡ None) × (removed_by b ≡ None)
unmoved (body.NodeAdded id) is = absurd (false≢true is)
unmoved (body.NodeRemoved id) is = absurd (false≢true is)
unmoved (body.EdgeAdded directed id src dst) is = absurd (false≢true is)
unmoved (body.EdgeRemoved directed id src dst) is = absurd (false≢true is)
unmoved (body.NodeAttr key id old new) is = absurd (false≢true is)
unmoved (body.EdgeAttr key id old new) is = absurd (false≢true is)
unmoved (body.Message src dst value) is = (refl, refl)

effect_silent : IsSilent effect_of
effect_silent e x is =
    let none = unmoved e.body is in
    λ i. word (has (option_to_list (none.0 i)) x) (has (option_to_list (none.1 i)) x)

back_silent : IsSilent back_of
back_silent e x is =
    let none = unmoved e.body is in
    λ i. word (has (option_to_list (none.1 i)) x) (has (option_to_list (none.0 i)) x)

-- ---- the events of a column

abbrev pub in_col : Column → Event → Bool
in_col col e = same_column (column_of_body e.body) col

abbrev pub event_of : Placed → Event
event_of p = p.event

events_placed : (col : Column) (events : List Event) (n : ℕ) → map event_of (filter (λ p. same_column (column_of_body p.event.body) col) (placed_from n events)) ≡ filter (in_col col) events
events_placed col [] n = refl
events_placed col (e ∷ events) n = by (in_col col e) (events_placed col events (n + 1))
  where
    kept : List Placed
    kept = filter (λ p. same_column (column_of_body p.event.body) col) (placed_from (n + 1) events)

    by : (b : Bool) → map event_of kept ≡ filter (in_col col) events
        → map event_of (cond b (record { at = n; event = e } ∷ kept) kept) ≡ cond b (e ∷ filter (in_col col) events) (filter (in_col col) events)
    by true rest = ap (λ l. e ∷ l) rest
    by false rest = rest

filter_first : (p : Event → Bool) (e : Event) (events : List Event) (b : Bool) → filter p (cond b (e ∷ events) events) ≡ cond (b && p e) (e ∷ filter p events) (filter p events)
filter_first p e events true = refl
filter_first p e events false = refl

filter_swap : (p q : Event → Bool) (events : List Event) → filter p (filter q events) ≡ filter q (filter p events)
filter_swap p q [] = refl
filter_swap p q (e ∷ events) =
    let rest = filter_swap p q events in
    filter_first p e (filter q events) (q e)
    ∙ (λ i. cond (and_swap (q e) (p e) i) (e ∷ rest i) (rest i))
    ∙ sym (filter_first q e (filter p events) (p e))

reverse_filter : (q : Event → Bool) (events : List Event) → reverse (filter q events) ≡ filter q (reverse events)
reverse_filter q [] = refl
reverse_filter q (e ∷ events) =
    by (q e) refl (reverse_filter q events)
    ∙ sym (filter-append q (reverse events) (e ∷ []))
    ∙ ap (filter q) (sym (reverse-append (e ∷ []) events))
  where
    by : (b : Bool) → q e ≡ b → reverse (filter q events) ≡ filter q (reverse events)
        → reverse (cond b (e ∷ filter q events) (filter q events)) ≡ filter q (reverse events) ++ filter q (e ∷ [])
    by true is rest =
        reverse-append (e ∷ []) (filter q events) ∙ ap (λ l. l ++ (e ∷ [])) rest ∙ ap (λ b. filter q (reverse events) ++ cond b (e ∷ []) []) (sym is)
    by false is rest =
        rest ∙ sym (append-nil (filter q (reverse events))) ∙ ap (λ b. filter q (reverse events) ++ cond b (e ∷ []) []) (sym is)

then_none : (w : Says) → then_says As_it_was w ≡ w
then_none In = refl
then_none Out = refl
then_none As_it_was = refl

-- the events of a column say what all of them say of an element of that column, and nothing of others
kept : (f : Event → Delta) → IsOfItsColumn f → (col : Column) (x : Element) (events : List Event)
    → composition (map f (filter (in_col col) events)) x ≡ cond (same_column (column_of x) col) (composition (map f events) x) As_it_was
kept f own col x [] = by (same_column (column_of x) col)
  where
    by : (d : Bool) → As_it_was ≡ cond d As_it_was As_it_was
    by true = refl
    by false = refl
kept f own col x (e ∷ events) =
    by (in_col col e) refl (same_column (column_of x) col) refl (kept f own col x events)
  where
    few : List Event
    few = filter (in_col col) events

    w : Says
    w = says (f e) x

    by : (b : Bool) → in_col col e ≡ b → (d : Bool) → same_column (column_of x) col ≡ d
        → composition (map f few) x ≡ cond d (composition (map f events) x) As_it_was
        → composition (map f (cond b (e ∷ few) few)) x ≡ cond d (then_says w (composition (map f events) x)) As_it_was
    by true in_c true at rest = ap (then_says w) rest
    by true in_c false at rest =
        (λ i. then_says (own e x (differ (column_of_body e.body) (column_of x) col in_c at) i) (rest i))
    by false in_c true at rest =
        rest
        ∙ sym (then_none (composition (map f events) x))
        ∙ ap (λ v. then_says v (composition (map f events) x)) (sym (own e x (differ_back (column_of_body e.body) (column_of x) col in_c at)))
    by false in_c false at rest = rest

-- events say nothing of a message
unsaid : (f : Event → Delta) → IsOfItsColumn f → IsSilent f → (x : Element) → column_of x ≡ column.Transient → (events : List Event) → composition (map f events) x ≡ As_it_was
unsaid f own silent x is [] = refl
unsaid f own silent x is (e ∷ events) =
    let rest = unsaid f own silent x is events in
    let first = by (same_column (column_of_body e.body) (column_of x)) refl in
    λ i. then_says (first i) (rest i)
  where
    by : (b : Bool) → same_column (column_of_body e.body) (column_of x) ≡ b → says (f e) x ≡ As_it_was
    by true here = silent e x (ap (same_column (column_of_body e.body)) (sym is) ∙ here)
    by false here = own e x here

-- ---- a record in one column

abbrev pub only : Bool → Says → Says
only b w = cond b w As_it_was

only_none : (d : Bool) → As_it_was ≡ only d As_it_was
only_none true = refl
only_none false = refl

events_in_column : (col : Column) (x : Element) (events : List Event) (w : Way) (until : Option ℕ)
    → composition (taken w until (Events (map event_of (placed_in col events)))) x
    ≡ only (same_column (column_of x) col) (composition (taken w until (Events events)) x)
events_in_column col x events way.Same until = only_none (same_column (column_of x) col)
events_in_column col x events way.Forward until =
    ap (λ l. composition (map effect_of (filter (counts until) l)) x) (events_placed col events 0)
    ∙ ap (λ l. composition (map effect_of l) x) (filter_swap (counts until) (in_col col) events)
    ∙ kept effect_of effect_apart col x (filter (counts until) events)
events_in_column col x events way.Back until =
    ap (λ l. composition (map back_of (reverse l)) x) (events_placed col events 0)
    ∙ ap (λ l. composition (map back_of l) x) (reverse_filter (in_col col) events)
    ∙ kept back_of back_apart col x (reverse events)

word_only : (d p m : Bool) → word (d && p) (d && m) ≡ only d (word p m)
word_only true p m = refl
word_only false p m = refl

delta_in_column : (col : Column) (x : Element) (d : Delta) (w : Way) (until : Option ℕ)
    → composition (taken w until (Exact (record { minus = in_column col d.minus; plus = in_column col d.plus }))) x
    ≡ only (same_column (column_of x) col) (composition (taken w until (Exact d)) x)
delta_in_column col x d way.Same until = only_none (same_column (column_of x) col)
delta_in_column col x d way.Forward until =
    let at = λ (s : List Element). has-filter (λ y. same_column (column_of y) col) s x in
    (λ i. word (at d.plus i) (at d.minus i)) ∙ word_only (same_column (column_of x) col) (has d.plus x) (has d.minus x)
delta_in_column col x d way.Back until =
    let at = λ (s : List Element). has-filter (λ y. same_column (column_of y) col) s x in
    (λ i. word (at d.minus i) (at d.plus i)) ∙ word_only (same_column (column_of x) col) (has d.minus x) (has d.plus x)

absent : (x : Element) → column_of x ≡ column.Transient → (set : List Element) → in_column column.Transient set ≡ [] → has set x ≡ false
absent x is set none =
    ap (λ c. same_column c column.Transient && has set x) (sym is)
    ∙ sym (has-filter (λ y. same_column (column_of y) column.Transient) set x)
    ∙ ap (λ l. has l x) none

-- no record that can be spelled says anything of a message
record_silent : (names : ℕ) (r : Record) → RecordFits names r → (w : Way) (until : Option ℕ) (x : Element) → column_of x ≡ column.Transient
    → composition (taken w until r) x ≡ As_it_was
record_silent names (Events events) fits way.Same until x is = refl
record_silent names (Events events) fits way.Forward until x is = unsaid effect_of effect_apart effect_silent x is (filter (counts until) events)
record_silent names (Events events) fits way.Back until x is = unsaid back_of back_apart back_silent x is (reverse events)
record_silent names (Exact d) fits way.Same until x is = refl
record_silent names (Exact d) fits way.Forward until x is =
    (λ i. word (absent x is d.plus fits.5.1 i) (absent x is d.minus fits.5.0 i))
record_silent names (Exact d) fits way.Back until x is =
    (λ i. word (absent x is d.minus fits.5.0 i) (absent x is d.plus fits.5.1 i))

-- the column of a delta without messages
pub spelled : (col : Column) (d : Delta) → HasNoMessage d → exact_column col d ≡ delta_column col d
spelled column.Structure d none = refl
spelled column.NodeAttr d none = refl
spelled column.EdgeAttr d none = refl
spelled column.Transient d none = sym (λ i. parts_bytes (none.0 i) (none.1 i))

-- ---- a column of a part

-- the deltas of a column that says this of each element
abbrev pub Column_says : ℕ → Part → Column → (Element → Says) → Type 0
Column_says names p col w =
    (list : List Delta) × (part_column_in names p col ≡ Ok list) × ((x : Element) → composition list x ≡ only (same_column (column_of x) col) (w x))

-- what the bytes of a column of the record are read as
module _ (names : ℕ) (few : names < 2 ^ 32) (col : Column) (w : Way) (until : Option ℕ) where
  -- the record that is read says in its column what the whole record says
  abbrev pub Read : Record → Bool → List ℕ → (Element → Says) → Type 0
  Read r b bytes said =
      (one : Record) × (record_in names b col bytes ≡ Ok one) × ((x : Element) → composition (taken w until one) x ≡ only (same_column (column_of x) col) (said x))

  read_asked : (r : Record) → RecordFits names r → Read r (are_events r) (column_of_record col r) (λ x. composition (taken w until r) x)
  read_asked (Events events) fits = (
    Events (map event_of (placed_in col events)),
    ap (λ e. and_then e (λ (placed : List Placed). Ok (Events (map event_of placed)))) (events_back col names events few fits.0 fits.1),
    λ x. events_in_column col x events w until,
  )
  read_asked (Exact d) fits = (
    Exact (record { minus = in_column col d.minus; plus = in_column col d.plus }),
    ap (λ e. and_then e (λ (z : Delta). Ok (Exact z)))
        (ap (delta_in col names) (spelled col d fits.5) ∙ deltas_back col names d few fits.0 fits.1 fits.2 fits.3 fits.4 fits.5),
    λ x. delta_in_column col x d w until,
  )

  -- a column of no bytes says nothing
  read_none : (r : Record) → Read r (are_events r) [] (λ x. As_it_was)
  read_none (Events events) = (Events [], refl, λ x. no_events x w until ∙ only_none (same_column (column_of x) col))
    where
      no_events : (x : Element) (v : Way) (u : Option ℕ) → composition (taken v u (Events [])) x ≡ As_it_was
      no_events x way.Same u = refl
      no_events x way.Forward u = refl
      no_events x way.Back u = refl
  read_none (Exact d) = (
    Exact (record { minus = []; plus = [] }),
    ap (λ e. and_then e (λ (z : Delta). Ok (Exact z))) (nothing_read (may_change col)),
    λ x. no_delta x w until ∙ only_none (same_column (column_of x) col),
  )
    where
      nothing_read : (may : Bool) → cond may (changes_in col names []) (no_changes_in []) ≡ Ok (record { minus = []; plus = [] })
      nothing_read true = refl
      nothing_read false = refl

      no_delta : (x : Element) (v : Way) (u : Option ℕ) → composition (taken v u (Exact (record { minus = []; plus = [] }))) x ≡ As_it_was
      no_delta x way.Same u = refl
      no_delta x way.Forward u = refl
      no_delta x way.Back u = refl

  read_column : (r : Record) → RecordFits names r → (b : Bool) → Read r (are_events r) (cond b (column_of_record col r) []) (λ x. only b (composition (taken w until r) x))
  read_column r fits true = read_asked r fits
  read_column r fits false = read_none r

column_says : (names : ℕ) → names < 2 ^ 32 → (cols : Columns) (r : Record) → RecordFits names r → (p : Part) → PartHasRecord cols r p → (col : Column)
    → Column_says names p col (λ x. only (asks (graph_columns cols) col) (composition (taken p.way p.until r) x))
column_says names few cols r fits p h col =
    let one = read_column names few col p.way p.until r fits (asks (graph_columns cols) col) in (
      taken p.way p.until one.0,
      (λ i. fault_named (λ (offset : ℕ). (p.key, col)) (and_then (record_in names (h.kind i) col (h.bytes col i)) (λ (x : Record). Ok (taken p.way p.until x))))
          ∙ ap (λ e. fault_named (λ (offset : ℕ). (p.key, col)) (and_then e (λ (x : Record). Ok (taken p.way p.until x)))) one.1,
      one.2,
    )

-- ---- all columns of a part

-- one of the three columns decides, where nothing is said of messages
one_decides : (c : Column) (f : Column → Says) → (c ≡ column.Transient → f column.Transient ≡ As_it_was)
    → then_says (only (same_column c column.Structure) (f column.Structure))
    (then_says (only (same_column c column.NodeAttr) (f column.NodeAttr)) (only (same_column c column.EdgeAttr) (f column.EdgeAttr)))
    ≡ f c
one_decides column.Structure f silent = refl
one_decides column.NodeAttr f silent = then_none (f column.NodeAttr)
one_decides column.EdgeAttr f silent = ap (then_says As_it_was) (then_none (f column.EdgeAttr)) ∙ then_none (f column.EdgeAttr)
one_decides column.Transient f silent = sym (silent refl)

pub parts_are_read : PartsAreRead
parts_are_read names few cols r fits p h =
    let says_at = column_says names few cols r fits p h in
    let s = says_at column.Structure in
    let n = says_at column.NodeAttr in
    let e = says_at column.EdgeAttr in (
      s.0 ++ (n.0 ++ e.0),
      (λ i. beside (s.1 i) (beside (n.1 i) (e.1 i))),
      λ x.
          can_be_cut s.0 (n.0 ++ e.0) x
          ∙ ap (then_says (composition s.0 x)) (can_be_cut n.0 e.0 x)
          ∙ (λ i. then_says (s.2 x i) (then_says (n.2 x i) (e.2 x i)))
          ∙ one_decides (column_of x) (λ c. only (asks cols c) (composition (taken p.way p.until r) x))
          (λ is. ap (only cols.transient) (record_silent names r fits p.way p.until x is) ∙ sym (only_none cols.transient)),
    )
