-- What the asked columns of the lists of a range have over an image of a history.
use Rattle.std.proofs.Common.{◌≡◌, ℕ, ◌+◌, ◌*◌, ◌<◌, ◌≤◌, Bool, true, false, cond, ◌&&◌, ◌||◌, List as ListOf, [], ◌∷◌, ◌++◌, Option, Some, None, length, map, filter, drop, Ok, refl, sym, ap, ◌∙◌, subst, arith, add-mul, append_assoc, length-drop, length-take-le}
use Rattle.std.specs.Prelude.{IfSome, nat_eq, nat_le, nat_lt}
use Rattle.std.specs.List.{flat_map, list_any}
use Rattle.std.specs.Option.{option_eq, option_map, option_or, option_to_list}
use Rattle.std.proofs.lemmas.Bool.{false≢true, lt-leb, le-ltb, ltb-false, leb-false, leb-true}
use Rattle.std.proofs.lemmas.List.Concat.{flat_map-append}
use Rattle.std.proofs.lemmas.List.Folds.{list_any-append}
use Rattle.dg_added.specs.Additions.{added_between, lies_within, put_by}
use Rattle.dg_added.specs.PutIn.{one_put_within, put_within}
use Rattle.dg_added.proofs.PutIn.{added_is}
use Rattle.dg_columns.specs.ColumnLaws.{EventsAreReadBack}
use Rattle.dg_columns.specs.Ranges.{EventsFit}
use Rattle.dg_columns.proofs.ColumnLawEvents.{same_column_is}
use Rattle.dg_columns.proofs.EventRanges.{fit_drop, fit_take}
use Rattle.dg_fold.specs.HistoryTrees.{LegalIsIndexed}
use Rattle.dg_fold.specs.HistoryPaths.{IsIndexed}
use Rattle.dg_graph.specs.ColumnGrammar.{events_in}
use Rattle.dg_graph.specs.Columns.{column_of_body, events_column, placed_from, placed_in, same_column}
use Rattle.dg_graph.specs.Effect.{moved}
use Rattle.dg_graph.specs.Elements.{IsSet, asks, column_of, has, same, shown}
use Rattle.dg_graph.specs.declared.element.Column.{Column}
use Rattle.dg_graph.specs.declared.element.Column.TheVariants.{Structure, NodeAttr, EdgeAttr, Transient}
use Rattle.dg_graph.specs.declared.element.Columns.{Columns}
use Rattle.dg_graph.specs.declared.element.Element.{Element}
use Rattle.dg_graph.specs.declared.element.Element.TheVariants as element
use Rattle.dg_graph.specs.declared.event.Body.{Body}
use Rattle.dg_graph.specs.declared.event.Body.TheVariants as body
use Rattle.dg_graph.specs.declared.event.Event.{Event}
use Rattle.dg_graph.specs.declared.placed.Placed.{Placed}
use Rattle.dg_graph.proofs.Sets.{IsSet-filter, IsSet-unioned, element_exact, has-filter, has-unioned, same_members}
use Rattle.dg_heard.proofs.KeptLists.{IsKept, each_list}
use Rattle.dg_heard.proofs.ToldLists.{list_rises, lists_whole}
use Rattle.dg_heard.specs.ListColumns.{events_or, events_at}
use Rattle.dg_history.specs.EventTimes.{RisesFrom}
use Rattle.dg_history.specs.declared.node.Key.TheVariants.{List}
use Rattle.dg_history.specs.History.{History, events_of, first_time_of, last_time_from, names_of}
use Rattle.dg_history.proofs.EventTimes.{rises_last}
use Rattle.dg_history.proofs.LegalHistories.{events_rise}
use Rattle.dg_index.specs.FileLaws.{ColumnsAreKept}
use Rattle.dg_index.specs.Hierarchy.{leaves, numbers}
use Rattle.dg_index.specs.ImageOfHistory.{IsImageOf}
use Rattle.dg_index.specs.IndexRecords.{closed_list, recent_of}
use Rattle.dg_index.specs.OpenedIndex.{Opening, column_at, entry_at, opened_of}
use Rattle.dg_index.specs.declared.entry.Entry.{Entry}
use Rattle.dg_index.proofs.HeldRecords.{IsHeld, held_at, known}
use Rattle.dg_index.proofs.IndexRecordColumns.{Each}
use Rattle.dg_range.specs.Added.{asked_columns, range_columns}
use Rattle.dg_range.specs.AddedLaw.{ImagesHaveAdded}
use Rattle.dg_range.specs.ColumnRuns.{and_more, before_more, events_along}
use Rattle.dg_range.specs.Ranges.{meets}

-- ---- the column of a list

abbrev in_column : Column → Event → Bool
in_column c e = same_column (column_of_body e.body) c

abbrev column_events : Column → ListOf Event → ListOf Event
column_events c events = map (λ (p : Placed). p.event) (placed_in c events)

abbrev column_from : Column → ℕ → ListOf Event → ListOf Event
column_from c n events = map (λ (p : Placed). p.event) (filter (λ (p : Placed). same_column (column_of_body p.event.body) c) (placed_from n events))

column_is : (c : Column) (n : ℕ) (events : ListOf Event) → column_from c n events ≡ filter (in_column c) events
column_is c n [] = refl
column_is c n (e ∷ events) = by (in_column c e) (column_is c (n + 1) events)
  where
    more : ListOf Placed
    more = filter (λ (p : Placed). same_column (column_of_body p.event.body) c) (placed_from (n + 1) events)

    by : (b : Bool) → column_from c (n + 1) events ≡ filter (in_column c) events
        → map (λ (p : Placed). p.event) (cond b (record { at = n; event = e } ∷ more) more) ≡ cond b (e ∷ filter (in_column c) events) (filter (in_column c) events)
    by true same = ap (λ l. e ∷ l) same
    by false same = same

-- ---- columns one behind another

along_list : (names : ℕ) (image : ListOf ℕ) (o : Opening) (i : ℕ) (f : Column → ListOf Event) → ((c : Column) → events_at names image o i c ≡ Ok (f c))
    → (more : ListOf (ℕ × Column)) (rest : ListOf Event) → events_along names image o more ≡ Ok rest → (cs : ListOf Column)
    → events_along names image o (map (λ (c : Column). (i, c)) cs ++ more) ≡ Ok (flat_map f cs ++ rest)
along_list names image o i f read more rest is [] = is
along_list names image o i f read more rest is (c ∷ cs) =
    (λ j. before_more (i, c) (read c j) (events_along names image o (map (λ (c : Column). (i, c)) cs ++ more)))
    ∙ ap (and_more (f c)) (along_list names image o i f read more rest is cs)
    ∙ ap (λ l. Ok l) (sym (append_assoc (f c) (flat_map f cs) rest))

abbrev four : ListOf Column
four = Structure ∷ NodeAttr ∷ EdgeAttr ∷ Transient ∷ []

along_lists : (names : ℕ) (image : ListOf ℕ) (o : Opening) (cols : Columns) (f : ℕ → Column → ListOf Event) (keeps : ℕ → Bool) (lists : ListOf ℕ) → Each (λ i. (c : Column) → events_at names image o i c ≡ Ok (f i c)) lists
    → events_along names image o (asked_columns cols (filter keeps lists)) ≡ Ok (flat_map (λ i. flat_map (f i) (filter (asks cols) four)) (filter keeps lists))
along_lists names image o cols f keeps [] all = refl
along_lists names image o cols f keeps (i ∷ lists) all = by (keeps i) (along_lists names image o cols f keeps lists all.1)
  where
    own : ℕ → ListOf Event
    own i = flat_map (f i) (filter (asks cols) four)

    by : (b : Bool) → events_along names image o (asked_columns cols (filter keeps lists)) ≡ Ok (flat_map own (filter keeps lists))
        → events_along names image o (asked_columns cols (cond b (i ∷ filter keeps lists) (filter keeps lists))) ≡ Ok (flat_map own (cond b (i ∷ filter keeps lists) (filter keeps lists)))
    by true more = along_list names image o i (f i) all.0 (asked_columns cols (filter keeps lists)) (flat_map own (filter keeps lists)) more (filter (asks cols) four)
    by false more = more

-- ---- what events add of one element

moved_puts : (P : Element → Type 0) (make : ℕ → Element) (new old : Option ℕ) → ((n : ℕ) → P (make n)) → IfSome (option_or (moved make new old) None) P
moved_puts P make new old f = by (option_eq nat_eq new old) new
  where
    by : (b : Bool) (new : Option ℕ) → IfSome (option_or (cond b None (option_map make new)) None) P
    by true new = tt
    by false None = tt
    by false (Some n) = f n

column_put : (b : Body) → IfSome (put_by b) (λ x. column_of x ≡ column_of_body b)
column_put (body.NodeAdded id) = refl
column_put (body.NodeRemoved id) = tt
column_put (body.EdgeAdded directed id src dst) = refl
column_put (body.EdgeRemoved directed id src dst) = tt
column_put (body.NodeAttr key id old new) = moved_puts (λ x. column_of x ≡ NodeAttr) (element.NodeAttr id key) new old (λ n. refl)
column_put (body.EdgeAttr key id old new) = moved_puts (λ x. column_of x ≡ EdgeAttr) (element.EdgeAttr id key) new old (λ n. refl)
column_put (body.Message src dst value) = refl

same_column_itself : (c : Column) → same_column c c ≡ true
same_column_itself Structure = refl
same_column_itself NodeAttr = refl
same_column_itself EdgeAttr = refl
same_column_itself Transient = refl

module _ (from until : ℕ) (q : Element) where
  abbrev adds : ListOf Event → Bool
  adds events = has (put_within from until events) q

  adds_more : (a b : ListOf Event) → adds (a ++ b) ≡ (adds a || adds b)
  adds_more a b =
      ap (λ l. has l q) (flat_map-append (λ e. option_to_list (one_put_within from until e)) a b) ∙ list_any-append (same q) (put_within from until a) (put_within from until b)

  adds_alike : (a b c d : ListOf Event) → adds a ≡ adds c → adds b ≡ adds d → adds (a ++ b) ≡ adds (c ++ d)
  adds_alike a b c d e f = adds_more a b ∙ (λ i. e i || f i) ∙ sym (adds_more c d)

  -- an event of another column adds it not
  other_column : (e : Event) → same_column (column_of_body e.body) (column_of q) ≡ false → adds (e ∷ []) ≡ false
  other_column e other = by (lies_within from until e) (put_by e.body) (column_put e.body)
    where
      differs : (x : Element) → column_of x ≡ column_of_body e.body → (b : Bool) → same q x ≡ b → (b || false) ≡ false
      differs x is true here =
          absurd (false≢true (sym other ∙ ap (λ d. same_column (column_of_body e.body) d) (ap column_of (element_exact q x here) ∙ is) ∙ same_column_itself (column_of_body e.body)))
      differs x is false here = refl

      by : (l : Bool) (o : Option Element) → IfSome o (λ x. column_of x ≡ column_of_body e.body) → has (option_to_list (cond l o None) ++ []) q ≡ false
      by false o is = refl
      by true None is = refl
      by true (Some x) is = differs x is (same q x) refl

  -- its column adds it as all do
  own_column : (c : Column) → same_column c (column_of q) ≡ true → (events : ListOf Event) → adds (filter (in_column c) events) ≡ adds events
  own_column c is [] = refl
  own_column c is (e ∷ events) = by (in_column c e) refl (own_column c is events)
    where
      by : (b : Bool) → in_column c e ≡ b → adds (filter (in_column c) events) ≡ adds events → adds (cond b (e ∷ filter (in_column c) events) (filter (in_column c) events)) ≡ adds (e ∷ events)
      by true here more = adds_alike (e ∷ []) (filter (in_column c) events) (e ∷ []) events refl more
      by false here more =
          adds_alike [] (filter (in_column c) events) (e ∷ []) events (sym (other_column e (ap (λ d. same_column (column_of_body e.body) d) (sym (same_column_is c (column_of q) is)) ∙ here))) more

  -- and another adds it not
  not_own : (c : Column) → same_column c (column_of q) ≡ false → (events : ListOf Event) → adds (filter (in_column c) events) ≡ false
  not_own c is [] = refl
  not_own c is (e ∷ events) = by (in_column c e) refl (not_own c is events)
    where
      by : (b : Bool) → in_column c e ≡ b → adds (filter (in_column c) events) ≡ false → adds (cond b (e ∷ filter (in_column c) events) (filter (in_column c) events)) ≡ false
      by true here more =
          adds_more (e ∷ []) (filter (in_column c) events)
          ∙ (λ i. other_column e (ap (λ d. same_column d (column_of q)) (same_column_is (column_of_body e.body) c here) ∙ is) i || more i)
      by false here more = more

  -- columns add it as all events do, where its column is among them
  columns_add : (events : ListOf Event) (cs : ListOf Column) → adds (flat_map (λ c. column_events c events) cs) ≡ (list_any (λ c. same_column c (column_of q)) cs && adds events)
  columns_add events [] = refl
  columns_add events (c ∷ cs) =
      adds_more (column_events c events) (flat_map (λ c. column_events c events) cs)
      ∙ (λ i. adds (column_is c 0 events i) || columns_add events cs i)
      ∙ by (same_column c (column_of q)) refl (list_any (λ c. same_column c (column_of q)) cs)
    where
      both : (a b : Bool) → (a || (b && a)) ≡ a
      both true b = refl
      both false true = refl
      both false false = refl

      by : (x : Bool) → same_column c (column_of q) ≡ x → (y : Bool) → (adds (filter (in_column c) events) || (y && adds events)) ≡ ((x || y) && adds events)
      by true is y = ap (λ a. a || (y && adds events)) (own_column c is events) ∙ both (adds events) y
      by false is y = ap (λ a. a || (y && adds events)) (not_own c is events)

  -- lists that are not met add nothing
  lists_add : (keeps : ℕ → Bool) (f g : ℕ → ListOf Event) (lists : ListOf ℕ) → Each (λ i. adds (f i) ≡ adds (g i)) lists → Each (λ i. keeps i ≡ false → adds (g i) ≡ false) lists
      → adds (flat_map f (filter keeps lists)) ≡ adds (flat_map g lists)
  lists_add keeps f g [] alike none = refl
  lists_add keeps f g (i ∷ lists) alike none = by (keeps i) refl (lists_add keeps f g lists alike.1 none.1)
    where
      by : (b : Bool) → keeps i ≡ b → adds (flat_map f (filter keeps lists)) ≡ adds (flat_map g lists) → adds (flat_map f (cond b (i ∷ filter keeps lists) (filter keeps lists))) ≡ adds (flat_map g (i ∷ lists))
      by true is more = adds_alike (f i) (flat_map f (filter keeps lists)) (g i) (flat_map g lists) alike.0 more
      by false is more = adds_alike [] (flat_map f (filter keeps lists)) (g i) (flat_map g lists) (sym (none.0 is)) more

asked_there : (cols : Columns) (d : Column) → asks cols d ≡ true → list_any (λ c. same_column c d) (filter (asks cols) four) ≡ true
asked_there cols d e = by d cols.nodes_attr cols.edges_attr cols.transient e
  where
    by : (d : Column) (x y z : Bool) → asks (record { nodes_attr = x; edges_attr = y; transient = z }) d ≡ true → list_any (λ c. same_column c d) (filter (asks (record { nodes_attr = x; edges_attr = y; transient = z })) four) ≡ true
    by Structure x y z e = refl
    by NodeAttr true y z e = refl
    by NodeAttr false y z e = absurd (false≢true e)
    by EdgeAttr true true z e = refl
    by EdgeAttr false true z e = refl
    by EdgeAttr x false z e = absurd (false≢true e)
    by Transient true true true e = refl
    by Transient true false true e = refl
    by Transient false true true e = refl
    by Transient false false true e = refl
    by Transient x y false e = absurd (false≢true e)

-- ---- a list that is not met

none_more : (from until : ℕ) (e : Event) (events : ListOf Event) → lies_within from until e ≡ false → put_within from until events ≡ [] → put_within from until (e ∷ events) ≡ []
none_more from until e events out none = λ i. option_to_list (cond (out i) (put_by e.body) None) ++ none i

both_false : (a b : Bool) → b ≡ false → (a && b) ≡ false
both_false true b e = e
both_false false b e = refl

put_late : (from until s : ℕ) (events : ListOf Event) → RisesFrom s events → until ≤ s → put_within from until events ≡ []
put_late from until s [] r le = refl
put_late from until s (e ∷ events) r le =
    none_more from until e events (both_false (nat_le from e.time) (nat_lt e.time until) (le-ltb e.time until (omega (arith, le, r.0)))) (put_late from until e.time events r.1 (omega (arith, le, r.0)))

put_early : (from until s : ℕ) (events : ListOf Event) → RisesFrom s events → last_time_from s events < from → put_within from until events ≡ []
put_early from until s [] r lt = refl
put_early from until s (e ∷ events) r lt =
    none_more from until e events (ap (λ b. b && nat_lt e.time until) (lt-leb from e.time (omega (arith, lt, rises_last e.time events r.1)))) (put_early from until e.time events r.1 lt)

put_never : (from until : ℕ) (events : ListOf Event) → until ≤ from → put_within from until events ≡ []
put_never from until [] le = refl
put_never from until (e ∷ events) le = none_more from until e events (by (nat_le from e.time) refl) (put_never from until events le)
  where
    by : (b : Bool) → nat_le from e.time ≡ b → (b && nat_lt e.time until) ≡ false
    by true is = let most = leb-true from e.time is in le-ltb e.time until (omega (arith, le, most))
    by false is = refl

put_unmet : (from until s : ℕ) (events : ListOf Event) → RisesFrom s events → (nat_lt from until && (nat_lt (first_time_of events) until && nat_le from (last_time_from 0 events))) ≡ false → put_within from until events ≡ []
put_unmet from until s [] r out = refl
put_unmet from until s (e ∷ events) r out = by (nat_lt from until) (nat_lt e.time until) (nat_le from (last_time_from e.time events)) refl refl refl out
  where
    by : (a b c : Bool) → nat_lt from until ≡ a → nat_lt e.time until ≡ b → nat_le from (last_time_from e.time events) ≡ c → (a && (b && c)) ≡ false → put_within from until (e ∷ events) ≡ []
    by false b c x y z out = put_never from until (e ∷ events) (ltb-false from until x)
    by true false c x y z out = put_late from until e.time (e ∷ events) (omega arith, r.1) (ltb-false e.time until y)
    by true true false x y z out = put_early from until s (e ∷ events) r (leb-false from (last_time_from e.time events) z)
    by true true true x y z out = absurd (false≢true (sym out))

module _ (kept : ColumnsAreKept) (back : EventsAreReadBack) (indexed : LegalIsIndexed) (z : History) (image : ListOf ℕ) (h : IsImageOf z image) (from until : ℕ) (cols : Columns) where
  abbrev own : ℕ → ListOf Event
  own i = closed_list z.params (events_of z) i

  abbrev lists : ListOf ℕ
  lists = numbers 0 (leaves z.params (length (events_of z)))

  abbrev keeps : ℕ → Bool
  keeps i = meets from until (entry_at (opened_of z).index (List i)).ends

  -- the events of the asked columns of a list
  abbrev asked_of : ℕ → ListOf Event
  asked_of i = flat_map (λ c. column_events c (own i)) (filter (asks cols) four)

  index_is : IsIndexed (length (names_of z)) z
  index_is = (indexed z h.legal).0

  -- a column of a list is read as that of the history's list
  list_read : (i : ℕ) → IsKept z h.legal i → (c : Column) → events_at (length (names_of z)) image (opened_of z).index i c ≡ Ok (column_events c (own i))
  list_read i is c =
      let names : ℕ = length (names_of z) in
      let l : ℕ = z.params.l in
      let behind : ListOf Event = drop (i * l) (events_of z) in
      let full = is.full in
      let next : (i + 1) * l ≡ i * l + l = omega (arith, add-mul i 1 l) in
      let long : length (own i) ≡ l = length-take-le l behind (omega (arith, length-drop (i * l) (events_of z), full, next)) in
      let short = index_is.short in
      let fit : EventsFit names 0 (own i) = fit_take names 0 l behind (fit_drop names 0 (i * l) (events_of z) index_is.fits) in
      let e : IsHeld (opened_of z).index (List i) = held_at (opened_of z).index (List i) is.held in
      let bytes : column_at image (entry_at (opened_of z).index (List i)) c ≡ events_column c (own i) =
      ap (λ (x : Entry). column_at image x c) e.is ∙ kept z image h (List i) e.entry e.found c in
      ap (λ (b : ListOf ℕ). events_or i (events_in c names b)) bytes
      ∙ ap (events_or i) (back c names (own i) index_is.names_fit (omega (arith, long, short)) fit)

  read : events_along (length (names_of z)) image (opened_of z).index (range_columns (opened_of z).index from until cols) ≡ Ok (flat_map asked_of (filter keeps lists))
  read =
      let names : ℕ = length (names_of z) in
      let o : Opening = (opened_of z).index in
      (λ j. events_along names image o (asked_columns cols (filter keeps (numbers 0 (leaves ((known z).params j) ((known z).count j))))))
      ∙ along_lists names image o cols (λ i c. column_events c (own i)) keeps lists
      (each_list z h.legal (λ i. (c : Column) → events_at names image o i c ≡ Ok (column_events c (own i))) list_read)

  module _ (q : Element) (asked : asks cols (column_of q) ≡ true) where
    unmet : (i : ℕ) → IsKept z h.legal i → keeps i ≡ false → adds from until q (own i) ≡ false
    unmet i is out =
        ap (λ l. has l q) (put_unmet from until _ (own i) (list_rises z.params (events_of z) i (events_rise z h.legal)) (ap (meets from until) (sym is.ends) ∙ out))

    lists_same : adds from until q (flat_map asked_of (filter keeps lists)) ≡ adds from until q (flat_map own lists)
    lists_same =
        lists_add from until q keeps asked_of own lists
        (each_list z h.legal (λ i. adds from until q (asked_of i) ≡ adds from until q (own i))
        (λ i is. columns_add from until q (own i) (filter (asks cols) four) ∙ ap (λ b. b && adds from until q (own i)) (asked_there cols (column_of q) asked)))
        (each_list z h.legal (λ i. keeps i ≡ false → adds from until q (own i) ≡ false) unmet)

    all_same : adds from until q (flat_map asked_of (filter keeps lists) ++ recent_of z.params (events_of z)) ≡ adds from until q (events_of z)
    all_same =
        let events : ListOf Event = events_of z in
        let n : ℕ = leaves z.params (length events) in
        let recent : recent_of z.params events ≡ drop ((0 + n) * z.params.l) events = ap (λ c. drop (c * z.params.l) events) (let e : n ≡ 0 + n = omega arith in e) in
        let all : drop (0 * z.params.l) events ≡ events = ap (λ c. drop c events) (let e : 0 * z.params.l ≡ 0 = omega arith in e) in
        adds_alike from until q (flat_map asked_of (filter keeps lists)) (recent_of z.params events) (flat_map own lists) (recent_of z.params events) lists_same refl
        ∙ ap (adds from until q) (ap (λ (l : ListOf Event). flat_map own lists ++ l) recent ∙ lists_whole z.params events 0 n ∙ all)

has_added : (from until : ℕ) (events : ListOf Event) (q : Element) → has (added_between from until events) q ≡ adds from until q events
has_added from until events q = ap (λ set. has set q) (sym (added_is from until events)) ∙ has-unioned [] (put_within from until events) q

added_set : (from until : ℕ) (events : ListOf Event) → IsSet (added_between from until events)
added_set from until events = subst IsSet (added_is from until events) (IsSet-unioned [] (put_within from until events) tt)

same_shown : (from until : ℕ) (cols : Columns) (a b : ListOf Event) → ((q : Element) → asks cols (column_of q) ≡ true → adds from until q a ≡ adds from until q b) → shown (added_between from until a) cols ≡ shown (added_between from until b) cols
same_shown from until cols a b alike =
    same_members (shown (added_between from until a) cols) (shown (added_between from until b) cols)
    (IsSet-filter (λ x. asks cols (column_of x)) (added_between from until a) (added_set from until a))
    (IsSet-filter (λ x. asks cols (column_of x)) (added_between from until b) (added_set from until b))
    (λ q. has-filter (λ x. asks cols (column_of x)) (added_between from until a) q ∙ by q (asks cols (column_of q)) refl ∙ sym (has-filter (λ x. asks cols (column_of x)) (added_between from until b) q))
  where
    by : (q : Element) (x : Bool) → asks cols (column_of q) ≡ x → (x && has (added_between from until a) q) ≡ (x && has (added_between from until b) q)
    by q true is = has_added from until a q ∙ alike q is ∙ sym (has_added from until b q)
    by q false is = refl

pub images_have_added : ColumnsAreKept → EventsAreReadBack → LegalIsIndexed → ImagesHaveAdded
images_have_added kept back indexed z image h from until cols = record {
  events = flat_map (asked_of kept back indexed z image h from until cols) (filter (keeps kept back indexed z image h from until cols) (lists kept back indexed z image h from until cols));
  read = read kept back indexed z image h from until cols;
  added = same_shown from until cols _ (events_of z) (all_same kept back indexed z image h from until cols);
}
