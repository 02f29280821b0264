-- What is known of recent events that were read, source by source, and are right: how many they are, and their times.
use Rattle.std.proofs.Common.{◌≡◌, ℕ, ◌+◌, ◌-◌, ◌*◌, ◌/◌, ◌<◌, ◌≤◌, Bool, true, false, ◌&&◌, List, [], ◌∷◌, ◌++◌, Option, Some, None, if◌then◌else◌, map, max, refl, sym, ◌∙◌, ap, subst, arith, div-mul-le_self, ◌⊎◌, inl, inr, ⊎_elim, div-lt_iff_lt-mul, eq-or-lt_of_le, mul-le-mul_right}
use Rattle.std.specs.Prelude.{nat_le, ◌==◌, sum_by}
use Rattle.std.proofs.lemmas.List.{map-append}
use Rattle.std.proofs.lemmas.List.Sums.{sum_by-cons}
use Rattle.std.proofs.lemmas.Bool.{and_parts}
use borrow.Author.Tests.{eq-eqb, eqb-true, leb-true}
use Rattle.dg_graph.specs.declared.element.Element.{Element}
use Rattle.dg_graph.specs.declared.event.Event.{Event}
use Rattle.dg_graph.specs.Completion.{completes}
use Rattle.dg_graph.specs.Effect.{forwards}
use Rattle.dg_history.specs.declared.limits.TheConstants.{BATCH_LINES_MAX, EVENTS_MAX}
use Rattle.dg_history.specs.declared.node.Key.{Key}
use Rattle.dg_history.specs.declared.params.Params.{Params}
use Rattle.dg_history.specs.EventTimes.{RisesFrom}
use Rattle.dg_history.specs.History.{last_time_from}
use Rattle.dg_history.proofs.EventTimes.{rises_later}
use Rattle.dg_index.specs.declared.entry.BatchEntry.{BatchEntry}
use Rattle.dg_index.specs.declared.entry.Ends.{Ends}
use Rattle.dg_index.specs.declared.entry.Entry.{Entry}
use Rattle.dg_index.specs.Hierarchy.{leaves}
use Rattle.dg_index.specs.IndexGrowth.{AreInTurn}
use Rattle.dg_index.specs.OpenedIndex.{Opening, earliest_in, event_total, first_in, last_list, last_or, may_follow}
use Rattle.dg_index.specs.RecentEvents.{RecentPiece, pieces_ahead}
use Rattle.dg_index.proofs.HierarchyStability.{leaves_more}
use Rattle.dg_start.specs.RecentEvents.{Source, first_wrong_event, is_right, piece_source, recent_sources}
use Rattle.dg_stored.specs.StoredHistory.{MayGoOn, floor_of, recent_count}
use Rattle.dg_start.proofs.EventSourceTimes.{AreOf, counts, tagged, untag, untagged}

-- ---- events that are right

-- each event lies between its instants
abbrev pub AreWithin : List (Ends × Event) → Type 0
AreWithin [] = Unit {0}
AreWithin (p ∷ pairs) = (p.0.first ≤ p.1.time) × (p.1.time ≤ p.0.last) × AreWithin pairs

is_within : (names : List (List ℕ)) (set : List Element) (p : Ends × Event) → is_right names set p ≡ true → (p.0.first ≤ p.1.time) × (p.1.time ≤ p.0.last)
is_within names set p h =
    let a = and_parts (completes names set p.1.body) (nat_le p.0.first p.1.time && nat_le p.1.time p.0.last) h in
    let t = and_parts (nat_le p.0.first p.1.time) (nat_le p.1.time p.0.last) a.1 in
    (leb-true p.0.first p.1.time t.0, leb-true p.1.time p.0.last t.1)

pub are_within : (names : List (List ℕ)) (n : ℕ) (set : List Element) (pairs : List (Ends × Event)) → first_wrong_event names n set pairs ≡ None → AreWithin pairs
are_within names n set [] h = tt
are_within names n set (p ∷ pairs) h = by (is_right names set p) refl h (λ e. are_within names (n + 1) (forwards set p.1) pairs e)
  where
    by : (right : Bool) → is_right names set p ≡ right → (if right then first_wrong_event names (n + 1) (forwards set p.1) pairs else Some n) ≡ None
        → (first_wrong_event names (n + 1) (forwards set p.1) pairs ≡ None → AreWithin pairs) → AreWithin (p ∷ pairs)
    by true is e later =
        let here = is_within names set p is in
        (here.0, here.1, later e)
    by false is e later = cc

-- ---- how many events there are

abbrev piece_counts : List RecentPiece → ℕ
piece_counts pieces = sum_by (λ (p : RecentPiece). p.count) pieces

pieces_count : (o : Opening) (pieces : List RecentPiece) → counts (map (piece_source o) pieces) ≡ piece_counts pieces
pieces_count o [] = refl
pieces_count o (p ∷ pieces) =
    sum_by-cons (λ (s : Source). s.count) (piece_source o p) (map (piece_source o) pieces) ∙ ap (λ m. p.count + m) (pieces_count o pieces) ∙ sym (sum_by-cons (λ (p : RecentPiece). p.count) p pieces)

pieces_more : (pieces : List RecentPiece) (p : RecentPiece) → piece_counts (pieces ++ p ∷ []) ≡ piece_counts pieces + p.count
pieces_more [] p = (let e : p.count + 0 ≡ 0 + p.count = omega arith in sum_by-cons (λ (p : RecentPiece). p.count) p [] ∙ e)
pieces_more (q ∷ pieces) p =
    omega (arith, pieces_more pieces p, sum_by-cons (λ (p : RecentPiece). p.count) q (pieces ++ p ∷ []), sum_by-cons (λ (p : RecentPiece). p.count) q pieces)

module _ (p : Params) (pos : 0 < p.l) where
  -- the events behind the last list, with those of a batch
  count_on : (count events kept : ℕ) (same : Bool) → (leaves p (count + events) == leaves p count) ≡ same → kept ≡ count - leaves p count * p.l
      → (if same then kept else 0) + (events - (leaves p (count + events) * p.l - count)) ≡ count + events - leaves p (count + events) * p.l
  count_on count events kept true e is =
      let equal : leaves p (count + events) * p.l ≡ leaves p count * p.l = ap (λ n. n * p.l) (eqb-true (leaves p (count + events)) (leaves p count) e) in
      omega (arith, is, equal, div-mul-le_self count p.l)
  count_on count events kept false e is =
      let after : ℕ = leaves p (count + events) in
      let up : leaves p count ≤ after = leaves_more p.l count events pos in
      let more : leaves p count + 1 ≤ after = strict (leaves p count) after up (λ q. absurd (let t : true ≡ false = sym (eq-eqb after (leaves p count) (sym q)) ∙ e in cc)) in
      let below : count < (leaves p count + 1) * p.l = (div-lt_iff_lt-mul pos).0 (let lt : count / p.l < leaves p count + 1 = omega arith in lt) in
      let over : (leaves p count + 1) * p.l ≤ after * p.l = mul-le-mul_right p.l more in
      omega (arith, below, over, div-mul-le_self (count + events) p.l)
    where
      strict : (a b : ℕ) → a ≤ b → (a ≡ b → ⊥) → a + 1 ≤ b
      strict a b le ne = ⊎_elim (λ (e : a ≡ b). absurd (ne e)) (λ (lt : a < b). let r : a + 1 ≤ b = omega (arith, lt) in r) (eq-or-lt_of_le le)

  ahead_count : (number count : ℕ) (kept : List RecentPiece) (batches : List BatchEntry) → piece_counts kept ≡ count - leaves p count * p.l
      → piece_counts (pieces_ahead p number count kept batches) ≡ count + event_total batches - leaves p (count + event_total batches) * p.l
  ahead_count number count kept [] is = is ∙ (let f : ℕ → ℕ = λ n. n - leaves p n * p.l in ap f (let e : count ≡ count + 0 = omega arith in e))
  ahead_count number count kept (b ∷ batches) is =
      let piece : RecentPiece = record { number = number; count = b.events - (leaves p (count + b.events) * p.l - count); batch = b } in
      ahead_count (number + 1) (count + b.events) ((if leaves p (count + b.events) == leaves p count then kept else []) ++ piece ∷ []) batches
      (pieces_more (if leaves p (count + b.events) == leaves p count then kept else []) piece
      ∙ ap (λ n. n + piece.count) (chosen (leaves p (count + b.events) == leaves p count))
      ∙ count_on count b.events (piece_counts kept) (leaves p (count + b.events) == leaves p count) refl is)
      ∙ (let f : ℕ → ℕ = λ n. n - leaves p n * p.l in
      ap f (let e : count + b.events + event_total batches ≡ count + event_total (b ∷ batches) = omega (arith, sum_by-cons (λ (b : BatchEntry). b.events) b batches) in e))
    where
      chosen : (same : Bool) → piece_counts (if same then kept else []) ≡ (if same then piece_counts kept else 0)
      chosen true = refl
      chosen false = refl

abbrev ahead_in : Opening → List RecentPiece
ahead_in o = pieces_ahead o.params 0 0 [] o.batches

-- the recent sources have the events behind the last closed list
pub recent_counts : (o : Opening) → 1 ≤ o.params.l → counts (recent_sources o) ≡ recent_count o
recent_counts o some =
    let n : ℕ = event_total o.batches in
    let ahead : piece_counts (ahead_in o) ≡ 0 + n - leaves o.params (0 + n) * o.params.l = ahead_count o.params (omega (arith, some)) 0 0 [] o.batches (let z : 0 ≡ 0 - leaves o.params 0 * o.params.l = omega arith in z) in
    pieces_count o (ahead_in o) ∙ ahead
    ∙ (let f : ℕ → ℕ = λ m. m - leaves o.params m * o.params.l in ap f (let e : 0 + n ≡ n = omega arith in e))

-- ---- their times

-- each batch begins behind the one before it, the first not before this time
abbrev Follow : ℕ → List BatchEntry → Type 0
Follow e [] = Unit {0}
Follow e (b ∷ batches) = (e ≤ b.ends.first) × (b.ends.first ≤ b.ends.last) × Follow (b.ends.last + 1) batches

times_of : (count earliest : ℕ) (b : BatchEntry) → may_follow count earliest b ≡ true → (earliest ≤ b.ends.first) × (b.ends.first ≤ b.ends.last)
times_of count earliest b h =
    let a = and_parts (nat_le 1 b.events) _ h in
    let c = and_parts (nat_le b.events BATCH_LINES_MAX) _ a.1 in
    let d = and_parts (nat_le (count + b.events) EVENTS_MAX) _ c.1 in
    let e = and_parts (nat_le earliest b.ends.first) _ d.1 in
    let f = and_parts (nat_le b.ends.first b.ends.last) _ e.1 in
    (leb-true earliest b.ends.first e.0, leb-true b.ends.first b.ends.last f.0)

follow : (count earliest : ℕ) (batches : List BatchEntry) → AreInTurn count earliest batches → Follow earliest batches
follow count earliest [] h = tt
follow count earliest (b ∷ batches) h =
    let t = times_of count earliest b h.0 in
    (t.0, t.1, follow (count + b.events) (b.ends.last + 1) batches h.1)

later_earliest : (e : ℕ) (batches : List BatchEntry) → Follow e batches → e ≤ earliest_in e batches
later_earliest e [] h = omega arith
later_earliest e (b ∷ batches) h = omega (arith, h.0, h.1, later_earliest (b.ends.last + 1) batches h.2)

-- each piece begins at the least time or later, and behind those before it
abbrev InTurn : Opening → ℕ → List RecentPiece → Type 0
InTurn o low [] = Unit {0}
InTurn o low (q ∷ pieces) = (low ≤ max q.batch.ends.first (last_list 0 o.records)) × InTurn o (max low q.batch.ends.last) pieces

abbrev EndBelow : ℕ → List RecentPiece → Type 0
EndBelow high [] = Unit {0}
EndBelow high (q ∷ pieces) = (q.batch.ends.last < high) × EndBelow high pieces

end_below_later : (a b : ℕ) (pieces : List RecentPiece) → a ≤ b → EndBelow a pieces → EndBelow b pieces
end_below_later a b [] le h = tt
end_below_later a b (q ∷ pieces) le h = (omega (arith, h.0, le), end_below_later a b pieces le h.1)

one_in_turn : (o : Opening) (low e : ℕ) (kept : List RecentPiece) (q : RecentPiece) → InTurn o low kept → EndBelow e kept → low ≤ max q.batch.ends.first (last_list 0 o.records) → e ≤ q.batch.ends.first
    → InTurn o low (kept ++ q ∷ [])
one_in_turn o low e [] q h below from late = (from, tt)
one_in_turn o low e (k ∷ kept) q h below from late =
    (h.0, one_in_turn o (max low k.batch.ends.last) e kept q h.1 below.1 (omega (arith, from, below.0, late)) late)

one_below : (e high : ℕ) (kept : List RecentPiece) (q : RecentPiece) → EndBelow e kept → e ≤ high → q.batch.ends.last < high → EndBelow high (kept ++ q ∷ [])
one_below e high [] q h le lt = (lt, tt)
one_below e high (k ∷ kept) q h le lt = (omega (arith, h.0, le), one_below e high kept q h.1 le lt)

-- the least time is that of the last list, or no later than a batch may begin
abbrev StartsBy : Opening → ℕ → ℕ → Type 0
StartsBy o low e = (low ≤ last_list 0 o.records) ⊎ (low ≤ e)

starts_from : (o : Opening) (low e first : ℕ) → StartsBy o low e → e ≤ first → low ≤ max first (last_list 0 o.records)
starts_from o low e first (inl h) le = omega (arith, h)
starts_from o low e first (inr h) le = omega (arith, h, le)

starts_later : (o : Opening) (low e f : ℕ) → StartsBy o low e → e ≤ f → StartsBy o low f
starts_later o low e f (inl h) le = inl h
starts_later o low e f (inr h) le = inr (omega (arith, h, le))

-- the recent pieces are in turn
record AreAhead (o : Opening) (low high : ℕ) (pieces : List RecentPiece) : Type 0 where
  in_turn : InTurn o low pieces
  below : EndBelow high pieces

ahead_in_turn : (o : Opening) (p : Params) (low e number count : ℕ) (kept : List RecentPiece) (batches : List BatchEntry) → StartsBy o low e → Follow e batches → AreAhead o low e kept
    → AreAhead o low (earliest_in e batches) (pieces_ahead p number count kept batches)
ahead_in_turn o p low e number count kept [] starts h a = a
ahead_in_turn o p low e number count kept (b ∷ batches) starts h a =
    let piece : RecentPiece = record { number = number; count = b.events - (leaves p (count + b.events) * p.l - count); batch = b } in
    ahead_in_turn o p low (b.ends.last + 1) (number + 1) (count + b.events) ((if leaves p (count + b.events) == leaves p count then kept else []) ++ piece ∷ []) batches
    (starts_later o low e (b.ends.last + 1) starts (omega (arith, h.0, h.1))) h.2
    (record {
      in_turn = one_in_turn o low e (if leaves p (count + b.events) == leaves p count then kept else []) piece (by (leaves p (count + b.events) == leaves p count)).in_turn
          (by (leaves p (count + b.events) == leaves p count)).below (starts_from o low e b.ends.first starts h.0) h.0;
      below = one_below e (b.ends.last + 1) (if leaves p (count + b.events) == leaves p count then kept else []) piece (by (leaves p (count + b.events) == leaves p count)).below
          (omega (arith, h.0, h.1)) (omega arith);
    })
  where
    by : (same : Bool) → AreAhead o low e (if same then kept else [])
    by true = a
    by false = record { in_turn = tt; below = tt }

-- ---- the floor of the next list

last_list_cases : (s : ℕ) (records : List (Key × Entry)) → (last_list s records ≡ s) ⊎ (last_list s records ≡ last_list 0 records)
last_list_cases s [] = inl refl
last_list_cases s (r ∷ records) = by r.1.ends (last_list_cases s records)
  where
    by : (e : Option Ends) → (last_list s records ≡ s) ⊎ (last_list s records ≡ last_list 0 records)
        → (last_list (last_or s e) records ≡ s) ⊎ (last_list (last_or s e) records ≡ last_list (last_or 0 e) records)
    by None h = h
    by (Some e) h = inr refl

-- where the next batch begins at this time
floor_starts : (o : Opening) (t : ℕ) (b : BatchEntry) (batches : List BatchEntry) → o.batches ≡ b ∷ batches → StartsBy o (floor_of o t) b.ends.first
floor_starts o t b batches is = by (last_list_cases (first_in t o.batches) o.records)
  where
    by : (last_list (first_in t o.batches) o.records ≡ first_in t o.batches) ⊎ (last_list (first_in t o.batches) o.records ≡ last_list 0 o.records) → StartsBy o (floor_of o t) b.ends.first
    by (inl h) = inr (let e : last_list (first_in t o.batches) o.records ≡ b.ends.first = h ∙ ap (first_in t) is in omega (arith, e))
    by (inr h) = inl (omega (arith, h))

floor_within : (o : Opening) (t : ℕ) → Follow 0 o.batches → last_list 0 o.records ≤ earliest_in 0 o.batches → earliest_in 0 o.batches ≤ t → floor_of o t ≤ t
floor_within o t h listed late = by (last_list_cases (first_in t o.batches) o.records)
  where
    first_within : (batches : List BatchEntry) → Follow 0 batches → earliest_in 0 batches ≤ t → first_in t batches ≤ t
    first_within [] h le = omega arith
    first_within (b ∷ batches) h le = omega (arith, h.1, later_earliest (b.ends.last + 1) batches h.2, le)

    by : (last_list (first_in t o.batches) o.records ≡ first_in t o.batches) ⊎ (last_list (first_in t o.batches) o.records ≡ last_list 0 o.records) → floor_of o t ≤ t
    by (inl e) = omega (arith, e, first_within o.batches h late)
    by (inr e) = omega (arith, e, listed, late)

-- the recent pieces of an index are in turn from the floor on
ahead_of : (o : Opening) (t : ℕ) → Follow 0 o.batches → AreAhead o (floor_of o t) (earliest_in 0 o.batches) (ahead_in o)
ahead_of o t h = by o.batches refl h
  where
    by : (batches : List BatchEntry) → o.batches ≡ batches → Follow 0 batches → AreAhead o (floor_of o t) (earliest_in 0 o.batches) (ahead_in o)
    by [] is f = subst (λ (l : List BatchEntry). AreAhead o (floor_of o t) (earliest_in 0 l) (pieces_ahead o.params 0 0 [] l)) (sym is) (record { in_turn = tt; below = tt })
    by (b ∷ batches) is f =
        let starts : StartsBy o (floor_of o t) b.ends.first = floor_starts o t b batches is in
        let from : Follow b.ends.first (b ∷ batches) = (omega arith, f.1, f.2) in
        subst (λ (l : List BatchEntry). AreAhead o (floor_of o t) (earliest_in 0 l) (pieces_ahead o.params 0 0 [] l)) (sym is)
        (ahead_in_turn o o.params (floor_of o t) b.ends.first 0 0 [] (b ∷ batches) starts from (record { in_turn = tt; below = tt }))

-- ---- the recent events rise

within_parts : (ends : Ends) (own : List Event) (rest : List (Ends × Event)) → AreWithin (tagged ends own ++ rest) → AreWithin (tagged ends own) × AreWithin rest
within_parts ends [] rest h = (tt, h)
within_parts ends (e ∷ own) rest h =
    let more = within_parts ends own rest h.2 in
    ((h.0, h.1, more.0), more.1)

-- those of one source, from a time on that is not later than its first
own_rise : (low s : ℕ) (ends : Ends) (own : List Event) (rest : List Event) → low ≤ ends.first → AreWithin (tagged ends own) → RisesFrom s own
    → RisesFrom (max low ends.last) rest → RisesFrom low (own ++ rest)
own_rise low s ends [] rest le h r more = rises_later low (max low ends.last) rest (omega arith) more
own_rise low s ends (e ∷ own) rest le h r more = (omega (arith, le, h.0), by own e.time h.1 h.2 r.1)
  where
    by : (own : List Event) (now : ℕ) → now ≤ ends.last → AreWithin (tagged ends own) → RisesFrom now own → RisesFrom now (own ++ rest)
    by [] now le h r = rises_later now (max low ends.last) rest (omega (arith, le)) more
    by (x ∷ own) now le h r = (r.0, by own x.time h.1 h.2 r.1)

pieces_rise : (o : Opening) (low : ℕ) (pieces : List RecentPiece) (pairs : List (Ends × Event)) → InTurn o low pieces → AreOf (map (piece_source o) pieces) pairs → AreWithin pairs
    → RisesFrom low (untag pairs)
pieces_rise o low [] pairs turn a h = subst (λ (l : List (Ends × Event)). RisesFrom low (untag l)) (sym a) tt
pieces_rise o low (q ∷ pieces) pairs turn a h =
    let ends : Ends = (piece_source o q).ends in
    let parts = within_parts ends a.0 a.1 (subst AreWithin a.2 h) in
    let rest : RisesFrom (max low q.batch.ends.last) (untag a.1) = pieces_rise o (max low q.batch.ends.last) pieces a.1 turn.1 a.5 parts.1 in
    subst (RisesFrom low) (sym (ap untag a.2 ∙ map-append (λ (e : Ends × Event). e.1) (tagged ends a.0) a.1 ∙ ap (λ (l : List Event). l ++ untag a.1) (untagged ends a.0)))
    (own_rise low 0 ends a.0 (untag a.1) turn.0 parts.0 a.4 rest)

-- no event is later than this time
abbrev AllBy : ℕ → List Event → Type 0
AllBy t [] = Unit {0}
AllBy t (e ∷ events) = (e.time ≤ t) × AllBy t events

last_within : (low t : ℕ) (events : List Event) → AllBy t events → low ≤ t → last_time_from low events ≤ t
last_within low t [] all le = le
last_within low t (e ∷ events) all le = last_within e.time t events all.1 all.0

own_by : (t : ℕ) (ends : Ends) (own : List Event) (rest : List Event) → ends.last ≤ t → AreWithin (tagged ends own) → AllBy t rest → AllBy t (own ++ rest)
own_by t ends [] rest le h more = more
own_by t ends (e ∷ own) rest le h more = (omega (arith, h.1, le), own_by t ends own rest le h.2 more)

pieces_by : (o : Opening) (t : ℕ) (pieces : List RecentPiece) (pairs : List (Ends × Event)) → EndBelow t pieces → AreOf (map (piece_source o) pieces) pairs → AreWithin pairs → AllBy t (untag pairs)
pieces_by o t [] pairs below a h = subst (λ (l : List (Ends × Event)). AllBy t (untag l)) (sym a) tt
pieces_by o t (q ∷ pieces) pairs below a h =
    let ends : Ends = (piece_source o q).ends in
    let parts = within_parts ends a.0 a.1 (subst AreWithin a.2 h) in
    subst (AllBy t) (sym (ap untag a.2 ∙ map-append (λ (e : Ends × Event). e.1) (tagged ends a.0) a.1 ∙ ap (λ (l : List Event). l ++ untag a.1) (untagged ends a.0)))
    (own_by t ends a.0 (untag a.1) (omega (arith, below.0)) parts.0 (pieces_by o t pieces a.1 below.1 a.5 parts.1))

-- a batch may follow the recent events of an index that were read and are right
pub may_go_on : (o : Opening) (pairs : List (Ends × Event)) → AreInTurn 0 0 o.batches → last_list 0 o.records ≤ earliest_in 0 o.batches
    → AreOf (recent_sources o) pairs → AreWithin pairs → MayGoOn (Some o) (untag pairs)
may_go_on o pairs turns listed a within t late =
    let f : Follow 0 o.batches = follow 0 0 o.batches turns in
    let ahead : AreAhead o (floor_of o t) (earliest_in 0 o.batches) (ahead_in o) = ahead_of o t f in
    record {
      rises = pieces_rise o (floor_of o t) (ahead_in o) pairs ahead.in_turn a within;
      last = last_within (floor_of o t) t (untag pairs)
          (pieces_by o t (ahead_in o) pairs (end_below_later (earliest_in 0 o.batches) t (ahead_in o) late ahead.below) a within)
          (floor_within o t f listed late);
    }
