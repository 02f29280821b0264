-- The node that a catalogue of a history gives for an instant is the instant's point.
use Rattle.std.proofs.Common.{◌≡◌, ℕ, zero, suc, ◌+◌, ◌-◌, ◌*◌, ◌/◌, ◌<◌, ◌≤◌, Bool, true, false, cond, List as ListOf, [], ◌∷◌, length, take, drop, Option, Some, None, is_some, refl, sym, ap, ◌∙◌, arith, ⊎_elim, le-div_iff_mul-le, div-lt_iff_lt-mul, mul-le-mul_right, add-mul, length-drop, drop-drop}
use Rattle.std.specs.Prelude.{◌==◌, ◌%◌, ◌&&◌, nat_le, nat_lt, option_and_then}
use Rattle.std.specs.Map.{lookup}
use Rattle.std.proofs.lemmas.Bool.{le-leb, le-ltb, lt-ltb, ltb-true, ltb-false, leb-true, eqb-true, eqb-false, eq-eqb, ne_eqb, cases_lt, false≢true, and_parts}
use Rattle.std.proofs.lemmas.Nat.{div-add-mod'}
use Rattle.std.proofs.Math.Nat.{mod-lt}
use Rattle.std.proofs.lemmas.Option.{same_Some}
use Rattle.dg_graph.specs.declared.event.Event.{Event}
use Rattle.dg_graph.specs.Replay.{events_until}
use Rattle.dg_history.specs.declared.node.Key.{Key}
use Rattle.dg_history.specs.declared.node.Key.TheVariants as key
use Rattle.dg_history.specs.declared.node.NodeId.{NodeId}
use Rattle.dg_history.specs.declared.node.NodeId.TheVariants.{Now, Recent, Leaf, List}
use Rattle.dg_history.specs.declared.params.Params.{Params}
use Rattle.dg_history.specs.Keys.{same_key}
use Rattle.dg_history.specs.History.{History, events_of, first_time_of, last_time_from, span_of, in_range}
use Rattle.dg_history.specs.LegalHistory.{IsLegal}
use Rattle.dg_history.proofs.LegalHistories.{events_rise}
use Rattle.dg_index.specs.declared.entry.Ends.{Ends}
use Rattle.dg_index.specs.declared.entry.Entry.{Entry}
use Rattle.dg_index.specs.Hierarchy.{leaves}
use Rattle.dg_index.specs.IndexRecords.{recent_of}
use Rattle.dg_index.specs.OpenedIndex.{opened_of}
use Rattle.dg_index.proofs.OpenedIndexRecords.{ends_in, told_at, record_held}
use Rattle.dg_index.proofs.OpenedIndexHistories.{large_parameters}
use Rattle.dg_plan.specs.InstantPoint.{point, point_at}
use Rattle.dg_catalogue.specs.Entries.{Holdings}
use Rattle.dg_catalogue.specs.Held.{ends_of}
use Rattle.dg_catalogue.specs.Points.{ListsRise, begin_by, end_by, has_begun, begun_by, has_come, point_in, point_in_lists, point_of}
use Rattle.dg_catalogue.proofs.PointLists.{begun_is}
use Rattle.dg_planner.specs.HistoryLaws.{HoldsRecordsOf, PointsOfHistory, kept_span, first_time_in}
use Rattle.dg_planner.proofs.ReplayInstants.{time_at, counted, until_few, times_rise, last_at, last_is, first_taken, by_then, has_come_is}

-- ---- numbers

less_by : (l a b : ℕ) → a * l < b * l → a < b
less_by l a b lt = ⊎_elim (λ (x : a < b). x) (λ (le : b ≤ a). absurd (let m = mul-le-mul_right l le in omega (arith, lt, m))) (cases_lt a b)

some_by : (l q c : ℕ) → q * l ≡ c → 1 ≤ c → 1 ≤ q
some_by l zero c is some = absurd (omega (arith, is, some))
some_by l (suc q) c is some = omega arith

one_more : (i l : ℕ) → (i + 1) * l ≡ i * l + l
one_more i l = omega (arith, add-mul i 1 l)

if_not : {A : Type 0} (b : Bool) (x : Option A) → b ≡ false → cond b x None ≡ None
if_not b x is = ap (λ b. cond b x None) is

-- ---- the choice of the node

-- Of n events, of which the last is at the instant `last`, c are up to the instant t: what is known of the lists decides
-- the same node as the numbers of events.
chosen : (p : Params) (n c t last : ℕ) (come : Bool) (lists : NodeId) → 0 < p.l → 1 ≤ n → c ≤ n → (last ≤ t → n - 1 < c) → (n - 1 < c → last ≤ t) → t ≤ last → come ≡ nat_lt (leaves p n * p.l) c
    → (c % p.l ≡ 0 → c ≤ leaves p n * p.l → lists ≡ Leaf (c / p.l)) → (1 ≤ c % p.l → c ≤ leaves p n * p.l → lists ≡ List (c / p.l))
    → cond (t == last) Now (cond come Recent lists) ≡ point_at p n c
chosen p n c t last come lists pos some few all_by by_all within come_is leaf list = now (c == n) refl
  where
    in_lists : (b : Bool) → (c % p.l == 0) ≡ b → c ≤ leaves p n * p.l → lists ≡ cond b (Leaf (c / p.l)) (List (c / p.l))
    in_lists true is most = leaf (eqb-true (c % p.l) 0 is) most
    in_lists false is most =
        list (⊎_elim (λ (x : 0 < c % p.l). let y : 1 ≤ c % p.l = omega (arith, x) in y) (λ (x : c % p.l ≤ 0). absurd (eqb-false (c % p.l) 0 is (omega (arith, x)))) (cases_lt 0 (c % p.l))) most

    -- behind the last leaf there is no other before all events
    no_leaf : leaves p n * p.l < c → c < n → c % p.l ≡ 0 → ⊥
    no_leaf low high whole =
        let parts : c / p.l * p.l + c % p.l ≡ c = div-add-mod' c p.l in
        let more : leaves p n < c / p.l = less_by p.l (leaves p n) (c / p.l) (omega (arith, low, parts, whole)) in
        let step : (leaves p n + 1) * p.l ≤ c / p.l * p.l = mul-le-mul_right p.l (let x : leaves p n + 1 ≤ c / p.l = omega (arith, more) in x) in
        let over : n < (leaves p n + 1) * p.l = (div-lt_iff_lt-mul pos).0 (let x : n / p.l < leaves p n + 1 = omega arith in x) in
        absurd (omega (arith, step, over, parts, whole, high))

    before_now : (b : Bool) → nat_lt (leaves p n * p.l) c ≡ b → c < n
        → cond come Recent lists ≡ cond (c % p.l == 0) (Leaf (c / p.l)) (cond b Recent (List (c / p.l)))
    before_now true is high =
        ap (λ b. cond b Recent lists) (come_is ∙ is)
        ∙ sym (ap (λ b. cond b (Leaf (c / p.l)) Recent) (ne_eqb (c % p.l) 0 (no_leaf (ltb-true (leaves p n * p.l) c is) high)))
    before_now false is high = ap (λ b. cond b Recent lists) (come_is ∙ is) ∙ in_lists (c % p.l == 0) refl (ltb-false (leaves p n * p.l) c is)

    now : (b : Bool) → (c == n) ≡ b
        → cond (t == last) Now (cond come Recent lists) ≡ cond b Now (cond (c % p.l == 0) (Leaf (c / p.l)) (cond (nat_lt (leaves p n * p.l) c) Recent (List (c / p.l))))
    now true is =
        let whole : c ≡ n = eqb-true c n is in
        let le : last ≤ t = by_all (omega (arith, whole, some)) in
        ap (λ b. cond b Now (cond come Recent lists)) (eq-eqb t last (omega (arith, le, within)))
    now false is =
        let before : t ≡ last → ⊥ = λ e. eqb-false c n is (let x = all_by (omega (arith, e)) in omega (arith, x, few, some)) in
        let high : c < n = ⊎_elim (λ (x : c < n). x) (λ (x : n ≤ c). absurd (eqb-false c n is (omega (arith, x, few)))) (cases_lt c n) in
        ap (λ b. cond b Now (cond come Recent lists)) (ne_eqb t last before) ∙ before_now (nat_lt (leaves p n * p.l) c) refl high

-- ---- the first and the last time

-- the times of the first and of the last event, between which the instant lies
record Between (events : ListOf Event) (t : ℕ) : Type 0 where
  some : 1 ≤ length events
  ends : kept_span (span_of events) ≡ Some (record { first = time_at events 0; last = time_at events (length events - 1) })
  from : time_at events 0 ≤ t
  to : t ≤ time_at events (length events - 1)

between : (events : ListOf Event) (t : ℕ) → in_range (span_of events) t ≡ true → Between events t
between [] t is = absurd (false≢true is)
between (e ∷ events) t is =
    let last : last_time_from e.time events ≡ time_at (e ∷ events) (length (e ∷ events) - 1) = last_is e events ∙ ap (time_at (e ∷ events)) (let x : length events ≡ length (e ∷ events) - 1 = omega arith in x) in
    let parts = and_parts (nat_le e.time t) (nat_le t (last_time_from e.time events)) is in
    let high = leb-true t (last_time_from e.time events) parts.1 in
    record {
      some = omega arith;
      ends = λ i. Some (record { first = e.time; last = last i });
      from = leb-true e.time t parts.0;
      to = omega (arith, high, last);
    }

outside : (catalogue : Holdings) (t : ℕ) (recent : Option ℕ) (events : ListOf Event) → catalogue.span ≡ kept_span (span_of events) → in_range (span_of events) t ≡ false → point_of catalogue t recent ≡ None
outside catalogue t recent [] span is = ap (λ (s : Option Ends). point_in catalogue s t recent) span
outside catalogue t recent (e ∷ events) span is = ap (λ (s : Option Ends). point_in catalogue s t recent) span ∙ if_not (nat_le e.time t && nat_le t (last_time_from e.time events)) _ is

-- ---- the lists

module _ (z : History) (legal : IsLegal z) (catalogue : Holdings) (holds : HoldsRecordsOf z catalogue) where
  pos : 0 < z.params.l
  pos = let large = large_parameters z.params.l z.params.k legal.parameters in omega (arith, large.0)

  -- a closed list has all its events
  full : (i : ℕ) → i < leaves z.params (length (events_of z)) → i * z.params.l + z.params.l ≤ length (events_of z)
  full i lt =
      let all : (i + 1) * z.params.l ≤ length (events_of z) = (le-div_iff_mul-le pos).0 (let x : i + 1 ≤ length (events_of z) / z.params.l = omega (arith, lt) in x) in
      omega (arith, all, one_more i z.params.l)

  -- a closed list is held, with its times
  list_ends : (i : ℕ) → i < leaves z.params (length (events_of z)) → ends_of catalogue i ≡ ends_in z (key.List i)
  list_ends i lt =
      ap (λ (r : ListOf (Key × Entry)). option_and_then (λ (e : Entry). e.ends) (lookup (same_key (key.List i)) r)) holds
      ∙ by (lookup (same_key (key.List i)) (opened_of z).index.records) refl (record_held z legal (key.List i) (lt-ltb i (leaves z.params (length (events_of z))) lt))
    where
      by : (o : Option Entry) → lookup (same_key (key.List i)) (opened_of z).index.records ≡ o → is_some o ≡ true
          → option_and_then (λ (e : Entry). e.ends) (lookup (same_key (key.List i)) (opened_of z).index.records) ≡ ends_in z (key.List i)
      by None is some = absurd (false≢true some)
      by (Some e) is some = ap (option_and_then (λ (e : Entry). e.ends)) is ∙ (told_at z legal (key.List i) e is).1

  -- those of its first and of its last event
  ends_are : (i : ℕ) → i < leaves z.params (length (events_of z))
      → ends_of catalogue i ≡ Some (record { first = time_at (events_of z) (i * z.params.l); last = time_at (events_of z) (i * z.params.l + (z.params.l - 1)) })
  ends_are i lt =
      let l : ℕ = z.params.l in
      let events : ListOf Event = events_of z in
      let some : 1 ≤ l = omega (arith, pos) in
      let rest : ListOf Event = drop (i * l) events in
      let inside : l - 1 < length rest = omega (arith, full i lt, length-drop (i * l) events, some) in
      let first : first_time_of (take l rest) ≡ time_at events (i * l) = first_taken l rest some in
      let last : last_time_from 0 (take l rest) ≡ time_at events (i * l + (l - 1)) =
      ap (λ n. last_time_from 0 (take n rest)) (let x : l ≡ suc (l - 1) = omega (arith, some) in x) ∙ last_at rest (l - 1) inside ∙ ap first_time_of (drop-drop (l - 1) (i * l) events) in
      list_ends i lt ∙ (λ j. Some (record { first = first j; last = last j }))

  -- no other list is held
  no_ends : (i : ℕ) → leaves z.params (length (events_of z)) ≤ i → ends_of catalogue i ≡ None
  no_ends i le =
      ap (λ (r : ListOf (Key × Entry)). option_and_then (λ (e : Entry). e.ends) (lookup (same_key (key.List i)) r)) holds
      ∙ by (lookup (same_key (key.List i)) (opened_of z).index.records) refl
    where
      by : (o : Option Entry) → lookup (same_key (key.List i)) (opened_of z).index.records ≡ o → option_and_then (λ (e : Entry). e.ends) (lookup (same_key (key.List i)) (opened_of z).index.records) ≡ None
      by None is = ap (option_and_then (λ (e : Entry). e.ends)) is
      by (Some e) is = absurd (let all = (told_at z legal (key.List i) e is).2 in let most : i + 1 ≤ length (events_of z) / z.params.l = (le-div_iff_mul-le pos).1 all in omega (arith, le, most))

  is_closed : (i : ℕ) → is_some (ends_of catalogue i) ≡ true → i < leaves z.params (length (events_of z))
  is_closed i held =
      ⊎_elim (λ (lt : i < leaves z.params (length (events_of z))). lt) (λ (le : leaves z.params (length (events_of z)) ≤ i). absurd (false≢true (sym (ap is_some (no_ends i le)) ∙ held)))
      (cases_lt i (leaves z.params (length (events_of z))))

  pub lists_rise : ListsRise catalogue
  lists_rise = record {
    held = λ i j le held. let lt = is_closed j held in ap is_some (ends_are i (omega (arith, le, lt)));
    rise = λ i j earlier later le at_i at_j.
        let l : ℕ = z.params.l in
        let lt : j < leaves z.params (length (events_of z)) = is_closed j (ap is_some at_j) in
        let a : earlier.first ≡ time_at (events_of z) (i * l) = ap (λ (x : Ends). x.first) (same_Some _ _ (sym at_i ∙ ends_are i (omega (arith, le, lt)))) in
        let b : later.first ≡ time_at (events_of z) (j * l) = ap (λ (x : Ends). x.first) (same_Some _ _ (sym at_j ∙ ends_are j lt)) in
        let up = times_rise 0 (events_of z) (events_rise z legal) (i * l) (j * l) (mul-le-mul_right l le) (omega (arith, full j lt, pos)) in
        omega (arith, a, b, up);
    apart = λ i j earlier later less at_i at_j.
        let l : ℕ = z.params.l in
        let lt : j < leaves z.params (length (events_of z)) = is_closed j (ap is_some at_j) in
        let a : earlier.last ≡ time_at (events_of z) (i * l + (l - 1)) = ap (λ (x : Ends). x.last) (same_Some _ _ (sym at_i ∙ ends_are i (omega (arith, less, lt)))) in
        let b : later.first ≡ time_at (events_of z) (j * l) = ap (λ (x : Ends). x.first) (same_Some _ _ (sym at_j ∙ ends_are j lt)) in
        let step : (i + 1) * l ≤ j * l = mul-le-mul_right l (let x : i + 1 ≤ j = omega (arith, less) in x) in
        let up = times_rise 0 (events_of z) (events_rise z legal) (i * l + (l - 1)) (j * l) (omega (arith, step, one_more i l, pos)) (omega (arith, full j lt, pos)) in
        omega (arith, a, b, up);
    within = λ i ends at_i.
        let l : ℕ = z.params.l in
        let lt : i < leaves z.params (length (events_of z)) = is_closed i (ap is_some at_i) in
        let a : ends.first ≡ time_at (events_of z) (i * l) = ap (λ (x : Ends). x.first) (same_Some _ _ (sym at_i ∙ ends_are i lt)) in
        let b : ends.last ≡ time_at (events_of z) (i * l + (l - 1)) = ap (λ (x : Ends). x.last) (same_Some _ _ (sym at_i ∙ ends_are i lt)) in
        let up = times_rise 0 (events_of z) (events_rise z legal) (i * l) (i * l + (l - 1)) (omega arith) (omega (arith, full i lt, pos)) in
        omega (arith, a, b, up);
  }

  -- ---- the point of an instant

  module _ (t : ℕ) where
    begun : (i : ℕ) → i < leaves z.params (length (events_of z)) → i * z.params.l < length (events_until (events_of z) t) → has_begun catalogue t i ≡ true
    begun i lt low =
        ap (begin_by t) (ends_are i lt) ∙ by_then 0 t (events_of z) (events_rise z legal) (i * z.params.l) (omega (arith, full i lt, pos)) ∙ lt-ltb (i * z.params.l) (length (events_until (events_of z) t)) low

    not_begun : (i : ℕ) → length (events_until (events_of z) t) ≤ i * z.params.l → has_begun catalogue t i ≡ false
    not_begun i high =
        ⊎_elim
        (λ (lt : i < leaves z.params (length (events_of z))).
        ap (begin_by t) (ends_are i lt) ∙ by_then 0 t (events_of z) (events_rise z legal) (i * z.params.l) (omega (arith, full i lt, pos)) ∙ le-ltb (i * z.params.l) (length (events_until (events_of z) t)) high)
        (λ (le : leaves z.params (length (events_of z)) ≤ i). ap (begin_by t) (no_ends i le)) (cases_lt i (leaves z.params (length (events_of z))))

    ended : (i : ℕ) → i < leaves z.params (length (events_of z)) → end_by t (ends_of catalogue i) ≡ nat_lt (i * z.params.l + (z.params.l - 1)) (length (events_until (events_of z) t))
    ended i lt = ap (end_by t) (ends_are i lt) ∙ by_then 0 t (events_of z) (events_rise z legal) (i * z.params.l + (z.params.l - 1)) (omega (arith, full i lt, pos))

    -- where a leaf stands behind the events up to the instant, the list before it is the last that has begun
    at_leaf : (q : ℕ) → q * z.params.l ≡ length (events_until (events_of z) t) → 1 ≤ length (events_until (events_of z) t) → length (events_until (events_of z) t) ≤ leaves z.params (length (events_of z)) * z.params.l
        → point_in_lists catalogue t (begun_by catalogue t) ≡ Leaf q
    at_leaf q is some most =
        let l : ℕ = z.params.l in
        let m : ℕ = leaves z.params (length (events_of z)) in
        let c : ℕ = length (events_until (events_of z) t) in
        let low : 1 ≤ q = some_by l q c is some in
        let high : q < m + 1 = less_by l q (m + 1) (omega (arith, is, most, one_more m l, pos)) in
        let all : q ≡ begun_by catalogue t =
        begun_is catalogue t q (λ i lt. begun i (omega (arith, lt, high)) (let step : (i + 1) * l ≤ q * l = mul-le-mul_right l (let x : i + 1 ≤ q = omega (arith, lt) in x) in omega (arith, step, is, one_more i l, pos)))
        (λ i le. not_begun i (let step : q * l ≤ i * l = mul-le-mul_right l le in omega (arith, step, is))) in
        let whole : q - 1 + 1 ≡ q = omega (arith, low) in
        let parts : q * l ≡ (q - 1) * l + l = ap (λ x. x * l) (sym whole) ∙ one_more (q - 1) l in
        ap (point_in_lists catalogue t) (sym all ∙ (let x : q ≡ suc (q - 1) = omega (arith, low) in x))
        ∙ ap (λ b. cond b (Leaf (q - 1 + 1)) (List (q - 1))) (ended (q - 1) (omega (arith, low, high)) ∙ lt-ltb ((q - 1) * l + (l - 1)) c (omega (arith, parts, is, pos)))
        ∙ ap Leaf whole

    -- and otherwise the list in which they end
    at_list : (q r : ℕ) → q * z.params.l + r ≡ length (events_until (events_of z) t) → 1 ≤ r → r < z.params.l → length (events_until (events_of z) t) ≤ leaves z.params (length (events_of z)) * z.params.l
        → point_in_lists catalogue t (begun_by catalogue t) ≡ List q
    at_list q r is some few most =
        let l : ℕ = z.params.l in
        let m : ℕ = leaves z.params (length (events_of z)) in
        let c : ℕ = length (events_until (events_of z) t) in
        let high : q < m = less_by l q m (omega (arith, is, most, some)) in
        let all : q + 1 ≡ begun_by catalogue t =
        begun_is catalogue t (q + 1) (λ i lt. begun i (omega (arith, lt, high)) (let step : i * l ≤ q * l = mul-le-mul_right l (let x : i ≤ q = omega (arith, lt) in x) in omega (arith, step, is, some)))
        (λ i le. not_begun i (let step : (q + 1) * l ≤ i * l = mul-le-mul_right l le in omega (arith, step, is, few, one_more q l))) in
        ap (point_in_lists catalogue t) (sym all ∙ (let x : q + 1 ≡ suc q = omega arith in x))
        ∙ ap (λ b. cond b (Leaf (q + 1)) (List q)) (ended q high ∙ le-ltb (q * l + (l - 1)) c (omega (arith, is, few)))

    -- the node for an instant between the first and the last time
    node_is : Between (events_of z) t
        → cond (t == time_at (events_of z) (length (events_of z) - 1)) Now (cond (has_come t (first_time_in (recent_of z.params (events_of z)))) Recent (point_in_lists catalogue t (begun_by catalogue t)))
        ≡ point_at z.params (length (events_of z)) (length (events_until (events_of z) t))
    node_is b =
        let events : ListOf Event = events_of z in
        let l : ℕ = z.params.l in
        let n : ℕ = length events in
        let c : ℕ = length (events_until events t) in
        let some = b.some in
        let first = (counted 0 t events (events_rise z legal) 0 (omega (arith, some))).0 b.from in
        let last = counted 0 t events (events_rise z legal) (n - 1) (omega (arith, some)) in
        let parts : c / l * l + c % l ≡ c = div-add-mod' c l in
        chosen z.params n c t (time_at events (n - 1)) _ _ pos some (until_few t events) last.0 last.1 b.to
        (has_come_is 0 t events (events_rise z legal) (leaves z.params n * l))
        (λ whole most. at_leaf (c / l) (omega (arith, parts, whole)) (omega (arith, first)) most)
        (λ part most. at_list (c / l) (c % l) parts part (mod-lt c pos) most)

    pub point_is : catalogue.span ≡ kept_span (span_of (events_of z)) → in_range (span_of (events_of z)) t ≡ true
        → point_of catalogue t (first_time_in (recent_of z.params (events_of z))) ≡ Some (point z.params (events_of z) t)
    point_is span is =
        let b = between (events_of z) t is in
        let recent : Option ℕ = first_time_in (recent_of z.params (events_of z)) in
        let last : ℕ = time_at (events_of z) (length (events_of z) - 1) in
        let found : Option NodeId = Some (cond (t == last) Now (cond (has_come t recent) Recent (point_in_lists catalogue t (begun_by catalogue t)))) in
        ap (λ (s : Option Ends). point_in catalogue s t recent) (span ∙ b.ends)
        ∙ (λ i. cond (le-leb (time_at (events_of z) 0) t b.from i && le-leb t last b.to i) found None)
        ∙ ap Some (node_is b)

pub points_of_history : PointsOfHistory
points_of_history z legal catalogue holds = (
  lists_rise z legal catalogue holds,
  λ span t is. point_is z legal catalogue holds t span is,
  λ span t is. outside catalogue t (first_time_in (recent_of z.params (events_of z))) (events_of z) span is,
)
