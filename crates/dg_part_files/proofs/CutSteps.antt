-- How events are cut, one batch after another.
--     follow_parts      completions are changes in the order of time
--     first_cut, next_cut_at, all_cut      how far they are cut at first, behind one batch more, and behind all
use Rattle.std.proofs.Common.{◌≡◌, ℕ, zero, suc, ◌+◌, ◌-◌, ◌<◌, ◌≤◌, Bool, true, false, cond, List, [], ◌∷◌, ◌++◌, length, take, drop, min, refl, sym, ap, subst, ◌∙◌, arith, nat_le, append-nil, length-drop, take-add, drop-drop}
use Rattle.std.proofs.lemmas.Bool.{and_parts, leb-true}
use Rattle.std.proofs.lemmas.List.{drop_all, length-take-le, take-append-drop}
use Rattle.std.proofs.lemmas.List.Concat.{flat_map-append}
use Rattle.dg_graph.specs.declared.element.Element.{Element}
use Rattle.dg_graph.specs.declared.event.Event.{Event}
use Rattle.dg_graph.specs.Completion.{completes, has_key, is_change_of}
use Rattle.dg_graph.specs.Effect.{forwards}
use Rattle.dg_graph.specs.MadeByChanges.{AreMadeByChanges}
use Rattle.dg_history.specs.declared.limits.TheConstants.{BATCH_LINES_MAX}
use Rattle.dg_history.specs.EventTimes.{RisesFrom}
use Rattle.dg_history.specs.History.{Batch, earliest_next, last_time_from, span_of}
use Rattle.dg_history.proofs.EventTimes.{earliest_behind, last_some, rises_parts}
use Rattle.dg_history.proofs.LegalHistories.{events_among}
use Rattle.dg_part_files.specs.WrittenParts.{IsCutAt, known_behind}
use Rattle.dg_part_files.proofs.FrontBatches.{next_of}
use Rattle.dg_partition.specs.Cuts.{cut, cut_of, greatest, may_end}
use Rattle.dg_partition.specs.HistoryParts.{batches_of, cut_batches}
use Rattle.dg_partition.proofs.PartCuts.{later_rises}
use Rattle.dg_sound.specs.OwnEvents.{are_completions}

-- ---- completions

pub follow_parts : (names : List (List ℕ)) (set : List Element) (t : ℕ) (events : List Event) → are_completions names set t events ≡ true → AreMadeByChanges set events × RisesFrom t events
follow_parts names set t [] e = (tt, tt)
follow_parts names set t (x ∷ events) e =
    let a = and_parts (completes names set x.body) _ e in
    let k = and_parts (has_key names x.body) (is_change_of set x.body) a.0 in
    let b = and_parts (nat_le t x.time) (are_completions names (forwards set x) x.time events) a.1 in
    let rest = follow_parts names (forwards set x) x.time events b.1 in
    ((k.1, rest.0), (leb-true t x.time b.0, rest.1))

-- ---- at first, and behind all

pub first_cut : (names : List (List ℕ)) (events : List Event) → RisesFrom 0 events → IsCutAt names events 0 0
first_cut names events rises = record {
  within = omega arith;
  done_are = refl;
  most = length events;
  enough = omega arith;
  left_are = refl;
  rises = rises;
}

pub all_cut : (names : List (List ℕ)) (events : List Event) (count : ℕ) → IsCutAt names events (length events) count → take count (cut_batches names events) ≡ cut_batches names events
all_cut names events count c =
    let zs : List Batch = cut_batches names events in
    let none : drop (length events) events ≡ [] = drop_all (length events) events (omega arith) in
    let left : drop count zs ≡ [] = c.left_are ∙ ap (λ (l : List Event). batches_of (drop (known_behind names (length events)) names) (cut c.most l)) none ∙ no_cut c.most in
    sym (append-nil (take count zs)) ∙ ap (λ (l : List Batch). take count zs ++ l) (sym left) ∙ take-append-drop count zs
  where
    no_cut : (most : ℕ) → batches_of (drop (known_behind names (length events)) names) (cut most []) ≡ []
    no_cut zero = refl
    no_cut (suc most) = refl

-- ---- one batch more

greatest_passes : (t : ℕ → Bool) (n : ℕ) → 1 ≤ greatest t n → t (greatest t n) ≡ true
greatest_passes t zero some = absurd (omega (arith, some))
greatest_passes t (suc n) some = by (t (suc n)) refl some (greatest_passes t n)
  where
    by : (b : Bool) → t (suc n) ≡ b → 1 ≤ cond (t (suc n)) (suc n) (greatest t n) → (1 ≤ greatest t n → t (greatest t n) ≡ true) → t (cond (t (suc n)) (suc n) (greatest t n)) ≡ true
    by true is some rest = ap (λ b. t (cond b (suc n) (greatest t n))) is ∙ is
    by false is some rest = ap (λ b. t (cond b (suc n) (greatest t n))) is ∙ rest (subst (λ b. 1 ≤ cond b (suc n) (greatest t n)) is some)

cut_ends : (events : List Event) → 1 ≤ cut_of events → may_end events (cut_of events) ≡ true
cut_ends events some = greatest_passes (may_end events) (min (length events) BATCH_LINES_MAX) some

-- all names are known behind an event
pub known_all : (names : List (List ℕ)) (done : ℕ) → 1 ≤ done → known_behind names done ≡ length names
known_all names zero some = absurd (omega (arith, some))
known_all names (suc done) some = refl

-- the first of the cuts of some events
cut_first : (names : List (List ℕ)) (most : ℕ) (rest : List Event) → 1 ≤ length rest → length rest ≤ most
    → (less : ℕ) × (suc less ≡ most) × (batches_of names (cut most rest) ≡ record { names = names; events = take (cut_of rest) rest } ∷ batches_of [] (cut less (drop (cut_of rest) rest)))
cut_first names most [] some enough = absurd (omega (arith, some))
cut_first names zero (e ∷ events) some enough = absurd (omega (arith, enough))
cut_first names (suc most) (e ∷ events) some enough = (most, refl, refl)

-- The next batch, and how far the events are cut behind it.
pub record NextCut (names : List (List ℕ)) (events : List Event) (done count n : ℕ) : Type 0 where
  pub more : List Batch
  pub batch_is : drop count (cut_batches names events) ≡ record { names = drop (known_behind names done) names; events = take n (drop done events) } ∷ more
  pub next : 1 ≤ n → IsCutAt names events (done + n) (suc count)

pub next_cut_at : (names : List (List ℕ)) (events : List Event) (done count n : ℕ) → IsCutAt names events done count → done < length events → n ≡ cut_of (drop done events) → n ≤ length (drop done events)
    → NextCut names events done count n
next_cut_at names events done count n c left n_is within = record {
  more = batches_of [] (cut less (drop n rest));
  batch_is = first;
  next = next;
}
  where
    rest : List Event
    rest = drop done events

    zs : List Batch
    zs = cut_batches names events

    long : length rest ≡ length events - done
    long = length-drop done events

    cut_here : (less : ℕ) × (suc less ≡ c.most) × (batches_of (drop (known_behind names done) names) (cut c.most rest) ≡ record { names = drop (known_behind names done) names; events = take (cut_of rest) rest } ∷ batches_of [] (cut less (drop (cut_of rest) rest)))
    cut_here = cut_first (drop (known_behind names done) names) c.most rest (omega (arith, long, left)) c.enough

    less : ℕ
    less = cut_here.0

    first : drop count zs ≡ record { names = drop (known_behind names done) names; events = take n rest } ∷ batches_of [] (cut less (drop n rest))
    first =
        c.left_are ∙ cut_here.2
        ∙ ap (λ (k : ℕ). let b : Batch = record { names = drop (known_behind names done) names; events = take k rest } in b ∷ batches_of [] (cut less (drop k rest))) (sym n_is)

    behind : drop (done + n) events ≡ drop n rest
    behind = sym (drop-drop n done events)

    next : 1 ≤ n → IsCutAt names events (done + n) (suc count)
    next some =
        let h = next_of count zs _ _ first in
        let front : List Event = take n rest in
        let both : front ++ drop n rest ≡ rest = take-append-drop n rest in
        let front_long : length front ≡ n = length-take-le n rest within in
        let some_front : 1 ≤ length front = omega (arith, front_long, some) in
        let parts = rises_parts (earliest_next (span_of (take done events))) front (drop n rest) (subst (RisesFrom (earliest_next (span_of (take done events)))) (sym both) c.rises) in
        let last = last_some (earliest_next (span_of (take done events))) 0 front some_front in
        let ends : may_end rest n ≡ true = ap (may_end rest) n_is ∙ cut_ends rest (omega (arith, n_is, some)) in
        let later : RisesFrom (last_time_from 0 front + 1) (drop n rest) = later_rises (last_time_from 0 front) (drop n rest) (subst (λ (t : ℕ). RisesFrom t (drop n rest)) last parts.1) ends in
        let taken : take (done + n) events ≡ take done events ++ front = take-add done n events in
        let floor : earliest_next (span_of (take (done + n) events)) ≡ last_time_from 0 front + 1 = ap (λ (l : List Event). earliest_next (span_of l)) taken ∙ earliest_behind (take done events) front some_front in
        let known : drop (known_behind names (done + n)) names ≡ [] =
        ap (λ (k : ℕ). drop k names) (known_all names (done + n) (omega (arith, some))) ∙ drop_all (length names) names (omega arith) in
        record {
          within = omega (arith, within, long, left);
          done_are =
              ap events_among h.front ∙ flat_map-append (λ (b : Batch). b.events) (take count zs) _
              ∙ (λ i. c.done_are i ++ append-nil front i) ∙ sym taken;
          most = less;
          enough = omega (arith, ap length behind, length-drop n rest, cut_here.1, c.enough, some);
          left_are = h.left ∙ (λ i. batches_of (sym known i) (cut less (sym behind i)));
          rises = subst (λ (x : ℕ × List Event). RisesFrom x.0 x.1) (let e : (last_time_from 0 front + 1, drop n rest) ≡ (earliest_next (span_of (take (done + n) events)), drop (done + n) events) = λ i. (sym floor i, sym behind i) in e) later;
        }
