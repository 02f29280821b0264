-- What is shown as of an instant is what is shown as of the nearest one before it that the history has.
use Rattle.std.proofs.Common.{◌≡◌, ℕ, ◌≤◌, ◌<◌, ◌⊎◌, inl, inr, Bool, true, false, cond, List, [], ◌∷◌, ◌++◌, map, refl, sym, ap, ◌∙◌, arith}
use Rattle.std.specs.Prelude.{min, nat_lt}
use Rattle.std.proofs.lemmas.Bool.{le-leb, lt-leb, ltb-true}
use Rattle.dg_graph.specs.declared.element.Columns.{Columns}
use Rattle.dg_graph.specs.declared.event.Event.{Event}
use Rattle.dg_graph.specs.DifferentialFunction.{all_of}
use Rattle.dg_graph.specs.Elements.{shown}
use Rattle.dg_graph.specs.Replay.{events_until, replay, shown_at, told_at}
use Rattle.dg_history.specs.EventTimes.{RisesFrom}
use Rattle.dg_history.specs.History.{History, events_of, last_time_from}
use Rattle.dg_history.specs.LegalHistory.{IsLegal}
use Rattle.dg_history.proofs.EventTimes.{rises_last}
use Rattle.dg_history.proofs.LegalHistories.{events_rise}
use Rattle.dg_index.specs.Hierarchy.{numbers}
use Rattle.dg_partition.specs.HistoryParts.{part_of}
use Rattle.dg_partition.specs.Owners.{events_of_part}
use Rattle.dg_partition.specs.PartLaws.{PartsMakeTheWholeWithin}
use Rattle.dg_partition.specs.PartRanges.{shown_within}
use Rattle.dg_partition.proofs.PartCuts.{split}
use Rattle.dg_partition.proofs.PartLegality.{events_of_cuts, rises_in_part}
use Rattle.dg_partition.proofs.PartUnions.{parts_show}

none_until : (f t : ℕ) (events : List Event) → RisesFrom f events → t < f → events_until events t ≡ []
none_until f t [] rises late = refl
none_until f t (e ∷ events) rises late =
    ap (λ b. cond b (e ∷ events_until events t) (events_until events t)) (lt-leb e.time t (omega (arith, rises.0, late)))
    ∙ none_until e.time t events rises.1 (omega (arith, rises.0, late))

all_until : (f t : ℕ) (events : List Event) → RisesFrom f events → last_time_from f events ≤ t → events_until events t ≡ events
all_until f t [] rises le = refl
all_until f t (e ∷ events) rises le =
    ap (λ b. cond b (e ∷ events_until events t) (events_until events t)) (le-leb e.time t (omega (arith, le, rises_last e.time events rises.1)))
    ∙ ap (λ l. e ∷ l) (all_until e.time t events rises.1 le)

-- without messages the replay alone counts
by_replay : (cols : Columns) → cols.transient ≡ false → (events : List Event) (s t : ℕ) → events_until events s ≡ events_until events t → shown_at events s cols ≡ shown_at events t cols
by_replay cols silent events s t is =
    (λ i. shown (replay (is i)) cols ++ cond (silent i) (told_at events s) [])
    ∙ sym (λ i. shown (replay (events_until events t)) cols ++ cond (silent i) (told_at events t) [])

nothing_shown : (cols : Columns) → cols.transient ≡ false → (events : List Event) (t : ℕ) → events_until events t ≡ [] → [] ≡ shown_at events t cols
nothing_shown cols silent events t is = sym (λ i. shown (replay (is i)) cols ++ cond (silent i) (told_at events t) [])

pub within_is : (cols : Columns) → cols.transient ≡ false → (t : ℕ) (events : List Event) → RisesFrom 0 events → shown_within events t cols ≡ shown_at events t cols
within_is cols silent t [] rises = nothing_shown cols silent [] t refl
within_is cols silent t (e ∷ events) rises = by (nat_lt t e.time) refl
  where
    near : (t ≤ last_time_from e.time events) ⊎ (last_time_from e.time events < t) → shown_at (e ∷ events) (min t (last_time_from e.time events)) cols ≡ shown_at (e ∷ events) t cols
    near (inl le) = ap (λ s. shown_at (e ∷ events) s cols) (let is : min t (last_time_from e.time events) ≡ t = omega (arith, le) in is)
    near (inr late) =
        let is : min t (last_time_from e.time events) ≡ last_time_from e.time events = omega (arith, late) in
        by_replay cols silent (e ∷ events) (min t (last_time_from e.time events)) t
        (all_until 0 (min t (last_time_from e.time events)) (e ∷ events) rises (omega (arith, is)) ∙ sym (all_until 0 t (e ∷ events) rises (omega (arith, late))))

    by : (b : Bool) → nat_lt t e.time ≡ b
        → cond (nat_lt t e.time) [] (shown_at (e ∷ events) (min t (last_time_from e.time events)) cols) ≡ shown_at (e ∷ events) t cols
    by true is =
        ap (λ b. cond b [] (shown_at (e ∷ events) (min t (last_time_from e.time events)) cols)) is
        ∙ nothing_shown cols silent (e ∷ events) t (none_until e.time t (e ∷ events) ((let le : e.time ≤ e.time = omega arith in le), rises.1) (ltb-true t e.time is))
    by false is =
        ap (λ b. cond b [] (shown_at (e ∷ events) (min t (last_time_from e.time events)) cols)) is
        ∙ near (split t (last_time_from e.time events))

each_within : (z : History) → IsLegal z → (p t : ℕ) (cols : Columns) → cols.transient ≡ false → (ns : List ℕ)
    → map (λ i. shown_within (events_of (part_of z i p)) t cols) ns ≡ map (λ i. shown_at (events_of_part p i (events_of z)) t cols) ns
each_within z legal p t cols silent [] = refl
each_within z legal p t cols silent (i ∷ ns) =
    let here = ap (λ (es : List Event). shown_within es t cols) (events_of_cuts p i z legal)
    ∙ within_is cols silent t (events_of_part p i (events_of z)) (rises_in_part p i 0 (events_of z) (events_rise z legal)) in
    let rest = each_within z legal p t cols silent ns in
    λ k. here k ∷ rest k

pub parts_make_the_whole_within : PartsMakeTheWholeWithin
parts_make_the_whole_within z legal p t cols some silent =
    ap all_of (each_within z legal p t cols silent (numbers 0 p)) ∙ parts_show p (events_of z) t cols some
