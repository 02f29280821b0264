-- Events with the times of their sources.
use Rattle.std.proofs.Common.{◌≡◌, ℕ, List, [], ◌∷◌, ◌++◌, length, map, take, drop, refl, sym, ◌∙◌, ap, subst, arith, append_assoc, append-nil, length-append, length-drop}
use Rattle.std.specs.Prelude.{sum_by}
use Rattle.std.proofs.lemmas.List.{drop-append-le, length-take-le, take-append-drop, take-append-le, take_all, drop_all, map-append}
use Rattle.std.proofs.lemmas.List.Sums.{sum_by-cons}
use Rattle.dg_graph.specs.declared.event.Event.{Event}
use Rattle.dg_history.specs.EventTimes.{RisesFrom}
use Rattle.dg_index.specs.declared.entry.Ends.{Ends}
use Rattle.dg_start.specs.RecentEvents.{Source}
use Rattle.dg_start.specs.EventSources.{ArePartedBy, bounded}

abbrev pub tagged : Ends → List Event → List (Ends × Event)
tagged ends events = map (λ (e : Event). (ends, e)) events

abbrev pub untag : List (Ends × Event) → List Event
untag pairs = map (λ (e : Ends × Event). e.1) pairs

pub untagged : (ends : Ends) (events : List Event) → untag (tagged ends events) ≡ events
untagged ends [] = refl
untagged ends (e ∷ events) = ap (λ (es : List Event). e ∷ es) (untagged ends events)

-- how many events these sources have
abbrev pub counts : List Source → ℕ
counts all = sum_by (λ (s : Source). s.count) all

-- The events with their instants are those of these sources, one after another: as many as are due, in time.
abbrev pub AreOf : List Source → List (Ends × Event) → Type 0
AreOf [] pairs = pairs ≡ []
AreOf (s ∷ more) pairs =
    (own : List Event) × (later : List (Ends × Event)) × (pairs ≡ tagged s.ends own ++ later) × (length own ≡ s.count) × RisesFrom 0 own × AreOf more later

pub are_of : (all : List Source) (events : List Event) → ArePartedBy all events → AreOf all (bounded all events)
are_of [] events p = refl
are_of (s ∷ all) events p =
    (take s.count events, bounded all (drop s.count events), refl, length-take-le s.count events p.0, p.1, are_of all (drop s.count events) p.2)

-- without their times they are the events
pub untag_bounded : (all : List Source) (events : List Event) → ArePartedBy all events → untag (bounded all events) ≡ events
untag_bounded [] events p = sym p
untag_bounded (s ∷ all) events p =
    map-append (λ (e : Ends × Event). e.1) (tagged s.ends (take s.count events)) (bounded all (drop s.count events))
    ∙ (λ i. untagged s.ends (take s.count events) i ++ untag_bounded all (drop s.count events) p.2 i)
    ∙ take-append-drop s.count events

pub parted_length : (all : List Source) (events : List Event) → ArePartedBy all events → length events ≡ counts all
parted_length [] events p = ap length p
parted_length (s ∷ all) events p =
    let rest = parted_length all (drop s.count events) p.2 in
    let sum = sum_by-cons (λ (s : Source). s.count) s all in
    let left = length-drop s.count events in
    let within = p.0 in
    omega (arith, rest, sum, left, within)

-- ---- one source more behind them

pub parted_more : (front : List Source) (s : Source) (events own : List Event) → ArePartedBy front events → length own ≡ s.count → RisesFrom 0 own
    → ArePartedBy (front ++ s ∷ []) (events ++ own)
parted_more [] s events own p many rises =
    subst (λ (es : List Event). ArePartedBy (s ∷ []) (es ++ own)) (sym p)
    (omega (arith, many), subst (RisesFrom 0) (sym (take_all s.count own (omega (arith, many)))) rises, drop_all s.count own (omega (arith, many)))
parted_more (f ∷ front) s events own p many rises = (
  omega (arith, p.0, length-append events own),
  subst (RisesFrom 0) (sym (take-append-le f.count events own p.0)) p.1,
  subst (ArePartedBy (front ++ s ∷ [])) (sym (drop-append-le f.count events own p.0)) (parted_more front s (drop f.count events) own p.2 many rises),
)

pub bounded_more : (front : List Source) (s : Source) (events own : List Event) → ArePartedBy front events → length own ≡ s.count
    → bounded (front ++ s ∷ []) (events ++ own) ≡ bounded front events ++ tagged s.ends own
bounded_more [] s events own p many =
    ap (λ (es : List Event). bounded (s ∷ []) (es ++ own)) p
    ∙ append-nil (tagged s.ends (take s.count own))
    ∙ ap (tagged s.ends) (take_all s.count own (omega (arith, many)))
bounded_more (f ∷ front) s events own p many =
    (λ i. tagged f.ends (take-append-le f.count events own p.0 i) ++ bounded (front ++ s ∷ []) (drop-append-le f.count events own p.0 i))
    ∙ ap (λ (l : List (Ends × Event)). tagged f.ends (take f.count events) ++ l) (bounded_more front s (drop f.count events) own p.2 many)
    ∙ sym (append_assoc (tagged f.ends (take f.count events)) (bounded front (drop f.count events)) (tagged s.ends own))
