-- The first event that is not right.
use Rattle.std.proofs.Common.{◌≡◌, ℕ, suc, ◌+◌, ◌<◌, Bool, false, List, ◌++◌, Some, if◌then◌else◌, length, map, drop, get_or, ◌∙◌, ap, true, add-one, sym}
use Rattle.std.proofs.Math.Seq.{drop-cons}
use Rattle.dg_graph.specs.declared.element.Element.{Element}
use Rattle.dg_graph.specs.declared.event.Event.{Event}
use Rattle.dg_graph.specs.Effect.{forwards}
use Rattle.dg_graph.specs.Replay.{replay_from}
use Rattle.dg_index.specs.declared.entry.Ends.{Ends}
use Rattle.dg_start.specs.RecentEvents.{is_right, first_wrong_event}

pub wrong_here : (names : List (List ℕ)) (s : Ends) (n i : ℕ) (set : List Element) (events : List Event) (d : Event) (more : List (Ends × Event))
    → i < length events → is_right names set (s, get_or events i d) ≡ false
    → first_wrong_event names n set (map (λ (e : Event). (s, e)) (drop i events) ++ more) ≡ Some n
wrong_here names s n i set events d more lt not_right =
    ap (λ (es : List Event). first_wrong_event names n set (map (λ (e : Event). (s, e)) es ++ more)) (drop-cons events i d lt)
    ∙ ap (λ (b : Bool). if b then first_wrong_event names (n + 1) (forwards set (get_or events i d)) (map (λ (e : Event). (s, e)) (drop (suc i) events) ++ more) else Some n) not_right

pub right_here : (names : List (List ℕ)) (s : Ends) (n i : ℕ) (set then_set : List Element) (events : List Event) (d : Event) (more : List (Ends × Event))
    → i < length events → is_right names set (s, get_or events i d) ≡ true → then_set ≡ forwards set (get_or events i d)
    → first_wrong_event names n set (map (λ (e : Event). (s, e)) (drop i events) ++ more) ≡ first_wrong_event names (n + 1) then_set (map (λ (e : Event). (s, e)) (drop (i + 1) events) ++ more)
right_here names s n i set then_set events d more lt right on =
    ap (λ (es : List Event). first_wrong_event names n set (map (λ (e : Event). (s, e)) es ++ more)) (drop-cons events i d lt)
    ∙ ap (λ (b : Bool). if b then first_wrong_event names (n + 1) (forwards set (get_or events i d)) (map (λ (e : Event). (s, e)) (drop (suc i) events) ++ more) else Some n) right
    ∙ (λ j. first_wrong_event names (n + 1) (sym on j) (map (λ (e : Event). (s, e)) (drop (sym (add-one i) j) events) ++ more))

pub led_here : (i : ℕ) (set then_set : List Element) (events : List Event) (d : Event) → i < length events → then_set ≡ forwards set (get_or events i d)
    → replay_from then_set (drop (i + 1) events) ≡ replay_from set (drop i events)
led_here i set then_set events d lt on =
    (λ j. replay_from (on j) (drop (add-one i j) events)) ∙ sym (ap (replay_from set) (drop-cons events i d lt))
