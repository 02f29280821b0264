-- What a list of changes after a set comes to: their events, or the least change that has a reason.
use Rattle.std.specs.Prelude.{ℕ, ◌+◌, List, [], ◌∷◌, Option, Some, None, Result, Ok, Err, if◌then◌else◌, nat_lt}
use Rattle.dg_graph.specs.declared.element.Element.{Element}
use Rattle.dg_graph.specs.declared.event.Body.{Body}
use Rattle.dg_graph.specs.declared.event.Event.{Event}
use Rattle.dg_graph.specs.declared.event.Change.{Change}
use Rattle.dg_graph.specs.declared.event.TheConstants.{REASON_TIME, REASON_FORM}
use Rattle.dg_graph.specs.Completion.{complete}
use Rattle.dg_graph.specs.Effect.{forwards}

-- the result with its value mapped
abbrev pub on_value : {A B E : Type 0} → (A → B) → Result A E → Result B E
on_value f (Ok x) = Ok (f x)
on_value f (Err e) = Err e

-- the event of a change after the set and not before the earliest time, or the first reason
abbrev pub event_of : ℕ → List Element → Change → Result Event ℕ
event_of earliest set c =
    if nat_lt c.time earliest then Err REASON_TIME
    else on_value (λ (b : Body). record { time = c.time; body = b }) (complete c.what set)

-- the event of line n in front of those of the lines after it
abbrev pub go_on : ℕ → (Event → Result (List Event) (ℕ × ℕ)) → Result Event ℕ → Result (List Event) (ℕ × ℕ)
go_on n rest (Err reason) = Err (n, reason)
go_on n rest (Ok e) = on_value (λ (events : List Event). e ∷ events) (rest e)

-- The events of the lines from number n on, each after those before it; or the least line that has
-- a reason, and its first reason. A line that is no change is None.
abbrev pub completed : ℕ → ℕ → List Element → List (Option Change) → Result (List Event) (ℕ × ℕ)
completed n earliest set [] = Ok []
completed n earliest set (None ∷ changes) = Err (n, REASON_FORM)
completed n earliest set (Some c ∷ changes) =
    go_on n (λ e. completed (n + 1) e.time (forwards set e) changes) (event_of earliest set c)
