-- The changes of a span of instants, as a text.
use Rattle.std.specs.Prelude.{ℕ, Bool, true, ◌&&◌, List, Option, Some, None, filter, nat_le, nat_lt}
use Rattle.dg_dumping.specs.PutText.{events_text}
use Rattle.dg_dumping.specs.declared.span.Span.{Span}
use Rattle.dg_graph.specs.declared.event.Event.{Event}
use Rattle.dg_history.specs.History.{History, events_of, names_of}

-- the instant is before the end of a span, where it has one
abbrev pub is_before : Option ℕ → ℕ → Bool
is_before None time = true
is_before (Some until) time = nat_lt time until

-- the instant is in the span: its first instant or later, and before its end
abbrev pub is_within : Span → ℕ → Bool
is_within span time = nat_le span.from time && is_before span.until time

-- those of the events that are in the span
abbrev pub events_within : Span → List Event → List Event
events_within span events = filter (λ (e : Event). is_within span e.time) events

-- the lines of the events of a history that are in the span, in their order
abbrev pub span_text : Span → History → List ℕ
span_text span z = events_text (names_of z) (events_within span (events_of z))
