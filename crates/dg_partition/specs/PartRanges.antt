-- What a history shows as of an instant that need not be one of its own.
use Rattle.std.specs.Prelude.{ℕ, List, [], Option, Some, None, if◌then◌else◌, min, nat_lt}
use Rattle.dg_graph.specs.declared.element.Columns.{Columns}
use Rattle.dg_graph.specs.declared.element.Element.{Element}
use Rattle.dg_graph.specs.declared.event.Event.{Event}
use Rattle.dg_graph.specs.Replay.{shown_at}
use Rattle.dg_history.specs.History.{span_of}

-- nothing before the first instant, and behind the last one what is shown as of that
abbrev pub shown_between : Option (ℕ × ℕ) → List Event → ℕ → Columns → List Element
shown_between None events t cols = []
shown_between (Some ends) events t cols = if nat_lt t ends.0 then [] else shown_at events (min t ends.1) cols

abbrev pub shown_within : List Event → ℕ → Columns → List Element
shown_within events t cols = shown_between (span_of events) events t cols
