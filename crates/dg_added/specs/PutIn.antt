-- What the events of some time put in, one after another.
use Rattle.std.specs.Prelude.{ℕ, List, Option, None, if◌then◌else◌}
use Rattle.std.specs.List.{flat_map}
use Rattle.std.specs.Option.{option_to_list}
use Rattle.dg_graph.specs.declared.element.Element.{Element}
use Rattle.dg_graph.specs.declared.event.Event.{Event}
use Rattle.dg_added.specs.Additions.{lies_within, put_by}

-- what the event puts in, where it comes from the first instant on and before the second
abbrev pub one_put_within : ℕ → ℕ → Event → Option Element
one_put_within from until e = if lies_within from until e then put_by e.body else None

abbrev pub put_within : ℕ → ℕ → List Event → List Element
put_within from until events = flat_map (λ e. option_to_list (one_put_within from until e)) events
