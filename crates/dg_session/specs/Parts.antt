-- What a session keeps.
use Rattle.std.specs.Prelude.{ℕ, List, Option}
use Rattle.dg_graph.specs.declared.element.Element.{Element}
use Rattle.dg_graph.specs.declared.event.Event.{Event}
use Rattle.dg_machine.specs.declared.limits.Limits.{Limits}
use Rattle.dg_machine.specs.declared.stands.Stands.{Stands}
use Rattle.dg_index.specs.OpenedIndex.{Opening}
use Rattle.dg_session.specs.ValuesSaid.{IndexKept}

pub record Parts : Type 0 where
  pub limits : Limits  -- the bounds within which it works
  pub index : Option Opening  -- what its image is opened as, where there is an index
  pub names : List (List ℕ)  -- the names of the history, in the order of their numbers
  pub graph : List Element  -- the graph of all events of the history
  pub recent : List Event  -- the events behind its last closed list, in their order
  pub table : List (ℕ × Stands)  -- the live handles, with what they stand for, the oldest first
  pub graphs : List (List Element)  -- the elements that each of them lists, in the same order
  pub next : ℕ  -- the number of the next handle
  pub indexes : List IndexKept  -- the indexes of values, in the order in which they were made
