-- What the index that a session keeps tells of its history.
use Rattle.std.specs.Prelude.{◌≡◌, ℕ, Bool, true, List as ListOf, Option, Some, None, IfSome, map, unwrap_or}
use Rattle.std.specs.List.{All}
use Rattle.dg_graph.specs.declared.function.Function.TheVariants.{Intersection}
use Rattle.dg_graph.specs.declared.event.Event.{Event}
use Rattle.dg_history.specs.declared.node.NodeId.{NodeId}
use Rattle.dg_history.specs.declared.node.NodeId.TheVariants.{Root}
use Rattle.dg_history.specs.declared.params.Params.{Params}
use Rattle.dg_index.specs.declared.entry.Ends.{Ends}
use Rattle.dg_index.specs.OpenedIndex.{Opening, event_total, span_in}
use Rattle.dg_machine.specs.declared.stands.Stands.{Stands}
use Rattle.dg_machine.specs.MachineState.{base_node}
use Rattle.dg_machine.specs.Needs.{can_be_held}
use Rattle.dg_planner.specs.HistoryLaws.{first_time_in}
use Rattle.dg_catalogue.specs.Entries.{Holdings}
use Rattle.dg_catalogue.specs.Points.{point_of}

-- how many events it has
abbrev pub events_held : Option Opening → ℕ
events_held None = 0
events_held (Some o) = event_total o.batches

abbrev pub ends_pair : Option Ends → Option (ℕ × ℕ)
ends_pair None = None
ends_pair (Some e) = Some (e.first, e.last)

-- the first and the last instant, where there is an event
abbrev pub span_held : Option Opening → Option (ℕ × ℕ)
span_held None = None
span_held (Some o) = ends_pair (span_in o.batches)

-- what its catalogue holds
abbrev pub catalogue_of : Opening → Holdings
catalogue_of o = record { entries = o.records; span = span_in o.batches; spare = 0 }

-- the node from which the graph as of the instant is reached, where these are the recent events; out of the history
-- it is the root
abbrev pub point_over : Opening → ListOf Event → ℕ → NodeId
point_over o recent t = unwrap_or (point_of (catalogue_of o) t (first_time_in recent)) Root

-- the nodes of several instants
abbrev pub points_over : Opening → ListOf Event → ListOf ℕ → ListOf NodeId
points_over o recent times = map (point_over o recent) times

-- ---- nodes that are held

-- the parameters of the index; without one they mean nothing
abbrev pub params_held : Option Opening → Params
params_held None = record { l = 0; k = 0; function = Intersection }
params_held (Some o) = o.params

-- the index has this leaf or interior node
abbrev pub has_node_held : Option Opening → NodeId → Bool
has_node_held index node = can_be_held (params_held index) (events_held index) node

-- there is an index, and it has this leaf or interior node
abbrev pub HasNode : Option Opening → NodeId → Type 0
HasNode None node = ⊥
HasNode (Some o) node = has_node_held (Some o) node ≡ true

-- there is an index with the node that the handle holds, where it holds one
abbrev pub HasNodeOf : Option Opening → Stands → Type 0
HasNodeOf index stands = IfSome (base_node stands.what) (HasNode index)

-- the index has the node of each handle that holds one
abbrev pub HasNodes : Option Opening → ListOf (ℕ × Stands) → Type 0
HasNodes index table = All (λ (e : ℕ × Stands). HasNodeOf index e.1) table
