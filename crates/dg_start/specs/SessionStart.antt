-- What a session starts with over an image, or why it refuses the image.
use Rattle.std.specs.Prelude.{◌≡◌, ℕ, ◌+◌, ◌*◌, List, [], ◌∷◌, Option, Some, None, Result, Ok, Err, length, sum_by}
use Rattle.dg_file.specs.Index.{opening_bytes}
use Rattle.dg_graph.specs.declared.element.Column.{Column}
use Rattle.dg_graph.specs.declared.element.Element.{Element}
use Rattle.dg_graph.specs.declared.event.Event.{Event}
use Rattle.dg_graph.specs.Graph.{IsGraph}
use Rattle.dg_graph.specs.Replay.{replay_from}
use Rattle.dg_history.specs.declared.node.Key.{Key}
use Rattle.dg_history.specs.declared.node.NodeId.{NodeId}
use Rattle.dg_history.specs.declared.node.NodeId.TheVariants.{Root}
use Rattle.dg_index.specs.Hierarchy.{leaves}
use Rattle.dg_index.specs.declared.entry.Ends.{Ends}
use Rattle.dg_index.specs.OpenedIndex.{Unopened, No_index, Not_ours, Damaged_at, Opened, Opening, entry_at, event_total, opening, total}
use Rattle.dg_plan.specs.IndexGraph.{arcs_of, leaf}
use Rattle.dg_plan.specs.Walks.{IsPlan, weight_of}
use Rattle.dg_retrieval.specs.KeptGraph.{record_edges}
use Rattle.dg_retrieval.specs.NodeSets.{IsLedByPlan}
use Rattle.dg_start.specs.declared.fault.StartFault.{StartFault}
use Rattle.dg_start.specs.declared.fault.StartFault.TheVariants as fault
use Rattle.dg_start.specs.RecentEvents.{Source, events_read, first_wrong_event, recent_in_image, recent_sources}

-- what a session starts with: the index and the names as the directories tell them, the current graph, and the
-- events behind the last closed list
pub record Started : Type 0 where
  pub opened : Opened
  pub graph : List Element
  pub recent : List Event

-- what a start comes to, as the parts of a stored history
abbrev pub started_with : Option Opening → List (List ℕ) → List Element → List Event → Option Started
started_with None names graph recent = None
started_with (Some o) names graph recent = Some (record { opened = record { index = o; names = names }; graph = graph; recent = recent })

-- the number of closed lists
abbrev pub lists_in : Opening → ℕ
lists_in o = leaves o.params (event_total o.batches)

-- the node of the graph behind the last closed list: the root, where there is none
abbrev pub last_leaf : Opening → NodeId
last_leaf o = leaf (lists_in o)

-- the number of the first recent event, from 1 in the whole history
abbrev pub first_recent : Opening → ℕ
first_recent o = lists_in o * o.params.l + 1

-- What an image comes to as a start that is opened as this: first the recent pieces are read, then the records
-- along the plan of the last leaf; then the set that these come to is tested for a graph, and then the recent
-- events, one after another.
pub data StartsIndex (image : List ℕ) (x : Opened) : Result (Option Started) StartFault → Type 0 where
  Bad_piece : (f : StartFault) → recent_in_image image (length x.names) x.index ≡ Err f → StartsIndex image x (Err f)
  Bad_plan : (recent : List (Ends × Event)) → recent_in_image image (length x.names) x.index ≡ Ok recent
      → (key : Key) (col : Column) → IsLedByPlan (length x.names) image x.index (last_leaf x.index) (Err (key, col))
      → StartsIndex image x (Err (fault.BadRecord key col))
  Not_graph : (recent : List (Ends × Event)) → recent_in_image image (length x.names) x.index ≡ Ok recent
      → (set : List Element) → IsLedByPlan (length x.names) image x.index (last_leaf x.index) (Ok set) → (IsGraph set → ⊥)
      → StartsIndex image x (Err fault.NotGraph)
  Bad_event : (recent : List (Ends × Event)) → recent_in_image image (length x.names) x.index ≡ Ok recent
      → (set : List Element) → IsLedByPlan (length x.names) image x.index (last_leaf x.index) (Ok set) → IsGraph set
      → (n : ℕ) → first_wrong_event x.names (first_recent x.index) set recent ≡ Some n → StartsIndex image x (Err (fault.BadRecent n))
  Good : (recent : List (Ends × Event)) → recent_in_image image (length x.names) x.index ≡ Ok recent
      → (set : List Element) → IsLedByPlan (length x.names) image x.index (last_leaf x.index) (Ok set) → IsGraph set
      → first_wrong_event x.names (first_recent x.index) set recent ≡ None
      → StartsIndex image x (Ok (Some (record { opened = x; graph = replay_from set (events_read recent); recent = events_read recent })))

abbrev pub StartsBy : List ℕ → Result Opened Unopened → Result (Option Started) StartFault → Type 0
StartsBy image (Ok x) due = StartsIndex image x due
StartsBy image (Err No_index) due = due ≡ Ok None
StartsBy image (Err Not_ours) due = due ≡ Err fault.Foreign
StartsBy image (Err (Damaged_at offset)) due = due ≡ Err (fault.Damaged offset)

-- what the image comes to as a start: nothing where there is no index, and why not where it does not start
abbrev pub Starts : List ℕ → Result (Option Started) StartFault → Type 0
Starts image due = StartsBy image (opening image) due

-- ---- the bytes that a start reads

-- the bytes of the columns of the recent pieces
abbrev pub recent_bytes : Opening → ℕ
recent_bytes o = sum_by (λ (s : Source). total (entry_at o s.key).lengths) (recent_sources o)

-- The bytes of all that is in use but the columns; of the recent pieces; and of the records along the plan of the
-- last leaf, which has these steps.
abbrev pub start_bytes : Opening → List ℕ → ℕ
start_bytes o steps = opening_bytes o + recent_bytes o + weight_of (arcs_of (record_edges o)) steps

-- the steps are the plan of the last leaf
abbrev pub PlansLastLeaf : Opening → List ℕ → Type 0
PlansLastLeaf o steps = IsPlan (arcs_of (record_edges o)) (Root ∷ []) (last_leaf o) steps

-- ---- faults

-- The fault is why the image does not start. Of a failure of the disk and of want of memory nothing is said.
abbrev pub RefusesStart : StartFault → List ℕ → Type 0
RefusesStart fault.Disk image = Unit {0}
RefusesStart fault.Foreign image = Starts image (Err fault.Foreign)
RefusesStart (fault.Damaged offset) image = Starts image (Err (fault.Damaged offset))
RefusesStart (fault.BadRecord key col) image = Starts image (Err (fault.BadRecord key col))
RefusesStart fault.NotGraph image = Starts image (Err fault.NotGraph)
RefusesStart (fault.BadRecent number) image = Starts image (Err (fault.BadRecent number))
RefusesStart fault.Memory image = Unit {0}

-- an image comes to one start, and not to two
abbrev pub StartsAreDetermined : Type 0
StartsAreDetermined = (image : List ℕ) (a b : Result (Option Started) StartFault) → Starts image a → Starts image b → a ≡ b
