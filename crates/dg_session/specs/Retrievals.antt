-- What leads to the graphs as of instants over an index, with the messages of the instants where they are asked for.
use Rattle.std.specs.Prelude.{◌≡◌, ◌⊎◌, ℕ, ◌+◌, Bool, true, List, [], ◌∷◌, Result, Ok, Err, IfErr, IfOk, if◌then◌else◌, length, map}
use Rattle.std.specs.List.{All, sum}
use Rattle.dg_fold.specs.BytesRead.{Takes, TakesAtMost}
use Rattle.dg_graph.specs.declared.element.Columns.{Columns}
use Rattle.dg_graph.specs.declared.element.Element.{Element}
use Rattle.dg_graph.specs.declared.event.Event.{Event}
use Rattle.dg_heard.specs.Heard.{heard_bytes, with_heard_bytes}
use Rattle.dg_history.specs.declared.node.NodeId.{NodeId}
use Rattle.dg_history.specs.declared.node.NodeId.TheVariants.{Root}
use Rattle.dg_history.specs.History.{History}
use Rattle.dg_index.specs.OpenedIndex.{Opening}
use Rattle.dg_messages.specs.Calls.{AreHeard, IsFirstMessageDamage}
use Rattle.dg_messages.specs.Told.{shown_with_messages}
use Rattle.dg_plan.specs.declared.edge.Edge.{Edge}
use Rattle.dg_plan.specs.IndexGraph.{arcs_of}
use Rattle.dg_plan.specs.Walks.{AreSingles, Graft, IsTree, tree_weight}
use Rattle.dg_retrieval.specs.Beginnings.{GraphLead, IsOffered, base_handle, leads_in, led_to}
use Rattle.dg_retrieval.specs.Calls.{LeadNamesAreThere}
use Rattle.dg_records.specs.declared.fault.RecordFault.{RecordFault}
use Rattle.dg_retrieval.specs.declared.retrieval.Retrieved.{Retrieved}
use Rattle.dg_retrieval.specs.NodeSets.{IsUndamaged}
use Rattle.dg_retrieval.specs.Retrieval.{AreHeld, ArePoints, IsFirstDamage, IsNoDamage, IsTreeOf}

-- the bytes of messages that are read for the instants, where messages are asked for
abbrev pub heard_if : Bool → Opening → List ℕ → ℕ
heard_if asked o times = if asked then heard_bytes o times else 0

-- what single plans weigh, each with the messages that are read for it, where messages are asked for
abbrev pub with_heard_if : Bool → Opening → List ℕ → List ℕ → List ℕ
with_heard_if asked o times plans = if asked then with_heard_bytes o times plans else plans

-- There is a lead for each instant, along one tree to the targets; it begins with the base, or with none, of the tree's
-- path, which is a base of the graph, and puts in names that are there. Tree and messages weigh so much together, and so
-- do each single plan and its messages, whose sum is given too.
pub record LeadsToInstants (name_count : ℕ) (recent : List Event) (edges : List Edge) (o : Opening) (targets : List NodeId) (times : List ℕ) (cols : Columns) (r : Retrieved) : Type 0 where
  pub count : length (leads_in r.leads) ≡ length times
  pub tree : (weight : ℕ) × IsTreeOf edges targets weight (map (λ (l : GraphLead). base_handle l.begins) (leads_in r.leads)) × (r.weight ≡ weight + heard_if cols.transient o times)
  pub singles : (plans : List ℕ) × AreSingles (arcs_of edges) (Root ∷ []) targets plans × (r.singles.items ≡ with_heard_if cols.transient o times plans)
  pub sum : r.sum ≡ sum r.singles.items
  pub offered : All (IsOffered edges) (leads_in r.leads)
  pub named : LeadNamesAreThere name_count recent (leads_in r.leads)

-- With the image, the index and the memory of a history: where the targets are the points of the instants, the leads
-- come to the graphs as of these with their messages, and no damage is met; as many bytes are read as tree and messages
-- weigh, and no more where the call fails.
pub record LeadsOver (z : History) (now : List Element) (edges : List Edge) (o : Opening) (targets : List NodeId) (times : List ℕ) (cols : Columns) (before after : ℕ)
    (result : Result Retrieved RecordFault) : Type 0 where
  pub graphs : IfOk result (λ r. (held : ℕ → List Element) → AreHeld z edges cols held → ArePoints z targets times → map (led_to now held cols) (leads_in r.leads) ≡ shown_with_messages z times cols)
  pub takes : IfOk result (λ r. Takes r.weight before after)
  pub most : (grafts : List (Graft NodeId)) → IsTree (arcs_of edges) (Root ∷ []) targets grafts → TakesAtMost (tree_weight (arcs_of edges) grafts + heard_if cols.transient o times) before after
  pub never : IfErr result (λ f. ArePoints z targets times → IsNoDamage f)

-- What is told of damage in this image: what is given has met none, neither among the columns that the tree enters nor
-- among the columns of messages that are asked for; a fault that is damage names the first of the former, and only where
-- none of these is damaged, the first of the latter.
abbrev pub TellsLeadDamage : {A : Type 0} → ℕ → List Edge → Opening → List NodeId → List ℕ → Columns → List ℕ → Result A RecordFault → Type 0
TellsLeadDamage name_count edges o targets times cols image (Ok r) =
    IsUndamaged name_count edges o cols targets image × (cols.transient ≡ true → AreHeard name_count image o times)
TellsLeadDamage name_count edges o targets times cols image (Err f) =
    IsFirstDamage name_count edges o cols targets image f
    ⊎ ((cols.transient ≡ true) × IsUndamaged name_count edges o cols targets image × IsFirstMessageDamage name_count image o times f)
