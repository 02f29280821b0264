-- What retrieved graphs begin with, and the graphs to which leads come.
use Rattle.std.specs.Prelude.{◌≡◌, ℕ, suc, List, [], ◌∷◌, Option, Some, None, if◌then◌else◌, reverse}
use Rattle.std.specs.List.{Contains}
use Rattle.dg_fold.specs.declared.writing.Writing.{Writing}
use Rattle.dg_fold.specs.Ends.{Lead}
use Rattle.dg_fold.specs.Writings.{composed_all, written_for}
use Rattle.dg_graph.specs.Composition.{Delta, applied}
use Rattle.dg_graph.specs.declared.element.Columns.{Columns}
use Rattle.dg_graph.specs.declared.element.Element.{Element}
use Rattle.dg_graph.specs.Elements.{shown}
use Rattle.dg_history.specs.declared.node.NodeId.{NodeId}
use Rattle.dg_history.specs.declared.node.NodeId.TheVariants as node
use Rattle.dg_plan.specs.declared.edge.Edge.{Edge}
use Rattle.dg_plan.specs.declared.edge.Via.{Via}
use Rattle.dg_plan.specs.declared.edge.Via.TheVariants as via
use Rattle.dg_plan.specs.IndexGraph.{is_root}
use Rattle.dg_plan.specs.InstantPoint.{same_node}
use Rattle.dg_retrieval.specs.declared.graph_lead.Beginning.{Beginning}
use Rattle.dg_retrieval.specs.declared.graph_lead.Beginning.TheVariants.{Nothing, Now, Base}
use Rattle.dg_retrieval.specs.declared.graph_lead.Leads.{Leads}

-- ---- the sets with which graphs begin

-- the set with which a graph begins, where this is the current graph, and these are the sets that handles hold
abbrev pub begun_with : List Element → (ℕ → List Element) → Beginning → List Element
begun_with now held Nothing = []
begun_with now held Now = now
begun_with now held (Base handle) = held handle

-- What leads to a graph: what it begins with, and the delta from there. The graph is what comes, cut to the columns that
-- were asked for.
pub record GraphLead : Type 0 where
  pub begins : Beginning
  pub delta : Delta

-- what is shown of the graph to which the lead comes
abbrev pub led_to : List Element → (ℕ → List Element) → Columns → GraphLead → List Element
led_to now held cols lead = shown (applied lead.delta (begun_with now held lead.begins)) cols

-- what leads to graphs that begin so, of which the first has this number among those for which deltas are written
abbrev pub leads_from : ℕ → List Beginning → List Writing → List GraphLead
leads_from n [] writings = []
leads_from n (begins ∷ more) writings = record { begins = begins; delta = composed_all (written_for n writings) } ∷ leads_from (suc n) more writings

abbrev pub leads_in : Leads → List GraphLead
leads_in leads = leads_from 0 leads.begins.items leads.writings.items

-- the handle whose set it begins with, where there is one
abbrev pub base_handle : Beginning → Option ℕ
base_handle Nothing = None
base_handle Now = None
base_handle (Base handle) = Some handle

-- where the lead begins with a base, one of the edges leads on by it
abbrev pub IsOffered : List Edge → GraphLead → Type 0
IsOffered edges lead = (handle : ℕ) → base_handle lead.begins ≡ Some handle → (e : Edge) × Contains edges e × (e.via ≡ via.Base handle)

-- ---- what a path begins with

-- what a path begins with whose first edge leads on by this
abbrev pub beginning_by : Via → Beginning
beginning_by via.Now = Now
beginning_by (via.Base handle) = Base handle
beginning_by (via.Paid key way) = Nothing
beginning_by (via.Held key way) = Nothing
beginning_by (via.Recent way) = Nothing

-- What the path to a node begins with, where the edges so far are these, the last first: the last edge into the node
-- decides, by itself where it leaves the root, and else by the path to the node that it leaves.
abbrev pub begun_behind : List Edge → NodeId → Beginning
begun_behind [] node = Nothing
begun_behind (e ∷ before) node =
    if same_node node e.to then (if is_root e.from then beginning_by e.via else begun_behind before e.from)
    else begun_behind before node

-- what the path to a node begins with, within the tree of these edges
abbrev pub begun_within : List Edge → NodeId → Beginning
begun_within walk node = begun_behind (reverse walk) node

-- The beginning stands for the node with whose set a path begins: nothing for the root, the current graph for its node,
-- and a base for the node that one of the edges enters by it.
abbrev pub BeginningStandsFor : List Edge → NodeId → Beginning → Type 0
BeginningStandsFor edges begun Nothing = begun ≡ node.Root
BeginningStandsFor edges begun Now = begun ≡ node.Now
BeginningStandsFor edges begun (Base handle) = (e : Edge) × Contains edges e × (e.via ≡ via.Base handle) × (e.to ≡ begun)

-- what leads to a node has the same delta, and begins as the path does
pub record LeadsAs (edges : List Edge) (path : Lead) (lead : GraphLead) : Type 0 where
  pub delta : lead.delta ≡ path.delta
  pub begins : BeginningStandsFor edges path.begun lead.begins
