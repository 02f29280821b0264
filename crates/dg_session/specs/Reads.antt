-- What a retrieval gives, the handles that it is given, and the bytes that commands read.
use Rattle.std.specs.Prelude.{◌≡◌, ℕ, ◌+◌, Bool, true, false, List, [], ◌∷◌, ◌++◌, Option, Some, None, Result, Ok, Err, IfErr, IfOk, IfSome, length, map}
use Rattle.std.specs.List.{All, sum}
use Rattle.dg_aux.specs.Turns.{AuxState, said_by, said_over}
use Rattle.dg_fold.specs.BytesRead.{Takes, TakesAtMost}
use Rattle.dg_graph.specs.declared.element.Columns.{Columns}
use Rattle.dg_graph.specs.declared.element.Element.{Element}
use Rattle.dg_graph.specs.Composition.{applied}
use Rattle.dg_graph.specs.Elements.{shown}
use Rattle.dg_text.specs.Lines.{ScriptLine}
use Rattle.dg_handles.specs.Handles.{BeginsOn, held_by, numbered, overlays_on, with_messages}
use Rattle.dg_history.specs.declared.node.NodeId.{NodeId}
use Rattle.dg_history.specs.declared.node.NodeId.TheVariants.{Root}
use Rattle.dg_history.specs.History.{events_of}
use Rattle.dg_index.specs.OpenedIndex.{Opening}
use Rattle.dg_machine.specs.declared.command.Command.{Command}
use Rattle.dg_machine.specs.declared.command.Command.TheVariants as command
use Rattle.dg_machine.specs.declared.reply.Reply.{Reply}
use Rattle.dg_machine.specs.declared.reply.Reply.TheVariants as replied
use Rattle.dg_machine.specs.declared.stands.Stands.{Stands}
use Rattle.dg_machine.specs.declared.stands.Shown.TheVariants.{Base}
use Rattle.dg_machine.specs.Answer.{IsPlannedBy, answer, heard_for, is_refusal, weight_told, with_heard}
use Rattle.dg_machine.specs.declared.selection.Selection.TheVariants.{Added}
use Rattle.dg_machine.specs.MachineState.{MachineState, elements, history_in}
use Rattle.dg_machine.specs.Selections.{added_length, selected}
use Rattle.dg_machine.specs.Needs.{needs, refused}
use Rattle.dg_machine.specs.ValueIndex.{node_attrs_length}
use Rattle.dg_machine.specs.Planning.{Planned, edges_in, points_for, record_edges_in}
use Rattle.dg_plan.specs.HistoryGraph.{all_columns}
use Rattle.dg_plan.specs.IndexGraph.{arcs_of}
use Rattle.dg_plan.specs.Walks.{AreSingles, Graft, IsPlan, IsTree, tree_weight, weight_of}
use Rattle.dg_records.specs.declared.fault.RecordFault.{RecordFault}
use Rattle.dg_retrieval.specs.declared.node_lead.NodeLead.{NodeLead}
use Rattle.dg_retrieval.specs.declared.retrieval.Retrieved.{Retrieved}
use Rattle.dg_retrieval.specs.Beginnings.{GraphLead, base_handle, leads_in, led_to}
use Rattle.dg_retrieval.specs.NamesThere.{NamesAreThere}
use Rattle.dg_retrieval.specs.Retrieval.{IsNoDamage, IsTreeOf}
use Rattle.dg_batch.specs.declared.halt.Halt.{Halt}
use Rattle.dg_batch.specs.declared.halt.Halt.TheVariants as halt
use Rattle.dg_batch.specs.declared.stop.Stop.{Stop}
use Rattle.dg_batch.specs.declared.stop.Stop.TheVariants as stop
use Rattle.dg_session.specs.BatchReads.{is_early, older_for}
use Rattle.dg_session.specs.HistoryBytes.{records_length}
use Rattle.dg_session.specs.Parts.{Parts}
use Rattle.dg_session.specs.ValuesSaid.{IndexKept}
use Rattle.dg_session.specs.Session.{StandsFor}
use Rattle.dg_verify.specs.RecordBytes.{records_bytes}

-- the session with new handles for these behind those that it has, which list these graphs
abbrev pub with_new_handles : Parts → List Stands → List (List Element) → Parts
with_new_handles p new graphs = record p {
  table = p.table ++ numbered p.next new;
  graphs = p.graphs ++ graphs;
  next = p.next + length new;
}

-- the session with a new index of values behind those that it has
abbrev pub with_new_index : Parts → IndexKept → Parts
with_new_index p kept = record p { indexes = p.indexes ++ kept ∷ [] }

-- the handles on which new graphs rest, where they rest on one
abbrev pub bases_of : List GraphLead → List (Option ℕ)
bases_of leads = map (λ (l : GraphLead). base_handle l.begins) leads

-- the graph that a handle lists
abbrev pub listed_by : Parts → ℕ → List Element
listed_by p handle = held_by p.table p.graphs handle

-- These graphs are those as of the instants, on these bases, by a tree over the index of this state, with the messages
-- that are asked for: tree and messages weigh so much together, beside the weights of the single plans, each with its
-- messages.
pub record IsRetrieved (m : MachineState) (times : List ℕ) (cols : Columns) (weight : ℕ) (singles : List ℕ) (bases : List (Option ℕ)) (graphs : List (List Element)) : Type 0 where
  pub tree : (tree : ℕ) × IsTreeOf (edges_in m cols) (points_for m times) tree bases × (weight ≡ tree + heard_for m cols times)
  pub single_plans : (plans : List ℕ) × AreSingles (arcs_of (edges_in m cols)) (Root ∷ []) (points_for m times) plans × (singles ≡ with_heard m cols times plans)
  pub listed : graphs ≡ map (elements (history_in m.index)) (overlays_on cols times bases)

-- This is what the node has in these columns, by its least plan over the records of the index of this state, which
-- weighs so much.
pub record IsNodeHeld (m : MachineState) (node : NodeId) (cols : Columns) (weight : ℕ) (graph : List Element) : Type 0 where
  pub plan : (steps : List ℕ) × IsPlan (arcs_of (record_edges_in m cols)) (Root ∷ []) node steps × (weight ≡ weight_of (arcs_of (record_edges_in m cols)) steps)
  pub listed : graph ≡ elements (history_in m.index) (record { what = Base node; cols = cols })

-- the bytes read are at most what the tree of the instants weighs, with the messages that are asked for
abbrev pub TakesAtMostRetrieval : MachineState → List ℕ → Columns → ℕ → ℕ → Type 0
TakesAtMostRetrieval m times cols before after =
    (grafts : List (Graft NodeId)) → IsTree (arcs_of (edges_in m cols)) (Root ∷ []) (points_for m times) grafts
    → TakesAtMost (tree_weight (arcs_of (edges_in m cols)) grafts + heard_for m cols times) before after

-- Over an image that stands for the state: what is retrieved is that, as many bytes are read as it weighs, never more
-- than it would, and no damage is met.
pub record RetrievesFor (m : MachineState) (p : Parts) (times : List ℕ) (cols : Columns) (before after : ℕ) (r : Result Retrieved RecordFault) : Type 0 where
  pub retrieved : IfOk r (λ x. IsRetrieved m times cols x.weight x.singles.items (bases_of (leads_in x.leads)) (map (led_to p.graph (listed_by p) cols) (leads_in x.leads)))
  pub takes : IfOk r (λ x. Takes x.weight before after)
  pub most : TakesAtMostRetrieval m times cols before after
  pub never : IfErr r IsNoDamage

-- Over any image: there is a lead for each instant, which begins on what the session has and puts in names that it has.
pub record HasRetrieved (p : Parts) (times : List ℕ) (cols : Columns) (r : Retrieved) : Type 0 where
  pub bases : All (BeginsOn p.table cols) (leads_in r.leads)
  pub count : length (leads_in r.leads) ≡ length times
  pub sum : r.sum ≡ sum r.singles.items
  pub named : All (λ (l : GraphLead). NamesAreThere (length p.names) l.delta.plus) (leads_in r.leads)

-- The same of the set of a node, by its least plan over the records. What is led to has no message beside it.
pub record HoldsNodeFor (m : MachineState) (node : NodeId) (cols : Columns) (before after : ℕ) (r : Result NodeLead RecordFault) : Type 0 where
  pub held : IfOk r (λ x. IsNodeHeld m node cols x.weight (shown (applied x.delta []) (with_messages cols)))
  pub takes : IfOk r (λ x. Takes x.weight before after)
  pub most : (steps : List ℕ) → IsPlan (arcs_of (record_edges_in m cols)) (Root ∷ []) node steps → TakesAtMost (weight_of (arcs_of (record_edges_in m cols)) steps) before after
  pub never : IfErr r IsNoDamage

-- Over an image that stands for the state: the index says what the events of the history say of the key; as many bytes are
-- read as the columns of node attributes of the lists have, never more, and no damage is met.
pub record IndexesFor (m : MachineState) (key : ℕ) (before after : ℕ) (r : Result AuxState RecordFault) : Type 0 where
  pub said : IfOk r (λ aux. said_by aux ≡ said_over (events_of (history_in m.index)) key)
  pub takes : IfOk r (λ aux. Takes (node_attrs_length (history_in m.index)) before after)
  pub most : TakesAtMost (node_attrs_length (history_in m.index)) before after
  pub never : IfErr r IsNoDamage

-- Over an image that stands for the state: what is read of the lists and is recent is what the events between the instants
-- add, with their messages, in these columns; as many bytes are read as the asked columns of the lists that are met have,
-- never more, and no damage is met.
pub record AddsFor (m : MachineState) (from until : ℕ) (cols : Columns) (before after : ℕ) (r : Result (List Element) RecordFault) : Type 0 where
  pub added : IfOk r (λ set. set ≡ selected (events_of (history_in m.index)) cols (Added from until))
  pub takes : IfOk r (λ set. Takes (added_length (history_in m.index) from until cols) before after)
  pub most : TakesAtMost (added_length (history_in m.index) from until cols) before after
  pub never : IfErr r IsNoDamage

-- ---- the bytes read

-- A retrieval that is answered so has read exactly the weight that the reply tells. One that is refused has read
-- at most what its answer would tell.
abbrev pub ReadsAsTold : Bool → MachineState → Command → List ScriptLine → Reply → ℕ → ℕ → Type 0
ReadsAsTold false m c got reply before after = Takes (weight_told reply) before after
ReadsAsTold true m c got reply before after =
    (p : Planned) → IsPlannedBy (refused m c got) m c p → TakesAtMost (weight_told (answer m c got p).reply) before after

-- A batch of so many lines has read at most what the single plans of those children weigh together, over the records
-- alone.
abbrev pub ReadsOlder : MachineState → ℕ → ℕ → ℕ → Type 0
ReadsOlder m count before after =
    (singles : List ℕ) → AreSingles (arcs_of (record_edges_in m all_columns)) (Root ∷ []) (older_for m count) singles → TakesAtMost (sum singles) before after

-- The session has an index, and no more was read than the columns of its records have, each once.
abbrev pub ReadsRecords : Parts → Option (List ℕ) → ℕ → ℕ → Type 0
ReadsRecords old image before after =
    (o : Opening) × (old.index ≡ Some o) × IfSome image (λ bytes. TakesAtMost (records_bytes o) before after)

-- what a command that adds a batch, a retrieval, or `verify` reads over an image that stands for the state
abbrev pub ReadsBy : MachineState → Command → List ScriptLine → Reply → ℕ → ℕ → Type 0
ReadsBy m (command.Load count) got reply before after = ReadsOlder m count before after
ReadsBy m (command.Append count) got reply before after = ReadsOlder m count before after
ReadsBy m command.Verify got reply before after = TakesAtMost (records_length (history_in m.index)) before after
ReadsBy m (command.Workload seed count) got reply before after = ReadsOlder m count before after
ReadsBy m c got reply before after = ReadsAsTold (is_refusal reply) m c got reply before after

-- The bytes that the command reads, where it is answered so: over an image that stands for a state what the
-- reply to a retrieval tells, and no more than the older children of a batch, or than all records for `verify`; nothing,
-- where it is refused before that, and for a command that reads no records.
pub record Reads (c : Command) (old : Parts) (image : Option (List ℕ)) (reply : Reply) (before after : ℕ) : Type 0 where
  pub told : (needs c).reads ≡ true → IfSome image (λ bytes. (m : MachineState) → StandsFor old bytes m
      → (got : List ScriptLine) → ReadsBy m c got reply before after)
  pub early : is_early reply ≡ true → after ≡ before
  pub nothing : (needs c).reads ≡ false → after ≡ before

-- What a command that stops has read: nothing, where a line could not be had; and where the file could not be written, no
-- more than the older children of its batch, and nothing, where it reads no records.
pub record ReadsToWrite (c : Command) (old : Parts) (image : Option (List ℕ)) (before after : ℕ) : Type 0 where
  pub older : IfSome image (λ bytes. (m : MachineState) → StandsFor old bytes m → ReadsOlder m (needs c).changes before after)
  pub nothing : (needs c).reads ≡ false → after ≡ before

abbrev pub ReadsToStop : Command → Parts → Option (List ℕ) → Stop → ℕ → ℕ → Type 0
ReadsToStop c old image stop.Read before after = after ≡ before
ReadsToStop c old image stop.Limit before after = after ≡ before
ReadsToStop c old image stop.Store before after = ReadsToWrite c old image before after

-- the reply to a command that comes to this, unless it is stopped
abbrev pub reply_of : Result Reply Halt → Option Reply
reply_of (Ok reply) = Some reply
reply_of (Err (halt.Refusal r)) = Some (replied.Refused r)
reply_of (Err (halt.Stop s)) = None

-- the bytes read by a command that comes to this
abbrev pub ReadsIn : Command → Parts → Option (List ℕ) → Result Reply Halt → ℕ → ℕ → Type 0
ReadsIn c old image (Ok reply) before after = Reads c old image reply before after
ReadsIn c old image (Err (halt.Refusal r)) before after = Reads c old image (replied.Refused r) before after
ReadsIn c old image (Err (halt.Stop s)) before after = ReadsToStop c old image s before after
