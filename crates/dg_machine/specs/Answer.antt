-- The machine's answer to a command and the lines that follow it: a reply and a new state. A refusal keeps
-- the state.
use Rattle.std.specs.Prelude.{ℕ, ◌+◌, Bool, true, false, ◌&&◌, ◌||◌, not, List, [], ◌∷◌, ◌++◌, Option, Some, None, Result, Ok, Err, if◌then◌else◌, length, map, nat_lt, is_some, slice_get, sum, take}
use Rattle.std.specs.List.{flat_map}
use Rattle.dg_graph.specs.declared.element.Column.TheVariants as column
use Rattle.dg_graph.specs.declared.element.Columns.{Columns}
use Rattle.dg_graph.specs.declared.element.Element.{Element}
use Rattle.dg_graph.specs.declared.element.Element.TheVariants as element
use Rattle.dg_text.specs.Lines.{ScriptLine}
use Rattle.dg_graph.specs.Replay.{replay}
use Rattle.dg_changes.specs.Batch.{batch_of}
use Rattle.dg_index.specs.FileOfHistory.{size}
use Rattle.dg_history.specs.declared.form.Form.TheVariants as form
use Rattle.dg_graph.specs.declared.function.Function.TheVariants.{Skewed}
use Rattle.dg_history.specs.History.{History, Batch, empty_history, with_batch, with_upgrade, events_of, is_wide, last_time_from}
use Rattle.dg_history.specs.LegalHistory.{are_silent}
use Rattle.dg_index.specs.HeardLists.{heard_length}
use Rattle.dg_machine.specs.declared.command.Command.{Command}
use Rattle.dg_machine.specs.declared.command.Command.TheVariants as command
use Rattle.dg_machine.specs.declared.query.Query.{Query}
use Rattle.dg_history.specs.declared.node.Key.{Key}
use Rattle.dg_history.specs.declared.node.NodeId.{NodeId}
use Rattle.dg_index.specs.Hierarchy.{leaves}
use Rattle.dg_index.specs.IndexRecords.{column_in, keys_of}
use Rattle.dg_plan.specs.declared.edge.Edge.{Edge}
use Rattle.dg_plan.specs.CertificateLines.{judged}
use Rattle.dg_plan.specs.IndexGraph.{arcs_of}
use Rattle.dg_plan.specs.TreePaths.{base_under}
use Rattle.dg_plan.specs.Walks.{steps_of, tree_weight, weight_of}
use Rattle.dg_machine.specs.declared.reply.BodyLine.{BodyLine}
use Rattle.dg_machine.specs.declared.reply.BodyLine.TheVariants as line
use Rattle.dg_machine.specs.declared.reply.Head.{Head}
use Rattle.dg_machine.specs.declared.reply.Head.TheVariants as head
use Rattle.dg_machine.specs.declared.reply.Refusal.{Refusal}
use Rattle.dg_machine.specs.declared.reply.Refusal.TheVariants as refusal
use Rattle.dg_machine.specs.declared.reply.Reply.{Reply}
use Rattle.dg_machine.specs.declared.reply.Reply.TheVariants as replied
use Rattle.dg_machine.specs.QueryTable.{Told, told_of}
use Rattle.dg_machine.specs.declared.selection.Selection.{Selection}
use Rattle.dg_machine.specs.declared.selection.Selection.TheVariants.{Chosen, Added}
use Rattle.dg_machine.specs.declared.stands.Stands.{Stands}
use Rattle.dg_machine.specs.declared.stands.Shown.TheVariants.{Overlay, Base, Selected}
use Rattle.dg_aux.specs.Values.{additions_of}
use Rattle.dg_machine.specs.Selections.{added_length}
use Rattle.dg_machine.specs.ValueIndex.{found, key_text, node_attrs_length, value_text}
use Rattle.dg_text.specs.Names.{number_in}
use Rattle.dg_machine.specs.MachineState.{MachineState, elements, elements_held, names_in, stands_at, history_in, without_handle}
use Rattle.dg_machine.specs.CommandGrammar.{plan_line_in}
use Rattle.dg_changes.specs.GeneratedChanges.{batch_of_changes, generated}
use Rattle.dg_query.specs.Queries.{counts_of}
use Rattle.dg_sound.specs.declared.soundness.Soundness.TheVariants.{Sound}
use Rattle.dg_sound.specs.Soundness.{record_total}
use Rattle.dg_machine.specs.Needs.{needs, number_in_index, refused, is_followed}
use Rattle.dg_machine.specs.Planning.{Planned, IsPlanned, no_plan, edges_in, nodes_in, point_for, record_edges_in}

pub record Answered : Type 0 where
  pub reply : Reply
  pub state : MachineState

-- an answer of a first line alone
abbrev pub headed : Head → Reply
headed h = replied.Answered h []

-- the refusal, and the state as before
abbrev pub refuse : MachineState → Refusal → Answered
refuse m r = record { reply = replied.Refused r; state = m }

-- the reply, and the state as before
abbrev pub say : MachineState → Reply → Answered
say m r = record { reply = r; state = m }

-- The reply to a batch, with this head, and the state with the batch. A file in its first form takes no message.
abbrev pub with_new : MachineState → History → (ℕ → ℕ → ℕ → Head) → Result Batch (ℕ × ℕ) → Answered
with_new m z make (Err fault) = refuse m (refusal.BadChange fault.0 fault.1)
with_new m z make (Ok b) =
    if not (is_wide z.form) && not (are_silent b.events) then refuse m refusal.OldFormat
    else (if nat_lt m.limits.file_bytes (size (with_batch z b)) then refuse m (refusal.FileFull (size (with_batch z b)) m.limits.file_bytes)
    else record {
      reply = headed (make (length b.events) (length (events_of z) + length b.events) (last_time_from 0 b.events));
      state = record m { index = Some (with_batch z b) };
    })

-- the next batch, with this head
abbrev pub with_lines : MachineState → (ℕ → ℕ → ℕ → Head) → List ScriptLine → Answered
with_lines m make lines = with_new m (history_in m.index) make (batch_of (history_in m.index) lines)

-- the graph of the history with the next batch
abbrev pub graph_with : History → Result Batch (ℕ × ℕ) → List Element
graph_with z (Err fault) = []
graph_with z (Ok b) = replay (events_of z ++ b.events)

-- the generated batch, with the nodes and the edges of the graph behind it
abbrev pub with_workload : MachineState → Result Batch (ℕ × ℕ) → Answered
with_workload m made =
    let graph = graph_with (history_in m.index) made in
    with_new m (history_in m.index)
    (λ events total last. head.Generated events last (counts_of graph).nodes (counts_of graph).edges) made

-- the state with a new handle for this
abbrev pub with_handle : MachineState → Stands → MachineState
with_handle m stands = record m { table = m.table ++ (m.next, stands) ∷ []; next = m.next + 1 }

-- the elements of what a handle stands for, where it is live
abbrev pub elements_if : History → Option Stands → List Element
elements_if z None = []
elements_if z (Some stands) = elements z stands

-- the state with a new handle for each of these, in order
abbrev pub with_handles : MachineState → List Stands → MachineState
with_handles m [] = m
with_handles m (stands ∷ more) = with_handles (with_handle m stands) more

-- the graphs as of these instants, each on the base that the function gives for it
abbrev pub overlays : Columns → (ℕ → Option ℕ) → List ℕ → List Stands
overlays cols base times = map (λ t. record { what = Overlay t (base t); cols = cols }) times

-- the base with which the path to the graph as of an instant begins, within the tree of these steps
abbrev pub base_for : MachineState → Columns → List ℕ → ℕ → Option ℕ
base_for m cols steps t = base_under (edges_in m cols) steps (point_for m t)

-- the columns of what a handle stands for; none but structure, where it is not live
abbrev pub columns_if : Option Stands → Columns
columns_if None = record { nodes_attr = false; edges_attr = false; transient = false }
columns_if (Some stands) = stands.cols

abbrev pub columns_by : MachineState → ℕ → Columns
columns_by m handle = columns_if (stands_at handle m.table)

-- the elements of a handle
abbrev pub shown_by : MachineState → ℕ → List Element
shown_by m handle = elements_if (history_in m.index) (stands_at handle m.table)

-- the lines of new handles from this number on: each with its instant and the weight of its single plan
abbrev pub handle_lines : ℕ → List ℕ → List ℕ → List BodyLine
handle_lines next [] singles = []
handle_lines next (t ∷ times) [] = []
handle_lines next (t ∷ times) (single ∷ singles) = line.Handle next t single ∷ handle_lines (next + 1) times singles

-- ---- what is asked of a handle's graph

-- the answer about a handle
abbrev pub asked : ℕ → Told → Reply
asked handle told = replied.Answered (head.Asked handle told.head) told.body

-- the answer to a query of this set, which has these columns
abbrev pub query_reply : Query → ℕ → Columns → List Element → Reply
query_reply q handle cols set = asked handle (told_of q cols set)

-- ---- new handles

-- the bytes of the columns of messages that are read for these instants, where messages are asked for
abbrev pub heard_for : MachineState → Columns → List ℕ → ℕ
heard_for m cols times = if cols.transient then heard_length (history_in m.index) times else 0

-- the weights of single retrievals: of the plan of each instant, with the messages that are read for it
abbrev pub with_heard : MachineState → Columns → List ℕ → List ℕ → List ℕ
with_heard m cols [] singles = []
with_heard m cols (t ∷ times) [] = []
with_heard m cols (t ∷ times) (single ∷ singles) = (single + heard_for m cols (t ∷ [])) ∷ with_heard m cols times singles

-- the reply of a tree that weighs so much, with the weights of the single plans, for handles from this number on
abbrev pub several_reply : ℕ → ℕ → List ℕ → List ℕ → Reply
several_reply next weight times singles = replied.Answered (head.Several weight (sum singles)) (handle_lines next times singles)

-- ---- what is selected

-- the bytes that are read for a selection: of the tree of the instants, or of the lists in between
abbrev pub weight_of_selection : MachineState → Columns → Selection → Planned → ℕ
weight_of_selection m cols (Chosen e) p = tree_weight (arcs_of (edges_in m cols)) p.grafts
weight_of_selection m cols (Added from until) p = added_length (history_in m.index) from until cols

-- the first line of the reply to a selection
abbrev pub selection_head : Selection → ℕ → ℕ → Head
selection_head (Chosen e) handle weight = head.Chosen handle weight
selection_head (Added from until) handle weight = head.Added handle weight

-- ---- the value index

-- the key of this number is indexed
abbrev pub with_index : MachineState → ℕ → Answered
with_index m key = record {
  reply = headed (head.Indexed (additions_of key (events_of (history_in m.index))) (node_attrs_length (history_in m.index)));
  state = record m { indexes = m.indexes ++ key ∷ [] };
}

-- a line for each node that was found
abbrev pub found_reply : List ℕ → Reply
found_reply ids = replied.Answered (head.Found (length ids)) (map (λ id. line.Element (element.Node id)) ids)

-- ---- plans

-- the line of a step, where there is an edge of its number
abbrev pub step_if : ℕ → Option Edge → List BodyLine
step_if i None = []
step_if i (Some e) = line.Step i e.to e.weight ∷ []

-- the lines of a plan's steps
abbrev pub step_lines : List Edge → List ℕ → List BodyLine
step_lines edges steps = flat_map (λ i. step_if i (slice_get edges i)) steps

-- the line of a potential that is below the weight
abbrev pub potential_line : ℕ → NodeId → ℕ → List BodyLine
potential_line weight node p = if nat_lt p weight then line.Potential node p ∷ [] else []

-- the potentials below the weight, in the order of nodes
abbrev pub potential_lines : ℕ → List NodeId → List ℕ → List BodyLine
potential_lines weight [] potentials = []
potential_lines weight (node ∷ nodes) [] = []
potential_lines weight (node ∷ nodes) (p ∷ potentials) = potential_line weight node p ++ potential_lines weight nodes potentials

-- the reply of a plan with these steps and potentials, which weighs so much
abbrev pub plan_reply : List Edge → List NodeId → ℕ → List ℕ → List ℕ → Reply
plan_reply edges nodes weight steps potentials =
    replied.Answered (head.Plan weight (length steps)) (step_lines edges steps ++ potential_lines weight nodes potentials)

-- ---- records

-- the line of a record
abbrev pub record_line : History → Key → BodyLine
record_line z k =
    line.Sizes k (record {
      structure = length (column_in z k column.Structure);
      node_attrs = length (column_in z k column.NodeAttr);
      edge_attrs = length (column_in z k column.EdgeAttr);
      transient = length (column_in z k column.Transient);
    })

-- the parameters, and a line for each list, top and down
abbrev pub tree_reply : History → Reply
tree_reply z =
    replied.Answered (head.Tree z.params.l z.params.k z.params.function (length (events_of z)) (leaves z.params (length (events_of z))) (length (keys_of z.params (length (events_of z)))))
    (map (record_line z) (keys_of z.params (length (events_of z))))

-- ---- the file

-- The file of a history is what its events determine: so many lists, tops and downs.
abbrev pub verify_reply : History → Reply
verify_reply z = headed (head.Verified (Sound (record_total z.params (length (events_of z)))))

-- the file goes on in its second form, where it has room for the marker
abbrev pub upgrading : MachineState → History → Answered
upgrading m z =
    if nat_lt m.limits.file_bytes (size (with_upgrade z)) then refuse m (refusal.FileFull (size (with_upgrade z)) m.limits.file_bytes)
    else record { reply = headed head.Upgraded; state = record m { index = Some (with_upgrade z) } }

-- ---- the answer

-- the answer to a command that is not refused by what it needs, with what is planned for it
abbrev pub accepted : MachineState → Command → List ScriptLine → Planned → Answered
accepted m (command.Create l k function) lines p = record {
  reply = headed head.Created;
  state = record m { index = Some (empty_history form.Two (record { l = l; k = k; function = function })) };
}
accepted m (command.CreateSkewed l k r) lines p = record {
  reply = headed head.Created;
  state = record m { index = Some (empty_history form.Two (record { l = l; k = k; function = Skewed r })) };
}
accepted m command.Upgrade lines p = upgrading m (history_in m.index)
accepted m (command.Load count) lines p = with_lines m (λ events total last. head.Loaded events total last) lines
accepted m (command.Append count) lines p = with_lines m (λ events total last. head.Appended events total last) lines
accepted m (command.At t cols) lines p = record {
  reply = headed (head.At m.next (weight_of (arcs_of (edges_in m cols)) p.steps + heard_for m cols (t ∷ [])));
  state = with_handle m (record { what = Overlay t (base_for m cols p.steps t); cols = cols });
}
accepted m (command.Several cols times count) lines p = record {
  reply = several_reply m.next (tree_weight (arcs_of (edges_in m cols)) p.grafts + heard_for m cols (take count times)) (take count times)
      (with_heard m cols (take count times) p.singles);
  state = with_handles m (overlays cols (base_for m cols (steps_of p.grafts)) (take count times));
}
accepted m (command.Materialise node cols) lines p = record {
  reply = headed (head.Materialised m.next (weight_of (arcs_of (record_edges_in m cols)) p.steps));
  state = with_handle m (record { what = Base node; cols = cols });
}
accepted m (command.Ask handle q) lines p = say m (query_reply q handle (columns_by m handle) (shown_by m handle))
accepted m (command.Release handle) lines p = record {
  reply = headed (head.Released handle);
  state = record m { table = without_handle handle m.table };
}
accepted m (command.Clean cells) lines p = say m (headed head.Cleaned)
accepted m command.CleanAll lines p = say m (headed (head.CleanedAll (length (elements_held m))))
accepted m command.Pool lines p = say m (headed (head.Pool (length m.table) (length (elements_held m))))
accepted m (command.Plan t cols) lines p =
    say m (plan_reply (edges_in m cols) (nodes_in m cols) (weight_of (arcs_of (edges_in m cols)) p.steps) p.steps p.potentials)
accepted m (command.Certify t cols count) lines p =
    say m (headed (head.Certified (judged (edges_in m cols) (nodes_in m cols) (point_for m t) (map plan_line_in lines))))
accepted m command.Verify lines p = say m (verify_reply (history_in m.index))
accepted m command.Tree lines p = say m (tree_reply (history_in m.index))
accepted m (command.Workload seed count) lines p = with_workload m (batch_of_changes (history_in m.index) (generated seed count))
accepted m (command.Select what cols) lines p = record {
  reply = headed (selection_head what m.next (weight_of_selection m cols what p));
  state = with_handle m (record { what = Selected what; cols = cols });
}
accepted m (command.Index key) lines p = with_index m (number_in (names_in m.index) (key_text key))
accepted m (command.Find t key value) lines p =
    say m (found_reply (found (history_in m.index) t (number_in_index m (key_text key)) (number_in_index m (value_text value))))

-- the refusal, or else the answer of an accepted command
abbrev pub answer_by : Option Refusal → MachineState → Command → List ScriptLine → Planned → Answered
answer_by (Some r) m c lines p = refuse m r
answer_by None m c lines p = accepted m c lines p

abbrev pub answer : MachineState → Command → List ScriptLine → Planned → Answered
answer m c lines p = answer_by (refused m c lines) m c lines p

-- what is planned, where the command is not refused
abbrev pub IsPlannedBy : Option Refusal → MachineState → Command → Planned → Type 0
IsPlannedBy (Some r) m c p = Unit {0}
IsPlannedBy None m c p = IsPlanned m c p

-- want of memory
abbrev pub no_memory : Reply
no_memory = replied.Refused refusal.OutOfMemory

-- the refusal, where the reply is one
abbrev pub refusal_of : Reply → Option Refusal
refusal_of (replied.Refused r) = Some r
refusal_of (replied.Answered h body) = None

abbrev pub is_refusal : Reply → Bool
is_refusal r = is_some (refusal_of r)

-- the reply is a refusal that passes the test
abbrev pub refuses : (Refusal → Bool) → Option Refusal → Bool
refuses test None = false
refuses test (Some r) = test r

-- a failed read of the index file
abbrev pub store_read : Reply
store_read = replied.Refused refusal.StoreRead

-- The command is begun: lines follow it, or it is not refused by what it needs. Every other refusal is decided
-- before any memory is taken.
abbrev pub is_begun : MachineState → Command → List ScriptLine → Bool
is_begun m c lines = is_followed c || not (is_some (refused m c lines))

-- want of memory may be answered by a command that needs memory, once it is begun
abbrev pub may_lack_memory : MachineState → Command → List ScriptLine → Bool
may_lack_memory m c lines = (needs c).memory && is_begun m c lines

-- the reply is given behind all reads: it is no refusal, or that of a full file, whose length is known by then
abbrev pub is_behind_reads : Reply → Bool
is_behind_reads (replied.Refused (refusal.FileFull needed limit)) = true
is_behind_reads r = not (is_refusal r)

-- A failed read may be answered by a command that reads records of the file, and only in place of a reply that is given
-- behind all reads: so a failed read never takes the place of a refusal that the script decides. What is planned does
-- not matter to this.
abbrev pub may_fail_to_read : MachineState → Command → List ScriptLine → Bool
may_fail_to_read m c lines = (needs c).reads && is_behind_reads (answer m c lines no_plan).reply

-- the weight that the first line of the answer to a retrieval tells
abbrev pub weight_in : Head → ℕ
weight_in (head.At handle weight) = weight
weight_in (head.Several weight sum) = weight
weight_in (head.Materialised handle weight) = weight
weight_in (head.Chosen handle weight) = weight
weight_in (head.Added handle weight) = weight
weight_in (head.Indexed spans weight) = weight
weight_in h = 0

-- the weight that the reply to a retrieval tells
abbrev pub weight_told : Reply → ℕ
weight_told (replied.Refused r) = 0
weight_told (replied.Answered h body) = weight_in h
