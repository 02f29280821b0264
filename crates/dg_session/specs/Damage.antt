-- Which damage a refusal names, and where there is none.
use Rattle.std.specs.Prelude.{◌≡◌, ◌⊎◌, ℕ, false, List, [], ◌∷◌, Option, Some, None, Result, Ok, Err, IfSome, if◌then◌else◌, length, map, take}
use Rattle.dg_append.specs.Fronts.{lines}
use Rattle.dg_append.specs.OlderChildSteps.{IsNamedDamage}
use Rattle.dg_append.specs.OlderGroups.{in_groups, older_children}
use Rattle.dg_expr.specs.Expressions.{instants_of, words_of}
use Rattle.dg_fold.specs.Parts.{fault_named, graph_columns}
use Rattle.dg_graph.specs.CompletedChanges.{completed}
use Rattle.dg_graph.specs.declared.element.Column.{Column}
use Rattle.dg_graph.specs.declared.element.Column.TheVariants.{Transient}
use Rattle.dg_graph.specs.declared.element.Columns.{Columns}
use Rattle.dg_graph.specs.declared.event.Change.{Change}
use Rattle.dg_graph.specs.declared.event.Event.{Event}
use Rattle.dg_heard.specs.Heard.{heard_events}
use Rattle.dg_history.specs.declared.node.Key.{Key}
use Rattle.dg_history.specs.declared.node.Key.TheVariants as a_key
use Rattle.dg_index.specs.OpenedIndex.{Opening, earliest_in, event_total}
use Rattle.dg_machine.specs.declared.command.Command.{Command}
use Rattle.dg_machine.specs.declared.command.Command.TheVariants as command
use Rattle.dg_history.specs.declared.node.NodeId.{NodeId}
use Rattle.dg_machine.specs.Planning.{bases_in}
use Rattle.dg_machine.specs.Answer.{refusal_of}
use Rattle.dg_machine.specs.declared.reply.Refusal.{Refusal}
use Rattle.dg_machine.specs.declared.reply.Reply.{Reply}
use Rattle.dg_machine.specs.declared.selection.Selection.TheVariants.{Chosen, Added}
use Rattle.dg_plan.specs.declared.edge.Edge.{Edge}
use Rattle.dg_plan.specs.HistoryGraph.{all_columns}
use Rattle.dg_range.specs.Added.{range_columns}
use Rattle.dg_range.specs.ColumnRuns.{events_along}
use Rattle.dg_range.specs.ListValues.{values_along}
use Rattle.dg_records.specs.declared.fault.RecordFault.{RecordFault}
use Rattle.dg_records.specs.declared.fault.RecordFault.TheVariants as fault
use Rattle.dg_retrieval.specs.KeptGraph.{index_edges, kept_edges, record_edges}
use Rattle.dg_retrieval.specs.NodeSets.{IsUndamaged}
use Rattle.dg_retrieval.specs.Retrieval.{IsFirstDamage}
use Rattle.dg_batch.specs.declared.halt.Halt.{Halt}
use Rattle.dg_ask.specs.HeldIndex.{points_over}
use Rattle.dg_session.specs.Parts.{Parts}
use Rattle.dg_session.specs.Reads.{reply_of}
use Rattle.dg_session.specs.Session.{damage_of}

-- ---- what is read in one go

-- The tree of nodes in a graph of the index, in columns; or columns of lists, which are read as events or have a first one that
-- cannot be.
pub data Reading : Type 0 where
  Tree : List Edge → Columns → List NodeId → Reading
  Lists : (ℕ → List ℕ → Opening → Result (List Event) (ℕ × Column)) → Reading

-- the damage is the first among the columns that the reading enters in an image, with so many names; or there is none
abbrev pub Meets : Reading → ℕ → Opening → List ℕ → Option (Key × Column) → Type 0
Meets (Tree edges cols nodes) names o bytes None = IsUndamaged names edges o cols nodes bytes
Meets (Tree edges cols nodes) names o bytes (Some d) = IsFirstDamage names edges o cols nodes bytes (fault.Damaged d.0 d.1)
Meets (Lists read) names o bytes None = (events : List Event) × (read names bytes o ≡ Ok events)
Meets (Lists read) names o bytes (Some d) = (p : ℕ × Column) × (read names bytes o ≡ Err p) × (d.0 ≡ a_key.List p.0) × (d.1 ≡ p.1)

-- the same of readings one after another: each begins where those before it have met none
abbrev pub MeetAlong : List Reading → ℕ → Opening → List ℕ → Option (Key × Column) → Type 0
MeetAlong [] names o bytes None = Unit {0}
MeetAlong [] names o bytes (Some d) = ⊥
MeetAlong (r ∷ more) names o bytes None = Meets r names o bytes None × MeetAlong more names o bytes None
MeetAlong (r ∷ more) names o bytes (Some d) = Meets r names o bytes (Some d) ⊎ (Meets r names o bytes None × MeetAlong more names o bytes (Some d))

-- ---- what a command reads

-- What is read of what a session keeps, with its index: these readings. For a batch of so many lines, those of its older
-- children. Or nothing.
pub data ReadsFor : Type 0 where
  Reads_along : (Parts → Opening → List Reading) → ReadsFor
  Batch_of : ℕ → ReadsFor
  Nothing_read : ReadsFor

-- the events of the columns of messages that are heard for the instants
abbrev pub messages_for : List ℕ → ℕ → List ℕ → Opening → Result (List Event) (ℕ × Column)
messages_for times names bytes o = fault_named (λ i. (i, Transient)) (heard_events names bytes o times)

-- the graphs as of the instants: their tree, in the graph of the index that the session keeps, and then their messages, where
-- these are asked for
abbrev pub graph_readings : List ℕ → Columns → Parts → Opening → List Reading
graph_readings times cols old o =
    Tree (kept_edges o (event_total o.batches) cols (bases_in cols old.table)) cols (points_over o old.recent times)
    ∷ (if cols.transient then Lists (messages_for times) ∷ [] else [])

-- the set of a node, over the records alone
abbrev pub node_readings : NodeId → Columns → Parts → Opening → List Reading
node_readings node cols old o = Tree (index_edges o cols false []) cols (node ∷ []) ∷ []

-- the events of the lists between two instants, by their asked columns
abbrev pub interval_readings : ℕ → ℕ → Columns → Parts → Opening → List Reading
interval_readings from until cols old o = Lists (λ names bytes o. events_along names bytes o (range_columns o from until cols)) ∷ []

-- the values of nodes in all lists
abbrev pub value_readings : Parts → Opening → List Reading
value_readings old o = Lists values_along ∷ []

-- the sets of the older children of a batch of so many events, group after group
abbrev pub older_readings : ℕ → Parts → Opening → List Reading
older_readings count old o = map (Tree (record_edges o) all_columns) (in_groups (older_children o count))

-- Of the instants of an expression each is asked for once, and no message.
abbrev pub reads_for : Command → ReadsFor
reads_for (command.At t cols) = Reads_along (graph_readings (t ∷ []) cols)
reads_for (command.Several cols times count) = Reads_along (graph_readings (take count times) cols)
reads_for (command.Materialise node cols) = Reads_along (node_readings node cols)
reads_for (command.Select (Chosen e) cols) = Reads_along (graph_readings (instants_of (words_of e)) (graph_columns cols))
reads_for (command.Select (Added from until) cols) = Reads_along (interval_readings from until cols)
reads_for (command.Index key) = Reads_along value_readings
reads_for (command.Load count) = Batch_of count
reads_for (command.Append count) = Batch_of count
reads_for (command.Workload seed count) = Batch_of count
reads_for c = Nothing_read

-- ---- what is met of it

-- over the index that the session keeps
abbrev pub MeetsOver : (Parts → Opening → List Reading) → Parts → Option (List ℕ) → Option (Key × Column) → Type 0
MeetsOver reads old image met = (o : Opening) × (old.index ≡ Some o) × IfSome image (λ bytes. MeetAlong (reads old o) (length old.names) o bytes met)

-- Of a batch of so many changes, which come to these events: the damage is the first that the trees of the older children
-- enter; or these are whole, and it is the first of the deltas that the events give that is too large to be written.
abbrev pub NamesBatchDamage : Parts → Option (List ℕ) → ℕ → Key → Column → Type 0
NamesBatchDamage old image count key col =
    (o : Opening) × (old.index ≡ Some o) × (changes : List Change) × (length changes ≡ count)
    × (events : List Event) × (completed 1 (earliest_in 0 o.batches) old.graph (lines changes) ≡ Ok events)
    × IfSome image (λ bytes. IsNamedDamage (length old.names) bytes o old.recent events old.graph key col)

-- the damage is one that what is read for it meets
abbrev pub IsMetBy : ReadsFor → Parts → Option (List ℕ) → Key → Column → Type 0
IsMetBy (Reads_along reads) old image key col = MeetsOver reads old image (Some (key, col))
IsMetBy (Batch_of count) old image key col = NamesBatchDamage old image count key col
IsMetBy Nothing_read old image key col = ⊥

-- what is read for it meets no damage
abbrev pub MeetsNone : ReadsFor → Parts → Option (List ℕ) → Type 0
MeetsNone (Reads_along reads) old image = MeetsOver reads old image None
MeetsNone (Batch_of count) old image = MeetsOver (older_readings count) old image None
MeetsNone Nothing_read old image = Unit {0}

-- what is read tells so of damage: where it gives something, none is met; a fault that is damage names the one that is
abbrev pub Tells : {A : Type 0} → (Option (Key × Column) → Type 0) → Result A RecordFault → Type 0
Tells Met (Ok r) = Met None
Tells Met (Err fault.Disk) = Unit {0}
Tells Met (Err fault.Memory) = Unit {0}
Tells Met (Err (fault.Damaged key col)) = Met (Some (key, col))

-- the damage that a refusal tells, if there is one
abbrev pub damage_told : Option Refusal → Option (Key × Column)
damage_told None = None
damage_told (Some r) = damage_of r

-- a refusal for damage comes of what reads records alone, and names that damage
abbrev pub DamageIs : Command → Parts → Option (List ℕ) → Reply → Type 0
DamageIs c old image reply = IfSome (damage_told (refusal_of reply)) (λ d. IsMetBy (reads_for c) old image d.0 d.1)

-- the same of what the command comes to
abbrev pub DamageIn : Command → Parts → Option (List ℕ) → Result Reply Halt → Type 0
DamageIn c old image r = IfSome (reply_of r) (λ reply. DamageIs c old image reply)
