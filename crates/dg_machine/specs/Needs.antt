-- What each command needs, and the refusals that follow from it.
use Rattle.std.specs.Prelude.{ℕ, ◌+◌, ◌*◌, Bool, true, false, ◌==◌, ◌&&◌, ◌||◌, not, List, [], ◌∷◌, ◌++◌, Option, Some, None, length, nat_le, nat_lt, is_some, take}
use Rattle.std.specs.List.{list_any}
use Rattle.dg_graph.specs.declared.function.Function.{Function}
use Rattle.dg_graph.specs.declared.function.Function.TheVariants.{Skewed}
use Rattle.dg_graph.specs.declared.limits.TheConstants.{SKEW_MAX}
use Rattle.dg_expr.specs.Expressions.{instants_of, words_of}
use Rattle.dg_text.specs.declared.limits.TheConstants.{NAMES_MAX}
use Rattle.dg_text.specs.Lines.{ScriptLine}
use Rattle.dg_text.specs.Names.{number_of}
use Rattle.dg_history.specs.declared.node.NodeId.{NodeId}
use Rattle.dg_history.specs.declared.node.NodeId.TheVariants as node
use Rattle.dg_history.specs.declared.params.Params.{Params}
use Rattle.dg_history.specs.History.{are_parameters, is_wide, span_of, in_range}
use Rattle.dg_index.specs.Hierarchy.{exists}
use Rattle.dg_machine.specs.declared.command.Command.{Command}
use Rattle.dg_machine.specs.declared.command.Command.TheVariants as command
use Rattle.dg_machine.specs.declared.limits.TheConstants.{HANDLE_MAX, INDEXES_MAX, LIVE_HANDLES_MAX}
use Rattle.dg_machine.specs.declared.reply.Refusal.{Refusal}
use Rattle.dg_machine.specs.declared.reply.Refusal.TheVariants as refusal
use Rattle.dg_machine.specs.declared.selection.Selection.{Selection}
use Rattle.dg_machine.specs.declared.selection.Selection.TheVariants.{Chosen, Added}
use Rattle.dg_machine.specs.declared.stands.Stands.{Stands}
use Rattle.dg_machine.specs.MachineState.{MachineState, dependent_on, events_in_index, history_in, names_in, overlay_on, stands_at}
use Rattle.dg_machine.specs.QueryTable.{is_of_nodes, takes_memory}
use Rattle.dg_machine.specs.ValueIndex.{is_among, key_text}

pub record Needs : Type 0 where
  pub lines : Option ℕ  -- so many lines that follow it, where any may
  pub index : Bool  -- an index
  pub parameters : Option (ℕ × ℕ × ℕ)  -- no index yet, and a leaf list size, an arity and a share in their ranges
  pub first_form : Bool  -- the file in its first form
  pub unloaded : Bool  -- no event yet
  pub changes : ℕ  -- room for so many changes
  pub instants : List ℕ  -- that these are in the history
  pub until : Option ℕ  -- and this one, or that it is the one behind the last
  pub handle : Option ℕ  -- that this one is live
  pub overlay : Bool  -- and stands for a graph as of an instant
  pub unused : Option ℕ  -- that no live handle rests on this one
  pub node : Option NodeId  -- that the index has this leaf or interior node
  pub unindexed : Option (List ℕ)  -- that the key of this text is not indexed, and room for one more that is
  pub indexed : Option (List ℕ)  -- that the key of this text is indexed
  pub handles : ℕ  -- so many new handles
  pub memory : Bool  -- memory
  pub reads : Bool  -- records of the file
  pub writes : Bool  -- to write to the file

abbrev pub nothing_more : Needs
nothing_more = record {
  lines = None;
  index = false;
  parameters = None;
  first_form = false;
  unloaded = false;
  changes = 0;
  instants = [];
  until = None;
  handle = None;
  overlay = false;
  unused = None;
  node = None;
  unindexed = None;
  indexed = None;
  handles = 0;
  memory = true;
  reads = false;
  writes = false;
}

-- a batch of so many lines: the older children of interior nodes that it completes are read
abbrev pub batch_needs : ℕ → Needs
batch_needs count = record nothing_more { lines = Some count; index = true; changes = count; reads = true; writes = true }

-- the share of a skewed function; no other has one
abbrev pub share_of : Function → ℕ
share_of (Skewed r) = r
share_of function = 0

-- the instants of which something is asked for a selection
abbrev pub instants_asked : Selection → List ℕ
instants_asked (Chosen e) = instants_of (words_of e)
instants_asked (Added from until) = from ∷ []

-- the instant before which a selection ends
abbrev pub end_asked : Selection → Option ℕ
end_asked (Chosen e) = None
end_asked (Added from until) = Some until

abbrev pub needs : Command → Needs
needs (command.Create l k function) = record nothing_more { parameters = Some (l, k, share_of function); writes = true }
needs (command.CreateSkewed l k r) = record nothing_more { parameters = Some (l, k, r); writes = true }
needs command.Upgrade = record nothing_more { index = true; first_form = true; memory = false; writes = true }
needs (command.Load count) = record (batch_needs count) { unloaded = true }
needs (command.Append count) = batch_needs count
needs (command.At t cols) = record nothing_more { index = true; instants = t ∷ []; handles = 1; reads = true }
needs (command.Several cols times count) = record nothing_more { index = true; instants = take count times; handles = count; reads = true }
needs (command.Materialise node cols) = record nothing_more { index = true; node = Some node; handles = 1; reads = true }
needs (command.Ask handle q) = record nothing_more { handle = Some handle; overlay = is_of_nodes q; memory = takes_memory q }
needs (command.Release handle) = record nothing_more { handle = Some handle; unused = Some handle; memory = false }
needs (command.Clean cells) = record nothing_more { memory = false }
needs command.CleanAll = record nothing_more { memory = false }
needs command.Pool = record nothing_more { memory = false }
needs (command.Plan t cols) = record nothing_more { index = true; instants = t ∷ [] }
needs (command.Certify t cols count) = record nothing_more { lines = Some count; index = true; instants = t ∷ [] }
needs command.Verify = record nothing_more { index = true; reads = true }
needs command.Tree = record nothing_more { index = true }
needs (command.Workload seed count) =
    record nothing_more { index = true; unloaded = true; changes = count; reads = true; writes = true }
needs (command.Select what cols) =
    record nothing_more { index = true; instants = instants_asked what; until = end_asked what; handles = 1; reads = true }
needs (command.Index key) = record nothing_more { index = true; unindexed = Some (key_text key); reads = true }
needs (command.Find t key value) = record nothing_more { index = true; instants = t ∷ []; indexed = Some (key_text key) }

abbrev pub or_none : Option ℕ → ℕ
or_none None = 0
or_none (Some n) = n

-- the lines that follow a command
abbrev pub following : Command → ℕ
following c = or_none (needs c).lines

-- lines follow commands of this kind
abbrev pub is_followed : Command → Bool
is_followed c = is_some (needs c).lines

-- commands of this kind write to the file
abbrev pub is_writing : Command → Bool
is_writing c = (needs c).writes

-- the refusal, where the test holds
abbrev pub when : Bool → Refusal → List Refusal
when true r = r ∷ []
when false r = []

-- what is refused of the value, where there is one
abbrev pub of : {A : Type 0} → Option A → (A → List Refusal) → List Refusal
of None f = []
of (Some x) f = f x

abbrev pub earliest : List Refusal → Option Refusal
earliest [] = None
earliest (r ∷ rest) = Some r

-- the handle is live, and stands for a set: of a node of the index, or selected
abbrev pub is_set : Option Stands → Bool
is_set None = false
is_set (Some stands) = not (is_some (overlay_on stands.what))

-- the node is a leaf or an interior node that exists where so many events are there
abbrev pub can_be_held : Params → ℕ → NodeId → Bool
can_be_held p n node.Root = false
can_be_held p n node.Now = false
can_be_held p n node.Recent = false
can_be_held p n (node.Leaf j) = exists p n (node.Leaf j)
can_be_held p n (node.List i) = false
can_be_held p n (node.Inner h j) = exists p n (node.Inner h j)

-- the index has this leaf or interior node
abbrev pub has_index_node : MachineState → NodeId → Bool
has_index_node m node = can_be_held (history_in m.index).params (length (events_in_index m.index)) node

-- so many more events, or the names that so many lines may bring, are too many
abbrev pub is_full : MachineState → ℕ → Bool
is_full m count =
    nat_lt m.limits.events (length (events_in_index m.index) + count) || nat_lt NAMES_MAX (length (names_in m.index) + 2 * count)

-- the instant is in the history, or the one behind its last
abbrev pub in_range_or_next : Option (ℕ × ℕ) → ℕ → Bool
in_range_or_next None t = false
in_range_or_next (Some ends) t = in_range (Some ends) t || t == ends.1 + 1

-- an instant is not in the history, or the end is neither there nor behind it
abbrev pub is_out_of_range : Option (ℕ × ℕ) → List ℕ → Option ℕ → Bool
is_out_of_range span instants None = list_any (λ t. not (in_range span t)) instants
is_out_of_range span instants (Some until) = list_any (λ t. not (in_range span t)) instants || not (in_range_or_next span until)

-- the number of the name that has the text
abbrev pub number_in_index : MachineState → List ℕ → Option ℕ
number_in_index m text = number_of (names_in m.index) text

-- the key of this text is indexed
abbrev pub is_indexed : MachineState → List ℕ → Bool
is_indexed m text = is_among m.indexes (number_in_index m text)

-- What the refusals of a command are computed from: the machine has it, and so has a session.
pub record Seen : Type 0 where
  pub index : Bool  -- there is an index
  pub wide : Bool  -- its file is in the second form
  pub span : Option (ℕ × ℕ)  -- its first and its last instant
  pub events : ℕ  -- how many it has
  pub is_full : ℕ → Bool  -- so many more are too many
  pub has_node : NodeId → Bool  -- it has this leaf or interior node
  pub is_name : List ℕ → Bool  -- some name has this text
  pub is_indexed : List ℕ → Bool  -- the key of this text is indexed
  pub indexes : ℕ  -- how many keys are
  pub table : List (ℕ × Stands)  -- the live handles
  pub next : ℕ  -- the number of the next one

abbrev pub seen : MachineState → Seen
seen m = record {
  index = is_some m.index;
  wide = is_wide (history_in m.index).form;
  span = span_of (events_in_index m.index);
  events = length (events_in_index m.index);
  is_full = is_full m;
  has_node = has_index_node m;
  is_name = λ text. is_some (number_in_index m text);
  is_indexed = is_indexed m;
  indexes = length m.indexes;
  table = m.table;
  next = m.next;
}

-- The refusals of a command that needs this and is followed by so many lines, in the order in which they are
-- tested. Refused lines of a batch, and a file that is full, come later.
abbrev pub refusals_seen : Seen → ℕ → Needs → List Refusal
refusals_seen s read n =
    of n.lines (λ count. when (nat_lt read count) (refusal.ShortBatch read count))
    ++ (when (n.index && not s.index) refusal.NoIndex
    ++ (of n.parameters (λ p. when s.index refusal.IndexExists)
    ++ (when (n.first_form && s.wide) refusal.NewFormat
    ++ (of n.parameters (λ p. when (not (are_parameters p.0 p.1 && nat_le p.2 SKEW_MAX)) refusal.Parameters)
    ++ (when (n.unloaded && is_some s.span) refusal.AlreadyLoaded
    ++ (when (nat_lt 0 n.changes && s.is_full n.changes) (refusal.HistoryFull s.events n.changes)
    ++ (when (is_out_of_range s.span n.instants n.until) (refusal.OutOfRange s.span)
    ++ (of n.handle (λ h. when (not (is_some (stands_at h s.table))) (refusal.UnknownHandle h))
    ++ (of n.handle (λ h. when (n.overlay && is_set (stands_at h s.table)) (refusal.NotAnOverlay h))
    ++ (of n.unused (λ h. of (dependent_on h s.table) (λ d. refusal.InUse d ∷ []))
    ++ (of n.node (λ v. when (not (s.has_node v)) refusal.UnknownNode)
    ++ (of n.unindexed (λ key. when (not (s.is_name key)) refusal.UnknownKey)
    ++ (of n.indexed (λ key. when (not (s.is_indexed key)) refusal.NotIndexed)
    ++ (of n.unindexed (λ key. when (s.is_indexed key) refusal.AlreadyIndexed)
    ++ (of n.unindexed (λ key. when (nat_le INDEXES_MAX s.indexes) refusal.IndexesFull)
    ++ (when (nat_lt 0 n.handles && nat_lt LIVE_HANDLES_MAX (length s.table + n.handles)) (refusal.PoolFull (length s.table) n.handles)
    ++ when (nat_lt 0 n.handles && nat_lt (HANDLE_MAX + 1) (s.next + n.handles)) refusal.HandlesSpent))))))))))))))))

-- those of the machine
abbrev pub refusals : MachineState → List ScriptLine → Needs → List Refusal
refusals m lines n = refusals_seen (seen m) (length lines) n

-- the first refusal that holds
abbrev pub refused : MachineState → Command → List ScriptLine → Option Refusal
refused m c lines = earliest (refusals m lines (needs c))
