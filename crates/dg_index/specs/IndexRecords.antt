-- The records of an index: which keys there are, what each holds, and its columns.
use Rattle.std.specs.Prelude.{ℕ, zero, suc, ◌+◌, ◌-◌, ◌*◌, ◌/◌, ◌^◌, ◌==◌, List, [], ◌∷◌, ◌++◌, map, filter, length, take, drop, if◌then◌else◌, nat_le}
use Rattle.std.specs.List.{flat_map}
use Rattle.dg_graph.specs.declared.element.Column.{Column}
use Rattle.dg_graph.specs.declared.element.Column.TheVariants as column
use Rattle.dg_graph.specs.declared.element.Columns.{Columns}
use Rattle.dg_graph.specs.declared.event.Event.{Event}
use Rattle.dg_history.specs.declared.node.Key.{Key}
use Rattle.dg_history.specs.declared.node.Key.TheVariants as key
use Rattle.dg_history.specs.declared.params.Params.{Params}
use Rattle.dg_graph.specs.Columns.{events_column, delta_column}
use Rattle.dg_graph.specs.Composition.{Delta, between}
use Rattle.dg_history.specs.History.{History, Batch, events_of}
use Rattle.dg_index.specs.Hierarchy.{numbers, leaves, children, parent, set_at}

-- ---- which keys there are

-- the closed lists that so many events give beside those that the first of them gave
abbrev pub lists_due : Params → ℕ → ℕ → List Key
lists_due p n after = map (λ i. key.List i) (numbers (leaves p n) (leaves p after - leaves p n))

-- the deltas of one interior node: from the root to it, where it is the first of its height, and from it to
-- its children
abbrev pub deltas_of : ℕ → ℕ → ℕ → List Key
deltas_of k h j = (if j == 1 then key.Top h ∷ [] else []) ++ map (λ c. key.Down h c) (children k j)

-- the numbers of the interior nodes of the height that m leaves give beside those that the first of them gave
abbrev pub inner_due : ℕ → ℕ → ℕ → ℕ → List ℕ
inner_due k m after h = numbers (m / k ^ h + 1) (after / k ^ h - m / k ^ h)

abbrev pub deltas_due_at : ℕ → ℕ → ℕ → ℕ → List Key
deltas_due_at k m after h = flat_map (deltas_of k h) (inner_due k m after h)

-- the deltas of these interior nodes, by height and number
abbrev pub deltas_due : ℕ → ℕ → ℕ → List Key
deltas_due k m after = flat_map (deltas_due_at k m after) (numbers 1 after)

-- the heights at which there is an interior node
abbrev pub heights : ℕ → ℕ → List ℕ
heights k m = filter (λ h. nat_le (k ^ h) m) (numbers 1 m)

-- the lists, tops and downs of an index of so many events, in key order
abbrev pub keys_of : Params → ℕ → List Key
keys_of p n =
    lists_due p 0 n ++ (map (λ h. key.Top h) (heights p.k (leaves p n))
    ++ flat_map (λ h. map (λ c. key.Down h c) (numbers 1 (leaves p n / p.k ^ h * p.k))) (heights p.k (leaves p n)))

-- ---- what each holds

-- the events of a closed list
abbrev pub closed_list : Params → List Event → ℕ → List Event
closed_list p events i = take p.l (drop (i * p.l) events)

-- the events of a batch after the last closed list
abbrev pub piece_of : Params → List Event → Batch → List Event
piece_of p before b = drop (leaves p (length before + length b.events) * p.l - length before) b.events

-- the record of a key: a list of events, or a delta
pub data Record : Type 0 where
  Events : List Event → Record
  Exact : Delta → Record

-- the piece of the batch with this number, behind these events
abbrev pub piece_at : Params → List Event → List Batch → ℕ → List Event
piece_at p before [] s = []
piece_at p before (b ∷ more) zero = piece_of p before b
piece_at p before (b ∷ more) (suc s) = piece_at p (before ++ b.events) more s

abbrev pub record_among : Params → List Event → List Batch → Key → Record
record_among p events batches (key.List i) = Events (closed_list p events i)
record_among p events batches (key.Piece s) = Events (piece_at p [] batches s)
record_among p events batches (key.Top h) = Exact (between [] (set_at p events h 1))
record_among p events batches (key.Down h c) = Exact (between (set_at p events h (parent p.k c)) (set_at p events (h - 1) c))

-- the column of a delta: no delta has messages
abbrev pub exact_column : Column → Delta → List ℕ
exact_column column.Structure d = delta_column column.Structure d
exact_column column.NodeAttr d = delta_column column.NodeAttr d
exact_column column.EdgeAttr d = delta_column column.EdgeAttr d
exact_column column.Transient d = []

abbrev pub column_of_record : Column → Record → List ℕ
column_of_record col (Events events) = events_column col events
column_of_record col (Exact d) = exact_column col d

-- the column of a record of the history
abbrev pub column_in : History → Key → Column → List ℕ
column_in z k col = column_of_record col (record_among z.params (events_of z) z.batches k)

-- the bytes of the asked columns of a record
abbrev pub length_in : History → Key → Columns → ℕ
length_in z k cols =
    length (column_in z k column.Structure)
    + ((if cols.nodes_attr then length (column_in z k column.NodeAttr) else 0)
    + (if cols.edges_attr then length (column_in z k column.EdgeAttr) else 0))

-- the events behind the last closed list
abbrev pub recent_of : Params → List Event → List Event
recent_of p events = drop (leaves p (length events) * p.l) events
