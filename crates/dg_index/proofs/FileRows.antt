-- Worked rows.
use Rattle.std.specs.Prelude.{None, codes, ◌≡◌, ℕ, ◌+◌, List, [], ◌∷◌, ◌++◌, Some, Result, Ok, Err, true, refl, take, drop, length, map}
use Rattle.dg_graph.specs.declared.element.Column.TheVariants as column
use Rattle.dg_graph.specs.declared.element.Columns.{Columns}
use Rattle.dg_graph.specs.declared.element.Element.TheVariants as element
use Rattle.dg_graph.specs.declared.event.Body.TheVariants as body
use Rattle.dg_history.specs.declared.form.Form.TheVariants as form
use Rattle.dg_history.specs.declared.node.Key.{Key}
use Rattle.dg_history.specs.declared.node.Key.TheVariants as key
use Rattle.dg_history.specs.declared.node.NodeId.TheVariants as node
use Rattle.dg_graph.specs.declared.function.Function.TheVariants.{Intersection, Skewed}
use Rattle.dg_history.specs.History.{History, Batch, events_of, with_batch, with_upgrade}
use Rattle.std.specs.Option.{option_map}
use Rattle.std.specs.Map.{lookup}
use Rattle.dg_history.specs.Keys.{same_key}
use Rattle.dg_index.specs.OpenedIndex.{Damaged_at, Not_ours, Opened, Unopened, opening, opened_of, column_at, entry_at, total}
use Rattle.dg_index.specs.Hierarchy.{set_of}
use Rattle.dg_index.specs.OlderNodes.{older}
use Rattle.dg_index.specs.IndexRecords.{keys_of, column_in}
use Rattle.dg_index.specs.FileOfHistory.{file, marker, size}

p : History
p = record {
  params = record { l = 2; k = 2; function = Intersection };
  form = form.One;
  batches = record {
    names = codes "name" ∷ codes "A" ∷ [];
    events =
        record { time = 10; body = body.NodeAdded 1 }
        ∷ record { time = 20; body = body.NodeAdded 2 }
        ∷ record { time = 30; body = body.EdgeAdded true 5 1 2 }
        ∷ record { time = 40; body = body.NodeAttr 0 1 None (Some 1) }
        ∷ record { time = 50; body = body.EdgeRemoved true 5 1 2 } ∷ [];
  } ∷ [];
}

size_of_p : size p ≡ 496
unfolding p
size_of_p = refl

all_cols : Columns
all_cols = record { nodes_attr = true; edges_attr = true; transient = true }

inner_set : set_of p.params (events_of p) (node.Inner 1 1) ≡ element.Node 1 ∷ element.Node 2 ∷ []
unfolding p
inner_set = refl

keys : keys_of p.params 5 ≡ key.List 0 ∷ key.List 1 ∷ key.Top 1 ∷ key.Down 1 1 ∷ key.Down 1 2 ∷ []
unfolding p
keys = refl

sizes : Key → List ℕ
sizes k = length (column_in p k column.Structure) ∷ length (column_in p k column.NodeAttr) ∷ length (column_in p k column.EdgeAttr) ∷ []

tree : map sizes (keys_of p.params 5)
    ≡ (42 ∷ 0 ∷ 0 ∷ []) ∷ (40 ∷ 34 ∷ 0 ∷ []) ∷ (26 ∷ 0 ∷ 0 ∷ []) ∷ (0 ∷ 0 ∷ 0 ∷ []) ∷ (34 ∷ 24 ∷ 0 ∷ []) ∷ []
unfolding p sizes
tree = refl

sixth : Batch
sixth = record { names = []; events = record { time = 60; body = body.NodeAdded 9 } ∷ [] }

size_with_sixth : size (with_batch p sixth) ≡ 672
unfolding p sixth
size_with_sixth = refl

whole : file p ≡
    1 ∷ 68 ∷ 71 ∷ 82 ∷ 65 ∷ 80 ∷ 72 ∷ 49 ∷ 0 ∷ 0 ∷ 0 ∷ 2 ∷ 0 ∷ 0 ∷ 0 ∷ 2 ∷ 1 ∷ 1 ∷ 0 ∷ 0 ∷ 0 ∷ 0 ∷ 0 ∷ 0 ∷ 0 ∷ 221 ∷ 0 ∷ 0 ∷ 0 ∷ 0 ∷ 0 ∷ 0 ∷ 0 ∷ 240 ∷ 0 ∷ 0 ∷ 0 ∷ 0 ∷ 0 ∷ 0 ∷ 0 ∷ 5 ∷ 0 ∷ 0 ∷ 0 ∷ 0 ∷ 0 ∷ 0 ∷ 0 ∷ 10 ∷ 0 ∷ 0 ∷ 0 ∷ 0 ∷ 0 ∷ 0 ∷ 0 ∷ 50 ∷ 0 ∷ 0 ∷ 0 ∷ 2 ∷ 0 ∷ 4 ∷ 110 ∷ 97 ∷ 109 ∷ 101 ∷ 0 ∷ 1 ∷ 65 ∷ 0 ∷ 0 ∷ 0 ∷ 2 ∷ 0 ∷ 0 ∷ 0 ∷ 0 ∷ 0 ∷ 0 ∷ 0 ∷ 10 ∷ 0 ∷ 0 ∷ 0 ∷ 0 ∷ 0 ∷ 0 ∷ 0 ∷ 20 ∷ 0 ∷ 0 ∷ 0 ∷ 0 ∷ 0 ∷ 0 ∷ 0 ∷ 42 ∷ 0 ∷ 0 ∷ 0 ∷ 0 ∷ 0 ∷ 0 ∷ 0 ∷ 0 ∷ 0 ∷ 0 ∷ 0 ∷ 0 ∷ 0 ∷ 0 ∷ 0 ∷ 0 ∷ 0 ∷ 0 ∷ 0 ∷ 0 ∷ 0 ∷ 0 ∷ 0 ∷ 30 ∷ 0 ∷ 0 ∷ 0 ∷ 0 ∷ 0 ∷ 0 ∷ 0 ∷ 40 ∷ 0 ∷ 0 ∷ 0 ∷ 0 ∷ 0 ∷ 0 ∷ 0 ∷ 40 ∷ 0 ∷ 0 ∷ 0 ∷ 0 ∷ 0 ∷ 0 ∷ 0 ∷ 34 ∷ 0 ∷ 0 ∷ 0 ∷ 0 ∷ 0 ∷ 0 ∷ 0 ∷ 0 ∷ 0 ∷ 0 ∷ 0 ∷ 3 ∷ 0 ∷ 0 ∷ 0 ∷ 0 ∷ 0 ∷ 0 ∷ 0 ∷ 26 ∷ 0 ∷ 0 ∷ 0 ∷ 0 ∷ 0 ∷ 0 ∷ 0 ∷ 0 ∷ 0 ∷ 0 ∷ 0 ∷ 0 ∷ 0 ∷ 0 ∷ 0 ∷ 0 ∷ 0 ∷ 0 ∷ 0 ∷ 0 ∷ 0 ∷ 0 ∷ 0 ∷ 0 ∷ 0 ∷ 0 ∷ 0 ∷ 0 ∷ 0 ∷ 0 ∷ 0 ∷ 0 ∷ 0 ∷ 0 ∷ 0 ∷ 0 ∷ 0 ∷ 0 ∷ 0 ∷ 0 ∷ 0 ∷ 0 ∷ 0 ∷ 0 ∷ 0 ∷ 0 ∷ 0 ∷ 34 ∷ 0 ∷ 0 ∷ 0 ∷ 0 ∷ 0 ∷ 0 ∷ 0 ∷ 24 ∷ 0 ∷ 0 ∷ 0 ∷ 0 ∷ 0 ∷ 0 ∷ 0 ∷ 0 ∷ 0 ∷ 0 ∷ 0 ∷ 0 ∷ 0 ∷ 0 ∷ 0 ∷ 40 ∷ 0 ∷ 0 ∷ 0 ∷ 0 ∷ 0 ∷ 0 ∷ 0 ∷ 0 ∷ 0 ∷ 0 ∷ 0 ∷ 0 ∷ 0 ∷ 0 ∷ 0 ∷ 0 ∷ 0 ∷ 0 ∷ 0 ∷ 2 ∷ 0 ∷ 0 ∷ 0 ∷ 0 ∷ 0 ∷ 0 ∷ 0 ∷ 0 ∷ 0 ∷ 10 ∷ 1 ∷ 0 ∷ 0 ∷ 0 ∷ 0 ∷ 0 ∷ 0 ∷ 0 ∷ 1 ∷ 0 ∷ 1 ∷ 0 ∷ 0 ∷ 0 ∷ 0 ∷ 0 ∷ 0 ∷ 0 ∷ 20 ∷ 1 ∷ 0 ∷ 0 ∷ 0 ∷ 0 ∷ 0 ∷ 0 ∷ 0 ∷ 2 ∷ 0 ∷ 0 ∷ 0 ∷ 1 ∷ 0 ∷ 0 ∷ 0 ∷ 0 ∷ 0 ∷ 0 ∷ 0 ∷ 0 ∷ 0 ∷ 30 ∷ 3 ∷ 0 ∷ 0 ∷ 0 ∷ 0 ∷ 0 ∷ 0 ∷ 0 ∷ 5 ∷ 0 ∷ 0 ∷ 0 ∷ 0 ∷ 0 ∷ 0 ∷ 0 ∷ 1 ∷ 0 ∷ 0 ∷ 0 ∷ 0 ∷ 0 ∷ 0 ∷ 0 ∷ 2 ∷ 1 ∷ 0 ∷ 0 ∷ 0 ∷ 1 ∷ 0 ∷ 1 ∷ 0 ∷ 0 ∷ 0 ∷ 0 ∷ 0 ∷ 0 ∷ 0 ∷ 40 ∷ 0 ∷ 0 ∷ 0 ∷ 0 ∷ 0 ∷ 0 ∷ 0 ∷ 1 ∷ 0 ∷ 0 ∷ 0 ∷ 0 ∷ 0 ∷ 0 ∷ 0 ∷ 0 ∷ 0 ∷ 0 ∷ 0 ∷ 2 ∷ 0 ∷ 0 ∷ 0 ∷ 0 ∷ 0 ∷ 0 ∷ 0 ∷ 2 ∷ 1 ∷ 0 ∷ 0 ∷ 0 ∷ 0 ∷ 0 ∷ 0 ∷ 0 ∷ 1 ∷ 1 ∷ 0 ∷ 0 ∷ 0 ∷ 0 ∷ 0 ∷ 0 ∷ 0 ∷ 2 ∷ 0 ∷ 0 ∷ 0 ∷ 0 ∷ 0 ∷ 0 ∷ 0 ∷ 1 ∷ 2 ∷ 0 ∷ 0 ∷ 0 ∷ 0 ∷ 0 ∷ 0 ∷ 0 ∷ 5 ∷ 0 ∷ 0 ∷ 0 ∷ 0 ∷ 0 ∷ 0 ∷ 0 ∷ 1 ∷ 0 ∷ 0 ∷ 0 ∷ 0 ∷ 0 ∷ 0 ∷ 0 ∷ 2 ∷ 1 ∷ 0 ∷ 0 ∷ 0 ∷ 0 ∷ 0 ∷ 0 ∷ 0 ∷ 1 ∷ 0 ∷ 0 ∷ 0 ∷ 0 ∷ 0 ∷ 0 ∷ 0 ∷ 1 ∷ 0 ∷ 0 ∷ 0 ∷ 0 ∷ 0 ∷ 0 ∷ 0 ∷ 1 ∷ 0 ∷ 0 ∷ 0 ∷ 1 ∷ 0 ∷ 0 ∷ 0 ∷ 0 ∷ 0 ∷ 0 ∷ 0 ∷ 0 ∷ 0 ∷ 50 ∷ 4 ∷ 0 ∷ 0 ∷ 0 ∷ 0 ∷ 0 ∷ 0 ∷ 0 ∷ 5 ∷ 0 ∷ 0 ∷ 0 ∷ 0 ∷ 0 ∷ 0 ∷ 0 ∷ 1 ∷ 0 ∷ 0 ∷ 0 ∷ 0 ∷ 0 ∷ 0 ∷ 0 ∷ 2 ∷ 1 ∷ []
unfolding p
whole = refl

p_opened : opening (file p ++ 0 ∷ []) ≡ Ok (opened_of p)
unfolding p
p_opened = refl

more_opened : opening (file (with_batch p sixth) ++ 0 ∷ []) ≡ Ok (opened_of (with_batch p sixth))
unfolding p sixth
more_opened = refl

-- the number of lists is not the one due
changed : ℕ → ℕ → List ℕ
changed offset byte = take offset (file p ++ 0 ∷ []) ++ byte ∷ drop (offset + 1) (file p ++ 0 ∷ [])

other_lists : opening (changed 74 1) ≡ Err (Damaged_at 18)
unfolding p changed
other_lists = refl

list_out_of_time : opening (changed 122 51) ≡ Err (Damaged_at 18)
unfolding p changed
list_out_of_time = refl

-- The directory gives a list of two events 34 bytes of a delta's column, and with them 108: two events take 84 at most. The
-- file is opened.
bytes_of_list : Result Opened Unopened → ℕ
bytes_of_list (Ok x) = total (entry_at x.index (key.List 1)).lengths
bytes_of_list (Err e) = 0

long_list : bytes_of_list (opening (take 138 (file p ++ 0 ∷ []) ++ (74 ∷ (take 75 (drop 139 (file p ++ 0 ∷ [])) ++ (0 ∷ drop 215 (file p ++ 0 ∷ [])))))) ≡ 108
unfolding p bytes_of_list
long_list = refl

down : option_map (λ e. column_at (file p ++ 0 ∷ []) e column.NodeAttr) (lookup (same_key (key.Down 1 2)) (opened_of p).index.records) ≡ Some (column_in p (key.Down 1 2) column.NodeAttr)
unfolding p
down = refl

-- the history of five changes, with four more: six leaves of two levels with an older leaf and an older inner node
longer : History
longer = with_batch p (record {
  names = [];
  events =
      record { time = 60; body = body.NodeAdded 3 }
      ∷ record { time = 61; body = body.NodeAdded 4 }
      ∷ record { time = 62; body = body.NodeAdded 5 }
      ∷ record { time = 63; body = body.NodeAdded 6 } ∷ [];
})

twelve : length (keys_of longer.params 9) ≡ 12
unfolding longer p
twelve = refl

older_children : older 2 2 4 ≡ node.Inner 1 1 ∷ []
older_children = refl

older_leaves : older 4 6 16 ≡ node.Leaf 5 ∷ node.Leaf 6 ∷ node.Inner 1 1 ∷ []
older_leaves = refl

longer_opened : opening (file longer ++ 0 ∷ []) ≡ Ok (opened_of longer)
unfolding longer p
longer_opened = refl

-- ---- the second form

-- the same history in a file of the second form
q : History
q = record { params = p.params; form = form.Two; batches = p.batches }

size_of_q : size q ≡ 544
unfolding q p
size_of_q = refl

q_with_sixth : size (with_batch q sixth) ≡ 736
unfolding q p sixth
q_with_sixth = refl

q_header : take 18 (file q) ≡ 1 ∷ 68 ∷ 71 ∷ 82 ∷ 65 ∷ 80 ∷ 72 ∷ 50 ∷ 0 ∷ 0 ∷ 0 ∷ 2 ∷ 0 ∷ 0 ∷ 0 ∷ 2 ∷ 1 ∷ 1 ∷ []
unfolding q p
q_header = refl

q_opened : opening (file q ++ 0 ∷ []) ≡ Ok (opened_of q)
unfolding q p
q_opened = refl

q_more_opened : opening (file (with_batch q sixth) ++ 0 ∷ []) ≡ Ok (opened_of (with_batch q sixth))
unfolding q p sixth
q_more_opened = refl

-- ---- the marker

marker_bytes : 1 + length marker ≡ 25
marker_bytes = refl

size_upgraded : size (with_upgrade p) ≡ 521
unfolding p
size_upgraded = refl

upgraded_with_sixth : size (with_batch (with_upgrade p) sixth) ≡ 713
unfolding p sixth
upgraded_with_sixth = refl

upgraded_opened : opening (file (with_upgrade p) ++ 0 ∷ []) ≡ Ok (opened_of (with_upgrade p))
unfolding p
upgraded_opened = refl

upgraded_more_opened : opening (file (with_batch (with_upgrade p) sixth) ++ 0 ∷ []) ≡ Ok (opened_of (with_batch (with_upgrade p) sixth))
unfolding p sixth
upgraded_more_opened = refl

-- a marker where the second form already holds
two_markers : opening (file (with_upgrade p) ++ (1 ∷ (marker ++ 0 ∷ []))) ≡ Err (Damaged_at 521)
unfolding p
two_markers = refl

marker_in_form_two : opening (file q ++ (1 ∷ (marker ++ 0 ∷ []))) ≡ Err (Damaged_at 544)
unfolding q p
marker_in_form_two = refl

-- the marker's next gate is not within the image
marker_cut : opening (file (with_upgrade p)) ≡ Err (Damaged_at 496)
unfolding p
marker_cut = refl

-- a share where no function is skewed, and one that is too great
q_changed : ℕ → ℕ → List ℕ
q_changed offset byte = take offset (file q ++ 0 ∷ []) ++ byte ∷ drop (offset + 1) (file q ++ 0 ∷ [])

share_of_none : opening (q_changed 13 1) ≡ Err Not_ours
unfolding q p q_changed
share_of_none = refl

-- the fourth length of a delta, of `Top(1)`: behind a header of 18 bytes, 16 of lengths, 24 of the batch, 13 of names,
-- 4 and 2 * 48 of lists, 4, and three lengths
heard_delta : opening (q_changed (18 + 16 + 24 + 13 + 100 + 4 + 31) 1) ≡ Err (Damaged_at 18)
unfolding q p q_changed
heard_delta = refl

-- ---- skewed

skewed : History
skewed = record { params = record { l = 2; k = 2; function = Skewed 256 }; form = form.Two; batches = p.batches }

skewed_sizes : Key → List ℕ
skewed_sizes k = length (column_in skewed k column.Structure) ∷ length (column_in skewed k column.NodeAttr) ∷ length (column_in skewed k column.EdgeAttr) ∷ []

skewed_tree : map skewed_sizes (keys_of skewed.params 5)
    ≡ (42 ∷ 0 ∷ 0 ∷ []) ∷ (40 ∷ 34 ∷ 0 ∷ []) ∷ (52 ∷ 24 ∷ 0 ∷ []) ∷ (34 ∷ 24 ∷ 0 ∷ []) ∷ (0 ∷ 0 ∷ 0 ∷ []) ∷ []
unfolding skewed skewed_sizes p
skewed_tree = refl

skewed_opened : opening (file skewed ++ 0 ∷ []) ≡ Ok (opened_of skewed)
unfolding skewed p
skewed_opened = refl

-- ---- messages

-- two nodes and then two messages from the one to the other
heard : History
heard = record {
  params = record { l = 2; k = 2; function = Intersection };
  form = form.Two;
  batches = record {
    names = codes "hi" ∷ codes "yo" ∷ [];
    events =
        record { time = 10; body = body.NodeAdded 1 }
        ∷ record { time = 10; body = body.NodeAdded 2 }
        ∷ record { time = 20; body = body.Message 1 2 0 }
        ∷ record { time = 20; body = body.Message 1 2 1 } ∷ [];
  } ∷ [];
}

heard_lengths : length (column_in heard (key.List 0) column.Transient) ∷ length (column_in heard (key.List 1) column.Transient) ∷ length (column_in heard (key.List 1) column.Structure) ∷ [] ≡ 0 ∷ 64 ∷ 0 ∷ []
unfolding heard
heard_lengths = refl

heard_opened : opening (file heard ++ 0 ∷ []) ≡ Ok (opened_of heard)
unfolding heard
heard_opened = refl

heard_column : option_map (λ e. column_at (file heard ++ 0 ∷ []) e column.Transient) (lookup (same_key (key.List 1)) (opened_of heard).index.records) ≡ Some (column_in heard (key.List 1) column.Transient)
unfolding heard
heard_column = refl
