-- The node attributes that are indexed, and the nodes that have a value of one.
use Rattle.std.specs.Prelude.{ℕ, ◌-◌, ◌==◌, Bool, false, List, [], ◌++◌, Option, Some, None, length, map, replicate, sum, take}
use Rattle.std.specs.List.{list_any}
use Rattle.dg_aux.specs.Values.{nodes_with}
use Rattle.dg_graph.specs.declared.element.Column.TheVariants as column
use Rattle.dg_graph.specs.Replay.{replay_at}
use Rattle.dg_history.specs.declared.node.Key.TheVariants as key
use Rattle.dg_history.specs.History.{History, events_of}
use Rattle.dg_index.specs.Hierarchy.{leaves, numbers}
use Rattle.dg_index.specs.IndexRecords.{column_in}
use Rattle.dg_machine.specs.declared.texts.KeyText.{KeyText}
use Rattle.dg_machine.specs.declared.texts.ValueText.{ValueText}
use Rattle.dg_text.specs.declared.limits.TheConstants.{KEY_BYTES_MAX, NAME_BYTES_MAX}

-- the text of a key, and of a value
abbrev pub key_text : KeyText → List ℕ
key_text k = take k.count k.bytes

abbrev pub value_text : ValueText → List ℕ
value_text v = take v.count v.bytes

-- the texts as they are kept: behind them bytes 0 to the end of the array
abbrev pub key_of : List ℕ → KeyText
key_of text = record { bytes = text ++ replicate (KEY_BYTES_MAX - length text) 0; count = length text }

abbrev pub value_of : List ℕ → ValueText
value_of text = record { bytes = text ++ replicate (NAME_BYTES_MAX - length text) 0; count = length text }

-- the nodes that have the value of the key as of an instant; none, where one of the two is no name
abbrev pub found : History → ℕ → Option ℕ → Option ℕ → List ℕ
found z t (Some key) (Some value) = nodes_with key value (replay_at (events_of z) t)
found z t None value = []
found z t (Some key) None = []

-- the key is one of these
abbrev pub is_among : List ℕ → Option ℕ → Bool
is_among keys None = false
is_among keys (Some key) = list_any (λ k. k == key) keys

-- the bytes of the columns of node attributes of all lists
abbrev pub node_attrs_length : History → ℕ
node_attrs_length z =
    sum (map (λ i. length (column_in z (key.List i) column.NodeAttr)) (numbers 0 (leaves z.params (length (events_of z)))))
