-- The lines of the records that an index holds.
use Rattle.std.specs.Prelude.{ℕ, ◌*◌, ◌/◌, ◌^◌, List, Option, Some, None, length, map}
use Rattle.std.specs.Map.{lookup}
use Rattle.dg_history.specs.declared.node.Key.{Key}
use Rattle.dg_history.specs.declared.node.Key.TheVariants as key
use Rattle.dg_history.specs.Keys.{same_key}
use Rattle.dg_index.specs.declared.entry.Entry.{Entry}
use Rattle.dg_index.specs.declared.per_column.PerColumn.{PerColumn}
use Rattle.dg_index.specs.Hierarchy.{leaves, numbers}
use Rattle.dg_index.specs.IndexRecords.{keys_of}
use Rattle.dg_index.specs.OpenedIndex.{Opening}
use Rattle.dg_machine.specs.declared.reply.BodyLine.{BodyLine}
use Rattle.dg_machine.specs.declared.reply.BodyLine.TheVariants as line
use Rattle.dg_machine.specs.declared.reply.Head.TheVariants as head
use Rattle.dg_machine.specs.declared.reply.Reply.{Reply}
use Rattle.dg_machine.specs.declared.reply.Reply.TheVariants as replied

-- the bytes of each column of a record, and none where the key is not held
abbrev pub lengths_held : Option Entry → PerColumn ℕ
lengths_held None = record { structure = 0; node_attrs = 0; edge_attrs = 0; transient = 0 }
lengths_held (Some e) = e.lengths

-- the line of a record
abbrev pub held_line : List (Key × Entry) → Key → BodyLine
held_line records k = line.Sizes k (lengths_held (lookup (same_key k) records))

-- the keys of the deltas from the interior nodes of a height to their children
abbrev pub down_keys : ℕ → ℕ → ℕ → List Key
down_keys arity leaves h = map (λ c. key.Down h c) (numbers 1 (leaves / arity ^ h * arity))

-- the reply of an index with so many events
abbrev pub listing_of : Opening → ℕ → Reply
listing_of o n =
    replied.Answered (head.Tree o.params.l o.params.k o.params.function n (leaves o.params n) (length (keys_of o.params n))) (map (held_line o.records) (keys_of o.params n))
