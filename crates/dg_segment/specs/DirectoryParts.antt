-- A directory in two parts.
use Rattle.std.specs.Prelude.{ℕ, Bool, List, ◌++◌, length}
use Rattle.std.specs.List.{flat_map}
use Rattle.dg_graph.specs.Columns.{four, eight}
use Rattle.dg_index.specs.FileOfHistory.{name_bytes, Segment, lengths_bytes, list_bytes}

-- up to the names
abbrev pub batch_text : Segment → List ℕ
batch_text s = eight s.events ++ (eight s.first ++ (eight s.last ++ (four (length s.names) ++ flat_map name_bytes s.names)))

-- behind the names, in the second form or in the first
abbrev pub records_text : Bool → Segment → List ℕ
records_text wide s =
    four (length s.lists) ++ (flat_map (list_bytes wide) s.lists
    ++ (four (length s.deltas) ++ (flat_map (lengths_bytes wide) s.deltas ++ lengths_bytes wide s.piece)))
