use Rattle.std.proofs.Common.{◌≡◌, ◌++◌}
use Rattle.std.specs.List.{flat_map}
use Rattle.dg_graph.specs.Columns.{placed_bytes, placed_in}
use Rattle.dg_columns.proofs.ColumnWrites.{placed_after}
use Rattle.dg_columns.proofs.event_writer.write_each.Given as goal

abbrev pub invariant-loop-position : goal.invariant-loop-position
invariant-loop-position l = l.out.items ++ flat_map placed_bytes (placed_after l.col l.position l.events) ≡ l.fn.out.items ++ flat_map placed_bytes (placed_in l.col l.events)
