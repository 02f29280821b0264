use Rattle.std.proofs.Common.{◌≡◌, ◌++◌, map}
use Rattle.dg_dump.specs.ScriptOfHistory.{event_line, text_of_lines}
use Rattle.dg_dump_lines.specs.PutLines.{GoesOn}
use Rattle.dg_dump_lines.proofs.Lines.{lines_from}
use Rattle.dg_dump_lines.proofs.event_lines.put_each.Given as goal

abbrev pub invariant-loop-event : goal.invariant-loop-event
invariant-loop-event l = record {
  put : l.text.items ++ lines_from l.names l.event-index l.events ≡ l.fn.text.items ++ text_of_lines (map (event_line l.names) l.events);
  kept : GoesOn l.fn.text.items l.text.items;
}
