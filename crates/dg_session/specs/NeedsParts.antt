-- What a command needs, part by part, in the order in which it is tested.
use Rattle.dg_machine.specs.Needs.{Needs, nothing_more}

-- of lines that follow it
abbrev pub of_lines : Needs → Needs
of_lines n = record nothing_more { lines = n.lines }

-- of the index
abbrev pub of_index : Needs → Needs
of_index n = record nothing_more { index = n.index; parameters = n.parameters; first_form = n.first_form }

-- of the events
abbrev pub of_history : Needs → Needs
of_history n = record nothing_more { unloaded = n.unloaded; changes = n.changes; instants = n.instants; until = n.until }

-- of a live handle
abbrev pub of_handle : Needs → Needs
of_handle n = record nothing_more { handle = n.handle; overlay = n.overlay; unused = n.unused }

-- of a node or a key
abbrev pub of_names : Needs → Needs
of_names n = record nothing_more { node = n.node; unindexed = n.unindexed; indexed = n.indexed }

-- of new handles
abbrev pub of_room : Needs → Needs
of_room n = record nothing_more { handles = n.handles }
