-- What is held at a key of a catalogue.
use Rattle.std.specs.Prelude.{ℕ, Option, option_and_then}
use Rattle.std.specs.Option.{option_map}
use Rattle.std.specs.Map.{lookup}
use Rattle.dg_graph.specs.declared.element.Column.{Column}
use Rattle.dg_index.specs.declared.entry.Ends.{Ends}
use Rattle.dg_index.specs.declared.entry.Entry.{Entry}
use Rattle.dg_history.specs.declared.node.Key.{Key}
use Rattle.dg_history.specs.declared.node.Key.TheVariants as a_key
use Rattle.dg_history.specs.Keys.{same_key}
use Rattle.dg_catalogue.specs.Entries.{Holdings, column_length_in, offset_in}

-- what is held of a record
abbrev pub entry_of : Holdings → Key → Option Entry
entry_of c key = lookup (same_key key) c.entries

-- the bytes of a column of a record
abbrev pub length_of : Holdings → Key → Column → Option ℕ
length_of c key col = option_map (λ e. column_length_in e col) (entry_of c key)

-- the byte at which a column of a record begins
abbrev pub offset_of : Holdings → Key → Column → Option ℕ
offset_of c key col = option_map (λ e. offset_in e col) (entry_of c key)

-- the first and last instant of a list
abbrev pub ends_of : Holdings → ℕ → Option Ends
ends_of c list = option_and_then (λ e. e.ends) (entry_of c (a_key.List list))
