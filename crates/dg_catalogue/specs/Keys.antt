-- The numbers of the keys that a catalogue may hold.
use Rattle.std.specs.Prelude.{◌<◌}
use Rattle.dg_history.specs.declared.node.Key.{Key}
use Rattle.dg_history.specs.declared.node.Key.TheVariants.{List, Piece, Top, Down}
use Rattle.dg_catalogue.specs.declared.catalogue.TheConstants.{LISTS_MAX}

-- the number of a list is small enough; other keys have any numbers
abbrev pub IsNumbered : Key → Type 0
IsNumbered (List n) = n < LISTS_MAX
IsNumbered (Piece s) = Unit {0}
IsNumbered (Top h) = Unit {0}
IsNumbered (Down h c) = Unit {0}
