-- What the record of a disk in memory says.
use Rattle.std.specs.Prelude.{List, map}
use Rattle.dg_disk.specs.declared.memory.Entry.{Entry}
use Rattle.dg_disk.specs.declared.memory.Entry.TheVariants as entry
use Rattle.dg_disk.specs.Deeds.{Deed, Wrote, Synced}

abbrev pub deed_of : Entry → Deed
deed_of (entry.Write offset piece) = Wrote offset piece.items
deed_of entry.Sync = Synced

-- the deeds in the record, the first of them first
abbrev pub deeds_of : List Entry → List Deed
deeds_of entries = map deed_of entries
