use Rattle.std.proofs.Common.{◌≡◌, ◌+◌, ◌++◌, drop}
use Rattle.dg_index.specs.OpenedIndex.{laid}
use Rattle.dg_catalogue.specs.Additions.{IsRoomFor}
use Rattle.dg_catalogue.proofs.catalogue.Catalogue.add_all.Given as goal

abbrev pub invariant-loop-i : goal.invariant-loop-i
invariant-loop-i l = record {
  room : IsRoomFor l.self l.offset (drop l.i l.keys) (drop l.i l.rows);
  is : l.self.entries ++ laid l.offset (drop l.i l.keys) (drop l.i l.rows) ≡ l.fn.self.entries ++ laid l.fn.offset l.keys l.rows;
  spare : l.self.spare + l.i ≡ l.fn.self.spare;
  span : l.self.span ≡ l.fn.self.span;
}
