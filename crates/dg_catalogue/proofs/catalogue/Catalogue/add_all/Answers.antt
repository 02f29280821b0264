use Rattle.std.proofs.Common.{◌++◌, sym, ◌+◌, ◌<◌, ◌∷◌, List, length, get_or, drop, None, subst, ◌∙◌, arith}
use Rattle.std.proofs.lemmas.List.{drop_more}
use Rattle.dg_history.specs.declared.node.Key.{Key}
use Rattle.dg_history.specs.declared.node.Key.TheVariants as key
use Rattle.dg_index.specs.declared.entry.Row.{Row}
use Rattle.dg_index.specs.OpenedIndex.{laid}
use Rattle.dg_catalogue.specs.Additions.{IsRoomFor}
use Rattle.dg_catalogue.proofs.AdditionRecords.{lacks, next_room, next_laid}
use Rattle.dg_catalogue.proofs.catalogue.Catalogue.add_all.Goals as goal

no_row : Row
no_row = record { ends = None; lengths = record { structure = 0; node_attrs = 0; edge_attrs = 0; transient = 0 } }

pub add-requires-clause-lacks : goal.add-requires-clause-lacks
unfolding no_row
add-requires-clause-lacks c =
    let i = c.loop-i.i in
    let keys = drop_more c.args.keys.now i (key.List 0) c.loop-i-test.true in
    let room = subst (λ (l : List Key). IsRoomFor c.loop-i.self c.loop-i.offset l (drop i c.args.rows.now)) keys c.loop-i.invariant.room in
    lacks c.loop-i.self.entries _ room.fresh.0

pub loop-i-preserved : goal.loop-i-preserved
unfolding no_row
loop-i-preserved c =
    let i = c.loop-i.i in
    let lt : i < length c.args.rows.now = omega (arith, c.loop-i-test.true, c.requires.same) in
    let keys = drop_more c.args.keys.now i (key.List 0) c.loop-i-test.true in
    let rows = drop_more c.args.rows.now i no_row lt in
    let k : Key = get_or c.args.keys.now i (key.List 0) in
    let r : Row = get_or c.args.rows.now i no_row in
    let ks = drop (i + 1) c.args.keys.now in
    let rs = drop (i + 1) c.args.rows.now in
    let room : IsRoomFor c.loop-i.self c.loop-i.offset (k ∷ ks) (r ∷ rs) =
    subst (λ (l : List Row). IsRoomFor c.loop-i.self c.loop-i.offset (k ∷ ks) l) rows (subst (λ (l : List Key). IsRoomFor c.loop-i.self c.loop-i.offset l (drop i c.args.rows.now)) keys c.loop-i.invariant.room) in
    record {
      room = next_room c.loop-i.self c.add.new.self c.loop-i.offset k r ks rs room c.add.ensures.entries (omega (arith, c.add.ensures.spare));
      is = next_laid c.loop-i.self.entries c.add.new.self.entries c.loop-i.offset k r ks rs _
          ((λ j. c.loop-i.self.entries ++ laid c.loop-i.offset (sym keys j) (sym rows j)) ∙ c.loop-i.invariant.is) c.add.ensures.entries;
      spare = omega (arith, c.add.ensures.spare, c.loop-i.invariant.spare);
      span = c.add.ensures.span ∙ c.loop-i.invariant.span;
    }
