use Rattle.std.proofs.Common.{◌≡◌, map, max, arith, rules}
use Rattle.std.proofs.lemmas.List.{get_or-map, length-map}
use Rattle.dg_line.specs.Table.{reading_of}
use Rattle.dg_line.proofs.Loops.{no_reading, well_made_at}
use Rattle.dg_line.proofs.RowLines.{rows_more}
use Rattle.dg_line.proofs.rows.command_prefix.Goals as goal

pub prefix-requires : goal.prefix-requires
prefix-requires c =
    let test = c.loop-row-test.true in
    well_made_at c.args.rows.now c.loop-row.row-index _ c.requires (omega arith)

pub loop-row-preserved : goal.loop-row-preserved
loop-row-preserved c =
    let test = c.loop-row-test.true in
    let rows = c.args.rows.now in
    let i = c.loop-row.row-index in
    let size = length-map rows reading_of in
    let is : c.max-longest.result ≡ max c.loop-row.longest c.prefix.result = search rules in
    rows_more (map reading_of rows) i no_reading _ c.args.line.now c.loop-row.longest c.prefix.result c.max-longest.result (omega arith)
    (get_or-map reading_of rows i _ no_reading (omega arith)) c.loop-row.invariant c.prefix.ensures is
