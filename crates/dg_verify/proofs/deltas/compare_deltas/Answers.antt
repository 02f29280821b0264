use Rattle.std.proofs.Common.{◌≡◌, ℕ, ◌+◌, ◌<◌, cond, List, None, length, slice_index_or, sym, ◌∙◌, ap, subst, arith}
use Rattle.std.proofs.lemmas.List.{length-map}
use Rattle.dg_disk.proofs.FrameLemmas.{reads_then}
use Rattle.dg_history.specs.declared.node.Key.{Key}
use Rattle.dg_index.specs.declared.entry.Row.{Row}
use Rattle.dg_index.specs.FileOfHistory.{Stored}
use Rattle.dg_index.specs.OpenedIndex.{Opening, entry_at, record_row, total}
use Rattle.dg_records.specs.ColumnReads.{TakesAtMost}
use Rattle.dg_start.specs.EventSources.{WhereTold}
use Rattle.dg_start.proofs.EventSourceOutcomes.{err_is, said_before}
use Rattle.dg_verify.specs.declared.stop.Stop.{Stop}
use Rattle.dg_verify.specs.Deltas.{first_unlike, has_kind, unlike_of}
use Rattle.dg_verify.specs.Verification.{IsWrong, keyed_column}
use Rattle.dg_verify.proofs.DeltaComparisons.{IsAt, behind_record, delta_stops, edges_are, edges_within, next_key, next_row, nodes_are, nodes_within, one_compared, structure_is, structure_within}
use Rattle.dg_verify.proofs.RecordReads.{all_compared, next_compared}
use Rattle.dg_verify.proofs.deltas.compare_deltas.Goals as goal

abbrev no_row : Row
no_row = record { ends = None; lengths = record { structure = 0; node_attrs = 0; edge_attrs = 0; transient = 0 } }

pub split_at-requires : goal.split_at-requires
split_at-requires g c =
    let due : List Stored = c.args.due.now.segment.deltas in
    let i : ℕ = c.loop-number.number in
    let at = next_row due c.delta_rows-rows.result.now i no_row c.facts.ensures c.delta_rows-rows.ensures c.loop-number-test.true in
    structure_within due i (slice_index_or c.delta_rows-rows.result.now i no_row) c.loop-number.columns.now at c.loop-number.invariant.left

pub split_at-requires-in-loop-number : goal.split_at-requires-in-loop-number
split_at-requires-in-loop-number g c =
    let due : List Stored = c.args.due.now.segment.deltas in
    let i : ℕ = c.loop-number.number in
    let at = next_row due c.delta_rows-rows.result.now i no_row c.facts.ensures c.delta_rows-rows.ensures c.loop-number-test.true in
    nodes_within due i (slice_index_or c.delta_rows-rows.result.now i no_row) c.loop-number.columns.now at c.loop-number.invariant.left c.split_at.result.1.now c.split_at.ensures.back

pub split_at-requires-in-loop-number-2 : goal.split_at-requires-in-loop-number-2
split_at-requires-in-loop-number-2 g c =
    let due : List Stored = c.args.due.now.segment.deltas in
    let i : ℕ = c.loop-number.number in
    let at = next_row due c.delta_rows-rows.result.now i no_row c.facts.ensures c.delta_rows-rows.ensures c.loop-number-test.true in
    edges_within due i (slice_index_or c.delta_rows-rows.result.now i no_row) c.loop-number.columns.now at c.loop-number.invariant.left c.split_at.result.1.now c.split_at.ensures.back
    c.split_at-in-loop-number.result.1.now c.split_at-in-loop-number.ensures.back

pub returns-in_err-compare_delta-clause-stopped : goal.returns-in_err-compare_delta-clause-stopped
returns-in_err-compare_delta-clause-stopped g c =
    let o : Opening = c.args.index.now.opening in
    let told = g.D.Disk.image c.args.disk.now in
    let due : List Stored = c.args.due.now.segment.deltas in
    let keys : List Key = c.args.due.now.keys.items in
    let i : ℕ = c.loop-number.number in
    let columns : List ℕ = c.loop-number.columns.now in
    let row : Row = slice_index_or c.delta_rows-rows.result.now i no_row in
    let at : IsAt due i row = next_row due c.delta_rows-rows.result.now i no_row c.facts.ensures c.delta_rows-rows.ensures c.loop-number-test.true in
    let a = structure_is due i row columns at c.loop-number.invariant.left c.split_at.result.0.now c.split_at.ensures.front in
    let b = nodes_are due i row columns at c.loop-number.invariant.left c.split_at.result.1.now c.split_at.ensures.back c.split_at-in-loop-number.result.0.now c.split_at-in-loop-number.ensures.front in
    let d = edges_are due i row columns at c.loop-number.invariant.left c.split_at.result.1.now c.split_at.ensures.back c.split_at-in-loop-number.result.1.now c.split_at-in-loop-number.ensures.back
    c.split_at-in-loop-number-2.result.0.now c.split_at-in-loop-number-2.ensures.front in
    let k : Key = c.index-key.result.now in
    let lt : i < length keys = omega (arith, c.loop-number-test.true, ap length c.delta_rows-rows.ensures, length-map due record_row, c.requires.many) in
    let s : Stop = c.in_err-compare_delta.field-0.0 in
    err_is c.from_residual.result s (λ (s : Stop). WhereTold told (λ image. IsWrong s (first_unlike image o c.args.kind keys due))) c.from_residual.ensures
    (delta_stops told o c.args.kind keys due i k (next_key keys i k lt c.index-key.ensures) at.stored at.rest c.loop-number.invariant.so_far s
    (λ image h. subst (λ u. IsWrong s (keyed_column k u)) (λ j. unlike_of image o c.args.kind k (record at.stored { structure = a j; node_attrs = b j; edge_attrs = d j }))
    (said_before (g.D.Disk.image c.loop-number.disk) told
    (λ image. IsWrong s (keyed_column k (unlike_of image o c.args.kind k (record at.stored { structure = c.split_at.result.0.now; node_attrs = c.split_at-in-loop-number.result.0.now; edge_attrs = c.split_at-in-loop-number-2.result.0.now }))))
    c.loop-number.invariant.frame.same_image c.in_err-compare_delta.ensures.stopped image h)))

pub loop-number-preserved : goal.loop-number-preserved
loop-number-preserved g c =
    let o : Opening = c.args.index.now.opening in
    let told = g.D.Disk.image c.args.disk.now in
    let due : List Stored = c.args.due.now.segment.deltas in
    let keys : List Key = c.args.due.now.keys.items in
    let i : ℕ = c.loop-number.number in
    let columns : List ℕ = c.loop-number.columns.now in
    let row : Row = slice_index_or c.delta_rows-rows.result.now i no_row in
    let at : IsAt due i row = next_row due c.delta_rows-rows.result.now i no_row c.facts.ensures c.delta_rows-rows.ensures c.loop-number-test.true in
    let a = structure_is due i row columns at c.loop-number.invariant.left c.split_at.result.0.now c.split_at.ensures.front in
    let b = nodes_are due i row columns at c.loop-number.invariant.left c.split_at.result.1.now c.split_at.ensures.back c.split_at-in-loop-number.result.0.now c.split_at-in-loop-number.ensures.front in
    let d = edges_are due i row columns at c.loop-number.invariant.left c.split_at.result.1.now c.split_at.ensures.back c.split_at-in-loop-number.result.1.now c.split_at-in-loop-number.ensures.back
    c.split_at-in-loop-number-2.result.0.now c.split_at-in-loop-number-2.ensures.front in
    let k : Key = c.index-key.result.now in
    let lt : i < length keys = omega (arith, c.loop-number-test.true, ap length c.delta_rows-rows.ensures, length-map due record_row, c.requires.many) in
    record {
      frame = reads_then c.loop-number.invariant.frame c.compare_delta.ensures.disk;
      left = behind_record due i row columns at c.loop-number.invariant.left c.split_at.result.1.now c.split_at.ensures.back c.split_at-in-loop-number.result.1.now c.split_at-in-loop-number.ensures.back
          c.split_at-in-loop-number-2.result.1.now c.split_at-in-loop-number-2.ensures.back;
      so_far =
          one_compared told o c.args.kind keys due i k (next_key keys i k lt c.index-key.ensures) at.stored at.rest c.loop-number.invariant.so_far
          (λ image h. (λ j. unlike_of image o c.args.kind k (record at.stored { structure = sym a j; node_attrs = sym b j; edge_attrs = sym d j }))
          ∙ said_before (g.D.Disk.image c.loop-number.disk) told
          (λ image. unlike_of image o c.args.kind k (record at.stored { structure = c.split_at.result.0.now; node_attrs = c.split_at-in-loop-number.result.0.now; edge_attrs = c.split_at-in-loop-number-2.result.0.now }) ≡ None)
          c.loop-number.invariant.frame.same_image c.in_ok-compare_delta.ensures.alike image h);
      takes = λ image h.
          let x = g.D.Disk.taken c.args.disk.now in
          let y = g.D.Disk.taken c.loop-number.disk in
          let z = g.D.Disk.taken c.compare_delta.new.disk in
          next_compared o c.args.kind keys i k x y z lt c.index-key.ensures (c.loop-number.invariant.takes image h)
          (said_before (g.D.Disk.image c.loop-number.disk) told (λ image. TakesAtMost (cond (has_kind c.args.kind k) (total (entry_at o k).lengths) 0) y z)
          c.loop-number.invariant.frame.same_image c.compare_delta.ensures.takes image h);
    }

pub returns-in_err-compare_delta-clause-takes : goal.returns-in_err-compare_delta-clause-takes
returns-in_err-compare_delta-clause-takes g c image h =
    let o : Opening = c.args.index.now.opening in
    let told = g.D.Disk.image c.args.disk.now in
    let due : List Stored = c.args.due.now.segment.deltas in
    let keys : List Key = c.args.due.now.keys.items in
    let i : ℕ = c.loop-number.number in
    let k : Key = c.index-key.result.now in
    let lt : i < length keys = omega (arith, c.loop-number-test.true, ap length c.delta_rows-rows.ensures, length-map due record_row, c.requires.many) in
    let x = g.D.Disk.taken c.args.disk.now in
    let y = g.D.Disk.taken c.loop-number.disk in
    let z = g.D.Disk.taken c.compare_delta.new.disk in
    all_compared o c.args.kind keys (i + 1) x z
    (next_compared o c.args.kind keys i k x y z lt c.index-key.ensures (c.loop-number.invariant.takes image h)
    (said_before (g.D.Disk.image c.loop-number.disk) told (λ image. TakesAtMost (cond (has_kind c.args.kind k) (total (entry_at o k).lengths) 0) y z)
    c.loop-number.invariant.frame.same_image c.compare_delta.ensures.takes image h))

pub returns-clause-takes : goal.returns-clause-takes
returns-clause-takes g c image h =
    all_compared c.args.index.now.opening c.args.kind c.args.due.now.keys.items c.loop-number.number (g.D.Disk.taken c.args.disk.now) (g.D.Disk.taken c.loop-number.disk) (c.loop-number.invariant.takes image h)
