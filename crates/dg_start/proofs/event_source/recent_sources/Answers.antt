use Rattle.std.proofs.Common.{◌≡◌, ◌+◌, ◌-◌, ◌*◌, ◌/◌, ◌<◌, ◌++◌, ◌∷◌, [], ◌∙◌, Some, if◌then◌else◌, length, slice_get, sym, ap, arith}
use Rattle.std.specs.Prelude.{◌==◌}
use Rattle.dg_history.specs.declared.params.Params.{Params}
use Rattle.dg_index.specs.Hierarchy.{leaves}
use Rattle.dg_start.proofs.EventSourceSources.{all_pieces, batch_there, batch_within, none_left, one_piece, piece_readable, readable_kept}
use Rattle.dg_start.proofs.event_source.recent_sources.Goals as goal

pub piece_source-piece-requires-clause-few : goal.piece_source-piece-requires-clause-few
piece_source-piece-requires-clause-few c =
    let there : slice_get c.args.index.now.opening.batches c.loop-batch.number ≡ Some c.in-Some.batch = sym c.batch.ensures ∙ c.in-Some.is in
    let within = batch_within c.args.index.now.opening c.loop-batch.number c.loop-batch.before c.in-Some.batch there c.loop-batch.invariant.so_far.counted in
    omega (arith, within, c.facts.ensures.events)

pub add_piece-requires-clause-few : goal.add_piece-requires-clause-few
add_piece-requires-clause-few c =
    let there : slice_get c.args.index.now.opening.batches c.loop-batch.number ≡ Some c.in-Some.batch = sym c.batch.ensures ∙ c.in-Some.is in
    let within = batch_within c.args.index.now.opening c.loop-batch.number c.loop-batch.before c.in-Some.batch there c.loop-batch.invariant.so_far.counted in
    omega (arith, within, c.facts.ensures.events)

pub overflow_add-before : goal.overflow_add-before
overflow_add-before c =
    let there : slice_get c.args.index.now.opening.batches c.loop-batch.number ≡ Some c.in-Some.batch = sym c.batch.ensures ∙ c.in-Some.is in
    let within = batch_within c.args.index.now.opening c.loop-batch.number c.loop-batch.before c.in-Some.batch there c.loop-batch.invariant.so_far.counted in
    omega (arith, within, c.facts.ensures.events)

pub overflow_add-number : goal.overflow_add-number
overflow_add-number c =
    let there : slice_get c.args.index.now.opening.batches c.loop-batch.number ≡ Some c.in-Some.batch = sym c.batch.ensures ∙ c.in-Some.is in
    let lt = batch_there c.args.index.now.opening.batches c.loop-batch.number c.in-Some.batch there in
    omega (arith, lt, c.facts.ensures.few, c.facts.ensures.events)

pub loop-batch-smaller : goal.loop-batch-smaller
loop-batch-smaller c =
    let there : slice_get c.args.index.now.opening.batches c.loop-batch.number ≡ Some c.in-Some.batch = sym c.batch.ensures ∙ c.in-Some.is in
    let lt = batch_there c.args.index.now.opening.batches c.loop-batch.number c.in-Some.batch there in
    let fewer : length c.args.index.now.opening.batches - (c.loop-batch.number + 1) < length c.args.index.now.opening.batches - c.loop-batch.number = omega (arith, lt) in
    fewer

pub loop-batch-preserved : goal.loop-batch-preserved
loop-batch-preserved c =
    let there : slice_get c.args.index.now.opening.batches c.loop-batch.number ≡ Some c.in-Some.batch = sym c.batch.ensures ∙ c.in-Some.is in
    let size : c.from-size.result ≡ c.args.index.now.opening.params.l = c.from-size.ensures ∙ ap (λ (p : Params). p.l) c.params.ensures in
    let added : c.add_piece.new.found.items
    ≡ (if leaves c.args.index.now.opening.params (c.loop-batch.before + c.in-Some.batch.events) == leaves c.args.index.now.opening.params c.loop-batch.before then c.loop-batch.found.items else [])
    ++ c.piece_source-piece.result ∷ [] =
    c.in_ok-add_piece.ensures
    ∙ ap (λ n. (if (c.loop-batch.before + c.in-Some.batch.events) / n == c.loop-batch.before / n then c.loop-batch.found.items else []) ++ c.piece_source-piece.result ∷ []) size in
    let within = batch_within c.args.index.now.opening c.loop-batch.number c.loop-batch.before c.in-Some.batch there c.loop-batch.invariant.so_far.counted in
    record {
      so_far = one_piece c.args.index.now.opening c.loop-batch.number c.loop-batch.before c.in-Some.batch c.loop-batch.found.items c.add_piece.new.found.items c.piece_source-piece.result
          there c.piece_source-piece.ensures added c.loop-batch.invariant.so_far;
      readable = readable_kept c.args.index.now.opening (leaves c.args.index.now.opening.params (c.loop-batch.before + c.in-Some.batch.events) == leaves c.args.index.now.opening.params c.loop-batch.before)
          c.loop-batch.found.items c.add_piece.new.found.items c.piece_source-piece.result added
          (piece_readable c.args.index.now.opening c.piece_source-piece.result
          (record { number = c.loop-batch.number; count = c.in-Some.batch.events - (leaves c.args.index.now.opening.params (c.loop-batch.before + c.in-Some.batch.events) * c.args.index.now.opening.params.l - c.loop-batch.before); batch = c.in-Some.batch })
          c.piece_source-piece.ensures c.facts.ensures.kept (batch_there c.args.index.now.opening.batches c.loop-batch.number c.in-Some.batch there) (omega (arith, within, c.facts.ensures.events)))
          c.loop-batch.invariant.readable;
    }

pub returns-clause-are : goal.returns-clause-are
returns-clause-are c =
    all_pieces c.args.index.now.opening c.loop-batch.number c.loop-batch.before c.loop-batch.found.items
    (none_left c.args.index.now.opening.batches c.loop-batch.number (sym c.batch.ensures ∙ c.in_default.is)) c.loop-batch.invariant.so_far
