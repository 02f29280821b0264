use Rattle.std.proofs.Common.{◌≡◌, [], Ok, None, drop, take, sym, ◌∙◌}
use Rattle.dg_history.specs.declared.node.Key.TheVariants as key
use Rattle.dg_index.specs.FileOfHistory.{Stored}
use Rattle.dg_sound.specs.OwnEvents.{piece_length, piece_start, with_older}
use Rattle.dg_start.specs.EventSources.{WhereTold}
use Rattle.dg_verify.specs.declared.stop.Stop.{Stop}
use Rattle.dg_verify.specs.Verification.{IsStop, IsWrong, keyed_column, opened_with, unlike_events}
use Rattle.dg_verify.proofs.Outcomes.{if_err, on_ok}
use Rattle.dg_verify.proofs.EventTestPieces.{older_alike, older_stops}
use Rattle.dg_verify.proofs.pieces.compare_older.Goals as goal

pub returns-clause-alike : goal.returns-clause-alike
returns-clause-alike g c =
    let o = c.args.index.now.opening in
    let told = g.D.Disk.image c.args.disk.now in
    let due : Stored = record { structure = c.as_slice.result.now; node_attrs = c.as_slice-2.result.now; edge_attrs = c.as_slice-3.result.now; transient = c.as_slice-4.result.now } in
    let piece_is : c.cut-piece.result.now ≡ take (piece_length o c.args.before c.args.batch) (drop (piece_start o c.args.before c.args.batch) c.args.events.now) =
    c.cut-piece.ensures ∙ (λ i. take (c.span_of-start.ensures.count i) (drop (c.span_of-start.ensures.start i) c.args.events.now)) in
    on_ok c.compare_event_columns.result
    (WhereTold told (λ image. unlike_events image o (key.Piece c.args.number) due ≡ None))
    (WhereTold told (λ image. with_older image (opened_with o []) c.args.events.now c.args.number c.args.before c.args.batch ≡ Ok c.args.events.now))
    (λ alike image h. older_alike image o c.args.events.now c.cut-piece.result.now c.args.number c.args.before c.args.batch due
    piece_is (sym c.has_batch_ends.ensures ∙ c.if-not-has_batch_ends.false)
    (c.as_slice.ensures.value ∙ c.in_ok-structure.ensures) (c.as_slice-2.ensures.value ∙ c.in_ok-node_attrs.ensures) (c.as_slice-3.ensures.value ∙ c.in_ok-edge_attrs.ensures) (c.as_slice-4.ensures.value ∙ c.in_ok-transient.ensures) (alike image h))
    c.compare_event_columns.ensures.alike

pub returns-clause-stopped : goal.returns-clause-stopped
returns-clause-stopped g c =
    let o = c.args.index.now.opening in
    let told = g.D.Disk.image c.args.disk.now in
    let due : Stored = record { structure = c.as_slice.result.now; node_attrs = c.as_slice-2.result.now; edge_attrs = c.as_slice-3.result.now; transient = c.as_slice-4.result.now } in
    let piece_is : c.cut-piece.result.now ≡ take (piece_length o c.args.before c.args.batch) (drop (piece_start o c.args.before c.args.batch) c.args.events.now) =
    c.cut-piece.ensures ∙ (λ i. take (c.span_of-start.ensures.count i) (drop (c.span_of-start.ensures.start i) c.args.events.now)) in
    if_err c.compare_event_columns.result
    (λ (s : Stop). WhereTold told (λ image. IsWrong s (keyed_column (key.Piece c.args.number) (unlike_events image o (key.Piece c.args.number) due))))
    (λ (s : Stop). WhereTold told (λ image. IsStop s (with_older image (opened_with o []) c.args.events.now c.args.number c.args.before c.args.batch)))
    (λ s wrong image h. older_stops image o c.args.events.now c.cut-piece.result.now c.args.number c.args.before c.args.batch due
    piece_is (sym c.has_batch_ends.ensures ∙ c.if-not-has_batch_ends.false)
    (c.as_slice.ensures.value ∙ c.in_ok-structure.ensures) (c.as_slice-2.ensures.value ∙ c.in_ok-node_attrs.ensures) (c.as_slice-3.ensures.value ∙ c.in_ok-edge_attrs.ensures) (c.as_slice-4.ensures.value ∙ c.in_ok-transient.ensures) s (wrong image h))
    c.compare_event_columns.ensures.stopped
