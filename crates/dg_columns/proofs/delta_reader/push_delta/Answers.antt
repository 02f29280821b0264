use Rattle.std.proofs.Common.{cond, sym, ap, ◌∙◌, arith}
use Rattle.dg_graph.specs.ColumnGrammar.{changes_in, no_changes_in}
use Rattle.dg_columns.proofs.ReadFitsDeltas.{delta_fits, all_from_bytes}
use Rattle.dg_columns.proofs.delta_reader.push_delta.Goals as goal

pub returns-then-push_sound-clause-ok : goal.returns-then-push_sound-clause-ok
returns-then-push_sound-clause-ok c =
    let bytes = c.args.bytes.now in
    let pushed = c.push_sound.ensures.pushed c.if-push_sound.true in
    let read = ap (λ b. cond b (changes_in c.args.col c.args.name_count bytes) (no_changes_in bytes)) (sym c.may_change.ensures ∙ c.if-may_change.true) ∙ pushed.1 in
    (pushed.0, read, delta_fits c.args.col c.args.name_count bytes pushed.0 (all_from_bytes bytes (λ i. omega (arith, c.type_inv.bytes i))) read, pushed.2)
