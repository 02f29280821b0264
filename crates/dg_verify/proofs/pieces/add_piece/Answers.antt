use Rattle.std.proofs.Common.{◌+◌, sym, ◌∙◌}
use Rattle.dg_history.proofs.ParameterRanges.{in_range}
use Rattle.dg_verify.specs.Verification.{AreSoFar}
use Rattle.dg_verify.proofs.Outcomes.{on_ok_so}
use Rattle.dg_verify.proofs.OpenedIndexParameters.{older_count}
use Rattle.dg_verify.proofs.pieces.add_piece.Goals as goal

pub returns-else-is_recent-clause-so_far : goal.returns-else-is_recent-clause-so_far
returns-else-is_recent-clause-so_far g c =
    let o = c.args.index.now.opening in
    let range = in_range o.params.l o.params.k c.facts.ensures.parameters in
    on_ok_so c.compare_older.result (AreSoFar o (c.args.before + c.args.batch.events) c.args.own.now.events.items)
    (c.requires.so_far ∙ older_count o c.args.before c.args.batch range.list_some c.requires.few (sym c.is_recent.ensures ∙ c.if-is_recent.false))
