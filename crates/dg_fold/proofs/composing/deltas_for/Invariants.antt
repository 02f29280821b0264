use Rattle.std.proofs.Common.{map}
use Rattle.dg_fold.proofs.WritingCompositions.{Gathered}
use Rattle.dg_fold.proofs.composing.deltas_for.Given as goal

abbrev pub invariant-loop-writing : goal.invariant-loop-writing
invariant-loop-writing l = Gathered l.target l.writing-index l.writings (map (λ d. d.now) l.deltas.items)
