use Rattle.dg_fold.proofs.WritingLasts.{Written}
use Rattle.dg_fold.proofs.writing.write_lasts.Given as goal

abbrev pub invariant-loop-n : goal.invariant-loop-n
invariant-loop-n g l = Written l.name_count l.recent l.parts l.branches l.times l.n l.writings.items
