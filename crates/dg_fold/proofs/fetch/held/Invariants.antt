use Rattle.std.proofs.Common.{map, drop}
use Rattle.std.specs.List.{Contains}
use Rattle.dg_fold.specs.declared.part.Part.{Part}
use Rattle.dg_fold.proofs.fetch.held.Given as goal

abbrev pub invariant-loop-i : goal.invariant-loop-i
invariant-loop-i l = Contains (map (λ (p : Part). p.key) (drop l.i l.parts)) l.key → ⊥
