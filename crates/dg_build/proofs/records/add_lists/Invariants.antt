use Rattle.std.proofs.Common.{◌≡◌, ◌*◌, ◌++◌, map, take, drop}
use Rattle.dg_index.specs.Hierarchy.{numbers}
use Rattle.dg_build.specs.SpelledRecords.{stored_cut}
use Rattle.dg_build.proofs.records.add_lists.Given as goal

abbrev pub invariant-loop-i : goal.invariant-loop-i
invariant-loop-i l = l.segment ≡ record l.fn.segment { lists = l.fn.segment.lists ++ map (λ i. stored_cut l.messages (take l.l (drop (i * l.l) (l.first ++ l.later)))) (numbers 0 l.i) }
