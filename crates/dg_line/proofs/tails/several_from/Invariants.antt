use Rattle.std.proofs.Common.{◌≡◌, ◌≤◌, length}
use Rattle.dg_machine.specs.declared.command.TheConstants.{TIMES_MAX}
use Rattle.dg_line.proofs.Instants.{AreRead}
use Rattle.dg_line.proofs.tails.several_from.Given as goal

abbrev pub invariant-loop-word : goal.invariant-loop-word
invariant-loop-word l = record {
  some : 1 ≤ l.count;
  few : l.count ≤ TIMES_MAX;
  size : length l.times ≡ TIMES_MAX;
  read : AreRead l.first l.initial.words l.times l.count l.words;
}

abbrev pub decreases-loop-word : goal.decreases-loop-word
decreases-loop-word l = length l.words
