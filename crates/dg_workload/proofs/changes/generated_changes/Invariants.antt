use Rattle.std.proofs.Common.{◌≡◌, ◌+◌, ◌-◌, ◌*◌, ◌≤◌, ◌++◌, Some, length, map, take}
use Rattle.dg_text.specs.declared.limits.TheConstants.{NAMES_MAX}
use Rattle.dg_changes.specs.Batch.{changes_after, names_after}
use Rattle.dg_changes.specs.GeneratedChanges.{generated, generated_from}
use Rattle.dg_workload.proofs.changes.generated_changes.Given as goal

-- What is generated and what is left to generate come to the whole.
abbrev pub invariant-loop : goal.invariant-loop
invariant-loop l = record {
  position : l.generator.index ≡ l.counter;
  many : length l.changes.items ≡ l.counter;
  room : length l.names + 2 * (l.count - l.counter) ≤ NAMES_MAX;
  changes : map Some l.changes.items ++ changes_after l.names (generated_from (l.count - l.counter) l.generator.index l.generator.number)
      ≡ changes_after l.initial.names (generated l.seed l.count);
  names : names_after l.names (generated_from (l.count - l.counter) l.generator.index l.generator.number)
      ≡ names_after l.initial.names (generated l.seed l.count);
  kept : take (length l.initial.names) l.names ≡ l.initial.names;
}
