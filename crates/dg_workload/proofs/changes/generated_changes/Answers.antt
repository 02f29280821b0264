use Rattle.std.proofs.Common.{◌≡◌, suc, ◌+◌, ◌-◌, arith, rules}
use Rattle.dg_workload.proofs.PlaceChanges.{changes_go_on, names_go_on, first_kept}
use Rattle.dg_workload.proofs.changes.generated_changes.Goals as goal

pub loop-preserved : goal.loop-preserved
loop-preserved c =
    let one : c.args.count - c.loop.counter ≡ suc (c.args.count - (c.loop.counter + 1)) = omega (arith, c.loop-test.true) in
    record {
      position = search rules;
      many = search rules;
      room = search rules;
      changes = changes_go_on c.loop.names c.next.new.names _ _ c.loop.generator c.next.new.self one c.in_ok-next.ensures.named c.next.ensures.position
          _ _ _ _ c.in_ok-push.ensures.items c.in_ok-next.ensures.change c.loop.invariant.changes;
      names = names_go_on c.loop.names c.next.new.names _ _ c.loop.generator c.next.new.self one c.in_ok-next.ensures.named c.next.ensures.position
          _ c.loop.invariant.names;
      kept = first_kept _ _ _ c.loop.invariant.kept c.next.ensures.kept;
    }
