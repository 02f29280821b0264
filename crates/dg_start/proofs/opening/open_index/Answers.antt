use Rattle.std.proofs.Common.{◌≡◌, ℕ, List, Ok, Some, Option, subst, sym}
use Rattle.std.specs.Prelude.{IfSome, length}
use Rattle.dg_graph.specs.declared.event.Event.{Event}
use Rattle.dg_index.specs.OpenedIndex.{Opening, opening}
use Rattle.dg_current.specs.Now.{NowState}
use Rattle.dg_start.specs.Calls.{current_bytes}
use Rattle.dg_start.specs.SessionStart.{Starts, started_with}
use Rattle.dg_stored.specs.StoredHistory.{IsSoundHistory}
use Rattle.dg_start.proofs.SessionStartOpenings.{keeps_sound}
use Rattle.dg_start.proofs.SessionStartSets.{plan_handed}
use Rattle.dg_start.proofs.opening.open_index.Goals as goal

pub returns-clause-done : goal.returns-clause-done
returns-clause-done g c =
    let names : List (List ℕ) = c.args.names in
    let now : NowState = c.in_ok-now.field-0.now in
    let recent : List Event = c.in_ok-now.field-0.recent.items in
    let told : Option (List ℕ) = g.D.Disk.image c.args.disk.now in
    let started : IfSome told (λ image. Starts image (Ok (started_with (Some c.args.index.opening) names now.graph recent))) =
    c.in_ok-now.ensures.done.started in
    let sound : IsSoundHistory (Some c.args.index.opening) names now recent =
    record {
      pending = c.in_ok-now.ensures.done.none;
      counted = (c.requires.counted_names, c.in_ok-now.ensures.done.many);
      values = c.in_ok-now.ensures.done.values;
      named = c.in_ok-now.ensures.done.named;
      recent_named = c.in_ok-now.ensures.done.recent_named;
      fit = c.in_ok-now.ensures.done.fit;
      goes_on = c.in_ok-now.ensures.done.goes_on;
    } in
    record {
      started = started;
      stands = keeps_sound c.law_images_start_as_they_stand.ensures told (Some c.args.index.opening) names now recent started sound;
      sound = sound;
      held =
          subst (λ (told : Option (List ℕ)). IfSome told (λ image. opening image ≡ Ok (record { index = c.args.index.opening; names = names })))
          {x = g.D.Disk.image c.args.disk.now} {y = g.D.Disk.image c.read_current.new.disk} (sym {a = g.D.Disk.image c.read_current.new.disk} {b = g.D.Disk.image c.args.disk.now} c.read_current.ensures.disk.same_image) c.requires.image;
    }

pub returns-in_err-now-clause-takes : goal.returns-in_err-now-clause-takes
returns-in_err-now-clause-takes g c =
    let o : Opening = c.args.index.opening in
    let names : List (List ℕ) = c.args.names in
    plan_handed (g.D.Disk.image c.args.disk.now) c.from_residual.result c.in_err-now.field-0.0 c.read_current.result (current_bytes o) o (length names) (g.D.Disk.taken c.args.disk.now) (g.D.Disk.taken c.read_current.new.disk)
    c.from_residual.ensures c.read_current.ensures.takes
