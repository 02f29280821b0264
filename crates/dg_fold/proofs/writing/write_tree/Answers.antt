use Rattle.std.proofs.Common.{◌<◌, ℕ, ap, get_or, length, map, subst, sym, ◌∙◌, arith}
use Rattle.std.specs.List.{All}
use Rattle.std.proofs.lemmas.List.{length-map}
use Rattle.dg_history.specs.declared.node.NodeId.TheVariants.{Root}
use Rattle.dg_fold.specs.Ends.{lasts_in}
use Rattle.dg_fold.specs.Steps.{paired}
use Rattle.dg_fold.specs.Trees.{all_edges}
use Rattle.dg_fold.specs.WritingSteps.{IsEnteredNode, IsWritten}
use Rattle.dg_fold.specs.Writings.{written_for}
use Rattle.dg_fold.specs.declared.tree.Branch.{Branch}
use Rattle.dg_fold.proofs.EndTargets.{first_fails}
use Rattle.dg_fold.proofs.Steps.{done_in, stepped_edges}
use Rattle.dg_fold.proofs.WritingCompositions.{written_cut}
use Rattle.dg_fold.proofs.WritingLasts.{all_led, lasts_fail}
use Rattle.dg_fold.proofs.WritingRoots.{are_entered, are_rooted}
use Rattle.dg_fold.proofs.writing.write_tree.Goals as goal

pub write_back-requires-clause-rooted : goal.write_back-requires-clause-rooted
write_back-requires-clause-rooted g c =
    are_rooted c.args.branches.now c.in-Ok.steps.items
    (stepped_edges c.args.name_count c.args.recent.now (all_edges c.args.branches.now) c.args.parts.now c.in-Ok.steps.items c.in-Ok.ensures.ok) c.requires.grow c.requires.lead

pub write_back-requires-clause-entered : goal.write_back-requires-clause-entered
write_back-requires-clause-entered g c =
    subst (All (λ n. IsEnteredNode n c.in-Ok.steps.items)) (sym c.in_ok-ends.ensures)
    (are_entered c.args.branches.now c.in-Ok.steps.items
    (stepped_edges c.args.name_count c.args.recent.now (all_edges c.args.branches.now) c.args.parts.now c.in-Ok.steps.items c.in-Ok.ensures.ok) c.requires.grow c.requires.lead)

pub returns-in-Err-clause-err : goal.returns-in-Err-clause-err
returns-in-Err-clause-err g c =
    first_fails c.args.name_count c.args.recent.now (paired (all_edges c.args.branches.now) c.args.parts.now) c.in-Err.fault
    (lasts_in c.args.name_count c.args.recent.now c.args.parts.now c.args.branches.now c.args.times.now) c.in-Err.ensures.err

pub returns-in-Err-write_lasts-clause-err : goal.returns-in-Err-write_lasts-clause-err
returns-in-Err-write_lasts-clause-err g c =
    let all = paired (all_edges c.args.branches.now) c.args.parts.now in
    let read = done_in c.args.name_count c.args.recent.now all c.in-Ok.steps.items c.in-Ok.ensures.ok in
    lasts_fail c.args.name_count c.args.recent.now c.args.parts.now c.in-Err-write_lasts.fault all read.0
    (lasts_in c.args.name_count c.args.recent.now c.args.parts.now c.args.branches.now c.args.times.now) read.1 c.in-Err-write_lasts.ensures.err

pub returns-clause-ok : goal.returns-clause-ok
returns-clause-ok g c =
    let branches = c.args.branches.now in
    let steps = c.in-Ok.steps.items in
    let front = c.in_ok-writings.writings.items in
    let lasts = c.in-Ok-write_lasts.lasts.items in
    let nodes = map (λ (b : Branch). b.to) branches in
    let own : (n : ℕ) → n < length nodes → IsWritten steps n (get_or nodes n Root) front =
    subst (λ l. (n : ℕ) → n < length l → IsWritten steps n (get_or l n Root) front) c.in_ok-ends.ensures c.in_ok-writings.ensures in
    let long = length-map branches (λ (b : Branch). b.to) in
    all_led c.args.name_count c.args.recent.now c.args.parts.now (paired (all_edges branches) c.args.parts.now) steps c.in-Ok.ensures.ok front c.append.new.self.items
    0 branches c.args.times.now lasts c.in-Ok-write_lasts.ensures.ok
    (λ n less. subst (λ m. IsWritten steps m (get_or nodes n Root) front) (omega arith) (own n (omega arith)))
    (λ n from. ap (written_for n) c.in_ok-append.ensures.items ∙ written_cut n front lasts)

pub returns-clause-read : goal.returns-clause-read
returns-clause-read g c =
    done_in c.args.name_count c.args.recent.now (paired (all_edges c.args.branches.now) c.args.parts.now) c.in-Ok.steps.items c.in-Ok.ensures.ok
