use Rattle.std.proofs.Common.{[], ◌++◌, rules, sym, subst}
use Rattle.dg_delta.specs.Stacks.{stacked}
use Rattle.dg_fold.specs.BytesRead.{HoldsWhatIsEntered}
use Rattle.dg_fold.specs.Foldings.{StandsOrFails}
use Rattle.dg_fold.specs.Parts.{parts_in}
use Rattle.dg_fold.proofs.Foldings.{front_holds, most_behind, parts_behind, takes_behind}
use Rattle.dg_fold.proofs.PartCompositions.{cut_anywhere}
use Rattle.dg_fold.proofs.folding.+push_walk.Goals as goal

pub push_walk-requires : goal.push_walk-requires
push_walk-requires g t c =
    let entered : HoldsWhatIsEntered [] c.split_at.result.0.now =
    front_holds [] c.split_at.result.0.now c.split_at.result.1.now (subst (HoldsWhatIsEntered []) c.split_at.ensures.by_index.0 c.requires.entered) in
    search (rules, entered)

pub returns-in_err-on-clause-most : goal.returns-in_err-on-clause-most
returns-in_err-on-clause-most g t c =
    most_behind (g.D.Disk.image c.args.disk.now) c.args.index.now.opening c.args.cols c.args.walk.now c.split_at.result.0.now c.split_at.result.1.now c.split_at.ensures.by_index.0
    (g.D.Disk.image c.push_walk.new.disk) c.push_walk.ensures.frame.same_image
    (g.D.Disk.taken c.args.disk.now) (g.D.Disk.taken c.push_walk.new.disk) (g.D.Disk.taken c.push_walk-2.new.disk) c.in_ok-pushed.ensures.takes c.push_walk-2.ensures.most

pub returns-clause-pushed : goal.returns-clause-pushed
returns-clause-pushed g t c =
    let names = c.args.name_count in
    let first = c.in_ok-pushed.ensures.pushed in
    let then = c.in_ok-on.ensures.pushed in (
      first.0 ++ then.0,
      subst (λ due. StandsOrFails c.compose_both.result due (stacked c.args.stack.now) (stacked c.compose_both.new.stack)) (sym (cut_anywhere names first.0 then.0))
          (c.compose_both.ensures (parts_in names first.0) (parts_in names then.0) (stacked c.args.stack.now) (stacked c.push_walk.new.stack)
          (record { begins = c.height-first.ensures; goes_on = c.height-then.ensures; stands = first.1; stands_behind = then.1 })),
      parts_behind (g.D.Disk.image c.args.disk.now) c.args.index.now.opening c.args.cols c.args.walk.now c.split_at.result.0.now c.split_at.result.1.now c.split_at.ensures.by_index.0
          (g.D.Disk.image c.push_walk.new.disk) c.push_walk.ensures.frame.same_image
          first.0 then.0 first.2 then.2,
    )

pub returns-clause-takes : goal.returns-clause-takes
returns-clause-takes g t c =
    takes_behind (g.D.Disk.image c.args.disk.now) c.args.index.now.opening c.args.cols c.args.walk.now c.split_at.result.0.now c.split_at.result.1.now c.split_at.ensures.by_index.0
    (g.D.Disk.image c.push_walk.new.disk) c.push_walk.ensures.frame.same_image
    (g.D.Disk.taken c.args.disk.now) (g.D.Disk.taken c.push_walk.new.disk) (g.D.Disk.taken c.push_walk-2.new.disk) c.in_ok-pushed.ensures.takes c.in_ok-on.ensures.takes

pub returns-clause-most : goal.returns-clause-most
returns-clause-most g t c =
    most_behind (g.D.Disk.image c.args.disk.now) c.args.index.now.opening c.args.cols c.args.walk.now c.split_at.result.0.now c.split_at.result.1.now c.split_at.ensures.by_index.0
    (g.D.Disk.image c.push_walk.new.disk) c.push_walk.ensures.frame.same_image
    (g.D.Disk.taken c.args.disk.now) (g.D.Disk.taken c.push_walk.new.disk) (g.D.Disk.taken c.push_walk-2.new.disk) c.in_ok-pushed.ensures.takes c.push_walk-2.ensures.most
