use Rattle.std.proofs.Common.{sym, subst}
use Rattle.std.specs.Option.{IfSome}
use Rattle.std.proofs.lemmas.List.{take_all}
use Rattle.dg_disk.proofs.FrameLemmas.{reads_then}
use Rattle.dg_file.specs.Images.{IsOpenedAs}
use Rattle.dg_fold.specs.BytesRead.{AreParts, named_along}
use Rattle.dg_fold.proofs.BytesReadGrowth.{if_told, is_entered, most_of_walk, so_far_more}
use Rattle.dg_records.specs.ColumnReads.{kept_in}
use Rattle.dg_fold.proofs.fetch.fetch_walk.Goals as goal

pub take_step-requires-clause-entered : goal.take_step-requires-clause-entered
take_step-requires-clause-entered g c =
    is_entered (g.D.Disk.image c.args.disk.now) c.args.index.now.opening c.args.cols c.args.walk.now c.loop-edge.edge-index _ c.loop-edge-test.true
    c.loop-edge.parts.items (g.D.Disk.taken c.args.disk.now) (g.D.Disk.taken c.loop-edge.disk) c.loop-edge.invariant.so_far

pub take_step-requires-clause-image : goal.take_step-requires-clause-image
take_step-requires-clause-image g c =
    subst (λ m. IfSome m (λ image. IsOpenedAs image c.args.index.now.opening)) (sym c.loop-edge.invariant.frame.same_image) c.requires.image

pub returns-in_err-take_step-clause-most : goal.returns-in_err-take_step-clause-most
returns-in_err-take_step-clause-most g c =
    most_of_walk (g.D.Disk.image c.args.disk.now) c.args.index.now.opening c.args.cols c.args.walk.now c.loop-edge.edge-index _ c.loop-edge-test.true
    (g.D.Disk.image c.loop-edge.disk) c.loop-edge.invariant.frame.same_image
    c.loop-edge.parts.items (g.D.Disk.taken c.args.disk.now) (g.D.Disk.taken c.loop-edge.disk) (g.D.Disk.taken c.take_step.new.disk) c.loop-edge.invariant.so_far
    c.take_step.ensures.most

pub loop-edge-preserved : goal.loop-edge-preserved
loop-edge-preserved g c = record {
  so_far = so_far_more (g.D.Disk.image c.args.disk.now) c.args.index.now.opening c.args.cols c.args.walk.now c.loop-edge.edge-index _ c.loop-edge-test.true
      (g.D.Disk.image c.loop-edge.disk) c.loop-edge.invariant.frame.same_image
      c.loop-edge.parts.items (g.D.Disk.taken c.args.disk.now) (g.D.Disk.taken c.loop-edge.disk) (g.D.Disk.taken c.take_step.new.disk) c.loop-edge.invariant.so_far
      c.take_step.new.parts.items c.in_ok-take_step.ensures.named c.in_ok-take_step.ensures.parts c.in_ok-take_step.ensures.takes;
  frame = reads_then c.loop-edge.invariant.frame c.take_step.ensures.frame;
}

pub returns-clause-parts : goal.returns-clause-parts
returns-clause-parts g c =
    if_told (g.D.Disk.image c.args.disk.now) (λ bytes. AreParts (kept_in bytes c.args.index.now.opening) c.args.cols (named_along c.args.walk.now) c.loop-edge.parts.items)
    (λ bytes is. subst (λ w. AreParts (kept_in bytes c.args.index.now.opening) c.args.cols (named_along w) c.loop-edge.parts.items) (take_all c.loop-edge.edge-index c.args.walk.now c.loop-edge-test.false)
    (c.loop-edge.invariant.so_far.are bytes is))
