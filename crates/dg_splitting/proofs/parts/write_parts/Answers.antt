use Rattle.std.proofs.Common.{sym, arith}
use Rattle.std.specs.Prelude.{slice_set}
use Rattle.dg_start.proofs.EventSourceOutcomes.{err_is}
use Rattle.dg_splitting.specs.declared.status.SplitStatus.{SplitStatus}
use Rattle.dg_splitting.specs.Written.{LeavesParts, StopsParts}
use Rattle.dg_splitting.proofs.OutLists.{next_there, one_more}
use Rattle.dg_splitting.proofs.PartRuns.{all_hold, all_settled, all_used, leaves_at, stops_at, used_at}
use Rattle.dg_splitting.proofs.parts.write_parts.Goals as goal

pub write_one-requires-clause-blank : goal.write_one-requires-clause-blank
write_one-requires-clause-blank g c = c.requires.blank c.loop-part.part _ (next_there _ c.args.outs.now c.loop-part.outs c.loop-part.part _ c.loop-part.invariant.up_to (omega arith))

pub returns-in_err-write_one-clause-stops : goal.returns-in_err-write_one-clause-stops
returns-in_err-write_one-clause-stops g c =
    err_is c.from_residual.result c.in_err-write_one.field-0.0
    (λ (s : SplitStatus). StopsParts g.D.Disk c.args.limit c.args.whole.now.params c.args.whole.now.names.now c.args.whole.now.events.now s c.args.outs.now (slice_set c.loop-part.outs c.loop-part.part c.write_one.new.out)) c.from_residual.ensures
    (stops_at g.D.Disk c.args.limit c.args.whole.now.params c.args.whole.now.names.now c.args.whole.now.events.now _ c.args.outs.now c.loop-part.outs c.loop-part.part _ c.write_one.new.out (sym c.loop-part.invariant.many)
    c.loop-part.invariant.up_to (omega arith) (next_there _ c.args.outs.now c.loop-part.outs c.loop-part.part c.index-outs-part.result c.loop-part.invariant.up_to (omega arith)) c.in_err-write_one.field-0.0 c.in_err-write_one.ensures.stops)

pub returns-in_err-write_one-clause-fronts : goal.returns-in_err-write_one-clause-fronts
returns-in_err-write_one-clause-fronts g c =
    err_is c.from_residual.result c.in_err-write_one.field-0.0
    (λ (s : SplitStatus). LeavesParts g.D.Disk c.args.whole.now.params c.args.whole.now.names.now c.args.whole.now.events.now s c.args.outs.now (slice_set c.loop-part.outs c.loop-part.part c.write_one.new.out)) c.from_residual.ensures
    (leaves_at g.D.Disk c.args.limit c.args.whole.now.params c.args.whole.now.names.now c.args.whole.now.events.now _ c.args.outs.now c.loop-part.outs c.loop-part.part _ c.write_one.new.out (sym c.loop-part.invariant.many)
    c.loop-part.invariant.up_to (omega arith) (next_there _ c.args.outs.now c.loop-part.outs c.loop-part.part c.index-outs-part.result c.loop-part.invariant.up_to (omega arith)) c.in_err-write_one.field-0.0 c.in_err-write_one.ensures.front)

pub returns-in_err-write_one-clause-used : goal.returns-in_err-write_one-clause-used
returns-in_err-write_one-clause-used g c =
    used_at g.D.Disk c.args.limit c.args.whole.now.params c.args.whole.now.names.now c.args.whole.now.events.now _ c.args.outs.now c.loop-part.outs c.loop-part.part _ c.write_one.new.out (sym c.loop-part.invariant.many)
    c.loop-part.invariant.up_to (omega arith) (next_there _ c.args.outs.now c.loop-part.outs c.loop-part.part c.index-outs-part.result c.loop-part.invariant.up_to (omega arith)) c.write_one.ensures.used

pub loop-part-preserved : goal.loop-part-preserved
loop-part-preserved g c = record {
  many = c.loop-part.invariant.many;
  up_to = one_more _ c.args.outs.now c.loop-part.outs c.loop-part.part _ c.write_one.new.out c.loop-part.invariant.up_to (omega arith)
      (next_there _ c.args.outs.now c.loop-part.outs c.loop-part.part c.index-outs-part.result c.loop-part.invariant.up_to (omega arith))
      (record { used = c.write_one.ensures.used; settled = c.in_ok-write_one.ensures.settled; holds = c.in_ok-write_one.ensures.written });
}

pub returns-clause-written : goal.returns-clause-written
returns-clause-written g c =
    all_hold g.D.Disk c.args.limit c.args.whole.now.params c.args.whole.now.names.now c.args.whole.now.events.now _ c.args.outs.now c.loop-part.outs (sym c.loop-part.invariant.many) (omega arith) c.loop-part.part c.loop-part.invariant.up_to (omega arith)

pub returns-clause-used : goal.returns-clause-used
returns-clause-used g c =
    all_used g.D.Disk c.args.limit c.args.whole.now.params c.args.whole.now.names.now c.args.whole.now.events.now _ c.args.outs.now c.loop-part.outs (sym c.loop-part.invariant.many) (omega arith) c.loop-part.part c.loop-part.invariant.up_to (omega arith)

pub returns-clause-settled : goal.returns-clause-settled
returns-clause-settled g c =
    all_settled g.D.Disk c.args.limit c.args.whole.now.params c.args.whole.now.names.now c.args.whole.now.events.now _ c.args.outs.now c.loop-part.outs (sym c.loop-part.invariant.many) (omega arith) c.loop-part.part c.loop-part.invariant.up_to (omega arith)
