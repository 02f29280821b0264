use Rattle.std.proofs.Common.{◌⊎◌, inr, [], ◌∷◌, ◌++◌, refl, arith}
use Rattle.dg_dumping.specs.declared.status.DumpStatus.{DumpStatus}
use Rattle.dg_dumping.specs.declared.status.DumpStatus.TheVariants as status
use Rattle.dg_dumping.specs.PutText.{PutFails, events_text}
use Rattle.dg_dumping.proofs.Pieces.{lines_some, put_more, put_stops}
use Rattle.dg_start.proofs.EventSourceOutcomes.{err_is}
use Rattle.dg_dumping.proofs.text.write_event.Goals as goal

pub returns-in_err-put_event-clause-failed : goal.returns-in_err-put_event-clause-failed
returns-in_err-put_event-clause-failed g c =
    let line = events_text c.args.names.now (c.args.event.now ∷ []) in
    let old = c.args.text.now.items in
    err_is c.from_residual-in_err-put_event.result status.NoMemory (λ (s : DumpStatus). PutFails g.K.Sink c.args.sink.now (old ++ line) s c.send.new.sink) c.from_residual-in_err-put_event.ensures
    (record {
      part =
          put_stops g.K.Sink c.args.sink.now c.send.new.sink (old ++ line) c.send.new.text.items line
          (put_more g.K.Sink c.args.sink.now c.send.new.sink old c.send.new.text.items line c.in_ok-send.ensures.put) (lines_some c.args.names.now (c.args.event.now ∷ []) (omega arith));
      cause = inr refl;
    })
