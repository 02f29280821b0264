use Rattle.std.proofs.lemmas.Result.{on_ok_weaker}
use Rattle.dg_dump_lines.proofs.ReadBack.{events_back}
use Rattle.dg_dump_lines.proofs.event_lines.put_events.Goals as goal

pub returns-clause-read_back : goal.returns-clause-read_back
returns-clause-read_back c = on_ok_weaker c.put_all.result (λ put. events_back c.law_texts_read_back.ensures c.args.names.now c.args.events.now _ _ put) c.put_all.ensures.put
