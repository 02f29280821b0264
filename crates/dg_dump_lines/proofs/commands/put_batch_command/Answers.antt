use Rattle.std.proofs.lemmas.Result.{on_ok_weaker}
use Rattle.dg_dump_lines.proofs.ReadBack.{batch_back}
use Rattle.dg_dump_lines.proofs.commands.put_batch_command.Goals as goal

pub returns-clause-read_back : goal.returns-clause-read_back
returns-clause-read_back c = on_ok_weaker c.put_count_line.result (λ put. batch_back c.law_commands_read_back.ensures c.args.verb c.args.count _ _ put) c.put_count_line.ensures.put
