use Rattle.std.proofs.lemmas.Result.{on_ok_weaker}
use Rattle.dg_dump_lines.proofs.ReadBack.{creation_back}
use Rattle.dg_dump_lines.proofs.commands.put_creation.Goals as goal

pub returns-clause-read_back : goal.returns-clause-read_back
returns-clause-read_back c = on_ok_weaker c.put_create_line.result (λ put. creation_back c.law_commands_read_back.ensures c.args.params _ _ put) c.put_create_line.ensures.put
