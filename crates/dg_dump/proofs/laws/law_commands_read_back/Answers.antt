use Rattle.dg_dump.proofs.TextsBack.{commands_back}
use Rattle.dg_dump.proofs.laws.law_commands_read_back.Goals as goal

pub returns : goal.returns
returns c = commands_back
