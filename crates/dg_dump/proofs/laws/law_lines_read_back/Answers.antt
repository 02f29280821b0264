use Rattle.dg_dump.proofs.LinesBack.{lines_read_back}
use Rattle.dg_dump.proofs.laws.law_lines_read_back.Goals as goal

pub returns : goal.returns
returns c = lines_read_back
