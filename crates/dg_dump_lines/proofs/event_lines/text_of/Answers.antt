use Rattle.dg_dump_lines.proofs.Lines.{no_name}
use Rattle.dg_dump_lines.proofs.event_lines.text_of.Goals as goal

pub returns-in-None : goal.returns-in-None
returns-in-None c = no_name c.args.names.now c.args.number c.as_slice.result.now c.in-None.ensures.text c.as_slice.ensures
