use Rattle.dg_reply.proofs.Names.{no_name}
use Rattle.dg_reply.proofs.body_line.text_of.Goals as goal

pub returns-in-None-clause-text : goal.returns-in-None-clause-text
returns-in-None-clause-text c =
    no_name c.args.names.now c.args.number c.as_slice.result.now c.in-None.ensures.text c.as_slice.ensures
