use Rattle.std.proofs.Common.{arith}
use Rattle.dg_catalogue.proofs.ShapeNodes.{child_there}
use Rattle.dg_catalogue.proofs.shape.child_at.Goals as goal

pub returns : goal.returns
returns c = child_there c.args.arity c.args.height c.args.above c.args.number c.node_at.result c.requires.above (omega arith) (omega arith) c.node_at.ensures
