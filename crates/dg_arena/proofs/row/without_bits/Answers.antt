use Rattle.std.proofs.Common.{refl, arith}
use Rattle.dg_arena.proofs.Bits.{all_off}
use Rattle.dg_arena.proofs.row.without_bits.Goals as goal

pub returns : goal.returns
returns g c = record {
  element = refl;
  bits = all_off c.args.row.bits c.args.mask (omega arith) (omega arith) (omega arith) (omega arith) (omega arith);
}
