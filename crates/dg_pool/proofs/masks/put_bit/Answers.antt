use Rattle.dg_pool.proofs.MaskBits.{bit_put}
use Rattle.dg_pool.proofs.masks.put_bit.Goals as goal

pub returns-clause-bits : goal.returns-clause-bits
returns-clause-bits c = bit_put c.args.mask.now c.args.bit c.told-mask c.ranges.bit.fits
