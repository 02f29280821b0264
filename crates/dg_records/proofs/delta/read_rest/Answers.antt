use Rattle.std.proofs.Common.{◌++◌, sym, subst}
use Rattle.std.specs.Prelude.{OnOk}
use Rattle.dg_disk.specs.Image.{IsRangeOf}
use Rattle.dg_records.proofs.DeltaReads.{rest_read}
use Rattle.dg_records.proofs.delta.read_rest.Goals as goal

pub returns-clause-read : goal.returns-clause-read
returns-clause-read g c =
    subst (λ head. OnOk c.read_at.result (IsRangeOf (g.D.Disk.image c.args.disk.now) c.args.offset (head ++ c.read_at.new.into))) (sym c.copy_from_slice.ensures.after)
    (rest_read c.read_at.result (g.D.Disk.image c.args.disk.now) c.args.offset c.args.front.now c.read_at.new.into c.requires.front c.read_at.ensures.read)
