use Rattle.std.proofs.Common.{Some, ap, refl}
use Rattle.dg_part_files.proofs.PartWriting.{begun_at}
use Rattle.dg_part_files.proofs.part.begin.Goals as goal

pub returns-clause-at : goal.returns-clause-at
returns-clause-at g c =
    λ limit. begun_at limit c.args.part.now.params c.args.part.now.names.now c.args.part.now.events.now c.requires.good _ (g.D.Disk.image c.create.new.disk)
    (ap Some c.in_ok-index.ensures.made) c.requires.names c.new.ensures.graph c.new.ensures.pending c.new-2.ensures.items refl c.in_ok-index.ensures.opened c.in_ok-index.ensures.image
