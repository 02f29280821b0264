use Rattle.dg_dumping.proofs.Dumps.{sound_stands}
use Rattle.dg_index.specs.OpenedIndex.{Opened}
use Rattle.dg_dumping.proofs.dumping.check.Goals as goal

pub returns-in-Sound-clause-stands : goal.returns-in-Sound-clause-stands
returns-in-Sound-clause-stands g c =
    let x : Opened = record { index = c.args.index.now.opening; names = c.args.names.now } in
    sound_stands c.law_sound_files_stand.ensures (g.D.Disk.image c.args.disk.now) x c.requires.image c.in_ok-verify.field-0 c.in_ok-verify.ensures.sound c.in-Sound.field-0 c.in-Sound.is
