use Rattle.dg_sound_files.proofs.SoundFilesStand.{sound_files_stand}
use Rattle.dg_sound_files.proofs.laws.law_sound_files_stand.Goals as goal

pub returns : goal.returns
returns c = sound_files_stand c.law_events_have_one_spelling.ensures c.law_events_that_are_read_fit.ensures
