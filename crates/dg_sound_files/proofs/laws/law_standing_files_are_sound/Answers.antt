use Rattle.dg_sound_files.proofs.SoundFileHistories.{standing_files_are_sound}
use Rattle.dg_sound_files.proofs.laws.law_standing_files_are_sound.Goals as goal

pub returns : goal.returns
returns c =
    standing_files_are_sound c.law_columns_are_kept.ensures c.law_events_are_read_back.ensures c.law_events_are_merged_back.ensures
