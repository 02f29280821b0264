use Rattle.dg_start.proofs.SessionStartHistory.{starts_as_it_stands}
use Rattle.dg_start.proofs.laws.law_images_start_as_they_stand.Goals as goal

pub returns : goal.returns
returns c = starts_as_it_stands c.law_events_are_read_back.ensures c.law_events_are_merged_back.ensures
