use Rattle.dg_part_runs.proofs.PartNames.{parts_have_the_names}
use Rattle.dg_part_runs.proofs.laws.law_parts_have_the_names_of_the_whole.Goals as goal

pub returns : goal.returns
returns c = parts_have_the_names c.law_parts_have_their_events.ensures
