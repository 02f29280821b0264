use Rattle.dg_range.proofs.ValueLaws.{images_have_values}
use Rattle.dg_range.proofs.laws.law_images_have_values.Goals as goal

pub returns : goal.returns
returns c =
    images_have_values c.law_columns_are_kept.ensures c.law_events_are_read_back.ensures c.law_legal_histories_are_indexed.ensures c.law_columns_have_turns.ensures
