use Rattle.dg_range.proofs.AddedLaws.{images_have_added}
use Rattle.dg_range.proofs.laws.law_images_have_added.Goals as goal

pub returns : goal.returns
returns c =
    images_have_added c.law_columns_are_kept.ensures c.law_events_are_read_back.ensures c.law_legal_histories_are_indexed.ensures
