use Rattle.dg_fold.proofs.BytesReadParts.{kept_parts_are_the_records}
use Rattle.dg_fold.proofs.laws.law_columns_of_an_image.Goals as goal

pub returns : goal.returns
returns c = kept_parts_are_the_records
