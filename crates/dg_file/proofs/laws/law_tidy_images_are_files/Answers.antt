use Rattle.dg_file.proofs.TidyWrites.{just_tidy, tidy_just}
use Rattle.dg_file.proofs.laws.law_tidy_images_are_files.Goals as goal

pub returns-clause-file : goal.returns-clause-file
returns-clause-file c = tidy_just

pub returns-clause-tidy : goal.returns-clause-tidy
returns-clause-tidy c = just_tidy
