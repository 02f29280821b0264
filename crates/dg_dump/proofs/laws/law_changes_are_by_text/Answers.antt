use Rattle.dg_dump.proofs.TextChanges.{by_text}
use Rattle.dg_dump.proofs.laws.law_changes_are_by_text.Goals as goal

pub returns : goal.returns
returns c = by_text
