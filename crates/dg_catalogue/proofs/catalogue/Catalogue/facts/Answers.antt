use Rattle.std.proofs.Common.{subst}
use Rattle.dg_catalogue.specs.Entries.{Holdings, RecordsAreSound}
use Rattle.dg_catalogue.proofs.EntryRecords.{held_sound}
use Rattle.dg_catalogue.proofs.catalogue.Catalogue.facts.Goals as goal

pub returns-clause-held : goal.returns-clause-held
returns-clause-held c = held_sound c.args.self.now (subst (λ (h : Holdings). RecordsAreSound h.entries) c.self.view_is c.self.invariant.0)
