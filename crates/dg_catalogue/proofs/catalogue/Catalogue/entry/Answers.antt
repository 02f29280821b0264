use Rattle.std.proofs.Common.{◌≡◌, ap, subst, ◌∙◌}
use Rattle.std.specs.List.{All}
use Rattle.dg_catalogue.specs.Entries.{Holdings, EndsIfList}
use Rattle.dg_catalogue.specs.Held.{entry_of}
use Rattle.dg_catalogue.proofs.EntryRecords.{ends_held, look_up_is}
use Rattle.dg_catalogue.proofs.catalogue.Catalogue.entry.Goals as goal

pub returns-clause-ends : goal.returns-clause-ends
returns-clause-ends c =
    let same = ap (λ (h : Holdings). h.entries) c.self.view_is in
    let is : c.copied.result ≡ entry_of c.args.self.now c.args.key =
    c.copied.ensures ∙ c.get.ensures.value ∙ look_up_is c.self.inside.records.entries c.args.self.now c.args.key same in
    ends_held c.copied.result c.args.self.now c.args.key (subst (All EndsIfList) same c.self.invariant.0.ends) is
