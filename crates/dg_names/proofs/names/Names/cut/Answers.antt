use Rattle.std.proofs.Common.{List, ℕ, subst}
use Rattle.dg_names.specs.NameLimits.{AreFew, AreShort}
use Rattle.dg_names.proofs.NameLimitNumbers.{names_cut, fits_cut}
use Rattle.dg_names.proofs.names.Names.cut.Goals as goal

pub invariant_of-self : goal.invariant_of-self
invariant_of-self c =
    let cut = names_cut (λ k. k.items) c.self.inside.texts.keys _ c.args.len _ c.self.view_is c.truncate.ensures.keys in
    let fits = subst (λ (l : List (List ℕ)). AreFew l × AreShort l) c.self.view_is c.self.invariant in
    fits_cut c.args.self.now _ c.args.len cut fits

pub returns : goal.returns
returns c = names_cut (λ k. k.items) c.self.inside.texts.keys _ c.args.len _ c.self.view_is c.truncate.ensures.keys
