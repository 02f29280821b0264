use Rattle.std.proofs.Common.{◌≡◌, List, ℕ, map, not, subst, ap, ◌∙◌}
use Rattle.dg_text.specs.Names.{added}
use Rattle.dg_names.specs.NameLimits.{AreFew, AreShort}
use Rattle.dg_names.proofs.NameLimitNumbers.{has_key, with_key, fits_added}
use Rattle.dg_names.proofs.names.Names.insert.Goals as goal

after : (c : goal.In_ok-is_new) → map (λ k. k.items) c.insert_full.new.self.keys ≡ added c.args.self.now c.args.text.now
after c = with_key (λ k. k.items) c.self.inside.texts.keys _ c.in_ok-copy.copy c.args.text.now c.args.self.now c.self.view_is c.in_ok-copy.ensures.items c.in_ok-is_new.ensures.keys

pub invariant_of-self-2 : goal.invariant_of-self-2
invariant_of-self-2 c =
    let fits = subst (λ (l : List (List ℕ)). AreFew l × AreShort l) c.self.view_is c.self.invariant in
    fits_added c.args.self.now _ c.args.text.now (after c) fits c.requires.room c.requires.short

pub returns-clause-added : goal.returns-clause-added
returns-clause-added c = after c

pub returns-clause-new : goal.returns-clause-new
returns-clause-new c = c.in_ok-is_new.ensures.added ∙ ap not (has_key (λ k. k.items) c.self.inside.texts.keys c.in_ok-copy.copy c.args.text.now c.args.self.now c.self.view_is c.in_ok-copy.ensures.items)
