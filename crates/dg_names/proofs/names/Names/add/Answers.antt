use Rattle.std.proofs.Common.{◌≡◌, List, [], ◌∷◌, ◌++◌, ℕ, Some, None, map, slice_get, subst, sym, ◌∙◌}
use Rattle.dg_text.specs.Names.{number_of}
use Rattle.dg_names.specs.NameLimits.{AreFew, AreShort}
use Rattle.dg_names.proofs.NameLimitNumbers.{grown, grown_index, fits_grown, added_last, key_stands, stays, distinct-map, number_here}
use Rattle.dg_names.proofs.names.Names.add.Goals as goal

none : (c : goal.In_ok-number) → number_of c.args.self.now c.args.text.now ≡ None
none c = sym c.in_default.ensures.number

after : (c : goal.In_ok-number) → map (λ k. k.items) c.insert_full.new.self.keys ≡ c.args.self.now ++ c.args.text.now ∷ []
after c = grown (λ k. k.items) c.self.inside.texts.keys _ c.in_ok-copy.copy c.args.text.now c.args.self.now c.self.view_is c.in_ok-copy.ensures.items (none c) c.in_ok-number.ensures.keys

pub invariant_of-self-2 : goal.invariant_of-self-2
invariant_of-self-2 c =
    let fits = subst (λ (l : List (List ℕ)). AreFew l × AreShort l) c.self.view_is c.self.invariant in
    fits_grown c.args.self.now _ c.args.text.now (after c) fits c.requires.room c.requires.short

pub returns-clause-added : goal.returns-clause-added
returns-clause-added c = after c ∙ sym (added_last c.args.self.now c.args.text.now (none c))

found : (c : goal.In_ok-number) → slice_get (map (λ k. k.items) c.insert_full.new.self.keys) c.in_ok-number.number ≡ Some c.args.text.now
found c =
    let s = c.in_ok-number.ensures.stored in
    key_stands (λ k. k.items) c.insert_full.new.self.keys s.0 c.in_ok-copy.copy c.in_ok-number.number c.args.text.now s.1 c.in_ok-copy.ensures.items s.2

pub returns-clause-found : goal.returns-clause-found
returns-clause-found c = found c

pub returns-clause-number : goal.returns-clause-number
returns-clause-number c = number_here _ (distinct-map (λ k. k.items) _ c.in_ok-number.ensures.unique) c.in_ok-number.number c.args.text.now (found c)

pub returns-clause-fresh : goal.returns-clause-fresh
returns-clause-fresh c = λ _. c.in_ok-number.ensures.index ∙ grown_index (λ k. k.items) c.self.inside.texts.keys c.in_ok-copy.copy c.args.text.now c.args.self.now c.self.view_is c.in_ok-copy.ensures.items (none c)

pub returns-clause-kept : goal.returns-clause-kept
returns-clause-kept c = stays c.args.self.now _ c.args.text.now (after c)
