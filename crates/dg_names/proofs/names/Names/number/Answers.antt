use Rattle.std.proofs.Common.{◌≡◌, None, Some, sym, subst, ◌∙◌}
use Rattle.std.specs.Option.{IfNone}
use Rattle.std.specs.List.{Contains}
use Rattle.dg_text.specs.Names.{number_of}
use Rattle.dg_names.proofs.NameLimitNumbers.{number-map, number_stands, no_number}
use Rattle.dg_names.proofs.names.Names.number.Goals as goal

none : (c : goal.After-from_residual) → number_of c.args.self.now c.args.text.now ≡ None
none c = sym (c.in_err-number.ensures.index ∙ number-map (λ k. k.items) c.self.inside.texts.keys c.args.text.now _ c.self.view_is)

pub returns-in_err-number-clause-number : goal.returns-in_err-number-clause-number
returns-in_err-number-clause-number c = c.from_residual.ensures ∙ sym (none c)

pub returns-in_err-number-clause-lacks : goal.returns-in_err-number-clause-lacks
returns-in_err-number-clause-lacks c =
    subst (λ r. IfNone r (¬ Contains c.args.self.now c.args.text.now)) (sym c.from_residual.ensures)
    (no_number c.args.self.now c.args.text.now (none c))

some : (c : goal.In_ok-number) → Some c.in_ok-number.number ≡ number_of c.args.self.now c.args.text.now
some c = c.in_ok-number.ensures.index ∙ number-map (λ k. k.items) c.self.inside.texts.keys c.args.text.now _ c.self.view_is

pub returns-clause-number : goal.returns-clause-number
returns-clause-number c = some c

pub returns-clause-found : goal.returns-clause-found
returns-clause-found c = number_stands c.args.self.now c.args.text.now c.in_ok-number.number (sym (some c))
