use Rattle.std.proofs.Common.{List, ℕ, ◌≤◌, length, subst, sym}
use Rattle.dg_text.specs.declared.limits.TheConstants.{NAME_BYTES_MAX}
use Rattle.dg_names.proofs.NameLimitNumbers.{short_key}
use Rattle.dg_names.proofs.names.Names.text.Goals as goal

pub returns-clause-short : goal.returns-clause-short
returns-clause-short c =
    subst (λ (t : List ℕ). length t ≤ NAME_BYTES_MAX) (sym c.as_slice.ensures.value)
    (short_key (λ k. k.items) c.self.inside.texts.keys c.in_ok-text.text.now c.args.number c.in_ok-text.ensures.key c.self.invariant.1)
