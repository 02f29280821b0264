use Rattle.std.proofs.Common.{◌++◌, ◌∙◌, List, ℕ, length, drop, replicate, sym, ap, arith}
use Rattle.dg_text.specs.declared.limits.TheConstants.{KEY_BYTES_MAX}
use Rattle.dg_line.specs.Tails.{IsKeyText}
use Rattle.dg_line.proofs.TailTexts.{key_made, key_parts}
use Rattle.dg_line.proofs.tails.key.Goals as goal

pub returns-clause-key : goal.returns-clause-key
returns-clause-key c =
    let is : IsKeyText c.args.text.now = sym c.is_key.ensures ∙ c.if-not-is_key.false in
    let few = (key_parts c.args.text.now is).few in
    key_made c.args.text.now _ _ is (ap (λ (l : List ℕ). l ++ drop (length c.args.text.now) (replicate KEY_BYTES_MAX 0)) c.copy_from_slice.ensures.after) (omega arith)
