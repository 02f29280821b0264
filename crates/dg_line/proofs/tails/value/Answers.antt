use Rattle.std.proofs.Common.{◌++◌, List, ℕ, length, drop, replicate, ap, arith}
use Rattle.dg_text.specs.declared.limits.TheConstants.{NAME_BYTES_MAX}
use Rattle.dg_line.proofs.TailTexts.{value_made}
use Rattle.dg_line.proofs.tails.value.Goals as goal

pub returns : goal.returns
returns c =
    let few = c.requires in
    value_made c.args.text.now _ _ (ap (λ (l : List ℕ). l ++ drop (length c.args.text.now) (replicate NAME_BYTES_MAX 0)) c.copy_from_slice.ensures.after) (omega arith)
