use Rattle.std.proofs.Common.{◌*◌, ◌+◌, cond, ap, ◌∙◌, arith}
use Rattle.std.proofs.lemmas.Bool.{ne_eqb}
use Rattle.dg_cells.specs.Rows.{has_bit}
use Rattle.dg_cells.proofs.row.set_current.Goals as goal

pub returns : goal.returns
returns c =
    let was = c.args.row.now in
    let on = c.args.on in
    let bits = c.set_bit.ensures.bits in
    record {
      element = c.set_bit.ensures.element;
      current = bits 0;
      pairs = λ u h.
          let first = bits (2 * u) ∙ ap (λ t. cond t on (has_bit was (2 * u))) (ne_eqb (2 * u) 0 (λ e. omega arith)) in
          let second = bits (2 * u + 1) ∙ ap (λ t. cond t on (has_bit was (2 * u + 1))) (ne_eqb (2 * u + 1) 0 (λ e. omega arith)) in
          λ i. (first i, second i);
    }
