use Rattle.std.proofs.Common.{◌≡◌, ◌+◌, ◌-◌, ◌++◌, take, drop, sym, ap, ◌∙◌, arith}
use Rattle.dg_set.proofs.SetReplacements.{few_and_more}
use Rattle.dg_set.proofs.SetThinnings.{moved_rest}
use Rattle.dg_set.proofs.replace.move_down.Goals as goal

pub returns-then-place-from-clause-back : goal.returns-then-place-from-clause-back
returns-then-place-from-clause-back c =
    ap (drop c.args.to) c.copy_within.ensures.after
    ∙ moved_rest c.args.cells.now c.args.place c.args.from c.args.to c.requires.down c.requires.order c.requires.within

pub returns-else-place-from-clause-front : goal.returns-else-place-from-clause-front
returns-else-place-from-clause-front c =
    let cells = c.args.cells.now in
    let place = c.args.place in
    let from = c.args.from in
    let to = c.args.to in
    let at : place ≡ from = omega arith in
    let end : place + (to - from) ≡ to = omega arith in
    ap (λ n. take n cells) end
    ∙ sym (few_and_more cells from to c.requires.order)
    ∙ ap (λ n. take n cells ++ take (to - from) (drop from cells)) (sym at)
