use Rattle.std.proofs.Common.{sym, ◌∙◌, arith}
use Rattle.dg_catalogue.specs.Held.{ends_of}
use Rattle.dg_heard.proofs.HeardLists.{before_or_from, lies_behind}
use Rattle.dg_heard.proofs.lists.next_between.Goals as goal

pub returns-then-is_between : goal.returns-then-is_between
returns-then-is_between c =
    let first = c.first_open-first in
    record {
      reached = first.ensures.within;
      between = λ less. sym c.is_between.ensures ∙ c.if-is_between.true;
      before = λ k low high. lies_behind c.args.t (ends_of c.args.lists.now k) (first.ensures.ended k low high);
    }

pub returns-else-is_between : goal.returns-else-is_between
returns-else-is_between c =
    let first = c.first_open-first in
    record {
      reached = (c.requires.ordered, omega arith);
      between = λ less. absurd (omega arith);
      before = λ k low high.
          before_or_from c.args.lists.now c.requires.rise c.args.t first.result k
          (λ less. first.ensures.ended k low less)
          (λ from. first.ensures.rest first.result (omega arith) (omega (arith, from, high)))
          (sym c.is_between.ensures ∙ c.if-is_between.false);
    }
