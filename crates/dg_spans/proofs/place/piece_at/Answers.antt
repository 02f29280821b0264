use Rattle.std.proofs.Common.{arith}
use Rattle.dg_spans.proofs.Places.{own_piece_held, placed_within}
use Rattle.dg_spans.proofs.place.piece_at.Goals as goal

pub overflow_add-result : goal.overflow_add-result
overflow_add-result c =
    omega (arith, placed_within c.args.index.now.opening c.args.place c.requires.placed, c.facts.ensures.events)

pub returns-clause-readable : goal.returns-clause-readable
returns-clause-readable c =
    let o = c.args.index.now.opening in
    record {
      held = own_piece_held o c.args.place c.requires.placed c.facts.ensures.kept;
      few = omega (arith, placed_within o c.args.place c.requires.placed, c.facts.ensures.events);
    }
