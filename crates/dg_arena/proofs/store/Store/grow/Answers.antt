use Rattle.std.proofs.Common.{arith, ◌*◌, ◌++◌, length, replicate, ap, sym, ◌∙◌, subst, length-append}
use Rattle.std.specs.Prelude.{Option, None}
use Rattle.std.specs.List.{All}
use Rattle.std.proofs.lemmas.List.{length-replicate}
use Rattle.dg_arena.specs.Store.{joined}
use Rattle.dg_arena.proofs.Chunks.{IsFull, joined_more, full_more}
use Rattle.dg_arena.proofs.store.Store.grow.Goals as goal

pub invariant_of-self-2 : goal.invariant_of-self-2
invariant_of-self-2 g c =
    let chunks = c.self.inside.chunks.items in
    let count = c.args.count in
    let is = c.in_ok-append.ensures.items ∙ ap (λ l. chunks ++ l) c.in_ok-more.ensures in
    let joins = ap joined is ∙ joined_more chunks count None in
    let more = length-replicate {A = Option g.row.T.Denot} (count * 1024) None in
    let both = length-append (joined chunks) (replicate {A = Option g.row.T.Denot} (count * 1024) None) in (
      subst (All IsFull) (sym is) (full_more chunks count None c.self.invariant.0),
      omega (arith, c.self.invariant.1, ap length joins, more, both),
    )

pub returns-clause-ok : goal.returns-clause-ok
returns-clause-ok g c =
    let chunks = c.self.inside.chunks.items in
    ap joined (c.in_ok-append.ensures.items ∙ ap (λ l. chunks ++ l) c.in_ok-more.ensures) ∙ joined_more chunks c.args.count None ∙ ap (λ l. l ++ replicate (c.args.count * 1024) None) c.self.view_is
