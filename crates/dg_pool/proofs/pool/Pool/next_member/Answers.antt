use Rattle.std.proofs.Common.{◌≡◌, ◌∷◌, [], None, IfSome, IfNone, subst}
use Rattle.dg_pool.specs.Graphs.{PoolState}
use Rattle.dg_pool.specs.Listing.{members_from}
use Rattle.dg_pool.proofs.ListingSets.{next_some, next_none}
use Rattle.dg_pool.proofs.pool.Pool.next_member.Goals as goal

pub returns-clause-some : goal.returns-clause-some
returns-clause-some c =
    let p : PoolState = record { rows = c.self.inside.cells; slots = c.self.inside.slots; sweep_index = c.self.inside.sweep_index } in
    let f = c.order_facts.ensures in
    let s = c.args.slot.0 in
    subst (λ (q : PoolState). IfSome c.next_member.result (λ m. members_from q s c.args.from ≡ m.0 ∷ members_from q s m.1)) c.self.view_is
    (next_some p c.facts.ensures f.rises f.all f.only s c.args.from c.next_member.result c.next_member.ensures.some)

pub returns-clause-none : goal.returns-clause-none
returns-clause-none c =
    let p : PoolState = record { rows = c.self.inside.cells; slots = c.self.inside.slots; sweep_index = c.self.inside.sweep_index } in
    let f = c.order_facts.ensures in
    let s = c.args.slot.0 in
    subst (λ (q : PoolState). IfNone c.next_member.result (members_from q s c.args.from ≡ [])) c.self.view_is
    (next_none p c.facts.ensures f.rises f.all f.only s c.args.from None c.next_member.result c.next_member.ensures.none)
