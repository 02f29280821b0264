use Rattle.std.proofs.Common.{arith, ◌≡◌, ◌+◌, ◌++◌, length, map, refl, sym, ap, ◌∙◌}
use Rattle.std.proofs.Math.ListN.{length-map}
use Rattle.dg_handles.specs.Handles.{HandlesState, numbered}
use Rattle.dg_handles.proofs.HandleAdditions.{entry_of, rise_more}
use Rattle.dg_pool.specs.Changes.{numbers_of}
use Rattle.dg_handles.proofs.handles.Handles.enter.Goals as goal

pub returns-clause-table : goal.returns-clause-table
returns-clause-table c = c.enter.ensures.table ∙ ap (λ (s : HandlesState). s.table ++ numbered s.next c.args.stands.now) c.self.view_is

pub returns-clause-slots : goal.returns-clause-slots
returns-clause-slots c = c.enter.ensures.slots ∙ ap (λ (s : HandlesState). s.slots ++ numbers_of c.args.slots.now) c.self.view_is

pub invariant_of-self : goal.invariant_of-self
invariant_of-self c =
    let entries = c.self.inside.entries in
    let new = c.args.stands.now in
    let many : length c.args.self.now.table ≡ length entries.items = ap (λ (s : HandlesState). length s.table) (sym c.self.view_is) ∙ length-map entries.items entry_of in
    let last : c.self.inside.next ≡ c.args.self.now.next = ap (λ (s : HandlesState). s.next) c.self.view_is in (
      omega (arith, c.enter.ensures.len, c.requires.room, many, entries.ok.0),
      omega (arith, c.enter.ensures.capacity, c.self.invariant.1),
      omega (arith, c.requires.numbers, last),
      rise_more entries.items c.enter.new.entries.items c.self.inside.next (c.self.inside.next + length new) new c.self.invariant.3 c.enter.ensures.table refl,
    )
