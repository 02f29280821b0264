use Rattle.std.proofs.Common.{◌≡◌, ℕ, ◌+◌, ◌&&◌, ◌++◌, [], ◌∷◌, not, List, Option, true, sym, ap, ◌∙◌, subst, take, get_or}
use Rattle.std.proofs.lemmas.List.{take_more, take_all}
use Rattle.dg_cells.specs.Rows.{Row, pair, Writes, is_current, SetsPair}
use Rattle.dg_pool.specs.Graphs.{Pins, slot_at, is_on_now}
use Rattle.dg_pool.proofs.CurrentGraph.{PinsListed, pins_one, pins_none, pins_all, writes_join, writes_weaker, one_row}
use Rattle.dg_pool.proofs.current.pin.Goals as goal
use Rattle.dg_pool.proofs.current.pin.Goals.{then-needs_pin, else-needs_pin}

pub loop-slot-preserved : goal.loop-slot-preserved
loop-slot-preserved c =
    let slots = c.args.slots.now in
    let numbers = c.args.on_now.now in
    let i = c.loop-slot.slot-index in
    let k : ℕ = get_or numbers i 0 in
    let n = c.args.n in
    let row = c.args.row.now in
    let old = c.args.cells.now in
    let mid = c.loop-slot.cells in
    let f = c.loop-slot.invariant in
    let is_row = one_row old n f.before row f.was c.requires.there in
    let next : take (i + 1) numbers ≡ take i numbers ++ k ∷ [] = take_more numbers i 0 c.loop-slot-test.true in
    let needed : (is_on_now (slot_at slots k) && not (pair k f.before).0) ≡ c.needs_pin.result = ap (λ (r : Row). is_on_now (slot_at slots k) && not (pair k r).0) is_row ∙ sym c.needs_pin.ensures in
    let now = PinsListed slots (take (i + 1) numbers) in
    elim c.if-needs_pin.branch [
      | then-needs_pin w ↦
          subst (λ (l : List (Option Row)). Writes old l n now) (sym w.cells-is)
          (writes_join old mid w.set_pair.new.self n (PinsListed slots (take i numbers)) (SetsPair k (true, c.is_current-was.result)) now f w.set_pair.ensures
          (λ h. pins_one slots (take i numbers) (take (i + 1) numbers) k next c.is_current-was.result f.before f.after w.set_pair.ensures.after (needed ∙ w.if-needs_pin.true) (ap is_current is_row ∙ sym c.is_current-was.ensures) f.how h))
      | else-needs_pin w ↦
          subst (λ (l : List (Option Row)). Writes old l n now) (sym w.cells-is)
          (writes_weaker old mid n (PinsListed slots (take i numbers)) now f
          (pins_none slots (take i numbers) (take (i + 1) numbers) k next f.before f.after (c.requires.listed.low i c.loop-slot-test.true) (needed ∙ w.if-needs_pin.false) f.how))
    ]

pub returns : goal.returns
returns c =
    let slots = c.args.slots.now in
    let numbers = c.args.on_now.now in
    let f = c.loop-slot.invariant in
    let i = c.loop-slot.slot-index in
    let whole : take i numbers ≡ numbers = take_all i numbers c.loop-slot-test.false in
    writes_weaker c.args.cells.now c.loop-slot.cells c.args.n (PinsListed slots (take i numbers)) (Pins slots) f
    (pins_all slots numbers c.requires.listed f.before f.after (subst (λ (l : List ℕ). PinsListed slots l f.before f.after) whole f.how))
