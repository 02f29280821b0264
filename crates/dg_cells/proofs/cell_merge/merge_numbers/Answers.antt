use Rattle.std.proofs.Common.{◌≡◌, Some, ℕ, ◌+◌, List, [], ◌∷◌, ◌++◌, Option, drop, take, get_or, sym, ap, ◌∙◌, subst, arith, Vec, Global}
use Rattle.std.proofs.lemmas.List.{take_rest, drop_all}
use Rattle.dg_graph.specs.declared.element.Element.{Element}
use Rattle.dg_graph.specs.declared.element.Element.TheVariants as kind
use Rattle.dg_graph.specs.Sets.{unioned}
use Rattle.dg_arena.specs.Cells.{CellMap}
use Rattle.dg_cells.specs.Rows.{Row, cell_at, AreAmong}
use Rattle.dg_cells.specs.Order.{cell_element, elements_in, AreNoted, IsLower, IsListed}
use Rattle.dg_cells.proofs.Orders.{lower_between}
use Rattle.dg_cells.proofs.OrderEdits.{elements_as}
use Rattle.dg_cells.proofs.RowGrowth.{among_more, has_whole, reuses_as, reuses_then}
use Rattle.dg_cells.proofs.OrderMerges.{order_grown, keeps_grown, puts_grows, puts_fresh, noted_more, listed_all}
use Rattle.dg_cells.proofs.OrderWalks.{Passed, walked_as, walked_there, walked_absent, passed_there, passed_low}
use Rattle.dg_cells.proofs.RowNumbers.{numbered_as, numbered_more, numbered_all, grows_itself, holds_by}
use Rattle.dg_cells.proofs.cell_merge.merge_numbers.Goals as goal
use Rattle.dg_cells.proofs.cell_merge.merge_numbers.Goals.{After-seek_on-at, In_ok-number, then-there+in_ok-push, else-there+in_ok-extend_from_slice+in_ok-number+in_ok-push-2+in_ok-push-3}

position : (c : After-seek_on-at) → IsLower (get_or c.args.items.now c.loop-x.x-index (kind.Node 0)) (elements_in c.args.rows.now.items c.args.order.now) c.seek_on-at.result.0
position c =
    let old = c.args.rows.now.items in
    let mid = c.loop-x.rows.items in
    let order = c.args.order.now in
    let y = get_or c.args.items.now c.loop-x.x-index (kind.Node 0) in
    let at = c.seek_on-at.result.0 in
    subst (λ (l : List Element). IsLower y l at) (elements_as old mid (keeps_grown old mid c.loop-x.invariant.walked.grows) order c.requires.listed.in_order.live)
    (lower_between mid order y at (order_grown old mid order c.loop-x.invariant.walked.grows c.requires.listed.in_order) c.seek_on-at.ensures.within
    c.seek_on-at.ensures.low
    c.seek_on-at.ensures.high)

-- what came is among all items
whole : (old new : List (Option Row)) (items : List Element) (j : ℕ) → AreAmong old new (take j items) → AreAmong old new items
whole old new items j among n r e f = has_whole items j r.element (among n r e f)

pub returns-in_err-extend_from_slice-clause-among : goal.returns-in_err-extend_from_slice-clause-among
returns-in_err-extend_from_slice-clause-among c = whole c.args.rows.now.items c.loop-x.rows.items c.args.items.now c.loop-x.x-index c.loop-x.invariant.walked.among

pub returns-in_err-number-clause-among : goal.returns-in_err-number-clause-among
returns-in_err-number-clause-among c =
    subst (λ (l : List (Option Row)). AreAmong c.args.rows.now.items l c.args.items.now) (sym c.in_err-number.ensures.err_rows)
    (whole c.args.rows.now.items c.loop-x.rows.items c.args.items.now c.loop-x.x-index c.loop-x.invariant.walked.among)

pub returns-in_err-push-clause-among : goal.returns-in_err-push-clause-among
returns-in_err-push-clause-among c = whole c.args.rows.now.items c.loop-x.rows.items c.args.items.now c.loop-x.x-index c.loop-x.invariant.walked.among

-- with a new cell for the item
came : (c : In_ok-number) → AreAmong c.args.rows.now.items c.cell_for.new.rows.items c.args.items.now
came c =
    let puts = c.in_ok-number.ensures.puts in
    let mid = c.loop-x.rows.items in
    let new = c.cell_for.new.rows.items in
    whole c.args.rows.now.items new c.args.items.now (c.loop-x.x-index + 1)
    (among_more c.args.rows.now.items mid new c.args.items.now c.loop-x.x-index (kind.Node 0) c.loop-x-test.true (puts_grows mid new c.in_ok-number.number puts.0 puts.3 puts.2) c.loop-x.invariant.walked.among
    (λ m q e f. puts_fresh mid new c.in_ok-number.number puts.0 puts.3 m q e f ∙ puts.1))

noted : (c : In_ok-number) → AreNoted c.args.rows.now.items c.cell_for.new.rows.items c.cell_for.new.taken.items
noted c =
    let puts = c.in_ok-number.ensures.puts in
    noted_more c.args.rows.now.items c.loop-x.rows.items c.cell_for.new.rows.items c.loop-x.taken.items c.cell_for.new.taken.items c.in_ok-number.number puts.0 c.loop-x.invariant.walked.grows c.loop-x.invariant.walked.noted puts.3 c.in_ok-number.ensures.noted

pub returns-in_err-push-2-clause-among : goal.returns-in_err-push-2-clause-among
returns-in_err-push-2-clause-among c = came (goal.at.returns-in_err-push-2-clause-among c).In_ok-number

pub returns-in_err-push-2-clause-noted : goal.returns-in_err-push-2-clause-noted
returns-in_err-push-2-clause-noted c = noted (goal.at.returns-in_err-push-2-clause-noted c).In_ok-number

pub returns-in_err-push-3-clause-among : goal.returns-in_err-push-3-clause-among
returns-in_err-push-3-clause-among c = came (goal.at.returns-in_err-push-3-clause-among c).In_ok-number

pub returns-in_err-push-3-clause-noted : goal.returns-in_err-push-3-clause-noted
returns-in_err-push-3-clause-noted c = noted (goal.at.returns-in_err-push-3-clause-noted c).In_ok-number

pub returns-in_err-extend_from_slice-2-clause-among : goal.returns-in_err-extend_from_slice-2-clause-among
returns-in_err-extend_from_slice-2-clause-among c = whole c.args.rows.now.items c.loop-x.rows.items c.args.items.now c.loop-x.x-index c.loop-x.invariant.walked.among

pub returns-clause-among : goal.returns-clause-among
returns-clause-among c = whole c.args.rows.now.items c.loop-x.rows.items c.args.items.now c.loop-x.x-index c.loop-x.invariant.walked.among

pub seek_on-at-requires-clause-low : goal.seek_on-at-requires-clause-low
seek_on-at-requires-clause-low c = λ h.
    let inv = c.loop-x.invariant in
    passed_low c.args.rows.now.items c.loop-x.rows.items c.args.order.now c.args.items.now c.loop-x.x-index c.loop-x.near (kind.Node 0) c.requires.listed.in_order.live inv.walked.grows c.loop-x-test.true inv.passed h

pub loop-x-preserved : goal.loop-x-preserved
loop-x-preserved c =
    let old = c.args.rows.now.items in
    let mid = c.loop-x.rows.items in
    let order = c.args.order.now in
    let items = c.args.items.now in
    let j = c.loop-x.x-index in
    let at = c.seek_on-at.result.0 in
    let out = c.loop-x.out.items in
    let taken = c.loop-x.taken.items in
    let numbers = c.loop-x.numbers.items in
    let i = c.loop-x.i in
    let inv = c.loop-x.invariant in
    let y : Element = get_or items j (kind.Node 0) in
    let here = position (goal.at.loop-x-preserved c).After-seek_on-at in
    let low = inv.on in
    let on = c.seek_on-at.ensures.on in
    elim c.if-there.branch [
      | then-there+in_ok-push w ↦
          let inside = c.seek_on-at.ensures.inside w.if-there.true in
          let is : cell_element (cell_at mid (get_or order at 0)) ≡ Some y = c.seek_on-at.ensures.is w.if-there.true in
          let first = w.i-is in
          let last = w.near-is in
          record {
            walked = walked_as old order items (j + 1) mid c.if-there.rows.items out c.if-there.out.items taken c.if-there.taken.items i c.if-there.i
                (ap (λ (m : CellMap Element). m.items) w.rows-is)
                (ap (λ (v : Vec ℕ Global). v.items) w.out-is)
                (ap (λ (v : Vec ℕ Global). v.items) w.taken-is)
                w.i-is
                (walked_there old mid order out taken items i j at (kind.Node 0) c.requires.listed c.requires.items c.loop-x-test.true inv.walked here inside is);
            passed = subst (Passed old order items (j + 1)) (sym w.near-is) (passed_there old mid order out taken items i j at (kind.Node 0) c.requires.listed c.requires.items c.loop-x-test.true inv.walked here inside is);
            on = omega arith;
            reuses = reuses_as old mid c.if-there.rows.items (ap (λ (m : CellMap Element). m.items) w.rows-is) inv.reuses;
            numbered = numbered_as mid c.if-there.rows.items items (j + 1) w.push.new.self.items c.if-there.numbers.items
                (ap (λ (m : CellMap Element). m.items) w.rows-is)
                (ap (λ (v : Vec ℕ Global). v.items) w.numbers-is)
                (numbered_more mid mid items j numbers w.push.new.self.items (get_or order at 0) (kind.Node 0) c.loop-x-test.true (grows_itself mid) (holds_by mid y (get_or order at 0) is) w.in_ok-push.ensures.items inv.numbered);
          }
      | else-there+in_ok-extend_from_slice+in_ok-number+in_ok-push-2+in_ok-push-3 w ↦
          let puts = w.in_ok-number.ensures.puts in
          let n = w.in_ok-number.number in
          let new = w.cell_for.new.rows.items in
          let first = w.i-is in
          let last = w.near-is in
          let walked = walked_absent old mid order out taken items i j at (kind.Node 0) c.requires.listed c.requires.items c.loop-x-test.true inv.walked here new w.push-else-there.new.self.items w.cell_for.new.taken.items n puts.0 puts.1 puts.3 puts.2
          (λ h e. c.seek_on-at.ensures.is_not w.if-there.false h (e))
          (w.in_ok-push-2.ensures.items ∙ ap (λ (l : List ℕ). l ++ n ∷ []) w.in_ok-extend_from_slice.ensures.items)
          w.in_ok-number.ensures.noted in
          record {
            walked = walked_as old order items (j + 1) new c.if-there.rows.items w.push-else-there.new.self.items c.if-there.out.items w.cell_for.new.taken.items c.if-there.taken.items at c.if-there.i
                (ap (λ (m : CellMap Element). m.items) w.rows-is)
                (ap (λ (v : Vec ℕ Global). v.items) w.out-is)
                (ap (λ (v : Vec ℕ Global). v.items) w.taken-is)
                w.i-is walked;
            passed = subst (Passed old order items (j + 1)) (sym w.near-is) (record { within = walked.within; past = walked.past });
            on = omega arith;
            reuses = reuses_as old new c.if-there.rows.items (ap (λ (m : CellMap Element). m.items) w.rows-is) (reuses_then old mid new (puts_grows mid new n puts.0 puts.3 puts.2) inv.reuses w.cell_for.ensures.reuses);
            numbered = numbered_as new c.if-there.rows.items items (j + 1) w.push-else-there-2.new.self.items c.if-there.numbers.items
                (ap (λ (m : CellMap Element). m.items) w.rows-is)
                (ap (λ (v : Vec ℕ Global). v.items) w.numbers-is)
                (numbered_more mid new items j numbers w.push-else-there-2.new.self.items n (kind.Node 0) c.loop-x-test.true (puts_grows mid new n puts.0 puts.3 puts.2) (record { row = puts.0; there = puts.3.put; element = puts.1 }) w.in_ok-push-3.ensures.items inv.numbered);
          }
    ]

pub returns-clause-listed : goal.returns-clause-listed
returns-clause-listed c =
    let inv = c.loop-x.invariant.walked in
    let order = c.args.order.now in
    let out = c.loop-x.out.items in
    let none = drop_all c.loop-x.x-index c.args.items.now c.loop-x-test.false in
    let among = whole c.args.rows.now.items c.loop-x.rows.items c.args.items.now c.loop-x.x-index inv.among in
    subst (IsListed c.loop-x.rows.items) (sym (c.in_ok-extend_from_slice-2.ensures.items ∙ ap (λ (l : List ℕ). out ++ l) (take_rest order c.loop-x.i)))
    (listed_all c.args.rows.now.items c.loop-x.rows.items order out c.args.items.now c.loop-x.i c.requires.listed c.requires.items inv.grows inv.apart among inv.live
    (ap (λ (l : List Element). elements_in c.loop-x.rows.items out ++ unioned (drop c.loop-x.i (elements_in c.args.rows.now.items order)) l) (sym none) ∙ inv.merged))

pub returns-clause-numbers : goal.returns-clause-numbers
returns-clause-numbers c = numbered_all c.loop-x.rows.items c.args.items.now c.loop-x.x-index c.loop-x.numbers.items c.loop-x-test.false c.loop-x.invariant.numbered
