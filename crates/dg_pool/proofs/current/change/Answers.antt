use Rattle.std.proofs.Common.{◌≡◌, ◌+◌, ◌≤◌, ℕ, Bool, true, false, not, cond, length, List, Option, Some, IfSome, IfNone, sym, ap, ◌∙◌, subst, arith}
use Rattle.dg_graph.specs.declared.element.Element.{Element}
use Rattle.dg_graph.specs.Elements.{IsSet, has, put}
use Rattle.dg_cells.specs.Rows.{Row, cell_at, Writes, Holds, Lacks, is_current, SetsCurrent}
use Rattle.dg_pool.specs.Graphs.{Pins, picked, changed}
use Rattle.dg_query.specs.Queries.{counts_of}
use Rattle.dg_pool.specs.Counts.{kind_count, one_more, one_less}
use Rattle.dg_pool.proofs.GraphSets.{picked_set, picked_decides}
use Rattle.dg_pool.proofs.GraphCounts.{counts-put, counts-take_out, kind-one_more, kind-most, kind-least, picked_most}
use Rattle.dg_pool.proofs.CurrentGraph.{Changes, changes_join, changes_keep, changes_now, writes_join, unchanged, not_there, keeps_itself, one_row, differs_from, same_as, apart_written}
use Rattle.dg_pool.proofs.current.change.Goals as goal
use Rattle.dg_pool.proofs.current.change.Goals.{After-set_current}

pub returns-in_default : goal.returns-in_default
returns-in_default c = record {
  now = not_there c.args.cells.now c.args.element.now c.args.on (subst (λ (o : Option ℕ). IfNone o (Lacks c.args.cells.now c.args.element.now)) c.in_default.is c.requires.lacks) c.requires.there;
  counted = c.requires.known.counted;
  kept = keeps_itself c.args.slots.now c.args.cells.now;
}

pub returns-then-is_current-on : goal.returns-then-is_current-on
returns-then-is_current-on c =
    let old = c.args.cells.now in
    let n = c.in-Some.n in
    let row = c.in-Some-row.row in
    let there : cell_at old n ≡ Some row = sym c.row.ensures ∙ c.in-Some-row.is in
    let h : Holds old c.args.element.now n = subst (λ (o : Option ℕ). IfSome o (Holds old c.args.element.now)) c.in-Some.is c.requires.found in
    let is_x : row.element ≡ c.args.element.now = ap (λ (r : Row). r.element) (one_row old n row h.row there h.there) ∙ h.element in
    record {
      now = unchanged old c.args.element.now n row c.args.on c.facts.ensures there is_x (sym c.is_current.ensures ∙ same_as c.is_current.result c.args.on c.if-is_current-on.true);
      counted = c.requires.known.counted;
      kept = keeps_itself c.args.slots.now old;
    }

-- ---- the change

writes : (c : After-set_current) → Writes c.args.cells.now c.set_current.new.self c.in-Some.n (Changes c.args.slots.now c.args.on)
writes c =
    let slots = c.args.slots.now in
    let on = c.args.on in
    let f = c.pin.ensures in
    let g = c.set_current.ensures in
    writes_join c.args.cells.now c.pin.new.cells c.set_current.new.self c.in-Some.n (Pins slots) (SetsCurrent on) (Changes slots on) f g
    (λ h. changes_join slots on f.before f.after g.after f.how h)

there : (c : After-set_current) → cell_at c.args.cells.now c.in-Some.n ≡ Some c.in-Some-row.row
there c = sym c.row.ensures ∙ c.in-Some-row.is

is_x : (c : After-set_current) → c.in-Some-row.row.element ≡ c.args.element.now
is_x c =
    let h : Holds c.args.cells.now c.args.element.now c.in-Some.n = subst (λ (o : Option ℕ). IfSome o (Holds c.args.cells.now c.args.element.now)) c.in-Some.is c.requires.found in
    ap (λ (r : Row). r.element) (one_row c.args.cells.now c.in-Some.n c.in-Some-row.row h.row (there c) h.there) ∙ h.element

was_not : (c : After-set_current) → is_current c.in-Some-row.row ≡ not c.args.on
was_not c = sym c.is_current.ensures ∙ differs_from c.is_current.result c.args.on c.if-is_current-on.false

now : (c : After-set_current) → picked is_current c.set_current.new.self ≡ changed c.args.on c.args.element.now (picked is_current c.args.cells.now)
now c =
    let slots = c.args.slots.now in
    let old = c.args.cells.now in
    let new = c.set_current.new.self in
    let on = c.args.on in
    let n = c.in-Some.n in
    let w = writes c in
    let is_row : w.before ≡ c.in-Some-row.row = one_row old n w.before c.in-Some-row.row w.was (there c) in
    changes_now slots c.requires.known.states on old new n w (ap is_current is_row ∙ was_not c) (apart_written old new n (Changes slots on) w w.how.element c.facts.ensures)
    ∙ ap (λ x. changed on x (picked is_current old)) (ap (λ (r : Row). r.element) is_row ∙ is_x c)

had : (c : After-set_current) → has (picked is_current c.args.cells.now) c.args.element.now ≡ not c.args.on
had c = picked_decides is_current c.args.cells.now c.args.element.now c.in-Some.n c.in-Some-row.row c.facts.ensures (there c) (is_x c) ∙ was_not c

pub with_change-requires-clause-more : goal.with_change-requires-clause-more
with_change-requires-clause-more c = λ on.
    let a = (goal.at.with_change-requires-clause-more c).After-set_current in
    let old = picked is_current c.args.cells.now in
    let x = c.args.element.now in
    let lacks : has old x ≡ false = had a ∙ ap not on in
    let new : picked is_current c.set_current.new.self ≡ put x old = now a ∙ ap (λ t. changed t x old) on in
    let count : kind_count (counts_of (put x old)) x ≡ kind_count c.args.counts x + 1 =
    ap (λ z. kind_count z x) (counts-put x old lacks) ∙ kind-one_more (counts_of old) x ∙ ap (λ z. kind_count z x + 1) (sym c.requires.known.counted) in
    let most = kind-most (put x old) x in
    let cells = picked_most is_current c.set_current.new.self in
    let len = ap length new in
    omega arith

pub with_change-requires-clause-less : goal.with_change-requires-clause-less
with_change-requires-clause-less c = λ off.
    let a = (goal.at.with_change-requires-clause-less c).After-set_current in
    let old = picked is_current c.args.cells.now in
    let x = c.args.element.now in
    let least = kind-least x old (picked_set is_current c.args.cells.now) (had a ∙ ap not off) in
    subst (λ z. 1 ≤ kind_count z x) (sym c.requires.known.counted) least

counted_by : (on : Bool) (x : Element) (old : List Element) → IsSet old → has old x ≡ not on → cond on (one_more (counts_of old) x) (one_less (counts_of old) x) ≡ counts_of (changed on x old)
counted_by true x old s e = sym (counts-put x old e)
counted_by false x old s e = sym (counts-take_out x old s e)

pub returns : goal.returns
returns c =
    let a = (goal.at.returns c).After-set_current in
    let old = picked is_current c.args.cells.now in
    let x = c.args.element.now in
    let on = c.args.on in
    record {
      now = now a;
      counted = c.with_change.ensures
          ∙ ap (λ z. cond on (one_more z x) (one_less z x)) c.requires.known.counted
          ∙ counted_by on x old (picked_set is_current c.args.cells.now) (had a)
          ∙ ap counts_of (sym (now a));
      kept = changes_keep c.args.slots.now c.requires.known.states on c.args.cells.now c.set_current.new.self c.in-Some.n (writes a);
    }
