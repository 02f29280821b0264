use Rattle.std.proofs.Common.{arith, ◌≡◌, ◌∷◌, Bool, Option, Some, cond, sym, ap, subst, ◌∙◌}
use Rattle.std.specs.Prelude.{IfSome}
use Rattle.std.proofs.lemmas.Option.{slice_get_within}
use Rattle.dg_graph.specs.declared.element.Element.{Element}
use Rattle.dg_cells.specs.Rows.{Row, cell_at}
use Rattle.dg_cells.specs.Cursors.{ordered, cursor_index}
use Rattle.dg_pool.specs.Sweeps.{in_state}
use Rattle.dg_pool.specs.Listing.{passing_from, up_to, is_behind}
use Rattle.dg_pool.proofs.ListingSets.{passing_step, passing_end, passing_behind, none_up_to, row_of}
use Rattle.dg_pool.proofs.members.next_member.Goals as goal
use Rattle.dg_pool.proofs.members.next_member.Goals.{In-Some-element}

-- what stands in the cell
row : (c : In-Some-element) → (r : Row) × (cell_at c.args.cells.now c.in-Some.n ≡ Some r) × (r.element ≡ c.in-Some-element.element.now)
row c = row_of (cell_at c.args.cells.now c.in-Some.n) c.in-Some-element.element.now c.in-Some-element.ensures.there

step : (c : In-Some-element) → passing_from (in_state c.args.slot c.args.state) c.args.cells.now c.loop-n.cursor ≡ cond (in_state c.args.slot c.args.state (row c).0) (c.in-Some-element.element.now ∷ passing_from (in_state c.args.slot c.args.state) c.args.cells.now c.in-Some.behind) (passing_from (in_state c.args.slot c.args.state) c.args.cells.now c.in-Some.behind)
step c =
    let rest = passing_from (in_state c.args.slot c.args.state) c.args.cells.now c.in-Some.behind in
    passing_step (in_state c.args.slot c.args.state) c.args.cells.now c.loop-n.cursor c.in-Some.behind (row c).0 (c.in-Some.ensures.found ∙ (row c).1) c.in-Some.ensures.next
    ∙ ap (λ (y : Element). cond (in_state c.args.slot c.args.state (row c).0) (y ∷ rest) rest) (row c).2

-- what is asked of the cell is asked of what stands there
of_row : (c : In-Some-element) (t : Bool) → IfSome (cell_at c.args.cells.now c.in-Some.n) (λ r. t ≡ in_state c.args.slot c.args.state r) → t ≡ in_state c.args.slot c.args.state (row c).0
of_row c t h = subst (λ (o : Option Row). IfSome o (λ r. t ≡ in_state c.args.slot c.args.state r)) (row c).1 h

pub returns-then-has_member-clause-some : goal.returns-then-has_member-clause-some
returns-then-has_member-clause-some c =
    let a = (goal.at.returns-then-has_member-clause-some c).In-Some-element in
    let rest = passing_from (in_state c.args.slot c.args.state) c.args.cells.now c.in-Some.behind in
    sym c.loop-n.invariant ∙ step a ∙ ap (λ t. cond t (c.in-Some-element.element.now ∷ rest) rest) (sym (of_row a c.has_member.result c.has_member.ensures) ∙ c.if-has_member.true)

pub returns-then-is_behind-clause-none : goal.returns-then-is_behind-clause-none
returns-then-is_behind-clause-none c =
    let a = (goal.at.returns-then-is_behind-clause-none c).In-Some-element in
    ap (λ set. up_to set c.args.last) (sym c.loop-n.invariant)
    ∙ passing_behind (in_state c.args.slot c.args.state) c.args.cells.now c.loop-n.cursor (row a).0 c.args.last c.order_facts.ensures.rises (c.in-Some.ensures.found ∙ (row a).1)
    (ap (is_behind c.args.last) (row a).2 ∙ sym c.is_behind.ensures ∙ c.if-is_behind.true)

pub loop-n-smaller : goal.loop-n-smaller
loop-n-smaller c =
    let a = (goal.at.loop-n-smaller c).In-Some-element in
    let within = slice_get_within (ordered c.args.cells.now) (cursor_index c.args.cells.now c.loop-n.cursor) (row a).0 (c.in-Some.ensures.found ∙ (row a).1) in
    let next = c.in-Some.ensures.next in
    omega arith

pub loop-n-preserved : goal.loop-n-preserved
loop-n-preserved c =
    let a = (goal.at.loop-n-preserved c).In-Some-element in
    let rest = passing_from (in_state c.args.slot c.args.state) c.args.cells.now c.in-Some.behind in
    sym (step a ∙ ap (λ t. cond t (c.in-Some-element.element.now ∷ rest) rest) (sym (of_row a c.has_member.result c.has_member.ensures) ∙ c.if-has_member.false)) ∙ c.loop-n.invariant

pub returns-clause-none : goal.returns-clause-none
returns-clause-none c =
    let from = passing_from (in_state c.args.slot c.args.state) c.args.cells.now c.args.from in
    none_up_to from c.args.last
    (sym c.loop-n.invariant ∙ passing_end (in_state c.args.slot c.args.state) c.args.cells.now c.loop-n.cursor c.in_default.ensures.end)
