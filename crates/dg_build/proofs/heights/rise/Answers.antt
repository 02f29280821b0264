use Rattle.std.proofs.Common.{◌≡◌, ℕ, suc, ◌+◌, ◌-◌, ◌*◌, ◌/◌, ◌≤◌, ◌==◌, ◌++◌, List, length, map, drop, ⊎_elim, refl, ap, subst, ◌∙◌, arith}
use Rattle.std.specs.List.{flat_map}
use Rattle.std.proofs.lemmas.Result.{err_from_is_err_and}
use Rattle.dg_graph.specs.Composition.{Delta}
use Rattle.dg_graph.specs.declared.element.Element.{Element}
use Rattle.dg_index.specs.Hierarchy.{numbers, set_at}
use Rattle.dg_build.specs.InteriorDeltas.{deltas_added, downs_by, downs_of, inner_by, last_way, start_above, stored_delta, top_to, up_by}
use Rattle.dg_build.specs.SpelledRecords.{IsFaultOfDeltas}
use Rattle.dg_build.proofs.SpelledRecordDeltas.{below_end, below_more, downs_memory, top_memory}
use Rattle.dg_build.proofs.InteriorDeltaNodes.{differs_by, differs_on, first_added, first_within, rises, spells, top_within}
use Rattle.dg_build.proofs.InteriorDeltaGroups.{downs_there, first_behind, inner_there, made_length, row_behind}
use Rattle.dg_build.proofs.InteriorDeltaSteps.{above_is, first_long, row_is, row_long, top_there, up_there}
use Rattle.dg_build.specs.GivenDeltas.{AreAdded, Nodes, first_by, later_downs, later_steps, row_between}
use Rattle.dg_build.proofs.GivenDeltas.{both_added, fault_behind, front_fault, whole_height}
use Rattle.dg_build.proofs.heights.rise.Goals as goal

pub first_node-requires-clause-there : goal.first_node-requires-clause-there
first_node-requires-clause-there c =
    first_long c.args.params.k c.args.q c.args.end c.args.older.now c.args.nodes.up c.args.nodes.steps.items c.from_vec-row.result.items c.requires.arity c.requires.due c.requires.long c.requires.older (c.from_vec-row.ensures.items ∙ c.in_ok-row.ensures)

pub later_nodes-requires-clause-long : goal.later_nodes-requires-clause-long
later_nodes-requires-clause-long c =
    let k : ℕ = c.args.params.k in
    let some : 1 ≤ c.args.end / k - c.args.q / k = omega (arith, c.requires.due) in
    row_behind k (c.args.end / k - c.args.q / k) c.from_vec-row.result.items c.first_node.new.row.items c.requires.arity some
    (row_long k c.args.q c.args.end c.args.older.now c.args.nodes.up c.args.nodes.steps.items c.from_vec-row.result.items c.requires.arity c.requires.due c.requires.long c.requires.older (c.from_vec-row.ensures.items ∙ c.in_ok-row.ensures))
    c.in_ok-to_first.ensures.rest

pub returns-clause-frame : goal.returns-clause-frame
returns-clause-frame c =
    differs_on c.args.segment.now c.first_node.new.segment c.later_nodes.new.segment (differs_by c.args.segment.now c.first_node.new.segment _ c.in_ok-to_first.ensures.adds) c.in_ok-steps.ensures.frame

pub returns-clause-adds : goal.returns-clause-adds
returns-clause-adds c =
    let k : ℕ = c.args.params.k in
    let row : List Delta = c.from_vec-row.result.items in
    let made : List Delta = downs_by c.args.params row in
    let long : k - 1 ≤ length row = first_long k c.args.q c.args.end c.args.older.now c.args.nodes.up c.args.nodes.steps.items row c.requires.arity c.requires.due c.requires.long c.requires.older (c.from_vec-row.ensures.items ∙ c.in_ok-row.ensures) in
    omega (
      arith,
      c.in_ok-steps.ensures.adds,
      first_added k c.args.q c.args.end c.args.segment.now c.first_node.new.segment (first_by c.args.params c.args.older.now c.args.nodes.up row c.args.base.now) made c.requires.due (made_length k row made (inner_by c.args.params row) c.requires.arity long refl) c.in_ok-to_first.ensures.adds,
    )

pub returns-clause-is : goal.returns-clause-is
returns-clause-is c events h start new older base =
    let p = c.args.params in
    let b : ℕ = c.args.q / p.k in
    let n : ℕ = c.args.end / p.k - b in
    let some : 1 ≤ n = omega (arith, c.requires.due) in
    let row : List Delta = c.from_vec-row.result.items in
    let is = row_is p events h c.args.q c.args.end c.requires.arity c.requires.due start c.args.older.now c.args.nodes.up c.args.nodes.steps.items new older row (c.from_vec-row.ensures.items ∙ c.in_ok-row.ensures) in
    let made : List Delta = downs_by p row in
    let node : List Element = first_by p c.args.older.now c.args.nodes.up row c.args.base.now in
    let inner = inner_there p events h b n row c.requires.arity some is (inner_by p row) refl in
    let there = up_there p events h c.args.q c.args.end c.requires.arity c.requires.due start c.args.older.now c.args.nodes.up c.args.nodes.steps.items new older (inner_by p row) in
    let top = top_there p events h c.args.q c.args.end c.requires.arity c.requires.due start c.args.older.now c.args.nodes.up c.args.nodes.steps.items new older
    (up_by c.args.older.now c.args.nodes.up (inner_by p row)) c.args.base.now (there (up_by c.args.older.now c.args.nodes.up (inner_by p row)) inner refl) base in
    let later = c.in_ok-steps.ensures.is events h (b + 1) (first_behind p events h b n row c.requires.arity some is (inner_by p row) c.in_ok-to_first.last made c.first_node.new.row.items refl refl c.in_ok-to_first.ensures.last c.in_ok-to_first.ensures.rest) in
    rises p events h c.args.q c.args.end c.requires.due (start_above p events h c.args.q start) c.in_ok-to_first.to_first c.in_ok-steps.steps.items made node c.args.segment.now c.first_node.new.segment c.later_nodes.new.segment
    (above_is p events h c.args.q c.args.end c.requires.arity c.requires.due start c.args.older.now c.args.nodes.up c.args.nodes.steps.items new older)
    (there c.in_ok-to_first.to_first inner c.in_ok-to_first.ensures.up) top (downs_there p events h b n row c.requires.arity some is (inner_by p row) made refl refl) later
    (spells c.args.segment.now c.first_node.new.segment c.later_nodes.new.segment (top_to b node) made (map stored_delta (flat_map (downs_of p events h) (numbers (b + 1 + 1) (n - 1)))) c.in_ok-to_first.ensures.adds c.in_ok-steps.ensures.frame later.adds)

pub returns-in_err-to_first-clause-fault : goal.returns-in_err-to_first-clause-fault
returns-in_err-to_first-clause-fault c =
    let failed = err_from_is_err_and c.from_residual-in_err-to_first.result c.from_residual-in_err-to_first.ensures.1 in
    rw (failed.1, failed.2) (λ events h start new older base few.
    let p = c.args.params in
    let b : ℕ = c.args.q / p.k in
    let n : ℕ = c.args.end / p.k - b in
    let some : 1 ≤ n = omega (arith, c.requires.due) in
    let row : List Delta = c.from_vec-row.result.items in
    let is = row_is p events h c.args.q c.args.end c.requires.arity c.requires.due start c.args.older.now c.args.nodes.up c.args.nodes.steps.items new older row (c.from_vec-row.ensures.items ∙ c.in_ok-row.ensures) in
    let made : List Delta = downs_by p row in
    let node : List Element = first_by p c.args.older.now c.args.nodes.up row c.args.base.now in
    let old : ℕ = length c.args.segment.now.deltas in
    let inner = inner_there p events h b n row c.requires.arity some is (inner_by p row) refl in
    let above : Delta = up_by c.args.older.now c.args.nodes.up (inner_by p row) in
    let there = up_there p events h c.args.q c.args.end c.requires.arity c.requires.due start c.args.older.now c.args.nodes.up c.args.nodes.steps.items new older (inner_by p row) above inner refl in
    let top = top_there p events h c.args.q c.args.end c.requires.arity c.requires.due start c.args.older.now c.args.nodes.up c.args.nodes.steps.items new older above c.args.base.now there base in
    ⊎_elim (λ (f : IsFaultOfDeltas old (top_to b node) c.in_err-to_first.field-0.0). top_memory p events few (suc h) 1 old (b == 0) (set_at p events (suc h) 1) c.in_err-to_first.field-0.0 refl
    (subst (λ (l : List Delta). IsFaultOfDeltas old l c.in_err-to_first.field-0.0) top f))
    (λ (f : IsFaultOfDeltas (old + length (top_to b node)) made c.in_err-to_first.field-0.0). downs_memory p events few h (b + 1) (old + length (top_to b node)) made c.in_err-to_first.field-0.0
    (downs_there p events h b n row c.requires.arity some is (inner_by p row) made refl refl) f)
    c.in_err-to_first.ensures.fault)

pub returns-in_err-to_first-clause-wide : goal.returns-in_err-to_first-clause-wide
returns-in_err-to_first-clause-wide c =
    let failed = err_from_is_err_and c.from_residual-in_err-to_first.result c.from_residual-in_err-to_first.ensures.1 in
    let p = c.args.params in
    let k : ℕ = p.k in
    let row : List Delta = c.from_vec-row.result.items in
    let made : List Delta = downs_by p row in
    let node : List Element = first_by p c.args.older.now c.args.nodes.up row c.args.base.now in
    let old : ℕ = length c.args.segment.now.deltas in
    let tops : List Delta = top_to (c.args.q / k) node in
    let all : ℕ = old + deltas_added k (c.args.q / k) (c.args.end / k) in
    let long : k - 1 ≤ length row = first_long k c.args.q c.args.end c.args.older.now c.args.nodes.up c.args.nodes.steps.items row c.requires.arity c.requires.due c.requires.long c.requires.older (c.from_vec-row.ensures.items ∙ c.in_ok-row.ensures) in
    rw (failed.1, failed.2)
    (⊎_elim (λ (f : IsFaultOfDeltas old tops c.in_err-to_first.field-0.0). below_more (old + length tops) all c.in_err-to_first.field-0.0 (omega (arith, top_within k c.args.q c.args.end node)) (below_end old tops c.in_err-to_first.field-0.0 f))
    (λ (f : IsFaultOfDeltas (old + length tops) made c.in_err-to_first.field-0.0). below_more (old + length tops + length made) all c.in_err-to_first.field-0.0
    (omega (arith, first_within k c.args.q c.args.end node c.requires.due, made_length k row made (inner_by p row) c.requires.arity long refl)) (below_end (old + length tops) made c.in_err-to_first.field-0.0 f))
    c.in_err-to_first.ensures.fault)

pub returns-in_err-steps-clause-fault : goal.returns-in_err-steps-clause-fault
returns-in_err-steps-clause-fault c =
    let failed = err_from_is_err_and c.from_residual-in_err-steps.result c.from_residual-in_err-steps.ensures.1 in
    rw (failed.1, failed.2) (λ events h start new older base few.
    let p = c.args.params in
    let b : ℕ = c.args.q / p.k in
    let n : ℕ = c.args.end / p.k - b in
    let some : 1 ≤ n = omega (arith, c.requires.due) in
    let row : List Delta = c.from_vec-row.result.items in
    let is = row_is p events h c.args.q c.args.end c.requires.arity c.requires.due start c.args.older.now c.args.nodes.up c.args.nodes.steps.items new older row (c.from_vec-row.ensures.items ∙ c.in_ok-row.ensures) in
    c.in_err-steps.ensures.fault events h (b + 1)
    (first_behind p events h b n row c.requires.arity some is (inner_by p row) c.in_ok-to_first.last (downs_by p row) c.first_node.new.row.items refl refl c.in_ok-to_first.ensures.last c.in_ok-to_first.ensures.rest) few)

pub returns-in_err-steps-clause-wide : goal.returns-in_err-steps-clause-wide
returns-in_err-steps-clause-wide c =
    let failed = err_from_is_err_and c.from_residual-in_err-steps.result c.from_residual-in_err-steps.ensures.1 in
    let k : ℕ = c.args.params.k in
    let row : List Delta = c.from_vec-row.result.items in
    let made : List Delta = downs_by c.args.params row in
    let long : k - 1 ≤ length row = first_long k c.args.q c.args.end c.args.older.now c.args.nodes.up c.args.nodes.steps.items row c.requires.arity c.requires.due c.requires.long c.requires.older (c.from_vec-row.ensures.items ∙ c.in_ok-row.ensures) in
    rw (failed.1, failed.2)
    (below_more (length c.first_node.new.segment.deltas + (c.args.end / k - c.args.q / k - 1) * k) (length c.args.segment.now.deltas + deltas_added k (c.args.q / k) (c.args.end / k)) c.in_err-steps.field-0.0
    (omega (
      arith,
      first_added k c.args.q c.args.end c.args.segment.now c.first_node.new.segment (first_by c.args.params c.args.older.now c.args.nodes.up row c.args.base.now) made c.requires.due (made_length k row made (inner_by c.args.params row) c.requires.arity long refl) c.in_ok-to_first.ensures.adds,
    ))
    c.in_err-steps.ensures.wide)

pub returns-clause-up : goal.returns-clause-up
returns-clause-up c =
    let p = c.args.params in
    let n : ℕ = c.args.end / p.k - c.args.q / p.k - 1 in
    let new : Nodes = record { up = c.args.nodes.up; steps = c.args.nodes.steps.items } in
    let row_is : c.from_vec-row.result.items ≡ row_between p c.args.q c.args.end c.args.older.now new = c.from_vec-row.ensures.items ∙ c.in_ok-row.ensures in
    let up_is = c.in_ok-to_first.ensures.up ∙ ap (λ (row : List Delta). up_by c.args.older.now c.args.nodes.up (inner_by p row)) row_is in
    let last_is = c.in_ok-to_first.ensures.last ∙ ap (λ (row : List Delta). last_way (downs_by p row)) row_is in
    let rest_is = c.in_ok-to_first.ensures.rest ∙ ap (drop (p.k - 1)) row_is in
    let steps_are = c.in_ok-steps.ensures.up ∙ (λ i. later_steps p n (last_is i) (rest_is i)) in
    (λ i. record { up = up_is i; steps = steps_are i })

pub returns-clause-given : goal.returns-clause-given
returns-clause-given c =
    let p = c.args.params in
    let n : ℕ = c.args.end / p.k - c.args.q / p.k - 1 in
    let new : Nodes = record { up = c.args.nodes.up; steps = c.args.nodes.steps.items } in
    let row : List Delta = c.from_vec-row.result.items in
    let row_is : row ≡ row_between p c.args.q c.args.end c.args.older.now new = c.from_vec-row.ensures.items ∙ c.in_ok-row.ensures in
    let front : List Delta = top_to (c.args.q / p.k) (first_by p c.args.older.now c.args.nodes.up row c.args.base.now) ++ downs_by p row in
    subst (λ (l : List Delta). AreAdded l c.args.segment.now.deltas c.later_nodes.new.segment.deltas) (whole_height p c.args.q c.args.end c.args.older.now c.args.base.now new row c.first_node.new.row.items row_is c.in_ok-to_first.ensures.rest)
    (both_added front (later_downs p n c.first_node.new.row.items) c.args.segment.now.deltas c.first_node.new.segment.deltas c.later_nodes.new.segment.deltas c.in_ok-to_first.ensures.given c.in_ok-steps.ensures.given)

pub returns-in_err-to_first-clause-first : goal.returns-in_err-to_first-clause-first
returns-in_err-to_first-clause-first c =
    let failed = err_from_is_err_and c.from_residual-in_err-to_first.result c.from_residual-in_err-to_first.ensures.1 in
    let p = c.args.params in
    let n : ℕ = c.args.end / p.k - c.args.q / p.k - 1 in
    let new : Nodes = record { up = c.args.nodes.up; steps = c.args.nodes.steps.items } in
    let row : List Delta = c.from_vec-row.result.items in
    let row_is : row ≡ row_between p c.args.q c.args.end c.args.older.now new = c.from_vec-row.ensures.items ∙ c.in_ok-row.ensures in
    let front : List Delta = top_to (c.args.q / p.k) (first_by p c.args.older.now c.args.nodes.up row c.args.base.now) ++ downs_by p row in
    let old : ℕ = length c.args.segment.now.deltas in
    rw (failed.1, failed.2)
    (subst (λ (l : List Delta). IsFaultOfDeltas old l c.in_err-to_first.field-0.0) (whole_height p c.args.q c.args.end c.args.older.now c.args.base.now new row (drop (p.k - 1) row) row_is refl)
    (front_fault old front (later_downs p n (drop (p.k - 1) row)) c.in_err-to_first.field-0.0 c.in_err-to_first.ensures.first))

pub returns-in_err-steps-clause-first : goal.returns-in_err-steps-clause-first
returns-in_err-steps-clause-first c =
    let failed = err_from_is_err_and c.from_residual-in_err-steps.result c.from_residual-in_err-steps.ensures.1 in
    let p = c.args.params in
    let n : ℕ = c.args.end / p.k - c.args.q / p.k - 1 in
    let new : Nodes = record { up = c.args.nodes.up; steps = c.args.nodes.steps.items } in
    let row : List Delta = c.from_vec-row.result.items in
    let row_is : row ≡ row_between p c.args.q c.args.end c.args.older.now new = c.from_vec-row.ensures.items ∙ c.in_ok-row.ensures in
    let front : List Delta = top_to (c.args.q / p.k) (first_by p c.args.older.now c.args.nodes.up row c.args.base.now) ++ downs_by p row in
    rw (failed.1, failed.2)
    (subst (λ (l : List Delta). IsFaultOfDeltas (length c.args.segment.now.deltas) l c.in_err-steps.field-0.0) (whole_height p c.args.q c.args.end c.args.older.now c.args.base.now new row c.first_node.new.row.items row_is c.in_ok-to_first.ensures.rest)
    (fault_behind front (later_downs p n c.first_node.new.row.items) c.args.segment.now.deltas c.first_node.new.segment.deltas c.in_err-steps.field-0.0 c.in_ok-to_first.ensures.given c.in_err-steps.ensures.first))
