use Rattle.std.proofs.Common.{◌≡◌, ℕ, ◌+◌, ◌-◌, ◌++◌, List, length, map, take, inl, inr, ap, subst, ◌∙◌, arith, length-take-le}
use Rattle.std.proofs.lemmas.Result.{err_from_is_err_and}
use Rattle.dg_graph.specs.Composition.{Delta, applied}
use Rattle.dg_graph.specs.declared.element.Element.{Element}
use Rattle.dg_index.specs.ExactSteps.{downs}
use Rattle.dg_build.specs.InteriorDeltas.{downs_by, last_way, stored_delta, top_to, up_by}
use Rattle.dg_build.specs.SpelledRecords.{IsFaultOfDeltas}
use Rattle.dg_build.proofs.InteriorDeltaWays.{ways_length}
use Rattle.dg_build.proofs.InteriorDeltaNodes.{added_both, deltas_length}
use Rattle.dg_build.specs.GivenDeltas.{AreAdded, first_by}
use Rattle.dg_build.proofs.GivenDeltas.{added_by, both_added, fault_behind, front_fault}
use Rattle.dg_build.proofs.heights.first_node.Goals as goal

pub add_downs-requires : goal.add_downs-requires
add_downs-requires c =
    let k : ℕ = c.args.params.k in
    let row : List Delta = c.args.row.now.items in
    omega (arith, c.requires.arity, ap (λ (l : List Delta). length l) c.in_ok-inner.ensures.ways, ways_length (take (k - 1) row), length-take-le (k - 1) row c.requires.there)

pub returns-clause-up : goal.returns-clause-up
returns-clause-up c = c.in_ok-up.ensures ∙ ap (up_by c.args.older.now c.args.up) c.in_ok-inner.ensures.inner

pub returns-clause-last : goal.returns-clause-last
returns-clause-last c = c.in_ok-last.ensures.last ∙ (λ i. last_way (downs (c.in_ok-inner.ensures.inner i) (c.in_ok-inner.ensures.ways i)))

pub returns-clause-adds : goal.returns-clause-adds
returns-clause-adds c =
    let inner : Delta = c.in_ok-inner.field-0.inner in
    let node : List Element = first_by c.args.params c.args.older.now c.args.up c.args.row.now.items c.args.base.now in
    let is : applied c.in_ok-up.up c.args.base.now ≡ node = ap (λ (d : Delta). applied d c.args.base.now) (c.in_ok-up.ensures ∙ ap (up_by c.args.older.now c.args.up) c.in_ok-inner.ensures.inner) in
    added_both c.args.segment.now c.add_top.new.segment c.add_downs.new.segment (top_to c.args.below node) (downs inner c.in_ok-inner.field-0.ways.items) (downs_by c.args.params c.args.row.now.items)
    (c.in_ok-add_top.ensures.ok ∙ ap (λ (set : List Element). record c.args.segment.now { deltas = c.args.segment.now.deltas ++ map stored_delta (top_to c.args.below set) }) is) c.in_ok-last.ensures.ok
    (λ i. downs (c.in_ok-inner.ensures.inner i) (c.in_ok-inner.ensures.ways i))

pub returns-in_err-add_top-clause-fault : goal.returns-in_err-add_top-clause-fault
returns-in_err-add_top-clause-fault c =
    let failed = err_from_is_err_and c.from_residual-in_err-add_top.result c.from_residual-in_err-add_top.ensures.1 in
    let is = ap (λ (d : Delta). applied d c.args.base.now) (c.in_ok-up.ensures ∙ ap (up_by c.args.older.now c.args.up) c.in_ok-inner.ensures.inner) in
    rw (failed.1, failed.2)
    (inl (subst (λ (node : List Element). IsFaultOfDeltas (length c.args.segment.now.deltas) (top_to c.args.below node) c.in_err-add_top.field-0.0) is c.in_err-add_top.ensures.fault))

pub returns-in_err-last-clause-fault : goal.returns-in_err-last-clause-fault
returns-in_err-last-clause-fault c =
    let failed = err_from_is_err_and c.from_residual-in_err-last.result c.from_residual-in_err-last.ensures.1 in
    let is = ap (λ (d : Delta). applied d c.args.base.now) (c.in_ok-up.ensures ∙ ap (up_by c.args.older.now c.args.up) c.in_ok-inner.ensures.inner) in
    let old : ℕ = length c.args.segment.now.deltas in
    let made_is : downs c.in_ok-inner.field-0.inner c.in_ok-inner.field-0.ways.items ≡ downs_by c.args.params c.args.row.now.items = (λ i. downs (c.in_ok-inner.ensures.inner i) (c.in_ok-inner.ensures.ways i)) in
    let long : length c.add_top.new.segment.deltas ≡ old + length (top_to c.args.below (first_by c.args.params c.args.older.now c.args.up c.args.row.now.items c.args.base.now)) =
    deltas_length c.args.segment.now c.add_top.new.segment (top_to c.args.below (applied c.in_ok-up.up c.args.base.now)) c.in_ok-add_top.ensures.ok ∙ ap (λ (node : List Element). old + length (top_to c.args.below node)) is in
    rw (failed.1, failed.2)
    (inr (subst (λ n. IsFaultOfDeltas n (downs_by c.args.params c.args.row.now.items) c.in_err-last.field-0.0) long
    (subst (λ (l : List Delta). IsFaultOfDeltas (length c.add_top.new.segment.deltas) l c.in_err-last.field-0.0) made_is c.in_err-last.ensures.fault)))

pub returns-clause-given : goal.returns-clause-given
returns-clause-given c =
    let node : List Element = first_by c.args.params c.args.older.now c.args.up c.args.row.now.items c.args.base.now in
    let is : applied c.in_ok-up.up c.args.base.now ≡ node = ap (λ (d : Delta). applied d c.args.base.now) (c.in_ok-up.ensures ∙ ap (up_by c.args.older.now c.args.up) c.in_ok-inner.ensures.inner) in
    both_added (top_to c.args.below node) (downs_by c.args.params c.args.row.now.items) c.args.segment.now.deltas c.add_top.new.segment.deltas c.add_downs.new.segment.deltas
    (added_by (top_to c.args.below (applied c.in_ok-up.up c.args.base.now)) (top_to c.args.below node) c.args.segment.now c.add_top.new.segment c.in_ok-add_top.ensures.ok (ap (top_to c.args.below) is) c.in_ok-add_top.ensures.narrow)
    (added_by (downs c.in_ok-inner.field-0.inner c.in_ok-inner.field-0.ways.items) (downs_by c.args.params c.args.row.now.items) c.add_top.new.segment c.add_downs.new.segment c.in_ok-last.ensures.ok
    (λ i. downs (c.in_ok-inner.ensures.inner i) (c.in_ok-inner.ensures.ways i)) c.in_ok-last.ensures.narrow)

pub returns-in_err-add_top-clause-first : goal.returns-in_err-add_top-clause-first
returns-in_err-add_top-clause-first c =
    let failed = err_from_is_err_and c.from_residual-in_err-add_top.result c.from_residual-in_err-add_top.ensures.1 in
    let node : List Element = first_by c.args.params c.args.older.now c.args.up c.args.row.now.items c.args.base.now in
    let is : applied c.in_ok-up.up c.args.base.now ≡ node = ap (λ (d : Delta). applied d c.args.base.now) (c.in_ok-up.ensures ∙ ap (up_by c.args.older.now c.args.up) c.in_ok-inner.ensures.inner) in
    let old : ℕ = length c.args.segment.now.deltas in
    rw (failed.1, failed.2)
    (front_fault old (top_to c.args.below node) (downs_by c.args.params c.args.row.now.items) c.in_err-add_top.field-0.0
    (subst (λ (set : List Element). IsFaultOfDeltas old (top_to c.args.below set) c.in_err-add_top.field-0.0) is c.in_err-add_top.ensures.fault))

pub returns-in_err-last-clause-first : goal.returns-in_err-last-clause-first
returns-in_err-last-clause-first c =
    let failed = err_from_is_err_and c.from_residual-in_err-last.result c.from_residual-in_err-last.ensures.1 in
    let node : List Element = first_by c.args.params c.args.older.now c.args.up c.args.row.now.items c.args.base.now in
    let is : applied c.in_ok-up.up c.args.base.now ≡ node = ap (λ (d : Delta). applied d c.args.base.now) (c.in_ok-up.ensures ∙ ap (up_by c.args.older.now c.args.up) c.in_ok-inner.ensures.inner) in
    let made_is : downs c.in_ok-inner.field-0.inner c.in_ok-inner.field-0.ways.items ≡ downs_by c.args.params c.args.row.now.items = (λ i. downs (c.in_ok-inner.ensures.inner i) (c.in_ok-inner.ensures.ways i)) in
    let top : AreAdded (top_to c.args.below node) c.args.segment.now.deltas c.add_top.new.segment.deltas =
    added_by (top_to c.args.below (applied c.in_ok-up.up c.args.base.now)) (top_to c.args.below node) c.args.segment.now c.add_top.new.segment c.in_ok-add_top.ensures.ok (ap (top_to c.args.below) is) c.in_ok-add_top.ensures.narrow in
    rw (failed.1, failed.2)
    (fault_behind (top_to c.args.below node) (downs_by c.args.params c.args.row.now.items) c.args.segment.now.deltas c.add_top.new.segment.deltas c.in_err-last.field-0.0 top
    (subst (λ (l : List Delta). IsFaultOfDeltas (length c.add_top.new.segment.deltas) l c.in_err-last.field-0.0) made_is c.in_err-last.ensures.fault))
