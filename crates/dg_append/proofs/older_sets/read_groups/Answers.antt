use Rattle.std.proofs.Common.{◌≡◌, ◌++◌, ◌+◌, ◌-◌, ◌∙◌, ℕ, List, Option, Ok, Err, inr, length, take, drop, refl, ap, subst, arith, rules, sym, length-append}
use Rattle.std.proofs.lemmas.List.Elements.{All-drop, All-take}
use Rattle.dg_append.proofs.KeptBatchOutcomes.{err_as}
use Rattle.dg_append.proofs.OlderGroupSets.{CallDamage, CallGives, CallLeads, Called, Gives, GroupsAreRead, all_given, all_led, all_whole, every_some, first_damage, group_long, none_more_read, none_read, one_read, size_next, some_both, some_map}
use Rattle.dg_append.proofs.older_sets.read_groups.Goals as goal
use Rattle.dg_append.specs.OlderChildSteps.{AreLedByGroups}
use Rattle.dg_append.specs.OlderGroups.{AreUndamaged, IsFirstOfGroups, TellsGroupDamage, in_groups}
use Rattle.dg_graph.specs.declared.element.Element.{Element}
use Rattle.dg_history.specs.declared.node.NodeId.{NodeId}
use Rattle.dg_history.specs.History.{History}
use Rattle.dg_index.specs.OpenedIndex.{Opening}
use Rattle.dg_plan.specs.declared.edge.Edge.{Edge}
use Rattle.dg_plan.specs.HistoryGraph.{all_columns}
use Rattle.dg_retrieval.specs.Calls.{AreLedByTree, GivesSetsOver}
use Rattle.dg_retrieval.specs.KeptGraph.{record_edges}
use Rattle.dg_retrieval.specs.NodeSets.{HasNoEvents, IsIndexOver, IsUndamaged}
use Rattle.dg_retrieval.specs.Planned.{IsOverRecords}
use Rattle.dg_retrieval.specs.Retrieval.{IsFirstDamage}
use Rattle.dg_records.specs.declared.fault.RecordFault.{RecordFault}
use Rattle.dg_records.specs.declared.fault.RecordFault.TheVariants as fault
use Rattle.std.specs.List.{Contains}
use Rattle.std.specs.Prelude.{IfSome}
use Rattle.dg_disk.proofs.FrameLemmas.{reads_none, reads_then}

-- the nodes of the group
slice_is : (nodes : List NodeId) (done size : ℕ) (next : ℕ) → size ≡ next → take (done + size - done) (drop done nodes) ≡ take next (drop done nodes)
slice_is nodes done size next is = ap (λ n. take n (drop done nodes)) (let e : done + size - done ≡ next = omega (arith, is) in e)

call_is : (o : Opening) (edges : List Edge) (group next : List NodeId) → edges ≡ record_edges o → group ≡ next → (let c : Called = (o, edges, group) in c) ≡ (o, record_edges o, next)
call_is o edges group next is group_is = λ i. (o, is i, group_is i)

-- what is told of a call over another image is told of this one, where they are the same
told_here : (a b : Option (List ℕ)) (P : List ℕ → Called → Type 0) (x y : Called) → a ≡ b → x ≡ y → IfSome a (λ image. P image x) → IfSome b (λ image. P image y)
told_here a b P x y told same p = subst (λ (z : Option (List ℕ) × Called). IfSome z.0 (λ image. P image z.1)) (let e : (a, x) ≡ (b, y) = λ i. (told i, same i) in e) p

-- both facts are told
both_told : (told : Option (List ℕ)) (P Q : List ℕ → Type 0) → IfSome told P → IfSome told Q → IfSome told (λ image. P image × Q image)
both_told told P Q p q = some_both told P Q (λ image. P image × Q image) (λ image a b. (a, b)) p q

pub loop-done-init : goal.loop-done-init
loop-done-init g c = record {
  within = omega arith;
  count = search rules;
  read = every_some (g.D.Disk.image c.args.disk.now) _ (none_read c.args.from.now.index.now.opening c.args.from.now.name_count c.args.nodes.now _ (g.D.Disk.taken c.args.disk.now) (search rules));
  disk = reads_none;
}

pub node_sets-requires-clause-over : goal.node_sets-requires-clause-over
node_sets-requires-clause-over g c =
    subst (λ (told : Option (List ℕ)). IsOverRecords told all_columns c.args.from.now) (sym c.loop-done.invariant.disk.same_image) c.requires.over

pub node_sets-requires-clause-nodes : goal.node_sets-requires-clause-nodes
node_sets-requires-clause-nodes g c =
    All-take (Contains c.args.from.now.planner.now.nodes) (c.loop-done.done + c.min-size.result - c.loop-done.done) (drop c.loop-done.done c.args.nodes.now) (All-drop (Contains c.args.from.now.planner.now.nodes) c.loop-done.done c.args.nodes.now c.requires.nodes)

pub node_sets-requires-clause-leaves : goal.node_sets-requires-clause-leaves
node_sets-requires-clause-leaves g c =
    All-take HasNoEvents (c.loop-done.done + c.min-size.result - c.loop-done.done) (drop c.loop-done.done c.args.nodes.now) (All-drop HasNoEvents c.loop-done.done c.args.nodes.now c.requires.leaves)

pub loop-done-preserved : goal.loop-done-preserved
loop-done-preserved g c =
    let told : Option (List ℕ) = g.D.Disk.image c.args.disk.now in
    let o : Opening = c.args.from.now.index.now.opening in
    let names : ℕ = c.args.from.now.name_count in
    let nodes : List NodeId = c.args.nodes.now in
    let done : ℕ = c.loop-done.done in
    let n : ℕ = size_next o names nodes done c.loop-done-test.true in
    let group : List NodeId = take n (drop done nodes) in
    let slice = slice_is nodes done c.min-size.result n c.min-size.ensures in
    let call = call_is o c.args.from.now.planner.now.edges _ group c.requires.over.edges slice in
    let gives = told_here (g.D.Disk.image c.loop-done.disk) told (CallGives names (g.D.Disk.taken c.loop-done.disk) (g.D.Disk.taken c.node_sets.new.disk) (Ok c.in_ok-more.more)) _ _ c.loop-done.invariant.disk.same_image call c.in_ok-more.ensures.over in
    let damage = told_here (g.D.Disk.image c.loop-done.disk) told (CallDamage names (Ok c.in_ok-more.more)) _ _ c.loop-done.invariant.disk.same_image call c.in_ok-more.ensures.damage in
    let led = told_here (g.D.Disk.image c.loop-done.disk) told (CallLeads names c.in_ok-more.more.items) _ _ c.loop-done.invariant.disk.same_image call c.in_ok-more.ensures.led in
    let long : length c.in_ok-more.more.items ≡ n = c.in_ok-more.ensures.done.count ∙ ap (λ (l : List NodeId). length l) slice ∙ group_long o names nodes done c.loop-done-test.true in
    record {
      within = omega (arith, c.loop-done-test.true, c.min-size.ensures);
      count = ap (λ (l : List (List Element)). length l) {y = c.loop-done.sets.items ++ c.in_ok-more.more.items} c.in_ok-append.ensures.items ∙ length-append c.loop-done.sets.items c.in_ok-more.more.items ∙ (λ i. c.loop-done.invariant.count i + (long ∙ sym c.min-size.ensures) i);
      read = subst (λ (d : ℕ). IfSome told (GroupsAreRead o names nodes (done + d) c.append.new.self.items (g.D.Disk.taken c.args.disk.now) (g.D.Disk.taken c.node_sets.new.disk))) (sym c.min-size.ensures)
          (some_both told (λ image. GroupsAreRead o names nodes done c.loop-done.sets.items (g.D.Disk.taken c.args.disk.now) (g.D.Disk.taken c.loop-done.disk) image)
          (λ image. Gives o names group (g.D.Disk.taken c.loop-done.disk) (g.D.Disk.taken c.node_sets.new.disk) (Ok c.in_ok-more.more) image
          × (AreLedByTree names image o group c.in_ok-more.more.items × IsUndamaged names (record_edges o) o all_columns group image))
          _
          (λ image r h. one_read o names nodes done c.loop-done-test.true c.loop-done.sets.items c.append.new.self.items c.in_ok-more.more (g.D.Disk.taken c.args.disk.now) (g.D.Disk.taken c.loop-done.disk) (g.D.Disk.taken c.node_sets.new.disk) image r h.0 h.1.0 h.1.1 c.in_ok-append.ensures.items)
          c.loop-done.invariant.read (both_told told _ _ gives (both_told told _ _ led damage)));
      disk = reads_then c.loop-done.invariant.disk c.node_sets.ensures.reads.disk;
    }

pub returns-in_err-more-clause-over : goal.returns-in_err-more-clause-over
returns-in_err-more-clause-over g c =
    let told : Option (List ℕ) = g.D.Disk.image c.args.disk.now in
    let o : Opening = c.args.from.now.index.now.opening in
    let names : ℕ = c.args.from.now.name_count in
    let nodes : List NodeId = c.args.nodes.now in
    let done : ℕ = c.loop-done.done in
    let n : ℕ = size_next o names nodes done c.loop-done-test.true in
    let f : RecordFault = c.in_err-more.field-0.0 in
    let group : List NodeId = take n (drop done nodes) in
    let slice = slice_is nodes done c.min-size.result n c.min-size.ensures in
    let call = call_is o c.args.from.now.planner.now.edges _ group c.requires.over.edges slice in
    let gives = told_here (g.D.Disk.image c.loop-done.disk) told (CallGives names (g.D.Disk.taken c.loop-done.disk) (g.D.Disk.taken c.node_sets.new.disk) (Err f)) _ _ c.loop-done.invariant.disk.same_image call c.in_err-more.ensures.over in
    err_as c.from_residual.result f (λ r. IfSome told (λ image. (z : History) → IsIndexOver z image o names → GivesSetsOver z (record_edges o) nodes (g.D.Disk.taken c.args.disk.now) (g.D.Disk.taken c.node_sets.new.disk) r)) c.from_residual.ensures
    (some_both told (GroupsAreRead o names nodes done c.loop-done.sets.items (g.D.Disk.taken c.args.disk.now) (g.D.Disk.taken c.loop-done.disk))
    (Gives o names group (g.D.Disk.taken c.loop-done.disk) (g.D.Disk.taken c.node_sets.new.disk) (Err f)) (Gives o names nodes (g.D.Disk.taken c.args.disk.now) (g.D.Disk.taken c.node_sets.new.disk) (Err f))
    (λ image r h. none_more_read o names nodes done c.loop-done-test.true c.loop-done.sets.items (Err f) f (g.D.Disk.taken c.args.disk.now) (g.D.Disk.taken c.loop-done.disk) (g.D.Disk.taken c.node_sets.new.disk) image r h (λ z over. (h z over).never))
    c.loop-done.invariant.read gives)

pub returns-in_err-more-clause-damage : goal.returns-in_err-more-clause-damage
returns-in_err-more-clause-damage g c =
    let told : Option (List ℕ) = g.D.Disk.image c.args.disk.now in
    let o : Opening = c.args.from.now.index.now.opening in
    let names : ℕ = c.args.from.now.name_count in
    let nodes : List NodeId = c.args.nodes.now in
    let done : ℕ = c.loop-done.done in
    let n : ℕ = size_next o names nodes done c.loop-done-test.true in
    let f : RecordFault = c.in_err-more.field-0.0 in
    let group : List NodeId = take n (drop done nodes) in
    let slice = slice_is nodes done c.min-size.result n c.min-size.ensures in
    let call = call_is o c.args.from.now.planner.now.edges _ group c.requires.over.edges slice in
    let damage = told_here (g.D.Disk.image c.loop-done.disk) told (CallDamage names (Err f)) _ _ c.loop-done.invariant.disk.same_image call c.in_err-more.ensures.damage in
    err_as c.from_residual.result f (λ r. IfSome told (λ image. TellsGroupDamage names o image nodes r)) c.from_residual.ensures
    (some_both told (GroupsAreRead o names nodes done c.loop-done.sets.items (g.D.Disk.taken c.args.disk.now) (g.D.Disk.taken c.loop-done.disk))
    (λ image. IsFirstDamage names (record_edges o) o all_columns group image f) (λ image. IsFirstOfGroups names o image (in_groups nodes) f)
    (λ image r h. first_damage o names nodes done c.loop-done-test.true c.loop-done.sets.items (g.D.Disk.taken c.args.disk.now) (g.D.Disk.taken c.loop-done.disk) f image r h)
    c.loop-done.invariant.read damage)

pub returns-in_err-append-clause-over : goal.returns-in_err-append-clause-over
returns-in_err-append-clause-over g c =
    let told : Option (List ℕ) = g.D.Disk.image c.args.disk.now in
    let o : Opening = c.args.from.now.index.now.opening in
    let names : ℕ = c.args.from.now.name_count in
    let nodes : List NodeId = c.args.nodes.now in
    let done : ℕ = c.loop-done.done in
    let n : ℕ = size_next o names nodes done c.loop-done-test.true in
    let group : List NodeId = take n (drop done nodes) in
    let slice = slice_is nodes done c.min-size.result n c.min-size.ensures in
    let call = call_is o c.args.from.now.planner.now.edges _ group c.requires.over.edges slice in
    let gives = told_here (g.D.Disk.image c.loop-done.disk) told (CallGives names (g.D.Disk.taken c.loop-done.disk) (g.D.Disk.taken c.node_sets.new.disk) (Ok c.in_ok-more.more)) _ _ c.loop-done.invariant.disk.same_image call c.in_ok-more.ensures.over in
    err_as c.from_residual-in_err-append.result fault.Memory (λ r. IfSome told (λ image. (z : History) → IsIndexOver z image o names → GivesSetsOver z (record_edges o) nodes (g.D.Disk.taken c.args.disk.now) (g.D.Disk.taken c.node_sets.new.disk) r)) c.from_residual-in_err-append.ensures
    (some_both told (GroupsAreRead o names nodes done c.loop-done.sets.items (g.D.Disk.taken c.args.disk.now) (g.D.Disk.taken c.loop-done.disk))
    (Gives o names group (g.D.Disk.taken c.loop-done.disk) (g.D.Disk.taken c.node_sets.new.disk) (Ok c.in_ok-more.more)) (Gives o names nodes (g.D.Disk.taken c.args.disk.now) (g.D.Disk.taken c.node_sets.new.disk) (Err fault.Memory))
    (λ image r h. none_more_read o names nodes done c.loop-done-test.true c.loop-done.sets.items (Ok c.in_ok-more.more) fault.Memory (g.D.Disk.taken c.args.disk.now) (g.D.Disk.taken c.loop-done.disk) (g.D.Disk.taken c.node_sets.new.disk) image r h (λ z over. inr refl))
    c.loop-done.invariant.read gives)

pub returns-in_err-append-clause-damage : goal.returns-in_err-append-clause-damage
returns-in_err-append-clause-damage g c =
    let told : Option (List ℕ) = g.D.Disk.image c.args.disk.now in
    err_as c.from_residual-in_err-append.result fault.Memory (λ r. IfSome told (λ image. TellsGroupDamage c.args.from.now.name_count c.args.from.now.index.now.opening image c.args.nodes.now r)) c.from_residual-in_err-append.ensures
    (every_some told (λ image. Unit {0}) (λ image. tt))

pub returns-clause-count : goal.returns-clause-count
returns-clause-count g c = omega (arith, c.loop-done.invariant.count, c.loop-done.invariant.within, c.loop-done-test.false)

pub returns-clause-over : goal.returns-clause-over
returns-clause-over g c =
    some_map (g.D.Disk.image c.args.disk.now) _ (Gives c.args.from.now.index.now.opening c.args.from.now.name_count c.args.nodes.now (g.D.Disk.taken c.args.disk.now) (g.D.Disk.taken c.loop-done.disk) (Ok c.loop-done.sets))
    (λ image r. all_given c.args.from.now.index.now.opening c.args.from.now.name_count c.args.nodes.now c.loop-done.done c.loop-done.sets (g.D.Disk.taken c.args.disk.now) (g.D.Disk.taken c.loop-done.disk) c.loop-done-test.false image r)
    c.loop-done.invariant.read

pub returns-clause-damage : goal.returns-clause-damage
returns-clause-damage g c =
    some_map (g.D.Disk.image c.args.disk.now) _ (λ image. AreUndamaged c.args.from.now.name_count c.args.from.now.index.now.opening image (in_groups c.args.nodes.now))
    (λ image r. all_whole c.args.from.now.index.now.opening c.args.from.now.name_count c.args.nodes.now c.loop-done.done c.loop-done.sets (g.D.Disk.taken c.args.disk.now) (g.D.Disk.taken c.loop-done.disk) c.loop-done-test.false image r)
    c.loop-done.invariant.read

pub returns-clause-led : goal.returns-clause-led
returns-clause-led g c =
    some_map (g.D.Disk.image c.args.disk.now) _ (λ image. AreLedByGroups c.args.from.now.name_count image c.args.from.now.index.now.opening (in_groups c.args.nodes.now) c.loop-done.sets.items)
    (λ image r. all_led c.args.from.now.index.now.opening c.args.from.now.name_count c.args.nodes.now c.loop-done.done c.loop-done.sets (g.D.Disk.taken c.args.disk.now) (g.D.Disk.taken c.loop-done.disk) c.loop-done-test.false image r)
    c.loop-done.invariant.read
