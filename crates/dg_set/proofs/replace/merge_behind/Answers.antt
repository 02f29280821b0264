use Rattle.std.proofs.Common.{◌≡◌, ◌+◌, ◌-◌, ◌≤◌, ◌⊎◌, inl, inr, ◌++◌, take, drop, get_or, sym, ap, ◌∙◌, subst, arith, length-take-le}
use Rattle.std.proofs.lemmas.List.Edits.{length-between}
use Rattle.std.proofs.lemmas.Slice.{between_is}
use Rattle.dg_graph.specs.declared.element.Element.TheVariants.{Node}
use Rattle.dg_graph.specs.Elements.{IsSet, before}
use Rattle.dg_graph.specs.Sets.{unioned}
use Rattle.dg_graph.proofs.Sets.{IsSet-filter}
use Rattle.dg_set.proofs.SetUnions.{IsSet-take, take_less, step_behind, step_past, united_rest}
use Rattle.dg_set.proofs.replace.merge_behind.Goals as goal
use Rattle.dg_set.proofs.replace.merge_behind.Goals.{then-loop-j-test+else-kept-gt0, else-loop-j-test}

pub range_to-behind-requires : goal.range_to-behind-requires
range_to-behind-requires c = IsSet-take c.loop-j.j c.args.gained.now c.requires.gained

pub loop-j-preserved-then-idle-eq-FEW : goal.loop-j-preserved-then-idle-eq-FEW
loop-j-preserved-then-idle-eq-FEW c =
    let cells = c.loop-j.cells in
    let gained = c.args.gained.now in
    let kept = c.loop-j.kept in
    let back = drop c.loop-j.free cells in
    let j = c.loop-j.j in
    let n = c.range_to-behind.result.1 in
    let was = c.loop-j.invariant in
    let copied = c.copy_behind-free.ensures in
    let gained_in = was.gained_in in
    let le : n ≤ j = omega (arith, c.range_to-behind.ensures.within, length-take-le j gained gained_in) in
    let many = length-between gained n j gained_in in
    let front = take_less kept c.copy_behind-free.result c.copy_behind-free.new.cells cells (omega (arith, many, copied.place)) copied.front in
    let behind = copied.back ∙ ap (λ l. l ++ back) (between_is gained n j) in
    record {
      merged = (λ i. unioned (front i) (take n gained) ++ behind i)
          ∙ step_past cells gained back _ kept j n (Node 0) was.rises c.requires.gained c.if-kept-gt0.true (omega arith) le c.range_to-behind.ensures.back was.merged;
      rises = subst IsSet (sym front) was.rises;
      gained_in = omega arith;
      room = omega (arith, many, copied.place);
      within = omega (arith, copied.place);
      long = omega arith;
      idle = omega arith;
    }

pub loop-j-preserved : goal.loop-j-preserved
loop-j-preserved c =
    let cells = c.loop-j.cells in
    let gained = c.args.gained.now in
    let kept = take c.loop-j.kept cells in
    let back = drop c.loop-j.free cells in
    let j = c.loop-j.j - 1 in
    let g = get_or gained j (Node 0) in
    let was = c.loop-j.invariant in
    let put = c.put_behind-before.ensures in
    let is : c.loop-j.j ≡ j + 1 = omega arith in
    let merged = subst (λ n. unioned kept (take n gained) ++ back ≡ unioned (take c.args.left c.args.cells.now) gained) is was.merged in
    record {
      merged = (λ i. unioned (put.front i) (take j gained) ++ put.back i)
          ∙ step_behind kept gained back _ j (Node 0) was.rises c.requires.gained (omega arith) merged;
      rises = subst IsSet (sym put.front) (IsSet-filter (λ y. before y g) kept was.rises);
      gained_in = omega arith;
      room = omega arith;
      within = omega arith;
      long = omega arith;
      idle = omega arith;
    }

pub returns-clause-merged : goal.returns-clause-merged
returns-clause-merged c =
    let cells = c.loop-j.cells in
    let gained = c.args.gained.now in
    let kept = c.loop-j.kept in
    let j = c.loop-j.j in
    let was = c.loop-j.invariant in
    let gained_in = was.gained_in in
    let copied = c.copy_behind-place.ensures in
    let front = take_less kept c.copy_behind-place.result c.copy_behind-place.new.cells cells (omega (arith, copied.place, length-take-le j gained gained_in)) copied.front in
    let ended : (j ≤ 0) ⊎ (kept ≤ 0) =
    elim c.loop-j-test.branch [ then-loop-j-test+else-kept-gt0 w ↦ inr w.if-kept-gt0.false | else-loop-j-test w ↦ inl w.loop-j-test.false ] in
    (λ i. front i ++ copied.back i)
    ∙ united_rest cells gained (drop c.loop-j.free cells) kept j c.requires.gained ended
    ∙ was.merged
