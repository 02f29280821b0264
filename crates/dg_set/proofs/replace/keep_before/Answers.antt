use Rattle.std.proofs.Common.{◌≡◌, ◌+◌, ◌<◌, [], ◌∷◌, ◌++◌, ◌-◌, length, take, drop, get_or, append_assoc, sym, ap, ◌∙◌, arith}
use Rattle.std.proofs.lemmas.List.{take_more}
use Rattle.std.specs.declared.cmp.Ordering.TheVariants.{Less, Equal, Greater}
use Rattle.std.specs.Ordering.{is_lt}
use Rattle.dg_graph.specs.declared.element.Element.TheVariants.{Node}
use Rattle.dg_graph.proofs.Sets.{before_from_Greater}
use Rattle.dg_set.specs.Indices.{IsRange}
use Rattle.dg_set.proofs.Indices.{compared}
use Rattle.dg_set.proofs.Ranges.{narrowed_front, narrowed_back, range_none, range_one}
use Rattle.dg_set.proofs.SetReplacements.{few_and_more}
use Rattle.dg_set.proofs.replace.keep_before.Goals as goal
use Rattle.dg_set.proofs.replace.keep_before.Goals.{In-Equal, In-Greater}

found : (c : In-Equal) → IsRange c.args.element.now c.args.items.now c.loop-index.index (c.loop-index.index + 1)
found c =
    let xs = c.args.items.now in
    let x = c.args.element.now in
    let index = c.loop-index.index in
    let near = c.loop-index.invariant.near in
    let order = compared (get_or xs index (Node 0)) x Equal c.cmp.result c.cmp.ensures c.in-Equal.is in
    range_one x xs index (length xs) index (Node 0) c.requires.set near (omega arith) (omega arith) order

passed : (c : In-Greater) → IsRange c.args.element.now c.args.items.now c.loop-index.index c.loop-index.index
passed c =
    let xs = c.args.items.now in
    let x = c.args.element.now in
    let index = c.loop-index.index in
    let near = c.loop-index.invariant.near in
    let order = compared (get_or xs index (Node 0)) x Greater c.cmp.result c.cmp.ensures c.in-Greater.is in
    let nearer = narrowed_back x xs index (length xs) index (Node 0) c.requires.set near (omega arith) (omega arith) (before_from_Greater (get_or xs index (Node 0)) x order) in
    range_none x xs index index nearer (omega arith)

pub returns-in-Equal-clause-kept : goal.returns-in-Equal-clause-kept
returns-in-Equal-clause-kept c =
    c.loop-index.invariant.written ∙ ap (λ l. c.args.kept.now.items ++ l) (found (goal.at.returns-in-Equal-clause-kept c).In-Equal).front

pub returns-in-Equal-clause-rest : goal.returns-in-Equal-clause-rest
returns-in-Equal-clause-rest c = (found (goal.at.returns-in-Equal-clause-rest c).In-Equal).back

pub returns-in-Greater-clause-kept : goal.returns-in-Greater-clause-kept
returns-in-Greater-clause-kept c =
    c.loop-index.invariant.written ∙ ap (λ l. c.args.kept.now.items ++ l) (passed (goal.at.returns-in-Greater-clause-kept c).In-Greater).front

pub returns-in-Greater-clause-rest : goal.returns-in-Greater-clause-rest
returns-in-Greater-clause-rest c = (passed (goal.at.returns-in-Greater-clause-rest c).In-Greater).back

pub loop-index-preserved : goal.loop-index-preserved
loop-index-preserved c =
    let xs = c.args.items.now in
    let x = c.args.element.now in
    let index = c.loop-index.index in
    let item = get_or xs index (Node 0) in
    let were = c.args.kept.now.items in
    let lt : index < length xs = omega arith in
    let order = compared item x Less c.cmp.result c.cmp.ensures c.in-Less.is in
    record {
      written = c.push_reserved.ensures.items
          ∙ ap (λ l. l ++ item ∷ []) c.loop-index.invariant.written
          ∙ append_assoc were (take index xs) (item ∷ [])
          ∙ ap (λ l. were ++ l) (sym (take_more xs index (Node 0) lt));
      near = narrowed_front x xs index (length xs) index (Node 0) c.requires.set c.loop-index.invariant.near (omega arith) lt (ap is_lt order);
      long = omega arith;
      capacity = omega arith;
    }

pub returns-clause-kept : goal.returns-clause-kept
returns-clause-kept c =
    let xs = c.args.items.now in
    let were = c.args.kept.now.items in
    let few = c.min-few.result in
    let end = c.range_from-end.result.0 in
    let ended : c.loop-index.index ≡ few = omega arith in
    let front = take few xs in
    let more = take (end - few) (drop few xs) in
    c.in_ok-extend_from_slice.ensures.items
    ∙ ap (λ l. l ++ more) (c.loop-index.invariant.written ∙ ap (λ n. were ++ take n xs) ended)
    ∙ append_assoc were front more
    ∙ ap (λ l. were ++ l) (few_and_more xs few end c.range_from-end.ensures.behind ∙ c.range_from-end.ensures.range.front)
