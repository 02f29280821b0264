use Rattle.std.proofs.Common.{◌≡◌, ◌+◌, ◌-◌, ◌++◌, length, take, drop, sym, ap, ◌∙◌, subst, arith}
use Rattle.std.proofs.lemmas.List.{take-take, take_at}
use Rattle.dg_graph.specs.Elements.{IsSet}
use Rattle.dg_graph.specs.Sets.{unioned, without_all}
use Rattle.dg_graph.proofs.Sets.{IsSet-without_all}
use Rattle.dg_set.proofs.SetsWithin.{before_part, part_itself}
use Rattle.dg_set.proofs.replace.replace_within.Goals as goal
use Rattle.dg_set.proofs.replace.replace_within.Goals.{After-deref_mut-2}

-- the items after the first walk, as far as its answer
thinned : (c : After-deref_mut-2)
    → take c.thin_within-left.result c.deref_mut-2.result.now ≡ take c.args.start c.args.items.now.items ++ without_all (take (c.args.middle - c.args.start) (drop c.args.start c.args.items.now.items)) c.args.lost.now
thinned c =
    let start = c.args.start in
    let many = c.args.middle - start in
    let left = c.thin_within-left.result in
    let room = left + length c.args.gained.now in
    let back = c.deref_mut-2.ensures.value ∙ c.truncate.ensures.items ∙ ap (take room) (take_at c.thin_within-left.new.items _ _ (omega arith)) in
    ap (take left) back
    ∙ take-take left room c.thin_within-left.new.items (omega arith)
    ∙ c.thin_within-left.ensures.left
    ∙ ap (λ l. take start l ++ without_all (take many (drop start l)) c.args.lost.now) c.deref_mut.ensures.value

pub unite_within-len-requires-clause-set : goal.unite_within-len-requires-clause-set
unite_within-len-requires-clause-set c =
    let items = c.args.items.now.items in
    let start = c.args.start in
    let set = take (c.args.middle - start) (drop start items) in
    let part = part_itself items (without_all set c.args.lost.now) c.deref_mut-2.result.now start c.thin_within-left.result c.thin_within-left.ensures.order (omega arith) (thinned c) in
    subst IsSet (sym part) (IsSet-without_all set c.args.lost.now c.requires.set)

pub returns : goal.returns
returns c =
    let items = c.args.items.now.items in
    let start = c.args.start in
    let left = c.thin_within-left.result in
    let now = c.deref_mut-2.result.now in
    let set = take (c.args.middle - start) (drop start items) in
    let kept = without_all set c.args.lost.now in
    let order = c.thin_within-left.ensures.order in
    let written = thinned (goal.at.returns c).After-deref_mut-2 in
    let front = before_part items kept now start left order (omega arith) written in
    let part = part_itself items kept now start left order (omega arith) written in
    c.truncate-2.ensures.items
    ∙ ap (take c.unite_within-len.result) (take_at c.unite_within-len.new.items _ _ (omega arith))
    ∙ c.unite_within-len.ensures.merged
    ∙ (λ i. front i ++ unioned (part i) c.args.gained.now)
