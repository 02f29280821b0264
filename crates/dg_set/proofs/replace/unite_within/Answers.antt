use Rattle.std.proofs.Common.{◌-◌, ◌++◌, length, take, ap, ◌∙◌, arith}
use Rattle.std.proofs.lemmas.List.{take_rest}
use Rattle.dg_graph.specs.Sets.{unioned}
use Rattle.dg_set.proofs.SetsWithin.{closed}
use Rattle.dg_set.proofs.replace.unite_within.Goals as goal

pub returns-clause-merged : goal.returns-clause-merged
returns-clause-merged c =
    let items = c.args.items.now in
    let start = c.args.start in
    let merge = c.merge_behind-end in
    let merged = closed items merge.new.cells c.move_down.new.cells start (length items - start) _ merge.result.0 merge.result.1 (omega arith) (omega arith) merge.ensures.order merge.ensures.within c.move_down.ensures.front in
    merged
    ∙ ap (λ l. take start items ++ l) merge.ensures.merged
    ∙ ap (λ l. take start items ++ unioned (take (c.args.middle - start) l) c.args.gained.now) (take_rest items start)
