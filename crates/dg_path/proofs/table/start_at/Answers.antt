use Rattle.std.proofs.Common.{[], ◌∷◌}
use Rattle.dg_path.specs.Search.{arcs}
use Rattle.dg_path.proofs.SearchStarts.{table_after, known_after, on_ok_from}
use Rattle.dg_path.proofs.table.start_at.Goals as goal

pub settle-requires-clause-waits : goal.settle-requires-clause-waits
settle-requires-clause-waits c = known_after (arcs c.args.links.now) _ _ _ _ _ c.requires.settled c.in_ok-add_start.ensures.added

pub returns-clause-table : goal.returns-clause-table
returns-clause-table c =
    on_ok_from c.settle.result _ _ _ _ c.settle.ensures.settled c.settle.ensures.falls c.settle.ensures.walks
    (λ settled falls walks starts t. table_after (arcs c.args.links.now) starts (c.args.node ∷ []) c.args.costs.now c.add_start.new.costs c.settle.new.costs _ _ t c.in_ok-add_start.ensures.added settled falls walks)
