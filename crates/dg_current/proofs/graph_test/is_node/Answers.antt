use Rattle.std.proofs.Common.{◌∙◌}
use Rattle.dg_current.proofs.SortedSearches.{among}
use Rattle.dg_current.proofs.graph_test.is_node.Goals as goal

pub returns-else-stands_as_numbered : goal.returns-else-stands_as_numbered
returns-else-stands_as_numbered c = c.is_ok.ensures.value ∙ among c.args.nodes.now c.args.id c.binary_search.result c.requires c.binary_search.ensures.position
