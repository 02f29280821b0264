use Rattle.dg_set.proofs.Indices.{searched_found, searched_lacks}
use Rattle.dg_set.proofs.search.index_of.Goals as goal

pub returns-clause-found : goal.returns-clause-found
returns-clause-found c =
    let x = c.args.element.now in
    let xs = c.args.items.now in
    let r = c.binary_search.result in
    searched_found x xs r c.requires c.binary_search.ensures.bound
    c.binary_search.ensures.position

pub returns-clause-lacks : goal.returns-clause-lacks
returns-clause-lacks c =
    let x = c.args.element.now in
    let xs = c.args.items.now in
    let r = c.binary_search.result in
    searched_lacks x xs r c.requires c.binary_search.ensures.bound
    c.binary_search.ensures.position
