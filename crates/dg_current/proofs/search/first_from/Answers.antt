use Rattle.dg_current.proofs.SortedSearches.{first_found, first_missed}
use Rattle.dg_current.proofs.search.first_from.Goals as goal

pub returns-in-Ok : goal.returns-in-Ok
returns-in-Ok c = first_found c.args.element.now c.args.items.now c.requires c.in-Ok.index c.in-Ok.ensures.bound c.in-Ok.ensures.position

pub returns-in-Err : goal.returns-in-Err
returns-in-Err c = first_missed c.args.element.now c.args.items.now c.requires c.in-Err.index c.in-Err.ensures.bound c.in-Err.ensures.position
