use Rattle.dg_append.proofs.FrontEvents.{last_small, last_told}
use Rattle.dg_append.proofs.completion.last_of.Goals as goal

pub returns-clause-last : goal.returns-clause-last
returns-clause-last c = last_told c.args.index.now.opening.batches c.last_time.result c.last_time.ensures

pub returns-clause-small : goal.returns-clause-small
returns-clause-small c = last_small c.args.index.now.opening.batches c.last_time.result c.last_time.ensures c.facts.ensures.earliest
