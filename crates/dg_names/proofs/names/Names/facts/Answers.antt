use Rattle.std.proofs.Common.{subst}
use Rattle.std.specs.List.{IsDistinct}
use Rattle.std.specs.Str.{bytes_eq}
use Rattle.dg_names.proofs.NameLimitNumbers.{distinct-map, number_here, one_number}
use Rattle.dg_names.proofs.names.Names.facts.Goals as goal

are_distinct : (c : goal.After-len) → IsDistinct bytes_eq c.args.self.now
are_distinct c = subst (IsDistinct bytes_eq) c.self.view_is (distinct-map (λ k. k.items) _ c.len.ensures.unique)

pub returns-clause-distinct : goal.returns-clause-distinct
returns-clause-distinct c = are_distinct c

pub returns-clause-number : goal.returns-clause-number
returns-clause-number c = number_here c.args.self.now (are_distinct c)

pub returns-clause-one_number : goal.returns-clause-one_number
returns-clause-one_number c = one_number c.args.self.now (are_distinct c)
