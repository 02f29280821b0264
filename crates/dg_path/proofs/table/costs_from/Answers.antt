use Rattle.std.proofs.Common.{◌≡◌, [], ◌∷◌, length, replicate, sym, subst, ◌∙◌, arith, rules}
use Rattle.dg_path.specs.declared.search.TheConstants.{UNREACHED}
use Rattle.dg_path.specs.Search.{arcs, IsTable}
use Rattle.dg_path.proofs.SearchStarts.{far_table, put_back}
use Rattle.dg_path.proofs.table.costs_from.Goals as goal

pub returns-clause-table : goal.returns-clause-table
returns-clause-table c =
    let far : c.in_ok-costs.costs.items ≡ replicate c.args.nodes UNREACHED = search rules in
    let start : c.deref_mut.result.now ≡ replicate c.args.nodes UNREACHED = c.deref_mut.ensures.value ∙ far in
    let t : IsTable (arcs c.args.links.now) [] c.deref_mut.result.now = subst (IsTable (arcs c.args.links.now) []) (sym start) (far_table (arcs c.args.links.now) c.args.nodes) in
    let done = c.in_ok-start_at.ensures.table [] t in
    let here : length c.start_at.new.costs ≡ c.in_ok-costs.costs.len = (let a = c.start_at.auto.costs in let b = c.deref_mut.ensures.len in omega arith) in
    let there : length c.in_ok-costs.costs.items ≡ c.in_ok-costs.costs.len = (let a = c.in_ok-costs.costs.ok.0 in omega arith) in
    subst (IsTable (arcs c.args.links.now) (c.args.start ∷ [])) (sym (put_back c.in_ok-costs.costs.len c.start_at.new.costs c.in_ok-costs.costs.items here there)) done
