use Rattle.std.proofs.Common.{◌≡◌, take, map}
use Rattle.dg_planner.specs.Links.{link_in}
use Rattle.dg_planner.proofs.links.make_links.Given as goal

abbrev pub invariant-loop-edge : goal.invariant-loop-edge
invariant-loop-edge l = l.links.items ≡ map (link_in l.form.leaves l.form.arity l.form.memory) (take l.edge-index l.edges)
