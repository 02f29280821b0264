use Rattle.std.proofs.Common.{◌≡◌, true, false, not, ◌&&◌, is_some, sym, ap, ◌∙◌}
use Rattle.std.specs.List.{list_any}
use Rattle.dg_graph.specs.declared.element.Element.TheVariants as element
use Rattle.dg_graph.specs.Completion.{has_node, edge_of, node_value, edge_value, needs_edge, is_found, is_value_change, is_change_of}
use Rattle.dg_current.proofs.completion.is_change_of.Goals as goal

pub returns-then-is_none : goal.returns-then-is_none
returns-then-is_none c =
    let set = c.args.graph.now.set in
    let at = c.in-EdgeAdded in
    let none : false ≡ is_some (edge_of set at.id) = sym (ap not c.if-is_none.true) ∙ sym c.is_none.ensures ∙ ap is_some {y = edge_of set at.id} c.edge_of.ensures in
    c.has_nodes.ensures ∙ ap (λ b. not b && (has_node set at.src && has_node set at.dst)) none ∙ ap (is_change_of set) (sym at.is)

pub returns-else-is_none : goal.returns-else-is_none
returns-else-is_none c =
    let set = c.args.graph.now.set in
    let at = c.in-EdgeAdded in
    let some : true ≡ is_some (edge_of set at.id) = sym (ap not c.if-is_none.false) ∙ sym c.is_none.ensures ∙ ap is_some {y = edge_of set at.id} c.edge_of.ensures in
    c.if-is_none.false ∙ ap (λ b. not b && (has_node set at.src && has_node set at.dst)) some ∙ ap (is_change_of set) (sym at.is)

pub returns-then-is_found : goal.returns-then-is_found
returns-then-is_found c =
    let set = c.args.graph.now.set in
    let at = c.in-EdgeRemoved in
    let edge = element.Edge at.directed at.id at.src at.dst in
    let found : true ≡ is_found (edge_of set at.id) edge = sym c.if-is_found.true ∙ c.is_found.ensures ∙ ap (λ o. is_found o edge) c.edge_of-in-EdgeRemoved.ensures in
    ap not c.is_needed-then-is_found.ensures ∙ ap (λ b. b && not (list_any (needs_edge at.id) set)) found ∙ ap (is_change_of set) (sym at.is)

pub returns-else-is_found : goal.returns-else-is_found
returns-else-is_found c =
    let set = c.args.graph.now.set in
    let at = c.in-EdgeRemoved in
    let edge = element.Edge at.directed at.id at.src at.dst in
    let other : false ≡ is_found (edge_of set at.id) edge = sym c.if-is_found.false ∙ c.is_found.ensures ∙ ap (λ o. is_found o edge) c.edge_of-in-EdgeRemoved.ensures in
    c.if-is_found.false ∙ ap (λ b. b && not (list_any (needs_edge at.id) set)) other ∙ ap (is_change_of set) (sym at.is)

pub returns-then-has_node-2 : goal.returns-then-has_node-2
returns-then-has_node-2 c =
    let set = c.args.graph.now.set in
    let at = c.in-NodeAttr in
    let there : true ≡ has_node set at.id = sym c.if-has_node-2.true ∙ c.has_node-in-NodeAttr.ensures in
    c.is_value_change.ensures ∙ ap (λ o. is_value_change o at.old at.new) c.node_value.ensures
    ∙ ap (λ b. b && is_value_change (node_value set at.id at.key) at.old at.new) there ∙ ap (is_change_of set) (sym at.is)

pub returns-then-is_some : goal.returns-then-is_some
returns-then-is_some c =
    let set = c.args.graph.now.set in
    let at = c.in-EdgeAttr in
    let there : true ≡ is_some (edge_of set at.id) = sym c.if-is_some.true ∙ c.is_some.ensures ∙ ap is_some {y = edge_of set at.id} c.edge_of-in-EdgeAttr.ensures in
    c.is_value_change-then-is_some.ensures ∙ ap (λ o. is_value_change o at.old at.new) c.edge_value.ensures
    ∙ ap (λ b. b && is_value_change (edge_value set at.id at.key) at.old at.new) there ∙ ap (is_change_of set) (sym at.is)

pub returns-else-is_some : goal.returns-else-is_some
returns-else-is_some c =
    let set = c.args.graph.now.set in
    let at = c.in-EdgeAttr in
    let none : false ≡ is_some (edge_of set at.id) = sym c.if-is_some.false ∙ c.is_some.ensures ∙ ap is_some {y = edge_of set at.id} c.edge_of-in-EdgeAttr.ensures in
    c.if-is_some.false ∙ ap (λ b. b && is_value_change (edge_value set at.id at.key) at.old at.new) none ∙ ap (is_change_of set) (sym at.is)
