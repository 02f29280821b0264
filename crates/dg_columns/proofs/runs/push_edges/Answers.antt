use Rattle.std.proofs.Common.{◌+◌, ◌≤◌, ◌∷◌, drop, [], refl, ◌∙◌, length, arith}
use Rattle.std.proofs.lemmas.List.{drop-append-le, take-append-le}
use Rattle.dg_graph.specs.declared.element.Column.TheVariants as column
use Rattle.dg_graph.specs.declared.element.Element.{Element}
use Rattle.dg_graph.specs.ColumnGrammar.{elements_at}
use Rattle.dg_columns.specs.Runs.{edge_of, last_node, last_edge}
use Rattle.dg_columns.proofs.FieldElements.{goes_on}
use Rattle.dg_columns.proofs.runs.push_edges.Goals as goal

pub loop-preserved : goal.loop-preserved
loop-preserved c =
    let x : Element = edge_of c.in_ok-edge.edge in
    let bytes = c.args.bytes.now in
    let names = c.args.name_count in
    let items = c.loop.items.items in
    let first = length c.args.items.now.items in
    let total = elements_at c.args.count column.Structure names bytes [] c.args.start (last_node c.args.node) in
    let le : first ≤ length items = omega (arith, c.loop.invariant.len) in
    let grown = drop-append-le first items (x ∷ []) le in
    record {
      so_far = rw (c.push_reserved.ensures.items, c.edge_of.ensures, grown)
          (goes_on column.Structure names bytes [] (drop first items) c.args.count c.loop.counter c.loop.offset (last_edge c.args.node c.loop.last) total c.loop-test.true x (c.loop.offset + 26) refl c.in_ok-edge.ensures.edge c.loop.invariant.so_far);
      kept = rw (c.push_reserved.ensures.items, c.edge_of.ensures) (take-append-le first items (x ∷ []) le ∙ c.loop.invariant.kept);
      within = omega (arith, c.in_ok-edge.ensures.fits);
      len = omega arith;
      room = omega arith;
    }
