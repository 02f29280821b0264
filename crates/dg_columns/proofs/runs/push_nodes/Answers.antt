use Rattle.std.proofs.Common.{◌+◌, ◌≤◌, ◌∷◌, drop, [], None, refl, ◌∙◌, length, arith}
use Rattle.std.proofs.lemmas.List.{drop-append-le, take-append-le}
use Rattle.dg_graph.specs.declared.element.Column.TheVariants as column
use Rattle.dg_graph.specs.declared.element.Element.{Element}
use Rattle.dg_graph.specs.ColumnGrammar.{elements_at}
use Rattle.dg_columns.specs.Runs.{node_of, last_node}
use Rattle.dg_columns.proofs.FieldElements.{goes_on}
use Rattle.dg_columns.proofs.runs.push_nodes.Goals as goal

pub loop-read-preserved : goal.loop-read-preserved
loop-read-preserved c =
    let x : Element = node_of c.in-Some.id in
    let bytes = c.args.bytes.now in
    let names = c.args.name_count in
    let items = c.loop-read.items.items in
    let first = length c.args.items.now.items in
    let total = elements_at c.args.count column.Structure names bytes [] c.args.start None in
    let le : first ≤ length items = omega (arith, c.loop-read.invariant.len) in
    let grown = drop-append-le first items (x ∷ []) le in
    record {
      so_far = rw (c.push_reserved.ensures.items, grown)
          (goes_on column.Structure names bytes [] (drop first items) c.args.count c.loop-read.read c.loop-read.offset (last_node c.loop-read.last) total c.loop-read-test.true x (c.loop-read.offset + 9) refl c.in-Some.ensures.node c.loop-read.invariant.so_far);
      kept = rw (c.push_reserved.ensures.items) (take-append-le first items (x ∷ []) le ∙ c.loop-read.invariant.kept);
      within = omega (arith, c.in-Some.ensures.fits);
      len = omega arith;
      room = omega arith;
    }
