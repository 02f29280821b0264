use Rattle.std.proofs.Common.{◌≡◌, ◌+◌, ◌≤◌, ◌∷◌, Bool, true, false, drop, [], None, refl, ap, ◌∙◌, length, arith}
use Rattle.std.proofs.lemmas.List.{drop-append-le, take-append-le}
use Rattle.dg_graph.specs.declared.element.Element.{Element}
use Rattle.dg_graph.specs.ColumnGrammar.{element_size, elements_at}
use Rattle.dg_columns.specs.declared.delta_reader.AttrFields.{AttrFields}
use Rattle.dg_columns.specs.Runs.{value_of, value_column, last_value}
use Rattle.dg_columns.proofs.FieldElements.{goes_on}
use Rattle.dg_columns.proofs.runs.push_values.Goals as goal

-- a value takes as many bytes whether it is of an edge or of a node
size : (of_edge : Bool) (v : AttrFields) → 16 ≡ element_size (value_of of_edge v)
size true v = refl
size false v = refl

pub loop-preserved : goal.loop-preserved
loop-preserved c =
    let x : Element = value_of c.args.of_edge c.in_ok-value.value in
    let bytes = c.args.bytes.now in
    let names = c.args.name_count in
    let items = c.loop.items.items in
    let first = length c.args.items.now.items in
    let total = elements_at c.args.count (value_column c.args.of_edge) names bytes [] c.args.start None in
    let le : first ≤ length items = omega (arith, c.loop.invariant.len) in
    let grown = drop-append-le first items (x ∷ []) le in
    record {
      so_far = rw (c.push_reserved.ensures.items, c.value_of.ensures, grown)
          (goes_on (value_column c.args.of_edge) names bytes [] (drop first items) c.args.count c.loop.counter c.loop.offset (last_value c.args.of_edge c.loop.last) total c.loop-test.true x (c.loop.offset + 16) (ap (λ n. c.loop.offset + n) (size c.args.of_edge c.in_ok-value.value)) c.in_ok-value.ensures.value c.loop.invariant.so_far);
      kept = rw (c.push_reserved.ensures.items, c.value_of.ensures) (take-append-le first items (x ∷ []) le ∙ c.loop.invariant.kept);
      within = omega (arith, c.in_ok-value.ensures.fits);
      len = omega arith;
      room = omega arith;
    }
