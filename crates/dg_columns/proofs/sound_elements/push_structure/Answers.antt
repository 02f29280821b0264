use Rattle.std.proofs.Common.{◌≡◌, ◌≤◌, ◌++◌, List, drop, length, Ok, sym, ap, ◌∙◌, arith}
use Rattle.std.proofs.lemmas.List.{drop-append-le, length-take, take-append-drop}
use Rattle.std.proofs.lemmas.Option.{IfSome_then}
use Rattle.dg_graph.specs.declared.element.Element.{Element}
use Rattle.dg_columns.specs.Added.{IsKept, added}
use Rattle.dg_columns.proofs.FieldElements.{after_front}
use Rattle.dg_columns.proofs.sound_elements.push_structure.Goals as goal

-- what is added twice is added
added_twice : (old mid new : List Element) → IsKept old mid → IsKept mid new → added old mid ++ added mid new ≡ added old new
added_twice old mid new front kept =
    let le : length old ≤ length mid = omega (arith, length-take (length old) mid, ap length front) in
    sym (drop-append-le (length old) mid (drop (length mid) new) le)
    ∙ ap (λ (xs : List Element). drop (length old) (xs ++ drop (length mid) new)) (sym kept)
    ∙ ap (drop (length old)) (take-append-drop (length mid) new)

pub returns-clause-elements : goal.returns-clause-elements
returns-clause-elements c =
    let old = c.args.items.now.items in
    let mid = c.push_nodes-offset.new.items.items in
    let new = c.push_edges.new.items.items in
    IfSome_then c.push_edges.result c.push_edges.ensures.elements
    (λ end read. sym c.push_nodes-offset.ensures.elements ∙ ap (after_front (added old mid)) read ∙ ap (λ (xs : List Element). Ok (xs, end)) (added_twice old mid new c.push_nodes-offset.ensures.kept c.push_edges.ensures.kept))
