use Rattle.std.proofs.Common.{◌≡◌, ℕ, List, [], Option, Some, None, Ok}
use Rattle.std.specs.Prelude.{IfSome, IsSome}
use Rattle.std.proofs.lemmas.Option.{IfSome_then}
use Rattle.dg_graph.specs.declared.element.Column.{Column}
use Rattle.dg_graph.specs.declared.element.Element.{Element}
use Rattle.dg_graph.specs.Elements.{IsSet}
use Rattle.dg_graph.specs.ColumnGrammar.{elements_at}
use Rattle.dg_columns.proofs.ColumnGrammarDeltas.{delta_from}
use Rattle.dg_columns.proofs.FieldElements.{elements_keep}
use Rattle.dg_columns.proofs.SoundEnds.{given}
use Rattle.dg_columns.proofs.delta_reader.push_sets.Goals as goal

-- elements that are read rise, if they are read to some end
rising : (r : Option ℕ) (count : ℕ) (col : Column) (names : ℕ) (bytes : List ℕ) (at : ℕ) (xs : List Element) → IfSome r (λ end. elements_at count col names bytes [] at None ≡ Ok (xs, end)) → IsSome r → IsSet xs
rising None count col names bytes at xs read some = absurd cc
rising (Some end) count col names bytes at xs read some = (elements_keep count col names bytes [] at None xs end read).set

pub returns-clause-minus_set : goal.returns-clause-minus_set
returns-clause-minus_set c =
    λ some. (elements_keep c.in_ok-out_count.out_count c.args.col c.args.name_count c.args.bytes.now [] 4 None _ c.in_ok-offset.offset c.in_ok-offset.ensures.elements).set

pub returns-clause-plus_set : goal.returns-clause-plus_set
returns-clause-plus_set c =
    rising c.push_elements-2.result c.in_ok-in_count.in_count c.args.col c.args.name_count c.args.bytes.now _ _ c.push_elements-2.ensures.elements

pub returns-clause-sound : goal.returns-clause-sound
returns-clause-sound c =
    let bytes = c.args.bytes.now in
    let out = c.in_ok-out_count.out_count in
    let into = c.in_ok-in_count.in_count in
    let e = given (λ (n : ℕ). n) c.u32_at.result _ out c.in_ok-out_count.ensures.value c.u32_at.ensures.number in
    let g = given (λ (n : ℕ). n) c.in_count_at.result _ into c.in_ok-in_count.ensures.value c.in_count_at.ensures.number in
    IfSome_then c.push_elements-2.result c.push_elements-2.ensures.elements
    (λ end read whole apart. delta_from c.args.col c.args.name_count bytes out into c.in_ok-offset.offset end _ _ e c.in_ok-offset.ensures.elements g read apart whole)
