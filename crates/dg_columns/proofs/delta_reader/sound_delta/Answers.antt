use Rattle.std.proofs.Common.{◌≡◌, ℕ, List, Option, Some, None, Result, Ok, refl, sym, ap, ◌∙◌}
use Rattle.std.specs.Prelude.{IfSome, IsSome}
use Rattle.dg_graph.specs.declared.element.Element.{Element}
use Rattle.dg_graph.specs.Composition.{Delta}
use Rattle.dg_set.specs.Apart.{AreApart}
use Rattle.dg_columns.proofs.ColumnGrammarDeltas.{delta_from}
use Rattle.dg_columns.proofs.SoundEnds.{given}
use Rattle.dg_columns.proofs.delta_reader.sound_delta.Goals as goal

delta_is : (r : Option Delta) (minus plus : List Element) (read : Result Delta ℕ) → (IsSome r → AreApart minus plus) → IfSome r (λ d. d ≡ record { minus = minus; plus = plus }) → (AreApart minus plus → read ≡ Ok (record { minus = minus; plus = plus })) → IfSome r (λ d. read ≡ Ok d)
delta_is None minus plus read apart is found = tt
delta_is (Some d) minus plus read apart is found = found (apart refl) ∙ ap (λ (z : Delta). Ok z) (sym is)

pub returns-then-end-bytes : goal.returns-then-end-bytes
returns-then-end-bytes c =
    let bytes = c.args.bytes.now in
    let count = c.in_ok-out_count.out_count in
    let minus : List Element = c.in_ok-minus.minus in
    let plus : List Element = c.in_ok-plus.plus in
    let m = c.in_ok-minus.offset in
    let n = c.in_ok-plus.end in
    let more = c.in_ok-in_count.in_count in
    let e = given (λ (n : ℕ). n) c.u32_at.result _ count c.in_ok-out_count.ensures.value c.u32_at.ensures.number in
    let g = given (λ (n : ℕ). n) c.in_count_at.result _ more c.in_ok-in_count.ensures.value c.in_count_at.ensures.number in
    delta_is c.from_sets.result minus plus _ c.from_sets.ensures.exact.0 c.from_sets.ensures.sets
    (λ apart. delta_from c.args.col c.args.name_count bytes count more m n minus plus e c.in_ok-minus.ensures.elements g c.in_ok-plus.ensures.elements apart c.if-end-bytes.true)
