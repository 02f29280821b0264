use Rattle.std.proofs.Common.{◌≡◌, ◌⊎◌, inl, inr, ℕ, List, [], None, Ok, sym, ap, ◌∙◌, arith}
use Rattle.std.proofs.lemmas.Option.{IfSome_then}
use Rattle.dg_graph.specs.declared.element.Element.{Element}
use Rattle.dg_graph.specs.ColumnGrammar.{elements_at}
use Rattle.dg_columns.proofs.FieldElements.{elements_are}
use Rattle.dg_columns.proofs.SoundEnds.{given, none_taken, delta_ends}
use Rattle.dg_columns.proofs.delta_reader.end_of_changes.Goals.{then-out_count-eq0-via-then-out_count-eq0, then-out_count-eq0-via-else-out_count-eq0+then-in_count-eq0}
use Rattle.dg_columns.proofs.delta_reader.end_of_changes.Goals as goal

pub returns-then-out_count-eq0 : goal.returns-then-out_count-eq0
returns-then-out_count-eq0 c =
    let bytes = c.args.bytes.now in
    let col = c.args.col in
    let names = c.args.name_count in
    let out = c.in_ok-out_count.out_count in
    let into = c.in_ok-in_count.in_count in
    let m = c.in_ok-offset.offset in
    let minus : List Element = c.in_ok-offset.ensures.elements.0 in
    let none : List Element = c.new-none.result in
    let e = given (λ (n : ℕ). n) c.u32_at.result _ out c.in_ok-out_count.ensures.value c.u32_at.ensures.number in
    let g = given (λ (n : ℕ). n) c.in_count_at.result _ into c.in_ok-in_count.ensures.value c.in_count_at.ensures.number in
    let f : elements_at out col names bytes [] 4 None ≡ Ok (minus, m) = ap (λ s. elements_at out col names bytes s 4 None) (sym c.new-none.ensures) ∙ c.in_ok-offset.ensures.elements.1 in
    let which : (none ≡ minus) ⊎ (into ≡ 0) = elim c.then-out_count-eq0.branch [
      | then-out_count-eq0-via-then-out_count-eq0 w ↦ inl (c.new-none.ensures ∙ none_taken out col names bytes 4 minus m (omega (arith, w.if-out_count-eq0.true)) f)
      | then-out_count-eq0-via-else-out_count-eq0+then-in_count-eq0 w ↦ inr (omega (arith, w.if-in_count-eq0.true))
    ] in
    IfSome_then c.end_here-then-out_count-eq0.result c.end_here-then-out_count-eq0.ensures.elements
    (λ end list. delta_ends col names bytes out into m end minus none e f g which list)

pub returns : goal.returns
returns c =
    let bytes = c.args.bytes.now in
    let col = c.args.col in
    let names = c.args.name_count in
    let out = c.in_ok-out_count.out_count in
    let into = c.in_ok-in_count.in_count in
    let m = c.in_ok-offset.offset in
    let minus : List Element = c.in_ok-offset.ensures.elements.0 in
    let kept : List Element = c.in_ok-minus.minus in
    let e = given (λ (n : ℕ). n) c.u32_at.result _ out c.in_ok-out_count.ensures.value c.u32_at.ensures.number in
    let g = given (λ (n : ℕ). n) c.in_count_at.result _ into c.in_ok-in_count.ensures.value c.in_count_at.ensures.number in
    let f : elements_at out col names bytes [] 4 None ≡ Ok (minus, m) = ap (λ s. elements_at out col names bytes s 4 None) (sym c.new-none.ensures) ∙ c.in_ok-offset.ensures.elements.1 in
    let same : kept ≡ minus = elements_are kept minus c.in_ok-minus.field-0-1 m (sym c.in_ok-minus.ensures.elements ∙ f) in
    IfSome_then c.end_here-2.result c.end_here-2.ensures.elements
    (λ end list. delta_ends col names bytes out into m end minus kept e f g (inl same) list)
