use Rattle.std.proofs.Common.{◌≡◌, ℕ, ◌+◌, ◌-◌, ◌≤◌, List, length, take, drop, ◌++◌, sym, ap, ◌∙◌, arith, Some, length-take, take-append-drop}
use Rattle.std.proofs.lemmas.List.{take_at, drop-drop}
use Rattle.dg_io.specs.MemoryForms.{SourceState}
use Rattle.dg_io.proofs.memory.MemorySourceSource.read.Goals as goal

-- what is left, where the next n bytes of it were copied
given_front : (left bytes items copied into : List ℕ) (given n : ℕ) → drop given items ≡ left → bytes ≡ items → copied ≡ take (given + n - given) (drop given bytes) → length copied ≡ length (take n into) → n ≤ length into
    → left ≡ take n (copied ++ drop n into) ++ drop (given + n) items
given_front left bytes items copied into given n is same by len fits =
    let count : given + n - given ≡ n = omega arith in
    let whole : length copied ≡ n = omega (arith, len, length-take n into) in
    let front : copied ≡ take n (drop given items) = by ∙ ap (λ k. take k (drop given bytes)) count ∙ ap (λ (b : List ℕ). take n (drop given b)) same in
    sym is ∙ sym (take-append-drop n (drop given items))
    ∙ ap (λ l. l ++ drop n (drop given items)) (sym front ∙ sym (take_at copied (drop n into) n whole))
    ∙ ap (λ l. take n (copied ++ drop n into) ++ l) (drop-drop n given items)

pub returns-clause-given : goal.returns-clause-given
returns-clause-given c =
    ap Some (given_front c.args.self.now.left c.deref.result.now c.self.inside.bytes.items c.copy_from_slice.new.self c.args.into.now c.self.inside.given c.min-count.result
    (ap (λ (s : SourceState). s.left) c.self.view_is) c.deref.ensures.value c.copy_from_slice.ensures.after c.copy_from_slice.ensures.len
    (omega (arith, c.min-count.ensures, c.min.ensures)))
