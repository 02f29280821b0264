-- What generated changes ask for is in the ranges of the grammar of changes.
use Rattle.std.proofs.Common.{◌≡◌, ℕ, zero, suc, ◌+◌, ◌*◌, ◌/◌, ◌%◌, ◌<◌, ◌≤◌, ◌^◌, Bool, true, false, not, ◌&&◌, ◌||◌, List, [], ◌∷◌, Some, if◌then◌else◌, codes, decimal, length, refl, ◌∙◌, ap, arith, mod-lt}
use Rattle.std.specs.Prelude.{◌==◌, IfSome}
use Rattle.std.specs.List.{All, list_any}
use Rattle.std.specs.Str.Parse.{AllDigits}
use Rattle.std.proofs.lemmas.Fmt.{decimal_is_IsNumeral, length-decimal-le}
use Rattle.std.proofs.lemmas.List.Elements.{All-nil, All-cons}
use Rattle.std.proofs.lemmas.Str.Parse.{digit_from_value}
use borrow.Author.Tests.{le-leb, lt-ltb}
use Rattle.dg_graph.specs.declared.event.What.TheVariants.{RemoveEdge}
use Rattle.dg_text.specs.declared.limits.TheConstants.{NAME_BYTES_MAX}
use Rattle.dg_text.specs.Names.{is_name}
use Rattle.dg_changes.specs.ChangeGrammar.{WhatByText, Plain, Sets_node, Unsets_node, Unsets_edge}
use Rattle.dg_history.specs.declared.limits.TheConstants.{BATCH_LINES_MAX}
use Rattle.dg_changes.specs.GeneratedChanges.{generated, generated_change, generated_from, generated_what, lettered, next_number, part_of}
use Rattle.dg_batch.proofs.ChangeGrammarRanges.{AskedFits, SaidFits}
use Rattle.dg_batch.proofs.NamesAfter.{no_end}

-- ---- texts

-- digits are of one line
no_ends : (text : List ℕ) → AllDigits 10 text → list_any (λ b. b == 10 || b == 13) text ≡ false
no_ends [] h = refl
no_ends (c ∷ text) h =
    ap (λ x. x || list_any (λ b. b == 10 || b == 13) text) (no_end c (lt-ltb 32 c (omega (arith, digit_from_value c h.0)))) ∙ no_ends text h.1

decimal_ends : (n : ℕ) → n < 2 ^ 64 → list_any (λ b. b == 10 || b == 13) (decimal n) ≡ false
decimal_ends n small = no_ends (decimal n) (decimal_is_IsNumeral n small).0.1

name_if : (text : List ℕ) → length text ≤ NAME_BYTES_MAX → list_any (λ b. b == 10 || b == 13) text ≡ false → is_name text ≡ true
name_if text short ends = ap (λ x. x && not (list_any (λ b. b == 10 || b == 13) text)) (le-leb (length text) NAME_BYTES_MAX short) ∙ ap not ends

decimal_is_name : (n : ℕ) → n < 2 ^ 64 → is_name (decimal n) ≡ true
decimal_is_name n small = name_if (decimal n) (omega (arith, length-decimal-le 20 n (omega arith) (omega arith) small)) (decimal_ends n small)

-- behind a letter too
lettered_is_name : (letter n : ℕ) → 32 < letter → n < 2 ^ 64 → is_name (lettered (letter ∷ []) n) ≡ true
lettered_is_name letter n above small =
    name_if (letter ∷ decimal n) (omega (arith, length-decimal-le 20 n (omega arith) (omega arith) small))
    (ap (λ x. x || list_any (λ b. b == 10 || b == 13) (decimal n)) (no_end letter (lt-ltb 32 letter above)) ∙ decimal_ends n small)

-- ---- changes

-- what holds of both
either : (b : Bool) (x y : WhatByText) → AskedFits x → AskedFits y → AskedFits (if b then x else y)
either true x y h k = h
either false x y h k = k

-- each kind of change, in a group whose number is not large
what_fits : (kind g r : ℕ) → g < 2 ^ 32 → AskedFits (generated_what kind g r)
what_fits kind g r small =
    let some : 0 < 2 * g + 2 = omega arith in
    let below : r % (2 * g + 2) < 2 * g + 2 = mod-lt r some in
    let node : r % (2 * g + 2) + 1 < 2 ^ 64 = omega (arith, small, below) in
    let kinds : r % 5 < 2 ^ 64 = omega arith in
    let weights : r % 100 < 2 ^ 64 = omega arith in
    let edge : g + 1 < 2 ^ 64 = omega (arith, small) in
    let first : 2 * g + 1 < 2 ^ 64 = omega (arith, small) in
    let second : 2 * g + 2 < 2 ^ 64 = omega (arith, small) in
    let eighth : AskedFits (if g % 2 == 0 then Sets_node (2 * g + 2) (codes "name") (lettered (codes "n") g) else Plain (RemoveEdge (g + 1))) =
    either (g % 2 == 0) (Sets_node (2 * g + 2) (codes "name") (lettered (codes "n") g)) (Plain (RemoveEdge (g + 1)))
    (second, refl, lettered_is_name 110 g (omega arith) (omega (arith, small))) edge in
    let seventh : AskedFits (if g % 2 == 0 then Unsets_node (2 * g + 1) (codes "kind") else Unsets_edge (g + 1) (codes "w")) =
    either (g % 2 == 0) (Unsets_node (2 * g + 1) (codes "kind")) (Unsets_edge (g + 1) (codes "w")) (first, refl) (edge, refl) in
    either (kind == 0) _ _ first
    (either (kind == 1) _ _ second
    (either (kind == 2) _ _ (edge, first, node)
    (either (kind == 3) _ _ (first, refl, lettered_is_name 118 (r % 5) (omega arith) kinds)
    (either (kind == 4) _ _ (node, refl, lettered_is_name 118 (r % 5) (omega arith) kinds)
    (either (kind == 5) _ _ (edge, refl, decimal_is_name (r % 100) weights)
    (either (kind == 6) _ _ seventh eighth))))))

change_fits : (i x : ℕ) → i < BATCH_LINES_MAX → SaidFits (generated_change i x)
change_fits i x few = (omega (arith, few), what_fits (i % 8) (i / 8) (part_of x) (omega (arith, few)))

from_fits : (count i x : ℕ) → i + count ≤ BATCH_LINES_MAX → All (λ s. IfSome s SaidFits) (generated_from count i x)
from_fits zero i x few = All-nil (λ s. IfSome s SaidFits)
from_fits (suc count) i x few =
    All-cons (λ s. IfSome s SaidFits) (Some (generated_change i (next_number x))) (generated_from count (i + 1) (next_number x)) (change_fits i (next_number x) (omega (arith, few)))
    (from_fits count (i + 1) (next_number x) (omega (arith, few)))

pub generated_fit : (seed count : ℕ) → count ≤ BATCH_LINES_MAX → All (λ s. IfSome s SaidFits) (generated seed count)
generated_fit seed count few = from_fits count 0 seed (omega (arith, few))

from_length : (count i x : ℕ) → length (generated_from count i x) ≡ count
from_length zero i x = refl
from_length (suc count) i x = ap (λ n. suc n) (from_length count (i + 1) (next_number x))

-- as many as are asked for
pub generated_length : (seed count : ℕ) → length (generated seed count) ≡ count
generated_length seed count = from_length count 0 seed
