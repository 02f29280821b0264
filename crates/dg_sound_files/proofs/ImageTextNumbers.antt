-- Numbers that are read of bytes stand there as they are spelled.
use Rattle.std.proofs.Common.{◌≡◌, ℕ, ◌+◌, ◌^◌, ◌≤◌, List, ◌++◌, length, take, drop, sym, ap, ◌∙◌, arith}
use Rattle.std.specs.Int.{Width, w16, w32, w64, from_be_bytes}
use Rattle.std.proofs.lemmas.List.{take-append-drop, drop-drop, length-take, length-drop}
use Rattle.dg_graph.specs.Columns.{two, four, eight}
use Rattle.dg_index.specs.ImageText.{two_at, four_at, eight_at}
use Rattle.dg_columns.proofs.Fields.{IsBytes, IsBytes-drop, IsBytes-take, Stands, IsSpelling, spelling16, spelling32, spelling64}

module _ (width : Width) (k limit : ℕ) (text : ℕ → List ℕ) (spelling : IsSpelling width k limit text) where
  -- the number of so many bytes at the offset is spelled there
  number_stands : (bytes : List ℕ) (at next : ℕ) → IsBytes bytes → next ≡ at + k → at + k ≤ length bytes → Stands bytes at (text (from_be_bytes width (take k (drop at bytes)))) next
  number_stands bytes at next fits is long =
      let front : List ℕ = take k (drop at bytes) in
      let len : length front ≡ k = omega (arith, length-take k (drop at bytes), length-drop at bytes) in
      let back : text (from_be_bytes width front) ≡ front = spelling.back front len (IsBytes-take k (drop at bytes) (IsBytes-drop at bytes fits)) in
      let rest : drop k (drop at bytes) ≡ drop next bytes = drop-drop k at bytes ∙ ap (λ m. drop m bytes) (sym is) in
      sym (take-append-drop k (drop at bytes)) ∙ (λ i. sym back i ++ rest i)

pub two_stands : (bytes : List ℕ) (at next : ℕ) → IsBytes bytes → next ≡ at + 2 → at + 2 ≤ length bytes → Stands bytes at (two (two_at bytes at)) next
two_stands bytes at next fits is long = number_stands w16 2 (2 ^ 16) two spelling16 bytes at next fits is long

pub four_stands : (bytes : List ℕ) (at next : ℕ) → IsBytes bytes → next ≡ at + 4 → at + 4 ≤ length bytes → Stands bytes at (four (four_at bytes at)) next
four_stands bytes at next fits is long = number_stands w32 4 (2 ^ 32) four spelling32 bytes at next fits is long

pub eight_stands : (bytes : List ℕ) (at next : ℕ) → IsBytes bytes → next ≡ at + 8 → at + 8 ≤ length bytes → Stands bytes at (eight (eight_at bytes at)) next
eight_stands bytes at next fits is long = number_stands w64 8 (2 ^ 64) eight spelling64 bytes at next fits is long
