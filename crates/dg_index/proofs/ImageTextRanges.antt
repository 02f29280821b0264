-- Numbers and bytes at an offset of an image depend on the bytes up to there alone.
use Rattle.std.proofs.Common.{◌≡◌, ℕ, zero, suc, ◌+◌, ◌^◌, ◌<◌, ◌≤◌, List, [], ◌∷◌, ◌++◌, length, get_or, take, drop, refl, sym, ap, ◌∙◌, arith}
use Rattle.std.specs.Int.{w16, w32, w64, from_be_bytes}
use Rattle.std.proofs.lemmas.List.{take_at, drop_at, take-take, drop-take, drop-drop, get_or-take, length-drop}
use Rattle.std.proofs.lemmas.Nat.{from_be_bytes-to_be_bytes_2, from_be_bytes-to_be_bytes_4, from_be_bytes-to_be_bytes_8}
use Rattle.dg_graph.specs.Columns.{two, four, eight}
use Rattle.dg_index.specs.ImageText.{two_at, four_at, eight_at}

-- two images have the same first n bytes
abbrev pub Same : ℕ → List ℕ → List ℕ → Type 0
Same n image other = take n image ≡ take n other

pub same_fewer : (m n : ℕ) (image other : List ℕ) → m ≤ n → Same n image other → Same m image other
same_fewer m n image other le same = sym (take-take m n image le) ∙ ap (take m) same ∙ take-take m n other le

pub range_same : (n at w : ℕ) (image other : List ℕ) → at + w ≤ n → Same n image other → take w (drop at image) ≡ take w (drop at other)
range_same n at w image other le same =
    sym (drop-take at w image) ∙ ap (drop at) (same_fewer (at + w) n image other le same) ∙ drop-take at w other

pub eight_same : (n at : ℕ) (image other : List ℕ) → at + 8 ≤ n → Same n image other → eight_at image at ≡ eight_at other at
eight_same n at image other le same = ap (from_be_bytes w64) (range_same n at 8 image other le same)

pub four_same : (n at : ℕ) (image other : List ℕ) → at + 4 ≤ n → Same n image other → four_at image at ≡ four_at other at
four_same n at image other le same = ap (from_be_bytes w32) (range_same n at 4 image other le same)

pub two_same : (n at : ℕ) (image other : List ℕ) → at + 2 ≤ n → Same n image other → two_at image at ≡ two_at other at
two_same n at image other le same = ap (from_be_bytes w16) (range_same n at 2 image other le same)

pub byte_same : (n i : ℕ) (image other : List ℕ) → i < n → Same n image other → get_or image i 0 ≡ get_or other i 0
byte_same n i image other lt same =
    sym (get_or-take n image i 0 lt) ∙ ap (λ (l : List ℕ). get_or l i 0) same ∙ get_or-take n other i 0 lt

-- a piece of an image, read by itself
pub piece_range : (m at i w : ℕ) (image : List ℕ) → i + w ≤ m → take w (drop i (take m (drop at image))) ≡ take w (drop (at + i) image)
piece_range m at i w image le =
    sym (drop-take i w (take m (drop at image))) ∙ ap (drop i) (take-take (i + w) m (drop at image) le) ∙ drop-take i w (drop at image) ∙ ap (take w) (drop-drop i at image)

pub piece_eight : (m at i : ℕ) (image : List ℕ) → i + 8 ≤ m → eight_at (take m (drop at image)) i ≡ eight_at image (at + i)
piece_eight m at i image le = ap (from_be_bytes w64) (piece_range m at i 8 image le)

pub piece_four : (m at i : ℕ) (image : List ℕ) → i + 4 ≤ m → four_at (take m (drop at image)) i ≡ four_at image (at + i)
piece_four m at i image le = ap (from_be_bytes w32) (piece_range m at i 4 image le)

-- ---- a number that stands at an offset

pub eight_read : (image : List ℕ) (at n : ℕ) (rest : List ℕ) → n < 2 ^ 64 → drop at image ≡ eight n ++ rest → eight_at image at ≡ n
eight_read image at n rest lt is =
    ap (λ (l : List ℕ). from_be_bytes w64 (take 8 l)) is ∙ ap (from_be_bytes w64) (take_at (eight n) rest 8 refl) ∙ from_be_bytes-to_be_bytes_8 n lt

pub four_read : (image : List ℕ) (at n : ℕ) (rest : List ℕ) → n < 2 ^ 32 → drop at image ≡ four n ++ rest → four_at image at ≡ n
four_read image at n rest lt is =
    ap (λ (l : List ℕ). from_be_bytes w32 (take 4 l)) is ∙ ap (from_be_bytes w32) (take_at (four n) rest 4 refl) ∙ from_be_bytes-to_be_bytes_4 n lt

pub two_read : (image : List ℕ) (at n : ℕ) (rest : List ℕ) → n < 2 ^ 16 → drop at image ≡ two n ++ rest → two_at image at ≡ n
two_read image at n rest lt is =
    ap (λ (l : List ℕ). from_be_bytes w16 (take 2 l)) is ∙ ap (from_be_bytes w16) (take_at (two n) rest 2 refl) ∙ from_be_bytes-to_be_bytes_2 n lt

-- what stands behind a piece
pub behind : (image piece rest : List ℕ) (at next : ℕ) → at + length piece ≡ next → drop at image ≡ piece ++ rest → drop next image ≡ rest
behind image piece rest at next e is =
    ap (λ m. drop m image) (sym e) ∙ sym (drop-drop (length piece) at image) ∙ ap (drop (length piece)) is ∙ drop_at piece rest (length piece) refl

pub byte_read : (image : List ℕ) (at b : ℕ) (rest : List ℕ) → drop at image ≡ b ∷ rest → (get_or image at 0 ≡ b) × (at < length image)
byte_read [] at b rest is = absurd (omega (arith, length-drop {A = ℕ} at [], ap length is))
byte_read (x ∷ xs) zero b rest is = (ap (λ (l : List ℕ). get_or l 0 0) is, omega arith)
byte_read (x ∷ xs) (suc at) b rest is =
    let deeper = byte_read xs at b rest is in
    (deeper.0, omega (arith, deeper.1))
