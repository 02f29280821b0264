-- Names as the bytes that they have in a directory, and taken out of them.
use Rattle.std.proofs.Common.{◌≡◌, ℕ, zero, suc, ◌+◌, ◌≤◌, List, [], ◌∷◌, ◌++◌, length, take, drop, refl, sym, ap, subst, ◌∙◌, append_assoc, append-nil, arith, length-append}
use Rattle.std.specs.Prelude.{All}
use Rattle.std.specs.Int.{from_be_bytes, w16}
use Rattle.std.specs.List.{flat_map}
use Rattle.std.proofs.lemmas.List.{take_at, drop_at, drop-drop}
use Rattle.std.proofs.lemmas.List.Concat.{flat_map-append}
use Rattle.std.proofs.lemmas.Nat.{from_be_bytes-to_be_bytes_2}
use Rattle.dg_text.specs.declared.limits.TheConstants.{NAME_BYTES_MAX}
use Rattle.dg_graph.specs.Columns.{two}
use Rattle.dg_index.specs.FileOfHistory.{name_bytes}
use Rattle.dg_index.specs.ImageText.{two_at}
use Rattle.dg_segment.specs.NewNames.{AreNewNames, texts_in}

text_first : (text rest : List ℕ) → length text ≤ NAME_BYTES_MAX → two_at (name_bytes text ++ rest) 0 ≡ length text
text_first text rest short =
    ap (λ (l : List ℕ). from_be_bytes w16 (take 2 l)) (append_assoc (two (length text)) text rest)
    ∙ ap (from_be_bytes w16) (take_at (two (length text)) (text ++ rest) 2 refl)
    ∙ from_be_bytes-to_be_bytes_2 (length text) (omega (arith, short))

text_behind : (text rest : List ℕ) → drop 2 (name_bytes text ++ rest) ≡ text ++ rest
text_behind text rest = ap (drop 2) (append_assoc (two (length text)) text rest) ∙ drop_at (two (length text)) (text ++ rest) 2 refl

all_first : (text : List ℕ) (names : List (List ℕ)) → All (λ text. length text ≤ NAME_BYTES_MAX) (text ∷ names) → length text ≤ NAME_BYTES_MAX
all_first text names all = all 0 text (omega arith)

all_behind : (text : List ℕ) (names : List (List ℕ)) → All (λ text. length text ≤ NAME_BYTES_MAX) (text ∷ names) → All (λ text. length text ≤ NAME_BYTES_MAX) names
all_behind text names all = λ i d lt. all (suc i) d (omega (arith, lt))

-- names are those of their bytes
texts_are : (names : List (List ℕ)) → All (λ text. length text ≤ NAME_BYTES_MAX) names → texts_in (length names) (flat_map name_bytes names) ≡ names
texts_are [] short = refl
texts_are (text ∷ names) short =
    let rest = flat_map name_bytes names in
    let len = text_first text rest (all_first text names short) in
    let one : take (two_at (name_bytes text ++ rest) 0) (drop 2 (name_bytes text ++ rest)) ≡ text =
    (λ i. take (len i) (text_behind text rest i)) ∙ take_at text rest (length text) refl in
    let next : drop (2 + two_at (name_bytes text ++ rest) 0) (name_bytes text ++ rest) ≡ rest =
    ap (λ n. drop (2 + n) (name_bytes text ++ rest)) len ∙ sym (drop-drop (length text) 2 (name_bytes text ++ rest)) ∙ ap (drop (length text)) (text_behind text rest) ∙ drop_at text rest (length text) refl in
    λ i. one i ∷ (ap (texts_in (length names)) next ∙ texts_are names (all_behind text names short)) i

pub no_names : AreNewNames 0 []
no_names = record { count_is = refl; bytes_are = refl; short = λ i d lt. absurd (omega (arith, lt)) }

-- one name more
module _ (count : ℕ) (bytes text new : List ℕ) where
  short_more : (names : List (List ℕ)) → All (λ text. length text ≤ NAME_BYTES_MAX) names → length text ≤ NAME_BYTES_MAX → All (λ text. length text ≤ NAME_BYTES_MAX) (names ++ text ∷ [])
  short_more [] all le zero d lt = le
  short_more [] all le (suc i) d lt = absurd (omega (arith, lt))
  short_more (x ∷ names) all le zero d lt = all 0 d (omega arith)
  short_more (x ∷ names) all le (suc i) d lt = short_more names (λ j e lt. all (suc j) e (omega (arith, lt))) le i d (omega (arith, lt))

  more_bytes : AreNewNames count bytes → new ≡ bytes ++ name_bytes text → flat_map name_bytes (texts_in count bytes ++ text ∷ []) ≡ new
  more_bytes n is = flat_map-append name_bytes (texts_in count bytes) (text ∷ []) ∙ (λ i. n.bytes_are i ++ append-nil (name_bytes text) i) ∙ sym is

  pub texts_more : AreNewNames count bytes → length text ≤ NAME_BYTES_MAX → new ≡ bytes ++ name_bytes text → texts_in (count + 1) new ≡ texts_in count bytes ++ text ∷ []
  texts_more n le is =
      let names = texts_in count bytes in
      let number : count + 1 ≡ length (names ++ text ∷ []) = omega (arith, n.count_is, length-append names (text ∷ [])) in
      (λ i. texts_in (number i) (sym (more_bytes n is) i)) ∙ texts_are (names ++ text ∷ []) (short_more names n.short le)

  pub names_more : AreNewNames count bytes → length text ≤ NAME_BYTES_MAX → new ≡ bytes ++ name_bytes text → AreNewNames (count + 1) new
  names_more n le is =
      let names = texts_in count bytes in
      let more = texts_more n le is in
      record {
        count_is = ap length more ∙ (let number : length (names ++ text ∷ []) ≡ count + 1 = omega (arith, n.count_is, length-append names (text ∷ [])) in number);
        bytes_are = ap (flat_map name_bytes) more ∙ more_bytes n is;
        short = subst (λ (l : List (List ℕ)). All (λ text. length text ≤ NAME_BYTES_MAX) l) (sym more) (short_more names n.short le);
      }
