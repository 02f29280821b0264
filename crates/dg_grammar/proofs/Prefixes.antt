-- The longest prefix of bytes that begins a word, or a line of words.
use Rattle.std.proofs.Common.{◌≡◌, ℕ, ◌+◌, ◌<◌, ◌≤◌, ◌⊎◌, inl, inr, max, IsTrue, ◌↔◌, Bool, true, false, zero, suc, ltb, List, [], ◌∷◌, ◌++◌, length, get_or, take, drop, refl, sym, ap, ◌∙◌, subst, arith, append_assoc, append-nil, length-append}
use Rattle.std.specs.List.{All, Contains}
use Rattle.std.proofs.Math.ListN.{get_or-append}
use Rattle.std.proofs.lemmas.List.{take-append-drop, length-take-le, take_more}
use Rattle.std.proofs.lemmas.List.Elements.{All-head, All-tail, Contains-push, Contains-push_cases, Contains-append_left}
use Rattle.std.proofs.Math.Seq.{take-append-add}
use Rattle.std.proofs.lemmas.Bool.{false≢true, ltb-true, ltb-false}
use Rattle.dg_grammar.specs.Space.{is_space}
use Rattle.dg_grammar.specs.Prefixes.{IsPrefixOfOne, IsLongestPrefix, Parted}

-- the word has no space
abbrev pub Plain : List ℕ → Type 0
Plain word = All (λ b. is_space b ≡ false) word

-- where two lists in two parts are equal, one's first part goes on with a middle
pub overlap : (a r w x : List ℕ) → a ++ r ≡ w ++ x
    → ((t : List ℕ) × (w ≡ a ++ t) × (r ≡ t ++ x)) ⊎ ((t : List ℕ) × (a ≡ w ++ t) × (x ≡ t ++ r))
overlap [] r w x e = inl (w, refl, e)
overlap (c ∷ a) r [] x e = inr (c ∷ a, refl, sym e)
overlap (c ∷ a) r (d ∷ w) x e =
    let head : c ≡ d = cc in
    let tail : a ++ r ≡ w ++ x = cc in
    elim (overlap a r w x tail) [
      | inl p ↦ inl (p.0, cc, p.2)
      | inr p ↦ inr (p.0, cc, p.2)
    ]

-- the first space parts a line in one way
pub first_space : (v u w y : List ℕ) → v ++ 32 ∷ u ≡ w ++ 32 ∷ y → Plain v → Plain w → (v ≡ w) × (u ≡ y)
first_space [] u [] y e p q = (refl, cc)
first_space [] u (d ∷ w) y e p q =
    let is : 32 ≡ d = cc in
    absurd (false≢true (sym (All-head (λ b. is_space b ≡ false) d w q) ∙ ap is_space (sym is)))
first_space (c ∷ v) u [] y e p q =
    let is : c ≡ 32 = cc in
    absurd (false≢true (sym (All-head (λ b. is_space b ≡ false) c v p) ∙ ap is_space is))
first_space (c ∷ v) u (d ∷ w) y e p q =
    let head : c ≡ d = cc in
    let tail : v ++ 32 ∷ u ≡ w ++ 32 ∷ y = cc in
    let h = first_space v u w y tail (All-tail (λ b. is_space b ≡ false) c v p) (All-tail (λ b. is_space b ≡ false) d w q) in
    let same : v ≡ w = h.0 in
    (cc, h.1)

in_after : (W L : List ℕ → Type 0) (a r : List ℕ) (p : Parted W L (a ++ r)) (t : List ℕ) → a ≡ p.word ++ t → 32 ∷ p.after ≡ t ++ r
    → IsPrefixOfOne W a ⊎ Parted W (IsPrefixOfOne L) a
in_after W L a r p [] e f = inl ([], subst W (sym (append-nil a ∙ e ∙ append-nil p.word)) p.taken)
in_after W L a r p (c ∷ t) e f =
    let is : c ≡ 32 = cc in
    let rest : p.after ≡ t ++ r = cc in
    inr (record {
      word = p.word;
      after = t;
      parts = e ∙ ap (λ (x : ℕ). p.word ++ x ∷ t) is;
      taken = p.taken;
      goes_on = (r, subst L rest p.goes_on);
    })

-- what begins a parted line begins its word, or goes on behind its space
pub begun_parted : (W L : List ℕ → Type 0) (a : List ℕ) → IsPrefixOfOne (Parted W L) a → IsPrefixOfOne W a ⊎ Parted W (IsPrefixOfOne L) a
begun_parted W L a b =
    let p = b.1 in
    elim (overlap a b.0 p.word (32 ∷ p.after) p.parts) [
      | inl q ↦ inl (q.0, subst W q.1 p.taken)
      | inr q ↦ in_after W L a b.0 p q.0 q.1 q.2
    ]

-- a word with a space is not plain
not_plain : (w x : List ℕ) → Plain (w ++ 32 ∷ x) → ⊥
not_plain [] x p = false≢true (sym (All-head (λ b. is_space b ≡ false) 32 x p))
not_plain (c ∷ w) x p = not_plain w x (All-tail (λ b. is_space b ≡ false) c (w ++ 32 ∷ x) p)

-- a space behind a word is behind the longest prefix, and there where it ends
past_word : (W : List ℕ → Type 0) (bytes : List ℕ) (n : ℕ) → IsLongestPrefix W bytes n → ((w : List ℕ) → W w → Plain w)
    → (W (take n bytes) → (u : List ℕ) → bytes ≡ take n bytes ++ 32 ∷ u → ⊥)
    → (w u : List ℕ) → w ++ 32 ∷ u ≡ bytes → W w → length w ≤ n → ⊥
past_word W bytes n f plain never w u e taken most =
    elim (overlap w (32 ∷ u) (take n bytes) (drop n bytes) (e ∙ sym (take-append-drop n bytes))) [
      | inl q ↦ longer q.0 q.1 q.2
      | inr q ↦ as_long q.0 q.1
    ]
  where
    as_long : (t : List ℕ) → w ≡ take n bytes ++ t → ⊥
    as_long [] h =
        let same : w ≡ take n bytes = h ∙ append-nil (take n bytes) in
        never (subst W same taken) u (sym e ∙ ap (λ (x : List ℕ). x ++ 32 ∷ u) same)
    as_long (c ∷ t) h = omega (arith, ap length h, length-append (take n bytes) (c ∷ t), length-take-le n bytes f.within)

    longer : (t : List ℕ) → take n bytes ≡ w ++ t → 32 ∷ u ≡ t ++ drop n bytes → ⊥
    longer [] h k =
        let same : w ≡ take n bytes = sym (append-nil w) ∙ sym h in
        never (subst W same taken) u (sym e ∙ ap (λ (x : List ℕ). x ++ 32 ∷ u) same)
    longer (c ∷ t) h k =
        let is : c ≡ 32 = cc in
        let some : 0 < n = omega (arith, ap length h, length-append w (c ∷ t), length-take-le n bytes f.within) in
        let b = f.begins some in
        let is_long : take n bytes ++ b.0 ≡ w ++ 32 ∷ (t ++ b.0) =
        ap (λ (x : List ℕ). x ++ b.0) h ∙ append_assoc w (c ∷ t) b.0 ∙ ap (λ (x : ℕ). w ++ x ∷ (t ++ b.0)) is in
        not_plain w (t ++ b.0) (subst Plain is_long (plain (take n bytes ++ b.0) b.1))

-- the line ends in its first word, or leaves the grammar there
pub stops : (W L : List ℕ → Type 0) (bytes : List ℕ) (n : ℕ) → IsLongestPrefix W bytes n → ((w : List ℕ) → W w → Plain w) → (line : List ℕ) → L line
    → (W (take n bytes) → (u : List ℕ) → bytes ≡ take n bytes ++ 32 ∷ u → ⊥) → IsLongestPrefix (Parted W L) bytes n
stops W L bytes n f plain line in_l never = record {
  within = f.within;
  begins = λ some.
      let b = f.begins some in (
        b.0 ++ 32 ∷ line,
        record {
          word = take n bytes ++ b.0;
          after = line;
          parts = sym (append_assoc (take n bytes) b.0 (32 ∷ line));
          taken = b.1;
          goes_on = in_l;
        },
      );
  longest = λ a b e h. elim (begun_parted W L a h) [
    | inl w ↦ f.longest a b e w
    | inr p ↦
        let parts : p.word ++ 32 ∷ (p.after ++ b) ≡ bytes =
        sym (append_assoc p.word (32 ∷ p.after) b) ∙ ap (λ (x : List ℕ). x ++ b) (sym p.parts) ∙ e in
        let most : length p.word ≤ n =
        f.longest p.word (32 ∷ (p.after ++ b)) parts ([], subst W (sym (append-nil p.word)) p.taken) in
        absurd (past_word W bytes n f plain never p.word (p.after ++ b) parts p.taken most)
  ];
}

begun_at : (L : List ℕ → Type 0) (u : List ℕ) (k : ℕ) → IsLongestPrefix L u k → (line : List ℕ) → L line → IsPrefixOfOne L (take k u)
begun_at L u zero f line in_l = (line, in_l)
begun_at L u (suc k) f line in_l = f.begins (omega arith)

-- the line goes on behind its first word
pub goes_on : (W L : List ℕ → Type 0) (bytes v u : List ℕ) (n k : ℕ) → bytes ≡ v ++ 32 ∷ u → length v ≡ n → IsLongestPrefix W bytes n → W v
    → ((w : List ℕ) → W w → Plain w) → (line : List ℕ) → L line → IsLongestPrefix L u k → IsLongestPrefix (Parted W L) bytes (n + 1 + k)
goes_on W L bytes v u n k e size f taken plain line in_l g =
    let count : n + 1 + k ≡ length v + suc k = omega arith in
    let front : take (n + 1 + k) bytes ≡ v ++ 32 ∷ take k u =
    ap (λ (m : ℕ). take m bytes) count ∙ ap (λ (x : List ℕ). take (length v + suc k) x) e ∙ take-append-add v (32 ∷ u) (suc k) in
    record {
      within = omega (arith, ap length e, length-append v (32 ∷ u), g.within);
      begins = λ some.
          let b = begun_at L u k g line in_l in (
            b.0,
            record {
              word = v;
              after = take k u ++ b.0;
              parts = ap (λ (x : List ℕ). x ++ b.0) front ∙ append_assoc v (32 ∷ take k u) b.0;
              taken = taken;
              goes_on = b.1;
            },
          );
      longest = λ a b d h. elim (begun_parted W L a h) [
        | inl w ↦ let most = f.longest a b d w in omega arith
        | inr p ↦
            let parts : p.word ++ 32 ∷ (p.after ++ b) ≡ v ++ 32 ∷ u =
            sym (append_assoc p.word (32 ∷ p.after) b) ∙ ap (λ (x : List ℕ). x ++ b) (sym p.parts) ∙ d ∙ e in
            let same = first_space p.word (p.after ++ b) v u parts (plain p.word p.taken) (plain v taken) in
            let most = g.longest p.after b same.1 p.goes_on in
            omega (arith, ap length p.parts, length-append p.word (32 ∷ p.after), ap length same.0, most)
      ];
    }

-- the same texts in other words
pub same_prefix : (P Q : List ℕ → Type 0) (bytes : List ℕ) (n : ℕ) → ((w : List ℕ) → P w → Q w) → ((w : List ℕ) → Q w → P w)
    → IsLongestPrefix P bytes n → IsLongestPrefix Q bytes n
same_prefix P Q bytes n to from f = record {
  within = f.within;
  begins = λ some. let b = f.begins some in (b.0, to (take n bytes ++ b.0) b.1);
  longest = λ a b e h. f.longest a b e (h.0, from (a ++ h.0) h.1);
}

-- where there is no text
pub no_prefix : (P : List ℕ → Type 0) (bytes : List ℕ) → ((w : List ℕ) → P w → ⊥) → IsLongestPrefix P bytes 0
no_prefix P bytes none = record {
  within = omega arith;
  begins = λ some. absurd (omega arith);
  longest = λ a b e h. absurd (none (a ++ h.0) h.1);
}

-- the longer of two prefixes
pub either : (P Q R : List ℕ → Type 0) (bytes : List ℕ) (n m k : ℕ) → IsLongestPrefix P bytes n → IsLongestPrefix Q bytes m → k ≡ max n m
    → ((w : List ℕ) → P w → R w) → ((w : List ℕ) → Q w → R w) → ((w : List ℕ) → R w → P w ⊎ Q w) → IsLongestPrefix R bytes k
either P Q R bytes n m k f g is from_p from_q to = record {
  within = omega (arith, f.within, g.within);
  begins = λ some. which (ltb n m) refl some;
  longest = λ a b e h. elim (to (a ++ h.0) h.1) [
    | inl p ↦ let most = f.longest a b e (h.0, p) in omega arith
    | inr q ↦ let most = g.longest a b e (h.0, q) in omega arith
  ];
}
  where
    which : (t : Bool) → ltb n m ≡ t → 0 < k → IsPrefixOfOne R (take k bytes)
    which true e some =
        let less = ltb-true n m e in
        let same : k ≡ m = omega arith in
        let b = g.begins (omega arith) in
        (b.0, from_q (take k bytes ++ b.0) (subst (λ (i : ℕ). Q (take i bytes ++ b.0)) (sym same) b.1))
    which false e some =
        let less = ltb-false n m e in
        let same : k ≡ n = omega arith in
        let b = f.begins (omega arith) in
        (b.0, from_p (take k bytes ++ b.0) (subst (λ (i : ℕ). P (take i bytes ++ b.0)) (sym same) b.1))

-- the longer of two prefixes is a whole word where one of the two is, and no shorter than the other
pub either_whole : (P Q R : List ℕ → Type 0) (bytes : List ℕ) (n m k : ℕ) (x y z : Bool) → IsLongestPrefix P bytes n → IsLongestPrefix Q bytes m → k ≡ max n m
    → ((w : List ℕ) → P w → R w) → ((w : List ℕ) → Q w → R w) → ((w : List ℕ) → R w → P w ⊎ Q w)
    → (IsTrue x ↔ P (take n bytes)) → (IsTrue y ↔ Q (take m bytes)) → (IsTrue z ↔ (IsTrue x × (m ≤ n)) ⊎ (IsTrue y × (n ≤ m)))
    → IsTrue z ↔ R (take k bytes)
either_whole P Q R bytes n m k x y z f g is from_p from_q to whole own which = (
  λ t. elim (which.0 t) [
    | inl h ↦ let same : n ≡ k = omega arith in
        from_p (take k bytes) (subst (λ (q : ℕ). P (take q bytes)) same (whole.0 h.0))
    | inr h ↦ let same : m ≡ k = omega arith in
        from_q (take k bytes) (subst (λ (q : ℕ). Q (take q bytes)) same (own.0 h.0))
  ],
  λ h. elim (to (take k bytes) h) [
    | inl p ↦
        let most = f.longest (take k bytes) (drop k bytes) (take-append-drop k bytes) ([], subst P (sym (append-nil (take k bytes))) p) in
        let same : k ≡ n = omega (arith, length-take-le k bytes (omega (arith, f.within, g.within))) in
        which.1 (inl (whole.1 (subst (λ (q : ℕ). P (take q bytes)) same p), omega arith))
    | inr p ↦
        let most = g.longest (take k bytes) (drop k bytes) (take-append-drop k bytes) ([], subst Q (sym (append-nil (take k bytes))) p) in
        let same : k ≡ m = omega (arith, length-take-le k bytes (omega (arith, f.within, g.within))) in
        which.1 (inr (own.1 (subst (λ (q : ℕ). Q (take q bytes)) same p), omega arith))
  ],
)

-- a word that goes along with the bytes no further
pub word_stops : (word rest : List ℕ) (n : ℕ) → n ≤ length rest → take n word ≡ take n rest
    → (n < length word → n < length rest → get_or word n 0 ≡ get_or rest n 0 → ⊥) → IsLongestPrefix (λ text. word ≡ text) rest n
word_stops word rest n within same past = record {
  within = within;
  begins = λ some. (drop n word, sym (take-append-drop n word) ∙ ap (λ (x : List ℕ). x ++ drop n word) same);
  longest = λ a b e h.
      let not_more : n < length a → ⊥ = λ more.
      past (omega (arith, ap length h.1, length-append a h.0)) (omega (arith, ap length e, length-append a b))
      (ap (λ (x : List ℕ). get_or x n 0) h.1 ∙ get_or-append a h.0 0 n more ∙ sym (get_or-append a b 0 n more) ∙ ap (λ (x : List ℕ). get_or x n 0) e) in
      omega arith;
}

-- the longest prefix of one of the words up to one, from that of those before it and its own
pub words_more : (texts : List (List ℕ)) (i : ℕ) (word rest : List ℕ) (n m k : ℕ) (x y z : Bool) → i < length texts → get_or texts i [] ≡ word
    → IsLongestPrefix (Contains (take i texts)) rest n → IsLongestPrefix (λ text. word ≡ text) rest m → k ≡ max n m
    → (IsTrue x ↔ Contains (take i texts) (take n rest)) → (IsTrue y ↔ (word ≡ take m rest))
    → (IsTrue z ↔ (IsTrue x × (m ≤ n)) ⊎ (IsTrue y × (n ≤ m)))
    → IsLongestPrefix (Contains (take (i + 1) texts)) rest k × (IsTrue z ↔ Contains (take (i + 1) texts) (take k rest))
words_more texts i word rest n m k x y z below at f g is whole own which = (
  either (Contains (take i texts)) (λ text. word ≡ text) (Contains (take (i + 1) texts)) rest n m k f g is before here back,
  (
    λ t. elim (which.0 t) [
      | inl h ↦ let same : n ≡ k = omega arith in
          before (take k rest) (subst (λ (q : ℕ). Contains (take i texts) (take q rest)) same (whole.0 h.0))
      | inr h ↦ let same : m ≡ k = omega arith in
          here (take k rest) (subst (λ (q : ℕ). word ≡ take q rest) same (own.0 h.0))
    ],
    λ h. elim (back (take k rest) h) [
      | inl p ↦
          let most = f.longest (take k rest) (drop k rest) (take-append-drop k rest) ([], subst (Contains (take i texts)) (sym (append-nil (take k rest))) p) in
          let same : k ≡ n = omega (arith, length-take-le k rest (omega (arith, f.within, g.within))) in
          which.1 (inl (whole.1 (subst (λ (q : ℕ). Contains (take i texts) (take q rest)) same p), omega arith))
      | inr p ↦
          let most = g.longest (take k rest) (drop k rest) (take-append-drop k rest) ([], p ∙ sym (append-nil (take k rest))) in
          let same : k ≡ m = omega (arith, length-take-le k rest (omega (arith, f.within, g.within))) in
          which.1 (inr (own.1 (subst (λ (q : ℕ). word ≡ take q rest) same p), omega arith))
    ],
  ),
)
  where
    more : take (i + 1) texts ≡ take i texts ++ word ∷ []
    more = take_more texts i [] below ∙ ap (λ (w : List ℕ). take i texts ++ w ∷ []) at

    before : (w : List ℕ) → Contains (take i texts) w → Contains (take (i + 1) texts) w
    before w p = subst (λ (ws : List (List ℕ)). Contains ws w) (sym more) (Contains-append_left (take i texts) (word ∷ []) w p)

    here : (w : List ℕ) → word ≡ w → Contains (take (i + 1) texts) w
    here w e = subst (Contains (take (i + 1) texts)) e (subst (λ (ws : List (List ℕ)). Contains ws word) (sym more) (Contains-push (take i texts) word))

    back : (w : List ℕ) → Contains (take (i + 1) texts) w → Contains (take i texts) w ⊎ (word ≡ w)
    back w p = Contains-push_cases (take i texts) word w (subst (λ (ws : List (List ℕ)). Contains ws w) more p)

-- ---- what may follow a word depends on the word

-- a word, and behind a space what may come behind it
pub record PartedBy (W : List ℕ → Type 0) (L : List ℕ → List ℕ → Type 0) (line : List ℕ) : Type 0 where
  pub word : List ℕ
  pub after : List ℕ
  pub parts : line ≡ word ++ 32 ∷ after
  pub taken : W word
  pub goes_on : L word after

in_after_by : (W : List ℕ → Type 0) (L : List ℕ → List ℕ → Type 0) (a r : List ℕ) (p : PartedBy W L (a ++ r)) (t : List ℕ) → a ≡ p.word ++ t → 32 ∷ p.after ≡ t ++ r
    → IsPrefixOfOne W a ⊎ PartedBy W (λ w. IsPrefixOfOne (L w)) a
in_after_by W L a r p [] e f = inl ([], subst W (sym (append-nil a ∙ e ∙ append-nil p.word)) p.taken)
in_after_by W L a r p (c ∷ t) e f =
    let is : c ≡ 32 = cc in
    let rest : p.after ≡ t ++ r = cc in
    inr (record {
      word = p.word;
      after = t;
      parts = e ∙ ap (λ (x : ℕ). p.word ++ x ∷ t) is;
      taken = p.taken;
      goes_on = (r, subst (L p.word) rest p.goes_on);
    })

-- what begins such a line begins its word, or goes on behind its space
begun_by : (W : List ℕ → Type 0) (L : List ℕ → List ℕ → Type 0) (a : List ℕ) → IsPrefixOfOne (PartedBy W L) a → IsPrefixOfOne W a ⊎ PartedBy W (λ w. IsPrefixOfOne (L w)) a
begun_by W L a b =
    let p = b.1 in
    elim (overlap a b.0 p.word (32 ∷ p.after) p.parts) [
      | inl q ↦ inl (q.0, subst W q.1 p.taken)
      | inr q ↦ in_after_by W L a b.0 p q.0 q.1 q.2
    ]

-- Lines that are a word alone, or a word, a space, and what may come behind the word: where they are, where they come
-- of, and that each word begins one.
pub record AreLinesBy (P W : List ℕ → Type 0) (L : List ℕ → List ℕ → Type 0) : Type 0 where
  pub plain : (w : List ℕ) → W w → Plain w
  pub splits : (line : List ℕ) → P line → W line ⊎ PartedBy W L line
  pub begins : (w : List ℕ) → W w → IsPrefixOfOne P w
  pub joins : (line : List ℕ) → PartedBy W L line → P line

-- the line ends in its first word, or leaves the grammar there
pub stops_by : (P W : List ℕ → Type 0) (L : List ℕ → List ℕ → Type 0) (bytes : List ℕ) (n : ℕ) → AreLinesBy P W L → IsLongestPrefix W bytes n
    → (W (take n bytes) → (u : List ℕ) → bytes ≡ take n bytes ++ 32 ∷ u → (line : List ℕ) → L (take n bytes) line → ⊥)
    → IsLongestPrefix P bytes n
stops_by P W L bytes n lines f never = record {
  within = f.within;
  begins = λ some.
      let b = f.begins some in
      let more = lines.begins (take n bytes ++ b.0) b.1 in
      (b.0 ++ more.0, subst P (append_assoc (take n bytes) b.0 more.0) more.1);
  longest = λ a b e h. elim (lines.splits (a ++ h.0) h.1) [
    | inl w ↦ f.longest a b e (h.0, w)
    | inr q ↦ elim (begun_by W L a (h.0, q)) [
      | inl w ↦ f.longest a b e w
      | inr p ↦
          let parts : p.word ++ 32 ∷ (p.after ++ b) ≡ bytes =
          sym (append_assoc p.word (32 ∷ p.after) b) ∙ ap (λ (x : List ℕ). x ++ b) (sym p.parts) ∙ e in
          let most : length p.word ≤ n =
          f.longest p.word (32 ∷ (p.after ++ b)) parts ([], subst W (sym (append-nil p.word)) p.taken) in
          let not_here : W (take n bytes) → (u : List ℕ) → bytes ≡ take n bytes ++ 32 ∷ u → ⊥ = λ taken u is.
          let same = first_space (take n bytes) u p.word (p.after ++ b) (sym is ∙ sym parts) (lines.plain (take n bytes) taken) (lines.plain p.word p.taken) in
          never taken u is (p.after ++ p.goes_on.0) (subst (λ (w : List ℕ). L w (p.after ++ p.goes_on.0)) (sym same.0) p.goes_on.1) in
          absurd (past_word W bytes n f lines.plain not_here p.word (p.after ++ b) parts p.taken most)
    ]
  ];
}

-- the line goes on behind its first word
pub goes_on_by : (P W : List ℕ → Type 0) (L : List ℕ → List ℕ → Type 0) (bytes v u : List ℕ) (n k : ℕ) → AreLinesBy P W L → bytes ≡ v ++ 32 ∷ u → length v ≡ n
    → IsLongestPrefix W bytes n → W v → (line : List ℕ) → L v line → IsLongestPrefix (L v) u k → IsLongestPrefix P bytes (n + 1 + k)
goes_on_by P W L bytes v u n k lines e size f taken line in_l g =
    let count : n + 1 + k ≡ length v + suc k = omega arith in
    let front : take (n + 1 + k) bytes ≡ v ++ 32 ∷ take k u =
    ap (λ (m : ℕ). take m bytes) count ∙ ap (λ (x : List ℕ). take (length v + suc k) x) e ∙ take-append-add v (32 ∷ u) (suc k) in
    record {
      within = omega (arith, ap length e, length-append v (32 ∷ u), g.within);
      begins = λ some.
          let b = begun_at (L v) u k g line in_l in (
            b.0,
            lines.joins (take (n + 1 + k) bytes ++ b.0) (record {
              word = v;
              after = take k u ++ b.0;
              parts = ap (λ (x : List ℕ). x ++ b.0) front ∙ append_assoc v (32 ∷ take k u) b.0;
              taken = taken;
              goes_on = b.1;
            }),
          );
      longest = λ a b d h. elim (lines.splits (a ++ h.0) h.1) [
        | inl w ↦ let most = f.longest a b d (h.0, w) in omega arith
        | inr q ↦ elim (begun_by W L a (h.0, q)) [
          | inl w ↦ let most = f.longest a b d w in omega arith
          | inr p ↦
              let parts : p.word ++ 32 ∷ (p.after ++ b) ≡ v ++ 32 ∷ u =
              sym (append_assoc p.word (32 ∷ p.after) b) ∙ ap (λ (x : List ℕ). x ++ b) (sym p.parts) ∙ d ∙ e in
              let same = first_space p.word (p.after ++ b) v u parts (lines.plain p.word p.taken) (lines.plain v taken) in
              let most = g.longest p.after b same.1 (p.goes_on.0, subst (λ (w : List ℕ). L w (p.after ++ p.goes_on.0)) same.0 p.goes_on.1) in
              omega (arith, ap length p.parts, length-append p.word (32 ∷ p.after), ap length same.0, most)
        ]
      ];
    }
