-- What the writes that make an index leave, each of them whole or in part.
use Rattle.std.proofs.Common.{◌≡◌, ℕ, ◌+◌, ◌-◌, ◌<◌, ◌≤◌, inl, inr, Bool, true, false, List, [], ◌∷◌, ◌++◌, length, get_or, drop, Option, Some, None, refl, sym, ap, subst, ◌∙◌, append-nil, arith, length-append, length-drop}
use Rattle.std.specs.Prelude.{◌≢◌, ◌&&◌, ◌||◌, ◌==◌, not, nat_lt, IfSome}
use Rattle.std.proofs.lemmas.Bool.{cases_lt, lt-ltb, ltb-true, eqb-true, eq-eqb, ne_eqb, false≢true, or_cases, and_parts}
use Rattle.std.proofs.lemmas.List.{drop_all}
use Rattle.std.proofs.Math.Bool.{or-true}
use Rattle.dg_disk.specs.Image.{HasOffset, PartWritten, WritesPart, put_at, with_piece}
use Rattle.dg_history.specs.declared.params.Params.{Params}
use Rattle.dg_history.specs.declared.form.Form.{Form}
use Rattle.dg_history.specs.declared.form.Form.TheVariants as form
use Rattle.dg_history.specs.History.{empty_history}
use Rattle.dg_index.specs.ImageOfHistory.{IsImageOf, is_blank}
use Rattle.dg_file.specs.Growth.{Moved}
use Rattle.dg_file.specs.Headers.{header_rest}
use Rattle.dg_file.specs.Images.{IsMadeInPart}
use Rattle.dg_file.proofs.ImageSegments.{image_made, MayBegin}
use Rattle.dg_file.proofs.GrowthMoves.{moved_put, moved_part, moved_after}

pub offset_zero : (x : Option (List ℕ)) → HasOffset x 0
offset_zero None = tt
offset_zero (Some a) = omega arith

-- ---- blank images

blank_few : (image : List ℕ) → is_blank image ≡ true → length image ≤ 18
blank_few image e =
    elim (or_cases (nat_lt (length image) 18) _ e) [
      | inl few ↦ omega (arith, ltb-true (length image) 18 few)
      | inr same ↦ omega (arith, eqb-true (length image) 18 (and_parts (length image == 18) _ same).0)
    ]

blank_short : (image : List ℕ) → length image < 18 → is_blank image ≡ true
blank_short image lt = ap (λ b. b || (length image == 18 && not (get_or image 0 0 == 1))) (lt-ltb (length image) 18 lt)

blank_closed : (image : List ℕ) → length image ≤ 18 → get_or image 0 0 ≢ 1 → is_blank image ≡ true
blank_closed image le closed =
    elim (cases_lt (length image) 18) [
      | inl lt ↦ blank_short image lt
      | inr ge ↦ (λ i. nat_lt (length image) 18 || (eq-eqb (length image) 18 (omega (arith, ge)) i && not (ne_eqb (get_or image 0 0) 1 closed i))) ∙ or-true (nat_lt (length image) 18)
    ]

-- ---- the three writes

-- the gate is closed, and no more bytes are there than a header has
pub record Closed (before after : List ℕ) : Type 0 where
  pub few : length before ≤ 18
  pub is : after ≡ 0 ∷ drop 1 before

pub record Written (f : Form) (params : Params) (before after : List ℕ) : Type 0 where
  pub is : after ≡ 0 ∷ header_rest f params

pub rest_long : (f : Form) (params : Params) → length (header_rest f params) ≡ 17
rest_long form.One params = refl
rest_long (form.Upgraded b) params = refl
rest_long form.Two params = refl

module _ (f : Form) (params : Params) where
  first_part : (a bytes : List ℕ) → is_blank a ≡ true → length bytes ≤ 1 → IsMadeInPart f params a (put_at 0 bytes a)
  first_part a [] blank few = inl blank
  first_part a (x ∷ y ∷ bytes) blank few = absurd (omega arith)
  first_part a (v ∷ []) blank few =
      let long : length (v ∷ drop 1 a) ≡ 1 + (length a - 1) = omega (arith, length-drop 1 a) in
      elim (cases_lt (length a) 18) [
        | inl lt ↦ inl (blank_short (v ∷ drop 1 a) (omega arith))
        | inr ge ↦ inr (inr (omega (arith, blank_few a blank, ge), omega (arith, blank_few a blank, ge), refl))
      ]

  second_part : (a b bytes : List ℕ) → Closed a b → length bytes ≤ 17 → is_blank (put_at 1 bytes b) ≡ true
  second_part a b bytes c few =
      subst (λ (l : List ℕ). is_blank (put_at 1 bytes l) ≡ true) (sym c.is)
      (blank_closed (put_at 1 bytes (0 ∷ drop 1 a)) (omega (arith, c.few, length-append bytes (drop (1 + length bytes) (0 ∷ drop 1 a)), length-drop (1 + length bytes) (0 ∷ drop 1 a), length-drop 1 a)) (λ e. absurd (omega (arith, e))))

  second : (a b : List ℕ) → Closed a b → put_at 1 (header_rest f params) b ≡ 0 ∷ header_rest f params
  second a b c =
      let long = rest_long f params in
      let none : drop (1 + length (header_rest f params)) (0 ∷ drop 1 a) ≡ [] = drop_all (1 + length (header_rest f params)) (0 ∷ drop 1 a) (omega (arith, long, c.few, length-drop 1 a)) in
      ap (put_at 1 (header_rest f params)) c.is ∙ ap (λ (l : List ℕ). (0 ∷ header_rest f params) ++ l) none ∙ append-nil (0 ∷ header_rest f params)

  third_part : MayBegin f params → (a b bytes : List ℕ) → Written f params a b → length bytes ≤ 1 → IsMadeInPart f params a (put_at 0 bytes b)
  third_part e a b [] w few = inl (blank_closed b (omega (arith, ap length w.is, rest_long f params)) (λ one. absurd (omega (arith, one, ap (λ (l : List ℕ). get_or l 0 0) w.is))))
  third_part e a b (x ∷ y ∷ bytes) w few = absurd (omega arith)
  third_part e a b (v ∷ []) w few =
      let is : v ∷ drop 1 b ≡ v ∷ header_rest f params = ap (λ (l : List ℕ). v ∷ drop 1 l) w.is in
      by (v == 1) refl is
    where
      by : (t : Bool) → (v == 1) ≡ t → v ∷ drop 1 b ≡ v ∷ header_rest f params → IsMadeInPart f params a (v ∷ drop 1 b)
      by true one is = inr (inl (image_made f params (v ∷ drop 1 b) e (is ∙ ap (λ n. n ∷ header_rest f params) (eqb-true v 1 one))))
      by false other is = inl (blank_closed (v ∷ drop 1 b) (omega (arith, ap length is, rest_long f params)) (λ one. false≢true (sym other ∙ eq-eqb v 1 one)))

  third : MayBegin f params → (a b : List ℕ) → Written f params a b → IsImageOf (empty_history f params) (put_at 0 (1 ∷ []) b)
  third e a b w = image_made f params (1 ∷ drop 1 b) e (ap (λ (l : List ℕ). 1 ∷ drop 1 l) w.is)

  -- the same where a crash cut the write short
  pub torn_first : (a c : List ℕ) → is_blank a ≡ true → PartWritten 0 1 a c → IsMadeInPart f params a c
  torn_first a c blank part = subst (IsMadeInPart f params a) (sym part.2) (first_part a part.0 blank part.1)

  pub torn_second : (a b c : List ℕ) → Closed a b → PartWritten 1 17 b c → IsMadeInPart f params a c
  torn_second a b c closed part = subst (IsMadeInPart f params a) (sym part.2) (inl (second_part a b part.0 closed part.1))

  pub torn_third : MayBegin f params → (a b c : List ℕ) → Written f params a b → PartWritten 0 1 b c → IsMadeInPart f params a c
  torn_third e a b c written part = subst (IsMadeInPart f params a) (sym part.2) (third_part e a b part.0 written part.1)

  abbrev Blank : List ℕ → Type 0
  Blank a = is_blank a ≡ true

  pub made_first : (x y : Option (List ℕ)) → IfSome x Blank → y ≡ with_piece 0 (0 ∷ []) x → Moved x y Closed
  made_first x y blank e =
      moved_put x y 0 (0 ∷ []) Blank Closed (λ a b. record { few = blank_few a b; is = refl }) blank e

  pub made_first_part : (x y : Option (List ℕ)) → IfSome x Blank → WritesPart 0 1 x y → Moved x y (IsMadeInPart f params)
  made_first_part x y blank w =
      moved_part x y 0 1 Blank (IsMadeInPart f params) (λ a bytes b few. first_part a bytes b few) blank w

  pub offset_one : (x y : Option (List ℕ)) → Moved x y Closed → HasOffset y 1
  offset_one x y m = moved_after x y Closed (λ b. 1 ≤ length b) (λ a b c. omega (arith, ap length c.is)) m

  pub made_second : (x y z : Option (List ℕ)) (rest : List ℕ) → rest ≡ header_rest f params → Moved x y Closed → z ≡ with_piece 1 rest y → Moved x z (Written f params)
  made_second x y z rest is m e = subst (λ z. Moved x z (Written f params)) (sym (e ∙ ap (λ l. with_piece 1 l y) is)) (by x y m)
    where
      by : (x y : Option (List ℕ)) → Moved x y Closed → Moved x (with_piece 1 (header_rest f params) y) (Written f params)
      by None None m = tt
      by None (Some b) m = absurd m
      by (Some a) None m = absurd m
      by (Some a) (Some b) m = record { is = second a b m }

  pub made_second_part : (x y z : Option (List ℕ)) → Moved x y Closed → WritesPart 1 17 y z → Moved x z (IsMadeInPart f params)
  made_second_part x y z m w = subst (λ z. Moved x z (IsMadeInPart f params)) (sym w.2) (by x y m)
    where
      by : (x y : Option (List ℕ)) → Moved x y Closed → Moved x (with_piece 1 w.0 y) (IsMadeInPart f params)
      by None None m = tt
      by None (Some b) m = absurd m
      by (Some a) None m = absurd m
      by (Some a) (Some b) m = inl (second_part a b w.0 m w.1)

  pub made_third : (x y z : Option (List ℕ)) → MayBegin f params → Moved x y (Written f params) → z ≡ with_piece 0 (1 ∷ []) y → Moved x z (λ before after. IsImageOf (empty_history f params) after)
  made_third x y z right m e = subst (λ z. Moved x z (λ before after. IsImageOf (empty_history f params) after)) (sym e) (by x y m)
    where
      by : (x y : Option (List ℕ)) → Moved x y (Written f params) → Moved x (with_piece 0 (1 ∷ []) y) (λ before after. IsImageOf (empty_history f params) after)
      by None None m = tt
      by None (Some b) m = absurd m
      by (Some a) None m = absurd m
      by (Some a) (Some b) m = third right a b m

  pub made_third_part : (x y z : Option (List ℕ)) → MayBegin f params → Moved x y (Written f params) → WritesPart 0 1 y z → Moved x z (IsMadeInPart f params)
  made_third_part x y z right m w = subst (λ z. Moved x z (IsMadeInPart f params)) (sym w.2) (by x y m)
    where
      by : (x y : Option (List ℕ)) → Moved x y (Written f params) → Moved x (with_piece 0 w.0 y) (IsMadeInPart f params)
      by None None m = tt
      by None (Some b) m = absurd m
      by (Some a) None m = absurd m
      by (Some a) (Some b) m = third_part right a b w.0 m w.1
