-- Images before and after one write, and after several.
use Rattle.std.proofs.Common.{◌≡◌, ℕ, ◌+◌, ◌-◌, ◌≤◌, inl, inr, List, [], ◌∷◌, ◌++◌, length, take, drop, Option, Some, None, refl, sym, ap, subst, ◌∙◌, append_assoc, arith, length-append, add-zero}
use Rattle.std.specs.Prelude.{is_some, IfSome, OnOk, OnErr, Result, Ok, Err}
use Rattle.std.proofs.lemmas.List.{take_at, drop_at, take-append-drop, length-take-le}
use Rattle.dg_disk.specs.Image.{HasOffset, WritesPart, put_at, with_piece}
use Rattle.dg_file.specs.Growth.{Moved, KeepsFront, Grown, Gated, GatedOrNot}
use Rattle.dg_file.specs.Images.{BothTold}
use Rattle.dg_index.proofs.ImageTextRanges.{same_fewer}

-- ---- told or not

pub moved_then : (x y z : Option (List ℕ)) (P Q R : List ℕ → List ℕ → Type 0) → ((a b c : List ℕ) → P a b → Q b c → R a c) → Moved x y P → Moved y z Q → Moved x z R
moved_then None None None P Q R f p q = tt
moved_then None None (Some c) P Q R f p q = absurd q
moved_then None (Some b) z P Q R f p q = absurd p
moved_then (Some a) None z P Q R f p q = absurd p
moved_then (Some a) (Some b) None P Q R f p q = absurd q
moved_then (Some a) (Some b) (Some c) P Q R f p q = f a b c p q

pub moved_weaker : (x y : Option (List ℕ)) (P Q : List ℕ → List ℕ → Type 0) → ((a b : List ℕ) → P a b → Q a b) → Moved x y P → Moved x y Q
moved_weaker None None P Q f p = tt
moved_weaker None (Some b) P Q f p = absurd p
moved_weaker (Some a) None P Q f p = absurd p
moved_weaker (Some a) (Some b) P Q f p = f a b p

-- the same with a fact of the bytes before
pub moved_given : (x y : Option (List ℕ)) (F : List ℕ → Type 0) (P Q : List ℕ → List ℕ → Type 0) → ((a b : List ℕ) → F a → P a b → Q a b) → IfSome x F → Moved x y P → Moved x y Q
moved_given None None F P Q f h p = tt
moved_given None (Some b) F P Q f h p = absurd p
moved_given (Some a) None F P Q f h p = absurd p
moved_given (Some a) (Some b) F P Q f h p = f a b h p

pub moved_told : (x y : Option (List ℕ)) (P : List ℕ → List ℕ → Type 0) → Moved x y P → is_some y ≡ is_some x
moved_told None None P p = refl
moved_told None (Some b) P p = absurd p
moved_told (Some a) None P p = absurd p
moved_told (Some a) (Some b) P p = refl

pub moved_both : (x y : Option (List ℕ)) (P : List ℕ → List ℕ → Type 0) → Moved x y P → BothTold x y P
moved_both None None P p = tt
moved_both None (Some b) P p = tt
moved_both (Some a) None P p = tt
moved_both (Some a) (Some b) P p = p

pub moved_after : (x y : Option (List ℕ)) (P : List ℕ → List ℕ → Type 0) (F : List ℕ → Type 0) → ((a b : List ℕ) → P a b → F b) → Moved x y P → IfSome y F
moved_after None None P F f p = tt
moved_after None (Some b) P F f p = absurd p
moved_after (Some a) None P F f p = absurd p
moved_after (Some a) (Some b) P F f p = f a b p

pub moved_same : (x y : Option (List ℕ)) (F : List ℕ → Type 0) (P : List ℕ → List ℕ → Type 0) → ((a : List ℕ) → F a → P a a) → IfSome x F → y ≡ x → Moved x y P
moved_same x y F P f h e = subst (λ z. Moved x z P) (sym e) (by x h)
  where
    by : (x : Option (List ℕ)) → IfSome x F → Moved x x P
    by None h = tt
    by (Some a) h = f a h

pub moved_put : (x y : Option (List ℕ)) (offset : ℕ) (piece : List ℕ) (F : List ℕ → Type 0) (P : List ℕ → List ℕ → Type 0) → ((a : List ℕ) → F a → P a (put_at offset piece a)) → IfSome x F → y ≡ with_piece offset piece x → Moved x y P
moved_put x y offset piece F P f h e = subst (λ z. Moved x z P) (sym e) (by x h)
  where
    by : (x : Option (List ℕ)) → IfSome x F → Moved x (with_piece offset piece x) P
    by None h = tt
    by (Some a) h = f a h

pub moved_part : (x y : Option (List ℕ)) (offset len : ℕ) (F : List ℕ → Type 0) (P : List ℕ → List ℕ → Type 0) → ((a bytes : List ℕ) → F a → length bytes ≤ len → P a (put_at offset bytes a)) → IfSome x F → WritesPart offset len x y → Moved x y P
moved_part x y offset len F P f h w = moved_put x y offset w.0 F P (λ a k. f a w.0 k w.1) h w.2

-- ---- one piece put

pub put_keeps : (offset : ℕ) (piece a : List ℕ) → offset ≤ length a → KeepsFront offset a (put_at offset piece a)
put_keeps offset piece a le =
    let front = length-take-le offset a le in
    let is : put_at offset piece a ≡ take offset a ++ (piece ++ drop (offset + length piece) a) = append_assoc (take offset a) piece (drop (offset + length piece) a) in
    record {
      same = ap (take offset) is ∙ take_at (take offset a) (piece ++ drop (offset + length piece) a) offset front;
      reach = omega (arith, ap length is, front, length-append (take offset a) (piece ++ drop (offset + length piece) a));
    }

pub put_grows : (offset : ℕ) (piece a : List ℕ) → offset ≤ length a → Grown offset piece a (put_at offset piece a)
put_grows offset piece a le = record {
  reached = le;
  rest = drop (offset + length piece) a;
  is = append_assoc (take offset a) piece (drop (offset + length piece) a);
}

pub none_keeps : (offset : ℕ) (a : List ℕ) → offset ≤ length a → KeepsFront offset a a
none_keeps offset a le = record { same = refl; reach = le }

pub none_grows : (offset : ℕ) (piece a : List ℕ) → piece ≡ [] → offset ≤ length a → Grown offset piece a a
none_grows offset piece a none le = record {
  reached = le;
  rest = drop offset a;
  is = sym (take-append-drop offset a) ∙ ap (λ (l : List ℕ). take offset a ++ (l ++ drop offset a)) (sym none);
}

-- ---- one piece behind another

pub keeps_then : (p q : ℕ) (a b c : List ℕ) → p ≤ q → KeepsFront p a b → KeepsFront q b c → KeepsFront p a c
keeps_then p q a b c le k m = record { same = same_fewer p q c b le m.same ∙ k.same; reach = omega (arith, m.reach) }

pub grown_keeps : (p : ℕ) (x a b : List ℕ) → Grown p x a b → KeepsFront p a b
grown_keeps p x a b g =
    let front = length-take-le p a g.reached in
    record {
      same = ap (take p) g.is ∙ take_at (take p a) (x ++ g.rest) p front;
      reach = omega (arith, ap length g.is, front, length-append (take p a) (x ++ g.rest));
    }

pub grown_long : (p : ℕ) (x a b : List ℕ) → Grown p x a b → p + length x ≤ length b
grown_long p x a b g =
    omega (arith, ap length g.is, length-take-le p a g.reached, length-append (take p a) (x ++ g.rest), length-append x g.rest)

pub grown_then : (p q : ℕ) (x y a b c : List ℕ) → q ≡ p + length x → Grown p x a b → Grown q y b c → Grown p (x ++ y) a c
grown_then p q x y a b c e g h =
    let front = length-take-le p a g.reached in
    let split : b ≡ (take p a ++ x) ++ g.rest = g.is ∙ sym (append_assoc (take p a) x g.rest) in
    let long : length (take p a ++ x) ≡ q = omega (arith, front, e, length-append (take p a) x) in
    let head : take q b ≡ take p a ++ x = ap (take q) split ∙ take_at (take p a ++ x) g.rest q long in
    record {
      reached = g.reached;
      rest = h.rest;
      is = h.is ∙ ap (λ (l : List ℕ). l ++ (y ++ h.rest)) head ∙ append_assoc (take p a) x (y ++ h.rest) ∙ ap (λ (l : List ℕ). take p a ++ l) (sym (append_assoc x y h.rest));
    }

-- ---- the gate in front of a text

pub gate_put : (used gate : ℕ) (text a b : List ℕ) → 1 ≤ used → Grown used (text ++ 0 ∷ []) a b → Gated (used - 1) gate text a (put_at (used - 1) (gate ∷ []) b)
gate_put used gate text a b some g =
    let offset = used - 1 in
    let keeps = grown_keeps used (text ++ 0 ∷ []) a b g in
    let front : take offset b ≡ take offset a = same_fewer offset used b a (omega arith) keeps.same in
    let next : offset + 1 ≡ used = omega arith in
    let rest : drop (offset + 1) b ≡ text ++ 0 ∷ g.rest =
    ap (λ m. drop m b) next ∙ ap (drop used) g.is ∙ drop_at (take used a) ((text ++ 0 ∷ []) ++ g.rest) used (length-take-le used a g.reached) ∙ append_assoc text (0 ∷ []) g.rest in
    record {
      rest = g.rest;
      is = append_assoc (take offset b) (gate ∷ []) (drop (offset + 1) b) ∙ (λ i. front i ++ gate ∷ rest i);
    }

pub gate_part : (used : ℕ) (text a b bytes : List ℕ) → 1 ≤ used → length bytes ≤ 1 → Grown used (text ++ 0 ∷ []) a b → GatedOrNot used text a (put_at (used - 1) bytes b)
gate_part used text a b [] some few g =
    let none : put_at (used - 1) [] b ≡ b = append_assoc (take (used - 1) b) [] (drop (used - 1 + 0) b) ∙ ap (λ m. take (used - 1) b ++ drop m b) (add-zero (used - 1)) ∙ take-append-drop (used - 1) b in
    inl (subst (KeepsFront used a) (sym none) (grown_keeps used (text ++ 0 ∷ []) a b g))
gate_part used text a b (gate ∷ []) some few g = inr (gate, gate_put used gate text a b some g)
gate_part used text a b (x ∷ y ∷ bytes) some few g = absurd (omega arith)

-- ---- the same of images that may be told

pub offset_behind : (x y : Option (List ℕ)) (p q : ℕ) (piece : List ℕ) → q ≡ p + length piece → Moved x y (Grown p piece) → HasOffset y q
offset_behind x y p q piece e m =
    moved_after x y (Grown p piece) (λ b. q ≤ length b) (λ a b g. omega (arith, e, grown_long p piece a b g)) m

pub keep_then : (x y z : Option (List ℕ)) (p q : ℕ) → p ≤ q → Moved x y (KeepsFront p) → Moved y z (KeepsFront q) → Moved x z (KeepsFront p)
keep_then x y z p q le m n =
    moved_then x y z (KeepsFront p) (KeepsFront q) (KeepsFront p) (λ a b c k l. keeps_then p q a b c le k l) m n

pub grow_then : (x y z : Option (List ℕ)) (p q : ℕ) (s t : List ℕ) → q ≡ p + length s → Moved x y (Grown p s) → Moved y z (Grown q t) → Moved x z (Grown p (s ++ t))
grow_then x y z p q s t e m n =
    moved_then x y z (Grown p s) (Grown q t) (Grown p (s ++ t)) (λ a b c g h. grown_then p q s t a b c e g h) m n

pub on_ok_any : {T E P : Type 0} (r : Result T E) → P → OnOk r P
on_ok_any (Ok x) p = p
on_ok_any (Err e) p = tt

pub on_err_any : {T E P : Type 0} (r : Result T E) → P → OnErr r P
on_err_any (Ok x) p = tt
on_err_any (Err e) p = p

pub gate_opened : (x y z : Option (List ℕ)) (used gate : ℕ) (text : List ℕ) → 1 ≤ used → Moved x y (Grown used (text ++ 0 ∷ [])) → z ≡ with_piece (used - 1) (gate ∷ []) y → Moved x z (Gated (used - 1) gate text)
gate_opened x y z used gate text some m e = subst (λ z. Moved x z (Gated (used - 1) gate text)) (sym e) (by x y m)
  where
    by : (x y : Option (List ℕ)) → Moved x y (Grown used (text ++ 0 ∷ [])) → Moved x (with_piece (used - 1) (gate ∷ []) y) (Gated (used - 1) gate text)
    by None None m = tt
    by None (Some b) m = absurd m
    by (Some a) None m = absurd m
    by (Some a) (Some b) m = gate_put used gate text a b some m

pub gate_left : (x y z : Option (List ℕ)) (used : ℕ) (text : List ℕ) → 1 ≤ used → Moved x y (Grown used (text ++ 0 ∷ [])) → WritesPart (used - 1) 1 y z → Moved x z (GatedOrNot used text)
gate_left x y z used text some m w = subst (λ z. Moved x z (GatedOrNot used text)) (sym w.2) (by x y m)
  where
    by : (x y : Option (List ℕ)) → Moved x y (Grown used (text ++ 0 ∷ [])) → Moved x (with_piece (used - 1) w.0 y) (GatedOrNot used text)
    by None None m = tt
    by None (Some b) m = absurd m
    by (Some a) None m = absurd m
    by (Some a) (Some b) m = gate_part used text a b w.0 some w.1 m
