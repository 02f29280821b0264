-- Writes that leave no byte behind the closed gate that ends the file, and what they make of an image.
use Rattle.std.proofs.Common.{◌≡◌, ℕ, ◌+◌, ◌-◌, ◌≤◌, false, List, [], ◌∷◌, ◌++◌, length, take, drop, Option, Some, None, Result, Ok, Err, refl, sym, ap, subst, ◌∙◌, append_assoc, arith, length-append, length-drop, length-take-le}
use Rattle.std.specs.Prelude.{IfSome}
use Rattle.std.proofs.lemmas.Bool.{false≢true}
use Rattle.std.proofs.lemmas.List.{drop_at, nil_from_length, take_at}
use Rattle.dg_disk.specs.Image.{put_at, with_piece}
use Rattle.dg_file.specs.Growth.{EndsBy, Grown, JustGated, KeepsFront, Moved}
use Rattle.dg_file.specs.Headers.{header_rest, is_upgraded}
use Rattle.dg_file.specs.Images.{BothTold, Fits, GainsMarker, GainsSegment, IsOpenedAs}
use Rattle.dg_file.specs.TidyImages.{EndsAtGate, IsJustFile, IsTidy, StaysTidy}
use Rattle.dg_file.proofs.GrowthCreations.{Written}
use Rattle.dg_file.proofs.GrowthMoves.{grown_keeps, moved_then}
use Rattle.dg_file.proofs.ImageParts.{opened_blank}
use Rattle.dg_history.specs.declared.form.Form.{Form}
use Rattle.dg_history.specs.declared.form.Form.TheVariants as form
use Rattle.dg_history.specs.declared.params.Params.{Params}
use Rattle.dg_history.specs.History.{History, empty_history}
use Rattle.dg_index.proofs.ImageTextRanges.{same_fewer}
use Rattle.dg_index.proofs.OpenedIndexGrowth.{used_is}
use Rattle.dg_index.proofs.OpenedIndexHistories.{images_are_opened}
use Rattle.dg_index.specs.FileOfHistory.{Segment, file}
use Rattle.dg_index.specs.ImageOfHistory.{IsImageOf, StandsAs}
use Rattle.dg_index.specs.OpenedIndex.{Opened, Opening, Unopened, opened_of, opening}

-- ---- no byte further behind

pub put_ends : (offset : ℕ) (piece a : List ℕ) → offset ≤ length a → EndsBy offset (length piece) a (put_at offset piece a)
put_ends offset piece a le = λ few.
    let rest = drop (offset + length piece) a in
    omega (arith, few, length-take-le offset a le, length-drop (offset + length piece) a, length-append (take offset a) piece, length-append (take offset a ++ piece) rest)

pub none_ends : (offset : ℕ) (piece a : List ℕ) → EndsBy offset (length piece) a a
none_ends offset piece a = λ few. omega (arith, few)

pub ends_then : (x y z : Option (List ℕ)) (p q m n k : ℕ) → q ≡ p + m → k ≡ m + n → Moved x y (EndsBy p m) → Moved y z (EndsBy q n) → Moved x z (EndsBy p k)
ends_then x y z p q m n k next all s t =
    moved_then x y z (EndsBy p m) (EndsBy q n) (EndsBy p k)
    (λ a b c f g few. let middle : length b ≤ p + m = f few in let end : length c ≤ q + n = g (omega (arith, middle, next)) in omega (arith, end, next, all)) s t

-- the gate in front of the text is opened, and nothing stands behind
just_gated : (used gate : ℕ) (text a b : List ℕ) → 1 ≤ used → Grown used (text ++ 0 ∷ []) a b → EndsBy used (length text + 1) a b → JustGated (used - 1) gate text a (put_at (used - 1) (gate ∷ []) b)
just_gated used gate text a b some g ends = λ few.
    let within : length a ≤ used = omega (arith, few, some) in
    let end : length b ≤ used + (length text + 1) = ends within in
    let none : g.rest ≡ [] =
    nil_from_length g.rest (omega (arith, end, ap length g.is, length-take-le used a g.reached, length-append (take used a) ((text ++ 0 ∷ []) ++ g.rest), length-append (text ++ 0 ∷ []) g.rest, length-append text (0 ∷ []))) in
    let offset : ℕ = used - 1 in
    let keeps : KeepsFront used a b = grown_keeps used (text ++ 0 ∷ []) a b g in
    let front : take offset b ≡ take offset a = same_fewer offset used b a (omega arith) keeps.same in
    let next : offset + 1 ≡ used = omega (arith, some) in
    let rest : drop (offset + 1) b ≡ text ++ 0 ∷ [] =
    ap (λ m. drop m b) next ∙ ap (drop used) g.is ∙ drop_at (take used a) ((text ++ 0 ∷ []) ++ g.rest) used (length-take-le used a g.reached) ∙ append_assoc text (0 ∷ []) g.rest ∙ ap (λ (l : List ℕ). text ++ 0 ∷ l) none in
    append_assoc (take offset b) (gate ∷ []) (drop (offset + 1) b) ∙ (λ i. front i ++ gate ∷ rest i)

pub just_opened : (x y z : Option (List ℕ)) (used gate : ℕ) (text : List ℕ) → 1 ≤ used → Moved x y (Grown used (text ++ 0 ∷ [])) → Moved x y (EndsBy used (length text + 1)) → z ≡ with_piece (used - 1) (gate ∷ []) y → Moved x z (JustGated (used - 1) gate text)
just_opened x y z used gate text some m n e = subst (λ z. Moved x z (JustGated (used - 1) gate text)) (sym e) (by x y m n)
  where
    by : (x y : Option (List ℕ)) → Moved x y (Grown used (text ++ 0 ∷ [])) → Moved x y (EndsBy used (length text + 1)) → Moved x (with_piece (used - 1) (gate ∷ []) y) (JustGated (used - 1) gate text)
    by None None m n = tt
    by None (Some b) m n = absurd m
    by (Some a) None m n = absurd m
    by (Some a) (Some b) m n = just_gated used gate text a b some m n

-- ---- a new index

made_is : (f : Form) (params : Params) → is_upgraded f ≡ false → 1 ∷ header_rest f params ≡ file (empty_history f params) ++ 0 ∷ []
made_is form.One params first = refl
made_is form.Two params first = refl
made_is (form.Upgraded b) params first = absurd (false≢true (sym first))

pub made_exact : (f : Form) (params : Params) (x y z : Option (List ℕ)) → is_upgraded f ≡ false → Moved x y (Written f params) → z ≡ with_piece 0 (1 ∷ []) y → Moved x z (λ before after. after ≡ file (empty_history f params) ++ 0 ∷ [])
made_exact f params x y z first m e = subst (λ z. Moved x z (λ before after. after ≡ file (empty_history f params) ++ 0 ∷ [])) (sym e) (by x y m)
  where
    by : (x y : Option (List ℕ)) → Moved x y (Written f params) → Moved x (with_piece 0 (1 ∷ []) y) (λ before after. after ≡ file (empty_history f params) ++ 0 ∷ [])
    by None None m = tt
    by None (Some b) m = absurd m
    by (Some a) None m = absurd m
    by (Some a) (Some b) m = ap (λ (l : List ℕ). 1 ∷ drop 1 l) m.is ∙ made_is f params first

-- ---- what an image is opened as

used_or : Result Opened Unopened → ℕ
used_or (Ok x) = x.index.used
used_or (Err e) = 0

same_used : (image : List ℕ) (x y : Opened) → opening image ≡ Ok x → opening image ≡ Ok y → x.index.used ≡ y.index.used
unfolding used_or
same_used image x y is also = ap used_or (sym is ∙ also)

ends_as : (used n : ℕ) (image : List ℕ) → used ≡ n → EndsAtGate used image → EndsAtGate n image
ends_as used n image same e = record { front = e.front; is = e.is; long = e.long ∙ same }

-- behind an image that is just the bytes in use stand an open gate, the text and a closed gate
tidy_behind : (o n : Opening) (names more : List (List ℕ)) (used : ℕ) (text a b : List ℕ) → used ≡ o.used → 1 ≤ used → n.used ≡ used + length text + 1
    → opening a ≡ Ok (record { index = o; names = names }) → opening b ≡ Ok (record { index = n; names = more }) → JustGated (used - 1) 1 text a b → IsTidy a → IsTidy b
tidy_behind o n names more used text a b same some need was now just tidy = λ x opened.
    let end : EndsAtGate o.used a = tidy (record { index = o; names = names }) was in
    let long : length a ≡ used = omega (arith, ap length end.is, length-append end.front (0 ∷ []), end.long, same) in
    let front = length-take-le (used - 1) a (omega (arith, long)) in
    let is : b ≡ take (used - 1) a ++ 1 ∷ (text ++ 0 ∷ []) = just (omega (arith, long, some)) in
    ends_as n.used x.index.used b (same_used b (record { index = n; names = more }) x now opened)
    (record {
      front = take (used - 1) a ++ 1 ∷ text;
      is = is ∙ sym (append_assoc (take (used - 1) a) (1 ∷ text) (0 ∷ []));
      long = omega (arith, need, front, some, length-append (take (used - 1) a) (1 ∷ text));
    })

module _ (x y : Option (List ℕ)) (o n : Opening) (used : ℕ) (text : List ℕ) (same : used ≡ o.used) (some : 1 ≤ used) (need : n.used ≡ used + length text + 1) where
  pub segment_tidy : (s : Segment) → IfSome x (λ image. Fits image o s) → BothTold x y (GainsSegment o s n) → Moved x y (JustGated (used - 1) 1 text) → StaysTidy x y
  segment_tidy s = by x y
    where
      by : (x y : Option (List ℕ)) → IfSome x (λ image. Fits image o s) → BothTold x y (GainsSegment o s n) → Moved x y (JustGated (used - 1) 1 text) → StaysTidy x y
      by None None fits gains just tidy = tt
      by None (Some b) fits gains just tidy = absurd just
      by (Some a) None fits gains just tidy = absurd just
      by (Some a) (Some b) fits gains just tidy = tidy_behind o n fits.0 _ used text a b same some need fits.1 (gains fits.0 fits.1) just tidy

  pub marker_tidy : IfSome x (λ image. IsOpenedAs image o) → BothTold x y (GainsMarker o n) → Moved x y (JustGated (used - 1) 1 text) → StaysTidy x y
  marker_tidy = by x y
    where
      by : (x y : Option (List ℕ)) → IfSome x (λ image. IsOpenedAs image o) → BothTold x y (GainsMarker o n) → Moved x y (JustGated (used - 1) 1 text) → StaysTidy x y
      by None None fits gains just tidy = tt
      by None (Some b) fits gains just tidy = absurd just
      by (Some a) None fits gains just tidy = absurd just
      by (Some a) (Some b) fits gains just tidy = tidy_behind o n fits.0 _ used text a b same some need fits.1 (gains fits.0 fits.1) just tidy

-- ---- images of a history

pub tidy_file : (z : History) (image : List ℕ) → IsImageOf z image → IsTidy image → image ≡ file z ++ 0 ∷ []
tidy_file z image h tidy =
    let end : EndsAtGate (opened_of z).index.used image = tidy (opened_of z) (images_are_opened z image h) in
    let long : length end.front ≡ length (file z) = omega (arith, end.long, used_is z) in
    let front : end.front ≡ file z = sym (take_at end.front (0 ∷ []) (length (file z)) long) ∙ ap (take (length (file z))) (sym end.is) ∙ h.begins in
    end.is ∙ ap (λ (l : List ℕ). l ++ 0 ∷ []) front

pub file_tidy : (z : History) (image : List ℕ) → IsImageOf z image → image ≡ file z ++ 0 ∷ [] → IsTidy image
file_tidy z image h is = λ x opened. record {
  front = file z;
  is = is;
  long = sym (used_is z) ∙ same_used image (opened_of z) x (images_are_opened z image h) opened;
}

-- the same where there may be no index
pub tidy_just : (index : Option History) (image : List ℕ) → StandsAs index image → IsTidy image → IsJustFile index image
tidy_just None image stands tidy = stands
tidy_just (Some z) image stands tidy = tidy_file z image stands tidy

pub just_tidy : (index : Option History) (image : List ℕ) → StandsAs index image → IsJustFile index image → IsTidy image
just_tidy None image stands just = λ x opened. absurd (not_both (sym (opened_blank image stands) ∙ opened))
  where
    not_both : {x : Opened} {e : Unopened} → (let r : Result Opened Unopened = Err e in r) ≡ Ok x → ⊥
    not_both is = cc
just_tidy (Some z) image stands just = file_tidy z image stands just

-- ---- the same of images that may be told

pub same_tidy : (x y : Option (List ℕ)) → y ≡ x → StaysTidy x y
same_tidy x y same tidy = subst (λ (o : Option (List ℕ)). IfSome o IsTidy) (sym same) tidy

pub made_tidy : (z : History) (x y : Option (List ℕ)) → IfSome y (λ image. IsImageOf z image) → IfSome y (λ image. image ≡ file z ++ 0 ∷ []) → StaysTidy x y
made_tidy z x None there is tidy = tt
made_tidy z x (Some image) there is tidy = file_tidy z image there is
