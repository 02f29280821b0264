-- What the marker of an upgrade makes of an image.
use Rattle.std.proofs.Common.{◌≡◌, ℕ, ◌+◌, ◌-◌, ◌≤◌, ◌⊎◌, inl, inr, Bool, true, false, List, ◌∷◌, ◌++◌, length, take, drop, Option, Some, None, refl, sym, ap, subst, ◌∙◌, arith, append_assoc, length-append, length-take-le}
use Rattle.std.specs.Prelude.{◌==◌, IfSome, nat_le, not}
use Rattle.std.proofs.lemmas.Bool.{and_from, eqb-true, eq-eqb, false≢true, le-leb}
use Rattle.std.proofs.lemmas.List.{drop_at, take_all, take_at}
use Rattle.dg_disk.specs.Image.{HasOffset}
use Rattle.dg_history.specs.declared.form.Form.{Form}
use Rattle.dg_history.specs.declared.form.Form.TheVariants as form
use Rattle.dg_history.specs.declared.limits.TheConstants.{FILE_BYTES_MAX}
use Rattle.dg_history.specs.History.{History, Batch, is_form, is_skewed, is_wide, narrow_batches, with_upgrade}
use Rattle.dg_history.specs.LegalHistory.{IsLegal, are_silent}
use Rattle.dg_index.specs.OpenedIndex.{Opening, opened_of}
use Rattle.dg_index.specs.ImageOfHistory.{IsImageOf}
use Rattle.dg_index.specs.FileOfHistory.{file, marker, size}
use Rattle.dg_index.specs.IndexGrowth.{index_upgraded, needed_for_marker}
use Rattle.dg_index.proofs.OpenedIndexGrowth.{file_upgraded, used_is}
use Rattle.dg_index.proofs.OpenedSoFar.{gains_marker}
use Rattle.dg_file.specs.Growth.{Moved, KeepsFront, Gated, GatedOrNot}
use Rattle.dg_file.specs.Images.{BothTold, GainsMarker, GainsUpgrade, GainsUpgradeOrNot, IsOpenedAs}
use Rattle.dg_file.proofs.GrowthMoves.{moved_both, moved_given}
use Rattle.dg_file.proofs.ImageColumns.{used_within}
use Rattle.dg_file.proofs.ImageSegments.{image_from, image_gated, image_kept, same_opening, zero_closed}
use Rattle.std.specs.List.{flat_map}

-- ---- the upgraded history

legal_upgraded : (z : History) → IsLegal z → z.form ≡ form.One → IsLegal (with_upgrade z)
legal_upgraded z legal one =
    let plain : not (is_skewed z.params.function) ≡ true = ap (λ (f : Form). is_form f z.params.function (length z.batches)) (sym one) ∙ legal.form in
    let all : take (length z.batches) z.batches ≡ narrow_batches z.form z.batches = take_all (length z.batches) z.batches (omega arith) ∙ ap (λ (f : Form). narrow_batches f z.batches) (sym one) in
    record {
      parameters = legal.parameters;
      function = legal.function;
      form = and_from (not (is_skewed z.params.function)) (nat_le (length z.batches) (length z.batches)) plain (le-leb (length z.batches) (length z.batches) (omega arith));
      silent = ap (λ (l : List Batch). are_silent (flat_map (λ (b : Batch). b.events) l)) all ∙ legal.silent;
      batches = legal.batches;
      names = legal.names;
      few_names = legal.few_names;
      few = legal.few;
    }

-- the bytes that the marker needs are those of the upgraded file
pub measured : (z : History) → z.form ≡ form.One → needed_for_marker (opened_of z).index ≡ size (with_upgrade z)
measured z one = omega (arith, used_is z, ap length (file_upgraded z one), length-append (file z) (1 ∷ marker))

image_upgraded : (z : History) (before after : List ℕ) → IsImageOf z before → z.form ≡ form.One → size (with_upgrade z) ≤ FILE_BYTES_MAX → Gated (length (file z)) 1 marker before after → IsImageOf (with_upgrade z) after
image_upgraded z before after h one fits g =
    let is : after ≡ file z ++ (1 ∷ (marker ++ 0 ∷ g.rest)) = g.is ∙ ap (λ (l : List ℕ). l ++ 1 ∷ (marker ++ 0 ∷ g.rest)) h.begins in
    image_from (with_upgrade z) 0 g.rest after (legal_upgraded z h.legal one) fits (zero_closed 0 refl)
    (is ∙ sym (append_assoc (file z) (1 ∷ marker) (0 ∷ g.rest)) ∙ ap (λ (l : List ℕ). l ++ 0 ∷ g.rest) (sym (file_upgraded z one)))

-- ---- by what the image is opened as

module _ (o : Opening) (before after : List ℕ) (fits : needed_for_marker o ≤ FILE_BYTES_MAX) where
  gains_mark : is_wide o.form ≡ false → 1 ≤ o.used → o.used ≤ length before + 1 → Gated (o.used - 1) 1 marker before after → GainsMarker o (index_upgraded o) before after
  gains_mark narrow some within g names e =
      let front = length-take-le (o.used - 1) before (omega (arith, within)) in
      gains_marker before after g.rest (record { index = o; names = names }) e narrow (omega (arith, fits))
      (ap (take (o.used - 1)) g.is ∙ take_at (take (o.used - 1) before) (1 ∷ (marker ++ 0 ∷ g.rest)) (o.used - 1) front)
      (ap (drop (o.used - 1)) g.is ∙ drop_at (take (o.used - 1) before) (1 ∷ (marker ++ 0 ∷ g.rest)) (o.used - 1) front)

  gains_upgrade : IsOpenedAs before o → Gated (o.used - 1) 1 marker before after → GainsUpgrade before after
  gains_upgrade e g z h one =
      let same = same_opening z before o h e in
      let used : size z ≡ o.used = sym (used_is z) ∙ ap (λ (o : Opening). o.used) same in
      let more : needed_for_marker o ≡ size (with_upgrade z) = ap needed_for_marker (sym same) ∙ measured z one in
      image_upgraded z before after h one (omega (arith, more, fits)) (subst (λ n. Gated n 1 marker before after) (omega (arith, used)) g)

  gains_or_not : IsOpenedAs before o → GatedOrNot o.used marker before after → GainsUpgradeOrNot before after
  gains_or_not e (inl kept) z h one =
      let used : o.used ≡ size z = sym (ap (λ (o : Opening). o.used) (same_opening z before o h e)) ∙ used_is z in
      inl (image_kept z before after h (subst (λ n. KeepsFront n before after) used kept))
  gains_or_not e (inr g) z h one = by (g.0 == 1) refl
    where
      by : (t : Bool) → (g.0 == 1) ≡ t → IsImageOf z after ⊎ IsImageOf (with_upgrade z) after
      by true opens = inr (gains_upgrade e (subst (λ n. Gated (o.used - 1) n marker before after) (eqb-true g.0 1 opens) g.1) z h one)
      by false other =
          let used : size z ≡ o.used = sym (used_is z) ∙ ap (λ (o : Opening). o.used) (same_opening z before o h e) in
          inl (image_gated z g.0 marker before after h (λ opens. false≢true (sym other ∙ eq-eqb g.0 1 opens)) (subst (λ n. Gated n g.0 marker before after) (omega (arith, used)) g.1))

-- ---- the same of images that may be told

pub offset_there : (x : Option (List ℕ)) (o : Opening) (used : ℕ) → used ≡ o.used → IfSome x (λ image. IsOpenedAs image o) → HasOffset x used
offset_there None o used is h = tt
offset_there (Some image) o used is h = omega (arith, is, used_within image (record { index = o; names = h.0 }) h.1)

module _ (x y : Option (List ℕ)) (o : Opening) (used : ℕ) (same : used ≡ o.used) (fits : needed_for_marker o ≤ FILE_BYTES_MAX) (h : IfSome x (λ image. IsOpenedAs image o)) where
  written : Moved x y (Gated (used - 1) 1 marker) → Moved x y (Gated (o.used - 1) 1 marker)
  written m = subst (λ n. Moved x y (Gated (n - 1) 1 marker)) same m

  pub added_marker : is_wide o.form ≡ false → 1 ≤ o.used → Moved x y (Gated (used - 1) 1 marker) → BothTold x y (GainsMarker o (index_upgraded o))
  added_marker narrow some m =
      moved_both x y (GainsMarker o (index_upgraded o))
      (moved_given x y (λ image. IsOpenedAs image o) (Gated (o.used - 1) 1 marker) (GainsMarker o (index_upgraded o))
      (λ a b f g. gains_mark o a b fits narrow some (omega (arith, used_within a (record { index = o; names = f.0 }) f.1)) g) h (written m))

  pub added_upgrade : Moved x y (Gated (used - 1) 1 marker) → BothTold x y GainsUpgrade
  added_upgrade m =
      moved_both x y GainsUpgrade (moved_given x y (λ image. IsOpenedAs image o) (Gated (o.used - 1) 1 marker) GainsUpgrade (λ a b f g. gains_upgrade o a b fits f g) h (written m))

  pub added_or_not : Moved x y (GatedOrNot used marker) → BothTold x y GainsUpgradeOrNot
  added_or_not m =
      moved_both x y GainsUpgradeOrNot (moved_given x y (λ image. IsOpenedAs image o) (GatedOrNot o.used marker) GainsUpgradeOrNot (λ a b f g. gains_or_not o a b fits f g) h
      (subst (λ n. Moved x y (GatedOrNot n marker)) same m))
