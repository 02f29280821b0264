-- What is kept stays what the disk has.
use Rattle.std.proofs.Common.{◌≡◌, ℕ, ◌+◌, Bool, true, false, ◌&&◌, List, [], ◌∷◌, length, take, drop, slice_range, Option, Some, None, refl, sym, ap, ◌∙◌, arith}
use Rattle.std.proofs.lemmas.Slice.Eq.{bytes_eq-Decides}
use Rattle.dg_cached_disk.specs.Ranges.{AreRangesOf, StandsIn}
use Rattle.dg_disk.specs.Image.{IsRangeOf}
use Rattle.dg_cached_disk.specs.Standing.{all_stand, stand}

both : (a b : Bool) → (a && b) ≡ true → (a ≡ true) × (b ≡ true)
both true b e = (refl, e)
both false b e = cc

together : (a b : Bool) → a ≡ true → b ≡ true → (a && b) ≡ true
together a b p q = λ i. p i && q i

pub to_ranges : (image : List ℕ) (ranges : List (ℕ × List ℕ)) → all_stand image ranges ≡ true → AreRangesOf image ranges
to_ranges image [] e = tt
to_ranges image (r ∷ ranges) e =
    let b = both _ (all_stand image ranges) e in
    ((bytes_eq-Decides r.1 (take (length r.1) (drop r.0 image))).0 b.0, to_ranges image ranges b.1)

pub from_ranges : (image : List ℕ) (ranges : List (ℕ × List ℕ)) → AreRangesOf image ranges → all_stand image ranges ≡ true
from_ranges image [] a = refl
from_ranges image (r ∷ ranges) a =
    together _ (all_stand image ranges) ((bytes_eq-Decides r.1 (take (length r.1) (drop r.0 image))).1 a.0) (from_ranges image ranges a.1)

pub kept_none : (x : Option (List ℕ)) → stand x [] ≡ true
kept_none None = refl
kept_none (Some image) = refl

pub kept_still : (x y : Option (List ℕ)) (old new : List (ℕ × List ℕ)) → y ≡ x → stand x old ≡ true → ((image : List ℕ) → AreRangesOf image old → AreRangesOf image new) → stand y new ≡ true
kept_still x y old new told h f = ap (λ z. stand z new) told ∙ by x h
  where
    by : (x : Option (List ℕ)) → stand x old ≡ true → stand x new ≡ true
    by None h = refl
    by (Some image) h = from_ranges image new (f image (to_ranges image old h))

range_is : (image : List ℕ) (at n : ℕ) → slice_range image at (at + n) ≡ take n (drop at image)
range_is image at n = ap (λ m. take m (drop at image)) (omega arith)

pub kept_more : (x y : Option (List ℕ)) (old new : List (ℕ × List ℕ)) (offset : ℕ) (bytes : List ℕ) → y ≡ x → IsRangeOf x offset bytes → stand x old ≡ true
    → ((image : List ℕ) → AreRangesOf image old → StandsIn image (offset, bytes) → AreRangesOf image new) → stand y new ≡ true
kept_more x y old new offset bytes told r h f = ap (λ z. stand z new) told ∙ by x r h
  where
    by : (x : Option (List ℕ)) → IsRangeOf x offset bytes → stand x old ≡ true → stand x new ≡ true
    by None r h = refl
    by (Some image) r h = from_ranges image new (f image (to_ranges image old h) (r ∙ range_is image offset (length bytes)))

pub found_range : (x : Option (List ℕ)) (ranges : List (ℕ × List ℕ)) (offset len : ℕ) (bytes : List ℕ) → stand x ranges ≡ true → length bytes ≡ len
    → ((image : List ℕ) → AreRangesOf image ranges → bytes ≡ take len (drop offset image)) → IsRangeOf x offset bytes
found_range None ranges offset len bytes h long f = tt
found_range (Some image) ranges offset len bytes h long f =
    f image (to_ranges image ranges h) ∙ ap (λ n. take n (drop offset image)) (sym long) ∙ sym (range_is image offset (length bytes))
