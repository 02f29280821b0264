-- What the parts of an image that are read say of it.
use Rattle.std.proofs.Common.{◌≡◌, ℕ, ◌+◌, ◌-◌, ◌<◌, ◌≤◌, true, false, cond, List, ◌++◌, length, get_or, take, drop, slice_range, Option, Some, None, refl, sym, ap, ◌∙◌, add-zero, arith}
use Rattle.std.specs.Prelude.{◌&&◌, ◌||◌, ◌==◌, not, nat_lt, nat_le, IfSome, Err}
use Rattle.std.proofs.lemmas.Bool.{le-ltb, lt-ltb, leb-true, eq-eqb, ne_eqb, cond_both, false_from_ne_true, and_parts}
use Rattle.std.specs.Option.{option_map}
use Rattle.std.proofs.lemmas.List.{take-take, take_at, get_or-take, get_or-drop}
use Rattle.std.proofs.Math.Bool.{or-true}
use Rattle.dg_disk.specs.Counts.{raised_by}
use Rattle.dg_disk.specs.Image.{IsLengthOf, IsRangeOf, HasRange}
use Rattle.dg_history.specs.declared.limits.TheConstants.{FILE_BYTES_MAX}
use Rattle.dg_index.specs.ImageOfHistory.{is_blank}
use Rattle.dg_index.specs.ImageText.{eight_at, gate_behind, is_within, header_in}
use Rattle.dg_index.specs.OpenedIndex.{opened_by, opening, No_index, Not_ours}
use Rattle.dg_index.proofs.ImageTextRanges.{piece_eight}
use Rattle.dg_index.proofs.OpenedSoFar.{header_same}
use Rattle.dg_file.specs.declared.header.Header.{Header as FoundHeader}
use Rattle.dg_segment.specs.declared.lengths.Lengths.{Lengths}
use Rattle.dg_file.specs.declared.reads.Found.{Found}
use Rattle.dg_segment.specs.Directories.{fit_in, gate_after, segment_lengths_at}
use Rattle.dg_file.specs.Headers.{IsFoundIn, as_header}
use Rattle.dg_segment.proofs.DirectoryTexts.{none_map, some_map}
use Rattle.dg_file.specs.Images.{taken_after}

pub opened_blank : (image : List ℕ) → is_blank image ≡ true → opening image ≡ Err No_index
opened_blank image e = ap (λ b. cond b (Err No_index) (opened_by image (header_in image))) e

opened_foreign : (image : List ℕ) → is_blank image ≡ false → header_in image ≡ None → opening image ≡ Err Not_ours
opened_foreign image e p = ap (λ b. cond b (Err No_index) (opened_by image (header_in image))) e ∙ ap (opened_by image) p

within_is : (image : List ℕ) (at : ℕ) → is_within image at ≡ fit_in at (length image) (segment_lengths_at image at)
within_is image at = refl

-- the lengths in the bytes that are read are those at the offset
lengths_read : (bytes image : List ℕ) (at : ℕ) → bytes ≡ take 16 (drop at image) → segment_lengths_at bytes 0 ≡ segment_lengths_at image at
lengths_read bytes image at is =
    ap (λ (l : List ℕ). segment_lengths_at l 0) is
    ∙ (λ i. record { directory = (piece_eight 16 at 0 image (omega arith) ∙ ap (eight_at image) (add-zero at)) i; columns = piece_eight 16 at 8 image (omega arith) i })

pub some_both : (x : Option (List ℕ)) (F G H : List ℕ → Type 0) → ((a : List ℕ) → F a → G a → H a) → IfSome x F → IfSome x G → IfSome x H
some_both None F G H f p q = tt
some_both (Some a) F G H f p q = f a p q

pub some_weaker : (x : Option (List ℕ)) (F H : List ℕ → Type 0) → ((a : List ℕ) → F a → H a) → IfSome x F → IfSome x H
some_weaker None F H f p = tt
some_weaker (Some a) F H f p = f a p

range_is : (image : List ℕ) (at n : ℕ) → slice_range image at (at + n) ≡ take n (drop at image)
range_is image at n = ap (λ m. take m (drop at image)) (omega arith)

-- ---- the header

abbrev LengthIs : ℕ → List ℕ → Type 0
LengthIs len image = len ≡ length image

abbrev RangeIs : ℕ → List ℕ → List ℕ → Type 0
RangeIs at range image = range ≡ slice_range image at (at + length range)

header_is : (header image : List ℕ) → length header ≡ 18 → RangeIs 0 header image → header ≡ take 18 image
header_is header image long is = is ∙ range_is image 0 (length header) ∙ ap (λ n. take n image) long

pub blank_short_image : (x : Option (List ℕ)) (len : ℕ) → len < 18 → IsLengthOf x len → IfSome x (λ image. opening image ≡ Err No_index)
blank_short_image x len lt l =
    some_weaker x (LengthIs len) (λ image. opening image ≡ Err No_index) (λ image e. opened_blank image (ap (λ b. b || (length image == 18 && not (get_or image 0 0 == 1))) (lt-ltb (length image) 18 (omega (arith, e))))) l

test_is : (header image : List ℕ) (len : ℕ) → len ≡ length image → header ≡ take 18 image → (len == 18 && not (get_or header 0 0 == 1)) ≡ (length image == 18 && not (get_or image 0 0 == 1))
test_is header image len l h =
    let byte : get_or header 0 0 ≡ get_or image 0 0 = ap (λ (l : List ℕ). get_or l 0 0) h ∙ get_or-take 18 image 0 0 (omega arith) in
    λ i. l i == 18 && not (byte i == 1)

pub blank_closed_image : (x : Option (List ℕ)) (len : ℕ) (header : List ℕ) → length header ≡ 18 → (len == 18 && not (get_or header 0 0 == 1)) ≡ true → IsLengthOf x len → IsRangeOf x 0 header → IfSome x (λ image. opening image ≡ Err No_index)
blank_closed_image x len header long closed l h =
    some_both x (LengthIs len) (RangeIs 0 header) (λ image. opening image ≡ Err No_index)
    (λ image e is. opened_blank image (ap (λ b. nat_lt (length image) 18 || b) (sym (test_is header image len e (header_is header image long is)) ∙ closed) ∙ or-true (nat_lt (length image) 18))) l h

there : (header image : List ℕ) (len : ℕ) → 18 ≤ len → (len == 18 && not (get_or header 0 0 == 1)) ≡ false → len ≡ length image → header ≡ take 18 image → is_blank image ≡ false
there header image len long test l h =
    λ i. le-ltb (length image) 18 (omega (arith, l)) i || (sym (test_is header image len l h) ∙ test) i

header_are : (header image : List ℕ) → header ≡ take 18 image → header_in header ≡ header_in image
header_are header image h =
    header_same 17 header image (omega arith) (ap (take 17) h ∙ take-take 17 18 image (omega arith))

pub foreign_image : (x : Option (List ℕ)) (len : ℕ) (header : List ℕ) → length header ≡ 18 → 18 ≤ len → (len == 18 && not (get_or header 0 0 == 1)) ≡ false → option_map as_header (header_in header) ≡ None → IsLengthOf x len → IsRangeOf x 0 header → IfSome x (λ image. opening image ≡ Err Not_ours)
foreign_image x len header long enough test none l h =
    some_both x (LengthIs len) (RangeIs 0 header) (λ image. opening image ≡ Err Not_ours)
    (λ image e is. let h = header_is header image long is in opened_foreign image (there header image len enough test e h) (sym (header_are header image h) ∙ none_map as_header (header_in header) none)) l h

pub found_image : (x : Option (List ℕ)) (len gate : ℕ) (header : List ℕ) (said : FoundHeader) → length header ≡ 18 → 18 ≤ len → (len == 18 && not (get_or header 0 0 == 1)) ≡ false → option_map as_header (header_in header) ≡ Some said → gate ≡ get_or header 17 0 → IsLengthOf x len → IsRangeOf x 0 header
    → IfSome x (λ image. IsFoundIn image (record { form = said.form; params = said.params; len = len; gate = gate }))
found_image x len gate header said long enough test some g l h =
    let m = some_map as_header (header_in header) said some in
    some_both x (LengthIs len) (RangeIs 0 header) (λ image. IsFoundIn image (record { form = said.form; params = said.params; len = len; gate = gate }))
    (λ image e is. let h = header_is header image long is in record {
      there = there header image len enough test e h;
      header = sym (header_are header image h) ∙ m.1 ∙ ap (λ (f : FoundHeader). Some (record { form = f.form; params = f.params })) m.2;
      len = e;
      gate = g ∙ ap (λ (l : List ℕ). get_or l 17 0) h ∙ get_or-take 18 image 17 0 (omega arith);
    }) l h

-- ---- the head of a segment

-- the offset has no room for the two lengths and the gate
pub within_short : (x : Option (List ℕ)) (at len : ℕ) → len - at ≤ 16 → IsLengthOf x len → IfSome x (λ image. is_within image at ≡ false)
within_short x at len le l =
    some_weaker x (LengthIs len) (λ image. is_within image at ≡ false)
    (λ image e. false_from_ne_true (is_within image at) (λ there. let ends = and_parts (nat_le (gate_behind image at + 1) (length image)) _ (and_parts (nat_le (at + 16) (length image)) _ there).1 in absurd (omega (arith, e, leb-true (gate_behind image at + 1) (length image) ends.0)))) l

lengths_in : (bytes image : List ℕ) (at : ℕ) (h : Lengths) → length bytes ≡ 16 → h ≡ segment_lengths_at bytes 0 → RangeIs at bytes image → h ≡ segment_lengths_at image at
lengths_in bytes image at h long is r =
    is ∙ lengths_read bytes image at (r ∙ range_is image at (length bytes) ∙ ap (λ n. take n (drop at image)) long)

pub found_lengths : (x : Option (List ℕ)) (bytes : List ℕ) (at : ℕ) (h : Lengths) → length bytes ≡ 16 → h ≡ segment_lengths_at bytes 0 → IsRangeOf x at bytes → IfSome x (λ image. h ≡ segment_lengths_at image at)
found_lengths x bytes at h long is r =
    some_weaker x (RangeIs at bytes) (λ image. h ≡ segment_lengths_at image at) (λ image k. lengths_in bytes image at h long is k) r

pub within_wrong : (x : Option (List ℕ)) (bytes : List ℕ) (at len : ℕ) (h : Lengths) → length bytes ≡ 16 → h ≡ segment_lengths_at bytes 0 → fit_in at len h ≡ false → IsLengthOf x len → IsRangeOf x at bytes → IfSome x (λ image. is_within image at ≡ false)
within_wrong x bytes at len h long is wrong l r =
    some_both x (LengthIs len) (RangeIs at bytes) (λ image. is_within image at ≡ false)
    (λ image e k. within_is image at ∙ (λ i. fit_in at (sym e i) (sym (lengths_in bytes image at h long is k) i)) ∙ wrong) l r

pub found_byte : (x : Option (List ℕ)) (bytes : List ℕ) (offset byte : ℕ) → length bytes ≡ 1 → byte ≡ get_or bytes 0 0 → IsRangeOf x offset bytes → IfSome x (λ image. byte ≡ get_or image offset 0)
found_byte x bytes offset byte long b r =
    some_weaker x (RangeIs offset bytes) (λ image. byte ≡ get_or image offset 0)
    (λ image k. let there : bytes ≡ take 1 (drop offset image) = k ∙ range_is image offset (length bytes) ∙ ap (λ n. take n (drop offset image)) long in
    b ∙ ap (λ (l : List ℕ). get_or l 0 0) there ∙ get_or-take 1 (drop offset image) 0 0 (omega arith) ∙ get_or-drop offset image 0 0 ∙ ap (λ n. get_or image n 0) (add-zero offset)) r

-- what the test of the two lengths says
pub fit_facts : (at len : ℕ) (h : Lengths) → fit_in at len h ≡ true → (at + 17 + h.directory + h.columns ≤ len) × (at + 17 + h.directory + h.columns ≤ FILE_BYTES_MAX)
fit_facts at len h e =
    let a = and_parts (nat_le (at + 16) len) _ e in
    let b = and_parts (nat_le (gate_after at h + 1) len) _ a.1 in
    (omega (arith, leb-true (gate_after at h + 1) len b.0), omega (arith, leb-true (gate_after at h + 1) FILE_BYTES_MAX b.1))

pub range_within : (x : Option (List ℕ)) (at n len : ℕ) → at + n ≤ len → IsLengthOf x len → HasRange x at n
range_within x at n len le l = some_weaker x (LengthIs len) (λ image. at + n ≤ length image) (λ image e. omega (arith, e)) l

pub range_read : (x : Option (List ℕ)) (bytes : List ℕ) (at len : ℕ) → length bytes ≡ len → IsRangeOf x at bytes → IfSome x (λ image. bytes ≡ take len (drop at image))
range_read x bytes at len long r =
    some_weaker x (RangeIs at bytes) (λ image. bytes ≡ take len (drop at image)) (λ image k. k ∙ range_is image at (length bytes) ∙ ap (λ n. take n (drop at image)) long) r

pub some_all : (x : Option (List ℕ)) (H : List ℕ → Type 0) → ((a : List ℕ) → H a) → IfSome x H
some_all None H f = tt
some_all (Some a) H f = f a

-- what a block of memory holds once it is filled
pub filled : (n : ℕ) (bytes old : List ℕ) → length bytes ≡ n → take n (bytes ++ drop (length bytes) old) ≡ bytes
filled n bytes old long = take_at bytes (drop (length bytes) old) n long

pub taken_none : (n count : ℕ) → n ≡ 0 → count ≡ taken_after n count
taken_none n count e = ap (λ b. cond b count (raised_by n count)) (sym (eq-eqb n 0 e))

pub taken_some : (n m count new : ℕ) → (n ≡ 0 → ⊥) → m ≡ n → new ≡ raised_by m count → new ≡ taken_after n count
taken_some n m count new some is e =
    e ∙ ap (λ k. raised_by k count) is ∙ ap (λ b. cond b count (raised_by n count)) (sym (ne_eqb n 0 some))

pub range_filled : (x : Option (List ℕ)) (bytes old : List ℕ) (at len n : ℕ) → length bytes ≡ len → n ≡ len → IsRangeOf x at bytes → IfSome x (λ image. take n (bytes ++ drop (length bytes) old) ≡ take len (drop at image))
range_filled x bytes old at len n long is r =
    some_weaker x (λ image. bytes ≡ take len (drop at image)) (λ image. take n (bytes ++ drop (length bytes) old) ≡ take len (drop at image)) (λ image e. filled n bytes old (long ∙ sym is) ∙ e) (range_read x bytes at len long r)

-- ---- what is read

pub taken_bound : (n count : ℕ) → taken_after n count ≤ count + n
taken_bound n count = cond_both (n == 0) count (raised_by n count) (λ m. m ≤ count + n) (λ _. omega arith) (λ _. omega arith)

-- the length of the image, as it is found
pub found_length : (x : Option (List ℕ)) (found : Found) → IfSome x (λ image. IsFoundIn image found) → IsLengthOf x found.len
found_length x found h = some_weaker x (λ image. IsFoundIn image found) (λ image. found.len ≡ length image) (λ image f. f.len) h
