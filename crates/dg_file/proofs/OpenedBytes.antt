-- Opening all of an index reads no less than opening its first segments.
use Rattle.std.proofs.Common.{◌≡◌, ℕ, zero, suc, ◌+◌, ◌-◌, ◌≤◌, Bool, true, false, cond, List, [], ◌∷◌, ◌++◌, length, Some, None, Option, Result, Ok, Err, refl, sym, ap, subst, ◌∙◌, arith}
use Rattle.std.specs.Prelude.{◌==◌, if◌then◌else◌, not, option_and_then, slice_index, IfSome, IsErr, IsErrAnd, IsErrOf}
use Rattle.std.proofs.lemmas.Bool.{eq-eqb, eqb-true, and_parts}
use Rattle.std.proofs.lemmas.List.Sums.{sum_by-cons, sum_by-append}
use Rattle.dg_disk.specs.Counts.{raised_by}
use Rattle.dg_history.specs.declared.node.Key.{Key}
use Rattle.dg_index.specs.declared.entry.Entry.{Entry}
use Rattle.dg_index.specs.declared.entry.Row.{Row}
use Rattle.dg_index.specs.ImageOfHistory.{is_blank}
use Rattle.dg_index.specs.ImageText.{Header, eight_at, header_in, is_within}
use Rattle.dg_index.specs.IndexGrowth.{columns_in}
use Rattle.dg_index.specs.OpenedIndex.{No_index, Not_ours, Directory, Opened, Opening, directory_next, bare, go_on_with, if_it_may, keys_next, laid, may_stand, opened_by, opened_or, opening, read_on, rows_in, total, is_marked, with_marker}
use Rattle.dg_index.proofs.OpenedSoFar.{one_more, some_turn, marked_parts}
use Rattle.dg_catalogue.specs.Additions.{bytes_of_rows}
use Rattle.dg_segment.specs.declared.lengths.Lengths.{Lengths}
use Rattle.dg_segment.specs.Directories.{segment_lengths_at}
use Rattle.dg_file.specs.declared.fault.ReopenFault.{ReopenFault}
use Rattle.dg_file.specs.declared.fault.ReopenFault.TheVariants as fault
use Rattle.dg_file.specs.declared.reads.Found.{Found}
use Rattle.dg_file.specs.Headers.{IsFoundIn, IsOpenedSoFar}
use Rattle.dg_file.specs.Images.{RefusesOpening}
use Rattle.dg_file.specs.Index.{opening_bytes}
use Rattle.dg_file.specs.OpeningBytes.{StaysWithinOpening, TakesUpTo, TakesUpToOpening}
use Rattle.dg_file.proofs.ImageParts.{opened_blank}

-- ---- one segment

-- the records that are laid have no more bytes than the rows tell
laid_most : (offset : ℕ) (keys : List Key) (rows : List Row) → columns_in (laid offset keys rows) ≤ bytes_of_rows rows
laid_most offset [] rows = (let none : columns_in [] ≡ 0 = refl in omega (arith, none))
laid_most offset (k ∷ keys) [] = (let none : columns_in [] ≡ 0 = refl in omega (arith, none))
laid_most offset (k ∷ keys) (r ∷ rows) =
    let one : Key × Entry = (k, record { lengths = r.lengths; offset = offset; ends = r.ends }) in
    let rest : List (Key × Entry) = laid (offset + total r.lengths) keys rows in
    omega (arith, sum_by-cons (λ (e : Key × Entry). total e.1.lengths) one rest, sum_by-cons (λ (r : Row). total r.lengths) r rows, laid_most (offset + total r.lengths) keys rows)

-- an index has room for its columns behind the header
abbrev HasColumns : Opened → Type 0
HasColumns x = columns_in x.index.records + 18 ≤ x.index.used

-- what is read of a segment but its columns
abbrev pub segment_reads : List ℕ → Opened → ℕ
segment_reads image x = 17 + eight_at image x.index.used

-- the next index has room for its columns too, and more bytes beside them
record GoesOn (image : List ℕ) (x next : Opened) : Type 0 where
  sound : HasColumns next
  more : opening_bytes x.index + segment_reads image x ≤ opening_bytes next.index

measured : (x : Opened) (columns : ℕ) (d : Directory) → may_stand x columns d ≡ true → bytes_of_rows (rows_in d) ≡ columns
measured x columns d may = eqb-true (bytes_of_rows (rows_in d)) columns (and_parts (bytes_of_rows (rows_in d) == columns) _ may).0

goes_on : (image : List ℕ) (x : Opened) (d : Directory) → HasColumns x → may_stand x (eight_at image (x.index.used + 8)) d ≡ true → GoesOn image x (one_more image x d)
goes_on image x d sound may =
    let offset : ℕ = x.index.used + 16 + eight_at image x.index.used in
    let new : List (Key × Entry) = laid offset (keys_next x.index d.batch.events) (rows_in d) in
    let all : columns_in (x.index.records ++ new) ≡ columns_in x.index.records + columns_in new = sum_by-append (λ (e : Key × Entry). total e.1.lengths) x.index.records new in
    let most : columns_in new ≤ bytes_of_rows (rows_in d) = laid_most offset (keys_next x.index d.batch.events) (rows_in d) in
    let are : bytes_of_rows (rows_in d) ≡ eight_at image (x.index.used + 8) = measured x (eight_at image (x.index.used + 8)) d may in
    record { sound = omega (arith, sound, all, most, are); more = omega (arith, sound, all, most, are) }

stands : (b : Bool) (o : Option Directory) (x : Opened) (columns : ℕ) (d : Directory) → cond (not b) None (option_and_then (λ d. if_it_may (may_stand x columns d) d) o) ≡ Some d → may_stand x columns d ≡ true
stands false o x columns d e = absurd cc
stands true None x columns d e = absurd cc
stands true (Some f) x columns d e = by (may_stand x columns f) refl e
  where
    by : (m : Bool) → may_stand x columns f ≡ m → if_it_may m f ≡ Some d → may_stand x columns d ≡ true
    by true is h = let same : f ≡ d = cc in subst (λ (g : Directory). may_stand x columns g ≡ true) same is
    by false is h = absurd cc

next_on : (image : List ℕ) (x : Opened) (d : Directory) → HasColumns x → directory_next x image ≡ Some d → GoesOn image x (one_more image x d)
next_on image x d sound next =
    goes_on image x d sound (stands (is_within image x.index.used) _ x (eight_at image (x.index.used + 8)) d next)

marked_on : (image : List ℕ) (x : Opened) → HasColumns x → is_marked x image ≡ true → GoesOn image x (with_marker x)
marked_on image x sound marked =
    let m = marked_parts x image marked in
    record { sound = omega (arith, sound); more = omega (arith, sound, m.2) }

-- ---- all segments from here on

abbrev ReadsMore : ℕ → List ℕ → Opened → Type 0
ReadsMore k image y = (x : Opened) → HasColumns x → read_on k image x ≡ Ok y → opening_bytes x.index ≤ opening_bytes y.index

-- behind an open gate
one_segment : (k : ℕ) (image : List ℕ) (x y : Opened) → HasColumns x → ReadsMore k image y → (m : Bool) → is_marked x image ≡ m → (o : Option Directory) → directory_next x image ≡ o
    → cond m (read_on k image (with_marker x)) (go_on_with image x (read_on k image) o) ≡ Ok y → opening_bytes x.index + segment_reads image x ≤ opening_bytes y.index
one_segment k image x y sound more true marked o is e =
    let on : GoesOn image x (with_marker x) = marked_on image x sound marked in
    omega (arith, on.more, more (with_marker x) on.sound e)
one_segment k image x y sound more false marked None is e = absurd cc
one_segment k image x y sound more false marked (Some d) is e =
    let on : GoesOn image x (one_more image x d) = next_on image x d sound is in
    omega (arith, on.more, more (one_more image x d) on.sound e)

reads_more : (k : ℕ) (image : List ℕ) (y : Opened) → ReadsMore k image y
reads_more zero image y x sound e = (let same : x ≡ y = cc in omega (arith, ap (λ (z : Opened). opening_bytes z.index) same))
reads_more (suc k) image y x sound e = by (slice_index image (x.index.used - 1) == 1) (reads_more k image y) e
  where
    by : (b : Bool) → ReadsMore k image y → cond (not b) (Ok x) (cond (is_marked x image) (read_on k image (with_marker x)) (go_on_with image x (read_on k image) (directory_next x image))) ≡ Ok y → opening_bytes x.index ≤ opening_bytes y.index
    by false more h = (let same : x ≡ y = cc in omega (arith, ap (λ (z : Opened). opening_bytes z.index) same))
    by true more h = omega (arith, one_segment k image x y sound more (is_marked x image) refl (directory_next x image) refl h)

was_ok : (r : Result Opened ℕ) (y : Opened) → opened_or r ≡ Ok y → r ≡ Ok y
was_ok (Ok x) y e = cc
was_ok (Err offset) y e = absurd cc

-- an image that is opened on behind an open gate
opened_more : (image : List ℕ) (o : Opening) (names : List (List ℕ)) (y : Opened) → columns_in o.records + 18 ≤ o.used → IsOpenedSoFar image o names 1 → opening image ≡ Ok y
    → opening_bytes o + (17 + eight_at image o.used) ≤ opening_bytes y.index
opened_more image o names y sound far e =
    let x : Opened = record { index = o; names = names } in
    let k = some_turn far.opens.turns (omega (arith, far.opens.enough, far.within)) in
    let read : read_on (suc k.0) image x ≡ Ok y = ap (λ n. read_on n image x) (sym k.1) ∙ was_ok (read_on far.opens.turns image x) y (sym far.opens.is ∙ e) in
    one_segment k.0 image x y sound (reads_more k.0 image y) (is_marked x image) refl (directory_next x image) refl
    (sym (ap (λ b. cond (not b) (Ok x) (cond (is_marked x image) (read_on k.0 image (with_marker x)) (go_on_with image x (read_on k.0 image) (directory_next x image)))) (eq-eqb (slice_index image (o.used - 1)) 1 far.byte)) ∙ read)

-- ---- what a failure has read

within_all : (part whole most before now after : ℕ) → part + most ≤ whole → now ≡ raised_by part before → after ≤ now + most → TakesUpTo whole before after
within_all part whole most before now after le is some = omega (arith, le, is, some)

stays : (image : List ℕ) (o : Opening) (names : List (List ℕ)) (now after most : ℕ) → columns_in o.records + 18 ≤ o.used → IsOpenedSoFar image o names 1 → after ≤ now + most → most ≤ 17 + eight_at image o.used
    → StaysWithinOpening image o now after
stays image o names now after most sound far some le y before e is =
    let all : opening_bytes o + (17 + eight_at image o.used) ≤ opening_bytes y.index = opened_more image o names y sound far e in
    within_all (opening_bytes o) (opening_bytes y.index) most before now after (omega (arith, all, le)) is some

-- at the lengths of a segment
pub stays_at_lengths : (told : Option (List ℕ)) (o : Opening) (names : List (List ℕ)) (now after : ℕ) → columns_in o.records + 18 ≤ o.used → IfSome told (λ image. IsOpenedSoFar image o names 1) → after ≤ now + 16
    → IfSome told (λ image. StaysWithinOpening image o now after)
stays_at_lengths None o names now after sound far some = tt
stays_at_lengths (Some image) o names now after sound far some = stays image o names now after 16 sound far some (omega arith)

-- behind them, within its directory and the gate behind it
pub stays_in_segment : (told : Option (List ℕ)) (o : Opening) (names : List (List ℕ)) (offset : ℕ) (h : Lengths) (now after : ℕ) → columns_in o.records + 18 ≤ o.used → offset ≡ o.used
    → IfSome told (λ image. IsOpenedSoFar image o names 1) → IfSome told (λ image. h ≡ segment_lengths_at image offset) → after ≤ now + (17 + h.directory)
    → IfSome told (λ image. StaysWithinOpening image o now after)
stays_in_segment None o names offset h now after sound at far lengths some = tt
stays_in_segment (Some image) o names offset h now after sound at far lengths some =
    let is : h.directory ≡ eight_at image o.used = ap (λ (l : Lengths). l.directory) lengths ∙ ap (eight_at image) at in
    stays image o names now after (17 + h.directory) sound far some (omega (arith, is))

-- ---- a blank image, and one that is not of an index

no_index_with : (r : Result Opened ℕ) → opened_or r ≡ Err No_index → ⊥
no_index_with (Ok x) h = cc
no_index_with (Err offset) h = cc

no_index : (image : List ℕ) (header : Option Header) → opened_by image header ≡ Err No_index → ⊥
no_index image None h = cc
no_index image (Some header) h = no_index_with (read_on (length image) image (bare header.form header.params)) h

-- only a blank image has no index
pub blank_is : (image : List ℕ) → opening image ≡ Err No_index → is_blank image ≡ true
blank_is image h = by_test (is_blank image) refl h
  where
    by_test : (b : Bool) → is_blank image ≡ b → (if b then Err No_index else opened_by image (header_in image)) ≡ Err No_index → is_blank image ≡ true
    by_test true is h = is
    by_test false is h = absurd (no_index image (header_in image) h)

pub foreign_reads : (told : Option (List ℕ)) (before after : ℕ) → IfSome told (λ image. opening image ≡ Err Not_ours) → IfSome told (λ image. TakesUpToOpening image before after)
foreign_reads None before after foreign = tt
foreign_reads (Some image) before after foreign = record {
  index = λ x e. absurd cc;
  blank = λ b. absurd (let e = opened_blank image b in cc);
}

-- behind a header that was found the image is not blank
pub never_blank : {A : Type 0} (told : Option (List ℕ)) (r : Result A ReopenFault) (f : ReopenFault) (found : Found) (P : List ℕ → Type 0) → IsErr r × IsErrAnd r (λ y. y ≡ f)
    → IfSome told (λ image. IsFoundIn image found) → IfSome told (λ image. RefusesOpening f (opening image)) → IsErrOf r fault.Blank → IfSome told P
never_blank None r f found P given there refused is = tt
never_blank (Some image) r f found P given there refused is =
    let same : fault.Blank ≡ f = of_err r given.1 is in
    let none : opening image ≡ Err No_index = subst (λ (g : ReopenFault). RefusesOpening g (opening image)) (sym same) refused in
    absurd (let here = blank_is image none in let not_here = there.there in cc)
  where
    of_err : {B : Type 0} (r : Result B ReopenFault) → IsErrAnd r (λ y. y ≡ f) → IsErrOf r fault.Blank → fault.Blank ≡ f
    of_err (Ok a) given is = absurd cc
    of_err (Err e) given is = (let same : e ≡ fault.Blank = cc in sym same ∙ given)
