-- How reading goes on from segment to segment, and what a new segment makes of an image.
use Rattle.std.proofs.Common.{◌≡◌, ℕ, zero, suc, ◌+◌, ◌-◌, ◌<◌, ◌≤◌, Bool, true, false, cond, List, [], ◌∷◌, ◌++◌, length, get_or, take, drop, Some, None, Option, Result, Ok, Err, refl, ap, subst, ◌∙◌, arith, length-take}
use Rattle.std.specs.Prelude.{◌==◌, ◌&&◌, ◌||◌, not, nat_le, nat_lt, option_and_then, codes}
use Rattle.std.specs.Str.{bytes_eq}
use Rattle.std.proofs.lemmas.Bool.{eq-eqb, ne_eqb, le-ltb, eqb-true, and_from, le-leb, leb-true, and_parts, ltb-false}
use Rattle.dg_history.specs.declared.limits.TheConstants.{FILE_BYTES_MAX}
use Rattle.dg_history.specs.History.{is_wide}
use Rattle.dg_history.specs.declared.form.Form.TheVariants as form
use Rattle.dg_index.specs.ImageOfHistory.{is_blank}
use Rattle.dg_index.specs.OpenedIndex.{Unopened, No_index, Damaged_at, Directory, Opened, bare, opening, opened_or, opened_by, read_on, go_on_with, directory_next, directory_in, is_marked, may_stand, if_it_may, with_directory, with_marker, with_segment, MayStand}
use Rattle.dg_index.specs.ImageText.{Header, header_in, header_with, params_with, function_in, shared_function_in, eight_at, gate_behind, is_within}
use Rattle.dg_index.specs.FileOfHistory.{Segment, marker, segment_bytes}
use Rattle.dg_index.specs.OpenedSoFar.{OpensOn}
use Rattle.dg_index.proofs.OpenedIndexDirectories.{stands_next, read_next, read_end, marker_next, no_marker, read_marked}
use Rattle.dg_index.proofs.ImageTextRanges.{Same, same_fewer, four_same, eight_same, byte_same, range_same, behind, byte_read, two_same}

-- a turn behind an open gate
turn : (k : ℕ) (image : List ℕ) (x : Opened) (d : Option Directory) → get_or image (x.index.used - 1) 0 ≡ 1 → is_marked x image ≡ false → directory_next x image ≡ d → read_on (suc k) image x ≡ go_on_with image x (read_on k image) d
turn k image x d opens plain is =
    ap (λ b. cond (not b) (Ok x) (cond (is_marked x image) (read_on k image (with_marker x)) (go_on_with image x (read_on k image) (directory_next x image)))) (eq-eqb (get_or image (x.index.used - 1) 0) 1 opens)
    ∙ ap (λ b. cond b (read_on k image (with_marker x)) (go_on_with image x (read_on k image) (directory_next x image))) plain
    ∙ ap (go_on_with image x (read_on k image)) is

-- with one segment more
abbrev pub one_more : List ℕ → Opened → Directory → Opened
one_more image x d = with_directory x d (x.index.used + 16 + eight_at image x.index.used) (gate_behind image x.index.used + 1)

pub opens_first : (image : List ℕ) (h : Header) → is_blank image ≡ false → header_in image ≡ Some h → OpensOn image (bare h.form h.params)
opens_first image h there params = record {
  turns = length image;
  enough = omega arith;
  begun = omega arith;
  is = ap (λ b. cond b (Err No_index) (opened_by image (header_in image))) there ∙ ap (opened_by image) params;
}

pub opens_closed : (image : List ℕ) (x : Opened) → OpensOn image x → (get_or image (x.index.used - 1) 0 == 1) ≡ false → opening image ≡ Ok x
opens_closed image x o closed = o.is ∙ ap opened_or (read_end o.turns x image closed)

pub some_turn : (n : ℕ) → 1 ≤ n → (k : ℕ) × (n ≡ suc k)
some_turn zero le = absurd (omega (arith, le))
some_turn (suc k) le = (k, refl)

pub opens_damaged : (image : List ℕ) (x : Opened) → OpensOn image x → x.index.used ≤ length image → get_or image (x.index.used - 1) 0 ≡ 1 → is_marked x image ≡ false → directory_next x image ≡ None → opening image ≡ Err (Damaged_at x.index.used)
opens_damaged image x o within opens plain wrong =
    let k = some_turn o.turns (omega (arith, o.enough, within)) in
    o.is ∙ ap (λ n. opened_or (read_on n image x)) k.1 ∙ ap opened_or (turn k.0 image x None opens plain wrong)

pub opens_next : (image : List ℕ) (x : Opened) (d : Directory) → OpensOn image x → x.index.used ≤ length image → get_or image (x.index.used - 1) 0 ≡ 1 → is_marked x image ≡ false → directory_next x image ≡ Some d → OpensOn image (one_more image x d)
opens_next image x d o within opens plain right =
    let k = some_turn o.turns (omega (arith, o.enough, within)) in
    record {
      turns = k.0;
      enough = omega (arith, o.enough, k.1);
      begun = omega (arith, o.begun);
      is = o.is ∙ ap (λ n. opened_or (read_on n image x)) k.1 ∙ ap opened_or (turn k.0 image x (Some d) opens plain right);
    }

pub opens_marked : (image : List ℕ) (x : Opened) → OpensOn image x → x.index.used ≤ length image → get_or image (x.index.used - 1) 0 ≡ 1 → is_marked x image ≡ true → OpensOn image (with_marker x)
opens_marked image x o within opens marked =
    let k = some_turn o.turns (omega (arith, o.enough, within)) in
    record {
      turns = k.0;
      enough = omega (arith, o.enough, k.1);
      begun = omega (arith, o.begun);
      is = o.is ∙ ap (λ n. opened_or (read_on n image x)) k.1 ∙ ap opened_or (read_marked k.0 x image marked opens);
    }

-- ---- another image with the same bytes up to the gate

then_some : {A B : Type 0} (b : Bool) (o : Option A) (f : A → Option B) (y : B) → cond (not b) None (option_and_then f o) ≡ Some y → (b ≡ true) × (option_and_then f o ≡ Some y)
then_some true o f y e = (refl, e)
then_some false o f y e = absurd cc

next_same : (n : ℕ) (x : Opened) (before after : List ℕ) (d : Directory) → Same n after before → n < length after → gate_behind before x.index.used ≤ n → directory_next x before ≡ Some d
    → (gate_behind after x.index.used ≡ gate_behind before x.index.used) × (eight_at after x.index.used ≡ eight_at before x.index.used) × (directory_next x after ≡ Some d)
next_same n x before after d same lt le is =
    let at : ℕ = x.index.used in
    let judge : List ℕ → Directory → Option Directory = λ image d. if_it_may (may_stand x (eight_at image (at + 8)) d) d in
    let w = then_some (is_within before at) (directory_in x.index (take (eight_at before at) (drop (at + 16) before))) (judge before) d is in
    let w2 = and_parts (nat_le (at + 16) (length before)) _ w.0 in
    let w3 = and_parts (nat_le (gate_behind before at + 1) (length before)) _ w2.1 in
    let fits : gate_behind before at + 1 ≤ FILE_BYTES_MAX = leb-true _ _ w3.1 in
    let e0 = eight_same n at after before (omega (arith, le)) same in
    let e8 = eight_same n (at + 8) after before (omega (arith, le)) same in
    let gate : gate_behind after at ≡ gate_behind before at = λ i. at + 16 + e0 i + e8 i in
    let text : take (eight_at after at) (drop (at + 16) after) ≡ take (eight_at before at) (drop (at + 16) before) = ap (λ m. take m (drop (at + 16) after)) e0 ∙ range_same n (at + 16) (eight_at before at) after before (omega (arith, le)) same in
    let in_it : is_within after at ≡ true = and_from (nat_le (at + 16) (length after)) _ (le-leb _ _ (omega (arith, lt, le))) (and_from (nat_le (gate_behind after at + 1) (length after)) _ (le-leb _ _ (omega (arith, gate, lt, le))) (le-leb _ _ (omega (arith, gate, fits)))) in
    (gate, e0, (λ i. cond (not (in_it i)) None (option_and_then (λ d. if_it_may (may_stand x (e8 i) d) d) (directory_in x.index (text i)))) ∙ w.1)

-- where a directory stands no marker does
some_read : {A B : Type 0} (o : Option A) (f : A → Option B) (y : B) → option_and_then f o ≡ Some y → (x : A) × (o ≡ Some x)
some_read None f y e = absurd cc
some_read (Some x) f y e = (x, refl)

long_directory : (x : Opened) (bytes : List ℕ) (d : Directory) → directory_in x.index bytes ≡ Some d → 28 ≤ length bytes
long_directory x bytes d e = by (nat_lt (length bytes) 28) refl _ e
  where
    by : (b : Bool) → nat_lt (length bytes) 28 ≡ b → (o : Option Directory) → cond b None o ≡ Some d → 28 ≤ length bytes
    by true lt o e = absurd cc
    by false lt o e = ltb-false (length bytes) 28 lt

unmarked_same : (n : ℕ) (x : Opened) (before after : List ℕ) (d : Directory) → Same n after before → gate_behind before x.index.used ≤ n → directory_next x before ≡ Some d → is_marked x after ≡ false
unmarked_same n x before after d same le is =
    let at : ℕ = x.index.used in
    let bytes : List ℕ = take (eight_at before at) (drop (at + 16) before) in
    let judge : Directory → Option Directory = λ d. if_it_may (may_stand x (eight_at before (at + 8)) d) d in
    let w = then_some (is_within before at) (directory_in x.index bytes) judge d is in
    let o = some_read (directory_in x.index bytes) judge d w.1 in
    let long : 28 ≤ eight_at before at = omega (arith, long_directory x bytes o.0 o.1, length-take (eight_at before at) (drop (at + 16) before)) in
    let e0 = eight_same n at after before (omega (arith, le)) same in
    no_marker (not (is_wide x.index.form)) (is_within after at) (eight_at after at == 8) _ (ne_eqb (eight_at after at) 8 (λ e. absurd (omega (arith, e, e0, long))))

-- a marker in one is a marker in the other, with the same bytes up to the gate behind it
pub marked_parts : (x : Opened) (image : List ℕ) → is_marked x image ≡ true → (is_wide x.index.form ≡ false) × (is_within image x.index.used ≡ true) × (eight_at image x.index.used ≡ 8) × (eight_at image (x.index.used + 8) ≡ 0) × (eight_at image (x.index.used + 16) ≡ 0)
marked_parts x image e =
    let at : ℕ = x.index.used in
    let a = and_parts (not (is_wide x.index.form)) _ e in
    let b = and_parts (is_within image at) _ a.1 in
    let c = and_parts (eight_at image at == 8) _ b.1 in
    let d = and_parts (eight_at image (at + 8) == 0) _ c.1 in
    (narrow (is_wide x.index.form) a.0, b.0, eqb-true _ _ c.0, eqb-true _ _ d.0, eqb-true _ _ d.1)
  where
    narrow : (b : Bool) → not b ≡ true → b ≡ false
    narrow true e = cc
    narrow false e = refl

within_same : (n : ℕ) (x : Opened) (before after : List ℕ) → Same n after before → n < length after → gate_behind before x.index.used ≤ n → is_within before x.index.used ≡ true → is_within after x.index.used ≡ true
within_same n x before after same lt le e =
    let at : ℕ = x.index.used in
    let w2 = and_parts (nat_le (at + 16) (length before)) _ e in
    let w3 = and_parts (nat_le (gate_behind before at + 1) (length before)) _ w2.1 in
    let fits : gate_behind before at + 1 ≤ FILE_BYTES_MAX = leb-true _ _ w3.1 in
    let e0 = eight_same n at after before (omega (arith, le)) same in
    let e8 = eight_same n (at + 8) after before (omega (arith, le)) same in
    let gate : gate_behind after at ≡ gate_behind before at = λ i. at + 16 + e0 i + e8 i in
    and_from (nat_le (at + 16) (length after)) _ (le-leb _ _ (omega (arith, lt, le))) (and_from (nat_le (gate_behind after at + 1) (length after)) _ (le-leb _ _ (omega (arith, gate, lt, le))) (le-leb _ _ (omega (arith, gate, fits))))

marked_same : (n : ℕ) (x : Opened) (before after : List ℕ) → Same n after before → n < length after → x.index.used + 24 ≤ n → is_marked x before ≡ true → is_marked x after ≡ true
marked_same n x before after same lt le e =
    let at : ℕ = x.index.used in
    let m = marked_parts x before e in
    let e0 = eight_same n at after before (omega (arith, le)) same in
    let e8 = eight_same n (at + 8) after before (omega (arith, le)) same in
    let e16 = eight_same n (at + 16) after before (omega (arith, le)) same in
    let in_it = within_same n x before after same lt (omega (arith, le, m.2, m.3)) m.1 in
    (λ i. not (m.0 i) && (in_it i && (eight_at after at == 8 && (eight_at after (at + 8) == 0 && eight_at after (at + 16) == 0))))
    ∙ and_from (eight_at after at == 8) _ (eq-eqb _ _ (e0 ∙ m.2)) (and_from (eight_at after (at + 8) == 0) _ (eq-eqb _ _ (e8 ∙ m.3)) (eq-eqb _ _ (e16 ∙ m.4)))

-- what is read on in one image is read on in the other
record ReadsOn (after : List ℕ) (turns : ℕ) (y x : Opened) : Type 0 where
  left : ℕ
  enough : length after < left + x.index.used
  far : y.index.used ≤ x.index.used
  is : read_on turns after y ≡ read_on left after x

abbrev pub opened_in : Opened → Result Opened ℕ → Opened
opened_in x (Ok y) = y
opened_in x (Err offset) = x

reads_here : (after : List ℕ) (turns : ℕ) (y x : Opened) → length after < turns + y.index.used → y ≡ x → ReadsOn after turns y x
reads_here after turns y x enough e = subst (ReadsOn after turns y) e (record { left = turns; enough = enough; far = omega arith; is = refl })

read_same : (before after : List ℕ) (x : Opened) → Same (x.index.used - 1) after before → x.index.used ≤ length after → (k : ℕ) (y : Opened) (turns : ℕ) → 1 ≤ y.index.used → length after < turns + y.index.used
    → read_on k before y ≡ Ok x → ReadsOn after turns y x
read_same before after x same within zero y turns some enough is = reads_here after turns y x enough (ap (opened_in x) is)
read_same before after x same within (suc k) y turns some enough is =
    by (λ y1 t le lt e. read_same before after x same within k y1 t le lt e) (get_or before (y.index.used - 1) 0 == 1) refl (is_marked y before) refl (directory_next y before) refl is
  where
    by : ((y1 : Opened) (t : ℕ) → 1 ≤ y1.index.used → length after < t + y1.index.used → read_on k before y1 ≡ Ok x → ReadsOn after t y1 x)
        → (b : Bool) → (get_or before (y.index.used - 1) 0 == 1) ≡ b → (m : Bool) → is_marked y before ≡ m → (o : Option Directory) → directory_next y before ≡ o
        → cond (not b) (Ok y) (cond m (read_on k before (with_marker y)) (go_on_with before y (read_on k before) o)) ≡ Ok x → ReadsOn after turns y x
    by more false e m em o n is = reads_here after turns y x enough (ap (opened_in x) is)
    by more true e true em o n is =
        let y1 : Opened = with_marker y in
        let far : y1.index.used ≤ x.index.used = (more y1 (length after + 1) (omega arith) (omega arith) is).far in
        let t = some_turn turns (omega (arith, enough, far, within)) in
        let marked = marked_same (x.index.used - 1) y before after same (omega (arith, within, far)) (omega (arith, far)) em in
        let opens : get_or after (y.index.used - 1) 0 ≡ 1 = byte_same (x.index.used - 1) (y.index.used - 1) after before (omega (arith, far, some)) same ∙ eqb-true (get_or before (y.index.used - 1) 0) 1 e in
        let rest = more y1 t.0 (omega arith) (omega (arith, enough, t.1)) is in
        record {
          left = rest.left;
          enough = rest.enough;
          far = omega (arith, far);
          is = ap (λ n. read_on n after y) t.1 ∙ read_marked t.0 y after marked opens ∙ rest.is;
        }
    by more true e false em None n is = absurd cc
    by more true e false em (Some d) n is =
        let y1 : Opened = one_more before y d in
        let far : y1.index.used ≤ x.index.used = (more y1 (length after + 1) (omega arith) (omega arith) is).far in
        let t = some_turn turns (omega (arith, enough, far, within)) in
        let s = next_same (x.index.used - 1) y before after d same (omega (arith, within, far)) (omega (arith, far)) n in
        let plain = unmarked_same (x.index.used - 1) y before after d same (omega (arith, far)) n in
        let opens : get_or after (y.index.used - 1) 0 ≡ 1 = byte_same (x.index.used - 1) (y.index.used - 1) after before (omega (arith, far, some)) same ∙ eqb-true (get_or before (y.index.used - 1) 0) 1 e in
        let one : one_more after y d ≡ y1 = λ i. with_directory y d (y.index.used + 16 + s.1 i) (s.0 i + 1) in
        let rest = more y1 t.0 (omega arith) (omega (arith, enough, t.1)) is in
        record {
          left = rest.left;
          enough = rest.enough;
          far = omega (arith, far);
          is = ap (λ n. read_on n after y) t.1 ∙ turn t.0 after y (Some d) opens plain s.2 ∙ ap (read_on t.0 after) one ∙ rest.is;
        }

-- ---- an image that gains a segment

abbrev opened_value : Opened → Result Opened Unopened → Opened
opened_value x (Ok y) = y
opened_value x (Err e) = x

or_ok : (r : Result Opened ℕ) (x : Opened) → opened_or r ≡ Ok x → r ≡ Ok x
or_ok (Ok y) x e = ap (λ z. Ok z) (ap (opened_value x) e)
or_ok (Err offset) x e = absurd cc

-- what an image that is opened was read as
pub record Was (image : List ℕ) (x : Opened) : Type 0 where
  pub header : Header
  pub there : is_blank image ≡ false
  pub are : header_in image ≡ Some header
  pub read : read_on (length image) image (bare header.form header.params) ≡ Ok x

pub was : (image : List ℕ) (x : Opened) → opening image ≡ Ok x → Was image x
was image x e = by (is_blank image) refl (header_in image) refl e
  where
    by : (b : Bool) → is_blank image ≡ b → (h : Option Header) → header_in image ≡ h → cond b (Err No_index) (opened_by image h) ≡ Ok x → Was image x
    by true there h are e = absurd cc
    by false there None are e = absurd cc
    by false there (Some h) are e = record { header = h; there = there; are = are; read = or_ok (read_on (length image) image (bare h.form h.params)) x e }

pub header_same : (n : ℕ) (image other : List ℕ) → 17 ≤ n → Same n image other → header_in image ≡ header_in other
header_same n image other le same =
    let front : take 8 image ≡ take 8 other = same_fewer 8 n image other (omega arith) same in
    let l = four_same n 8 image other (omega arith) same in
    let k = four_same n 12 image other (omega arith) same in
    let share = two_same n 12 image other (omega arith) same in
    let arity = two_same n 14 image other (omega arith) same in
    let f = byte_same n 16 image other (omega arith) same in
    λ i. cond (bytes_eq (front i) (1 ∷ codes "DGRAPH1")) (header_with form.One (params_with (l i) (k i) (function_in (f i))))
    (cond (bytes_eq (front i) (1 ∷ codes "DGRAPH2")) (header_with form.Two (params_with (l i) (arity i) (shared_function_in (f i) (share i)))) None)

not_blank : (image : List ℕ) → 18 < length image → is_blank image ≡ false
not_blank image lt =
    (λ i. le-ltb (length image) 18 (omega arith) i || (ne_eqb (length image) 18 (λ e. absurd (omega (arith, e))) i && not (get_or image 0 0 == 1)))

-- an image that was opened, with the segment behind it: it is opened with that segment
pub gains : (before after rest : List ℕ) (x : Opened) (s : Segment) → opening before ≡ Ok x → MayStand x s → x.index.used + length (segment_bytes (is_wide x.index.form) s) + 1 ≤ FILE_BYTES_MAX
    → Same (x.index.used - 1) after before → drop (x.index.used - 1) after ≡ 1 ∷ (segment_bytes (is_wide x.index.form) s ++ 0 ∷ rest) → opening after ≡ Ok (with_segment x s)
gains before after rest x s e may fits same text =
    let w = was before x e in
    let bytes_of : List ℕ = segment_bytes (is_wide x.index.form) s in
    let gate = byte_read after (x.index.used - 1) 1 (bytes_of ++ 0 ∷ rest) text in
    let r = read_same before after x same (omega (arith, gate.1)) (length before) (bare w.header.form w.header.params) (length after) (omega arith) (omega arith) w.read in
    let bytes : drop x.index.used after ≡ bytes_of ++ 0 ∷ rest = behind after (1 ∷ []) (bytes_of ++ 0 ∷ rest) (x.index.used - 1) x.index.used (omega (arith, r.far)) text in
    let n = stands_next x s after (0 ∷ rest) may bytes (omega arith) fits in
    let last = byte_read after (x.index.used + length bytes_of) 0 rest n.behind in
    let t = some_turn r.left (omega (arith, r.enough, gate.1)) in
    let there = not_blank after (omega (arith, last.1, r.far)) in
    ap (λ b. cond b (Err No_index) (opened_by after (header_in after))) there
    ∙ ap (opened_by after) (header_same (x.index.used - 1) after before (omega (arith, r.far)) same ∙ w.are)
    ∙ ap opened_or (r.is ∙ ap (λ n. read_on n after x) t.1 ∙ read_next t.0 x s after (0 ∷ rest) n gate.0
    ∙ read_end t.0 (with_segment x s) after (ap (λ m. get_or after m 0 == 1) (let e : x.index.used + length bytes_of + 1 - 1 ≡ x.index.used + length bytes_of = omega arith in e) ∙ ap (λ b. b == 1) last.0))

-- an image of the first form that was opened, with the marker behind it: it is opened as upgraded
pub gains_marker : (before after rest : List ℕ) (x : Opened) → opening before ≡ Ok x → is_wide x.index.form ≡ false → x.index.used + 25 ≤ FILE_BYTES_MAX
    → Same (x.index.used - 1) after before → drop (x.index.used - 1) after ≡ 1 ∷ (marker ++ 0 ∷ rest) → opening after ≡ Ok (with_marker x)
gains_marker before after rest x e narrow fits same text =
    let w = was before x e in
    let gate = byte_read after (x.index.used - 1) 1 (marker ++ 0 ∷ rest) text in
    let r = read_same before after x same (omega (arith, gate.1)) (length before) (bare w.header.form w.header.params) (length after) (omega arith) (omega arith) w.read in
    let bytes : drop x.index.used after ≡ marker ++ 0 ∷ rest = behind after (1 ∷ []) (marker ++ 0 ∷ rest) (x.index.used - 1) x.index.used (omega (arith, r.far)) text in
    let n = marker_next x after (0 ∷ rest) narrow bytes (omega arith) fits in
    let last = byte_read after (x.index.used + 24) 0 rest n.1 in
    let t = some_turn r.left (omega (arith, r.enough, gate.1)) in
    let there = not_blank after (omega (arith, last.1, r.far)) in
    ap (λ b. cond b (Err No_index) (opened_by after (header_in after))) there
    ∙ ap (opened_by after) (header_same (x.index.used - 1) after before (omega (arith, r.far)) same ∙ w.are)
    ∙ ap opened_or (r.is ∙ ap (λ n. read_on n after x) t.1 ∙ read_marked t.0 x after n.0 gate.0
    ∙ read_end t.0 (with_marker x) after (ap (λ m. get_or after m 0 == 1) (let e : x.index.used + 24 + 1 - 1 ≡ x.index.used + 24 = omega arith in e) ∙ ap (λ b. b == 1) last.0))
