-- An image that is opened begins with a header of either form, and where the history's file stands in it up to the closed gate it
-- is an image of the history.
use Rattle.std.proofs.Common.{◌≡◌, ℕ, ◌+◌, ◌-◌, ◌≤◌, Bool, true, false, cond, List, [], ◌∷◌, ◌++◌, length, get_or, take, drop, Option, Some, None, Ok, refl, sym, ap, subst, ◌∙◌, arith}
use Rattle.std.specs.Prelude.{◌==◌, ◌||◌, ◌&&◌, not, nat_le, nat_lt, codes, slice_get}
use Rattle.std.specs.Str.{bytes_eq}
use Rattle.std.proofs.lemmas.Bool.{eqb-true, eqb-false, ltb-false}
use Rattle.std.proofs.lemmas.List.{take-append-drop, take_at, drop_more, length-drop, length-append}
use Rattle.std.proofs.lemmas.Option.{slice_get-get_or}
use Rattle.std.proofs.lemmas.Slice.Eq.{bytes_eq-Decides}
use Rattle.dg_graph.specs.declared.function.Function.{Function}
use Rattle.dg_graph.specs.declared.function.Function.TheVariants as function
use Rattle.dg_graph.specs.declared.limits.TheConstants.{SKEW_MAX}
use Rattle.dg_graph.specs.Columns.{four, two}
use Rattle.dg_history.specs.declared.form.Form.{Form}
use Rattle.dg_history.specs.declared.form.Form.TheVariants as form
use Rattle.dg_history.specs.declared.params.Params.{Params}
use Rattle.dg_history.specs.History.{History, are_parameters, empty_history, is_form, is_function, is_skewed, narrow_batches}
use Rattle.dg_history.specs.LegalHistory.{IsLegal, are_silent}
use Rattle.dg_history.proofs.LegalHistories.{events_among}
use Rattle.dg_index.specs.FileOfHistory.{function_byte, file, share_of}
use Rattle.dg_index.specs.ImageOfHistory.{IsImageOf}
use Rattle.dg_index.specs.ImageText.{Header, header_in, header_with, params_with, function_in, shared_function_in, four_at, two_at}
use Rattle.dg_index.specs.OpenedIndex.{Opened, bare, opening}
use Rattle.dg_index.proofs.OpenedSoFar.{was}
use Rattle.dg_columns.proofs.Fields.{IsBytes, Stands, stands_then}
use Rattle.dg_sound_files.proofs.ImageTextNumbers.{four_stands, two_stands}
use Rattle.dg_sound_files.proofs.ImageTextNames.{map_is, some_is}
use Rattle.dg_sound_files.proofs.OpenedIndexDirectories.{Chain, Turn, chain_of, chain_params, chain_used}
use Rattle.dg_sound_files.proofs.OpenedIndexSegments.{IsWritten}

-- ---- the header

function_is : (byte : ℕ) (f : Function) → function_in byte ≡ Some f → (byte ≡ function_byte f) × (share_of f ≡ 0) × (is_function f ≡ true) × (not (is_skewed f) ≡ true)
function_is byte f e = by (byte == 1) refl (byte == 2) refl (byte == 3) refl e
  where
    one : (g : Function) → byte ≡ function_byte g → share_of g ≡ 0 → is_function g ≡ true → not (is_skewed g) ≡ true → Some g ≡ Some f → (byte ≡ function_byte f) × (share_of f ≡ 0) × (is_function f ≡ true) × (not (is_skewed f) ≡ true)
    one g is share right plain e = subst (λ (f : Function). (byte ≡ function_byte f) × (share_of f ≡ 0) × (is_function f ≡ true) × (not (is_skewed f) ≡ true)) (some_is g f e) (is, share, right, plain)

    by : (a : Bool) → (byte == 1) ≡ a → (b : Bool) → (byte == 2) ≡ b → (c : Bool) → (byte == 3) ≡ c → cond a (Some function.Intersection) (cond b (Some function.Union) (cond c (Some function.Balanced) None)) ≡ Some f
        → (byte ≡ function_byte f) × (share_of f ≡ 0) × (is_function f ≡ true) × (not (is_skewed f) ≡ true)
    by true p b q c r e = one function.Intersection (eqb-true byte 1 p) refl refl refl e
    by false p true q c r e = one function.Union (eqb-true byte 2 q) refl refl refl e
    by false p false q true r e = one function.Balanced (eqb-true byte 3 r) refl refl refl e
    by false p false q false r e = absurd cc

if_begins : {A : Type 0} (b : Bool) (o : Option A) (y : A) → cond b o None ≡ Some y → (b ≡ true) × (o ≡ Some y)
if_begins true o y e = (refl, e)
if_begins false o y e = absurd cc

shared_is : (byte share : ℕ) (f : Function) → shared_function_in byte share ≡ Some f → (byte ≡ function_byte f) × (share ≡ share_of f) × (is_function f ≡ true)
shared_is byte share f e = by (byte == 4) refl e
  where
    by : (b : Bool) → (byte == 4) ≡ b → cond b (cond (nat_le share SKEW_MAX) (Some (function.Skewed share)) None) (cond (share == 0) (function_in byte) None) ≡ Some f → (byte ≡ function_byte f) × (share ≡ share_of f) × (is_function f ≡ true)
    by true four e =
        let a = if_begins (nat_le share SKEW_MAX) (Some (function.Skewed share)) f e in
        subst (λ (f : Function). (byte ≡ function_byte f) × (share ≡ share_of f) × (is_function f ≡ true)) (some_is (function.Skewed share) f a.1) (eqb-true byte 4 four, refl, a.0)
    by false other e =
        let a = if_begins (share == 0) (function_in byte) f e in
        let is = function_is byte f a.1 in
        (is.0, eqb-true share 0 a.0 ∙ sym is.1, is.2)

record ParamsAre (l k : ℕ) (o : Option Function) (p : Params) : Type 0 where
  right : are_parameters p.l p.k ≡ true
  is_l : l ≡ p.l
  is_k : k ≡ p.k
  is_read : o ≡ Some p.function

params_are : (l k : ℕ) (o : Option Function) (p : Params) → params_with l k o ≡ Some p → ParamsAre l k o p
params_are l k None p e = absurd cc
params_are l k (Some f) p e =
    let made : Params = record { l = l; k = k; function = f } in
    let a = if_begins (are_parameters l k) (Some made) p e in
    subst (ParamsAre l k (Some f)) (some_is made p a.1) (record { right = a.0; is_l = refl; is_k = refl; is_read = refl })

-- what an image that is opened begins with
pub record Begins (image : List ℕ) (f : Form) (p : Params) : Type 0 where
  pub right : are_parameters p.l p.k ≡ true
  pub function : is_function p.function ≡ true
  pub form : is_form f p.function 0 ≡ true
  pub silent : are_silent (events_among (narrow_batches f [])) ≡ true
  pub stands : Stands image 0 (file (empty_history f p)) 17

begins_one : (image : List ℕ) (p : Params) → IsBytes image → 18 ≤ length image → take 8 image ≡ 1 ∷ codes "DGRAPH1" → params_with (four_at image 8) (four_at image 12) (function_in (get_or image 16 0)) ≡ Some p → Begins image form.One p
begins_one image p fits long mark e =
    let r = params_are (four_at image 8) (four_at image 12) (function_in (get_or image 16 0)) p e in
    let is = function_is (get_or image 16 0) p.function r.is_read in
    let f : List ℕ = function_byte p.function ∷ [] in
    let s0 : Stands image 0 (1 ∷ codes "DGRAPH1") 8 = sym (take-append-drop 8 image) ∙ ap (λ (l : List ℕ). l ++ drop 8 image) mark in
    let s1 : Stands image 8 (four p.l) 12 = four_stands image 8 12 fits refl (omega (arith, long)) ∙ ap (λ n. four n ++ drop 12 image) r.is_l in
    let s2 : Stands image 12 (four p.k) 16 = four_stands image 12 16 fits refl (omega (arith, long)) ∙ ap (λ n. four n ++ drop 16 image) r.is_k in
    let s3 : Stands image 16 (function_byte p.function ∷ []) 17 = drop_more image 16 0 (omega (arith, long)) ∙ ap (λ n. n ∷ drop 17 image) is.0 in
    let s23 = stands_then image 12 (four p.k) 16 f 17 s2 s3 in
    let s13 = stands_then image 8 (four p.l) 12 (four p.k ++ f) 17 s1 s23 in
    record { right = r.right; function = is.2; form = is.3; silent = refl; stands = stands_then image 0 (1 ∷ codes "DGRAPH1") 8 (four p.l ++ (four p.k ++ f)) 17 s0 s13 }

begins_two : (image : List ℕ) (p : Params) → IsBytes image → 18 ≤ length image → take 8 image ≡ 1 ∷ codes "DGRAPH2" → params_with (four_at image 8) (two_at image 14) (shared_function_in (get_or image 16 0) (two_at image 12)) ≡ Some p → Begins image form.Two p
begins_two image p fits long mark e =
    let r = params_are (four_at image 8) (two_at image 14) (shared_function_in (get_or image 16 0) (two_at image 12)) p e in
    let is = shared_is (get_or image 16 0) (two_at image 12) p.function r.is_read in
    let f : List ℕ = function_byte p.function ∷ [] in
    let s0 : Stands image 0 (1 ∷ codes "DGRAPH2") 8 = sym (take-append-drop 8 image) ∙ ap (λ (l : List ℕ). l ++ drop 8 image) mark in
    let s1 : Stands image 8 (four p.l) 12 = four_stands image 8 12 fits refl (omega (arith, long)) ∙ ap (λ n. four n ++ drop 12 image) r.is_l in
    let s2 : Stands image 12 (two (share_of p.function)) 14 = two_stands image 12 14 fits refl (omega (arith, long)) ∙ ap (λ n. two n ++ drop 14 image) is.1 in
    let s3 : Stands image 14 (two p.k) 16 = two_stands image 14 16 fits refl (omega (arith, long)) ∙ ap (λ n. two n ++ drop 16 image) r.is_k in
    let s4 : Stands image 16 (function_byte p.function ∷ []) 17 = drop_more image 16 0 (omega (arith, long)) ∙ ap (λ n. n ∷ drop 17 image) is.0 in
    let s34 = stands_then image 14 (two p.k) 16 f 17 s3 s4 in
    let s24 = stands_then image 12 (two (share_of p.function)) 14 (two p.k ++ f) 17 s2 s34 in
    let s14 = stands_then image 8 (four p.l) 12 (two (share_of p.function) ++ (two p.k ++ f)) 17 s1 s24 in
    record { right = r.right; function = is.2; form = refl; silent = refl; stands = stands_then image 0 (1 ∷ codes "DGRAPH2") 8 (four p.l ++ (two (share_of p.function) ++ (two p.k ++ f))) 17 s0 s14 }

begins_with : (image : List ℕ) (h : Header) → IsBytes image → 18 ≤ length image → header_in image ≡ Some h → Begins image h.form h.params
begins_with image h fits long e = by (bytes_eq (take 8 image) (1 ∷ codes "DGRAPH1")) refl (bytes_eq (take 8 image) (1 ∷ codes "DGRAPH2")) refl e
  where
    with_form : (f : Form) (o : Option Params) → ((p : Params) → o ≡ Some p → Begins image f p) → header_with f o ≡ Some h → Begins image h.form h.params
    with_form f o begins e =
        let a = map_is (λ (params : Params). let h : Header = record { form = f; params = params } in h) o h e in
        subst (λ (h : Header). Begins image h.form h.params) a.2 (begins a.0 a.1)

    by : (a : Bool) → bytes_eq (take 8 image) (1 ∷ codes "DGRAPH1") ≡ a → (b : Bool) → bytes_eq (take 8 image) (1 ∷ codes "DGRAPH2") ≡ b
        → cond a (header_with form.One (params_with (four_at image 8) (four_at image 12) (function_in (get_or image 16 0))))
        (cond b (header_with form.Two (params_with (four_at image 8) (two_at image 14) (shared_function_in (get_or image 16 0) (two_at image 12)))) None) ≡ Some h → Begins image h.form h.params
    by true one b two e =
        with_form form.One (params_with (four_at image 8) (four_at image 12) (function_in (get_or image 16 0)))
        (λ p e. begins_one image p fits long ((bytes_eq-Decides (take 8 image) (1 ∷ codes "DGRAPH1")).0 one) e) e
    by false one true two e =
        with_form form.Two (params_with (four_at image 8) (two_at image 14) (shared_function_in (get_or image 16 0) (two_at image 12)))
        (λ p e. begins_two image p fits long ((bytes_eq-Decides (take 8 image) (1 ∷ codes "DGRAPH2")).0 two) e) e
    by false one false two e = absurd cc

-- ---- what is opened

pub record IsOpened (image : List ℕ) (x : Opened) : Type 0 where
  pub long : 18 ≤ length image
  pub form : Form
  pub begins : Begins image form x.index.params
  pub turns : List Turn
  pub chain : Chain image (bare form x.index.params) turns x

not_short : (a b : Bool) → (a || b) ≡ false → a ≡ false
not_short true b e = e
not_short false b e = refl

pub is_opened : (image : List ℕ) (x : Opened) → IsBytes image → opening image ≡ Ok x → IsOpened image x
is_opened image x fits e =
    let w = was image x e in
    let f : Form = w.header.form in
    let long : 18 ≤ length image = ltb-false (length image) 18 (not_short (nat_lt (length image) 18) (length image == 18 && not (get_or image 0 0 == 1)) w.there) in
    let c = chain_of (length image) image (bare f w.header.params) x (omega arith) long w.read in
    let same : w.header.params ≡ x.index.params = chain_params image c.0 (bare f w.header.params) x c.1 in
    record {
      long = long;
      form = f;
      begins = subst (Begins image f) same (begins_with image w.header fits long w.are);
      turns = c.0;
      chain = subst (λ (p : Params). Chain image (bare f p) c.0 x) same c.1;
    }

-- ---- the file

pub stands_as_file : (z : History) (image : List ℕ) (x : Opened) (o : IsOpened image x) → z.form ≡ x.index.form → IsWritten z image x z.batches → IsLegal z → IsImageOf z image
stands_as_file z image x o form written legal =
    let gate : ℕ = x.index.used - 1 in
    let used = chain_used image o.turns (bare o.form x.index.params) x o.chain (omega arith) o.long (omega arith) in
    let whole : Stands image 0 (file z) gate = written.stands ∙ ap (λ (f : Form). file (record { params = z.params; form = f; batches = z.batches }) ++ drop gate image) (sym form) in
    let lengths : length image ≡ length (file z) + (length image - gate) = ap length whole ∙ length-append (file z) (drop gate image) ∙ ap (λ n. length (file z) + n) (length-drop gate image) in
    let end : length (file z) ≡ x.index.used - 1 = omega (arith, lengths, used.0, used.1) in
    record {
      legal = legal;
      fits = omega (arith, end, used.0, used.2);
      begins = ap (take (length (file z))) whole ∙ take_at (file z) (drop gate image) (length (file z)) refl;
      gate = get_or image (x.index.used - 1) 0;
      there = ap (slice_get image) end ∙ slice_get-get_or image (x.index.used - 1) 0 (omega (arith, used.0, used.1));
      closed = eqb-false (get_or image (x.index.used - 1) 0) 1 used.3;
    }
