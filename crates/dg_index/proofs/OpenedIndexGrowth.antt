-- The file of a history and what it is opened as, with one batch more.
use Rattle.std.proofs.Common.{◌≡◌, ℕ, ◌+◌, List, [], ◌∷◌, ◌++◌, length, sym, ap, ◌∙◌, append_assoc, append-nil, arith, length-append, zero, suc, ◌≤◌, Bool, true, false, not, ◌&&◌, take, drop, nat_le, refl}
use Rattle.std.proofs.lemmas.Bool.{and_parts, leb-true}
use Rattle.dg_graph.specs.declared.event.Event.{Event}
use Rattle.dg_history.specs.declared.form.Form.{Form}
use Rattle.dg_history.specs.declared.form.Form.TheVariants as form
use Rattle.dg_history.specs.declared.params.Params.{Params}
use Rattle.dg_index.specs.FileOfHistory.{header, segment_bytes, segment_of, segments_from, file, size, marker, segments_in}
use Rattle.dg_history.specs.History.{History, Batch, events_of, with_batch, is_form, is_skewed, is_wide, with_upgrade}
use Rattle.dg_history.proofs.LegalHistories.{events_among}
use Rattle.dg_index.specs.OpenedIndex.{Opened, bare, with_segment, opened_onto, opened_of, with_marker, opened_in}

-- the events behind some, with those of batches
pub behind_all : (before : List Event) (b : Batch) (batches : List Batch) → (before ++ b.events) ++ events_among batches ≡ before ++ events_among (b ∷ batches)
behind_all before b batches = append_assoc before b.events (events_among batches)

pub segments_more : (wide : Bool) (p : Params) (before : List Event) (batches : List Batch) (b : Batch)
    → segments_from wide p before (batches ++ b ∷ []) ≡ segments_from wide p before batches ++ (1 ∷ segment_bytes wide (segment_of p (before ++ events_among batches) b))
segments_more wide p before [] b =
    ap (λ (l : List ℕ). 1 ∷ l) (append-nil (segment_bytes wide (segment_of p before b)))
    ∙ ap (λ (l : List Event). 1 ∷ segment_bytes wide (segment_of p l b)) (sym (append-nil before))
segments_more wide p before (c ∷ batches) b =
    let one : List ℕ = segment_bytes wide (segment_of p before c) in
    ap (λ (l : List ℕ). 1 ∷ (one ++ l)) (segments_more wide p (before ++ c.events) batches b
    ∙ ap (λ (l : List Event). segments_from wide p (before ++ c.events) batches ++ (1 ∷ segment_bytes wide (segment_of p l b))) (behind_all before c batches))
    ∙ ap (λ (l : List ℕ). 1 ∷ l) (sym (append_assoc one (segments_from wide p (before ++ c.events) batches) (1 ∷ segment_bytes wide (segment_of p (before ++ events_among (c ∷ batches)) b))))

-- ---- the batches in front of an upgrade and behind it

front_more : (n : ℕ) (batches : List Batch) (b : Batch) → n ≤ length batches → (take n (batches ++ b ∷ []) ≡ take n batches) × (drop n (batches ++ b ∷ []) ≡ drop n batches ++ b ∷ [])
front_more zero batches b le = (refl, refl)
front_more (suc n) [] b le = absurd (omega (arith, le))
front_more (suc n) (c ∷ batches) b le =
    let more = front_more n batches b (omega (arith, le)) in
    (ap (λ (l : List Batch). c ∷ l) more.0, more.1)

parts_events : (n : ℕ) (batches : List Batch) → events_among (take n batches) ++ events_among (drop n batches) ≡ events_among batches
parts_events zero batches = refl
parts_events (suc n) [] = refl
parts_events (suc n) (b ∷ batches) = append_assoc b.events (events_among (take n batches)) (events_among (drop n batches)) ∙ ap (λ (l : List Event). b.events ++ l) (parts_events n batches)

take_all : (batches : List Batch) → take (length batches) batches ≡ batches
take_all [] = refl
take_all (b ∷ batches) = ap (λ (l : List Batch). b ∷ l) (take_all batches)

drop_all : (batches : List Batch) → drop (length batches) batches ≡ []
drop_all [] = refl
drop_all (b ∷ batches) = drop_all batches

reached : (n : ℕ) (f : Bool) (batches : List Batch) → (f && nat_le n (length batches)) ≡ true → n ≤ length batches
reached n f batches e = leb-true n (length batches) (and_parts f (nat_le n (length batches)) e).1

segments_in_more : (f : Form) (p : Params) (batches : List Batch) (b : Batch) → is_form f p.function (length batches) ≡ true
    → segments_in f p (batches ++ b ∷ []) ≡ segments_in f p batches ++ (1 ∷ segment_bytes (is_wide f) (segment_of p (events_among batches) b))
segments_in_more form.One p batches b is = segments_more false p [] batches b
segments_in_more form.Two p batches b is = segments_more true p [] batches b
segments_in_more (form.Upgraded n) p batches b is =
    let cut = front_more n batches b (reached n (not (is_skewed p.function)) batches is) in
    let first : List ℕ = segments_from false p [] (take n batches) in
    let second : List ℕ = segments_from true p (events_among (take n batches)) (drop n batches) in
    let last : List ℕ = 1 ∷ segment_bytes true (segment_of p (events_among batches) b) in
    (λ i. segments_from false p [] (cut.0 i) ++ (1 ∷ (marker ++ segments_from true p (events_among (cut.0 i)) (cut.1 i))))
    ∙ ap (λ (l : List ℕ). first ++ (1 ∷ (marker ++ l))) (segments_more true p (events_among (take n batches)) (drop n batches) b
    ∙ ap (λ (l : List Event). second ++ (1 ∷ segment_bytes true (segment_of p l b))) (parts_events n batches))
    ∙ sym (append_assoc first (1 ∷ (marker ++ second)) last)

-- the file of a history with one batch more: that of the history, and one more segment behind an open gate
pub file_more : (z : History) (b : Batch) → is_form z.form z.params.function (length z.batches) ≡ true → file (with_batch z b) ≡ file z ++ (1 ∷ segment_bytes (is_wide z.form) (segment_of z.params (events_of z) b))
file_more z b is =
    ap (λ (l : List ℕ). header z.form z.params ++ l) (segments_in_more z.form z.params z.batches b is)
    ∙ sym (append_assoc (header z.form z.params) (segments_in z.form z.params z.batches) (1 ∷ segment_bytes (is_wide z.form) (segment_of z.params (events_of z) b)))

-- the file of an upgraded history: that of the history, and the marker behind an open gate
pub file_upgraded : (z : History) → z.form ≡ form.One → file (with_upgrade z) ≡ file z ++ (1 ∷ marker)
file_upgraded z is =
    let p : Params = z.params in
    let bs : List Batch = z.batches in
    (λ i. header form.One p ++ (segments_from false p [] (take_all bs i) ++ (1 ∷ (marker ++ segments_from true p (events_among (take (length bs) bs)) (drop_all bs i)))))
    ∙ ap (λ (l : List ℕ). header form.One p ++ (segments_from false p [] bs ++ (1 ∷ l))) (append-nil marker)
    ∙ sym (append_assoc (header form.One p) (segments_from false p [] bs) (1 ∷ marker))
    ∙ ap (λ (f : Form). (header f p ++ segments_in f p bs) ++ (1 ∷ marker)) (sym is)

opened_onto_more : (p : Params) (x : Opened) (before : List Event) (batches : List Batch) (b : Batch)
    → opened_onto p x before (batches ++ b ∷ []) ≡ with_segment (opened_onto p x before batches) (segment_of p (before ++ events_among batches) b)
opened_onto_more p x before [] b = ap (λ (l : List Event). with_segment x (segment_of p l b)) (sym (append-nil before))
opened_onto_more p x before (c ∷ batches) b =
    opened_onto_more p (with_segment x (segment_of p before c)) (before ++ c.events) batches b
    ∙ ap (λ (l : List Event). with_segment (opened_onto p x before (c ∷ batches)) (segment_of p l b)) (behind_all before c batches)

opened_in_more : (f : Form) (p : Params) (batches : List Batch) (b : Batch) → is_form f p.function (length batches) ≡ true
    → opened_in f p (batches ++ b ∷ []) ≡ with_segment (opened_in f p batches) (segment_of p (events_among batches) b)
opened_in_more form.One p batches b is = opened_onto_more p (bare form.One p) [] batches b
opened_in_more form.Two p batches b is = opened_onto_more p (bare form.Two p) [] batches b
opened_in_more (form.Upgraded n) p batches b is =
    let cut = front_more n batches b (reached n (not (is_skewed p.function)) batches is) in
    let x : Opened = with_marker (opened_onto p (bare form.One p) [] (take n batches)) in
    (λ i. opened_onto p (with_marker (opened_onto p (bare form.One p) [] (cut.0 i))) (events_among (cut.0 i)) (cut.1 i))
    ∙ opened_onto_more p x (events_among (take n batches)) (drop n batches) b
    ∙ ap (λ (l : List Event). with_segment (opened_onto p x (events_among (take n batches)) (drop n batches)) (segment_of p l b)) (parts_events n batches)

-- what it is opened as: what the history is opened as, with this segment
pub opened_more : (z : History) (b : Batch) → is_form z.form z.params.function (length z.batches) ≡ true → opened_of (with_batch z b) ≡ with_segment (opened_of z) (segment_of z.params (events_of z) b)
opened_more z b is = opened_in_more z.form z.params z.batches b is

-- and with the marker
pub opened_upgraded : (z : History) → z.form ≡ form.One → opened_of (with_upgrade z) ≡ with_marker (opened_of z)
opened_upgraded z is =
    let p : Params = z.params in
    let bs : List Batch = z.batches in
    (λ i. opened_onto p (with_marker (opened_onto p (bare form.One p) [] (take_all bs i))) (events_among (take (length bs) bs)) (drop_all bs i))
    ∙ ap (λ (f : Form). with_marker (opened_in f p bs)) (sym is)

used_onto : (p : Params) (x : Opened) (before : List Event) (batches : List Batch) → (opened_onto p x before batches).index.used ≡ x.index.used + length (segments_from (is_wide x.index.form) p before batches)
used_onto p x before [] = omega arith
used_onto p x before (b ∷ batches) =
    let wide : Bool = is_wide x.index.form in
    let one : List ℕ = segment_bytes wide (segment_of p before b) in
    let more = used_onto p (with_segment x (segment_of p before b)) (before ++ b.events) batches in
    omega (arith, more, length-append one (segments_from wide p (before ++ b.events) batches))

used_in : (f : Form) (p : Params) (batches : List Batch) → (opened_in f p batches).index.used ≡ length (header f p ++ segments_in f p batches) + 1
used_in form.One p batches = omega (arith, used_onto p (bare form.One p) [] batches, length-append (header form.One p) (segments_from false p [] batches))
used_in form.Two p batches = omega (arith, used_onto p (bare form.Two p) [] batches, length-append (header form.Two p) (segments_from true p [] batches))
used_in (form.Upgraded n) p batches =
    let first : List ℕ = segments_from false p [] (take n batches) in
    let second : List ℕ = segments_from true p (events_among (take n batches)) (drop n batches) in
    let x : Opened = opened_onto p (bare form.One p) [] (take n batches) in
    omega (arith, used_onto p (bare form.One p) [] (take n batches), used_onto p (with_marker x) (events_among (take n batches)) (drop n batches), length-append first (1 ∷ (marker ++ second)), length-append (header form.One p) (first ++ (1 ∷ (marker ++ second))))

pub used_is : (z : History) → (opened_of z).index.used ≡ size z
used_is z = used_in z.form z.params z.batches

-- the bytes that are needed with the segment of a batch are those of the file that has it
pub measured : (z : History) (b : Batch) → is_form z.form z.params.function (length z.batches) ≡ true → (with_segment (opened_of z) (segment_of z.params (events_of z) b)).index.used ≡ size (with_batch z b)
measured z b is = ap (λ (x : Opened). x.index.used) (sym (opened_more z b is)) ∙ used_is (with_batch z b)
