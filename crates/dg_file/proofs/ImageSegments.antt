-- What a new segment makes of an image.
use Rattle.std.proofs.Common.{◌≡◌, ℕ, ◌+◌, ◌-◌, ◌≤◌, ◌⊎◌, inl, inr, Bool, true, false, List, [], ◌∷◌, ◌++◌, length, get_or, take, drop, Option, Some, None, Result, Ok, Err, refl, sym, ap, subst, ◌∙◌, arith, append_assoc, length-append, length-take-le}
use Rattle.std.specs.Prelude.{◌≢◌, ◌==◌, IfSome}
use Rattle.std.specs.List.{flat_map}
use Rattle.std.proofs.lemmas.Bool.{eqb-true, eq-eqb, false≢true}
use Rattle.std.proofs.lemmas.List.{take_at, drop_at, get_or_at}
use Rattle.std.proofs.lemmas.Option.{get_or_from_slice_get, slice_get-get_or}
use Rattle.dg_disk.specs.Image.{HasOffset}
use Rattle.dg_history.specs.declared.limits.TheConstants.{EVENTS_MAX, FILE_BYTES_MAX}
use Rattle.dg_history.specs.declared.params.Params.{Params}
use Rattle.dg_history.specs.declared.form.Form.{Form}
use Rattle.dg_history.specs.declared.form.Form.TheVariants as form
use Rattle.dg_history.specs.History.{History, Batch, are_parameters, empty_history, events_of, is_form, is_function, is_wide, with_batch}
use Rattle.dg_history.specs.LegalHistory.{IsLegal}
use Rattle.dg_index.specs.OpenedIndex.{Unopened, Opening, Opened, bare, directory_of, earliest_in, event_total, may_be_named, opened_in, opened_of, opened_onto, rows_in, with_marker, MayStand}
use Rattle.dg_index.specs.ImageOfHistory.{IsImageOf}
use Rattle.dg_graph.specs.Columns.{eight}
use Rattle.dg_index.specs.declared.entry.BatchEntry.{BatchEntry}
use Rattle.dg_index.specs.declared.entry.Row.{Row}
use Rattle.dg_index.specs.FileOfHistory.{Segment, blobs, directory, file, head_of, segment_bytes, segment_of, size}
use Rattle.dg_index.proofs.OpenedIndexDirectories.{measures}
use Rattle.dg_index.proofs.OpenedIndexGrowth.{file_more, used_is, measured}
use Rattle.dg_index.proofs.OpenedIndexHistories.{form_onto, images_are_opened, large_parameters}
use Rattle.dg_index.proofs.OpenedSoFar.{gains}
use Rattle.dg_index.specs.IndexGrowth.{IsDue, index_with, needed_for}
use Rattle.dg_file.proofs.InvariantBatches.{follows_in}
use Rattle.dg_catalogue.specs.Additions.{bytes_of_rows}
use Rattle.dg_file.specs.Invariant.{with_rows}
use Rattle.dg_file.proofs.SegmentText.{text_is}
use Rattle.dg_segment.proofs.OpenedIndexKeys.{keys_count, keys_few}
use Rattle.dg_file.proofs.ImageColumns.{used_within}
use Rattle.dg_file.specs.Images.{Fits, GainsSegment, GainsBatch, GainsBatchOrNot, BothTold, IsOpenedAs}
use Rattle.dg_file.specs.Headers.{header_rest, is_upgraded}
use Rattle.dg_file.specs.Growth.{Moved, KeepsFront, Gated, GatedOrNot}
use Rattle.dg_file.proofs.GrowthMoves.{moved_given, moved_both}
use Rattle.dg_index.proofs.ImageTextRanges.{byte_same, same_fewer}

pub image_from : (z : History) (gate : ℕ) (rest image : List ℕ) → IsLegal z → size z ≤ FILE_BYTES_MAX → gate ≢ 1 → image ≡ file z ++ gate ∷ rest → IsImageOf z image
image_from z gate rest image legal fits closed is =
    let n = length (file z) in
    let byte : get_or image n 0 ≡ gate = ap (λ (l : List ℕ). get_or l n 0) is ∙ get_or_at (file z) gate rest 0 n refl in
    record {
      legal = legal;
      fits = fits;
      begins = ap (take n) is ∙ take_at (file z) (gate ∷ rest) n refl;
      gate = gate;
      there = slice_get-get_or image n 0 (omega (arith, ap length is, length-append (file z) (gate ∷ rest))) ∙ ap (λ (b : ℕ). Some b) byte;
      closed = closed;
    }

pub zero_closed : (n : ℕ) → n ≡ 0 → n ≢ 1
zero_closed n is e = absurd (omega (arith, is, e))

-- an index may be made with this form and these parameters
pub record MayBegin (f : Form) (params : Params) : Type 0 where
  pub parameters : are_parameters params.l params.k ≡ true
  pub function : is_function params.function ≡ true
  pub form : is_form f params.function 0 ≡ true
  pub first : is_upgraded f ≡ false

pub image_made : (f : Form) (params : Params) (image : List ℕ) → MayBegin f params → image ≡ 1 ∷ header_rest f params → IsImageOf (empty_history f params) image
image_made form.One params image may is =
    image_from (empty_history form.One params) 0 [] image (record { parameters = may.parameters; function = may.function; form = may.form; silent = refl; batches = tt; names = refl; few_names = omega arith; few = omega arith }) (omega arith) (zero_closed 0 refl) is
image_made form.Two params image may is =
    image_from (empty_history form.Two params) 0 [] image (record { parameters = may.parameters; function = may.function; form = may.form; silent = refl; batches = tt; names = refl; few_names = omega arith; few = omega arith }) (omega arith) (zero_closed 0 refl) is
image_made (form.Upgraded b) params image may is = absurd (false≢true (sym may.first))

image_gains : (z : History) (b : Batch) (before after : List ℕ) → IsImageOf z before → IsLegal (with_batch z b) → size (with_batch z b) ≤ FILE_BYTES_MAX → Gated (length (file z)) 1 (segment_bytes (is_wide z.form) (segment_of z.params (events_of z) b)) before after → IsImageOf (with_batch z b) after
image_gains z b before after h legal fits g =
    let text : List ℕ = segment_bytes (is_wide z.form) (segment_of z.params (events_of z) b) in
    let is : after ≡ file z ++ (1 ∷ (text ++ 0 ∷ g.rest)) = g.is ∙ ap (λ (l : List ℕ). l ++ 1 ∷ (text ++ 0 ∷ g.rest)) h.begins in
    image_from (with_batch z b) 0 g.rest after legal fits (zero_closed 0 refl)
    (is ∙ sym (append_assoc (file z) (1 ∷ text) (0 ∷ g.rest)) ∙ ap (λ (l : List ℕ). l ++ 0 ∷ g.rest) (sym (file_more z b h.legal.form)))

pub image_gated : (z : History) (gate : ℕ) (text before after : List ℕ) → IsImageOf z before → gate ≢ 1 → Gated (length (file z)) gate text before after → IsImageOf z after
image_gated z gate text before after h closed g =
    image_from z gate (text ++ 0 ∷ g.rest) after h.legal h.fits closed (g.is ∙ ap (λ (l : List ℕ). l ++ gate ∷ (text ++ 0 ∷ g.rest)) h.begins)

pub image_kept : (z : History) (before after : List ℕ) → IsImageOf z before → KeepsFront (size z) before after → IsImageOf z after
image_kept z before after h k =
    let n = length (file z) in
    let byte : get_or after n 0 ≡ h.gate = byte_same (n + 1) n after before (omega arith) k.same ∙ get_or_from_slice_get before n h.gate 0 h.there in
    record {
      legal = h.legal;
      fits = h.fits;
      begins = same_fewer n (n + 1) after before (omega arith) k.same ∙ h.begins;
      gate = h.gate;
      there = slice_get-get_or after n 0 (omega (arith, k.reach)) ∙ ap (λ (b : ℕ). Some b) byte;
      closed = h.closed;
    }

-- ---- by what the image is opened as

ok_index : Opening → Result Opened Unopened → Opening
ok_index o (Ok x) = x.index
ok_index o (Err e) = o

pub opened_names : List (List ℕ) → Result Opened Unopened → List (List ℕ)
opened_names names (Ok x) = x.names
opened_names names (Err e) = names

pub same_opening : (z : History) (image : List ℕ) (o : Opening) → IsImageOf z image → IsOpenedAs image o → (opened_of z).index ≡ o
unfolding ok_index
same_opening z image o h e = ap (ok_index o) (sym (images_are_opened z image h) ∙ e.1)

-- a segment that is due may stand behind what is opened, with names which those of the segment may follow
pub may_stand_due : (o : Opening) (s : Segment) (names : List (List ℕ)) → are_parameters o.params.l o.params.k ≡ true → IsDue o s → may_be_named names s.names ≡ true → MayStand (record { index = o; names = names }) s
may_stand_due o s names parameters due named =
    let large = large_parameters o.params.l o.params.k parameters in
    let all : event_total o.batches + s.events ≤ EVENTS_MAX = (follows_in (event_total o.batches) (earliest_in 0 o.batches) (directory_of s).batch due.follows).all in
    let few = keys_few o s.events large.0 large.1 all in
    let count = keys_count o s.events in
    record {
      lists = due.lists;
      deltas = due.deltas;
      few_lists = omega (arith, due.lists, few, count);
      few_deltas = omega (arith, due.deltas, few, count);
      follows = due.follows;
      named = named;
      listed = due.listed;
      deltas_unheard = due.deltas_unheard;
      unheard = due.unheard;
    }

-- what a history is opened as goes on in the same form
wide_is : (f : Form) (p : Params) (batches : List Batch) → is_wide (opened_in f p batches).index.form ≡ is_wide f
wide_is form.One p batches = ap is_wide (form_onto p (bare form.One p) [] batches)
wide_is form.Two p batches = ap is_wide (form_onto p (bare form.Two p) [] batches)
wide_is (form.Upgraded b) p batches =
    ap is_wide (form_onto p (with_marker (opened_onto p (bare form.One p) [] (take b batches))) (flat_map (λ (b : Batch). b.events) (take b batches)) (drop b batches))

module _ (o : Opening) (s : Segment) (before after : List ℕ) (fits : needed_for o s ≤ FILE_BYTES_MAX) where
  gains_segment : are_parameters o.params.l o.params.k ≡ true → IsDue o s → Fits before o s → 1 ≤ o.used → o.used ≤ length before + 1 → Gated (o.used - 1) 1 (segment_bytes (is_wide o.form) s) before after → GainsSegment o s (index_with o s) before after
  unfolding opened_names
  gains_segment parameters due f some within g names e =
      let x : Opened = record { index = o; names = names } in
      let same : f.0 ≡ names = ap (opened_names names) (sym f.1 ∙ e) in
      let named : may_be_named names s.names ≡ true = subst (λ (l : List (List ℕ)). may_be_named l s.names ≡ true) same f.2 in
      let front = length-take-le (o.used - 1) before (omega (arith, within)) in
      gains before after g.rest x s e (may_stand_due o s names parameters due named) fits
      (ap (take (o.used - 1)) g.is ∙ take_at (take (o.used - 1) before) (1 ∷ (segment_bytes (is_wide o.form) s ++ 0 ∷ g.rest)) (o.used - 1) front)
      (ap (drop (o.used - 1)) g.is ∙ drop_at (take (o.used - 1) before) (1 ∷ (segment_bytes (is_wide o.form) s ++ 0 ∷ g.rest)) (o.used - 1) front)

  gains_batch : IsOpenedAs before o → Gated (o.used - 1) 1 (segment_bytes (is_wide o.form) s) before after → GainsBatch s before after
  gains_batch e g z b h legal is =
      let same = same_opening z before o h e in
      let used : size z ≡ o.used = sym (used_is z) ∙ ap (λ (o : Opening). o.used) same in
      let wide : is_wide o.form ≡ is_wide z.form = ap (λ (o : Opening). is_wide o.form) (sym same) ∙ wide_is z.form z.params z.batches in
      let text : segment_bytes (is_wide o.form) s ≡ segment_bytes (is_wide z.form) (segment_of z.params (events_of z) b) = λ i. segment_bytes (wide i) (is i) in
      let more : needed_for o (segment_of z.params (events_of z) b) ≡ size (with_batch z b) = ap (λ (o : Opening). needed_for o (segment_of z.params (events_of z) b)) (sym same) ∙ measured z b h.legal.form in
      let gate : Gated (length (file z)) 1 (segment_bytes (is_wide z.form) (segment_of z.params (events_of z) b)) before after = subst (λ (l : List ℕ). Gated (length (file z)) 1 l before after) text (subst (λ n. Gated n 1 (segment_bytes (is_wide o.form) s) before after) (omega (arith, used)) g) in
      image_gains z b before after h legal (subst (λ n. n ≤ FILE_BYTES_MAX) (ap (needed_for o) is ∙ more) fits) gate

  gains_or_not : IsOpenedAs before o → GatedOrNot o.used (segment_bytes (is_wide o.form) s) before after → GainsBatchOrNot s before after
  gains_or_not e (inl kept) z b h legal is =
      let used : o.used ≡ size z = sym (ap (λ (o : Opening). o.used) (same_opening z before o h e)) ∙ used_is z in
      inl (image_kept z before after h (subst (λ n. KeepsFront n before after) used kept))
  gains_or_not e (inr g) z b h legal is = by (g.0 == 1) refl
    where
      by : (t : Bool) → (g.0 == 1) ≡ t → IsImageOf z after ⊎ IsImageOf (with_batch z b) after
      by true one = inr (gains_batch e (subst (λ n. Gated (o.used - 1) n (segment_bytes (is_wide o.form) s) before after) (eqb-true g.0 1 one) g.1) z b h legal is)
      by false other =
          let used : size z ≡ o.used = sym (used_is z) ∙ ap (λ (o : Opening). o.used) (same_opening z before o h e) in
          inl (image_gated z g.0 (segment_bytes (is_wide o.form) s) before after h (λ one. false≢true (sym other ∙ eq-eqb g.0 1 one)) (subst (λ n. Gated n g.0 (segment_bytes (is_wide o.form) s) before after) (omega (arith, used)) g.1))

-- ---- the same of images that may be told

pub used_there : (x : Option (List ℕ)) (o : Opening) (s : Segment) (used : ℕ) → used ≡ o.used → IfSome x (λ image. Fits image o s) → HasOffset x used
used_there None o s used is h = tt
used_there (Some image) o s used is h = omega (arith, is, used_within image (record { index = o; names = h.0 }) h.1)

module _ (x y : Option (List ℕ)) (o : Opening) (s : Segment) (used : ℕ) (same : used ≡ o.used) (fits : needed_for o s ≤ FILE_BYTES_MAX) (h : IfSome x (λ image. Fits image o s)) where
  written : Moved x y (Gated (used - 1) 1 (segment_bytes (is_wide o.form) s)) → Moved x y (Gated (o.used - 1) 1 (segment_bytes (is_wide o.form) s))
  written m = subst (λ n. Moved x y (Gated (n - 1) 1 (segment_bytes (is_wide o.form) s))) same m

  pub added_segment : are_parameters o.params.l o.params.k ≡ true → IsDue o s → 1 ≤ o.used → Moved x y (Gated (used - 1) 1 (segment_bytes (is_wide o.form) s)) → BothTold x y (GainsSegment o s (index_with o s))
  added_segment parameters due some m =
      moved_both x y (GainsSegment o s (index_with o s))
      (moved_given x y (λ image. Fits image o s) (Gated (o.used - 1) 1 (segment_bytes (is_wide o.form) s)) (GainsSegment o s (index_with o s))
      (λ a b f g. gains_segment o s a b fits parameters due f some (omega (arith, used_within a (record { index = o; names = f.0 }) f.1)) g) h (written m))

  pub added_batch : Moved x y (Gated (used - 1) 1 (segment_bytes (is_wide o.form) s)) → BothTold x y (GainsBatch s)
  added_batch m =
      moved_both x y (GainsBatch s) (moved_given x y (λ image. Fits image o s) (Gated (o.used - 1) 1 (segment_bytes (is_wide o.form) s)) (GainsBatch s) (λ a b f g. gains_batch o s a b fits (f.0, f.1) g) h (written m))

  pub added_or_not : Moved x y (GatedOrNot used (segment_bytes (is_wide o.form) s)) → BothTold x y (GainsBatchOrNot s)
  added_or_not m =
      moved_both x y (GainsBatchOrNot s) (moved_given x y (λ image. Fits image o s) (GatedOrNot o.used (segment_bytes (is_wide o.form) s)) (GainsBatchOrNot s) (λ a b f g. gains_or_not o s a b fits (f.0, f.1) g) h
      (subst (λ n. Moved x y (GatedOrNot n (segment_bytes (is_wide o.form) s))) same m))

-- ---- what the index keeps then

-- the segment in front of its columns has so many bytes
head_long : (wide : Bool) (s : Segment) → length (head_of wide s) ≡ 16 + length (directory wide s)
head_long wide s = omega (arith, length-append (eight (length (directory wide s))) (eight (length (blobs s)) ++ directory wide s), length-append (eight (length (blobs s))) (directory wide s))

pub needed_is : (used size : ℕ) (o : Opening) (s t : Segment) (wide : Bool) → used ≡ o.used → t ≡ s → wide ≡ is_wide o.form → size ≡ length (segment_bytes wide t) + 1 → used + size ≡ needed_for o s
needed_is used size o s t wide same is in_form long =
    let text : length (segment_bytes wide t) ≡ length (segment_bytes (is_wide o.form) s) = λ i. length (segment_bytes (in_form i) (is i)) in
    omega (arith, same, long, text)

-- the head and the columns are the segment
pub text_written : (wide : Bool) (s t : Segment) (head : List ℕ) → head ≡ head_of wide s → t ≡ s → head ++ blobs t ≡ segment_bytes wide s
text_written wide s t head h is = (λ i. h i ++ blobs (is i)) ∙ text_is wide s

-- and come to its bytes
pub columns_end : (wide : Bool) (s : Segment) (head : List ℕ) (rows : List Row) → head ≡ head_of wide s → rows ≡ rows_in (directory_of s) → length head + bytes_of_rows rows ≡ length (segment_bytes wide s)
columns_end wide s head rows h r = omega (arith, ap length h, ap bytes_of_rows r, measures s, length-append (head_of wide s) (blobs s), ap length (text_is wide s))

pub index_is : (o : Opening) (s : Segment) (b : BatchEntry) (rows : List Row) (head : List ℕ) (used needed : ℕ) → b ≡ (directory_of s).batch → rows ≡ rows_in (directory_of s) → head ≡ head_of (is_wide o.form) s → used ≡ o.used → needed ≡ needed_for o s
    → with_rows o b rows (used + length head) needed ≡ index_with o s
index_is o s b rows head used needed b_is r h same n =
    let offset : used + length head ≡ o.used + 16 + length (directory (is_wide o.form) s) = omega (arith, same, ap length h, head_long (is_wide o.form) s) in
    λ i. with_rows o (b_is i) (r i) (offset i) (n i)
