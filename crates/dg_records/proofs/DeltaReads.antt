-- A delta's column that is read in two parts.
use Rattle.std.proofs.Common.{◌≡◌, ℕ, ◌+◌, ◌≤◌, ◌<◌, ◌==◌, Bool, true, false, cond, if◌then◌else◌, List, ◌++◌, length, drop, take, Option, Some, None, Result, Ok, Err, refl, sym, ap, ◌∙◌, subst, slice_range, length-append, arith}
use Rattle.std.specs.Prelude.{IfOk, IfSome, OnErr, OnOk, is_some}
use Rattle.std.specs.Global.{Vec}
use Rattle.std.specs.Map.{lookup}
use Rattle.std.specs.Option.{ForSome}
use Rattle.std.proofs.lemmas.Bool.{eqb-true}
use Rattle.std.proofs.lemmas.List.{drop-drop, length-take, take-take, take_all}
use Rattle.std.proofs.Math.Seq.{take-add}
use Rattle.dg_catalogue.specs.Entries.{column_length_in, offset_in}
use Rattle.dg_disk.specs.Counts.{raised_by}
use Rattle.dg_disk.specs.Image.{IsRangeOf}
use Rattle.dg_file.specs.declared.fault.FetchFault.{FetchFault}
use Rattle.dg_file.specs.Images.{IsOpenedAs, taken_after}
use Rattle.dg_file.proofs.ImageColumns.{column_read}
use Rattle.dg_graph.specs.declared.element.Column.{Column}
use Rattle.dg_history.specs.declared.node.Key.{Key}
use Rattle.dg_history.specs.Keys.{same_key}
use Rattle.dg_index.specs.declared.entry.Entry.{Entry}
use Rattle.dg_index.specs.OpenedIndex.{Opening, column_at, entry_at, entry_or_none}
use Rattle.dg_records.specs.ColumnReads.{Takes, TakesOrFails}
use Rattle.dg_records.specs.DeltaFronts.{counts_fit, read_of_delta}
use Rattle.dg_records.proofs.KeptColumns.{at_entry, column_long}

-- ---- bytes behind bytes

range_is : (image : List ℕ) (at n : ℕ) → slice_range image at (at + n) ≡ take n (drop at image)
range_is image at n = ap (λ m. take m (drop at image)) (omega arith)

-- a range of the image, and then the range behind it
ranges_joined : (image : List ℕ) (at : ℕ) (front rest : List ℕ) → front ≡ slice_range image at (at + length front) → rest ≡ slice_range image (at + length front) (at + length front + length rest)
    → front ++ rest ≡ slice_range image at (at + length (front ++ rest))
ranges_joined image at front rest f r =
    (λ i. (f ∙ range_is image at (length front)) i ++ (r ∙ range_is image (at + length front) (length rest) ∙ ap (take (length rest)) (sym (drop-drop (length front) at image))) i)
    ∙ sym (take-add (length front) (length rest) (drop at image))
    ∙ ap (λ n. take n (drop at image)) (sym (length-append front rest))
    ∙ sym (range_is image at (length (front ++ rest)))

pub rest_read : {A E : Type 0} (r : Result A E) (told : Option (List ℕ)) (at : ℕ) (front rest : List ℕ) → IsRangeOf told at front → OnOk r (IsRangeOf told (at + length front) rest) → OnOk r (IsRangeOf told at (front ++ rest))
rest_read (Err e) told at front rest f h = tt
rest_read (Ok x) None at front rest f h = tt
rest_read (Ok x) (Some image) at front rest f h = ranges_joined image at front rest f h

-- ---- what is read of a column

-- a short column is read at once
read_short : (whole : List ℕ) → length whole ≤ 8 → read_of_delta whole ≡ whole
read_short whole few = elim (counts_fit (take 8 whole) (length whole)) as (λ b. cond b whole (take 8 whole) ≡ whole) [ true ↦ refl | false ↦ take_all 8 whole few ]

-- of another its first bytes tell what is read
read_is : (whole front : List ℕ) (len : ℕ) (b : Bool) → front ≡ take 8 whole → len ≡ length whole → counts_fit front len ≡ b → read_of_delta whole ≡ cond b whole (take 8 whole)
read_is whole front len b is long fit = ap (λ t. cond t whole (take 8 whole)) (sym (λ i. counts_fit (is i) (long i)) ∙ fit)

-- no more is read than there is
front_least : (whole : List ℕ) → 8 ≤ length whole → 8 ≤ length (read_of_delta whole)
front_least whole more =
    elim (counts_fit (take 8 whole) (length whole)) as (λ b. 8 ≤ length (cond b whole (take 8 whole))) [ true ↦ more | false ↦ omega (arith, more, length-take 8 whole) ]

takes_after : (n a b : ℕ) → b ≡ taken_after n a → Takes n a b
takes_after n a b is = by (n == 0) refl is
  where
    by : (none : Bool) → (n == 0) ≡ none → b ≡ (if none then a else raised_by n a) → Takes n a b
    by true e h = let zero : n ≡ 0 = eqb-true n 0 e in omega (arith, zero, h)
    by false e h = omega (arith, h)

module _ (o : Opening) (k : Key) (col : Column) (held : is_some (lookup (same_key k) o.records) ≡ true) (e : Entry) (there : lookup (same_key k) o.records ≡ Some e) (len : ℕ) (long : len ≡ column_length_in e col) where
  abbrev whole : List ℕ → List ℕ
  whole image = column_at image (entry_at o k) col

  length_is : (image : List ℕ) → IsOpenedAs image o → len ≡ length (whole image)
  length_is image opened = long ∙ ap (λ (x : Option Entry). column_length_in (entry_or_none x) col) (sym there) ∙ sym (column_long o k col image held opened)

  -- a column that is fetched at once, since it is short
  pub short_read : (r : Result (Vec ℕ) FetchFault) (told : Option (List ℕ)) → len ≤ 8 → ForSome told (λ image. IsOpenedAs image o)
      → IfOk r (λ bytes. IfSome told (λ image. IfSome (lookup (same_key k) o.records) (λ e. bytes.items ≡ column_at image e col)))
      → IfOk r (λ bytes. ForSome told (λ image. bytes.items ≡ read_of_delta (whole image)))
  short_read (Err f) told few opened h = tt
  short_read (Ok bytes) told few opened h = λ image is.
      let one : IfSome (Some image) (λ image. IfSome (lookup (same_key k) o.records) (λ e. bytes.items ≡ column_at image e col)) =
      subst (λ (t : Option (List ℕ)). IfSome t (λ image. IfSome (lookup (same_key k) o.records) (λ e. bytes.items ≡ column_at image e col))) is h in
      at_entry o k (λ e. bytes.items ≡ column_at image e col) held one
      ∙ sym (read_short (whole image) (omega (arith, few, length_is image (opened image is))))

  pub short_takes : (r : Result (Vec ℕ) FetchFault) (told : Option (List ℕ)) (before after : ℕ) → IfOk r (λ bytes. after ≡ taken_after (length bytes.items) before) → OnErr r (after ≡ before)
      → IfOk r (λ bytes. ForSome told (λ image. bytes.items ≡ read_of_delta (whole image))) → ForSome told (λ image. TakesOrFails r (length (read_of_delta (whole image))) before after)
  short_takes (Ok bytes) told before after taken none is image told_is = subst (λ n. Takes n before after) (ap length (is image told_is)) (takes_after (length bytes.items) before after taken)
  short_takes (Err f) told before after taken none is image told_is = omega (arith, none)

  module _ (offset : ℕ) (at : offset ≡ offset_in e col) (more : 8 < len) (image : List ℕ) (opened : IsOpenedAs image o) where
    whole_is : whole image ≡ take len (drop offset image)
    whole_is = sym (at_entry o k (λ e. take len (drop offset image) ≡ column_at image e col) held (column_read (Some image) o k col e offset len (take len (drop offset image)) there at long refl))

    front_is : (front : List ℕ) → length front ≡ 8 → IsRangeOf (Some image) offset front → front ≡ take 8 (whole image)
    front_is front short is =
        is ∙ range_is image offset (length front) ∙ ap (λ n. take n (drop offset image)) short
        ∙ sym (take-take 8 len (drop offset image) (omega (arith, more)))
        ∙ ap (take 8) (sym whole_is)

    -- the first bytes, whose counts do not fit, are what is read
    pub unfit_read : (front : List ℕ) → length front ≡ 8 → IsRangeOf (Some image) offset front → counts_fit front len ≡ false → front ≡ read_of_delta (whole image)
    unfit_read front short is unfit =
        let same = front_is front short is in
        same ∙ sym (read_is (whole image) front len false same (length_is image opened) unfit)

    -- where they fit, the whole column is
    pub fit_read : (front bytes : List ℕ) → length front ≡ 8 → IsRangeOf (Some image) offset front → counts_fit front len ≡ true → bytes ≡ take len (drop offset image) → bytes ≡ read_of_delta (whole image)
    fit_read front bytes short is fit all = all ∙ sym whole_is ∙ sym (read_is (whole image) front len true (front_is front short is) (length_is image opened) fit)

    pub fit_long : (front : List ℕ) → length front ≡ 8 → IsRangeOf (Some image) offset front → counts_fit front len ≡ true → length (read_of_delta (whole image)) ≡ len
    fit_long front short is fit = ap length (read_is (whole image) front len true (front_is front short is) (length_is image opened) fit) ∙ sym (length_is image opened)

    -- at least the first bytes are read
    pub least_read : 8 ≤ length (read_of_delta (whole image))
    least_read = front_least (whole image) (omega (arith, more, length_is image opened))
