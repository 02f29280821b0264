-- How reading goes on from segment to segment.
use Rattle.std.proofs.Common.{◌≡◌, ℕ, ◌+◌, ◌-◌, ◌≤◌, Bool, true, false, cond, List, [], take, drop, Option, Some, None, Result, Ok, Err, refl, sym, ap, subst, ◌∙◌, arith, length-take}
use Rattle.std.specs.Prelude.{◌≢◌, ◌==◌, ◌&&◌, not, IfOk, IfSome, OnOk, slice_index}
use Rattle.std.proofs.lemmas.Bool.{and_from, and_parts, eq-eqb, eqb-true, ne_eqb}
use Rattle.dg_disk.specs.Counts.{raised_by}
use Rattle.dg_disk.specs.Image.{IsLengthOf}
use Rattle.dg_history.specs.History.{is_wide}
use Rattle.dg_index.specs.OpenedIndex.{Damaged_at, Opening, Opened, bare, opening, directory_next, is_marked}
use Rattle.dg_index.specs.IndexGrowth.{columns_in, index_upgraded}
use Rattle.dg_index.specs.ImageText.{is_within, gate_behind, eight_at}
use Rattle.dg_index.specs.OpenedSoFar.{OpensOn}
use Rattle.dg_index.proofs.OpenedSoFar.{opens_first, opens_next, opens_closed, opens_damaged, opens_marked}
use Rattle.dg_file.specs.declared.fault.ReopenFault.{ReopenFault}
use Rattle.dg_segment.specs.declared.lengths.Lengths.{Lengths}
use Rattle.dg_file.specs.declared.reads.Found.{Found}
use Rattle.dg_segment.specs.declared.found.FoundDirectory.{FoundDirectory}
use Rattle.dg_file.specs.Headers.{IsFoundIn, Misses, IsOpenedSoFar}
use Rattle.dg_segment.specs.Directories.{are_marking, segment_lengths_at, fit_in, directory_due, TakesDirectory}
use Rattle.dg_file.specs.Images.{taken_after, RefusesOpening}
use Rattle.dg_file.specs.Index.{opening_bytes}
use Rattle.dg_file.specs.Invariant.{with_rows}
use Rattle.dg_segment.proofs.DirectoryTests.{due_short}
use Rattle.dg_file.proofs.ImageParts.{fit_facts}
use Rattle.dg_file.specs.declared.fault.ReopenFault.TheVariants as fault

-- ---- the header

pub begun : (x : Option (List ℕ)) (found : Found) (o : Opening) (names : List (List ℕ)) → 18 ≤ found.len → o ≡ (bare found.form found.params).index → names ≡ [] → IfSome x (λ image. IsFoundIn image found) → IfSome x (λ image. IsOpenedSoFar image o names found.gate)
begun None found o names long is none h = tt
begun (Some image) found o names long is none h =
    subst (λ (o : Opening). IsOpenedSoFar image o names found.gate) (sym is) (subst (λ (l : List (List ℕ)). IsOpenedSoFar image (bare found.form found.params).index l found.gate) (sym none)
    (record { opens = opens_first image (record { form = found.form; params = found.params }) h.there h.header; within = omega (arith, h.len, long); byte = sym h.gate }))

pub ended : (x : Option (List ℕ)) (o : Opening) (names : List (List ℕ)) (gate : ℕ) → gate ≢ 1 → IfSome x (λ image. IsOpenedSoFar image o names gate) → IfSome x (λ image. opening image ≡ Ok (record { index = o; names = names }))
ended None o names gate closed h = tt
ended (Some image) o names gate closed h = opens_closed image (record { index = o; names = names }) h.opens (ap (λ n. n == 1) h.byte ∙ ne_eqb gate 1 closed)

-- ---- a segment

next_is : (image : List ℕ) (x : Opened) → directory_next x image ≡ cond (not (is_within image x.index.used)) None (directory_due x (eight_at image (x.index.used + 8)) (take (eight_at image x.index.used) (drop (x.index.used + 16) image)))
next_is image x = refl

-- neither a marker nor a directory stands there
record Wrong (image : List ℕ) (x : Opened) : Type 0 where
  plain : is_marked x image ≡ false
  none : directory_next x image ≡ None

damaged : (image : List ℕ) (o : Opening) (names : List (List ℕ)) (f : ReopenFault) → IsOpenedSoFar image o names 1 → Misses o.used (Wrong image (record { index = o; names = names })) f → RefusesOpening f (opening image)
damaged image o names (fault.Damaged offset) h m = opens_damaged image (record { index = o; names = names }) h.opens h.within h.byte m.1.plain m.1.none ∙ ap (λ p. Err (Damaged_at p)) (sym m.0)
damaged image o names fault.Disk h m = tt
damaged image o names fault.Memory h m = tt
damaged image o names fault.Blank h m = absurd m
damaged image o names fault.Foreign h m = absurd m

no_event : (a b c d e : Bool) → e ≡ false → (a && (b && (c && (d && e)))) ≡ false
no_event false b c d e h = refl
no_event true false c d e h = refl
no_event true true false d e h = refl
no_event true true true false e h = refl
no_event true true true true e h = h

not_within : (a b c : Bool) → b ≡ false → (a && (b && c)) ≡ false
not_within true b c e = ap (λ b. b && c) e
not_within false b c e = refl

-- no room for the lengths, or none for what they tell
pub outside : (x : Option (List ℕ)) (o : Opening) (names : List (List ℕ)) (f : ReopenFault) → IfSome x (λ image. IsOpenedSoFar image o names 1) → IfSome x (λ image. Misses o.used (is_within image o.used ≡ false) f) → IfSome x (λ image. RefusesOpening f (opening image))
outside None o names f h m = tt
outside (Some image) o names f h m = damaged image o names f h (by f m)
  where
    by : (f : ReopenFault) → Misses o.used (is_within image o.used ≡ false) f → Misses o.used (Wrong image (record { index = o; names = names })) f
    by (fault.Damaged offset) m = (
      m.0,
      record {
        plain = not_within (not (is_wide o.form)) (is_within image o.used) _ m.1;
        none = ap (λ b. cond (not b) None (directory_due (record { index = o; names = names }) (eight_at image (o.used + 8)) (take (eight_at image o.used) (drop (o.used + 16) image)))) m.1;
      },
    )
    by fault.Disk m = tt
    by fault.Memory m = tt
    by fault.Blank m = absurd m
    by fault.Foreign m = absurd m

module _ (image : List ℕ) (x : Opened) (h : Lengths) (bytes : List ℕ) (is : h ≡ segment_lengths_at image x.index.used) (text : bytes ≡ take h.directory (drop (x.index.used + 16) image)) where
  due_same : directory_due x h.columns bytes ≡ directory_due x (eight_at image (x.index.used + 8)) (take (eight_at image x.index.used) (drop (x.index.used + 16) image))
  due_same = (λ i. directory_due x h.columns (text i)) ∙ ap (λ (l : Lengths). directory_due x l.columns (take l.directory (drop (x.index.used + 16) image))) is

  none_next : directory_due x h.columns bytes ≡ None → directory_next x image ≡ None
  none_next none = by (is_within image x.index.used)
    where
      by : (b : Bool) → cond (not b) None (directory_due x (eight_at image (x.index.used + 8)) (take (eight_at image x.index.used) (drop (x.index.used + 16) image))) ≡ None
      by true = sym due_same ∙ none
      by false = refl

-- the two lengths say that no marker stands there
plain_lengths : (a b c d : Bool) (e : Bool) → (a && (c && d)) ≡ false → (a && (b && (c && (d && e)))) ≡ false
plain_lengths false b c d e h = refl
plain_lengths true false c d e h = refl
plain_lengths true true false d e h = refl
plain_lengths true true true d e h = ap (λ b. b && e) h

unmarked : (image : List ℕ) (x : Opened) (h : Lengths) → h ≡ segment_lengths_at image x.index.used → (not (is_wide x.index.form) && are_marking h) ≡ false → is_marked x image ≡ false
unmarked image x h is other =
    plain_lengths (not (is_wide x.index.form)) (is_within image x.index.used) (eight_at image x.index.used == 8) (eight_at image (x.index.used + 8) == 0) (eight_at image (x.index.used + 16) == 0)
    (ap (λ (l : Lengths). not (is_wide x.index.form) && are_marking l) (sym is) ∙ other)

-- the directory may not stand there
pub broken : (x : Option (List ℕ)) (o : Opening) (names : List (List ℕ)) (offset : ℕ) (h : Lengths) (f : ReopenFault) → offset ≡ o.used → (not (is_wide o.form) && are_marking h) ≡ false → IfSome x (λ image. IsOpenedSoFar image o names 1) → IfSome x (λ image. h ≡ segment_lengths_at image offset)
    → IfSome x (λ image. Misses o.used (directory_due (record { index = o; names = names }) h.columns (take h.directory (drop (o.used + 16) image)) ≡ None) f) → IfSome x (λ image. RefusesOpening f (opening image))
broken None o names offset h f at other opened l m = tt
broken (Some image) o names offset h f at other opened l m = damaged image o names f opened (by f m)
  where
    by : (f : ReopenFault) → Misses o.used (directory_due (record { index = o; names = names }) h.columns (take h.directory (drop (o.used + 16) image)) ≡ None) f → Misses o.used (Wrong image (record { index = o; names = names })) f
    by (fault.Damaged offset) m =
        let y : Opened = record { index = o; names = names } in
        let is : h ≡ segment_lengths_at image o.used = subst (λ n. h ≡ segment_lengths_at image n) at l in (
          m.0,
          record {
            plain = unmarked image y h is other;
            none = none_next image y h (take h.directory (drop (o.used + 16) image)) is refl m.1;
          },
        )
    by fault.Disk m = tt
    by fault.Memory m = tt
    by fault.Blank m = absurd m
    by fault.Foreign m = absurd m

pub next_on : (x : Option (List ℕ)) (o : Opening) (names new : List (List ℕ)) (offset len gate : ℕ) (h : Lengths) (bytes : List ℕ) (f : FoundDirectory) → offset ≡ o.used → (not (is_wide o.form) && are_marking h) ≡ false → fit_in offset len h ≡ true → IfSome x (λ image. IsOpenedSoFar image o names 1) → IsLengthOf x len
    → IfSome x (λ image. h ≡ segment_lengths_at image offset) → IfSome x (λ image. bytes ≡ take h.directory (drop (offset + 16) image)) → TakesDirectory o h.columns bytes names new f → IfSome x (λ image. gate ≡ slice_index image (offset + 16 + h.directory + h.columns))
    → IfSome x (λ image. IsOpenedSoFar image (with_rows o f.batch f.rows.items (offset + 16 + h.directory) (offset + 16 + h.directory + h.columns + 1)) new gate)
next_on None o names new offset len gate h bytes f at other fits opened n l t takes g = tt
next_on (Some image) o names new offset len gate h bytes f at other fits opened n l t takes g =
    let y : Opened = record { index = o; names = names } in
    let is : h ≡ segment_lengths_at image o.used = subst (λ n. h ≡ segment_lengths_at image n) at l in
    let text : bytes ≡ take h.directory (drop (o.used + 16) image) = subst (λ n. bytes ≡ take h.directory (drop (n + 16) image)) at t in
    let facts = fit_facts offset len h fits in
    let within : is_within image o.used ≡ true = (λ i. fit_in (sym at i) (sym n i) (sym is i)) ∙ fits in
    let next : directory_next y image ≡ Some takes.directory = ap (λ b. cond (not b) None (directory_due y (eight_at image (o.used + 8)) (take (eight_at image o.used) (drop (o.used + 16) image)))) within ∙ sym (due_same image y h bytes is text) ∙ takes.due in
    let on = opens_next image y takes.directory opened.opens opened.within opened.byte (unmarked image y h is other) next in
    let d0 : h.directory ≡ eight_at image o.used = ap (λ (l : Lengths). l.directory) is in
    let d1 : h.columns ≡ eight_at image (o.used + 8) = ap (λ (l : Lengths). l.columns) is in
    let offset_is : o.used + 16 + eight_at image o.used ≡ offset + 16 + h.directory = omega (arith, at, d0) in
    let used_is : gate_behind image o.used + 1 ≡ offset + 16 + h.directory + h.columns + 1 = omega (arith, at, d0, d1) in
    record {
      opens = subst (OpensOn image) (λ i. record { index = with_rows o (sym takes.batch i) (sym takes.rows i) (offset_is i) (used_is i); names = sym takes.gained i }) on;
      within = omega (arith, facts.0, n);
      byte = ap (λ n. slice_index image n) (let e : offset + 16 + h.directory + h.columns + 1 - 1 ≡ offset + 16 + h.directory + h.columns = omega arith in e) ∙ sym g;
    }

-- ---- a marker

-- the number of events in a marker's place is not 0
pub no_events : (x : Option (List ℕ)) (o : Opening) (names : List (List ℕ)) (offset : ℕ) (h : Lengths) (f : ReopenFault) → offset ≡ o.used → are_marking h ≡ true → IfSome x (λ image. IsOpenedSoFar image o names 1) → IfSome x (λ image. h ≡ segment_lengths_at image offset)
    → IfSome x (λ image. Misses o.used (eight_at image (o.used + 16) ≢ 0) f) → IfSome x (λ image. RefusesOpening f (opening image))
no_events None o names offset h f at marks opened l m = tt
no_events (Some image) o names offset h f at marks opened l m = damaged image o names f opened (by f m)
  where
    y : Opened
    y = record { index = o; names = names }

    by : (f : ReopenFault) → Misses o.used (eight_at image (o.used + 16) ≢ 0) f → Misses o.used (Wrong image (record { index = o; names = names })) f
    by (fault.Damaged offset) m =
        let is : h ≡ segment_lengths_at image o.used = subst (λ n. h ≡ segment_lengths_at image n) at l in (
          m.0,
          record {
            plain = no_event (not (is_wide o.form)) (is_within image o.used) (eight_at image o.used == 8) (eight_at image (o.used + 8) == 0) _ (ne_eqb (eight_at image (o.used + 16)) 0 m.1);
            none = none_next image (record { index = o; names = names }) h (take h.directory (drop (o.used + 16) image)) is refl
                (due_short (record { index = o; names = names }) h.columns (take h.directory (drop (o.used + 16) image)) (omega (arith, length-take h.directory (drop (o.used + 16) image), eqb-true h.directory 8 (and_parts (h.directory == 8) _ marks).0)));
          },
        )
    by fault.Disk m = tt
    by fault.Memory m = tt
    by fault.Blank m = absurd m
    by fault.Foreign m = absurd m

-- behind a marker
pub marked_on : (x : Option (List ℕ)) (o : Opening) (names : List (List ℕ)) (offset len gate : ℕ) (h : Lengths) → offset ≡ o.used → (not (is_wide o.form) && are_marking h) ≡ true → fit_in offset len h ≡ true → IfSome x (λ image. IsOpenedSoFar image o names 1) → IsLengthOf x len
    → IfSome x (λ image. h ≡ segment_lengths_at image offset) → IfSome x (λ image. eight_at image (o.used + 16) ≡ 0) → IfSome x (λ image. gate ≡ slice_index image (o.used + 24))
    → IfSome x (λ image. IsOpenedSoFar image (index_upgraded o) names gate)
marked_on None o names offset len gate h at marks fits opened n l zero g = tt
marked_on (Some image) o names offset len gate h at marks fits opened n l zero g =
    let y : Opened = record { index = o; names = names } in
    let is : h ≡ segment_lengths_at image o.used = subst (λ n. h ≡ segment_lengths_at image n) at l in
    let facts = fit_facts offset len h fits in
    let within : is_within image o.used ≡ true = (λ i. fit_in (sym at i) (sym n i) (sym is i)) ∙ fits in
    let narrow = and_parts (not (is_wide o.form)) _ marks in
    let lengths = and_parts (h.directory == 8) _ narrow.1 in
    let d0 : h.directory ≡ eight_at image o.used = ap (λ (l : Lengths). l.directory) is in
    let d1 : h.columns ≡ eight_at image (o.used + 8) = ap (λ (l : Lengths). l.columns) is in
    let marked : is_marked y image ≡ true =
    and_from (not (is_wide o.form)) _ narrow.0 (and_from (is_within image o.used) _ within (and_from (eight_at image o.used == 8) _ (ap (λ n. n == 8) (sym d0) ∙ lengths.0)
    (and_from (eight_at image (o.used + 8) == 0) _ (ap (λ n. n == 0) (sym d1) ∙ lengths.1) (eq-eqb (eight_at image (o.used + 16)) 0 zero)))) in
    record {
      opens = opens_marked image y opened.opens opened.within opened.byte marked;
      within = omega (arith, facts.0, n, at, eqb-true h.directory 8 lengths.0);
      byte = ap (λ n. slice_index image n) (let e : o.used + 24 + 1 - 1 ≡ o.used + 24 = omega arith in e) ∙ sym g;
    }

-- what the lengths of a marker say
pub marks_narrow : (o : Opening) (h : Lengths) → (not (is_wide o.form) && are_marking h) ≡ true → (is_wide o.form ≡ false) × (are_marking h ≡ true) × (h.directory ≡ 8) × (h.columns ≡ 0)
marks_narrow o h marks =
    let parts = and_parts (not (is_wide o.form)) _ marks in
    let lengths = and_parts (h.directory == 8) _ parts.1 in
    (not_true (is_wide o.form) parts.0, parts.1, eqb-true h.directory 8 lengths.0, eqb-true h.columns 0 lengths.1)
  where
    not_true : (b : Bool) → not b ≡ true → b ≡ false
    not_true true e = absurd cc
    not_true false e = refl

pub marked_so_far : (r : Result ℕ ReopenFault) (x : Option (List ℕ)) (o new : Opening) (names : List (List ℕ)) (offset len : ℕ) (h : Lengths) → offset ≡ o.used → (not (is_wide o.form) && are_marking h) ≡ true → fit_in offset len h ≡ true → IfSome x (λ image. IsOpenedSoFar image o names 1)
    → IsLengthOf x len → IfSome x (λ image. h ≡ segment_lengths_at image offset) → OnOk r (new ≡ index_upgraded o) → OnOk r (IfSome x (λ image. eight_at image (o.used + 16) ≡ 0)) → IfOk r (λ gate. IfSome x (λ image. gate ≡ slice_index image (o.used + 24)))
    → IfOk r (λ gate. IfSome x (λ image. IsOpenedSoFar image new names gate))
marked_so_far (Ok gate) x o new names offset len h at marks fits opened n l upgraded zero byte =
    subst (λ (i : Opening). IfSome x (λ image. IsOpenedSoFar image i names gate)) (sym upgraded) (marked_on x o names offset len gate h at marks fits opened n l zero byte)
marked_so_far (Err e) x o new names offset len h at marks fits opened n l upgraded zero byte = tt

-- ---- what is read

raised_twice : (a b t : ℕ) → raised_by a (raised_by b t) ≡ raised_by (b + a) t
raised_twice a b t = omega arith

pub taken_next : (a b directory t start one two three : ℕ) → 1 ≤ directory → b ≡ a + 17 + directory → start ≡ raised_by a t → one ≡ raised_by 16 start → two ≡ taken_after directory one → three ≡ raised_by 1 two → three ≡ raised_by b t
taken_next a b directory t start one two three some is s o w h =
    let two_is : two ≡ raised_by directory one = w ∙ ap (λ c. cond c one (raised_by directory one)) (ne_eqb directory 0 (λ e. absurd (omega (arith, e, some)))) in
    omega (arith, is, s, o, two_is, h)

taken_marked : (a b t start one two : ℕ) → b ≡ a + 25 → start ≡ raised_by a t → one ≡ raised_by 16 start → two ≡ raised_by 9 one → two ≡ raised_by b t
taken_marked a b t start one two is s o w = omega (arith, is, s, o, w)

pub marked_taken : (r : Result ℕ ReopenFault) (o new : Opening) (start one two : ℕ) → columns_in o.records + 18 ≤ o.used → one ≡ raised_by 16 start → OnOk r (new ≡ index_upgraded o) → OnOk r (two ≡ raised_by 9 one)
    → OnOk r ((t : ℕ) → start ≡ raised_by (opening_bytes o) t → two ≡ raised_by (opening_bytes new) t)
marked_taken (Ok gate) o new start one two sound l upgraded w = λ t s.
    let all : opening_bytes new ≡ opening_bytes o + 25 = ap opening_bytes upgraded ∙ omega (arith, sound) in
    taken_marked (opening_bytes o) (opening_bytes new) t start one two all s l w
marked_taken (Err e) o new start one two sound l upgraded w = tt
