-- The outs are asked, one after another.
--     opened_as      whether what was opened is blank
--     Asked      an out was asked, and is blank
--     asked_at, fails_at, taken_at, asked_more      the next one is asked
--     all_blank, all_asked      all are asked
use Rattle.std.proofs.Common.{◌≡◌, ℕ, ◌+◌, ◌<◌, ◌≤◌, Bool, true, false, List, Option, Some, None, Result, Ok, Err, get_or, length, refl, sym, ap, subst, ◌∙◌, arith}
use Rattle.std.specs.Prelude.{IfSome, slice_get}
use Rattle.std.proofs.Math.ListN.{set}
use Rattle.std.proofs.lemmas.List.{get_or-set_same, length-set}
use Rattle.std.proofs.lemmas.Option.{IfSome_then, slice_get-get_or, slice_get_within}
use Rattle.dg_disk.specs.Calls.{Fails, SyncsDisk}
use Rattle.dg_disk.specs.declared.disk.Disk.{Ghosts}
use Rattle.dg_file.specs.declared.fault.ReopenFault.{ReopenFault}
use Rattle.dg_file.specs.declared.fault.ReopenFault.TheVariants as fault
use Rattle.dg_file.specs.Images.{RefusesOpening}
use Rattle.dg_file.proofs.ImageParts.{opened_blank}
use Rattle.dg_file.proofs.OpenedBytes.{blank_is}
use Rattle.dg_index.specs.ImageOfHistory.{is_blank}
use Rattle.dg_index.specs.OpenedIndex.{Damaged_at, No_index, Not_ours, Opened, Unopened, opening}
use Rattle.dg_splitting.specs.declared.status.SplitStatus.{SplitStatus}
use Rattle.dg_splitting.specs.declared.status.SplitStatus.TheVariants as status
use Rattle.dg_splitting.specs.Ends.{FailsOut, StopsAsking}
use Rattle.dg_splitting.specs.Outs.{AreAsked, AreBlank, IsBlank, IsFirstTaken, OneFails}
use Rattle.dg_splitting.proofs.OutLists.{IsUpTo, all_up_to, each_step, next_there, one_more, other_there}
use Rattle.dg_splitting.proofs.SplitEnds.{syncs_none}

-- ---- whether an image is blank

-- what is opened as anything but no index is not blank
not_blank : (image : List ℕ) (r : Result Opened Unopened) → opening image ≡ r → (r ≡ Err No_index → ⊥) → is_blank image ≡ false
not_blank image r is other = by (is_blank image) refl
  where
    by : (v : Bool) → is_blank image ≡ v → is_blank image ≡ false
    by true e = absurd (other (sym is ∙ opened_blank image e))
    by false e = e

pub opened_index : (told : Option (List ℕ)) (x : Opened) → IfSome told (λ image. opening image ≡ Ok x) → IfSome told (λ image. is_blank image ≡ false)
opened_index told x h = IfSome_then told h (λ image is. not_blank image (Ok x) is (λ e. cc))

pub opened_none : (told : Option (List ℕ)) (f : ReopenFault) → f ≡ fault.Blank → IfSome told (λ image. RefusesOpening f (opening image)) → IfSome told (λ image. is_blank image ≡ true)
opened_none told f is h =
    let none : IfSome told (λ image. opening image ≡ Err No_index) = subst (λ (f : ReopenFault). IfSome told (λ image. RefusesOpening f (opening image))) is h in
    IfSome_then told none (λ image e. blank_is image e)

pub opened_foreign : (told : Option (List ℕ)) (f : ReopenFault) → f ≡ fault.Foreign → IfSome told (λ image. RefusesOpening f (opening image)) → IfSome told (λ image. is_blank image ≡ false)
opened_foreign told f is h =
    let foreign : IfSome told (λ image. opening image ≡ Err Not_ours) = subst (λ (f : ReopenFault). IfSome told (λ image. RefusesOpening f (opening image))) is h in
    IfSome_then told foreign (λ image e. not_blank image (Err Not_ours) e (λ e. cc))

pub opened_damaged : (told : Option (List ℕ)) (f : ReopenFault) (offset : ℕ) → f ≡ fault.Damaged offset → IfSome told (λ image. RefusesOpening f (opening image)) → IfSome told (λ image. is_blank image ≡ false)
opened_damaged told f offset is h =
    let damaged : IfSome told (λ image. opening image ≡ Err (Damaged_at offset)) = subst (λ (f : ReopenFault). IfSome told (λ image. RefusesOpening f (opening image))) is h in
    IfSome_then told damaged (λ image e. not_blank image (Err (Damaged_at offset)) e (λ e. cc))

-- ---- one out after another

module _ {D : Type 0} (g : Ghosts D) where
  abbrev pub Asked : ℕ → D → D → Type 0
  Asked number old new = SyncsDisk g old new × IsBlank g old

  module _ (outs left : List D) (n : ℕ) (d new : D) (u : IsUpTo Asked outs left n) (within : n < length left) where
    -- the next one, as it was
    abbrev old : D
    old = get_or left n d

    was : slice_get outs n ≡ Some old
    was = next_there Asked outs left n d u within

    pub asked_at : SyncsDisk g old new → AreAsked g outs (set left n new)
    asked_at asked = each_step Asked (λ number a b. SyncsDisk g a b) outs left n old new u within was (λ number a b h. h.0) asked (λ number a late at. syncs_none g a)

    fails_at : Fails g old new → OneFails g outs (set left n new)
    fails_at failed =
        let lt : n < length (set left n new) = omega (arith, within, length-set left n new) in
        record {
          number = n;
          old = old;
          new = new;
          was = was;
          there = slice_get-get_or (set left n new) n new lt ∙ ap (λ (x : D). Some x) (get_or-set_same left n new new within);
          failed = failed;
        }

    pub stops_at : (s : SplitStatus) → FailsOut g s old new → StopsAsking g s outs (set left n new)
    stops_at status.Done h = absurd h
    stops_at status.DiskFault h = fails_at h
    stops_at status.NoMemory h = tt
    stops_at (status.Refused why) h = absurd h
    stops_at (status.Exists number) h = absurd h
    stops_at status.NoIndex h = absurd h
    stops_at (status.Full number needed) h = absurd h

    pub taken_at : length left ≡ length outs → (b : Bool) → b ≡ false → IfSome (g.image old) (λ image. is_blank image ≡ b) → IsFirstTaken g outs n
    taken_at long b is_no taken = record {
      out = old;
      there = was;
      taken = subst (λ v. IfSome (g.image old) (λ image. is_blank image ≡ v)) is_no taken;
      before = λ earlier blank lt at.
          let now = other_there outs left earlier blank long at in
          (u.front earlier blank now.0 lt at now.1).1;
    }

    pub asked_more : SyncsDisk g old new → (b : Bool) → b ≡ true → IfSome (g.image old) (λ image. is_blank image ≡ b) → IsUpTo Asked outs (set left n new) (n + 1)
    asked_more asked b is_yes blank = one_more Asked outs left n old new u within was (asked, subst (λ v. IfSome (g.image old) (λ image. is_blank image ≡ v)) is_yes blank)

  module _ (outs left : List D) (n : ℕ) (u : IsUpTo Asked outs left n) (long : length left ≡ length outs) (all : length outs ≤ n) where
    pub all_blank : AreBlank g outs
    all_blank number out at =
        let now = other_there outs left number out long at in
        (all_up_to Asked outs left n u all number out now.0 at now.1).1

    pub all_asked : AreAsked g outs left
    all_asked number old new at there = (all_up_to Asked outs left n u all number old new at there).0
