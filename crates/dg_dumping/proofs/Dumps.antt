-- What a dump comes to, by what its parts come to.
use Rattle.std.proofs.Common.{◌≡◌, ◌⊎◌, inl, inr, ℕ, ◌≤◌, Bool, true, false, List, [], ◌∷◌, ◌++◌, Option, Some, None, Result, Ok, Err, length, refl, sym, ◌∙◌, subst, arith}
use Rattle.std.specs.Prelude.{IfErr, IfSome}
use Rattle.dg_columns.specs.ColumnLaws.{AreBytes}
use Rattle.dg_disk.specs.declared.disk.Disk as disk
use Rattle.dg_disk.specs.Calls.{Fails}
use Rattle.dg_disk.specs.Counts.{Rose}
use Rattle.dg_dump.specs.ScriptOfHistory.{batches_lines, create_line, script_of, text_of_lines}
use Rattle.dg_dumping.specs.declared.status.DumpFault.{DumpFault}
use Rattle.dg_dumping.specs.declared.status.DumpFault.TheVariants as fault
use Rattle.dg_dumping.specs.declared.status.DumpStatus.{DumpStatus}
use Rattle.dg_dumping.specs.declared.status.DumpStatus.TheVariants as status
use Rattle.dg_dumping.specs.Dumped.{ComesTo, DumpedText, GainsPart, GainsScript, IsBadRecord, IsBefore, Refuses, Stops, is_refusal, is_unbegun}
use Rattle.dg_dumping.proofs.Batches.{some_line}
use Rattle.dg_history.specs.History.{History, names_of}
use Rattle.dg_index.specs.ImageOfHistory.{IsImageOf}
use Rattle.dg_index.specs.OpenedIndex.{Opened, opened_of, opening}
use Rattle.dg_index.proofs.OpenedIndexHistories.{images_are_opened}
use Rattle.dg_io.specs.declared.sink.Sink as sink
use Rattle.dg_io.specs.Told.{GrowsByPart, grown}
use Rattle.dg_io.proofs.ToldLemmas.{grown_nothing}
use Rattle.dg_sound.specs.declared.soundness.Soundness.{Soundness}
use Rattle.dg_sound.specs.declared.soundness.Soundness.TheVariants.{Sound, Unsound}
use Rattle.dg_sound.specs.Soundness.{soundness_of}
use Rattle.dg_sound_files.specs.SoundFiles.{SoundFilesStand, StandingFilesAreSound}
use Rattle.dg_spans.specs.Stretches.{WhereStands}
use Rattle.dg_start.proofs.EventSourceOutcomes.{if_told, of_told}

ok_or_err : {A E : Type 0} (r : Result A E) (x : A) (e : E) → r ≡ Ok x → r ≡ Err e → ⊥
ok_or_err r x e p q = cc

ok_same : {A E : Type 0} (x y : A) (r : Result A E) → r ≡ Ok x → r ≡ Ok y → x ≡ y
ok_same x y r p q = cc

not_both : (s : Soundness) (n : ℕ) (k : _) (col : _) → s ≡ Sound n → s ≡ Unsound k col → ⊥
not_both s n k col p q = cc

-- what follows of two facts of an error
pub both_of : {A E : Type 0} (r : Result A E) (P Q R : E → Type 0) → IfErr r P → IfErr r Q → ((y : E) → P y → Q y → R y) → IfErr r R
both_of (Ok a) P Q R p q f = tt
both_of (Err e) P Q R p q f = f e p q

-- an image that is found sound stands for a history
pub sound_stands : SoundFilesStand → (told : Option (List ℕ)) (x : Opened) → IfSome told (λ image. opening image ≡ Ok x) → (s : Soundness) → IfSome told (λ image. s ≡ soundness_of image x)
    → (n : ℕ) → s ≡ Sound n → IfSome told (λ image. AreBytes image → (z : History) × IsImageOf z image)
sound_stands law told x opened s found n is =
    if_told told (λ image. AreBytes image → (z : History) × IsImageOf z image)
    (λ image there bytes.
    let r = law image x n bytes (of_told told (λ image. opening image ≡ Ok x) image opened there) (sym (of_told told (λ image. s ≡ soundness_of image x) image found there) ∙ is) in
    (r.0, r.2))

-- nothing is a proper front of a script
pub no_script : (before : Option (List ℕ)) (z : History) → GrowsByPart before (script_of z) before
no_script before z =
    (0, some_line (create_line z.params) (text_of_lines (batches_lines (names_of z) z.batches)), sym (grown_nothing before))

-- a text is not written whole where it is written in part
pub gains_script : (t : DumpStatus) (before after : Option (List ℕ)) (due : List ℕ) → GainsPart t before due after → GainsScript t before due after
gains_script status.Done before after due h = absurd h
gains_script status.SinkFault before after due h = h
gains_script status.DiskFault before after due h = h
gains_script status.NoMemory before after due h = h
gains_script (status.Refused fault) before after due h = h
gains_script status.NoIndex before after due h = h

module _ (Gains : DumpStatus → Option (List ℕ) → List ℕ → Option (List ℕ) → Type 0) (due : History → List ℕ)
    {D K : Type 0} (d : disk.Ghosts D) (k : sink.Ghosts K) (checked : Bool) (old_disk now_disk : D) (old_sink : K) where
  -- an end before the first write
  module _ (sound : StandingFilesAreSound)
      (no_disk : (before : Option (List ℕ)) (z : History) → Gains status.DiskFault before (due z) before)
      (no_memory : (before : Option (List ℕ)) (z : History) → Gains status.NoMemory before (due z) before)
      (s : DumpStatus) (before : IsBefore s) (comes : IfSome (d.image old_disk) (ComesTo checked s)) where
    pub unopened_text : WhereStands (d.image old_disk) (λ z. Gains s (k.written old_sink) (due z) (k.written old_sink))
    unopened_text image is z h = by s before (of_told (d.image old_disk) (ComesTo checked s) image comes is)
      where
        opened : opening image ≡ Ok (opened_of z)
        opened = images_are_opened z image h

        by_fault : (f : DumpFault) → is_refusal f ≡ true → Refuses checked f image → ⊥
        by_fault fault.Foreign b r = ok_or_err (opening image) (opened_of z) _ opened r
        by_fault (fault.Damaged offset) b r = ok_or_err (opening image) (opened_of z) _ opened r
        by_fault (fault.BadRecord key col) b r = absurd cc
        by_fault (fault.Unsound key col) b r =
            not_both (soundness_of image (opened_of z)) _ key col (sound z image h).1
            (subst (λ (x : Opened). soundness_of image x ≡ Unsound key col) (ok_same r.0 (opened_of z) (opening image) r.2 opened) r.3)

        by : (s : DumpStatus) → IsBefore s → ComesTo checked s image → Gains s (k.written old_sink) (due z) (k.written old_sink)
        by status.Done b r = absurd b
        by status.SinkFault b r = absurd b
        by status.DiskFault b r = no_disk (k.written old_sink) z
        by status.NoMemory b r = no_memory (k.written old_sink) z
        by (status.Refused f) b r = absurd (by_fault f b r)
        by status.NoIndex b r = absurd (ok_or_err (opening image) (opened_of z) _ opened r)

    pub unopened : (s ≡ status.DiskFault → Fails d old_disk now_disk) → DumpedText Gains due d k checked s old_disk now_disk old_sink old_sink
    unopened cause = record {
      text = unopened_text;
      checked_first = λ asked. if_told (d.image old_disk) _ (λ image is bytes. inr refl);
      comes = comes;
      unbegun = λ e. refl;
      sink_fault = λ e. absurd (subst IsBefore e before);
      disk_fault = cause;
    }

  -- an end behind the opening
  module _ (x : Opened) (opened : IfSome (d.image old_disk) (λ image. opening image ≡ Ok x))
      (stands : checked ≡ true → IfSome (d.image old_disk) (λ image. AreBytes image → (z : History) × IsImageOf z image)) (now_sink : K) where
    standing : checked ≡ true → IfSome (d.image old_disk) (λ image. AreBytes image → ((z : History) × IsImageOf z image) ⊎ (now_sink ≡ old_sink))
    standing asked = if_told (d.image old_disk) _ (λ image is bytes. inl (of_told (d.image old_disk) (λ image. AreBytes image → (z : History) × IsImageOf z image) image (stands asked) is bytes))

    pub written : WhereStands (d.image old_disk) (λ z. Gains status.Done (k.written old_sink) (due z) (k.written now_sink)) → DumpedText Gains due d k checked status.Done old_disk now_disk old_sink now_sink
    written text = record {
      text = text;
      checked_first = standing;
      comes = if_told (d.image old_disk) _ (λ image is. (x, of_told (d.image old_disk) (λ image. opening image ≡ Ok x) image opened is));
      unbegun = λ e. absurd cc;
      sink_fault = λ e. absurd cc;
      disk_fault = λ e. absurd cc;
    }

    module _ (s : DumpStatus) (part : WhereStands (d.image old_disk) (λ z. Gains s (k.written old_sink) (due z) (k.written now_sink)))
        (stops : Stops d k x s old_disk now_disk old_sink now_sink) where
      refuses : (image : List ℕ) → opening image ≡ Ok x → (f : DumpFault) → IsBadRecord f image x → Refuses checked f image
      refuses image is fault.Foreign b = absurd b
      refuses image is (fault.Damaged offset) b = absurd b
      refuses image is (fault.BadRecord key col) b = (x, is, b)
      refuses image is (fault.Unsound key col) b = absurd b

      comes_to : (image : List ℕ) → d.image old_disk ≡ Some image → opening image ≡ Ok x → (t : DumpStatus) → s ≡ t → ComesTo checked t image
      comes_to image told is status.Done e = absurd (stops.done e)
      comes_to image told is status.SinkFault e = (x, is)
      comes_to image told is status.DiskFault e = tt
      comes_to image told is status.NoMemory e = tt
      comes_to image told is (status.Refused f) e = refuses image is f (stops.refused f e image told)
      comes_to image told is status.NoIndex e = absurd (stops.no_index e)

      begun : (t : DumpStatus) → s ≡ t → is_unbegun t ≡ true → ⊥
      begun status.Done e u = cc
      begun status.SinkFault e u = cc
      begun status.DiskFault e u = cc
      begun status.NoMemory e u = cc
      begun (status.Refused f) e u = (let no : is_refusal f ≡ false = stops.bad_record f e in cc)
      begun status.NoIndex e u = stops.no_index e

      pub cut_short : DumpedText Gains due d k checked s old_disk now_disk old_sink now_sink
      cut_short = record {
        text = part;
        checked_first = standing;
        comes = if_told (d.image old_disk) (ComesTo checked s) (λ image told. comes_to image told (of_told (d.image old_disk) (λ image. opening image ≡ Ok x) image opened told) s refl);
        unbegun = λ e. absurd (begun s refl e);
        sink_fault = stops.sink;
        disk_fault = stops.disk;
      }
