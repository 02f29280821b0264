-- A run over a blank index file and the script of a history makes the history.
use Rattle.std.proofs.Common.{◌≡◌, ◌≢◌, ℕ, zero, suc, ◌+◌, ◌<◌, ◌≤◌, Bool, true, false, List, [], ◌∷◌, ◌++◌, length, Option, Some, None, IfSome, refl, sym, ap, subst, ◌∙◌, ⊎_elim, arith}
use Rattle.std.specs.Prelude.{is_some, cond}
use Rattle.std.specs.List.{All}
use Rattle.std.specs.Option.{option_map}
use Rattle.std.proofs.lemmas.Bool.{false≢true}
use Rattle.std.proofs.lemmas.List.{append-nil}
use Rattle.std.proofs.lemmas.List.Elements.{All-cons, All-nil}
use Rattle.std.proofs.lemmas.List.Sums.{sum_by-cons}
use Rattle.dg_disk.specs.Calls.{LeftByCrash}
use Rattle.dg_disk.specs.Counts.{Rose as DiskRose, raised_by}
use Rattle.dg_disk.specs.declared.disk.Disk as disk
use Rattle.dg_dump.specs.DumpLaws.{HaveRoom, Makes, ScriptsAreShort, ScriptsMakeNothingElse, in_second_form}
use Rattle.dg_dump.specs.NamesOfLines.{NamesAreOfLines}
use Rattle.dg_dump.specs.ScriptOfHistory.{script_of}
use Rattle.dg_history.specs.declared.form.Form.TheVariants as form
use Rattle.dg_history.specs.History.{History, empty_history}
use Rattle.dg_history.specs.LegalHistory.{IsLegal}
use Rattle.dg_index.specs.FileOfHistory.{file}
use Rattle.dg_index.specs.ImageOfHistory.{IsImageOf, StandsAs}
use Rattle.dg_io.specs.declared.sink.Sink as sink
use Rattle.dg_io.specs.Told.{grown}
use Rattle.dg_file.specs.TidyImages.{IsJustFile}
use Rattle.dg_machine.specs.declared.limits.Limits.{Limits}
use Rattle.dg_machine.specs.declared.limits.TheConstants.{SCRIPT_BYTES_MAX}
use Rattle.dg_machine.specs.Answer.{Answered, store_read}
use Rattle.dg_machine.specs.MachineLaws.{IsFree}
use Rattle.dg_machine.specs.MachineState.{MachineState, machine_at}
use Rattle.dg_machine.specs.Run.{Run, failed_reads, is_store_read, last_state}
use Rattle.dg_machine.specs.Script.{Entry, script}
use Rattle.dg_run.specs.declared.status.Status.{Status}
use Rattle.dg_run.specs.declared.status.Status.TheVariants as status
use Rattle.dg_run.specs.Outside.{Outside}
use Rattle.dg_run.specs.Promised.{Completes, Promised}
use Rattle.dg_run.specs.Served.{Cut_off, Kept, Remains, Served}
use Rattle.dg_dump_law.specs.ScriptLoads.{DumpsLoadBack, IsBlank, IsMade, Loads, NoneFailsToRead, NoneLacksMemory, ScriptsLoad}

-- ---- what is told

-- what holds where something is told holds of what is told
pub told_fact : {A : Type 0} (o : Option A) (x : A) (P : A → Type 0) → o ≡ Some x → IfSome o P → P x
told_fact o x P is fact = subst (λ (o : Option _). IfSome o P) is fact

-- what tells as much as something that tells is told
pub still_told : {A B : Type 0} (o : Option A) (p : Option B) (y : B) → p ≡ Some y → is_some o ≡ is_some p → (x : A) × (o ≡ Some x)
still_told None p y is same = absurd (false≢true (same ∙ ap is_some is))
still_told (Some x) p y is same = (x, refl)

-- ---- the entries and the replies of a run

-- where the run has answered all that is left of the script, its entries are those of the script
entries_are : (left : Option (List ℕ)) (text : List ℕ) (entries : List Entry) (more : Option (List Entry)) → left ≡ Some text
    → option_map script left ≡ option_map (λ rest. entries ++ rest) more → IfSome more (λ rest. rest ≡ []) → entries ≡ script text
entries_are left text entries None is front whole =
    let none : Some (script text) ≡ None = sym (ap (option_map script) is) ∙ front in absurd (cc)
entries_are left text entries (Some rest) is front whole =
    let same : Some (script text) ≡ Some (entries ++ rest) = sym (ap (option_map script) is) ∙ front in
    let all : script text ≡ entries ++ rest = cc in
    sym (all ∙ ap (λ (rest : List Entry). entries ++ rest) whole ∙ append-nil entries)

none_free : (answers : List Answered) → NoneLacksMemory answers → NoneFailsToRead answers → All (λ (a : Answered). IsFree a.reply → ⊥) answers
none_free answers memory read = λ k d lt free. ⊎_elim (memory k d lt) (read k d lt) free

-- ---- failed reads

not_counted : (b : Bool) (n : ℕ) → cond b 1 0 + n ≡ 0 → (b ≡ false) × (n ≡ 0)
not_counted true n e = absurd (omega (arith, e))
not_counted false n e = (refl, omega (arith, e))

none_says : (answers : List Answered) → failed_reads answers ≡ 0 → NoneFailsToRead answers
none_says [] none = All-nil (λ (a : Answered). a.reply ≡ store_read → ⊥)
none_says (a ∷ answers) none =
    let parts = not_counted (is_store_read a.reply) (failed_reads answers) (sym (sum_by-cons (λ (a : Answered). cond (is_store_read a.reply) 1 0) a answers) ∙ none) in
    All-cons (λ (a : Answered). a.reply ≡ store_read → ⊥) a answers
    (λ is. false≢true (sym parts.0 ∙ ap is_store_read is)) (none_says answers parts.1)

-- a count that has not risen counts none
none_rose : (n before after : ℕ) → raised_by (n + 0) before ≤ after → (DiskRose before after → ⊥) → n ≡ 0
none_rose zero before after failed never = refl
none_rose (suc n) before after failed never = absurd (never (omega (arith, failed)))

-- ---- the image

-- where the disk did not fail, what remains stands for the index
pub remains_standing : (s : Status) (m : MachineState) (more : Option (List Entry)) (start now : Outside) (image : List ℕ) → s ≢ status.DiskFault
    → Remains s m more start now image → StandsAs m.index image
remains_standing s m more start now image whole (Kept stands untouched) = stands
remains_standing s m more start now image whole (Cut_off e rest before fault entries stands blank cut) = absurd (whole fault)

-- ---- a run that ended done

module _ (nothing_else : ScriptsMakeNothingElse) (limits : Limits) (are_written are_checked : Bool) (start now : Outside) (crashes : (List ℕ → List ℕ → Type 0) → Type 0)
    (p : Promised limits are_written are_checked status.Done start now crashes) (z : History) (legal : IsLegal z) (names : NamesAreOfLines z)
    (room : HaveRoom limits (empty_history form.Two z.params) z.batches) (blank : IsBlank start) (left : start.left ≡ Some (script_of z)) where
  served : Served (machine_at limits None) status.Done start now crashes
  served = (told_fact start.image blank.image _ blank.told p.served None blank.blank).0

  whole_run : Run (machine_at limits None) (script (script_of z)) served.answers
  whole_run =
      subst (λ (entries : List Entry). Run (machine_at limits None) entries served.answers)
      (entries_are start.left (script_of z) served.entries served.more left served.front (served.whole refl)) served.run

  whole : status.Done ≢ status.DiskFault
  whole same = absurd (cc)

  made : NoneLacksMemory served.answers → NoneFailsToRead served.answers → IsMade (in_second_form z) served.answers now
  made memory read =
      let makes : Makes limits z served.answers = nothing_else limits z legal names room served.answers whole_run (none_free served.answers memory read) in
      let ends : (last_state (machine_at limits None) served.answers).index ≡ Some (in_second_form z) = ap (λ (m : MachineState). m.index) makes.ends in
      let final = still_told now.image start.image blank.image blank.told p.told in
      let exact = told_fact start.image blank.image _ blank.told (p.exact whole) None blank.blank served
      (subst (λ (o : Option (List ℕ)). IfSome o (IsJustFile None)) (sym blank.told) blank.blank) in
      let just : final.0 ≡ file (in_second_form z) ++ 0 ∷ [] =
      subst (λ (o : Option History). IsJustFile o final.0) ends
      (told_fact now.image final.0 (IsJustFile (last_state (machine_at limits None) served.answers).index) final.1 exact) in
      let stands : IsImageOf (in_second_form z) final.0 =
      subst (λ (o : Option History). StandsAs o final.0) ends
      (remains_standing status.Done (last_state (machine_at limits None) served.answers) served.more start now final.0 whole (told_fact now.image final.0 _ final.1 served.stands)) in
      record {
        ok = makes.ok;
        image = final.1 ∙ ap (λ (bytes : List ℕ). Some bytes) just;
        stands = subst (IsImageOf (in_second_form z)) just stands;
      }

  loads : Loads limits z start now
  loads = record {
    answers = served.answers;
    run = whole_run;
    gained = served.gained;
    read = λ never. none_says served.answers (none_rose (failed_reads served.answers) start.disk_faults now.disk_faults served.failed never);
    made = made;
  }

-- ---- any run

shorter : (a b c : ℕ) → a < b → b ≤ c → a < c
shorter a b c less most = omega (arith, less, most)

pub scripts_load : {D : Type 0} (d : disk.Ghosts D) → ScriptsMakeNothingElse → ScriptsAreShort → ScriptsLoad d
scripts_load d nothing_else short limits are_written are_checked s start now before after p z legal names room blank left = record {
  done = λ is.
      loads nothing_else limits are_written are_checked start now (LeftByCrash d before after)
      (subst (λ (s : Status). Promised limits are_written are_checked s start now (LeftByCrash d before after)) is p) z legal names room blank left;
  ends = λ written standard none.
      let completes : Completes limits s (script_of z) =
      told_fact start.left (script_of z) (Completes limits s) left
      (told_fact start.image blank.image _ blank.told (p.completes written none) None blank.blank) in
      completes.short (shorter (length (script_of z)) SCRIPT_BYTES_MAX limits.script_bytes (short z legal) standard);
}

pub dumps_load_back : {C K D : Type 0} (c : disk.Ghosts C) (k : sink.Ghosts K) (d : disk.Ghosts D) → ScriptsLoad d → DumpsLoadBack c k d
dumps_load_back c k d load checked old_disk now_disk old_sink now_sink dumped empty z image told is limits names room are_written are_checked s start now before after p blank left =
    load limits are_written are_checked s start now before after p z is.legal names room blank
    (left ∙ dumped.text image told z is ∙ ap (λ (o : Option (List ℕ)). grown o (script_of z)) empty)
