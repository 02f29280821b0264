-- Each run keeps an index file one whose history is made again by its script.
use Rattle.std.proofs.Common.{◌≡◌, ◌≢◌, ℕ, ◌≤◌, Bool, true, cond, List, [], ◌∷◌, ◌++◌, length, Option, Some, None, Result, Ok, Err, IfSome, refl, sym, ap, subst, ◌∙◌}
use Rattle.std.specs.Option.{option_map}
use Rattle.dg_disk.specs.Calls.{LeftByCrash}
use Rattle.dg_disk.specs.declared.disk.Disk as disk
use Rattle.dg_dump.specs.DumpLaws.{AnswersKeepRemade, IsRemade, in_second_form}
use Rattle.dg_dumping.specs.Dumped.{Dumped}
use Rattle.dg_dumping.specs.declared.status.DumpStatus.TheVariants as dump_status
use Rattle.dg_file.specs.TidyImages.{IsJustFile}
use Rattle.dg_history.specs.History.{History}
use Rattle.dg_history.specs.LegalHistory.{IsLegal}
use Rattle.dg_index.specs.FileOfHistory.{file}
use Rattle.dg_index.specs.ImageOfHistory.{StandsAs, is_blank}
use Rattle.dg_index.specs.ImageText.{header_in}
use Rattle.dg_index.specs.OpenedIndex.{No_index, Opened, Unopened, opened_by, opening}
use Rattle.dg_io.specs.declared.sink.Sink as sink
use Rattle.dg_machine.specs.declared.command.Command.{Command}
use Rattle.dg_machine.specs.declared.command.Command.TheVariants as command
use Rattle.dg_machine.specs.declared.limits.Limits.{Limits}
use Rattle.dg_machine.specs.declared.reply.Reply.{Reply}
use Rattle.dg_machine.specs.Answer.{Answered, answer}
use Rattle.dg_machine.specs.MachineState.{IsWithin, MachineState, machine_at}
use Rattle.dg_machine.specs.Needs.{following}
use Rattle.dg_machine.specs.Planning.{Planned}
use Rattle.dg_machine.specs.Run.{Answers, Fails_to_read, Lacks_memory, Leaves_grammar, Run, Step, Too_long, last_state}
use Rattle.dg_machine.specs.Script.{Entry, script}
use Rattle.dg_run.specs.declared.status.Status.{Status}
use Rattle.dg_run.specs.declared.status.Status.TheVariants as status
use Rattle.dg_run.specs.Outside.{Outside}
use Rattle.dg_run.specs.Promised.{Promised}
use Rattle.dg_run.specs.Served.{Served}
use Rattle.dg_text.specs.Lines.{ScriptLine}
use Rattle.dg_dump_law.specs.OwnFiles.{IsOwnFile, OwnFilesReturn, Returns, RunsKeepOwnFiles}
use Rattle.dg_dump_law.specs.ScriptLoads.{DumpsLoadBack, IsBlank}
use Rattle.dg_dump_law.proofs.BatchCounts.{AreOfScript, CountsBatch, IsOfScript, front_all, script_fits}
use Rattle.dg_dump_law.proofs.LegalAnswers.{IsKept, answer_index, answer_legal, answer_limits}
use Rattle.dg_dump_law.proofs.LoadedScripts.{remains_standing, still_told, told_fact}

-- a legal history that its script makes again, or no index
abbrev IsOwn : Limits → Option History → Type 0
IsOwn limits index = IfSome index (λ z. IsLegal z × IsRemade limits z)

own_kept : (limits : Limits) (index : Option History) → IsOwn limits index → IsKept index
own_kept limits None own = tt
own_kept limits (Some z) own = (own.0, own.1.second)

own_remade : (limits : Limits) (index : Option History) → IsOwn limits index → IfSome index (IsRemade limits)
own_remade limits None own = tt
own_remade limits (Some z) own = own.1

own_from : (limits : Limits) (index : Option History) → IsKept index → IfSome index (IsRemade limits) → IsOwn limits index
own_from limits None kept remade = tt
own_from limits (Some z) kept remade = (kept.0, remade)

-- ---- a step

module _ (law : AnswersKeepRemade) where
  still_remade : (m : MachineState) (c : Command) (lines : List ScriptLine) (p : Planned) → IsOwn m.limits m.index → CountsBatch c → length lines ≤ following c
      → IfSome (answer m c lines p).state.index (IsRemade m.limits)
  still_remade m (command.Create l k f) lines p own count most = law m (command.Create l k f) lines p most tt own
  still_remade m (command.CreateSkewed l k r) lines p own count most = law m (command.CreateSkewed l k r) lines p most tt own
  still_remade m command.Upgrade lines p own count most = law m command.Upgrade lines p most tt own
  still_remade m (command.Load n) lines p own count most = law m (command.Load n) lines p most count own
  still_remade m (command.Append n) lines p own count most = law m (command.Append n) lines p most count own
  still_remade m (command.Workload seed n) lines p own count most = law m (command.Workload seed n) lines p most count own
  still_remade m c lines p own count most =
      subst (λ (index : Option History). IfSome index (IsRemade m.limits)) (sym (answer_index m c lines p refl)) (own_remade m.limits m.index own)

  step_keeps : (m k : MachineState) (e : Entry) (r : Reply) → IsWithin m.limits → IsOwn m.limits m.index → IsOfScript e → Step m e r k
      → (k.limits ≡ m.limits) × IsOwn m.limits k.index
  step_keeps m k e r within own fits (Answers c lines p x) = (
    answer_limits m c lines p,
    own_from m.limits (answer m c lines p).state.index (answer_legal m c lines p within (own_kept m.limits m.index own) fits.0 fits.1)
        (still_remade m c lines p own fits.0 fits.1),
  )
  step_keeps m k e r within own fits (Lacks_memory c lines t) = (refl, own)
  step_keeps m k e r within own fits (Fails_to_read c lines t) = (refl, own)
  step_keeps m k e r within own fits (Leaves_grammar line column x) = (refl, own)
  step_keeps m k e r within own fits Too_long = (refl, own)

  -- ---- a run

  run_keeps : (limits : Limits) → IsWithin limits → (m : MachineState) (entries : List Entry) (answers : List Answered) → m.limits ≡ limits → IsOwn limits m.index
      → AreOfScript entries → Run m entries answers → IsOwn limits (last_state m answers).index
  run_keeps limits within m [] [] same own fits run = own
  run_keeps limits within m [] (a ∷ answers) same own fits run = absurd run
  run_keeps limits within m (e ∷ entries) [] same own fits run = absurd run
  run_keeps limits within m (e ∷ entries) (a ∷ answers) same own fits run =
      let step = step_keeps m a.state e a.reply (subst IsWithin (sym same) within) (subst (λ (l : Limits). IsOwn l m.index) (sym same) own) fits.0 run.0 in
      run_keeps limits within a.state entries answers (step.0 ∙ same) (subst (λ (l : Limits). IsOwn l a.state.index) same step.1) fits.1 run.1

-- the entries that were answered are of a script
taken_fit : (left : Option (List ℕ)) (text : List ℕ) (entries : List Entry) (more : Option (List Entry)) → left ≡ Some text
    → option_map script left ≡ option_map (λ rest. entries ++ rest) more → AreOfScript entries
taken_fit left text entries None is front =
    let none : Some (script text) ≡ None = sym (ap (option_map script) is) ∙ front in absurd (cc)
taken_fit left text entries (Some rest) is front =
    let same : Some (script text) ≡ Some (entries ++ rest) = sym (ap (option_map script) is) ∙ front in
    let all : script text ≡ entries ++ rest = cc in
    front_all entries rest (subst AreOfScript all (script_fits text))

-- ---- the index file

own_at : (limits : Limits) (index : Option History) (bytes : List ℕ) → StandsAs index bytes → IfSome index (IsRemade limits) → IsOwn limits index
own_at limits None bytes stands remade = tt
own_at limits (Some z) bytes stands remade = (stands.legal, remade)

run_owns : AnswersKeepRemade → (limits : Limits) → IsWithin limits → (are_written are_checked : Bool) (s : Status) (start now : Outside) (crashes : (List ℕ → List ℕ → Type 0) → Type 0)
    → Promised limits are_written are_checked s start now crashes
    → (text : List ℕ) → start.left ≡ Some text → IsOwnFile limits start.image → s ≢ status.DiskFault → IsOwnFile limits now.image
run_owns law limits within are_written are_checked s start now crashes p text left own whole =
    let served : Served (machine_at limits own.index) s start now crashes = (told_fact start.image own.bytes _ own.image p.served own.index own.stands).0 in
    let last : MachineState = last_state (machine_at limits own.index) served.answers in
    let kept : IsOwn limits last.index =
    run_keeps law limits within (machine_at limits own.index) served.entries served.answers refl (own_at limits own.index own.bytes own.stands own.remade)
    (taken_fit start.left text served.entries served.more left served.front) served.run in
    let final = still_told now.image start.image own.bytes own.image p.told in
    let exact = told_fact start.image own.bytes _ own.image (p.exact whole) own.index own.stands served
    (subst (λ (o : Option (List ℕ)). IfSome o (IsJustFile own.index)) (sym own.image) own.just) in
    record {
      index = last.index;
      bytes = final.0;
      image = final.1;
      just = told_fact now.image final.0 (IsJustFile last.index) final.1 exact;
      stands = remains_standing s last served.more start now final.0 whole (told_fact now.image final.0 _ final.1 served.stands);
      remade = own_remade limits last.index kept;
    }

pub runs_keep : {D : Type 0} (d : disk.Ghosts D) → AnswersKeepRemade → RunsKeepOwnFiles d
runs_keep d law = record {
  blank = λ limits bytes blank. record { index = None; bytes = bytes; image = refl; just = blank; stands = blank; remade = tt };
  run = λ limits within are_written are_checked s start now before after. run_owns law limits within are_written are_checked s start now (LeftByCrash d before after);
}

-- ---- a dump of such a file

blank_opens : (image : List ℕ) (x : Opened) → is_blank image ≡ true → opening image ≡ Ok x → ⊥
blank_opens image x blank e =
    let none : opening image ≡ Err No_index = ap (λ b. cond b (Err No_index) (opened_by image (header_in image))) blank in
    let same : ◌≡◌ {A = Result Opened Unopened} (Err No_index) (Ok x) = sym none ∙ e in cc

module _ {C K D : Type 0} (c : disk.Ghosts C) (k : sink.Ghosts K) (d : disk.Ghosts D) (back : DumpsLoadBack c k d) (checked : Bool) (old_disk now_disk : C) (old_sink now_sink : K)
    (dumped : Dumped c k checked dump_status.Done old_disk now_disk old_sink now_sink) (empty : k.written old_sink ≡ Some []) (limits : Limits)
    (are_written are_checked : Bool) (s : Status) (start now : Outside) (before after : D)
    (p : Promised limits are_written are_checked s start now (LeftByCrash d before after)) (blank : IsBlank start) (left : start.left ≡ k.written now_sink) where
  returns : (index : Option History) (bytes : List ℕ) → c.image old_disk ≡ Some bytes → IsJustFile index bytes → StandsAs index bytes → IfSome index (IsRemade limits)
      → Returns limits are_written (c.image old_disk) s start now
  returns None bytes image just stands remade =
      let opened = told_fact (c.image old_disk) bytes _ image dumped.comes in
      absurd (blank_opens bytes opened.0 stands opened.1)
  returns (Some z) bytes image just stands remade =
      let same : in_second_form z ≡ z = λ i. record z { form = sym remade.second i } in
      record {
        history = z;
        comes = back checked old_disk now_disk old_sink now_sink dumped empty z bytes image stands limits remade.names remade.room are_written are_checked s start now before after p blank left;
        same = λ answers made. made.image ∙ ap (λ (z : History). Some (file z ++ 0 ∷ [])) same ∙ ap (λ (bytes : List ℕ). Some bytes) (sym just) ∙ sym image;
      }

pub own_files_return : {C K D : Type 0} (c : disk.Ghosts C) (k : sink.Ghosts K) (d : disk.Ghosts D) → DumpsLoadBack c k d → OwnFilesReturn c k d
own_files_return c k d back checked old_disk now_disk old_sink now_sink dumped empty limits own are_written are_checked s start now before after p blank left =
    returns c k d back checked old_disk now_disk old_sink now_sink dumped empty limits are_written are_checked s start now before after p blank left
    own.index own.bytes own.image own.just own.stands own.remade
