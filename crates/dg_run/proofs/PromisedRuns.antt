-- The promise of the program: where the words are wrong, where no session begins, and where one does.
use Rattle.std.proofs.Common.{◌≡◌, ℕ, ◌+◌, ◌<◌, ◌≤◌, arith, ◌⊎◌, inl, inr, Bool, true, false, List, ◌++◌, Option, IfSome, Ok, Err, length, is_some, refl, sym, ◌∙◌, ap, subst}
use Rattle.std.specs.Option.{option_map}
use Rattle.dg_disk.specs.Counts.{Rose as DiskRose}
use Rattle.dg_columns.specs.ColumnLaws.{AreBytes}
use Rattle.dg_session.specs.declared.session_fault.SessionFault.{SessionFault}
use Rattle.dg_session.specs.declared.session_fault.SessionFault.TheVariants.{Start}
use Rattle.dg_session.specs.SessionStart.{Begins, BeginsAreDetermined, IsStanding, RefusesSession}
use Rattle.dg_start.specs.declared.fault.StartFault.TheVariants as fault
use Rattle.dg_history.specs.History.{History}
use Rattle.dg_fold.specs.BytesRead.{Takes}
use Rattle.dg_index.specs.ImageOfHistory.{IsImageOf, StandsAs}
use Rattle.dg_index.specs.OpenedIndex.{opened_of}
use Rattle.dg_start.specs.Calls.{TakesStart}
use Rattle.dg_start.specs.SessionStart.{PlansLastLeaf, start_bytes, started_with}
use Rattle.dg_machine.specs.declared.limits.Limits.{Limits}
use Rattle.dg_io.specs.Told.{CountRose, Gives}
use Rattle.dg_machine.specs.MachineState.{machine_at}
use Rattle.dg_machine.specs.Run.{last_state, texts_of}
use Rattle.dg_machine.specs.Script.{script}
use Rattle.dg_session.specs.Parts.{Parts}
use Rattle.dg_session.specs.Session.{HoldsImage, StandsFor}
use Rattle.dg_run.specs.declared.status.Status.{Status}
use Rattle.dg_run.specs.declared.status.Status.TheVariants as status
use Rattle.dg_run.specs.Outside.{Outside, IsUntouched}
use Rattle.dg_run.specs.Promised.{Completes, Promised, WhereItStands}
use Rattle.dg_run.specs.GainedReplies.{GainsReplies, names_told}
use Rattle.dg_run.specs.RunWeights.{IsOpening, OpensBy, ReadsNoMore}
use Rattle.dg_run.specs.Served.{Gained, LeftInRun, Remains, Served, TakenFrom}
use Rattle.dg_run.proofs.RunWeights.{opening_takes, takes_both}
use Rattle.dg_run.specs.Statuses.{ending_of, is_unbegun, IsBegun}
use Rattle.dg_run.specs.Turns.{ScriptAnswered}
use Rattle.dg_run.proofs.CrashRuns.{Leads, Stays, in_run_first}
use Rattle.dg_file.specs.TidyImages.{StaysTidy}
use Rattle.dg_run.proofs.ExactRuns.{leaves_just, same_just}
use Rattle.dg_run.proofs.PromisedEnds.{completes_of}
use Rattle.dg_run.proofs.ServedRuns.{at_some, ended_faults, grown-nil, if_some, left_from, remains_from, served_nothing}
use Rattle.dg_run.proofs.WrittenReplies.{names_held, none_gained, replies_from}
use Rattle.dg_run.proofs.StatusStarts.{EndsFor, where_some, ends_for, unbegun, unbegun_gains, untouched_end, disk_failed, lies, refused_so, ends_so, never_so, begins_ok}

untouched_here : (start : Outside) → IsUntouched start start
untouched_here start = record { left = refl; source_faults = refl; written = refl; sink_faults = refl; image = refl }

-- what is left of an image, where the run did not begin
abbrev pub IsLeft : Status → Outside → Outside → List ℕ → Type 0
IsLeft s start now image = AreBytes image → IsStanding image ⊎ (IsUntouched start now × ((is_unbegun s ≡ true) ⊎ (s ≡ status.DiskFault)))

-- such an end cuts no script
uncut_words : (status.Words ≡ status.SourceFault) ⊎ (status.Words ≡ status.ScriptLimit) → ⊥
uncut_words (inl e) = cc
uncut_words (inr e) = cc

uncut_nomemory : (status.NoMemory ≡ status.SourceFault) ⊎ (status.NoMemory ≡ status.ScriptLimit) → ⊥
uncut_nomemory (inl e) = cc
uncut_nomemory (inr e) = cc

either : (A B : Type 0) → (A → ⊥) → (B → ⊥) → A ⊎ B → ⊥
either A B a b (inl x) = a x
either A B a b (inr x) = b x

-- the words are not of the written form
words_promise : (limits : Limits) (checked : Bool) (start : Outside) (crashes : (List ℕ → List ℕ → Type 0) → Type 0) → Stays start.image crashes → Promised limits false checked status.Words start start crashes
words_promise limits checked start crashes stays = record {
  served = if_some start.image (λ x. (index : Option History) → StandsAs index x → (x : Served (machine_at limits index) status.Words start start crashes) × ReadsNoMore (OpensBy checked index start.image) x)
      (λ x is index stands. served_nothing status.Words (machine_at limits index) (OpensBy checked index start.image) start start x crashes is stands (untouched_here start) stays (λ e. cc) (λ nil. nil) (omega arith) uncut_words (λ n opened. omega arith));
  exact = λ other. same_just limits status.Words start start crashes other refl;
  replies = none_gained status.Words (names_told start.image) start.written start.written (grown-nil start.written);
  checked = λ e. if_some start.image (IsLeft status.Words start start) (λ x is bytes. inr (untouched_here start, inl refl));
  told = refl;
  words = λ e. refl;
  wrong_words = λ e. inl refl;
  words_untouched = λ e. refl;
  unbegun = λ e. untouched_here start;
  done = λ e. cc;
  source_fault = λ e. cc;
  sink_fault = λ e. cc;
  disk_fault = λ e. cc;
  script_limit = λ e. cc;
  refused = λ f e. cc;
  never_refused = if_some start.image (λ x. (index : Option History) → StandsAs index x → (f : SessionFault) → status.Words ≡ status.Refused f → ⊥) (λ x is index stands f e. cc);
  refuses = λ good. absurd (cc);
  start_reads = λ off e. cc;
  completes = λ good. absurd (cc);
}

pub bad_words : (limits : Limits) (are_written checked : Bool) (start : Outside) (crashes : (List ℕ → List ℕ → Type 0) → Type 0) → Stays start.image crashes → are_written ≡ false
    → Promised limits are_written checked status.Words start start crashes
bad_words limits are_written checked start crashes stays is = subst (λ (b : Bool). Promised limits b checked status.Words start start crashes) (sym is) (words_promise limits checked start crashes stays)

-- there was no memory to read the words
pub unread_words : (limits : Limits) (are_written checked : Bool) (start : Outside) (crashes : (List ℕ → List ℕ → Type 0) → Type 0) → Stays start.image crashes → Promised limits are_written checked status.NoMemory start start crashes
unread_words limits are_written checked start crashes stays = record {
  served = if_some start.image (λ x. (index : Option History) → StandsAs index x → (x : Served (machine_at limits index) status.NoMemory start start crashes) × ReadsNoMore (OpensBy checked index start.image) x)
      (λ x is index stands. served_nothing status.NoMemory (machine_at limits index) (OpensBy checked index start.image) start start x crashes is stands (untouched_here start) stays (λ e. cc) (λ nil. nil) (omega arith) uncut_nomemory (λ n opened. omega arith));
  exact = λ other. same_just limits status.NoMemory start start crashes other refl;
  replies = none_gained status.NoMemory (names_told start.image) start.written start.written (grown-nil start.written);
  checked = λ e. if_some start.image (IsLeft status.NoMemory start start) (λ x is bytes. inr (untouched_here start, inl refl));
  told = refl;
  words = λ e. absurd (cc);
  wrong_words = λ e. inr refl;
  words_untouched = λ e. refl;
  unbegun = λ e. untouched_here start;
  done = λ e. cc;
  source_fault = λ e. cc;
  sink_fault = λ e. cc;
  disk_fault = λ e. cc;
  script_limit = λ e. cc;
  refused = λ f e. cc;
  never_refused = if_some start.image (λ x. (index : Option History) → StandsAs index x → (f : SessionFault) → status.NoMemory ≡ status.Refused f → ⊥) (λ x is index stands f e. cc);
  refuses = λ good calm.
      if_some start.image (λ image. (f : SessionFault) → Begins checked image (Err f) → (status.NoMemory ≡ status.Refused f) ⊎ (status.NoMemory ≡ status.NoMemory)) (λ x is f h. inr refl);
  start_reads = λ off e. cc;
  completes = λ good none.
      if_some start.image (λ x. (index : Option History) → StandsAs index x → IfSome start.left (λ script. Completes limits status.NoMemory script))
      (λ x is index stands. completes_of limits status.NoMemory start.left start.left (λ e. cc) (λ e. cc) (λ e. cc) (λ e. cc) (λ f e. cc) (λ e. absurd (cc)) (λ e. absurd (cc)));
}

-- no session begins
pub no_session : (A : Type 0) → BeginsAreDetermined → (limits : Limits) (checked : Bool) (s : Status) (f : SessionFault) (start now : Outside) (crashes : (List ℕ → List ℕ → Type 0) → Type 0) → Stays start.image crashes → s ≡ ending_of f → IsUntouched start now → start.disk_faults ≤ now.disk_faults
    → (f ≡ Start fault.Disk → DiskRose start.disk_faults now.disk_faults)
    → IfSome start.image (λ image. RefusesSession checked f image)
    → IfSome start.image (λ image. (index : Option History) → StandsAs index image → (f ≡ Start fault.Disk) ⊎ (f ≡ Start fault.Memory))
    → (checked ≡ false → IfSome start.image (λ image. TakesStart {A = A} (Err f) image start.bytes_read now.bytes_read)) → Promised limits true checked s start now crashes
no_session A determined limits checked s f start now crashes stays is same counted cause refuses never takes =
    let end : EndsFor s f = ends_for s f is in
    let not = unbegun s f end in
    let failed : s ≡ status.DiskFault → DiskRose start.disk_faults now.disk_faults = λ e. cause (disk_failed s f end e) in record {
      served = if_some start.image (λ x. (index : Option History) → StandsAs index x → (x : Served (machine_at limits index) s start now crashes) × ReadsNoMore (OpensBy checked index start.image) x)
          (λ x here index stands. served_nothing s (machine_at limits index) (OpensBy checked index start.image) start now x crashes here stands same stays not.done
          (λ nil. unbegun_gains s f start.written now.written end nil) (ended_faults s start.disk_faults now.disk_faults counted failed) (either (s ≡ status.SourceFault) (s ≡ status.ScriptLimit) not.source not.limit)
          (λ n opened. opening_takes {A = A} (Err f) index x n start.bytes_read now.bytes_read stands (at_some start.image (λ image. TakesStart {A = A} (Err f) image start.bytes_read now.bytes_read) x (takes opened.0) here) (at_some start.image (λ bytes. IsOpening index bytes n) x opened.1 here)));
      exact = λ other. same_just limits s start now crashes other same.image;
      replies = none_gained s (names_told start.image) start.written now.written (unbegun_gains s f start.written now.written end (same.written ∙ grown-nil start.written));
      checked = λ e. if_some start.image (IsLeft s start now) (λ x here bytes. inr (same, untouched_end s f end));
      told = ap (λ (o : Option (List ℕ)). is_some o) same.image;
      words = λ e. absurd (not.words e);
      wrong_words = λ e. absurd (cc);
      words_untouched = λ e. absurd (cc);
      unbegun = λ e. same;
      done = λ e. absurd (not.done e);
      source_fault = λ e. absurd (not.source e);
      sink_fault = λ e. absurd (not.sink e);
      disk_fault = λ e. inr (failed e, same);
      script_limit = λ e. absurd (not.limit e);
      refused = λ g e.
          let l = lies s f g end e in (
            l.disk,
            l.memory,
            where_some start.image (λ image. RefusesSession checked f image) (λ image. Begins checked image (Err g)) (λ x h. refused_so checked s f g x end e h) refuses,
          );
      never_refused =
          where_some start.image (λ image. (index : Option History) → StandsAs index image → (f ≡ Start fault.Disk) ⊎ (f ≡ Start fault.Memory))
          (λ image. (index : Option History) → StandsAs index image → (g : SessionFault) → s ≡ status.Refused g → ⊥)
          (λ x h index stands g e. never_so s f g end (h index stands) e) never;
      refuses = λ good calm.
          where_some start.image (λ image. RefusesSession checked f image)
          (λ image. (g : SessionFault) → Begins checked image (Err g) → (s ≡ status.Refused g) ⊎ (s ≡ status.NoMemory))
          (λ x h g e. ends_so determined checked s f g x end (λ disk. calm (cause disk)) h e) refuses;
      start_reads = λ off e. absurd (not.done e);
      completes = λ good none.
          where_some start.image (λ image. (index : Option History) → StandsAs index image → (f ≡ Start fault.Disk) ⊎ (f ≡ Start fault.Memory))
          (λ image. (index : Option History) → StandsAs index image → IfSome start.left (λ script. Completes limits s script))
          (λ x h index stands. completes_of limits s start.left now.left not.words (λ e. absurd (not.source e)) (λ e. absurd (not.sink e))
          (λ e. none.disk (failed e)) (λ g e. never_so s f g end (h index stands) e) (λ e. absurd (not.done e)) (λ e. absurd (not.limit e))) never;
    }

-- a run that begins ends in none of these ways
begun_not : (s : Status) → IsBegun s → (s ≡ status.Words → ⊥) × (is_unbegun s ≡ true → ⊥) × ((f : SessionFault) → s ≡ status.Refused f → ⊥)
begun_not status.Done begun = (λ e. cc, λ e. cc, λ f e. cc)
begun_not status.Words begun = absurd begun
begun_not status.SourceFault begun = (λ e. cc, λ e. cc, λ f e. cc)
begun_not status.SinkFault begun = (λ e. cc, λ e. cc, λ f e. cc)
begun_not status.DiskFault begun = (λ e. cc, λ e. cc, λ f e. cc)
begun_not status.NoMemory begun = absurd begun
begun_not (status.Refused f) begun = absurd begun
begun_not status.ScriptLimit begun = (λ e. cc, λ e. cc, λ f e. cc)

-- a session began over what was there at the start, with as many failed writes or more, and answered the script
pub session_promise : {A : Type 0} (began : A) → BeginsAreDetermined → (limits : Limits) (checked : Bool) (session : Parts) (s : Status) (start mid now : Outside) (begun_crashes crashes : (List ℕ → List ℕ → Type 0) → Type 0)
    → mid.left ≡ start.left → mid.source_faults ≡ start.source_faults → mid.written ≡ start.written → mid.sink_faults ≡ start.sink_faults → mid.image ≡ start.image
    → (DiskRose mid.write_faults now.write_faults → DiskRose start.write_faults now.write_faults) → start.disk_faults ≤ mid.disk_faults → HoldsImage session start.image
    → IfSome start.image (λ image. Begins checked image (Ok (started_with session.index session.names session.graph session.recent)))
    → IfSome start.image (λ image. (index : Option History) → StandsAs index image → StandsFor session image (machine_at limits index))
    → (checked ≡ true → IfSome start.image (λ image. AreBytes image → IsStanding image))
    → (checked ≡ false → IfSome start.image (λ image. TakesStart {E = SessionFault} (Ok began) image start.bytes_read mid.bytes_read)) → Leads start.image begun_crashes crashes
    → ScriptAnswered limits.script_bytes session s mid now begun_crashes → Promised limits true checked s start now crashes
session_promise {A} began determined limits checked session s start mid now begun_crashes crashes left source written sink image writes counted holds begins stands standing takes leads answered =
    let not = begun_not s answered.begun in
    let untouched : IsUntouched start mid = record { left = left; source_faults = source; written = written; sink_faults = sink; image = image } in
    let served : WhereItStands start.image (λ index. (x : Served (machine_at limits index) s start now crashes) × ReadsNoMore (OpensBy checked index start.image) x) =
    if_some start.image (λ x. (index : Option History) → StandsAs index x → (x : Served (machine_at limits index) s start now crashes) × ReadsNoMore (OpensBy checked index start.image) x)
    (λ x here index as_index.
    let both = answered.served x (machine_at limits index) (image ∙ here) (at_some start.image (λ y. (i : Option History) → StandsAs i y → StandsFor session y (machine_at limits i)) x stands here index as_index) in
    let one = both.0 in
    let weighed = both.1 in (
      record {
        entries = one.entries;
        answers = one.answers;
        run = one.run;
        more = one.more;
        front = subst (λ (o : Option (List ℕ)). option_map script o ≡ option_map (λ rest. one.entries ++ rest) one.more) left one.front;
        whole = one.whole;
        gained = subst (λ (o : Option (List ℕ)). Gained s o (texts_of one.answers) now.written) written one.gained;
        stands =
            where_some now.image (λ i. Remains s (last_state (machine_at limits index) one.answers) one.more mid now i)
            (λ i. Remains s (last_state (machine_at limits index) one.answers) one.more start now i)
            (λ i. remains_from s (last_state (machine_at limits index) one.answers) one.more start mid now i untouched) one.stands;
        failed = omega (arith, counted, one.failed);
        takes = subst (λ (o : Option (List ℕ)). TakenFrom s one.entries o now.left) left one.takes;
        crash =
            leads x here (LeftInRun s (machine_at limits index) one.answers one.more mid now) (LeftInRun s (machine_at limits index) one.answers one.more start now)
            (inl (in_run_first (machine_at limits index) one.answers x as_index)) (λ c. left_from s (machine_at limits index) one.answers one.more start mid now x c untouched) one.crash;
      },
      record {
        reads = λ opening n last opened w end.
            let start_reads = opening_takes {E = SessionFault} (Ok began) index x opening start.bytes_read mid.bytes_read as_index (at_some start.image (λ image. TakesStart {E = SessionFault} (Ok began) image start.bytes_read mid.bytes_read) x (takes opened.0) here) (at_some start.image (λ bytes. IsOpening index bytes opening) x opened.1 here) in
            let run_reads = weighed.reads 0 n last refl w end in
            takes_both opening (n + last) start.bytes_read mid.bytes_read now.bytes_read start_reads (omega (arith, run_reads));
      },
    )) in
    let done : s ≡ status.Done → IfSome start.left (λ script. length script < limits.script_bytes) =
    λ e. subst (λ (o : Option (List ℕ)). IfSome o (λ script. length script < limits.script_bytes)) left (answered.done e) in
    let limit : s ≡ status.ScriptLimit → (taken : List ℕ) × Gives start.left taken now.left × (length taken ≡ limits.script_bytes) =
    λ e. let got = answered.script_limit e in (got.0, sym left ∙ got.1, got.2) in
    let source_fault : s ≡ status.SourceFault → CountRose start.source_faults now.source_faults =
    λ e. subst (λ (n : ℕ). CountRose n now.source_faults) source (answered.source_fault e) in
    let sink_fault : s ≡ status.SinkFault → CountRose start.sink_faults now.sink_faults =
    λ e. subst (λ (n : ℕ). CountRose n now.sink_faults) sink (answered.sink_fault e) in record {
      served = served;
      exact = λ other. leaves_just limits s start now crashes other (subst (λ (o : Option (List ℕ)). StaysTidy o now.image) image (answered.exact other));
      replies =
          replies_from s (names_told start.image) session.names start.written now.written (names_held session start.image holds)
          (subst (λ (o : Option (List ℕ)). GainsReplies s session.names o now.written) written answered.replies);
      checked = λ e. where_some start.image (λ x. AreBytes x → IsStanding x) (IsLeft s start now) (λ x h bytes. inl (h bytes)) (standing e);
      told = answered.told ∙ ap (λ (o : Option (List ℕ)). is_some o) image;
      words = λ e. absurd (not.0 e);
      wrong_words = λ e. absurd (cc);
      words_untouched = λ e. absurd (cc);
      unbegun = λ e. absurd (not.1 e);
      done = done;
      source_fault = source_fault;
      sink_fault = sink_fault;
      disk_fault = λ e. inl (writes (answered.disk_fault e));
      script_limit = limit;
      refused = λ f e. absurd (not.2 f e);
      never_refused = if_some start.image (λ x. (index : Option History) → StandsAs index x → (f : SessionFault) → s ≡ status.Refused f → ⊥) (λ x is index as_index f e. not.2 f e);
      refuses = λ good calm.
          where_some start.image (λ image. Begins checked image (Ok (started_with session.index session.names session.graph session.recent)))
          (λ image. (g : SessionFault) → Begins checked image (Err g) → (s ≡ status.Refused g) ⊎ (s ≡ status.NoMemory))
          (λ x h g e. absurd (begins_ok determined checked x (started_with session.index session.names session.graph session.recent) g h e)) begins;
      start_reads = λ off e none.
          where_some start.image (λ image. TakesStart {E = SessionFault} (Ok began) image start.bytes_read mid.bytes_read)
          (λ image. (z : History) → IsImageOf z image → (steps : List ℕ) → PlansLastLeaf (opened_of z).index steps → Takes (start_bytes (opened_of z).index steps) start.bytes_read now.bytes_read)
          (λ x h z is steps plan. subst (Takes (start_bytes (opened_of z).index steps) start.bytes_read) (sym (answered.silent e (ap (option_map script) left ∙ none))) (h.history z is steps plan)) (takes off);
      completes = λ good none.
          if_some start.image (λ x. (index : Option History) → StandsAs index x → IfSome start.left (λ script. Completes limits s script))
          (λ x is index as_index. completes_of limits s start.left now.left not.0 (λ e. none.source (source_fault e)) (λ e. none.sink (sink_fault e))
          (λ e. none.writes (writes (answered.disk_fault e))) not.2 done limit);
    }
