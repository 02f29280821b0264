-- What a step owes follows from what its command comes to; and what the methods of the commands say is that together.
use Rattle.std.proofs.Common.{◌≡◌, ℕ, true, false, List, [], Option, None, Result, Ok, Err, length, refl, sym, ◌∙◌, ap, subst}
use Rattle.std.specs.Prelude.{IfErr, IfOk, ◌≢◌}
use Rattle.std.proofs.lemmas.Bool.{false≢true}
use Rattle.dg_batch.specs.declared.halt.Halt.{Halt}
use Rattle.dg_batch.specs.declared.halt.Halt.TheVariants as halt
use Rattle.dg_batch.specs.declared.stop.Stop.{Stop}
use Rattle.dg_batch.specs.declared.stop.Stop.TheVariants as stop
use Rattle.dg_disk.specs.Calls.{Fails, FailsToWrite, LeftByCrash, ReadsDisk, StaysOnDevice}
use Rattle.dg_disk.proofs.FrameLemmas as frames
use Rattle.dg_disk.specs.declared.disk.Disk as disk
use Rattle.dg_text.specs.Lines.{ScriptLine}
use Rattle.dg_io.specs.declared.source.Source as source
use Rattle.dg_io.specs.LinesState.{LinesState}
use Rattle.dg_machine.proofs.Refusals.{store_read_refuses}
use Rattle.dg_machine.specs.declared.command.Command.{Command}
use Rattle.dg_machine.specs.declared.reply.Refusal.{Refusal}
use Rattle.dg_machine.specs.declared.reply.Refusal.TheVariants as refusal
use Rattle.dg_machine.specs.declared.reply.Reply.{Reply}
use Rattle.dg_machine.specs.declared.reply.Reply.TheVariants as replied
use Rattle.dg_machine.specs.Needs.{following, is_writing, needs}
use Rattle.dg_session.proofs.CommandCrashes.{OnlyNow, reading_left, refused_left}
use Rattle.dg_file.specs.TidyImages.{StaysTidy}
use Rattle.dg_session.proofs.CommandDisks.{every_answer, every_err, reading_tidy}
use Rattle.dg_session.proofs.DamageStep.{met_nothing, never_for_damage, reads_undamaged}
use Rattle.dg_session.proofs.ReadsStep.{fails_no_read, followed_by_none, reads_none, reads_nothing, store_read_is}
use Rattle.dg_session.proofs.ReplyNames.{names_stay}
use Rattle.dg_session.proofs.SessionPoolStep.{nothing_swept}
use Rattle.dg_session.proofs.SessionSteps.{Carried, HasItsLines, alone, answered, refused_so}
use Rattle.dg_session.proofs.VerifiedStep.{refused_verifies, unverified}
use Rattle.dg_session.specs.Calls.{AnswersCommand, CarriesOut, CutsFollowing, HaltsByCause, ReadsFile, StopsCommand, TakesFollowing, TreatsDisk}
use Rattle.dg_session.specs.Parts.{Parts}
use Rattle.dg_session.specs.Reads.{ReadsIn, ReadsToStop}
use Rattle.dg_session.specs.Session.{Accepts, ComesTo, CutsOff, Denies, HoldsImage, IsAsBefore, LeavesCommand, Stops, WhereBothTold, is_at_hand, refused_by}
use Rattle.dg_session.specs.SessionState.{SessionState}
use Rattle.dg_session.specs.Sweeps.{SweepsNothing, SweepsPool, sweep_of}
use Rattle.dg_session.specs.Verified.{VerifiesFile, is_verify, soundness_told}

-- ---- of one that is stopped, or leaves all as it was

-- where neither session nor image has changed, the session holds the image as before
still_held : (p q : Parts) (a b : Option (List ℕ)) → IsAsBefore p a q b → HoldsImage p a → HoldsImage q b
still_held p q a b same h = subst (λ (x : Parts). HoldsImage x b) (sym same.same) (subst (HoldsImage p) (sym same.same_image) h)

stopped_before : (c : Command) (got : List ScriptLine) (p : Parts) (a : Option (List ℕ)) (q : Parts) (b : Option (List ℕ)) (why : Stop)
    → ComesTo c got p a q b (Err (halt.Stop why)) → why ≢ stop.Store → IsAsBefore p a q b
stopped_before c got p a q b stop.Read comes not_store = comes
stopped_before c got p a q b stop.Limit comes not_store = comes
stopped_before c got p a q b stop.Store comes not_store = absurd (not_store refl)

module _ (c : Command) (taken : List ScriptLine → Type 0) (short : Type 0) (p : Parts) (a : Option (List ℕ)) (q : Parts) (b : Option (List ℕ)) (crashes : (List ℕ → List ℕ → Type 0) → Type 0) where
  cut_writes : (why : Stop) → Carried c taken short p a q b (Err (halt.Stop why)) crashes → why ≡ stop.Store → is_writing c ≡ true
  cut_writes why comes is =
      let k = subst (λ (w : Stop). Carried c taken short p a q b (Err (halt.Stop w)) crashes) is comes in
      let cut : (is_writing c ≡ true) × (refused_by p (length k.0) (needs c) ≡ None) × WhereBothTold a b (λ x y. CutsOff c k.0 p x y) = k.2 in cut.0

  cut_stops : (why : Stop) → Carried c taken short p a q b (Err (halt.Stop why)) crashes → why ≡ stop.Store → Stops c taken p a b crashes
  cut_stops why comes is =
      let k = subst (λ (w : Stop). Carried c taken short p a q b (Err (halt.Stop w)) crashes) is comes in
      let cut : (is_writing c ≡ true) × (refused_by p (length k.0) (needs c) ≡ None) × WhereBothTold a b (λ x y. CutsOff c k.0 p x y) = k.2 in (k.0, k.1, cut.1, cut.2, k.3)

  cut_short : (why : Stop) → Carried c taken short p a q b (Err (halt.Stop why)) crashes → why ≢ stop.Store → short
  cut_short stop.Read comes other = comes.1
  cut_short stop.Limit comes other = comes.1
  cut_short stop.Store comes other = absurd (other refl)

unread_stop : (c : Command) (p : Parts) (image : Option (List ℕ)) (why : Stop) (before after : ℕ) → ReadsToStop c p image why before after → why ≢ stop.Store → after ≡ before
unread_stop c p image stop.Read before after reads other = reads
unread_stop c p image stop.Limit before after reads other = reads
unread_stop c p image stop.Store before after reads other = absurd (other refl)

same_stop : (a b : Stop) → halt.Stop a ≡ halt.Stop b → a ≡ b
same_stop a b is = cc

every_ok : {A E : Type 0} (r : Result A E) (P : A → Type 0) → ((x : A) → P x) → IfOk r P
every_ok (Ok x) P each = each x
every_ok (Err e) P each = tt

-- a command that does not verify says nothing of it, whatever it comes to
pub unverified_all : (c : Command) (p : Parts) (image : Option (List ℕ)) (r : Result Reply Halt) → is_verify c ≡ false → IfOk r (VerifiesFile c p image)
unverified_all c p image r plain = every_ok r (VerifiesFile c p image) (λ reply. unverified (is_verify c) p image (soundness_told reply) plain)

-- nor one that does not sweep of a sweep
unswept_all : (c : Command) (old new : SessionState) (r : Result Reply Halt) → SweepsNothing c → IfOk r (λ (reply : Reply). SweepsPool c old.pool new.pool reply)
unswept_all c old new r still = every_ok r (λ (reply : Reply). SweepsPool c old.pool new.pool reply) (λ reply. nothing_swept (sweep_of c) old.pool new.pool reply still)

-- one that reads no records has read nothing, and tells of no damage
pub no_file : {D : Type 0} (d : disk.Ghosts D) (c : Command) (got : List ScriptLine) (p q : Parts) (before after : D) (r : Result Reply Halt) → (needs c).reads ≡ false
    → ComesTo c got p (d.image before) q (d.image after) r → d.taken after ≡ d.taken before → ReadsFile d c p before after r
no_file d c got p q before after r none comes same = record {
  damaged = never_for_damage c c got p (d.image before) q (d.image after) r refl none comes;
  undamaged = met_nothing c p (d.image before) r (reads_undamaged c p (d.image before) none);
  reads = reads_nothing c p (d.image before) r (d.taken before) (d.taken after) none same;
}

-- ---- the step, by what the command comes to

module _ {S D : Type 0} {s : source.Ghosts S} {d : disk.Ghosts D} {c : Command} {lines : LinesState} {from : S} {then_lines : LinesState} {then_from : S}
    {old : SessionState} {before : D} {new : SessionState} {after : D} where
  -- and the session is the same behind it
  pub carried_as : (then_new : SessionState) (r : Result Reply Halt) → then_new ≡ new → CarriesOut s d c lines from then_lines then_from old before new after r
      → CarriesOut s d c lines from then_lines then_from old before then_new after r
  carried_as then_new r same carries = subst (λ (x : SessionState). CarriesOut s d c lines from then_lines then_from old before x after r) (sym same) carries

  -- it is answered by no refusal
  pub accepted_answers : (r : Result Reply Halt) (reply : Reply) → r ≡ Ok reply → HoldsImage old.parts (d.image before)
      → CarriesOut s d c lines from then_lines then_from old before new after r → AnswersCommand s d c lines from then_lines then_from old before new after reply
  accepted_answers r reply is holds carries =
      let k = subst (CarriesOut s d c lines from then_lines then_from old before new after) is carries in
      let a : Accepts c k.comes.0 old.parts (d.image before) new.parts (d.image after) reply = k.comes.2 in record {
        step = answered c (TakesFollowing s c lines from then_lines then_from) (CutsFollowing s c lines from then_lines then_from) old.parts (d.image before) new.parts (d.image after) reply (LeftByCrash d before after) k.comes;
        held = a.held holds;
        refused = λ e. absurd (false≢true (sym a.accepted ∙ e));
        named = a.named;
        keeps_names = a.keeps_names;
        no_index = a.no_index;
        store_read = λ e. absurd (store_read_refuses reply a.accepted e);
        damaged = k.file.damaged;
        undamaged = λ e. k.file.undamaged;
        verified = k.verified;
        swept = k.swept;
        reads = k.file.reads;
        settled = k.settled;
        exact = k.exact;
        unwritten = λ e. absurd (false≢true (sym a.accepted ∙ e));
      }

  -- it is refused
  pub refused_answers : (r : Result Reply Halt) (why : Refusal) → r ≡ Err (halt.Refusal why) → HoldsImage old.parts (d.image before)
      → CarriesOut s d c lines from then_lines then_from old before new after r → AnswersCommand s d c lines from then_lines then_from old before new after (replied.Refused why)
  refused_answers r why is holds carries =
      let k = subst (CarriesOut s d c lines from then_lines then_from old before new after) is carries in
      let n : Denies c k.comes.0 old.parts (d.image before) new.parts (d.image after) why = k.comes.2 in record {
        step = refused_so c (TakesFollowing s c lines from then_lines then_from) (CutsFollowing s c lines from then_lines then_from) old.parts (d.image before) new.parts (d.image after) why (LeftByCrash d before after)
            (λ got left. refused_left d before after c got old.parts (replied.Refused why) left) k.comes;
        held = still_held old.parts new.parts (d.image before) (d.image after) n.as_before holds;
        refused = λ e. n.as_before;
        named = tt;
        keeps_names = names_stay old.parts.names new.parts.names (ap (λ (x : Parts). x.names) n.as_before.same);
        no_index = λ none. (ap (λ (x : Parts). x.index) (sym n.as_before.same) ∙ none, n.as_before.same_image);
        store_read = λ e. k.causes.store_read (ap (λ (x : Refusal). Err (halt.Refusal x)) (store_read_is why e));
        damaged = k.file.damaged;
        undamaged = λ e. absurd (false≢true (sym e));
        verified = refused_verifies c old.parts (d.image before) why;
        swept = nothing_swept (sweep_of c) old.pool new.pool (replied.Refused why) k.unswept;
        reads = k.file.reads;
        settled = frames.reads_stay before after (k.unwritten (λ e. cc));
        exact = reading_tidy d before after (k.unwritten (λ e. cc));
        unwritten = λ refuses. k.unwritten (λ e. cc);
      }

  -- it is stopped
  pub stopped_so : (r : Result Reply Halt) (why : Stop) → r ≡ Err (halt.Stop why)
      → CarriesOut s d c lines from then_lines then_from old before new after r → StopsCommand s d c lines from then_lines then_from old before new after why
  stopped_so r why is carries =
      let k = subst (CarriesOut s d c lines from then_lines then_from old before new after) is carries in
      let takes = TakesFollowing s c lines from then_lines then_from in
      let short = CutsFollowing s c lines from then_lines then_from in record {
        stopped = record {
          as_before = stopped_before c k.comes.0 old.parts (d.image before) new.parts (d.image after) why k.comes.2;
          read = λ e. k.causes.read (ap (λ (x : Stop). Err (halt.Stop x)) e);
          limit = λ e. k.causes.limit (ap (λ (x : Stop). Err (halt.Stop x)) e);
          unread = unread_stop c old.parts (d.image before) why (d.taken before) (d.taken after) k.file.reads;
          lines = cut_short c takes short old.parts (d.image before) new.parts (d.image after) (LeftByCrash d before after) why k.comes;
          store = cut_stops c takes short old.parts (d.image before) new.parts (d.image after) (LeftByCrash d before after) why k.comes;
          store_cause = λ e. k.causes.store (ap (λ (x : Stop). Err (halt.Stop x)) e);
        };
        store_command = cut_writes c takes short old.parts (d.image before) new.parts (d.image after) (LeftByCrash d before after) why k.comes;
        reads = k.file.reads;
        unwritten = λ other. k.unwritten (λ e. other (same_stop why stop.Store e));
      }

  -- whatever the session forgets behind it where the file could not be written
  pub stopped_after : (then_new : SessionState) (why : Stop) → (why ≢ stop.Store → then_new ≡ new) → StopsCommand s d c lines from then_lines then_from old before new after why
      → StopsCommand s d c lines from then_lines then_from old before then_new after why
  stopped_after then_new why same h = record {
    stopped = record {
      as_before = λ e. subst (λ (x : SessionState). IsAsBefore old.parts (d.image before) x.parts (d.image after)) (sym (same e)) (h.stopped.as_before e);
      read = h.stopped.read;
      limit = h.stopped.limit;
      lines = h.stopped.lines;
      unread = h.stopped.unread;
      store = h.stopped.store;
      store_cause = h.stopped.store_cause;
    };
    store_command = h.store_command;
    reads = h.reads;
    unwritten = h.unwritten;
  }

-- ---- what the methods say together

module _ {S D : Type 0} {s : source.Ghosts S} {d : disk.Ghosts D} {lines : LinesState} {from : S} {then_lines : LinesState} {then_from : S}
    {old : SessionState} {before : D} {new : SessionState} {after : D} (r : Result Reply Halt) where
  -- of a command that neither verifies nor sweeps
  pub others_carry : (c x : Command) → c ≡ x → is_verify x ≡ false → SweepsNothing x
      → Carried x (TakesFollowing s x lines from then_lines then_from) (CutsFollowing s x lines from then_lines then_from) old.parts (d.image before) new.parts (d.image after) r (LeftByCrash d before after)
      → HaltsByCause s d from before then_lines then_from after r → ReadsFile d x old.parts before after r → TreatsDisk d before after r → (is_writing x ≡ false → ReadsDisk d before after)
      → CarriesOut s d c lines from then_lines then_from old before new after r
  others_carry c x is plain still comes causes file treats reads_only =
      subst (λ (y : Command). CarriesOut s d y lines from then_lines then_from old before new after r) (sym is) (record {
        comes = comes;
        causes = causes;
        file = file;
        verified = unverified_all x old.parts (d.image before) r plain;
        swept = unswept_all x old new r still;
        unswept = every_err r (λ h. SweepsNothing x) (λ h. still);
        reads_only = reads_only;
        unwritten = treats.unwritten;
        settled = treats.settled;
        exact = treats.exact;
      })

module _ {S D : Type 0} {s : source.Ghosts S} {d : disk.Ghosts D} {lines : LinesState} {from : S} {old : SessionState} {before : D} {new : SessionState} {after : D} (r : Result Reply Halt) where
  -- of one that writes, takes no line and reads no record
  pub writing_carries : (c x : Command) → c ≡ x → following x ≡ 0 → is_verify x ≡ false → SweepsNothing x → (needs x).reads ≡ false → is_writing x ≡ true
      → ComesTo x [] old.parts (d.image before) new.parts (d.image after) r → (r ≡ Err (halt.Stop stop.Store) → FailsToWrite d before after) → HasItsLines r
      → ReadsIn x old.parts (d.image before) r (d.taken before) (d.taken after) → TreatsDisk d before after r → LeftByCrash d before after (LeavesCommand x [] old.parts r)
      → CarriesOut s d c lines from lines from old before new after r
  writing_carries c x is alone_is plain still no_reads writes comes store has reads treats crash =
      others_carry r c x is plain still
      (alone x lines (s.left from) old.parts (d.image before) new.parts (d.image after) r (LeftByCrash d before after) alone_is has comes crash)
      (record {
        store = store;
        read = λ e. absurd (has.0 e);
        limit = λ e. absurd (has.1 e);
        store_read = λ e. absurd (fails_no_read x [] old.parts (d.image before) new.parts (d.image after) r no_reads comes e);
      })
      (record {
        damaged = never_for_damage x x [] old.parts (d.image before) new.parts (d.image after) r refl no_reads comes;
        undamaged = met_nothing x old.parts (d.image before) r (reads_undamaged x old.parts (d.image before) no_reads);
        reads = reads;
      })
      treats (λ e. absurd (false≢true (sym e ∙ writes)))

  -- of one that reads the disk alone, and takes no line
  pub reading_carries : OnlyNow d → (c x : Command) → c ≡ x → following x ≡ 0 → SweepsNothing x → ComesTo x [] old.parts (d.image before) new.parts (d.image after) r
      → ((why : Stop) → r ≡ Err (halt.Stop why) → ⊥) → IfOk r (VerifiesFile x old.parts (d.image before))
      → (r ≡ Err (halt.Refusal refusal.StoreRead) → Fails d before after) → ReadsDisk d before after → ReadsFile d x old.parts before after r
      → CarriesOut s d c lines from lines from old before new after r
  reading_carries only c x is alone_is still comes no_stop verified cause frame file =
      subst (λ (y : Command). CarriesOut s d y lines from lines from old before new after r) (sym is) (record {
        comes = alone x lines (s.left from) old.parts (d.image before) new.parts (d.image after) r (LeftByCrash d before after) alone_is (no_stop stop.Read, no_stop stop.Limit) comes
            (reading_left d only before after frame x [] old.parts r (no_stop stop.Store));
        causes = record {
          store = λ e. absurd (no_stop stop.Store e);
          read = λ e. absurd (no_stop stop.Read e);
          limit = λ e. absurd (no_stop stop.Limit e);
          store_read = λ e. (cause e, frame.no_write_failed);
        };
        file = file;
        verified = verified;
        swept = unswept_all x old new r still;
        unswept = every_err r (λ h. SweepsNothing x) (λ h. still);
        reads_only = λ e. frame;
        unwritten = every_err r (λ h. (h ≡ halt.Stop stop.Store → ⊥) → ReadsDisk d before after) (λ h other. frame);
        settled = every_answer r (StaysOnDevice d before after) (frames.reads_stay before after frame);
        exact = every_answer r (StaysTidy (d.image before) (d.image after)) (reading_tidy d before after frame);
      })

module _ {S D : Type 0} {s : source.Ghosts S} {d : disk.Ghosts D} {lines : LinesState} {from : S} {old : SessionState} {at : D} {new : SessionState} (r : Result Reply Halt) where
  -- of one that takes no line and touches no disk
  pub hand_carries : OnlyNow d → (c : Command) → is_at_hand c ≡ true → is_verify c ≡ false → ComesTo c [] old.parts (d.image at) new.parts (d.image at) r
      → ((why : Stop) → r ≡ Err (halt.Stop why) → ⊥) → IfOk r (λ (reply : Reply). SweepsPool c old.pool new.pool reply) → IfErr r (λ h. SweepsNothing c)
      → CarriesOut s d c lines from lines from old at new at r
  hand_carries only c hand plain comes no_stop swept unswept = record {
    comes = alone c lines (s.left from) old.parts (d.image at) new.parts (d.image at) r (LeftByCrash d at at) (followed_by_none c hand) (no_stop stop.Read, no_stop stop.Limit) comes
        (reading_left d only at at frames.reads_none c [] old.parts r (no_stop stop.Store));
    causes = record {
      store = λ e. absurd (no_stop stop.Store e);
      read = λ e. absurd (no_stop stop.Read e);
      limit = λ e. absurd (no_stop stop.Limit e);
      store_read = λ e. absurd (fails_no_read c [] old.parts (d.image at) new.parts (d.image at) r (reads_none c hand) comes e);
    };
    file = no_file d c [] old.parts new.parts at at r (reads_none c hand) comes refl;
    verified = unverified_all c old.parts (d.image at) r plain;
    swept = swept;
    unswept = unswept;
    reads_only = λ e. frames.reads_none;
    unwritten = every_err r (λ h. (h ≡ halt.Stop stop.Store → ⊥) → ReadsDisk d at at) (λ h other. frames.reads_none);
    settled = every_answer r (StaysOnDevice d at at) (λ there. there);
    exact = every_answer r (StaysTidy (d.image at) (d.image at)) (λ tidy. tidy);
  }
