-- What a crash may leave while a batch is added, as the machine goes.
use Rattle.std.proofs.Common.{◌≡◌, ◌⊎◌, inl, inr, ℕ, ◌≤◌, true, List, Option, Some, None, Result, Ok, Err, length, refl, sym, ◌∙◌, subst}
use Rattle.std.specs.Prelude.{IfSome}
use Rattle.dg_append.specs.AddedBatches.{AddsBatch, AddsBatchOrNot, AddsBehindOrNot, BreaksBatch, ComesToSegment, FailsBatch, TakesForm, batch_with}
use Rattle.dg_append.specs.declared.batch.AddedBatch.{AddedBatch}
use Rattle.dg_append.specs.declared.batch.Batch.{Batch}
use Rattle.dg_append.specs.declared.fault.BatchFault.{BatchFault}
use Rattle.dg_append.specs.declared.fault.BatchFault.TheVariants as fault
use Rattle.dg_append.specs.declared.front.Front.TheVariants.{Whole}
use Rattle.dg_append.specs.declared.live.Live.{Live}
use Rattle.dg_append.specs.Fronts.{ComeTo}
use Rattle.dg_batch.specs.Halt.{batch_halt}
use Rattle.dg_disk.specs.Calls.{LeftByCrash, ReadsDisk}
use Rattle.dg_disk.specs.declared.disk.Disk.{Ghosts}
use Rattle.dg_graph.specs.declared.event.Event.{Event}
use Rattle.dg_text.specs.Lines.{ScriptLine}
use Rattle.dg_history.specs.History.{History, with_batch}
use Rattle.dg_history.specs.LegalHistory.{IsLegal}
use Rattle.dg_index.specs.FileOfHistory.{Segment}
use Rattle.dg_index.specs.ImageOfHistory.{IsImageOf, StandsAs}
use Rattle.dg_index.specs.IndexGrowth.{needed_for}
use Rattle.dg_index.specs.OpenedIndex.{Opening}
use Rattle.dg_machine.specs.Answer.{headed}
use Rattle.dg_machine.specs.CutImage.{IsAcceptedWrite, IsCut, As_before, As_after}
use Rattle.dg_machine.specs.declared.reply.Reply.{Reply}
use Rattle.dg_machine.specs.MachineState.{MachineState}
use Rattle.dg_machine.specs.Run.{Step}
use Rattle.dg_machine.specs.Script.{Asked}
use Rattle.dg_session.proofs.BatchCommandForms.{Origin, adding, head_over, writes}
use Rattle.dg_session.proofs.BatchCommandStep.{IsAdded, IsAsked, completed_is, is_added, of_here, opening_there, over, said, steps_as}
use Rattle.dg_session.proofs.CommandCrashes.{OnlyNow, reads_leave, wider}
use Rattle.dg_session.proofs.PartStates.{IsOf, is_of}
use Rattle.dg_session.proofs.SessionSteps.{is_accepted}
use Rattle.dg_session.specs.Crashes.{IsFirstByte, is_created}
use Rattle.dg_session.specs.Parts.{Parts}
use Rattle.dg_session.specs.Session.{CutsOff, LeavesAnswered, LeavesCommand, StandsFor}
use Rattle.dg_stored.specs.StoredHistory.{index_opening}

module _ (from : Origin) (got : List ScriptLine) (p : Parts) (count limit : ℕ) (l : Live) (b : Batch) (asked : IsAsked from got p count limit l b) where
  abbrev index : Opening
  index = asked.free.index

  -- the lines come to one batch
  one_batch : (image : List ℕ) (m : MachineState) (z : History) → IsOf p index image m z → (x y : List Event) → ComeTo index l.history.now.graph b (Ok x) → ComeTo index l.history.now.graph b (Ok y) → x ≡ y
  one_batch image m z h x y one two =
      let same : (let r : Result (List Event) (ℕ × ℕ) = Ok x in r) ≡ Ok y =
      sym (completed_is from got p count limit l b asked image m z (Ok x) h one) ∙ completed_is from got p count limit l b asked image m z (Ok y) h two in cc

  -- ---- over the image, from a state that the session stands for

  module _ (told : Option (List ℕ)) (events : List Event) (segment : Segment) (comes : ComesToSegment index b l.history told events segment) (fits : needed_for index segment ≤ limit) where
    -- the history with the batch
    abbrev more_of : History → History
    more_of z = with_batch z (batch_with b.known l.history.names events)

    abbrev reply : Reply
    reply = said from got p count limit l b asked told events segment comes

    -- it is the history before the batch or behind it
    either : (image left : List ℕ) → told ≡ Some image → AddsBatchOrNot b l.history image left → (m : MachineState) (s : StandsFor p image m) (z : History) → IsOf p index image m z
        → IsImageOf z left ⊎ IsImageOf (more_of z) left
    either image left at adds m s z h = by (behind z (over from got p count limit l b asked image m z h))
      where
        behind : AddsBehindOrNot index b l.history image left
        behind = of_here (index_opening l.history.index) index (λ (o : Opening). AddsBehindOrNot o b l.history image left) (opening_there from got p count limit l b asked) adds

        is : IsAdded from got p count limit l b asked told events segment comes m z
        is = is_added from got p count limit l b asked told events segment comes fits image at m z s h

        by : IsImageOf z left
            ⊎ ((x : List Event) × (b.front ≡ Whole) × ComeTo index l.history.now.graph b (Ok x) × TakesForm index x
            × (IsLegal (with_batch z (batch_with b.known l.history.names x)) → IsImageOf z left ⊎ IsImageOf (with_batch z (batch_with b.known l.history.names x)) left))
            → IsImageOf z left ⊎ IsImageOf (more_of z) left
        by (inl same) = inl same
        by (inr (x, whole, come, form, left_so)) =
            subst (λ (y : List Event). IsLegal (with_batch z (batch_with b.known l.history.names y)) → IsImageOf z left ⊎ IsImageOf (with_batch z (batch_with b.known l.history.names y)) left)
            (one_batch image m z h x events come comes.come) left_so is.legal

    -- and the machine gives the reply, and goes on to the history with the batch
    step_of : (image : List ℕ) → told ≡ Some image → (m : MachineState) (z : History) → StandsFor p image m → IsOf p index image m z
        → Step m (Asked (adding from count) got) reply (record m { index = Some (more_of z) })
    step_of image at m z s h =
        steps_as from got p count limit l b asked image m s (record { reply = reply; state = record m { index = Some (more_of z) } })
        (is_added from got p count limit l b asked told events segment comes fits image at m z s h).answered

    answered_left : (image left : List ℕ) → told ≡ Some image → AddsBatchOrNot b l.history image left → LeavesAnswered (adding from count) got p reply image left
    answered_left image left at adds m s = by (either image left at adds m s z h)
      where
        z : History
        z = (is_of p index image m asked.free.there s).0

        h : IsOf p index image m z
        h = (is_of p index image m asked.free.there s).1

        by : IsImageOf z left ⊎ IsImageOf (more_of z) left
            → StandsAs m.index left ⊎ ((k : MachineState) × Step m (Asked (adding from count) got) reply k × StandsAs k.index left) ⊎ ((is_created reply ≡ true) × (m.index ≡ None) × IsFirstByte image left)
        by (inl same) = inl (subst (λ (i : Option History). StandsAs i left) (sym h.index) same)
        by (inr more) = inr (inl (record m { index = Some (more_of z) }, step_of image at m z s h, more))

    cut_left : (image left : List ℕ) → told ≡ Some image → AddsBatchOrNot b l.history image left → CutsOff (adding from count) got p image left
    cut_left image left at adds m s = by (either image left at adds m s z h)
      where
        z : History
        z = (is_of p index image m asked.free.there s).0

        h : IsOf p index image m z
        h = (is_of p index image m asked.free.there s).1

        is : IsAdded from got p count limit l b asked told events segment comes m z
        is = is_added from got p count limit l b asked told events segment comes fits image at m z s h

        allowed : IsAcceptedWrite m (Asked (adding from count) got)
        allowed =
            is_accepted m (adding from count) got _ (writes from count) is.answered refl

        by : IsImageOf z left ⊎ IsImageOf (more_of z) left → IsCut m (Asked (adding from count) got) image left
        by (inl same) = As_before allowed (subst (λ (i : Option History). StandsAs i left) (sym h.index) same)
        by (inr more) = As_after allowed reply (record m { index = Some (more_of z) }) (step_of image at m z s h) more

  -- ---- of the call that adds it

  module _ {D : Type 0} (g : Ghosts D) (before after : D) where
    pub added_left : (new : Live) (x : AddedBatch) → IfSome (index_opening l.history.index) (λ o. AddsBatch o limit b l new (g.image before) (g.image after) x)
        → LeftByCrash g before after (AddsBatchOrNot b l.history)
        → LeftByCrash g before after (LeavesAnswered (adding from count) got p (headed (head_over from new.history.now.graph (length x.events.items) x.total x.last)))
    added_left new x adds run =
        let d : AddsBatch index limit b l new (g.image before) (g.image after) x =
        of_here (index_opening l.history.index) index (λ (o : Opening). AddsBatch o limit b l new (g.image before) (g.image after) x) (opening_there from got p count limit l b asked) adds in
        let is : headed (head_over from new.history.now.graph (length x.events.items) x.total x.last) ≡ reply (g.image before) d.events d.segment d.comes d.fits =
        λ i. headed (head_over from (d.graph i) (length (d.told.0 i)) (d.told.1 i) (d.told.2 i)) in
        subst (λ (r : Reply). LeftByCrash g before after (LeavesAnswered (adding from count) got p r)) (sym is)
        (wider g before after (AddsBatchOrNot b l.history) (LeavesAnswered (adding from count) got p (reply (g.image before) d.events d.segment d.comes d.fits))
        (λ image left at adds. answered_left (g.image before) d.events d.segment d.comes d.fits image left at adds) run)

    pub failed_left : OnlyNow g → (f : BatchFault) → IfSome (index_opening l.history.index) (λ o. FailsBatch o limit b l.history (g.image before) (g.image after) f)
        → ((f ≡ fault.Store → ⊥) → ReadsDisk g before after) → LeftByCrash g before after (AddsBatchOrNot b l.history)
        → LeftByCrash g before after (LeavesCommand (adding from count) got p (Err (batch_halt f)))
    failed_left only (fault.BadChange line reason) fails unwritten run = reads_leave g only before after (unwritten (λ e. cc)) (λ a left. left ≡ a) (λ a. refl)
    failed_left only fault.OldFormat fails unwritten run = reads_leave g only before after (unwritten (λ e. cc)) (λ a left. left ≡ a) (λ a. refl)
    failed_left only (fault.FileFull needed most) fails unwritten run = reads_leave g only before after (unwritten (λ e. cc)) (λ a left. left ≡ a) (λ a. refl)
    failed_left only (fault.Damaged key col) fails unwritten run = reads_leave g only before after (unwritten (λ e. cc)) (λ a left. left ≡ a) (λ a. refl)
    failed_left only fault.Read fails unwritten run = reads_leave g only before after (unwritten (λ e. cc)) (λ a left. left ≡ a) (λ a. refl)
    failed_left only fault.Memory fails unwritten run = reads_leave g only before after (unwritten (λ e. cc)) (λ a left. left ≡ a) (λ a. refl)
    failed_left only fault.Store fails unwritten run =
        let d : BreaksBatch index limit b l.history (g.image before) (g.image after) =
        of_here (index_opening l.history.index) index (λ (o : Opening). BreaksBatch o limit b l.history (g.image before) (g.image after)) (opening_there from got p count limit l b asked) fails in
        wider g before after (AddsBatchOrNot b l.history) (λ a left. CutsOff (adding from count) got p a left)
        (λ image left at adds. cut_left (g.image before) d.events d.segment d.comes d.fits image left at adds) run
