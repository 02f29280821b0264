-- The answers of the machine of parts as steps.
use Rattle.std.proofs.Common.{◌≡◌, ℕ, ◌⊎◌, inl, inr, Bool, true, false, List, [], ◌∷◌, ◌++◌, Option, Some, None, Ok, Err, length, refl, sym, ap, ◌∙◌, subst}
use Rattle.std.specs.Prelude.{◌==◌, if◌then◌else◌, is_some, not}
use Rattle.dg_disk.specs.declared.disk.Disk.{Ghosts}
use Rattle.dg_graph.specs.declared.element.Columns.{Columns}
use Rattle.dg_graph.specs.declared.element.Element.{Element}
use Rattle.dg_history.specs.History.{History}
use Rattle.dg_machine.specs.Answer.{headed, no_memory}
use Rattle.dg_machine.specs.declared.command.Command.{Command}
use Rattle.dg_machine.specs.declared.command.Command.TheVariants as command
use Rattle.dg_machine.specs.declared.query.Query.TheVariants as query
use Rattle.dg_machine.specs.declared.limits.Limits.{Limits}
use Rattle.dg_machine.specs.declared.reply.Head.TheVariants as head
use Rattle.dg_machine.specs.declared.reply.Refusal.{Refusal}
use Rattle.dg_machine.specs.declared.reply.Refusal.TheVariants as refusal
use Rattle.dg_machine.specs.declared.reply.Reply.{Reply}
use Rattle.dg_machine.specs.declared.reply.Reply.TheVariants as replied
use Rattle.dg_machine.specs.Needs.{earliest, when}
use Rattle.dg_machine.specs.Run.{is_failed_read, is_store_read}
use Rattle.dg_machine.specs.Script.{Asked}
use Rattle.dg_records.specs.declared.fault.RecordFault.{RecordFault}
use Rattle.dg_records.specs.declared.fault.RecordFault.TheVariants as fault
use Rattle.dg_session.specs.Damage.{damage_told}
use Rattle.dg_part_runs.specs.declared.sessions.PartSessions.{PartSessions}
use Rattle.dg_part_runs.specs.Disks.{ReadsAll, SomeRose, faults_of, images_of}
use Rattle.dg_part_runs.specs.HandleSets.{HandleSetsState, with_next}
use Rattle.dg_part_runs.specs.HeldParts.{AreStanding, ReadsParts, ends_kept, refusal_for}
use Rattle.dg_part_runs.specs.PartAnswers.{AnswersPart, ListsBy, ListsSet, release_reply, released_by, state_over}
use Rattle.dg_part_runs.specs.PartDamage.{AreWhole, NamesFirst, TellsDamage}
use Rattle.dg_part_runs.specs.PartsMachine.{Fails_to_read, Gives, Lacks_memory, Lists, PartsState, PartsStep, Refuses, Releases, listing, refused_of_parts, set_at, union_shown, without_handle, without_set}
use Rattle.dg_part_runs.specs.PartTimes.{joined_all}
use Rattle.dg_part_runs.proofs.DiskLists.{reads_all_none}
use Rattle.dg_part_runs.proofs.GatheredParts.{ends_same}
use Rattle.dg_part_runs.proofs.PartDamages.{tells_none}

-- a refusal that is decided before anything is read tells of no read
not_store : (ends : Option (ℕ × ℕ)) (t live next : ℕ) (r : Refusal) → earliest (without_handle ends t live next) ≡ Some r → is_failed_read r ≡ false
not_store ends t live next r is = by _ _ _ is
  where
    by : (a b c : Bool) → earliest (when a (refusal.OutOfRange ends) ++ (when b (refusal.PoolFull live 1) ++ when c refusal.HandlesSpent)) ≡ Some r → is_failed_read r ≡ false
    by true b c at = let same : refusal.OutOfRange ends ≡ r = cc in subst (λ (x : Refusal). is_failed_read x ≡ false) same refl
    by false true c at = let same : refusal.PoolFull live 1 ≡ r = cc in subst (λ (x : Refusal). is_failed_read x ≡ false) same refl
    by false false true at = let same : refusal.HandlesSpent ≡ r = cc in subst (λ (x : Refusal). is_failed_read x ≡ false) same refl
    by false false false at = absurd (cc)

-- nor of a damage
not_damage : (ends : Option (ℕ × ℕ)) (t live next : ℕ) (r : Refusal) → earliest (without_handle ends t live next) ≡ Some r → damage_told (Some r) ≡ None
not_damage ends t live next r is = by _ _ _ is
  where
    by : (a b c : Bool) → earliest (when a (refusal.OutOfRange ends) ++ (when b (refusal.PoolFull live 1) ++ when c refusal.HandlesSpent)) ≡ Some r → damage_told (Some r) ≡ None
    by true b c at = let same : refusal.OutOfRange ends ≡ r = cc in subst (λ (x : Refusal). damage_told (Some x) ≡ None) same refl
    by false true c at = let same : refusal.PoolFull live 1 ≡ r = cc in subst (λ (x : Refusal). damage_told (Some x) ≡ None) same refl
    by false false true at = let same : refusal.HandlesSpent ≡ r = cc in subst (λ (x : Refusal). damage_told (Some x) ≡ None) same refl
    by false false false at = absurd (cc)

-- where the handle is not live, no entry is taken out
missing_by : (b : Bool) (handle : ℕ) (e : ℕ × List Element) (table : List (ℕ × List Element)) → (e.0 == handle) ≡ b → set_at handle (e ∷ table) ≡ None
    → (set_at handle table ≡ None → without_set handle table ≡ table) → without_set handle (e ∷ table) ≡ e ∷ table
missing_by true handle e table at none more = absurd (let f : Some e.1 ≡ None = sym (ap (λ x. if x then Some e.1 else set_at handle table) at) ∙ none in cc)
missing_by false handle e table at none more =
    ap (λ x. if x then table else e ∷ without_set handle table) at
    ∙ ap (λ (l : List (ℕ × List Element)). e ∷ l) (more (sym (ap (λ x. if x then Some e.1 else set_at handle table) at) ∙ none))

missing : (handle : ℕ) (table : List (ℕ × List Element)) → set_at handle table ≡ None → without_set handle table ≡ table
missing handle [] none = refl
missing handle (e ∷ table) none = missing_by (e.0 == handle) handle e table refl none (λ more. missing handle table more)

module _ {D : Type 0} (d : Ghosts D) where
  -- the range that the sessions tell is that of the histories for which they stand
  refused_same : (limits : Limits) (s : PartSessions) (disks : List D) (zs : List History) → AreStanding limits s.sessions.items (images_of d disks) zs → (t : ℕ) (cols : Columns)
      → refused_of_parts (state_over limits s zs) (command.At t cols) ≡ earliest (without_handle (ends_kept s.sessions.items) t (length s.handles.sets) s.handles.next)
  refused_same limits s disks zs stand t cols =
      sym (ap (λ (ends : List (Option (ℕ × ℕ))). earliest (without_handle (joined_all ends) t (length s.handles.sets) s.handles.next)) (ends_same limits s.sessions.items (images_of d disks) zs stand))

  pub at_refused : (t : ℕ) (cols : Columns) (s : PartSessions) (disks : List D) (r : Refusal) → earliest (without_handle (ends_kept s.sessions.items) t (length s.handles.sets) s.handles.next) ≡ Some r
      → AnswersPart d (command.At t cols) [] s disks s disks (replied.Refused r)
  at_refused t cols s disks r is = record {
    none = refl;
    steps = λ limits zs stand. Refuses (command.At t cols) r (refused_same limits s disks zs stand t cols ∙ is);
    sessions = refl;
    nameless = refl;
    reads = reads_all_none d disks;
    store_read = λ says. absurd (let no = not_store (ends_kept s.sessions.items) t (length s.handles.sets) s.handles.next r is in let e : true ≡ false = sym says ∙ no in cc);
    damage = tells_none (command.At t cols) s.sessions.items (images_of d disks) r (not_damage (ends_kept s.sessions.items) t (length s.handles.sets) s.handles.next r is);
  }

  -- from here on nothing refuses it before anything is read
  module _ (t : ℕ) (cols : Columns) (old new : PartSessions) (before after : List D) (silent : cols.transient ≡ false)
      (free : earliest (without_handle (ends_kept old.sessions.items) t (length old.handles.sets) old.handles.next) ≡ None)
      (same : new.sessions.items ≡ old.sessions.items) (nameless_same : new.nameless ≡ old.nameless) (reads_are : ReadsAll d before after) where
    free_of : (limits : Limits) (zs : List History) → AreStanding limits old.sessions.items (images_of d before) zs → refused_of_parts (state_over limits old zs) (command.At t cols) ≡ None
    free_of limits zs stand = refused_same limits old before zs stand t cols ∙ free

    abbrev step_to : Limits → List History → HandleSetsState → Reply → Type 0
    step_to limits zs h reply = PartsStep (union_shown zs) (state_over limits old zs) (Asked (command.At t cols) []) reply (record { limits = limits; parts = zs; table = h.sets; next = h.next })

    pub at_given : (handle weight : ℕ) (set : List Element) → ((limits : Limits) → ReadsParts limits old.sessions.items (images_of d before) t cols (Ok (set, weight)))
        → AreWhole t cols old.sessions.items (images_of d before) → new.handles ≡ with_next old.handles set → handle ≡ old.handles.next → (reply : Reply) → reply ≡ headed (head.At handle weight)
        → AnswersPart d (command.At t cols) [] old before new after reply
    at_given handle weight set is_read whole added number reply is = subst (λ (r : Reply). AnswersPart d (command.At t cols) [] old before new after r) (sym is) (record {
      none = refl;
      steps = step;
      sessions = same;
      nameless = nameless_same;
      reads = reads_are;
      store_read = λ says. absurd (cc);
      damage = record { damaged = tt; whole = λ no. whole };
    })
      where
        step : (limits : Limits) (zs : List History) → AreStanding limits old.sessions.items (images_of d before) zs
            → PartsStep (union_shown zs) (state_over limits old zs) (Asked (command.At t cols) []) (headed (head.At handle weight)) (state_over limits new zs)
        step limits zs stand =
            let given : step_to limits zs (with_next old.handles (union_shown zs t cols)) (headed (head.At old.handles.next weight)) =
            Gives t cols weight silent (free_of limits zs stand) ((is_read limits).weighs zs stand) in
            let shown : step_to limits zs (with_next old.handles set) (headed (head.At old.handles.next weight)) =
            subst (λ (x : List Element). step_to limits zs (with_next old.handles x) (headed (head.At old.handles.next weight))) (sym ((is_read limits).shown zs stand)) given in
            let there : step_to limits zs new.handles (headed (head.At old.handles.next weight)) =
            subst (λ (h : HandleSetsState). step_to limits zs h (headed (head.At old.handles.next weight))) (sym added) shown in
            subst (λ (n : ℕ). step_to limits zs new.handles (headed (head.At n weight))) (sym number) there

    -- no handle is given
    module _ (kept : new.handles ≡ old.handles) where
      stays : (limits : Limits) (zs : List History) (reply : Reply) → step_to limits zs old.handles reply → step_to limits zs new.handles reply
      stays limits zs reply step = subst (λ (h : HandleSetsState). step_to limits zs h reply) (sym kept) step

      pub at_lacking : AnswersPart d (command.At t cols) [] old before new after (replied.Refused refusal.OutOfMemory)
      at_lacking = record {
        none = refl;
        steps = λ limits zs stand. stays limits zs no_memory (Lacks_memory (command.At t cols) refl (free_of limits zs stand));
        sessions = same;
        nameless = nameless_same;
        reads = reads_are;
        store_read = λ says. absurd (cc);
        damage = tells_none (command.At t cols) old.sessions.items (images_of d before) refusal.OutOfMemory refl;
      }

      pub at_fault : (f : RecordFault) → ((limits : Limits) → ReadsParts limits old.sessions.items (images_of d before) t cols (Err f)) → NamesFirst t cols old.sessions.items (images_of d before) f → (f ≡ fault.Disk → SomeRose (faults_of d before) (faults_of d after))
          → AnswersPart d (command.At t cols) [] old before new after (replied.Refused (refusal_for f))
      at_fault fault.Disk is_read first cause = record {
        none = refl;
        steps = λ limits zs stand. stays limits zs _ (Fails_to_read t cols (free_of limits zs stand));
        sessions = same;
        nameless = nameless_same;
        reads = reads_are;
        store_read = λ says. cause refl;
        damage = tells_none (command.At t cols) old.sessions.items (images_of d before) refusal.StoreRead refl;
      }
      at_fault fault.Memory is_read first cause = at_lacking
      at_fault (fault.Damaged key col) is_read first cause = record {
        none = refl;
        steps = λ limits zs stand. absurd (undamaged ((is_read limits).never zs stand));
        sessions = same;
        nameless = nameless_same;
        reads = reads_are;
        store_read = λ says. absurd (cc);
        damage = record { damaged = first; whole = λ no. absurd (cc) };
      }
        where
          undamaged : (fault.Damaged key col ≡ fault.Disk) ⊎ (fault.Damaged key col ≡ fault.Memory) → ⊥
          undamaged (inl is) = absurd (cc)
          undamaged (inr is) = absurd (cc)

      pub at_failed : (f : RecordFault) (r : Refusal) → r ≡ refusal_for f → ((limits : Limits) → ReadsParts limits old.sessions.items (images_of d before) t cols (Err f))
          → NamesFirst t cols old.sessions.items (images_of d before) f → (f ≡ fault.Disk → SomeRose (faults_of d before) (faults_of d after)) → AnswersPart d (command.At t cols) [] old before new after (replied.Refused r)
      at_failed f r is is_read first cause =
          subst (λ (x : Refusal). AnswersPart d (command.At t cols) [] old before new after (replied.Refused x)) (sym is) (at_fault f is_read first cause)

  -- ---- a handle

  module _ (handle : ℕ) (s : PartSessions) (disks : List D) where
    abbrev answers_so : Command → PartSessions → Reply → Type 0
    answers_so c new reply = AnswersPart d c [] s disks new disks reply

    refused_unknown : set_at handle s.handles.sets ≡ None → (limits : Limits) (zs : List History) → refused_of_parts (state_over limits s zs) (command.Release handle) ≡ Some (refusal.UnknownHandle handle)
    refused_unknown is limits zs = ap (λ (o : Option (List Element)). earliest (when (not (is_some o)) (refusal.UnknownHandle handle))) is

    not_refused : (set : List Element) → set_at handle s.handles.sets ≡ Some set → (limits : Limits) (zs : List History) → refused_of_parts (state_over limits s zs) (command.Release handle) ≡ None
    not_refused set is limits zs = ap (λ (o : Option (List Element)). earliest (when (not (is_some o)) (refusal.UnknownHandle handle))) is

    unknown_step : (c : Command) (reply : Reply) → reply ≡ replied.Refused (refusal.UnknownHandle handle)
        → ((limits : Limits) (zs : List History) → refused_of_parts (state_over limits s zs) c ≡ Some (refusal.UnknownHandle handle)) → answers_so c s reply
    unknown_step c reply is refused = subst (λ (r : Reply). answers_so c s r) (sym is) (record {
      none = refl;
      steps = λ limits zs stand. Refuses c (refusal.UnknownHandle handle) (refused limits zs);
      sessions = refl;
      nameless = refl;
      reads = reads_all_none d disks;
      store_read = λ says. absurd (cc);
      damage = tells_none c s.sessions.items (images_of d disks) (refusal.UnknownHandle handle) refl;
    })

    listed : (set : List Element) → set_at handle s.handles.sets ≡ Some set → answers_so (command.Ask handle query.List) s (listing handle set)
    listed set is = record {
      none = refl;
      steps = λ limits zs stand. Lists handle set is;
      sessions = refl;
      nameless = refl;
      reads = reads_all_none d disks;
      store_read = λ says. absurd (cc);
      damage = record { damaged = tt; whole = λ no. tt };
    }

    lacked : (set : List Element) → set_at handle s.handles.sets ≡ Some set → answers_so (command.Ask handle query.List) s no_memory
    lacked set is = record {
      none = refl;
      steps = λ limits zs stand. Lacks_memory (command.Ask handle query.List) refl (not_refused set is limits zs);
      sessions = refl;
      nameless = refl;
      reads = reads_all_none d disks;
      store_read = λ says. absurd (cc);
      damage = tells_none (command.Ask handle query.List) s.sessions.items (images_of d disks) refusal.OutOfMemory refl;
    }

    pub lists : (reply : Reply) → ListsSet s.handles.sets handle reply → answers_so (command.Ask handle query.List) s reply
    lists reply said = by (set_at handle s.handles.sets) refl said
      where
        by : (o : Option (List Element)) → set_at handle s.handles.sets ≡ o → ListsBy o handle reply → answers_so (command.Ask handle query.List) s reply
        by None is same = unknown_step (command.Ask handle query.List) reply same (λ limits zs. refused_unknown is limits zs)
        by (Some set) is (inl same) = subst (λ (r : Reply). answers_so (command.Ask handle query.List) s r) (sym same) (listed set is)
        by (Some set) is (inr same) = subst (λ (r : Reply). answers_so (command.Ask handle query.List) s r) (sym same) (lacked set is)

    pub releases : (new : PartSessions) (reply : Reply) → reply ≡ release_reply s.handles.sets handle → new.handles.sets ≡ without_set handle s.handles.sets → new.handles.next ≡ s.handles.next
        → new.sessions.items ≡ s.sessions.items → new.nameless ≡ s.nameless → answers_so (command.Release handle) new reply
    releases new reply is sets_are next_is sessions_same names_same = subst (λ (r : Reply). answers_so (command.Release handle) new r) (sym is) (record {
      none = refl;
      steps = λ limits zs stand. by limits zs (set_at handle s.handles.sets) refl;
      sessions = sessions_same;
      nameless = names_same;
      reads = reads_all_none d disks;
      store_read = λ says. absurd (quiet (set_at handle s.handles.sets) says);
      damage = whole (set_at handle s.handles.sets);
    })
      where
        whole : (o : Option (List Element)) → TellsDamage (command.Release handle) s.sessions.items (images_of d disks) (released_by o handle)
        whole None = tells_none (command.Release handle) s.sessions.items (images_of d disks) (refusal.UnknownHandle handle) refl
        whole (Some set) = record { damaged = tt; whole = λ no. tt }

        quiet : (o : Option (List Element)) → is_store_read (released_by o handle) ≡ true → ⊥
        quiet None says = absurd (cc)
        quiet (Some set) says = absurd (cc)

        by : (limits : Limits) (zs : List History) (o : Option (List Element)) → set_at handle s.handles.sets ≡ o
            → PartsStep (union_shown zs) (state_over limits s zs) (Asked (command.Release handle) []) (released_by (set_at handle s.handles.sets) handle) (state_over limits new zs)
        by limits zs None at =
            subst (λ (x : Option (List Element)). PartsStep (union_shown zs) (state_over limits s zs) (Asked (command.Release handle) []) (released_by x handle) (state_over limits new zs)) (sym at)
            (subst (λ (m : PartsState). PartsStep (union_shown zs) (state_over limits s zs) (Asked (command.Release handle) []) (replied.Refused (refusal.UnknownHandle handle)) m)
            (let sets = sym (sets_are ∙ missing handle s.handles.sets at) in let next = sym next_is in λ i. record { limits = limits; parts = zs; table = sets i; next = next i })
            (Refuses (command.Release handle) (refusal.UnknownHandle handle) (refused_unknown at limits zs)))
        by limits zs (Some set) at =
            subst (λ (x : Option (List Element)). PartsStep (union_shown zs) (state_over limits s zs) (Asked (command.Release handle) []) (released_by x handle) (state_over limits new zs)) (sym at)
            (subst (λ (m : PartsState). PartsStep (union_shown zs) (state_over limits s zs) (Asked (command.Release handle) []) (headed (head.Released handle)) m)
            (let sets = sym sets_are in let next = sym next_is in λ i. record { limits = limits; parts = zs; table = sets i; next = next i })
            (Releases handle (ap (λ (o : Option (List Element)). is_some o) at)))
