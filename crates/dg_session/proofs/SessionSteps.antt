-- How a step comes from what is refused, for every command alike.
use Rattle.std.proofs.Common.{◌≡◌, inl, inr, ℕ, ◌+◌, ◌++◌, nat_le, nat_lt, Bool, true, false, List, [], Option, Some, None, Result, Ok, Err, length, refl, sym, ◌∙◌, ap, subst, ◌∷◌}
use Rattle.std.specs.Prelude.{IfSome, ◌⊎◌, not, is_some, ◌||◌, ◌&&◌, IsErr, IsErrAnd}
use Rattle.std.proofs.lemmas.Bool.{false≢true}
use Rattle.std.proofs.lemmas.Option.{none-some}
use Rattle.dg_graph.specs.declared.limits.TheConstants.{SKEW_MAX}
use Rattle.dg_text.specs.Lines.{ScriptLine}
use Rattle.dg_machine.specs.declared.command.Command.{Command}
use Rattle.dg_machine.specs.declared.reply.Refusal.{Refusal}
use Rattle.dg_machine.specs.declared.reply.Refusal.TheVariants as refusal
use Rattle.dg_machine.specs.declared.reply.Reply.{Reply}
use Rattle.dg_machine.specs.declared.reply.Reply.TheVariants as replied
use Rattle.dg_machine.specs.Answer.{Answered, IsPlannedBy, accepted, answer, answer_by, is_begun, is_behind_reads, no_memory, is_refusal, refusal_of, store_read}
use Rattle.dg_machine.specs.CutImage.{IsAcceptedWrite}
use Rattle.dg_machine.specs.MachineState.{MachineState, stands_at, dependent_on}
use Rattle.dg_history.specs.History.{are_parameters}
use Rattle.dg_text.specs.Names.{number_of}
use Rattle.dg_machine.specs.declared.limits.TheConstants.{HANDLE_MAX, INDEXES_MAX, LIVE_HANDLES_MAX}
use Rattle.dg_machine.specs.Needs.{Needs, earliest, following, is_followed, is_out_of_range, is_writing, needs, of, refused, when, is_set}
use Rattle.dg_machine.specs.Planning.{Planned, IsPlanned, no_plan}
use Rattle.dg_machine.specs.Run.{Step, Answers, Fails_to_read, Lacks_memory}
use Rattle.dg_machine.specs.Script.{Asked}
use Rattle.dg_batch.proofs.LinesTaken.{taken_without_any}
use Rattle.dg_cuts.specs.TakenLines.{CutsWithin, TakesBehind}
use Rattle.dg_io.specs.LinesState.{LinesState}
use Rattle.dg_session.proofs.PartStates.{one_image, refused_is, stands_on}
use Rattle.dg_ask.specs.HeldIndex.{events_held, span_held, has_node_held}
use Rattle.dg_session.specs.Parts.{Parts}
use Rattle.dg_batch.specs.declared.halt.Halt.{Halt}
use Rattle.dg_batch.specs.declared.halt.Halt.TheVariants as halt
use Rattle.dg_batch.specs.declared.stop.Stop.TheVariants as stop
use Rattle.dg_session.specs.Decided.{Fits}
use Rattle.dg_session.specs.Session.{Accepts, ComesTo, Decides, Denies, IsDecided, LeavesAnswered, LeavesCommand, MayRead, Moves, StandsFor, Steps, TakesLines, WhereBothTold, is_indexed_by, is_of_read, is_too_full, is_wide_held, refused_by}

-- ---- of the machine

pub refused_steps : (m : MachineState) (c : Command) (lines : List ScriptLine) (r : Refusal) → refused m c lines ≡ Some r
    → Step m (Asked c lines) (replied.Refused r) m
refused_steps m c lines r is =
    subst (λ (o : Option Refusal). Step m (Asked c lines) (answer_by o m c lines no_plan).reply (answer_by o m c lines no_plan).state) is
    (Answers c lines no_plan (subst (λ (o : Option Refusal). IsPlannedBy o m c no_plan) (sym is) tt))

-- the answer of a command that is not refused by what it needs
pub accepted_is : (m : MachineState) (c : Command) (lines : List ScriptLine) (p : Planned) (a : Answered) → refused m c lines ≡ None → accepted m c lines p ≡ a
    → answer m c lines p ≡ a
accepted_is m c lines p a none is = ap (λ (o : Option Refusal). answer_by o m c lines p) none ∙ is

-- with what is planned for it
pub accepted_steps : (m : MachineState) (c : Command) (lines : List ScriptLine) (p : Planned) (a : Answered) → refused m c lines ≡ None → IsPlanned m c p → answer m c lines p ≡ a
    → Step m (Asked c lines) a.reply a.state
accepted_steps m c lines p a none planned is =
    subst (λ (x : Answered). Step m (Asked c lines) x.reply x.state) is (Answers c lines p (subst (λ (o : Option Refusal). IsPlannedBy o m c p) (sym none) planned))

-- a command that is not refused by what it needs is begun
begun : (m : MachineState) (c : Command) (lines : List ScriptLine) → refused m c lines ≡ None → is_begun m c lines ≡ true
begun m c lines none = ap (λ (o : Option Refusal). is_followed c || not (is_some o)) none ∙ or_true (is_followed c)
  where
    or_true : (a : Bool) → (a || true) ≡ true
    or_true true = refl
    or_true false = refl

pub lacking_steps : (m : MachineState) (c : Command) (lines : List ScriptLine) → (needs c).memory ≡ true → refused m c lines ≡ None
    → Step m (Asked c lines) no_memory m
lacking_steps m c lines memory none = Lacks_memory c lines (λ i. memory i && begun m c lines none i)

-- a failed read may take the index of the answer
abbrev pub IsBehindReads : Command → List ScriptLine → MachineState → Type 0
IsBehindReads c lines m = is_behind_reads (answer m c lines no_plan).reply ≡ true

failing_steps : (m : MachineState) (c : Command) (lines : List ScriptLine) → (needs c).reads ≡ true → IsBehindReads c lines m
    → Step m (Asked c lines) store_read m
failing_steps m c lines reads behind = Fails_to_read c lines (λ i. reads i && behind i)

-- where the command is accepted, a failed read may take the index of what it answers then
abbrev pub AcceptedBehindReads : Command → List ScriptLine → Type 0
AcceptedBehindReads c lines = (m : MachineState) → is_behind_reads (accepted m c lines no_plan).reply ≡ true

-- a command that writes and whose answer is no refusal may be cut off
pub is_accepted : (m : MachineState) (c : Command) (lines : List ScriptLine) (a : Answered) → is_writing c ≡ true → answer m c lines no_plan ≡ a → is_refusal a.reply ≡ false
    → IsAcceptedWrite m (Asked c lines)
is_accepted m c lines a writes is accepted = (writes, ap (λ (x : Answered). is_refusal x.reply) is ∙ accepted)

-- ---- of the session

-- a refusal that the machine may give over the image that the disk tells, where nothing has changed
pub denied_at : (c : Command) (got : List ScriptLine) (old new : Parts) (before after : Option (List ℕ)) (r : Refusal) → new ≡ old → after ≡ before
    → ((m : MachineState) (image : List ℕ) → before ≡ Some image → StandsFor old image m → Step m (Asked c got) (replied.Refused r) m)
    → (is_of_read r ≡ true → MayRead c got old) → IsDecided c got old r → Denies c got old before new after r
denied_at c got old new before after r same same_image step reads decided = record {
  moves = λ x y a b m s. (m, step m x a s, stands_on old new x y m same (one_image before after x y same_image a b) s);
  as_before = record { same = same; same_image = same_image };
  reads = reads;
  decided = decided;
}

-- over any image
pub denied : (c : Command) (got : List ScriptLine) (old new : Parts) (before after : Option (List ℕ)) (r : Refusal) → new ≡ old → after ≡ before
    → ((m : MachineState) (image : List ℕ) → StandsFor old image m → Step m (Asked c got) (replied.Refused r) m)
    → (is_of_read r ≡ true → MayRead c got old) → IsDecided c got old r → Denies c got old before new after r
denied c got old new before after r same same_image step reads decided =
    denied_at c got old new before after r same same_image (λ m image at s. step m image s) reads decided

-- the first of these refusals tells of no read
abbrev IsNotOfRead : Option Refusal → Type 0
IsNotOfRead o = IfSome o (λ s. is_of_read s ≡ false)

when_not_read : (b : Bool) (r : Refusal) (rest : List Refusal) → is_of_read r ≡ false → IsNotOfRead (earliest rest) → IsNotOfRead (earliest (when b r ++ rest))
when_not_read true r rest other more = other
when_not_read false r rest other more = more

of_not_read : {A : Type 0} (x : Option A) (f : A → Bool) (r : A → Refusal) (rest : List Refusal) → ((a : A) → is_of_read (r a) ≡ false) → IsNotOfRead (earliest rest)
    → IsNotOfRead (earliest (of x (λ a. when (f a) (r a)) ++ rest))
of_not_read None f r rest other more = more
of_not_read (Some a) f r rest other more = when_not_read (f a) (r a) rest (other a) more

used_not_read : (x : Option ℕ) (f : ℕ → Option ℕ) (rest : List Refusal) → IsNotOfRead (earliest rest) → IsNotOfRead (earliest (of x (λ h. of (f h) (λ d. refusal.InUse d ∷ [])) ++ rest))
used_not_read None f rest more = more
used_not_read (Some h) f rest more = by (f h)
  where
    by : (d : Option ℕ) → IsNotOfRead (earliest (of d (λ h. refusal.InUse h ∷ []) ++ rest))
    by None = more
    by (Some d) = refl

last_not_read : (b : Bool) (r : Refusal) → is_of_read r ≡ false → IsNotOfRead (earliest (when b r))
last_not_read true r other = other
last_not_read false r other = tt

-- what a command needs is refused as no read of the file
never_read : (p : Parts) (read : ℕ) (n : Needs) → IsNotOfRead (refused_by p read n)
never_read p read n =
    of_not_read n.lines (λ count. nat_lt read count) (λ count. refusal.ShortBatch read count) _ (λ count. refl)
    (when_not_read (n.index && not (is_some p.index)) refusal.NoIndex _ refl
    (of_not_read n.parameters (λ x. is_some p.index) (λ x. refusal.IndexExists) _ (λ x. refl)
    (when_not_read (n.first_form && is_wide_held p.index) refusal.NewFormat _ refl
    (of_not_read n.parameters (λ x. not (are_parameters x.0 x.1 && nat_le x.2 SKEW_MAX)) (λ x. refusal.Parameters) _ (λ x. refl)
    (when_not_read (n.unloaded && is_some (span_held p.index)) refusal.AlreadyLoaded _ refl
    (when_not_read (nat_lt 0 n.changes && is_too_full p n.changes) (refusal.HistoryFull (events_held p.index) n.changes) _ refl
    (when_not_read (is_out_of_range (span_held p.index) n.instants n.until) (refusal.OutOfRange (span_held p.index)) _ refl
    (of_not_read n.handle (λ h. not (is_some (stands_at h p.table))) (λ h. refusal.UnknownHandle h) _ (λ h. refl)
    (of_not_read n.handle (λ h. n.overlay && is_set (stands_at h p.table)) (λ h. refusal.NotAnOverlay h) _ (λ h. refl)
    (used_not_read n.unused (λ h. dependent_on h p.table) _
    (of_not_read n.node (λ v. not (has_node_held p.index v)) (λ v. refusal.UnknownNode) _ (λ v. refl)
    (of_not_read n.unindexed (λ key. not (is_some (number_of p.names key))) (λ key. refusal.UnknownKey) _ (λ key. refl)
    (of_not_read n.indexed (λ key. not (is_indexed_by p key)) (λ key. refusal.NotIndexed) _ (λ key. refl)
    (of_not_read n.unindexed (λ key. is_indexed_by p key) (λ key. refusal.AlreadyIndexed) _ (λ key. refl)
    (of_not_read n.unindexed (λ key. nat_le INDEXES_MAX (length p.indexes)) (λ key. refusal.IndexesFull) _ (λ key. refl)
    (when_not_read (nat_lt 0 n.handles && nat_lt LIVE_HANDLES_MAX (length p.table + n.handles)) (refusal.PoolFull (length p.table) n.handles) _ refl
    (last_not_read (nat_lt 0 n.handles && nat_lt (HANDLE_MAX + 1) (p.next + n.handles)) refusal.HandlesSpent refl)))))))))))))))))

pub refused_not_read : (p : Parts) (read : ℕ) (n : Needs) (r : Refusal) → refused_by p read n ≡ Some r → is_of_read r ≡ false
refused_not_read p read n r is = subst IsNotOfRead is (never_read p read n)

-- by what it needs
pub refused_denies : (c : Command) (got : List ScriptLine) (old new : Parts) (before after : Option (List ℕ)) (r : Refusal) → new ≡ old → after ≡ before
    → refused_by old (length got) (needs c) ≡ Some r → Denies c got old before new after r
refused_denies c got old new before after r same same_image is =
    denied c got old new before after r same same_image (λ m image s. refused_steps m c got r (sym (refused_is old image m c got s) ∙ is))
    (λ h. absurd (false≢true (sym (refused_not_read old (length got) (needs c) r is) ∙ h))) (inl is)

-- by want of memory
pub lacking_denies : (c : Command) (got : List ScriptLine) (old new : Parts) (before after : Option (List ℕ)) → new ≡ old → after ≡ before
    → (needs c).memory ≡ true → refused_by old (length got) (needs c) ≡ None → Denies c got old before new after refusal.OutOfMemory
lacking_denies c got old new before after same same_image memory none =
    denied c got old new before after refusal.OutOfMemory same same_image (λ m image s. lacking_steps m c got memory (sym (refused_is old image m c got s) ∙ none)) (λ h. absurd (false≢true h)) (inr (inl (memory, none)))

-- by a failed read of the index file
pub failing_denies : (c : Command) (got : List ScriptLine) (old new : Parts) (before after : Option (List ℕ)) → new ≡ old → after ≡ before
    → (needs c).reads ≡ true → refused_by old (length got) (needs c) ≡ None
    → ((m : MachineState) (image : List ℕ) → StandsFor old image m → IsBehindReads c got m) → Denies c got old before new after refusal.StoreRead
failing_denies c got old new before after same same_image reads none behind =
    denied c got old new before after refusal.StoreRead same same_image (λ m image s. failing_steps m c got reads (behind m image s)) (λ h. (reads, none)) (inr (inl (reads, none)))

-- and of a command that is accepted where it is not refused by what it needs
pub failing_accepted : (c : Command) (got : List ScriptLine) (old new : Parts) (before after : Option (List ℕ)) → new ≡ old → after ≡ before
    → (needs c).reads ≡ true → refused_by old (length got) (needs c) ≡ None → AcceptedBehindReads c got → Denies c got old before new after refusal.StoreRead
failing_accepted c got old new before after same same_image reads none behind =
    failing_denies c got old new before after same same_image reads none
    (λ m image s. ap (λ (o : Option Refusal). is_behind_reads (answer_by o m c got no_plan).reply) (sym (refused_is old image m c got s) ∙ none) ∙ behind m)

-- a reply of a command that is not refused, by a plan for it, and the state that the session then stands for
pub moved_by : (c : Command) (got : List ScriptLine) (plan : Planned) (old new : Parts) (before after : Option (List ℕ)) (reply : Reply)
    → refused_by old (length got) (needs c) ≡ None
    → ((m : MachineState) (x y : List ℕ) → before ≡ Some x → after ≡ Some y → StandsFor old x m → refused m c got ≡ None
    → (k : MachineState) × IsPlanned m c plan × (accepted m c got plan ≡ record { reply = reply; state = k }) × StandsFor new y k)
    → WhereBothTold before after (λ x y. Moves c got old x new y reply)
moved_by c got plan old new before after reply none step x y a b m s =
    let free : refused m c got ≡ None = sym (refused_is old x m c got s) ∙ none in
    let k = step m x y a b s free in
    (k.0, accepted_steps m c got plan (record { reply = reply; state = k.0 }) free k.1 (accepted_is m c got plan (record { reply = reply; state = k.0 }) free k.2), k.3)

-- nothing is planned for the command
abbrev pub IsUnplanned : Command → Type 0
IsUnplanned c = (m : MachineState) → IsPlanned m c no_plan

-- the same of a command that has no plan
pub moved : (c : Command) (got : List ScriptLine) (old new : Parts) (before after : Option (List ℕ)) (reply : Reply) → IsUnplanned c
    → refused_by old (length got) (needs c) ≡ None
    → ((m : MachineState) (x y : List ℕ) → before ≡ Some x → after ≡ Some y → StandsFor old x m → refused m c got ≡ None
    → (k : MachineState) × (accepted m c got no_plan ≡ record { reply = reply; state = k }) × StandsFor new y k)
    → WhereBothTold before after (λ x y. Moves c got old x new y reply)
moved c got old new before after reply unplanned none step =
    moved_by c got no_plan old new before after reply none (λ m x y a b s free. let k = step m x y a b s free in (k.0, unplanned m, k.1, k.2))

-- what a `?` hands out
pub handed_out : {A E : Type 0} (r : Result A E) (x : E) (P : Result A E → Type 0) → IsErr r × IsErrAnd r (λ y. y ≡ x) → P (Err x) → P r
handed_out (Ok a) x P h p = cc
handed_out (Err e) x P h p = subst (λ y. P (Err y)) (sym h.1) p

-- ---- the command and the lines that follow it

-- what the command comes to with the lines that it takes
abbrev pub Comes : Command → (List ScriptLine → Type 0) → Type 0 → Parts → Option (List ℕ) → Parts → Option (List ℕ) → Result Reply Halt → Type 0
Comes c taken cut old before new after r = (got : List ScriptLine) × TakesLines taken cut got r × ComesTo c got old before new after r

-- and what a crash may leave of it
abbrev pub Carried : Command → (List ScriptLine → Type 0) → Type 0 → Parts → Option (List ℕ) → Parts → Option (List ℕ) → Result Reply Halt → ((List ℕ → List ℕ → Type 0) → Type 0) → Type 0
Carried c taken cut old before new after r crashes =
    (got : List ScriptLine) × TakesLines taken cut got r × ComesTo c got old before new after r × crashes (LeavesCommand c got old r)

-- what a crash leaves is what it may leave of any lines
pub with_crash : (c : Command) (taken : List ScriptLine → Type 0) (cut : Type 0) (p : Parts) (a : Option (List ℕ)) (q : Parts) (b : Option (List ℕ)) (r : Result Reply Halt) (crashes : (List ℕ → List ℕ → Type 0) → Type 0)
    → Comes c taken cut p a q b r → ((got : List ScriptLine) → crashes (LeavesCommand c got p r)) → Carried c taken cut p a q b r crashes
with_crash c taken cut p a q b r crashes comes left = (comes.0, comes.1, comes.2, left comes.0)

-- it is not stopped for a line
abbrev pub HasItsLines : Result Reply Halt → Type 0
HasItsLines r = (r ≡ Err (halt.Stop stop.Read) → ⊥) × (r ≡ Err (halt.Stop stop.Limit) → ⊥)

takes_none : (taken : List ScriptLine → Type 0) (cut : Type 0) (got : List ScriptLine) (r : Result Reply Halt) → taken got → HasItsLines r → TakesLines taken cut got r
takes_none taken cut got (Ok x) took has = took
takes_none taken cut got (Err (halt.Refusal r)) took has = took
takes_none taken cut got (Err (halt.Stop stop.Read)) took has = absurd (has.0 refl)
takes_none taken cut got (Err (halt.Stop stop.Limit)) took has = absurd (has.1 refl)
takes_none taken cut got (Err (halt.Stop stop.Store)) took has = took

-- no lines follow the command
pub alone : (x : Command) (lines : LinesState) (left : Option (List ℕ)) (old : Parts) (before : Option (List ℕ)) (new : Parts) (after : Option (List ℕ)) (r : Result Reply Halt) (crashes : (List ℕ → List ℕ → Type 0) → Type 0)
    → following x ≡ 0 → HasItsLines r → ComesTo x [] old before new after r → crashes (LeavesCommand x [] old r)
    → Carried x (TakesBehind (following x) lines left lines left) (CutsWithin (following x) lines left lines left) old before new after r crashes
alone x lines left old before new after r crashes none has h crash =
    let took : TakesBehind (following x) lines left lines left [] = subst (λ (n : ℕ). TakesBehind n lines left lines left []) (sym none) (taken_without_any lines left) in
    ([], takes_none (TakesBehind (following x) lines left lines left) (CutsWithin (following x) lines left lines left) [] r took has, h, crash)

-- a reply that is no refusal tells of no read
tells_of_none : (reply : Reply) (P : Type 0) (r : Refusal) → is_refusal reply ≡ false → reply ≡ replied.Refused r → P
tells_of_none reply P r accepts is = absurd (false≢true (sym accepts ∙ ap is_refusal is))

same_refusal : (r why : Refusal) → replied.Refused why ≡ replied.Refused r → r ≡ why
same_refusal r why is = cc

-- a reply that is no refusal is decided so
fitting : (c : Command) (got : List ScriptLine) (old : Parts) (reply : Reply) (o : Option Refusal) → is_some o ≡ false → refused_by old (length got) (needs c) ≡ None → Fits c reply
    → Decides c got old reply o
fitting c got old reply None accepts free fits = (free, fits)
fitting c got old reply (Some r) accepts free fits = absurd (false≢true (sym accepts))

pub answered : (c : Command) (taken : List ScriptLine → Type 0) (cut : Type 0) (old : Parts) (before : Option (List ℕ)) (new : Parts) (after : Option (List ℕ)) (reply : Reply) (crashes : (List ℕ → List ℕ → Type 0) → Type 0)
    → Carried c taken cut old before new after (Ok reply) crashes → Steps c taken old before new after reply crashes
answered c taken cut old before new after reply crashes k =
    let a : Accepts c k.0 old before new after reply = k.2 in (
      k.0,
      k.1,
      a.moves,
      λ why is of_read. tells_of_none reply (MayRead c k.0 old) why a.accepted is,
      fitting c k.0 old reply (refusal_of reply) a.accepted a.free a.fits,
      k.3,
    )

pub refused_so : (c : Command) (taken : List ScriptLine → Type 0) (cut : Type 0) (old : Parts) (before : Option (List ℕ)) (new : Parts) (after : Option (List ℕ)) (why : Refusal) (crashes : (List ℕ → List ℕ → Type 0) → Type 0)
    → ((got : List ScriptLine) → crashes (LeavesCommand c got old (Err (halt.Refusal why))) → crashes (LeavesAnswered c got old (replied.Refused why)))
    → Carried c taken cut old before new after (Err (halt.Refusal why)) crashes
    → Steps c taken old before new after (replied.Refused why) crashes
refused_so c taken cut old before new after why crashes widen k =
    let n : Denies c k.0 old before new after why = k.2 in (
      k.0,
      k.1,
      n.moves,
      λ r is of_read. n.reads (ap is_of_read (sym (same_refusal r why is)) ∙ of_read),
      n.decided,
      widen k.0 k.3,
    )

-- ---- the order of refusals

-- the first refusal that follows from what the session keeps is the one that is decided, unless memory lacks for lines
first_decided : (c : Command) (got : List ScriptLine) (old : Parts) (reply : Reply) (o : Option Refusal) (r : Refusal) → refused_by old (length got) (needs c) ≡ Some r → Decides c got old reply o
    → (o ≡ Some r) ⊎ ((is_followed c ≡ true) × (o ≡ Some refusal.OutOfMemory))
first_decided c got old reply None r is (free, fits) = absurd (none-some r (sym free ∙ is))
first_decided c got old reply (Some x) r is (inl first) = inl (sym first ∙ is)
first_decided c got old reply (Some x) r is (inr (inl (late, free))) = absurd (none-some r (sym free ∙ is))
first_decided c got old reply (Some x) r is (inr (inr (lacks, followed))) = inr (followed, ap (λ y. Some y) lacks)

refuses_so : (reply : Reply) (r : Refusal) → refusal_of reply ≡ Some r → reply ≡ replied.Refused r
refuses_so (replied.Refused x) r is = cc
refuses_so (replied.Answered h body) r is = absurd (none-some r is)

-- Whatever the image is, a step answers with the first refusal that follows from what the session keeps, unless memory
-- lacks for the lines of the command.
pub order_kept : (c : Command) (taken : List ScriptLine → Type 0) (old : Parts) (before : Option (List ℕ)) (new : Parts) (after : Option (List ℕ)) (reply : Reply) (crashes : (List ℕ → List ℕ → Type 0) → Type 0)
    → (s : Steps c taken old before new after reply crashes) (r : Refusal) → refused_by old (length s.0) (needs c) ≡ Some r
    → (reply ≡ replied.Refused r) ⊎ ((is_followed c ≡ true) × (reply ≡ replied.Refused refusal.OutOfMemory))
order_kept c taken old before new after reply crashes s r is = by (first_decided c s.0 old reply (refusal_of reply) r is s.4)
  where
    by : (refusal_of reply ≡ Some r) ⊎ ((is_followed c ≡ true) × (refusal_of reply ≡ Some refusal.OutOfMemory))
        → (reply ≡ replied.Refused r) ⊎ ((is_followed c ≡ true) × (reply ≡ replied.Refused refusal.OutOfMemory))
    by (inl first) = inl (refuses_so reply r first)
    by (inr (followed, lacks)) = inr (followed, refuses_so reply refusal.OutOfMemory lacks)
