-- The answer of `verify`: an image that the session stands for is sound.
use Rattle.std.proofs.Common.{◌≡◌, ℕ, ◌+◌, ◌≤◌, Bool, true, false, List, [], ◌∷◌, ◌++◌, Option, Some, None, Result, Ok, Err, drop, length, map, take, refl, sym, ◌∙◌, ap, subst, arith, length-append}
use Rattle.std.specs.Prelude.{IfOk, IfSome, sum_by}
use Rattle.std.specs.List.{flat_map}
use Rattle.std.specs.Map.{lookup}
use Rattle.std.proofs.lemmas.Bool.{false≢true}
use Rattle.std.proofs.lemmas.List.{take-append-drop}
use Rattle.std.proofs.lemmas.List.Sums.{sum_by-cons}
use Rattle.dg_append.proofs.OlderGroupSets.{some_map}
use Rattle.dg_ask.proofs.HeldIndexHistory.{count_is}
use Rattle.dg_fold.specs.BytesRead.{TakesAtMost}
use Rattle.dg_graph.specs.declared.event.Event.{Event}
use Rattle.dg_text.specs.Lines.{ScriptLine}
use Rattle.dg_history.specs.History.{Batch, History, events_of}
use Rattle.dg_history.specs.declared.form.Form.{Form}
use Rattle.dg_history.specs.declared.form.Form.TheVariants as form
use Rattle.dg_history.specs.declared.node.Key.{Key}
use Rattle.dg_history.specs.declared.node.Key.TheVariants as key
use Rattle.dg_history.specs.declared.params.Params.{Params}
use Rattle.dg_history.specs.Keys.{same_key}
use Rattle.dg_history.specs.LegalHistory.{IsLegal}
use Rattle.dg_index.specs.declared.entry.Entry.{Entry}
use Rattle.dg_index.specs.FileOfHistory.{segment_of}
use Rattle.dg_index.specs.Hierarchy.{numbers}
use Rattle.dg_index.specs.IndexRecords.{keys_of}
use Rattle.dg_index.specs.OpenedIndex.{Opened, Opening, bare, directory_of, entry_at, entry_or_none, event_total, opened_in, opened_of, opened_onto, total, with_marker, with_segment}
use Rattle.dg_index.proofs.OpenedIndexRecords.{told_at}
use Rattle.dg_machine.specs.declared.command.Command.{Command}
use Rattle.dg_machine.specs.declared.command.Command.TheVariants as command
use Rattle.dg_machine.specs.declared.reply.Head.TheVariants as head
use Rattle.dg_machine.specs.declared.reply.Refusal.{Refusal}
use Rattle.dg_machine.specs.declared.reply.Refusal.TheVariants as refusal
use Rattle.dg_machine.specs.declared.reply.Reply.{Reply}
use Rattle.dg_machine.specs.declared.reply.Reply.TheVariants as replied
use Rattle.dg_machine.specs.Answer.{headed, is_refusal, verify_reply}
use Rattle.dg_machine.specs.MachineState.{MachineState, history_in}
use Rattle.dg_machine.specs.Needs.{needs}
use Rattle.dg_sound.specs.declared.soundness.Soundness.{Soundness}
use Rattle.dg_sound.specs.declared.soundness.Soundness.TheVariants.{Sound}
use Rattle.dg_sound.specs.Soundness.{record_total, soundness_of}
use Rattle.dg_sound_files.specs.SoundFiles.{StandingFilesAreSound}
use Rattle.dg_index.proofs.OpenedLegalHistories.{behind}
use Rattle.dg_session.proofs.ReplyNames.{head_names, names_stay}
use Rattle.dg_session.proofs.SessionRetrievals.{every_some}
use Rattle.dg_session.proofs.PartStates.{IsOf, is_of, one_image, one_told, stands_on}
use Rattle.dg_session.proofs.SessionSteps.{failing_accepted, lacking_denies, moved}
use Rattle.dg_session.specs.Damage.{DamageIn}
use Rattle.dg_session.specs.Decided.{Fits}
use Rattle.dg_session.specs.Parts.{Parts}
use Rattle.dg_session.specs.BatchReads.{is_early}
use Rattle.dg_session.specs.HistoryBytes.{record_length, records_length}
use Rattle.dg_session.specs.Reads.{Reads, ReadsBy, ReadsIn, ReadsRecords}
use Rattle.dg_session.specs.Session.{Accepts, ComesTo, StandsFor, refused_by}
use Rattle.dg_session.specs.Verified.{IsOfFile, VerifiesBy, VerifiesFile, is_verify, verify_halt}
use Rattle.dg_stored.specs.StoredHistory.{IsHeldBy}
use Rattle.dg_verify.specs.declared.fault.VerifyFault.{VerifyFault}
use Rattle.dg_verify.specs.declared.fault.VerifyFault.TheVariants as fault
use Rattle.dg_verify.specs.RecordBytes.{columns_bytes, records_bytes}

-- how an image is opened, where the session keeps this index and these names
abbrev pub kept_opened : Parts → Opening → Opened
kept_opened p o = record { index = o; names = p.names }

-- what is kept is what the image of the history is opened as
pub opened_is : (p : Parts) (o : Opening) (image : List ℕ) (m : MachineState) (z : History) → IsOf p o image m z → kept_opened p o ≡ opened_of z
opened_is p o image m z h = λ i. record { index = h.opened i; names = (h.names ∙ sym (behind z h.stands.legal).names_are) i }

-- the image of a history is sound
due : StandingFilesAreSound → (p : Parts) (o : Opening) (image : List ℕ) (m : MachineState) (z : History) → IsOf p o image m z
    → soundness_of image (kept_opened p o) ≡ Sound (record_total z.params (length (events_of z)))
due law p o image m z h = ap (soundness_of image) (opened_is p o image m z h) ∙ (law z image h.stands).1

answers_over : StandingFilesAreSound → (p q : Parts) (before after : Option (List ℕ)) (o : Opening) (s : Soundness) (reply : Reply) → p.index ≡ Some o → refused_by p 0 (needs command.Verify) ≡ None → q ≡ p → after ≡ before
    → IfSome before (λ image. s ≡ soundness_of image (kept_opened p o)) → reply ≡ headed (head.Verified s) → Accepts command.Verify [] p before q after reply
answers_over law p q before after o s reply there free same same_image sound is = record {
  moves =
      moved command.Verify [] p q before after reply (λ m. refl) free
      (λ m x y a b st none.
      let found = is_of p o x m there st in
      let z : History = found.0 in
      let h : IsOf p o x m z = found.1 in
      let told : s ≡ soundness_of x (kept_opened p o) = one_told before (λ image. s ≡ soundness_of image (kept_opened p o)) x sound a in
      let says : reply ≡ verify_reply (history_in m.index) =
      is ∙ ap (λ (k : Soundness). headed (head.Verified k)) (told ∙ due law p o x m z h) ∙ sym (ap (λ (i : Option History). verify_reply (history_in i)) h.index) in (
        m,
        (λ i. record { reply = sym says i; state = m }),
        stands_on p q x y m same (one_image before after x y same_image a b) st,
      ));
  accepted = ap is_refusal is;
  free = free;
  fits = subst (Fits command.Verify) (sym is) tt;
  held = λ h.
      subst (λ (x : Parts). IfSome after (λ image. IsHeldBy x.index x.names image)) (sym same)
      (subst (λ (t : Option (List ℕ)). IfSome t (λ image. IsHeldBy p.index p.names image)) (sym same_image) h);
  no_index = λ none. (ap (λ (x : Parts). x.index) (sym same) ∙ none, same_image);
  quiet = λ h. same_image;
  named = head_names (length q.names) (head.Verified s) reply is;
  keeps_names = names_stay p.names q.names (ap (λ (x : Parts). x.names) same);
}

pub verify_answers : StandingFilesAreSound → (p q : Parts) (before after : Option (List ℕ)) (s : Soundness) (reply : Reply) → refused_by p 0 (needs command.Verify) ≡ None → q ≡ p → after ≡ before
    → IsOfFile p before s → reply ≡ headed (head.Verified s) → Accepts command.Verify [] p before q after reply
verify_answers law p q before after s reply free same same_image file is = answers_over law p q before after file.0 s reply file.1 free same same_image file.2 is

-- what is said over what the session has in memory
pub sound_over : (p : Parts) (o : Opening) (names : List (List ℕ)) (told : Option (List ℕ)) (r : Result Soundness VerifyFault) → p.index ≡ Some o → names ≡ p.names
    → IfOk r (λ s. IfSome told (λ image. s ≡ soundness_of image (record { index = o; names = names }))) → IfOk r (λ s. IsOfFile p told s)
sound_over p o names told (Err f) there same sound = tt
sound_over p o names told (Ok s) there same sound =
    (o, there, subst (λ (ns : List (List ℕ)). IfSome told (λ image. s ≡ soundness_of image (record { index = o; names = ns }))) same sound)

-- the file was not verified
pub verify_failed : (p q : Parts) (before after : Option (List ℕ)) (f : VerifyFault) → refused_by p 0 (needs command.Verify) ≡ None → q ≡ p → after ≡ before
    → ComesTo command.Verify [] p before q after (Err (verify_halt f))
verify_failed p q before after fault.Disk free same same_image = failing_accepted command.Verify [] p q before after same same_image refl free (λ m. refl)
verify_failed p q before after fault.Memory free same same_image = lacking_denies command.Verify [] p q before after same same_image refl free

pub failed_damage : (p : Parts) (image : Option (List ℕ)) (f : VerifyFault) → DamageIn command.Verify p image (Err (verify_halt f))
failed_damage p image fault.Disk = tt
failed_damage p image fault.Memory = tt

-- ---- what it reads

-- nothing was read, so nothing more than all records have
none_read : (n before after : ℕ) → after ≡ before → TakesAtMost n before after
none_read n before after same = omega (arith, same)

-- the keys of an index of so many events and batches
abbrev record_keys : Params → ℕ → ℕ → List Key
record_keys p n batches = keys_of p n ++ map (λ s. key.Piece s) (numbers 0 batches)

-- an index tells of each batch
onto_many : (p : Params) (batches : List Batch) (x : Opened) (before : List Event) → length (opened_onto p x before batches).index.batches ≡ length x.index.batches + length batches
onto_many p [] x before = omega arith
onto_many p (b ∷ more) x before =
    let later = onto_many p more (with_segment x (segment_of p before b)) (before ++ b.events) in
    let one = length-append x.index.batches ((directory_of (segment_of p before b)).batch ∷ []) in
    omega (arith, later, one)

batches_many : (f : Form) (p : Params) (batches : List Batch) → length (opened_in f p batches).index.batches ≡ length batches
batches_many form.One p batches = let all = onto_many p batches (bare form.One p) [] in omega (arith, all)
batches_many form.Two p batches = let all = onto_many p batches (bare form.Two p) [] in omega (arith, all)
batches_many (form.Upgraded n) p batches =
    let first : Opened = opened_onto p (bare form.One p) [] (take n batches) in
    let front = onto_many p (take n batches) (bare form.One p) [] in
    let back = onto_many p (drop n batches) (with_marker first) (flat_map (λ (b : Batch). b.events) (take n batches)) in
    let whole = length-append (take n batches) (drop n batches) in
    omega (arith, front, back, whole, ap length (take-append-drop n batches))

-- the records of the history have what its index tells
module _ (z : History) (legal : IsLegal z) where
  record_told : (k : Key) → total (entry_at (opened_of z).index k).lengths ≤ record_length z k
  record_told k = by (lookup (same_key k) (opened_of z).index.records) refl
    where
      by : (e : Option Entry) → lookup (same_key k) (opened_of z).index.records ≡ e → total (entry_or_none e).lengths ≤ record_length z k
      by None is = omega arith
      by (Some e) is = let same = ap total (told_at z legal k e is).0 in omega (arith, same)

  all_told : (keys : List Key) → columns_bytes (opened_of z).index keys ≤ sum_by (record_length z) keys
  all_told [] = omega arith
  all_told (k ∷ keys) =
      let here = sum_by-cons (λ k. total (entry_at (opened_of z).index k).lengths) k keys in
      let due = sum_by-cons (record_length z) k keys in
      omega (arith, here, due, record_told k, all_told keys)

  pub records_told : records_bytes (opened_of z).index ≤ records_length z
  records_told =
      let n : event_total (opened_of z).index.batches ≡ length (events_of z) = count_is z legal in
      let same : record_keys (opened_of z).index.params (event_total (opened_of z).index.batches) (length (opened_of z).index.batches) ≡ record_keys z.params (length (events_of z)) (length z.batches) =
      λ i. record_keys ((behind z legal).params i) (n i) (batches_many z.form z.params z.batches i) in
      subst (λ (ks : List Key). columns_bytes (opened_of z).index ks ≤ records_length z) (sym same)
      (all_told (record_keys z.params (length (events_of z)) (length z.batches)))

-- over an image that the session stands for no more than all records of the history
records_read : (p : Parts) (image : Option (List ℕ)) (before after : ℕ) → ReadsRecords p image before after
    → IfSome image (λ bytes. (m : MachineState) → StandsFor p bytes m → TakesAtMost (records_length (history_in m.index)) before after)
records_read p None before after reads = tt
records_read p (Some x) before after reads =
    λ m s.
    let found = is_of p reads.0 x m reads.1 s in
    let z : History = found.0 in
    let h : IsOf p reads.0 x m z = found.1 in
    let most : TakesAtMost (records_bytes reads.0) before after = reads.2 in
    let opened : records_bytes reads.0 ≡ records_bytes (opened_of z).index = ap records_bytes h.opened in
    let less = records_told z h.stands.legal in
    subst (λ (i : Option History). TakesAtMost (records_length (history_in i)) before after) (sym h.index) (omega (arith, most, opened, less))

verify_reads : (p : Parts) (image : Option (List ℕ)) (reply : Reply) (before after : ℕ) → (is_early reply ≡ true → after ≡ before)
    → IfSome image (λ bytes. (m : MachineState) → StandsFor p bytes m → TakesAtMost (records_length (history_in m.index)) before after) → Reads command.Verify p image reply before after
verify_reads p image reply before after early told = record {
  told = λ reads.
      some_map image (λ bytes. (m : MachineState) → StandsFor p bytes m → TakesAtMost (records_length (history_in m.index)) before after)
      (λ bytes. (m : MachineState) → StandsFor p bytes m → (got : List ScriptLine) → ReadsBy m command.Verify got reply before after) (λ bytes most m s got. most m s) told;
  early = early;
  nothing = λ e. absurd (false≢true (sym e));
}

-- one that is refused before has read nothing
pub verify_unread : (p : Parts) (image : Option (List ℕ)) (reply : Reply) (before after : ℕ) → after ≡ before → Reads command.Verify p image reply before after
verify_unread p image reply before after same =
    verify_reads p image reply before after (λ e. same)
    (every_some image (λ bytes. (m : MachineState) → StandsFor p bytes m → TakesAtMost (records_length (history_in m.index)) before after)
    (λ bytes m s. none_read (records_length (history_in m.index)) before after same))

pub verified_reads : (p : Parts) (image : Option (List ℕ)) (s : Soundness) (before after : ℕ) → ReadsRecords p image before after → Reads command.Verify p image (headed (head.Verified s)) before after
verified_reads p image s before after reads = verify_reads p image (headed (head.Verified s)) before after (λ e. absurd (false≢true e)) (records_read p image before after reads)

pub failed_reads : (p : Parts) (image : Option (List ℕ)) (f : VerifyFault) (before after : ℕ) → ReadsRecords p image before after → ReadsIn command.Verify p image (Err (verify_halt f)) before after
failed_reads p image fault.Disk before after reads = verify_reads p image (replied.Refused refusal.StoreRead) before after (λ e. absurd (false≢true e)) (records_read p image before after reads)
failed_reads p image fault.Memory before after reads = verify_reads p image (replied.Refused refusal.OutOfMemory) before after (λ e. absurd (false≢true e)) (records_read p image before after reads)

-- ---- of all commands

none_verified : (verifies : Bool) (p : Parts) (image : Option (List ℕ)) → VerifiesBy verifies p image None
none_verified false p image = tt
none_verified true p image = tt

-- a refusal says nothing of the file
pub refused_verifies : (c : Command) (p : Parts) (image : Option (List ℕ)) (r : Refusal) → VerifiesFile c p image (replied.Refused r)
refused_verifies c p image r = none_verified (is_verify c) p image

-- a command that does not verify says nothing of it
pub unverified : (verifies : Bool) (p : Parts) (image : Option (List ℕ)) (told : Option Soundness) → verifies ≡ false → VerifiesBy verifies p image told
unverified false p image told e = tt
unverified true p image told e = absurd (false≢true (sym e))
