-- The runs of the machine of parts, from the runs of what carries out its commands.
use Rattle.std.proofs.Common.{◌≡◌, ℕ, Bool, true, false, List, [], ◌∷◌, ◌++◌, Option, Some, None, map, refl, sym, ap, ◌∙◌, subst}
use Rattle.std.specs.Prelude.{if◌then◌else◌, is_some}
use Rattle.std.specs.List.{AllZip, flat_map}
use Rattle.std.proofs.lemmas.List.Sums.{sum_by-cons}
use Rattle.dg_disk.specs.declared.disk.Disk.{Ghosts}
use Rattle.dg_history.specs.History.{History, names_of}
use Rattle.dg_line.specs.PartGrammar.{part_command_of}
use Rattle.dg_machine.specs.declared.command.Command.{Command}
use Rattle.dg_machine.specs.declared.limits.Limits.{Limits}
use Rattle.dg_machine.specs.declared.reply.Refusal.{Refusal}
use Rattle.dg_machine.specs.declared.reply.Reply.{Reply}
use Rattle.dg_machine.specs.declared.reply.Reply.TheVariants as replied
use Rattle.dg_machine.specs.MachineState.{machine_at}
use Rattle.dg_machine.specs.ReplyText.{text}
use Rattle.dg_machine.specs.Run.{is_store_read}
use Rattle.dg_machine.specs.Script.{Entry, Asked, No_command, Long_line}
use Rattle.dg_session.proofs.PartStates.{are_of, instants_are}
use Rattle.dg_session.specs.Damage.{damage_told}
use Rattle.dg_session.specs.SessionState.{SessionState}
use Rattle.dg_text.specs.Lines.{ScriptLine}
use Rattle.dg_turns.specs.declared.machine.Machine as machine
use Rattle.dg_turns.specs.Runs.{Answers, RunOver, Turned, last_world, turn_texts}
use Rattle.dg_part_runs.specs.declared.sessions.PartSessions.{PartSessions}
use Rattle.dg_part_runs.specs.Disks.{ReadsAll, RoseBy, SomeRose, faults_of, images_of}
use Rattle.dg_part_runs.specs.HeldParts.{AreStanding, names_kept, span_kept}
use Rattle.dg_part_runs.specs.PartAnswers.{AnswersPart, state_over}
use Rattle.dg_part_runs.specs.PartDamage.{NamesDamage, damage_in}
use Rattle.dg_part_runs.specs.PartsMachine.{Leaves_grammar, PartsAnswered, PartsRun, PartsStep, Too_long, failed_reads_in, names_of_parts, texts_by, union_shown}
use Rattle.dg_part_runs.specs.PartTimes.{ends_of}
use Rattle.dg_part_runs.proofs.DiskLists.{reads_all_none, reads_all_then, rose_never, rose_once, rose_then, same_images}

-- the names by which the sessions write are those of the first history that has an event
pub names_same : (limits : Limits) (sessions : List SessionState) (told : List (Option (List ℕ))) (zs : List History) → AreStanding limits sessions told zs → names_kept [] sessions ≡ names_of_parts zs
names_same limits [] [] [] all = refl
names_same limits [] [] (z ∷ zs) all = absurd all
names_same limits [] (o ∷ told) zs all = absurd all
names_same limits (s ∷ sessions) [] zs all = absurd all
names_same limits (s ∷ sessions) (o ∷ told) [] all = absurd all
names_same limits (s ∷ sessions) (o ∷ told) (z ∷ zs) all =
    let ends : span_kept s ≡ ends_of z = instants_are s.parts all.0.0 (machine_at limits (Some z)) all.0.2 in
    let names : s.parts.names ≡ names_of z = (are_of (Some z) s.parts all.0.2.kept).names_are in
    let more = names_same limits sessions told zs all.1 in
    λ i. if is_some (ends i) then names i else more i

-- the replies of a run
abbrev pub replies_in : {M W : Type 0} → List (Turned M W) → List Reply
replies_in turns = map (λ t. t.reply) turns

module _ {D W : Type 0} (d : Ghosts D) (items : W → List D) (g : machine.Ghosts PartSessions W)
    (answers_are : (c : Command) (got : List ScriptLine) (m : PartSessions) (w : W) (n : PartSessions) (v : W) (r : Reply) → g.answers c got m w n v r → AnswersPart d c got m (items w) n (items v) r)
    (texts_are : (m : PartSessions) → g.texts m ≡ names_kept m.nameless m.sessions.items) where
  -- what a turn does, whatever the images are
  record KeepsParts (m : PartSessions) (w : W) (t : Turned PartSessions W) : Type 0 where
    sessions : t.machine.sessions.items ≡ m.sessions.items
    nameless : t.machine.nameless ≡ m.nameless
    reads : ReadsAll d (items w) (items t.world)
    store : is_store_read t.reply ≡ true → SomeRose (faults_of d (items w)) (faults_of d (items t.world))

  refuses_keeps : (m : PartSessions) (w : W) (e : Entry) (t : Turned PartSessions W) (r : Refusal) → is_store_read (replied.Refused r) ≡ false → t.reply ≡ replied.Refused r → t.machine ≡ m → t.world ≡ w → KeepsParts m w t
  refuses_keeps m w e t r quiet is same_m same_w = record {
    sessions = ap (λ (x : PartSessions). x.sessions.items) same_m;
    nameless = ap (λ (x : PartSessions). x.nameless) same_m;
    reads = subst (λ (x : W). ReadsAll d (items w) (items x)) (sym same_w) (reads_all_none d (items w));
    store = λ says. absurd (let f : true ≡ false = sym says ∙ ap is_store_read is ∙ quiet in cc);
  }

  keeps : (m : PartSessions) (w : W) (e : Entry) (t : Turned PartSessions W) → Answers g part_command_of m w e t → KeepsParts m w t
  keeps m w (Asked c got) t answers =
      let a = answers_are c got m w t.machine t.world t.reply answers in
      record { sessions = a.sessions; nameless = a.nameless; reads = a.reads; store = a.store_read }
  keeps m w (No_command line) t (r, (column, is_column, is_syntax), is, same_m, same_w) =
      refuses_keeps m w (No_command line) t r (ap (λ (x : Refusal). is_store_read (replied.Refused x)) is_syntax) is same_m same_w
  keeps m w Long_line t (r, is_long, is, same_m, same_w) = refuses_keeps m w Long_line t r (ap (λ (x : Refusal). is_store_read (replied.Refused x)) is_long) is same_m same_w

  pub run_reads : (m : PartSessions) (w : W) (entries : List Entry) (turns : List (Turned PartSessions W)) → RunOver g part_command_of m w entries turns → ReadsAll d (items w) (items (last_world w turns))
  run_reads m w [] [] run = reads_all_none d (items w)
  run_reads m w [] (t ∷ turns) run = absurd run
  run_reads m w (e ∷ entries) [] run = absurd run
  run_reads m w (e ∷ entries) (t ∷ turns) run =
      reads_all_then d (items w) (items t.world) (items (last_world t.world turns)) (keeps m w e t run.0).reads (run_reads t.machine t.world entries turns run.1)

  -- what its reply says of damage
  refused_quiet : (t : Turned PartSessions W) (r : Refusal) → damage_told (Some r) ≡ None → t.reply ≡ replied.Refused r → damage_in t.reply ≡ None
  refused_quiet t r none is = ap damage_in is ∙ none

  names : (m : PartSessions) (w : W) (e : Entry) (t : Turned PartSessions W) → Answers g part_command_of m w e t → NamesDamage m.sessions.items (images_of d (items w)) e t.reply
  names m w (Asked c got) t answers = (answers_are c got m w t.machine t.world t.reply answers).damage
  names m w (No_command line) t (r, (column, is_column, is_syntax), is, same_m, same_w) = refused_quiet t r (ap (λ (x : Refusal). damage_told (Some x)) is_syntax) is
  names m w Long_line t (r, is_long, is, same_m, same_w) = refused_quiet t r (ap (λ (x : Refusal). damage_told (Some x)) is_long) is

  -- what the replies of a run say of damage
  pub run_names : (m : PartSessions) (w : W) (entries : List Entry) (turns : List (Turned PartSessions W)) → RunOver g part_command_of m w entries turns
      → AllZip (NamesDamage m.sessions.items (images_of d (items w))) entries (replies_in turns)
  run_names m w [] [] run = tt
  run_names m w [] (t ∷ turns) run = absurd run
  run_names m w (e ∷ entries) [] run = absurd run
  run_names m w (e ∷ entries) (t ∷ turns) run =
      let k = keeps m w e t run.0 in (
        names m w e t run.0,
        subst (λ (told : List (Option (List ℕ))). AllZip (NamesDamage m.sessions.items told) entries (replies_in turns)) (same_images d (items w) (items t.world) k.reads)
            (subst (λ (sessions : List SessionState). AllZip (NamesDamage sessions (images_of d (items t.world))) entries (replies_in turns)) k.sessions (run_names t.machine t.world entries turns run.1)),
      )

  -- and their texts, by the names with which it began
  pub run_texts : (m : PartSessions) (w : W) (entries : List Entry) (turns : List (Turned PartSessions W)) → RunOver g part_command_of m w entries turns
      → turn_texts g turns ≡ flat_map (text (names_kept m.nameless m.sessions.items)) (replies_in turns)
  run_texts m w [] [] run = refl
  run_texts m w [] (t ∷ turns) run = absurd run
  run_texts m w (e ∷ entries) [] run = absurd run
  run_texts m w (e ∷ entries) (t ∷ turns) run =
      let k = keeps m w e t run.0 in
      let kept : names_kept t.machine.nameless t.machine.sessions.items ≡ names_kept m.nameless m.sessions.items = λ i. names_kept (k.nameless i) (k.sessions i) in
      let here = texts_are t.machine ∙ kept in
      let more = run_texts t.machine t.world entries turns run.1 ∙ ap (λ (ns : List (List ℕ)). flat_map (text ns) (replies_in turns)) kept in
      λ i. text (here i) t.reply ++ more i

  module _ (limits : Limits) (zs : List History) where
    abbrev Stand : PartSessions → W → Type 0
    Stand m w = AreStanding limits m.sessions.items (images_of d (items w)) zs

    abbrev StepsTo : PartSessions → Entry → Reply → PartSessions → Type 0
    StepsTo m e reply n = PartsStep (union_shown zs) (state_over limits m zs) e reply (state_over limits n zs)

    stays : (m : PartSessions) (w : W) (t : Turned PartSessions W) → KeepsParts m w t → Stand m w → Stand t.machine t.world
    stays m w t k stand =
        subst (λ (told : List (Option (List ℕ))). AreStanding limits t.machine.sessions.items told zs) (sym (same_images d (items w) (items t.world) k.reads))
        (subst (λ (sessions : List SessionState). AreStanding limits sessions (images_of d (items w)) zs) (sym k.sessions) stand)

    refused_step : (m : PartSessions) (e : Entry) (t : Turned PartSessions W) (r : Refusal) → StepsTo m e (replied.Refused r) m → t.reply ≡ replied.Refused r → t.machine ≡ m → StepsTo m e t.reply t.machine
    refused_step m e t r step is same = subst (λ (x : Reply). StepsTo m e x t.machine) (sym is) (subst (λ (x : PartSessions). StepsTo m e (replied.Refused r) x) (sym same) step)

    steps : (m : PartSessions) (w : W) (e : Entry) (t : Turned PartSessions W) → Stand m w → Answers g part_command_of m w e t → StepsTo m e t.reply t.machine
    steps m w (Asked c got) t stand answers =
        let a = answers_are c got m w t.machine t.world t.reply answers in
        subst (λ (lines : List ScriptLine). StepsTo m (Asked c lines) t.reply t.machine) (sym a.none) (a.steps limits zs stand)
    steps m w (No_command line) t stand (r, (column, is_column, is_syntax), is, same_m, same_w) =
        refused_step m (No_command line) t r
        (subst (λ (x : Refusal). StepsTo m (No_command line) (replied.Refused x) m) (sym is_syntax) (Leaves_grammar line column is_column)) is same_m
    steps m w Long_line t stand (r, is_long, is, same_m, same_w) =
        refused_step m Long_line t r (subst (λ (x : Refusal). StepsTo m Long_line (replied.Refused x) m) (sym is_long) Too_long) is same_m

    -- the run as one of the machine of parts
    pub record IsRunOf (m : PartSessions) (w : W) (entries : List Entry) (turns : List (Turned PartSessions W)) : Type 0 where
      pub answers : List PartsAnswered
      pub run : PartsRun (union_shown zs) (state_over limits m zs) entries answers
      pub texts : turn_texts g turns ≡ texts_by (names_of_parts zs) answers
      pub failed : RoseBy (failed_reads_in answers) (faults_of d (items w)) (faults_of d (items (last_world w turns)))

    abbrev failed_in : Bool → ℕ
    failed_in b = if b then 1 else 0

    rose_here : (b : Bool) (m : PartSessions) (w : W) (t : Turned PartSessions W) → KeepsParts m w t → is_store_read t.reply ≡ b → RoseBy (failed_in b) (faults_of d (items w)) (faults_of d (items t.world))
    rose_here true m w t k is = rose_once d (items w) (items t.world) k.reads (k.store is)
    rose_here false m w t k is = rose_never d (items w) (items t.world) k.reads

    pub run_of : (m : PartSessions) (w : W) (entries : List Entry) (turns : List (Turned PartSessions W)) → Stand m w → m.nameless ≡ [] → RunOver g part_command_of m w entries turns → IsRunOf m w entries turns
    run_of m w [] [] stand none run = record { answers = []; run = tt; texts = refl; failed = rose_never d (items w) (items w) (reads_all_none d (items w)) }
    run_of m w [] (t ∷ turns) stand none run = absurd run
    run_of m w (e ∷ entries) [] stand none run = absurd run
    run_of m w (e ∷ entries) (t ∷ turns) stand none run =
        let k = keeps m w e t run.0 in
        let then_none : t.machine.nameless ≡ [] = k.nameless ∙ none in
        let then_stand = stays m w t k stand in
        let more = run_of t.machine t.world entries turns then_stand then_none run.1 in
        let names : g.texts t.machine ≡ names_of_parts zs =
        texts_are t.machine ∙ ap (λ (l : List (List ℕ)). names_kept l t.machine.sessions.items) then_none
        ∙ names_same limits t.machine.sessions.items (images_of d (items t.world)) zs then_stand in
        record {
          answers = record { reply = t.reply; state = state_over limits t.machine zs } ∷ more.answers;
          run = (steps m w e t stand run.0, more.run);
          texts = λ i. text (names i) t.reply ++ more.texts i;
          failed = rose_then (failed_in (is_store_read t.reply)) (failed_reads_in more.answers) _ (faults_of d (items w)) (faults_of d (items t.world)) (faults_of d (items (last_world t.world turns)))
              (sum_by-cons (λ (a : PartsAnswered). if is_store_read a.reply then 1 else 0) (record { reply = t.reply; state = state_over limits t.machine zs }) more.answers)
              (rose_here (is_store_read t.reply) m w t k refl) more.failed;
        }
