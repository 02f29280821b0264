-- The promise of a run over parts, from its start and from the run over the script.
use Rattle.std.proofs.Common.{arith, ◌≡◌, ℕ, ◌+◌, ◌<◌, ◌≤◌, ◌⊎◌, inl, inr, length-append, Vec, true, false, List, [], ◌∷◌, ◌++◌, Option, Some, None, IfSome, length, map, refl, sym, ap, ◌∙◌, subst}
use Rattle.std.specs.List.{AllZip, flat_map}
use Rattle.std.specs.Vec.{with_items}
use Rattle.std.proofs.lemmas.List.{with_items_is}
use Rattle.dg_disk.specs.Calls.{SyncsDisk}
use Rattle.dg_disk.specs.declared.disk.Disk.{Ghosts}
use Rattle.dg_graph.specs.declared.element.Columns.{Columns}
use Rattle.dg_graph.specs.declared.element.Element.{Element}
use Rattle.dg_graph.specs.DifferentialFunction.{all_of}
use Rattle.dg_graph.specs.Replay.{shown_at}
use Rattle.dg_history.specs.History.{History, events_of}
use Rattle.dg_history.specs.LegalHistory.{IsLegal}
use Rattle.dg_index.specs.Hierarchy.{numbers}
use Rattle.dg_io.specs.Told.{CountRose, Gives}
use Rattle.dg_line.specs.PartGrammar.{part_command_of}
use Rattle.dg_machine.specs.declared.command.Command.{Command}
use Rattle.dg_machine.specs.declared.limits.Limits.{Limits}
use Rattle.dg_machine.specs.declared.reply.Reply.{Reply}
use Rattle.dg_machine.specs.ReplyText.{text}
use Rattle.dg_machine.specs.Script.{Entry}
use Rattle.dg_partition.specs.HistoryParts.{part_of}
use Rattle.dg_partition.specs.PartLaws.{PartsMakeTheWholeWithin}
use Rattle.dg_partition.specs.PartRanges.{shown_within}
use Rattle.dg_session.specs.declared.session_fault.SessionFault.{SessionFault}
use Rattle.dg_text.specs.Lines.{ScriptLine}
use Rattle.dg_turns.specs.declared.end.End.{End}
use Rattle.dg_turns.specs.declared.end.End.TheVariants as end
use Rattle.dg_turns.specs.declared.machine.Machine as machine
use Rattle.dg_turns.specs.Ends.{EndsFor, GainsFor, LeavesFor, Ran, Streams}
use Rattle.dg_turns.specs.Runs.{last_machine, last_world}
use Rattle.dg_part_runs.specs.declared.sessions.PartSessions.{PartSessions}
use Rattle.dg_part_runs.specs.declared.status.PartsStatus.{PartsStatus}
use Rattle.dg_part_runs.specs.declared.status.PartsStatus.TheVariants as status
use Rattle.dg_part_runs.specs.Disks.{ReadsAll, RoseBy, SomeRose, SyncsAll, faults_of, images_of}
use Rattle.dg_part_runs.specs.HeldParts.{AreParts, AreStanding, names_kept}
use Rattle.dg_part_runs.specs.PartAnswers.{AnswersPart, AreReady, state_over}
use Rattle.dg_part_runs.specs.PartDamage.{DamageIsNamed, NamesDamage}
use Rattle.dg_part_runs.specs.PartsMachine.{PartsRun, PartsState, failed_reads_in, parts_at, union_shown}
use Rattle.dg_part_runs.specs.PartsOutside.{PartsOutside}
use Rattle.dg_part_runs.specs.PartsPromised.{NoneFailed, PartsPromised}
use Rattle.dg_part_runs.specs.PartsServed.{AreImagesOf, PartsServed}
use Rattle.dg_part_runs.specs.PartsStatuses.{is_run, status_of}
use Rattle.dg_part_runs.specs.PartStarts.{StartsSo}
use Rattle.dg_part_runs.specs.StartedParts.{AreBegun, AreNotBegun}
use Rattle.dg_part_runs.proofs.DiskLists.{rose_synced, rose_then, same_images, same_synced_images}
use Rattle.dg_part_runs.proofs.PartBegins.{are_parts, standing}
use Rattle.dg_part_runs.proofs.ZippedLists.{zip_length}
use Rattle.dg_part_runs.proofs.PartDamages.{are_begun}
use Rattle.dg_part_runs.proofs.PartRuns.{IsRunOf, replies_in, run_names, run_of, run_reads, run_texts}
use Rattle.dg_part_runs.proofs.WholeRuns.{run_as}

-- what streams tell, with what the disks of the parts do
abbrev pub outside_of : Streams → List (Option (List ℕ)) → List ℕ → PartsOutside
outside_of a images faults = record {
  left = a.left;
  source_faults = a.source_faults;
  written = a.written;
  sink_faults = a.sink_faults;
  images = images;
  disk_faults = faults;
}

if_some_all : (o : Option (List ℕ)) (P : List ℕ → Type 0) → ((x : List ℕ) → P x) → IfSome o P
if_some_all None P each = tt
if_some_all (Some x) P each = each x

-- what is written back behind a call that took a slice of the whole
pub written_back : {X Z : Type 0} (v : Vec X Z) (seen ws : List X) → seen ≡ v.items → length ws ≡ length seen → (with_items v ws).items ≡ ws
written_back v seen ws is same = with_items_is v ws (same ∙ ap length is ∙ sym v.ok.0)

synced_length : {D : Type 0} (d : Ghosts D) (old new : List D) → SyncsAll d old new → length new ≡ length old
synced_length d old new all = sym (zip_length (SyncsDisk d) old new all)

pub disks_back : {D Z : Type 0} (d : Ghosts D) (v : Vec D Z) (seen ws : List D) → seen ≡ v.items → SyncsAll d seen ws → (with_items v ws).items ≡ ws
disks_back d v seen ws is all = written_back v seen ws is (synced_length d seen ws all)

-- the parts are ready for the first command
pub ready_of : {D : Type 0} (d : Ghosts D) (limits : Limits) (old mid : List D) (m : PartSessions) → AreBegun limits (images_of d old) m → SyncsAll d old mid → AreReady d m mid
ready_of d limits old mid m begun synced = record {
  limits = limits;
  parts = subst (λ (told : List (Option (List ℕ))). AreParts limits m.sessions.items told) (sym (same_synced_images d old mid synced)) (are_parts limits m.sessions.items (images_of d old) begun.started);
  nameless = begun.nameless;
}

-- ---- no run began

module _ (limits : Limits) (a : Streams) (told images : List (Option (List ℕ))) (faults later : List ℕ) (s : PartsStatus) where
  no_run : is_run s ≡ false → (t : PartsStatus) → is_run t ≡ true → s ≡ t → ⊥
  no_run unbegun t run is = absurd (let e : true ≡ false = sym run ∙ ap is_run (sym is) ∙ unbegun in cc)

  completes_unbegun : (t : PartsStatus) → s ≡ t → AreNotBegun told s → (s ≡ status.DiskFault → SomeRose faults later) → NoneFailed (outside_of a told faults) (outside_of a images later)
      → (zs : List History) → AreImagesOf told zs → ((part : ℕ) → s ≡ status.Mismatch part → ⊥) → (s ≡ status.Done) ⊎ (s ≡ status.NoMemory)
  completes_unbegun status.Done at n cause none zs is agree = inl at
  completes_unbegun status.SourceFault at n cause none zs is agree = absurd (no_run n.unbegun status.SourceFault refl at)
  completes_unbegun status.SinkFault at n cause none zs is agree = absurd (no_run n.unbegun status.SinkFault refl at)
  completes_unbegun status.ScriptLimit at n cause none zs is agree = absurd (no_run n.unbegun status.ScriptLimit refl at)
  completes_unbegun status.DiskFault at n cause none zs is agree = absurd (none.disks (cause at))
  completes_unbegun status.NoMemory at n cause none zs is agree = inr at
  completes_unbegun (status.Refused part f) at n cause none zs is agree = absurd (n.never_refused zs is part f at)
  completes_unbegun (status.NoIndex part) at n cause none zs is agree = absurd (n.never_blank zs is part at)
  completes_unbegun (status.Mismatch part) at n cause none zs is agree = absurd (agree part at)

  pub promised_unbegun : AreNotBegun told s → images ≡ told → (s ≡ status.DiskFault → SomeRose faults later) → PartsPromised limits s (outside_of a told faults) (outside_of a images later)
  promised_unbegun n same cause = record {
    served = λ run zs is. absurd (let e : true ≡ false = sym run ∙ n.unbegun in cc);
    whole = λ run z legal p some is. absurd (let e : true ≡ false = sym run ∙ n.unbegun in cc);
    damage = λ run. absurd (let e : true ≡ false = sym run ∙ n.unbegun in cc);
    starts = n.starts;
    never_refused = n.never_refused;
    never_blank = n.never_blank;
    images = same;
    unbegun = λ is. record { left = refl; source_faults = refl; written = refl; sink_faults = refl };
    done = λ is. absurd (no_run n.unbegun status.Done refl is);
    source_fault = λ is. absurd (no_run n.unbegun status.SourceFault refl is);
    sink_fault = λ is. absurd (no_run n.unbegun status.SinkFault refl is);
    disk_fault = cause;
    script_limit = λ is. absurd (no_run n.unbegun status.ScriptLimit refl is);
    completes = λ none zs is agree. if_some_all a.left (λ script. length script < limits.script_bytes → (s ≡ status.Done) ⊎ (s ≡ status.NoMemory))
        (λ script few. completes_unbegun s refl n cause none zs is agree);
  }

-- ---- a run began

map-map : {A B C : Type 0} (f : B → C) (h : A → B) (xs : List A) → map f (map h xs) ≡ map (λ x. f (h x)) xs
map-map f h [] = refl
map-map f h (x ∷ xs) = ap (λ l. f (h x) ∷ l) (map-map f h xs)

whole_shown : PartsMakeTheWholeWithin → (z : History) → IsLegal z → (p t : ℕ) (cols : Columns) → 1 ≤ p → cols.transient ≡ false
    → union_shown (map (λ i. part_of z i p) (numbers 0 p)) t cols ≡ shown_at (events_of z) t cols
whole_shown law z legal p t cols some silent =
    ap all_of (map-map (λ (y : History). shown_within (events_of y) t cols) (λ i. part_of z i p) (numbers 0 p)) ∙ law z legal p t cols some silent

starts_at : (e : End) (images : List (List ℕ)) → StartsSo images status.Done → StartsSo images (status_of e)
starts_at end.Done images is = is
starts_at end.SourceFault images is = is
starts_at end.SinkFault images is = is
starts_at end.ScriptLimit images is = is
starts_at end.Broken images is = tt

not_refused : (e : End) (part : ℕ) (f : SessionFault) → status_of e ≡ status.Refused part f → ⊥
not_refused end.Done part f is = absurd (cc)
not_refused end.SourceFault part f is = absurd (cc)
not_refused end.SinkFault part f is = absurd (cc)
not_refused end.ScriptLimit part f is = absurd (cc)
not_refused end.Broken part f is = absurd (cc)

not_blank : (e : End) (part : ℕ) → status_of e ≡ status.NoIndex part → ⊥
not_blank end.Done part is = absurd (cc)
not_blank end.SourceFault part is = absurd (cc)
not_blank end.SinkFault part is = absurd (cc)
not_blank end.ScriptLimit part is = absurd (cc)
not_blank end.Broken part is = absurd (cc)

done_for : (limit : ℕ) (a b : Streams) (e : End) → EndsFor limit e a b → status_of e ≡ status.Done → IfSome a.left (λ script. length script < limit)
done_for limit a b end.Done ends is = ends
done_for limit a b end.SourceFault ends is = absurd (cc)
done_for limit a b end.SinkFault ends is = absurd (cc)
done_for limit a b end.ScriptLimit ends is = absurd (cc)
done_for limit a b end.Broken ends is = absurd (cc)

source_for : (limit : ℕ) (a b : Streams) (e : End) → EndsFor limit e a b → status_of e ≡ status.SourceFault → CountRose a.source_faults b.source_faults
source_for limit a b end.Done ends is = absurd (cc)
source_for limit a b end.SourceFault ends is = ends
source_for limit a b end.SinkFault ends is = absurd (cc)
source_for limit a b end.ScriptLimit ends is = absurd (cc)
source_for limit a b end.Broken ends is = absurd (cc)

sink_for : (limit : ℕ) (a b : Streams) (e : End) → EndsFor limit e a b → status_of e ≡ status.SinkFault → CountRose a.sink_faults b.sink_faults
sink_for limit a b end.Done ends is = absurd (cc)
sink_for limit a b end.SourceFault ends is = absurd (cc)
sink_for limit a b end.SinkFault ends is = ends
sink_for limit a b end.ScriptLimit ends is = absurd (cc)
sink_for limit a b end.Broken ends is = absurd (cc)

limit_for : (limit : ℕ) (a b : Streams) (e : End) → EndsFor limit e a b → status_of e ≡ status.ScriptLimit → (taken : List ℕ) × Gives a.left taken b.left × (length taken ≡ limit)
limit_for limit a b end.Done ends is = absurd (cc)
limit_for limit a b end.SourceFault ends is = absurd (cc)
limit_for limit a b end.SinkFault ends is = absurd (cc)
limit_for limit a b end.ScriptLimit ends is = ends
limit_for limit a b end.Broken ends is = absurd (cc)

-- no more of the script was taken than it has
taken_within : (limit : ℕ) (left then_left : Option (List ℕ)) → (taken : List ℕ) × Gives left taken then_left × (length taken ≡ limit) → IfSome left (λ script. length script < limit → ⊥)
taken_within limit None then_left limited = tt
taken_within limit (Some script) None (taken, gives, many) = λ few. absurd (cc)
taken_within limit (Some script) (Some rest) (taken, gives, many) = λ few.
    let same : script ≡ taken ++ rest = cc in
    let long : length script ≡ length taken + length rest = ap length same ∙ length-append taken rest in
    absurd (let e : limit < limit = omega (arith, long, many, few) in omega (arith, e))

if_some_then : (o : Option (List ℕ)) (P Q : List ℕ → Type 0) → ((x : List ℕ) → P x → Q x) → IfSome o P → IfSome o Q
if_some_then None P Q f is = tt
if_some_then (Some x) P Q f is = f x is

module _ {D W : Type 0} (d : Ghosts D) (items : W → List D) (g : machine.Ghosts PartSessions W)
    (answers_are : (c : Command) (got : List ScriptLine) (m : PartSessions) (w : W) (n : PartSessions) (v : W) (r : Reply) → g.answers c got m w n v r → AnswersPart d c got m (items w) n (items v) r)
    (texts_are : (m : PartSessions) → g.texts m ≡ names_kept m.nameless m.sessions.items)
    (never_breaks : (c : Command) (got : List ScriptLine) (m : PartSessions) (w : W) (n : PartSessions) (v : W) → g.breaks c got m w n v → ⊥)
    (stays_are : (m : PartSessions) (w : W) (n : PartSessions) (v : W) → g.stays m w n v → v ≡ w) where
  left_at : (e : End) (more : Option (List Entry)) (m : PartSessions) (w : W) (n : PartSessions) (v : W) → LeavesFor g e more m w n v → v ≡ w
  left_at end.Done more m w n v leaves = leaves.2
  left_at end.SourceFault more m w n v leaves = stays_are m w n v leaves
  left_at end.SinkFault more m w n v leaves = leaves.1
  left_at end.ScriptLimit more m w n v leaves = stays_are m w n v leaves
  left_at end.Broken more m w n v (e, rest, is, (c, got, entry, breaks)) = absurd (never_breaks c got m w n v breaks)

  none_left : (e : End) (more : Option (List Entry)) (m : PartSessions) (w : W) (n : PartSessions) (v : W) → LeavesFor g e more m w n v → status_of e ≡ status.Done → IfSome more (λ rest. rest ≡ [])
  none_left end.Done more m w n v leaves is = leaves.0
  none_left end.SourceFault more m w n v leaves is = absurd (cc)
  none_left end.SinkFault more m w n v leaves is = absurd (cc)
  none_left end.ScriptLimit more m w n v leaves is = absurd (cc)
  none_left end.Broken more m w n v leaves is = absurd (cc)

  runs : (e : End) (more : Option (List Entry)) (m : PartSessions) (w : W) (n : PartSessions) (v : W) → LeavesFor g e more m w n v → is_run (status_of e) ≡ true
  runs end.Done more m w n v leaves = refl
  runs end.SourceFault more m w n v leaves = refl
  runs end.SinkFault more m w n v leaves = refl
  runs end.ScriptLimit more m w n v leaves = refl
  runs end.Broken more m w n v (e, rest, is, (c, got, entry, breaks)) = absurd (never_breaks c got m w n v breaks)

  module _ (limits : Limits) (a b : Streams) (old : List D) (w : W) (m : PartSessions) (ending : End) (n : PartSessions) (v : W)
      (begun : AreBegun limits (images_of d old) m) (synced : SyncsAll d old (items w)) (ran : Ran g part_command_of limits.script_bytes a m w ending b n v) where
    abbrev pub start : PartsOutside
    start = outside_of a (images_of d old) (faults_of d old)

    abbrev pub now : PartsOutside
    now = outside_of b (images_of d (items v)) (faults_of d (items v))

    abbrev last : W
    last = last_world w ran.turns

    at_last : v ≡ last
    at_last = left_at ending ran.more (last_machine m ran.turns) last n v ran.leaves

    same : images_of d (items w) ≡ images_of d old
    same = same_synced_images d old (items w) synced

    pub images_now : images_of d (items v) ≡ images_of d old
    images_now =
        ap (λ (x : W). images_of d (items x)) at_last
        ∙ same_images d (items w) (items last) (run_reads d items g answers_are texts_are m w ran.entries ran.turns ran.run) ∙ same

    pub reads_now : ReadsAll d (items w) (items v)
    reads_now = subst (λ (x : W). ReadsAll d (items w) (items x)) (sym at_last) (run_reads d items g answers_are texts_are m w ran.entries ran.turns ran.run)

    -- what the replies say of damage, whatever the images are
    damage_named : DamageIsNamed limits (status_of ending) start now
    damage_named = record {
      sessions = m.sessions.items;
      begun = are_begun limits m.sessions.items (images_of d old) begun.started;
      ending = ending;
      ended = refl;
      entries = ran.entries;
      replies = replies_in ran.turns;
      named = subst (λ (told : List (Option (List ℕ))). AllZip (NamesDamage m.sessions.items told) ran.entries (replies_in ran.turns)) same
          (run_names d items g answers_are texts_are m w ran.entries ran.turns ran.run);
      more = ran.more;
      front = ran.front;
      whole = none_left ending ran.more (last_machine m ran.turns) last n v ran.leaves;
      gained = subst (λ (due : List ℕ). GainsFor ending a.written due b.written)
          (run_texts d items g answers_are texts_are m w ran.entries ran.turns ran.run
          ∙ ap (λ (ns : List (List ℕ)). flat_map (text (names_kept ns m.sessions.items)) (replies_in ran.turns)) begun.nameless) ran.gained;
    }

    module _ (zs : List History) (images : AreImagesOf (images_of d old) zs) where
      stand : AreStanding limits m.sessions.items (images_of d (items w)) zs
      stand = subst (λ (l : List (Option (List ℕ))). AreStanding limits m.sessions.items l zs) (sym same) (standing limits m.sessions.items (images_of d old) zs begun.started images)

      r : IsRunOf d items g answers_are texts_are limits zs m w ran.entries ran.turns
      r = run_of d items g answers_are texts_are limits zs m w ran.entries ran.turns stand begun.nameless ran.run

      at_start : state_over limits m zs ≡ parts_at limits zs
      at_start = let sets = begun.sets in let next = begun.next in λ i. record { limits = limits; parts = zs; table = sets i; next = next i }

      -- the run, where the parts show the same in another way
      served_as : (shows : ℕ → Columns → List Element) → ((t : ℕ) (cols : Columns) → cols.transient ≡ false → union_shown zs t cols ≡ shows t cols)
          → PartsServed shows (parts_at limits zs) (status_of ending) start now
      served_as shows show_same = record {
        ending = ending;
        ended = refl;
        entries = ran.entries;
        answers = r.answers;
        run = run_as (parts_at limits zs) (union_shown zs) shows show_same ran.entries r.answers
            (subst (λ (k : PartsState). PartsRun (union_shown zs) k ran.entries r.answers) at_start r.run);
        more = ran.more;
        front = ran.front;
        whole = none_left ending ran.more (last_machine m ran.turns) last n v ran.leaves;
        gained = subst (λ (due : List ℕ). GainsFor ending a.written due b.written) r.texts ran.gained;
        takes = ran.takes;
        failed = subst (λ (x : W). RoseBy (failed_reads_in r.answers) (faults_of d old) (faults_of d (items x))) (sym at_last)
            (rose_then 0 (failed_reads_in r.answers) (failed_reads_in r.answers) (faults_of d old) (faults_of d (items w)) (faults_of d (items last))
            (let e : failed_reads_in r.answers ≡ 0 + failed_reads_in r.answers = omega arith in e) (rose_synced d old (items w) synced) r.failed);
      }

    abbrev Completed : List ℕ → Type 0
    Completed script = length script < limits.script_bytes → (status_of ending ≡ status.Done) ⊎ (status_of ending ≡ status.NoMemory)

    completes_for : (e : End) → ending ≡ e → NoneFailed start now → IfSome a.left Completed
    completes_for end.Done at none = if_some_all a.left Completed (λ script few. inl (ap status_of at))
    completes_for end.SourceFault at none =
        absurd (none.source (source_for limits.script_bytes a b ending ran.ends (ap status_of at)))
    completes_for end.SinkFault at none = absurd (none.sink (sink_for limits.script_bytes a b ending ran.ends (ap status_of at)))
    completes_for end.ScriptLimit at none =
        if_some_then a.left (λ script. length script < limits.script_bytes → ⊥) Completed (λ script no few. absurd (no few))
        (taken_within limits.script_bytes a.left b.left (limit_for limits.script_bytes a b ending ran.ends (ap status_of at)))
    completes_for end.Broken at none =
        absurd (let e : true ≡ false = sym (runs ending ran.more (last_machine m ran.turns) last n v ran.leaves) ∙ ap (λ (x : End). is_run (status_of x)) at in cc)

    pub promised : PartsMakeTheWholeWithin → PartsPromised limits (status_of ending) start now
    promised law = record {
      served = λ run zs images. served_as zs images (union_shown zs) (λ t cols silent. refl);
      whole = λ run z legal p some images. served_as (map (λ i. part_of z i p) (numbers 0 p)) images (λ t cols. shown_at (events_of z) t cols)
          (λ t cols silent. whole_shown law z legal p t cols some silent);
      damage = λ run. damage_named;
      starts = λ images is. starts_at ending images (begun.starts images is);
      never_refused = λ zs images part f is. not_refused ending part f is;
      never_blank = λ zs images part is. not_blank ending part is;
      images = images_now;
      unbegun = λ is. absurd (let e : true ≡ false = sym (runs ending ran.more (last_machine m ran.turns) last n v ran.leaves) ∙ is in cc);
      done = done_for limits.script_bytes a b ending ran.ends;
      source_fault = source_for limits.script_bytes a b ending ran.ends;
      sink_fault = sink_for limits.script_bytes a b ending ran.ends;
      disk_fault = λ is. absurd (let e : true ≡ false = sym (runs ending ran.more (last_machine m ran.turns) last n v ran.leaves) ∙ ap is_run is in cc);
      script_limit = limit_for limits.script_bytes a b ending ran.ends;
      completes = λ none zs images agree. completes_for ending refl none;
    }
