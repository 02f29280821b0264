-- What is owed where a run ends.
use Rattle.std.proofs.Common.{◌≡◌, ◌≤◌, ◌⊎◌, inl, inr, ℕ, List, [], ◌∷◌, ◌++◌, Option, Some, None, IfSome, length, is_some, refl, sym, ◌∙◌, ap, subst, arith}
use Rattle.std.specs.Prelude.{◌<◌}
use Rattle.std.specs.Option.{option_map}
use Rattle.std.proofs.lemmas.List.{append-nil}
use Rattle.dg_disk.specs.Calls.{LeftByCrash, ReadsDisk, StaysOnDevice}
use Rattle.dg_disk.specs.Counts.{Rose as DiskRose, raised_by}
use Rattle.dg_disk.specs.declared.disk.Disk as disk
use Rattle.dg_disk.proofs.FrameLemmas.{reads_stay}
use Rattle.dg_file.proofs.TidyWrites.{same_tidy}
use Rattle.dg_fold.specs.BytesRead.{TakesAtMost}
use Rattle.dg_index.specs.ImageOfHistory.{StandsAs}
use Rattle.dg_io.specs.Told.{CountRose, Gives, grown}
use Rattle.dg_io.proofs.FrameLemmas.{gives_nothing}
use Rattle.dg_machine.specs.Answer.{Answered}
use Rattle.dg_machine.specs.CommandGrammar.{command_of}
use Rattle.dg_machine.specs.CutImage.{IsCut}
use Rattle.dg_machine.specs.MachineState.{MachineState}
use Rattle.dg_machine.specs.Run.{last_state}
use Rattle.dg_machine.specs.Script.{Entry, script}
use Rattle.dg_session.specs.Parts.{Parts}
use Rattle.dg_session.specs.Session.{StandsFor}
use Rattle.dg_turns.specs.declared.end.End.{End}
use Rattle.dg_turns.specs.declared.end.End.TheVariants as end
use Rattle.dg_turns.specs.declared.machine.Machine as machine
use Rattle.dg_turns.specs.Ends.{LeavesFor, Ran, Streams}
use Rattle.dg_turns.specs.Runs.{RunOver, Turned, last_machine, last_world, turn_texts}
use Rattle.dg_run.specs.declared.status.Status.{Status}
use Rattle.dg_run.specs.declared.status.Status.TheVariants as status
use Rattle.dg_run.specs.Calls.{BreaksEntry, StaysSo, stays_as_it_is}
use Rattle.dg_run.specs.Outside.{Outside, IsUntouched}
use Rattle.dg_run.specs.RunWeights.{EndWeighs, ReadsNoMore}
use Rattle.dg_run.specs.Served.{AreTaken, AreWhole, Served, Gained, faults_of, LeftInRun, Remains, Kept, Cut_off, TakenFrom}
use Rattle.dg_run.specs.Statuses.{IsBegun, status_of}
use Rattle.dg_run.specs.Turns.{CutsEntry, ScriptAnswered}
use Rattle.dg_run.proofs.CrashRuns.{LeftSoFar, Stays, adds_calls, at_last, in_run_first, reads_leave}
use Rattle.dg_run.proofs.EntryAnswers.{IsSession}
use Rattle.dg_run.proofs.RunWeights.{cut_weighs, takes_both}
use Rattle.dg_run.proofs.SessionRuns.{keeps_on, runs_from, told_as}
use Rattle.dg_run.proofs.WrittenReplies.{replies_gained}

map-nothing : {A : Type 0} (o : Option (List A)) → o ≡ option_map (λ rest. [] ++ rest) o
map-nothing None = refl
map-nothing (Some xs) = refl

pub grown-nil : (o : Option (List ℕ)) → o ≡ grown o []
grown-nil None = refl
grown-nil (Some xs) = ap (λ ys. Some ys) (sym (append-nil xs))

-- what is owed from every machine that the session stood for over the first image
abbrev pub ServedOver : Parts → Status → Outside → Outside → ((List ℕ → List ℕ → Type 0) → Type 0) → Type 0
ServedOver session s start now crashes = (image : List ℕ) (m : MachineState) → start.image ≡ Some image → StandsFor session image m → (x : Served m s start now crashes) × ReadsNoMore (λ n. n ≡ 0) x

-- what a crash may leave of the run so far it may leave of the run
left_so_far : (s : Status) (m : MachineState) (answers : List Answered) (more : Option (List Entry)) (start now : Outside) (first c : List ℕ)
    → LeftSoFar m answers first c → LeftInRun s m answers more start now first c
left_so_far s m answers more start now first c (inl stands) = inl stands
left_so_far s m answers more start now first c (inr byte) = inr (inl byte)

-- a status that does not tell of the disk tells of no failed call of it
calm_faults : (s : Status) → (s ≡ status.DiskFault → ⊥) → faults_of s ≡ 0
calm_faults status.Done calm = refl
calm_faults status.Words calm = refl
calm_faults status.SourceFault calm = refl
calm_faults status.SinkFault calm = refl
calm_faults status.DiskFault calm = absurd (calm refl)
calm_faults status.NoMemory calm = refl
calm_faults (status.Refused fault) calm = refl
calm_faults status.ScriptLimit calm = refl

-- and a run that ends so has read nothing behind its replies
calm_end : (s : Status) (m : MachineState) (more : Option (List Entry)) (n : ℕ) → (s ≡ status.DiskFault → ⊥) → EndWeighs s m more n → n ≡ 0
calm_end status.Done m more n calm end = end
calm_end status.Words m more n calm end = end
calm_end status.SourceFault m more n calm end = end
calm_end status.SinkFault m more n calm end = end
calm_end status.DiskFault m more n calm end = absurd (calm refl)
calm_end status.NoMemory m more n calm end = end
calm_end (status.Refused fault) m more n calm end = end
calm_end status.ScriptLimit m more n calm end = end

-- the failed calls that a status tells of were counted, where that of the disk comes of one
pub ended_faults : (s : Status) (f n : ℕ) → f ≤ n → (s ≡ status.DiskFault → DiskRose f n) → raised_by (faults_of s) f ≤ n
ended_faults status.Done f n le rose = omega (arith, le)
ended_faults status.Words f n le rose = omega (arith, le)
ended_faults status.SourceFault f n le rose = omega (arith, le)
ended_faults status.SinkFault f n le rose = omega (arith, le)
ended_faults status.DiskFault f n le rose = rose refl
ended_faults status.NoMemory f n le rose = omega (arith, le)
ended_faults (status.Refused fault) f n le rose = omega (arith, le)
ended_faults status.ScriptLimit f n le rose = omega (arith, le)

comes_first : (more rest : Option (List Entry)) (e : Entry) → more ≡ option_map (λ es. e ∷ es) rest → (es : List Entry) × IfSome more (λ all. all ≡ e ∷ es)
comes_first more None e is = ([], subst (λ (o : Option (List Entry)). IfSome o (λ all. all ≡ e ∷ [])) (sym is) tt)
comes_first more (Some es) e is = (es, subst (λ (o : Option (List Entry)). IfSome o (λ all. all ≡ e ∷ es)) (sym is) refl)

-- what was taken of the script, by how the run ended
taken_uncut : (s : Status) (es : List Entry) (had has : Option (List ℕ)) → (s ≡ status.SourceFault → ⊥) → (s ≡ status.ScriptLimit → ⊥) → AreTaken es had has → TakenFrom s es had has
taken_uncut s es had has source limit taken = record { taken = taken; cut = by }
  where
    by : (s ≡ status.SourceFault) ⊎ (s ≡ status.ScriptLimit) → AreWhole es had has
    by (inl e) = absurd (source e)
    by (inr e) = absurd (limit e)

taken_cut : (s : Status) (es : List Entry) (had has : Option (List ℕ)) → AreWhole es had has → TakenFrom s es had has
taken_cut s es had has whole = record {
  taken = (whole.0, whole.1, inl ([], sym whole.2 ∙ sym (append-nil es)));
  cut = λ is. whole;
}

-- what can be told of source and sink, and of the disk
abbrev pub over : {D : Type 0} → disk.Ghosts D → Streams → D → Outside
over d s at = record {
  left = s.left;
  source_faults = s.source_faults;
  written = s.written;
  sink_faults = s.sink_faults;
  image = d.image at;
  disk_faults = d.faults at;
  write_faults = d.write_faults at;
  bytes_read = d.taken at;
}

-- why a run ended, but for the disk
pub record EndsBy (limit : ℕ) (s : Status) (start now : Streams) : Type 0 where
  pub done : s ≡ status.Done → IfSome start.left (λ script. length script < limit)
  pub source_fault : s ≡ status.SourceFault → CountRose start.source_faults now.source_faults
  pub sink_fault : s ≡ status.SinkFault → CountRose start.sink_faults now.sink_faults
  pub script_limit : s ≡ status.ScriptLimit → (taken : List ℕ) × Gives start.left taken now.left × (length taken ≡ limit)

-- a script without an entry has no first one
none_first : (more : Option (List Entry)) (e : Entry) (entries : List Entry) → ◌≡◌ {A = Option (List Entry)} (Some []) (option_map (λ rest. (e ∷ entries) ++ rest) more) → ⊥
none_first None e entries is = cc
none_first (Some rest) e entries is = cc

-- Each of these takes a run of the machine over the session.
module _ {M D : Type 0} {g : machine.Ghosts M D} {d : disk.Ghosts D} {parts : M → Parts} where
  -- over a script without an entry nothing is asked of the disk
  silent_run : IsSession g d parts → (m : M) (at : D) (entries : List Entry) (turns : List (Turned M D)) (more : Option (List Entry)) → RunOver g command_of m at entries turns
      → ◌≡◌ {A = Option (List Entry)} (Some []) (option_map (λ rest. entries ++ rest) more) → d.taken (last_world at turns) ≡ d.taken at
  silent_run is m at [] [] more run none = refl
  silent_run is m at [] (t ∷ turns) more run none = absurd run
  silent_run is m at (e ∷ entries) turns more run none = absurd (none_first more e entries none)

  -- it ended between two entries
  served_calm : IsSession g d parts → (s : Status) (start now : Streams) (m : M) (at : D) (entries : List Entry) (turns : List (Turned M D)) (more : Option (List Entry)) (then_at : D) → RunOver g command_of m at entries turns
      → option_map script start.left ≡ option_map (λ rest. entries ++ rest) more → ReadsDisk d (last_world at turns) then_at → d.taken then_at ≡ d.taken (last_world at turns)
      → (s ≡ status.DiskFault → ⊥) → (s ≡ status.Done → IfSome more (λ rest. rest ≡ [])) → Gained s start.written (turn_texts g turns) now.written → TakenFrom s entries start.left now.left
      → ServedOver (parts m) s (over d start at) (over d now then_at) (LeftByCrash d at then_at)
  served_calm is s start now m at entries turns more then_at run front asked unread calm whole gained takes = λ x k here stands.
      let r = runs_from is m at entries turns run x k here stands in
      let kept = keeps_on is m at entries turns run in (
        record {
          entries = entries;
          answers = r.answers;
          run = r.run;
          more = more;
          front = front;
          whole = whole;
          gained = subst (λ (due : List ℕ). Gained s start.written due now.written) r.texts gained;
          stands =
              subst (λ (o : Option (List ℕ)). IfSome o (λ image. Remains s (last_state k r.answers) more (over d start at) (over d now then_at) image)) (sym (asked.same_image ∙ r.told))
              (Kept r.stands.image_stands (λ e. absurd (calm e)));
          failed = omega (arith, calm_faults s calm, r.failed, asked.counted);
          takes = takes;
          crash =
              adds_calls d at (last_world at turns) then_at (λ first left. left ≡ first) kept.settled (reads_leave d is.only_now (last_world at turns) then_at asked) x r.image here r.told
              (LeftSoFar k r.answers) (LeftInRun s k r.answers more (over d start at) (over d now then_at)) (λ c left. left_so_far s k r.answers more (over d start at) (over d now then_at) x c left)
              (λ c same. inl (at_last k r.answers c (subst (StandsAs (last_state k r.answers).index) (sym same) r.stands.image_stands))) r.crash;
        },
        record { reads = λ opening n last none weighs end. let reads = r.reads n weighs in omega (arith, none, calm_end s (last_state k r.answers) more last calm end, reads, unread) },
      )

  -- a failure of the disk cut it off within an entry
  served_broken : IsSession g d parts → (start now : Streams) (m : M) (at : D) (entries : List Entry) (turns : List (Turned M D)) (more rest : Option (List Entry)) (e : Entry) (then_at : D) → RunOver g command_of m at entries turns
      → option_map script start.left ≡ option_map (λ later. entries ++ later) more → more ≡ option_map (λ es. e ∷ es) rest → BreaksEntry d e (parts (last_machine m turns)) (last_world at turns) then_at
      → now.written ≡ grown start.written (turn_texts g turns) → TakenFrom status.DiskFault entries start.left now.left → ServedOver (parts m) status.DiskFault (over d start at) (over d now then_at) (LeftByCrash d at then_at)
  served_broken is start now m at entries turns more rest e then_at run front first breaks gained takes = λ x k here stands.
      let r = runs_from is m at entries turns run x k here stands in
      let kept = keeps_on is m at entries turns run in
      let there = told_as (d.image (last_world at turns)) (d.image then_at) r.image breaks.used.told r.told in
      let comes = comes_first more rest e first in
      let cut : IsCut (last_state k r.answers) e r.image there.0 = breaks.cut r.image there.0 r.told there.1 (last_state k r.answers) r.stands in
      let unmade : (last_state k r.answers).index ≡ None → d.image at ≡ Some r.image = λ none. here ∙ ap (λ (bytes : List ℕ). Some bytes) (sym (r.unmade none).1) in (
        record {
          entries = entries;
          answers = r.answers;
          run = r.run;
          more = more;
          front = front;
          whole = λ done. cc;
          gained = subst (λ (due : List ℕ). now.written ≡ grown start.written due) r.texts gained;
          stands =
              subst (λ (o : Option (List ℕ)). IfSome o (λ image. Remains status.DiskFault (last_state k r.answers) more (over d start at) (over d now then_at) image)) (sym there.1)
              (Cut_off e comes.0 r.image refl comes.1 r.stands.image_stands unmade cut);
          failed = omega (arith, breaks.cause.call, r.failed);
          takes = takes;
          crash =
              adds_calls d at (last_world at turns) then_at (CutsEntry e (parts (last_machine m turns))) kept.settled breaks.crash x r.image here r.told
              (LeftSoFar k r.answers) (LeftInRun status.DiskFault k r.answers more (over d start at) (over d now then_at))
              (λ c left. left_so_far status.DiskFault k r.answers more (over d start at) (over d now then_at) x c left)
              (λ c torn. inr (inr (Cut_off e comes.0 r.image refl comes.1 r.stands.image_stands unmade (torn (last_state k r.answers) r.stands)))) r.crash;
        },
        record {
          reads = λ opening n last none weighs end.
              let late = cut_weighs e rest more (parts (last_machine m turns)) (d.image (last_world at turns)) r.image (last_state k r.answers) last (d.taken (last_world at turns)) (d.taken then_at) first r.told r.stands breaks.reads end in
              let all = takes_both n last (d.taken at) (d.taken (last_world at turns)) (d.taken then_at) (r.reads n weighs) late in
              omega (arith, none, all);
        },
      )

  -- all that is owed of a run that ended between two entries
  answered_calm : IsSession g d parts → (limit : ℕ) (s : Status) (start now : Streams) (m then_m : M) (at : D) (entries : List Entry) (turns : List (Turned M D)) (more : Option (List Entry)) (then_at : D) → RunOver g command_of m at entries turns
      → option_map script start.left ≡ option_map (λ rest. entries ++ rest) more → StaysSo d (parts (last_machine m turns)) (last_world at turns) (parts then_m) then_at
      → (s ≡ status.DiskFault → ⊥) → (s ≡ status.Done → IfSome more (λ rest. rest ≡ [])) → Gained s start.written (turn_texts g turns) now.written → TakenFrom s entries start.left now.left
      → IsBegun s → EndsBy limit s start now → ScriptAnswered limit (parts m) s (over d start at) (over d now then_at) (LeftByCrash d at then_at)
  answered_calm is limit s start now m then_m at entries turns more then_at run front stays calm whole gained takes begun ends =
      let kept = keeps_on is m at entries turns run in record {
        served = served_calm is s start now m at entries turns more then_at run front stays.asked stays.unread calm whole gained takes;
        replies = replies_gained is s m at entries turns start.written now.written run gained;
        told = ap (λ (o : Option (List ℕ)). is_some o) stays.asked.same_image ∙ kept.used.told;
        exact = λ other tidy. same_tidy (d.image (last_world at turns)) (d.image then_at) stays.asked.same_image (kept.exact tidy);
        begun = begun;
        done = ends.done;
        source_fault = ends.source_fault;
        sink_fault = ends.sink_fault;
        disk_fault = λ e. absurd (calm e);
        script_limit = ends.script_limit;
        silent = λ e none. stays.unread ∙ silent_run is m at entries turns more run (sym none ∙ front);
      }

  -- the machine stayed as it was behind the last reply
  unmoved : IsSession g d parts → (m then_m : M) (at then_at : D) → then_m ≡ m → then_at ≡ at → StaysSo d (parts m) at (parts then_m) then_at
  unmoved is m then_m at then_at same_m same_at =
      subst (λ (x : M). StaysSo d (parts m) at (parts x) then_at) (sym same_m) (subst (λ (x : D). StaysSo d (parts m) at (parts m) x) (sym same_at) (stays_as_it_is (parts m) at))

  -- or was only asked, unless its world failed
  stays_behind : IsSession g d parts → (end : End) (more : Option (List Entry)) (m then_m : M) (at then_at : D) → (status_of end ≡ status.DiskFault → ⊥) → LeavesFor g end more m at then_m then_at
      → StaysSo d (parts m) at (parts then_m) then_at
  stays_behind is end.Done more m then_m at then_at calm leaves = unmoved is m then_m at then_at leaves.1 leaves.2
  stays_behind is end.SourceFault more m then_m at then_at calm leaves = is.stays m at then_m then_at leaves
  stays_behind is end.SinkFault more m then_m at then_at calm leaves = unmoved is m then_m at then_at leaves.0 leaves.1
  stays_behind is end.ScriptLimit more m then_m at then_at calm leaves = is.stays m at then_m then_at leaves
  stays_behind is end.Broken more m then_m at then_at calm leaves = absurd (calm refl)

  -- what a run of the machine comes to, as a run of the program
  pub script_answered : (limit : ℕ) (start now : Streams) (m then_m : M) (at then_at : D) (end : End) → Ran g command_of limit start m at end now then_m then_at → IsSession g d parts
      → ScriptAnswered limit (parts m) (status_of end) (over d start at) (over d now then_at) (LeftByCrash d at then_at)
  script_answered limit start now m then_m at then_at end.Done ran is =
      answered_calm is limit status.Done start now m then_m at ran.entries ran.turns ran.more then_at ran.run ran.front (stays_behind is end.Done ran.more _ then_m _ then_at (λ e. cc) ran.leaves)
      (λ e. cc) (λ e. ran.leaves.0) ran.gained (taken_uncut status.Done ran.entries start.left now.left (λ e. cc) (λ e. cc) ran.takes) tt
      (record { done = λ e. ran.ends; source_fault = λ e. cc; sink_fault = λ e. cc; script_limit = λ e. cc })
  script_answered limit start now m then_m at then_at end.SourceFault ran is =
      answered_calm is limit status.SourceFault start now m then_m at ran.entries ran.turns ran.more then_at ran.run ran.front (stays_behind is end.SourceFault ran.more _ then_m _ then_at (λ e. cc) ran.leaves)
      (λ e. cc) (λ e. cc) ran.gained (taken_cut status.SourceFault ran.entries start.left now.left ran.takes) tt
      (record { done = λ e. cc; source_fault = λ e. ran.ends; sink_fault = λ e. cc; script_limit = λ e. cc })
  script_answered limit start now m then_m at then_at end.SinkFault ran is =
      answered_calm is limit status.SinkFault start now m then_m at ran.entries ran.turns ran.more then_at ran.run ran.front (stays_behind is end.SinkFault ran.more _ then_m _ then_at (λ e. cc) ran.leaves)
      (λ e. cc) (λ e. cc) ran.gained (taken_uncut status.SinkFault ran.entries start.left now.left (λ e. cc) (λ e. cc) ran.takes) tt
      (record { done = λ e. cc; source_fault = λ e. cc; sink_fault = λ e. ran.ends; script_limit = λ e. cc })
  script_answered limit start now m then_m at then_at end.ScriptLimit ran is =
      answered_calm is limit status.ScriptLimit start now m then_m at ran.entries ran.turns ran.more then_at ran.run ran.front (stays_behind is end.ScriptLimit ran.more _ then_m _ then_at (λ e. cc) ran.leaves)
      (λ e. cc) (λ e. cc) ran.gained (taken_cut status.ScriptLimit ran.entries start.left now.left ran.takes) tt
      (record { done = λ e. cc; source_fault = λ e. cc; sink_fault = λ e. cc; script_limit = λ e. ran.ends })
  script_answered limit start now m then_m at then_at end.Broken ran is =
      let kept = keeps_on is m at ran.entries ran.turns ran.run in
      let first = ran.leaves.2 in
      let failed = ran.leaves.3 in
      let breaks : BreaksEntry d ran.leaves.0 (parts (last_machine m ran.turns)) (last_world at ran.turns) then_at =
      subst (λ (e : Entry). BreaksEntry d e (parts (last_machine m ran.turns)) (last_world at ran.turns) then_at) (sym failed.2)
      (is.breaks failed.0 failed.1 (last_machine m ran.turns) (last_world at ran.turns) then_m then_at failed.3) in record {
        served = served_broken is start now m at ran.entries ran.turns ran.more ran.leaves.1 ran.leaves.0 then_at ran.run ran.front first breaks ran.gained
            (taken_uncut status.DiskFault ran.entries start.left now.left (λ e. cc) (λ e. cc) ran.takes);
        replies = replies_gained is status.DiskFault m at ran.entries ran.turns start.written now.written ran.run ran.gained;
        told = breaks.used.told ∙ kept.used.told;
        exact = λ other. absurd (other refl);
        begun = tt;
        done = λ e. cc;
        source_fault = λ e. cc;
        sink_fault = λ e. cc;
        disk_fault = λ e. omega (arith, kept.used.writes_counted, breaks.cause.write);
        script_limit = λ e. cc;
        silent = λ e. cc;
      }

  -- what was on the device stays there, unless the disk failed
  pub stays_on_device : (limit : ℕ) (start now : Streams) (m then_m : M) (at then_at : D) (end : End) → Ran g command_of limit start m at end now then_m then_at → IsSession g d parts
      → (status_of end ≡ status.DiskFault → ⊥) → StaysOnDevice d at then_at
  stays_on_device limit start now m then_m at then_at end ran is calm = λ on.
      let stays = stays_behind is end ran.more (last_machine m ran.turns) then_m (last_world at ran.turns) then_at calm ran.leaves in
      reads_stay (last_world at ran.turns) then_at stays.asked ((keeps_on is m at ran.entries ran.turns ran.run).settled on)

-- ---- where nothing was answered, and from an earlier start

pub if_some : (o : Option (List ℕ)) (P : List ℕ → Type 0) → ((x : List ℕ) → o ≡ Some x → P x) → IfSome o P
if_some None P each = tt
if_some (Some x) P each = each x refl

pub at_some : (o : Option (List ℕ)) (P : List ℕ → Type 0) (x : List ℕ) → IfSome o P → o ≡ Some x → P x
at_some o P x all is = let here : IfSome (Some x) P = subst (λ (p : Option (List ℕ)). IfSome p P) is all in here

untouched_from : (start mid now : Outside) → IsUntouched start mid → IsUntouched mid now → IsUntouched start now
untouched_from start mid now a b = record {
  left = b.left ∙ a.left;
  source_faults = b.source_faults ∙ a.source_faults;
  written = b.written ∙ a.written;
  sink_faults = b.sink_faults ∙ a.sink_faults;
  image = b.image ∙ a.image;
}

-- nothing was answered
pub served_nothing : (s : Status) (m : MachineState) (Opens : ℕ → Type 0) (start now : Outside) (image : List ℕ) (crashes : (List ℕ → List ℕ → Type 0) → Type 0)
    → start.image ≡ Some image → StandsAs m.index image → IsUntouched start now → Stays start.image crashes
    → (s ≡ status.Done → ⊥) → (now.written ≡ grown start.written [] → Gained s start.written [] now.written) → raised_by (faults_of s) start.disk_faults ≤ now.disk_faults → ((s ≡ status.SourceFault) ⊎ (s ≡ status.ScriptLimit) → ⊥)
    → ((n : ℕ) → Opens n → TakesAtMost n start.bytes_read now.bytes_read) → (x : Served m s start now crashes) × ReadsNoMore Opens x
served_nothing s m Opens start now image crashes is stands same stays undone gained counted uncut opens = (
  record {
    entries = [];
    answers = [];
    run = tt;
    more = option_map script start.left;
    front = map-nothing (option_map script start.left);
    whole = λ done. absurd (undone done);
    gained = gained (same.written ∙ grown-nil start.written);
    stands =
        subst (λ (o : Option (List ℕ)). IfSome o (λ i. Remains s m (option_map script start.left) start now i)) (sym (same.image ∙ is)) (Kept stands (λ e. same));
    failed = omega (arith, counted);
    takes = record {
      taken = ([], subst (λ (o : Option (List ℕ)). Gives start.left [] o) (sym same.left) (gives_nothing start.left), inl ([], refl));
      cut = λ is. absurd (uncut is);
    };
    crash = stays image is (LeftInRun s m [] (option_map script start.left) start now) (inl (in_run_first m [] image stands));
  },
  record { reads = λ opening n last opened w end. let reads = opens opening opened in omega (arith, reads) },
)

-- the same from an earlier start, from which nothing was touched
pub remains_from : (s : Status) (m : MachineState) (more : Option (List Entry)) (start mid now : Outside) (image : List ℕ) → IsUntouched start mid → Remains s m more mid now image
    → Remains s m more start now image
remains_from s m more start mid now image same (Kept stands untouched) = Kept stands (λ e. untouched_from start mid now same (untouched e))
remains_from s m more start mid now image same (Cut_off e rest before failed first stands unmade cut) =
    Cut_off e rest before failed first stands (λ none. sym same.image ∙ unmade none) cut

-- the same of what a crash may leave
pub left_from : (s : Status) (m : MachineState) (answers : List Answered) (more : Option (List Entry)) (start mid now : Outside) (first c : List ℕ) → IsUntouched start mid
    → LeftInRun s m answers more mid now first c → LeftInRun s m answers more start now first c
left_from s m answers more start mid now first c same (inl stands) = inl stands
left_from s m answers more start mid now first c same (inr (inl byte)) = inr (inl byte)
left_from s m answers more start mid now first c same (inr (inr remains)) = inr (inr (remains_from s (last_state m answers) more start mid now c same remains))
