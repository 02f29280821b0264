-- A run of the machine over the session, over an image that it stands for: it is a run of the program's machine.
use Rattle.std.proofs.Common.{◌≡◌, ◌≤◌, ℕ, ◌+◌, Bool, true, false, cond, List, [], ◌∷◌, ◌++◌, Option, Some, None, is_some, refl, sym, ◌∙◌, ap, subst, arith}
use Rattle.std.specs.Option.{option_map}
use Rattle.std.proofs.lemmas.List.Sums.{sum_by-cons}
use Rattle.dg_disk.specs.Calls.{LeftByCrash, StaysOnDevice, UsesDisk}
use Rattle.dg_disk.specs.Counts.{Rose as DiskRose, raised_by}
use Rattle.dg_disk.specs.declared.disk.Disk as disk
use Rattle.dg_file.specs.TidyImages.{StaysTidy}
use Rattle.dg_fold.specs.BytesRead.{TakesAtMost}
use Rattle.dg_history.specs.History.{History}
use Rattle.dg_index.specs.OpenedIndex.{opened_of}
use Rattle.dg_machine.specs.Answer.{Answered}
use Rattle.dg_machine.specs.CommandGrammar.{command_of}
use Rattle.dg_machine.specs.MachineState.{MachineState, names_in}
use Rattle.dg_machine.specs.ReplyText.{text}
use Rattle.dg_machine.specs.Run.{Run, failed_reads, is_store_read, last_state, text_of, texts_of}
use Rattle.dg_machine.specs.Script.{Entry}
use Rattle.dg_session.specs.Parts.{Parts}
use Rattle.dg_session.specs.Session.{StandsFor}
use Rattle.dg_stored.specs.StoredHistory.{KeepsHistory}
use Rattle.dg_turns.specs.declared.machine.Machine as machine
use Rattle.dg_turns.specs.Runs.{RunOver, Turned, last_machine, last_world, turn_texts}
use Rattle.dg_run.specs.RunWeights.{RunWeighs}
use Rattle.dg_run.specs.Turns.{LeavesTurn}
use Rattle.dg_run.proofs.CrashRuns.{LeftSoFar, adds_calls, left_by_turn, left_first, left_next, stays_here}
use Rattle.dg_run.proofs.EntryAnswers.{IsSession, answered_entry}
use Rattle.dg_run.proofs.RunWeights.{takes_both, takes_none, turn_weighs}

-- ---- over any image

-- what the calls of a run leave of the disk
pub record KeepsOn {D : Type 0} (d : disk.Ghosts D) (before after : D) : Type 0 where
  pub used : UsesDisk d before after
  pub settled : StaysOnDevice d before after
  pub exact : StaysTidy (d.image before) (d.image after)

module _ {M D : Type 0} {g : machine.Ghosts M D} {d : disk.Ghosts D} {parts : M → Parts} where
  pub keeps_on : IsSession g d parts → (m : M) (at : D) (entries : List Entry) (turns : List (Turned M D)) → RunOver g command_of m at entries turns → KeepsOn d at (last_world at turns)
  keeps_on is m at [] [] run = record {
    used = record { told = refl; counted = omega arith; writes_counted = omega arith; cache_counted = omega arith };
    settled = λ on. on;
    exact = λ tidy. tidy;
  }
  keeps_on is m at [] (t ∷ turns) run = absurd run
  keeps_on is m at (e ∷ entries) [] run = absurd run
  keeps_on is m at (e ∷ entries) (t ∷ turns) run =
      let a = answered_entry is m at e t run.0 in
      let rest = keeps_on is t.machine t.world entries turns run.1 in record {
        used = record {
          told = rest.used.told ∙ a.used.told;
          counted = omega (arith, a.used.counted, rest.used.counted);
          writes_counted = omega (arith, a.used.writes_counted, rest.used.writes_counted);
          cache_counted = omega (arith, a.used.cache_counted, rest.used.cache_counted);
        };
        settled = λ on. rest.settled (a.settled on);
        exact = λ tidy. rest.exact (a.exact tidy);
      }

-- ---- over an image that the session stands for

-- what a session keeps of the index and the names of the machine's history
kept_index : (index : Option History) (p : Parts) → KeepsHistory index p.index p.names p.graph p.recent → p.index ≡ option_map (λ (z : History). (opened_of z).index) index
kept_index None p kept = kept.0
kept_index (Some z) p kept = kept.index_is

kept_names : (index : Option History) (p : Parts) → KeepsHistory index p.index p.names p.graph p.recent → p.names ≡ names_in index
kept_names None p kept = kept.1
kept_names (Some z) p kept = kept.names_are

-- a session has no index exactly where the machine has none
no_index_of : (session : Parts) (image : List ℕ) (m : MachineState) → StandsFor session image m → m.index ≡ None → session.index ≡ None
no_index_of session image m stands none = kept_index m.index session stands.kept ∙ ap (option_map (λ (z : History). (opened_of z).index)) none

none_of : (index : Option History) → option_map (λ (z : History). (opened_of z).index) index ≡ None → index ≡ None
none_of None is = refl
none_of (Some z) is = absurd (cc)

some_injective : (x y : List ℕ) → Some x ≡ Some y → x ≡ y
some_injective x y same = cc

-- an option that is told where another is
pub told_as : (a b : Option (List ℕ)) (x : List ℕ) → is_some b ≡ is_some a → a ≡ Some x → (y : List ℕ) × (b ≡ Some y)
told_as a None x same is = absurd (let none : false ≡ true = same ∙ ap (λ (o : Option (List ℕ)). is_some o) is in cc)
told_as a (Some y) x same is = (y, refl)

-- the failed reads of a run, by its first reply
one_first : (b : Bool) (a : Answered) (answers : List Answered) → is_store_read a.reply ≡ b → failed_reads (a ∷ answers) ≡ cond b 1 0 + failed_reads answers
one_first b a answers is =
    sum_by-cons (λ (x : Answered). cond (is_store_read x.reply) 1 0) a answers ∙ ap (λ (x : Bool). cond x 1 0 + failed_reads answers) is

failed_first : (b : Bool) (a : Answered) (answers : List Answered) (f n k : ℕ) → is_store_read a.reply ≡ b → f ≤ n → (is_store_read a.reply ≡ true → DiskRose f n) → raised_by (failed_reads answers) n ≤ k
    → raised_by (failed_reads (a ∷ answers)) f ≤ k
failed_first true a answers f n k is counted rose failed = omega (arith, one_first true a answers is, rose is, failed)
failed_first false a answers f n k is counted rose failed = omega (arith, one_first false a answers is, counted, failed)

-- The program's machine answers the entries from the state so, and the session then stands for the last of its states. These
-- bytes are due, and the image was `first` at the start.
pub record RunsFrom {D : Type 0} (d : disk.Ghosts D) (m : MachineState) (first : List ℕ) (before : D) (entries : List Entry) (due : List ℕ) (session : Parts) (after : D) : Type 0 where
  pub image : List ℕ
  pub told : d.image after ≡ Some image
  pub answers : List Answered
  pub run : Run m entries answers
  pub stands : StandsFor session image (last_state m answers)
  pub texts : due ≡ texts_of answers
  pub unmade : (last_state m answers).index ≡ None → (m.index ≡ None) × (image ≡ first)
  pub failed : raised_by (failed_reads answers) (d.faults before) ≤ d.faults after
  pub reads : (n : ℕ) → RunWeighs m entries answers n → TakesAtMost n (d.taken before) (d.taken after)
  pub crash : LeftByCrash d before after (LeftSoFar m answers)

module _ {M D : Type 0} {g : machine.Ghosts M D} {d : disk.Ghosts D} {parts : M → Parts} where
  pub runs_from : IsSession g d parts → (m : M) (at : D) (entries : List Entry) (turns : List (Turned M D)) → RunOver g command_of m at entries turns
      → (x : List ℕ) (k : MachineState) → d.image at ≡ Some x → StandsFor (parts m) x k → RunsFrom d k x at entries (turn_texts g turns) (parts (last_machine m turns)) (last_world at turns)
  runs_from is m at [] [] run x k here stands = record {
    image = x;
    told = here;
    answers = [];
    run = tt;
    stands = stands;
    texts = refl;
    unmade = λ none. (none, refl);
    failed = omega arith;
    reads = λ n none. takes_none n (d.taken at) (d.taken at) none refl;
    crash = stays_here d is.only_now at x here (LeftSoFar k []) (left_first k [] x x stands.image_stands refl);
  }
  runs_from is m at [] (t ∷ turns) run x k here stands = absurd run
  runs_from is m at (e ∷ entries) [] run x k here stands = absurd run
  runs_from is m at (e ∷ entries) (t ∷ turns) run x k here stands =
      let a = answered_entry is m at e t run.0 in
      let mid = told_as (d.image at) (d.image t.world) x a.used.told here in
      let next = a.moves x mid.0 here mid.1 k stands in
      let b : Answered = record { reply = t.reply; state = next.0 } in
      let rest = runs_from is t.machine t.world entries turns run.1 mid.0 next.0 mid.1 next.2 in
      let unmade : next.0.index ≡ None → (k.index ≡ None) × (mid.0 ≡ x) = λ none.
      let was = a.no_index (no_index_of (parts t.machine) mid.0 next.0 next.2 none) in
      (none_of k.index (sym (kept_index k.index (parts m) stands.kept) ∙ was.0), some_injective mid.0 x (sym mid.1 ∙ was.1 ∙ here)) in record {
        image = rest.image;
        told = rest.told;
        answers = b ∷ rest.answers;
        run = (next.1, rest.run);
        stands = rest.stands;
        texts =
            ap (λ (names : List (List ℕ)). text names t.reply ++ turn_texts g turns) (is.texts t.machine ∙ kept_names next.0.index (parts t.machine) next.2.kept)
            ∙ ap (λ (bytes : List ℕ). text_of b ++ bytes) rest.texts;
        unmade = λ none.
            let later = rest.unmade none in
            let first = unmade later.0 in
            (first.0, later.1 ∙ first.1);
        failed = failed_first (is_store_read t.reply) b rest.answers (d.faults at) (d.faults t.world) (d.faults (last_world t.world turns)) refl a.used.counted a.store_read rest.failed;
        reads = λ n weighs.
            subst (λ (j : ℕ). TakesAtMost j (d.taken at) (d.taken (last_world t.world turns))) (sym weighs.4)
            (takes_both weighs.0 weighs.1 (d.taken at) (d.taken t.world) (d.taken (last_world t.world turns))
            (turn_weighs e (parts m) (d.image at) x k t.reply weighs.0 (d.taken at) (d.taken t.world) here stands a.reads weighs.2) (rest.reads weighs.1 weighs.3));
        crash =
            adds_calls d at t.world (last_world t.world turns) (LeftSoFar next.0 rest.answers) a.settled rest.crash x mid.0 here mid.1 (LeavesTurn e (parts m) t.reply) (LeftSoFar k (b ∷ rest.answers))
            (λ c left. left_by_turn k b rest.answers e (parts m) x c stands next.1 left) (λ c left. left_next k b rest.answers x mid.0 c unmade left) a.crash;
      }
