-- What a crash may leave of a run, turn by turn.
use Rattle.std.proofs.Common.{◌≡◌, ◌⊎◌, inl, inr, ℕ, suc, List, ◌∷◌, Option, Some, None, IfSome, length, refl, sym, ◌∙◌, ap, subst, arith}
use Rattle.std.specs.Prelude.{Bool, true, ◌||◌}
use Rattle.std.specs.List.{list_any}
use Rattle.std.proofs.Math.Nat.{le_refl}
use Rattle.std.proofs.Math.Bool.{or-true}
use Rattle.std.proofs.lemmas.List.{take_all}
use Rattle.dg_disk.specs.Calls.{IsOnDevice, LeftByCrash, ReadsDisk, StaysOnDevice, SyncsDisk}
use Rattle.dg_disk.specs.Crash.{LeavesOnly}
use Rattle.dg_disk.specs.declared.disk.Disk.{Ghosts}
use Rattle.dg_disk.proofs.CrashLeavesOnly.{joins, keeps_on, starts_at, widens}
use Rattle.dg_disk.proofs.FrameLemmas.{reads_none}
use Rattle.dg_index.specs.ImageOfHistory.{StandsAs}
use Rattle.dg_machine.specs.Answer.{Answered}
use Rattle.dg_machine.specs.MachineState.{MachineState}
use Rattle.dg_machine.specs.Run.{Step, last_state}
use Rattle.dg_machine.specs.Script.{Asked, Entry, Long_line, No_command}
use Rattle.dg_session.specs.Crashes.{IsFirstByte}
use Rattle.dg_session.specs.Parts.{Parts}
use Rattle.dg_session.specs.Session.{StandsFor}
use Rattle.dg_run.specs.Served.{StandsInRun, makes_index}
use Rattle.dg_run.specs.Turns.{LeavesTurn}
use Rattle.dg_run.proofs.StepIndexes.{one_index}

-- ---- the states of a run

-- its first
pub in_run_first : (m : MachineState) (answers : List Answered) (c : List ℕ) → StandsAs m.index c → StandsInRun m answers c
in_run_first m answers c s = (0, omega arith, s)

-- its last
pub at_last : (m : MachineState) (answers : List Answered) (c : List ℕ) → StandsAs (last_state m answers).index c → StandsInRun m answers c
at_last m answers c s = (
  length answers,
  le_refl (length answers),
  subst (λ (l : List Answered). StandsAs (last_state m l).index c) (sym (take_all (length answers) answers (le_refl (length answers)))) s,
)

-- those behind its first answer
in_run_next : (m : MachineState) (a : Answered) (answers : List Answered) (c : List ℕ) → StandsInRun a.state answers c → StandsInRun m (a ∷ answers) c
in_run_next m a answers c s = (suc s.0, omega (arith, s.1), s.2)

-- what a crash may leave of a run that began over these bytes, and ended by no failure of the disk
abbrev pub LeftSoFar : MachineState → List Answered → List ℕ → List ℕ → Type 0
LeftSoFar m answers first c = StandsInRun m answers c ⊎ ((list_any makes_index answers ≡ true) × (m.index ≡ None) × IsFirstByte first c)

-- the bytes at its start
pub left_first : (m : MachineState) (answers : List Answered) (first c : List ℕ) → StandsAs m.index first → c ≡ first → LeftSoFar m answers first c
left_first m answers first c stands same = inl (in_run_first m answers c (subst (StandsAs m.index) (sym same) stands))

-- what may be left of it behind its first answer
pub left_next : (m : MachineState) (a : Answered) (answers : List Answered) (first image c : List ℕ) → (a.state.index ≡ None → (m.index ≡ None) × (image ≡ first))
    → LeftSoFar a.state answers image c → LeftSoFar m (a ∷ answers) first c
left_next m a answers first image c unmade (inl s) = inl (in_run_next m a answers c s)
left_next m a answers first image c unmade (inr byte) =
    let none = unmade byte.1 in inr (
      ap (λ (b : Bool). makes_index a || b) byte.0 ∙ or-true (makes_index a),
      none.0,
      subst (λ (bytes : List ℕ). IsFirstByte bytes c) none.1 byte.2,
    )

-- and what may be left of the turn with that answer
pub left_by_turn : (m : MachineState) (a : Answered) (answers : List Answered) (e : Entry) (old : Parts) (first c : List ℕ) → StandsFor old first m → Step m e a.reply a.state
    → LeavesTurn e old a.reply first c → LeftSoFar m (a ∷ answers) first c
left_by_turn m a answers (Asked command lines) old first c stands step left =
    elim (left m stands) [
      | inl was ↦ inl (in_run_first m (a ∷ answers) c was)
      | inr rest ↦ elim rest [
        | inl now ↦
            let same : now.0.index ≡ a.state.index = one_index m (Asked command lines) a.reply a.reply now.0 a.state refl now.1 step in
            inl (in_run_next m a answers c (in_run_first a.state answers c (subst (λ (i : Option _). StandsAs i c) same now.2)))
        | inr byte ↦ inr (ap (λ (b : Bool). b || list_any makes_index answers) byte.0, byte.1, byte.2)
      ]
    ]
left_by_turn m a answers (No_command line) old first c stands step left = left_first m (a ∷ answers) first c stands.image_stands left
left_by_turn m a answers Long_line old first c stands step left = left_first m (a ∷ answers) first c stands.image_stands left

-- ---- calls of a disk, one behind another

-- what is said of a crash within some calls holds of what has P where it holds of the image, which a crash leaves
abbrev pub Stays : Option (List ℕ) → ((List ℕ → List ℕ → Type 0) → Type 0) → Type 1
Stays image crashes = (x : List ℕ) → image ≡ Some x → (P : List ℕ → List ℕ → Type 0) → P x x → crashes P

-- the calls have others before them, within which a crash leaves the image
abbrev pub Leads : Option (List ℕ) → ((List ℕ → List ℕ → Type 0) → Type 0) → ((List ℕ → List ℕ → Type 0) → Type 0) → Type 1
Leads image crashes all_crashes =
    (x : List ℕ) → image ≡ Some x → (P R : List ℕ → List ℕ → Type 0) → R x x → ((c : List ℕ) → P x c → R x c) → crashes P → all_crashes R

told_at : (o : Option (List ℕ)) (P : List ℕ → Type 0) (x : List ℕ) → IfSome o P → o ≡ Some x → P x
told_at o P x all is = let here : IfSome (Some x) P = subst (λ (p : Option (List ℕ)). IfSome p P) is all in here

told_from : (o : Option (List ℕ)) (P : List ℕ → Type 0) (x : List ℕ) → o ≡ Some x → P x → IfSome o P
told_from o P x is has = subst (λ (p : Option (List ℕ)). IfSome p P) (sym is) has

module _ {D : Type 0} (g : Ghosts D) where
  -- since the present moment there is no other
  abbrev pub OnlyNow : Type 0
  OnlyNow = (disk : D) (c : List ℕ) → g.left_since disk (g.moment disk) c → g.may_leave disk c

  -- a crash leaves these bytes
  abbrev Leaves : D → List ℕ → Type 0
  Leaves at bytes = (c : List ℕ) → g.may_leave at c → c ≡ bytes

  -- from one disk to another a crash leaves what has P of these bytes
  abbrev Within : D → D → (List ℕ → List ℕ → Type 0) → List ℕ → Type 0
  Within old new P bytes = Leaves old bytes → LeavesOnly g.moment g.left_since old new (P bytes)

  -- no call
  pub stays_here : OnlyNow → (at : D) → Stays (g.image at) (LeftByCrash g at at)
  stays_here only at x is P has = told_from (g.image at) (Within at at P) x is (starts_at g.moment g.left_since g.may_leave only at x (P x) has)

  -- calls that read and sync
  pub stays_over : OnlyNow → (old new : D) → SyncsDisk g old new → Stays (g.image old) (LeftByCrash g old new)
  stays_over only old new syncs x is P has =
      told_from (g.image old) (Within old new P) x is
      (λ whole. keeps_on g.moment g.left_since old old new (P x) (starts_at g.moment g.left_since g.may_leave only old x (P x) has whole) syncs.later syncs.since)

  -- calls that read
  pub reads_leave : OnlyNow → (old new : D) → ReadsDisk g old new → LeftByCrash g old new (λ first left. left ≡ first)
  reads_leave only old new reads = by (g.image old) refl
    where
      syncs : SyncsDisk g old new
      syncs = record {
        same_image = reads.same_image;
        counted = reads.counted;
        writes_counted = omega (arith, reads.no_write_failed);
        cache_counted = reads.cache_counted;
        later = omega (arith, reads.same_moment);
        leaves = reads.leaves;
        since = λ t c le left. reads.since t c left;
      }

      by : (o : Option (List ℕ)) → g.image old ≡ o → LeftByCrash g old new (λ first left. left ≡ first)
      by None is = subst (λ (p : Option (List ℕ)). IfSome p (Within old new (λ first left. left ≡ first))) (sym is) tt
      by (Some x) is = stays_over only old new syncs x is (λ first left. left ≡ first) refl

  -- no call
  pub unread_leaves : OnlyNow → (at : D) → LeftByCrash g at at (λ first left. left ≡ first)
  unread_leaves only at = reads_leave only at at reads_none

  -- calls, and others behind them, within which a crash leaves what has Q of the image between them: all of it has R of the
  -- first image
  pub adds_calls : (start mid new : D) (Q : List ℕ → List ℕ → Type 0) → StaysOnDevice g start mid → LeftByCrash g mid new Q → (x y : List ℕ) → g.image start ≡ Some x → g.image mid ≡ Some y
      → (P R : List ℕ → List ℕ → Type 0) → ((c : List ℕ) → P x c → R x c) → ((c : List ℕ) → Q y c → R x c) → LeftByCrash g start mid P → LeftByCrash g start new R
  adds_calls start mid new Q stays later x y is at P R keeps comes run =
      told_from (g.image start) (Within start new R) x is
      (λ whole.
      let on : Leaves mid y = told_at (g.image mid) (Leaves mid) y (stays (told_from (g.image start) (Leaves start) x is whole)) at in
      joins g.moment g.left_since start mid new (R x)
      (widens g.moment g.left_since start mid (P x) (R x) keeps (told_at (g.image start) (Within start mid P) x run is whole))
      (widens g.moment g.left_since mid new (Q y) (R x) comes (told_at (g.image mid) (Within mid new Q) y later at on)))

  -- a start before, behind which the image is on the device
  pub leads_on : OnlyNow → (start mid new : D) → SyncsDisk g start mid → IsOnDevice g mid → Leads (g.image start) (LeftByCrash g mid new) (LeftByCrash g start new)
  leads_on only start mid new syncs settled x is P R has keeps run =
      let at : g.image mid ≡ Some x = syncs.same_image ∙ is in
      told_from (g.image start) (Within start new R) x is
      (λ whole. joins g.moment g.left_since start mid new (R x)
      (keeps_on g.moment g.left_since start start mid (R x) (starts_at g.moment g.left_since g.may_leave only start x (R x) has whole) syncs.later syncs.since)
      (widens g.moment g.left_since mid new (P x) (R x) keeps (told_at (g.image mid) (Within mid new P) x run at (told_at (g.image mid) (Leaves mid) x settled at))))
