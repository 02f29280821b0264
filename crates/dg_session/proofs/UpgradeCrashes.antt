-- What a crash may leave while the file is upgraded.
use Rattle.std.proofs.Common.{◌≡◌, ◌⊎◌, inl, inr, ℕ, ◌≤◌, true, List, [], None, Ok, Err, refl, sym, subst}
use Rattle.dg_batch.specs.declared.held.Held.{Held}
use Rattle.dg_disk.proofs.FrameLemmas.{reads_none}
use Rattle.dg_disk.specs.Calls.{LeftByCrash}
use Rattle.dg_disk.specs.declared.disk.Disk.{Ghosts}
use Rattle.dg_file.specs.declared.fault.CommitFault.{CommitFault}
use Rattle.dg_file.specs.declared.fault.CommitFault.TheVariants as fault
use Rattle.dg_file.specs.Images.{GainsUpgradeOrNot}
use Rattle.dg_index.specs.ImageOfHistory.{StandsAs}
use Rattle.dg_index.specs.IndexGrowth.{needed_for_marker}
use Rattle.dg_machine.specs.Answer.{headed}
use Rattle.dg_machine.specs.declared.command.Command.TheVariants as command
use Rattle.dg_machine.specs.declared.reply.Head.TheVariants as head
use Rattle.dg_machine.specs.declared.reply.Reply.{Reply}
use Rattle.dg_machine.specs.MachineState.{MachineState}
use Rattle.dg_machine.specs.Needs.{needs}
use Rattle.dg_machine.specs.Run.{Step}
use Rattle.dg_machine.specs.Script.{Asked}
use Rattle.dg_session.proofs.CommandCrashes.{OnlyNow, reads_leave, wider}
use Rattle.dg_session.proofs.SessionUpgradeStep.{IsFree, left_as, upgrade_cuts, upgrade_steps, upgraded_in}
use Rattle.dg_session.specs.Crashes.{IsFirstByte, is_created}
use Rattle.dg_session.specs.Parts.{Parts}
use Rattle.dg_session.specs.Session.{CutsOff, LeavesAnswered, LeavesCommand, refused_by}
use Rattle.dg_session.specs.Upgrade.{MarksHeld, upgrade_halt}

module _ (p : Parts) (limit : ℕ) (limit_is : limit ≡ p.limits.file_bytes) (none : refused_by p 0 (needs command.Upgrade) ≡ None) (free : IsFree p) where
  -- the history or the upgraded one
  answered_left : (a left : List ℕ) → needed_for_marker free.index ≤ limit → GainsUpgradeOrNot a left → LeavesAnswered command.Upgrade [] p (headed head.Upgraded) a left
  answered_left a left fits gains m s =
      let k : MachineState = upgraded_in p limit limit_is none free a m s in
      left_as p limit limit_is none free a m s left
      (StandsAs m.index left ⊎ ((n : MachineState) × Step m (Asked command.Upgrade []) (headed head.Upgraded) n × StandsAs n.index left) ⊎ ((is_created (headed head.Upgraded) ≡ true) × (m.index ≡ None) × IsFirstByte a left))
      gains (λ same. inl same) (λ more. inr (inl (k, upgrade_steps p limit limit_is none free a m s fits, more)))

  module _ {D : Type 0} (g : Ghosts D) (old new : D) (run : LeftByCrash g old new GainsUpgradeOrNot) where
    pub upgraded_left : (reply : Reply) → needed_for_marker free.index ≤ limit → reply ≡ headed head.Upgraded → LeftByCrash g old new (LeavesCommand command.Upgrade [] p (Ok reply))
    upgraded_left reply fits is =
        subst (λ (r : Reply). LeftByCrash g old new (LeavesAnswered command.Upgrade [] p r)) (sym is)
        (wider g old new GainsUpgradeOrNot (LeavesAnswered command.Upgrade [] p (headed head.Upgraded)) (λ a left at gains. answered_left a left fits gains) run)

    pub unupgraded_left : OnlyNow g → (A : Type 0) (before after : Held) (f : CommitFault) → MarksHeld {A = A} g limit free.index before after old new (Err f)
        → LeftByCrash g old new (LeavesCommand command.Upgrade [] p (Err (upgrade_halt limit f)))
    unupgraded_left only A before after (fault.FileFull n) marks =
        subst (λ (x : D). LeftByCrash g old x (λ a left. left ≡ a)) (sym marks.3) (reads_leave g only old old reads_none (λ a left. left ≡ a) (λ a. refl))
    unupgraded_left only A before after fault.Disk marks =
        wider g old new GainsUpgradeOrNot (λ a left. CutsOff command.Upgrade [] p a left) (λ a left at gains. upgrade_cuts p limit limit_is none free a left marks.fits gains) run
