-- What a crash may leave while an index is made.
use Rattle.std.proofs.Common.{◌≡◌, ◌⊎◌, inl, inr, ℕ, true, List, [], Option, None, Ok, Err, refl, sym, subst}
use Rattle.dg_batch.specs.Halt.{creation_halt}
use Rattle.dg_disk.proofs.FrameLemmas.{reads_none}
use Rattle.dg_disk.specs.Calls.{LeftByCrash}
use Rattle.dg_disk.specs.declared.disk.Disk.{Ghosts}
use Rattle.dg_file.specs.declared.fault.CreateFault.{CreateFault}
use Rattle.dg_file.specs.declared.fault.CreateFault.TheVariants as fault
use Rattle.dg_file.specs.Images.{IsMadeInPart}
use Rattle.dg_history.specs.declared.form.Form.TheVariants as form
use Rattle.dg_history.specs.declared.params.Params.{Params}
use Rattle.dg_history.specs.History.{History}
use Rattle.dg_index.specs.ImageOfHistory.{StandsAs}
use Rattle.dg_machine.specs.Answer.{headed}
use Rattle.dg_machine.specs.declared.reply.Head.TheVariants as head
use Rattle.dg_machine.specs.declared.reply.Reply.{Reply}
use Rattle.dg_machine.specs.MachineState.{MachineState}
use Rattle.dg_machine.specs.Needs.{needs}
use Rattle.dg_machine.specs.Run.{Step}
use Rattle.dg_machine.specs.Script.{Asked}
use Rattle.dg_session.proofs.CommandCrashes.{OnlyNow, reads_leave, wider}
use Rattle.dg_session.proofs.SessionCreationStep.{create_cuts, made_in, making_steps, none_there}
use Rattle.dg_session.specs.CreationCommand.{making, params_asked}
use Rattle.dg_session.specs.Crashes.{IsFirstByte, is_created}
use Rattle.dg_session.specs.declared.creation_command.AskedFunction.{AskedFunction}
use Rattle.dg_session.specs.Parts.{Parts}
use Rattle.dg_session.specs.Session.{CutsOff, LeavesAnswered, LeavesCommand, refused_by}

module _ (l k : ℕ) (asked : AskedFunction) (params : Params) (params_are : params ≡ params_asked l k asked) (p : Parts) (none : refused_by p 0 (needs (making l k asked)) ≡ None) where
  -- no index, the new index, or the header with another first byte
  answered_left : (a left : List ℕ) → IsMadeInPart form.Two params a left → LeavesAnswered (making l k asked) [] p (headed head.Created) a left
  answered_left a left part m s = by part
    where
      gone : m.index ≡ None
      gone = none_there p a m l k asked s none

      by : IsMadeInPart form.Two params a left
          → StandsAs m.index left ⊎ ((n : MachineState) × Step m (Asked (making l k asked) []) (headed head.Created) n × StandsAs n.index left) ⊎ ((is_created (headed head.Created) ≡ true) × (m.index ≡ None) × IsFirstByte a left)
      by (inl blank) = inl (subst (λ (i : Option History). StandsAs i left) (sym gone) blank)
      by (inr (inl made)) = inr (inl (made_in m params, making_steps l k asked params params_are p a m s none, made))
      by (inr (inr byte)) = inr (inr (refl, gone, byte))

  module _ {D : Type 0} (g : Ghosts D) (old new : D) (run : LeftByCrash g old new (IsMadeInPart form.Two params)) where
    pub created_left : (reply : Reply) → reply ≡ headed head.Created → LeftByCrash g old new (LeavesCommand (making l k asked) [] p (Ok reply))
    created_left reply is =
        subst (λ (r : Reply). LeftByCrash g old new (LeavesAnswered (making l k asked) [] p r)) (sym is)
        (wider g old new (IsMadeInPart form.Two params) (LeavesAnswered (making l k asked) [] p (headed head.Created)) (λ a left at part. answered_left a left part) run)

    pub uncreated_left : OnlyNow g → (f : CreateFault) → (f ≡ fault.Memory → new ≡ old) → LeftByCrash g old new (LeavesCommand (making l k asked) [] p (Err (creation_halt f)))
    uncreated_left only fault.Memory same = subst (λ (x : D). LeftByCrash g old x (λ a left. left ≡ a)) (sym (same refl)) (reads_leave g only old old reads_none (λ a left. left ≡ a) (λ a. refl))
    uncreated_left only fault.Disk same =
        wider g old new (IsMadeInPart form.Two params) (λ a left. CutsOff (making l k asked) [] p a left) (λ a left at part. create_cuts l k asked params params_are p a left none part) run
