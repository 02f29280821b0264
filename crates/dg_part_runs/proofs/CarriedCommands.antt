-- A command that is carried out, with no line behind it.
use Rattle.std.proofs.Common.{arith, ◌≡◌, ℕ, List, [], ◌++◌, Option, Some, None, Vec, refl, sym, ◌∙◌, subst}
use Rattle.std.specs.Option.{option_map}
use Rattle.std.specs.Vec.{with_items}
use Rattle.dg_cuts.specs.TakenLines.{TakesBehind}
use Rattle.dg_disk.specs.Calls.{ReadsDisk}
use Rattle.dg_disk.specs.declared.disk.Disk.{Ghosts}
use Rattle.dg_io.proofs.GivenLines.{gave_none}
use Rattle.dg_io.specs.LinesState.{LinesState, told}
use Rattle.dg_machine.specs.declared.command.Command.{Command}
use Rattle.dg_machine.specs.declared.reply.Reply.{Reply}
use Rattle.dg_machine.specs.Needs.{following}
use Rattle.dg_session.specs.SessionState.{SessionState}
use Rattle.dg_text.specs.Lines.{ScriptLine}
use Rattle.dg_part_runs.specs.declared.sessions.PartSessions.{PartSessions}
use Rattle.dg_part_runs.specs.Disks.{images_of}
use Rattle.dg_part_runs.specs.HeldParts.{AreParts}
use Rattle.dg_part_runs.specs.PartAnswers.{AnswersPart, AreReady}
use Rattle.dg_part_runs.proofs.DiskLists.{same_images}
use Rattle.dg_part_runs.proofs.PartPromises.{written_back}
use Rattle.dg_part_runs.proofs.ZippedLists.{zip_length}

none_first : (lines : Option (List ScriptLine)) → lines ≡ option_map (λ rest. [] ++ rest) lines
none_first None = refl
none_first (Some lines) = refl

taken_nothing : (lines : LinesState) (left : Option (List ℕ)) → TakesBehind 0 lines left lines left []
taken_nothing lines left = record {
  follows = record { lines = none_first (told lines left); most = omega arith; fewer = λ lt. absurd (omega (arith, lt)) };
  gave = gave_none lines left;
  all = λ is. refl;
}

module _ {D : Type 0} (d : Ghosts D) where
  pub answered_by : (c k : Command) (lines : LinesState) (left : Option (List ℕ)) (old new : PartSessions) (before after : List D) (reply : Reply) → c ≡ k → following k ≡ 0
      → AnswersPart d k [] old before new after reply → (got : List ScriptLine) × TakesBehind (following c) lines left lines left got × AnswersPart d c got old before new after reply
  answered_by c k lines left old new before after reply is none answers =
      subst (λ (x : Command). (got : List ScriptLine) × TakesBehind (following x) lines left lines left got × AnswersPart d x got old before new after reply) (sym is)
      ([], subst (λ (n : ℕ). TakesBehind n lines left lines left []) (sym none) (taken_nothing lines left), answers)

  -- over the whole of what was handed as a slice
  pub answers_back : {Z : Type 0} (v : Vec D Z) (seen ws : List D) (c : Command) (old new : PartSessions) (reply : Reply) → seen ≡ v.items → AnswersPart d c [] old seen new ws reply
      → AnswersPart d c [] old v.items new (with_items v ws).items reply
  answers_back v seen ws c old new reply is answers =
      subst (λ (l : List D). AnswersPart d c [] old v.items new l reply) (sym (written_back v seen ws is (sym (zip_length (ReadsDisk d) seen ws answers.reads))))
      (subst (λ (l : List D). AnswersPart d c [] old l new ws reply) is answers)

  -- what holds between two commands holds behind one
  pub ready_after : (c : Command) (got : List ScriptLine) (old new : PartSessions) (before after : List D) (reply : Reply) → AreReady d old before → AnswersPart d c got old before new after reply → AreReady d new after
  ready_after c got old new before after reply ready answers = record {
    limits = ready.limits;
    parts =
        subst (λ (told : List (Option (List ℕ))). AreParts ready.limits new.sessions.items told) (sym (same_images d before after answers.reads))
        (subst (λ (sessions : List SessionState). AreParts ready.limits sessions (images_of d before)) (sym answers.sessions) ready.parts);
    nameless = answers.nameless ∙ ready.nameless;
  }
