-- What is put reads back.
use Rattle.std.proofs.Common.{◌≡◌, ℕ, List, [], ◌∷◌, ◌++◌, length, map, drop, sym, ap, ◌∙◌, codes, subst, append-nil}
use Rattle.std.proofs.Math.Seq.{drop-append_seam}
use Rattle.dg_graph.specs.declared.event.Event.{Event}
use Rattle.dg_history.specs.declared.params.Params.{Params}
use Rattle.dg_machine.specs.declared.command.Command.{Command}
use Rattle.dg_dump.specs.DumpLaws.{CommandsReadBack, IsTextOf, TextsReadBack}
use Rattle.dg_dump.specs.ScriptOfHistory.{batch_command, create_line, event_line, text_of_lines}
use Rattle.dg_dump_lines.specs.declared.commands.BatchVerb.{BatchVerb}
use Rattle.dg_dump_lines.specs.declared.commands.BatchVerb.TheVariants as verb
use Rattle.dg_dump_lines.specs.PutLines.{AreCommand, CountsAs, CreatesBy, ReadBackAs, behind, verb_text}

put_is : (old new piece : List ℕ) → new ≡ old ++ piece → behind old new ≡ piece
put_is old new piece e = ap (drop (length old)) e ∙ drop-append_seam old piece

one_line : (line : List ℕ) → text_of_lines (line ∷ []) ≡ line ++ 10 ∷ []
one_line line = append-nil (line ++ 10 ∷ [])

pub events_back : TextsReadBack → (names : List (List ℕ)) (events : List Event) (old new : List ℕ) → new ≡ old ++ text_of_lines (map (event_line names) events)
    → ReadBackAs names events (behind old new)
events_back law names events old new e =
    subst (ReadBackAs names events) (sym (put_is old new (text_of_lines (map (event_line names) events)) e)) (λ are. law names events are.new are.fits are.keys)

pub event_back : TextsReadBack → (names : List (List ℕ)) (x : Event) (old new : List ℕ) → new ≡ old ++ (event_line names x ++ 10 ∷ []) → ReadBackAs names (x ∷ []) (behind old new)
event_back law names x old new e = events_back law names (x ∷ []) old new (e ∙ ap (λ t. old ++ t) (sym (one_line (event_line names x))))

command_back : (c : Command) (line old new : List ℕ) → new ≡ old ++ (line ++ 10 ∷ []) → IsTextOf c line → AreCommand c (behind old new)
command_back c line old new e is = subst (AreCommand c) (sym (put_is old new (line ++ 10 ∷ []) e ∙ sym (one_line line))) is

pub creation_back : CommandsReadBack → (p : Params) (old new : List ℕ) → new ≡ old ++ (create_line p ++ 10 ∷ []) → CreatesBy p (behind old new)
creation_back law p old new e = λ right is. command_back _ (create_line p) old new e (law.create p right is)

pub batch_back : CommandsReadBack → (v : BatchVerb) (n : ℕ) (old new : List ℕ) → new ≡ old ++ (batch_command (verb_text v) n ++ 10 ∷ []) → CountsAs v n (behind old new)
batch_back law verb.Load n old new e = λ some few. command_back _ (batch_command (codes "load") n) old new e (law.load n some few)
batch_back law verb.Append n old new e = λ some few. command_back _ (batch_command (codes "append") n) old new e (law.append n some few)
