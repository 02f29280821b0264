-- The texts that a script is made of are cut into their lines, and read back.
use Rattle.std.proofs.Common.{◌≡◌, ℕ, ◌^◌, ◌<◌, ◌≤◌, true, List, [], ◌∷◌, length, map, codes, Some, refl, ap, ◌∙◌, arith}
use Rattle.std.specs.Prelude.{◌==◌, false, slice_index}
use Rattle.std.proofs.lemmas.Bool.{leb-true}
use Rattle.std.proofs.lemmas.List.Elements.{All-cons, All-nil}
use Rattle.dg_graph.specs.declared.function.Function.{Function}
use Rattle.dg_graph.specs.declared.function.Function.TheVariants.{Intersection, Union, Balanced, Skewed}
use Rattle.dg_graph.specs.declared.limits.TheConstants.{SKEW_MAX}
use Rattle.dg_changes.specs.ChangeGrammar.{change_by_text_in}
use Rattle.dg_history.specs.History.{are_parameters, is_function}
use Rattle.dg_history.proofs.ParameterRanges.{in_range}
use Rattle.dg_machine.specs.declared.command.Command.{Command}
use Rattle.dg_machine.specs.declared.command.Command.TheVariants as command
use Rattle.dg_machine.specs.CommandGrammar.{command_of}
use Rattle.dg_machine.specs.Script.{meaning}
use Rattle.dg_dump.specs.DumpLaws.{CommandsReadBack, IsTextOf, TextsReadBack, creation_by}
use Rattle.dg_dump.specs.ScriptOfHistory.{batch_command, create_line, event_line}
use Rattle.dg_dump.proofs.BatchRuns.{append_is, created, load_is, meant, skewed}
use Rattle.dg_dump.proofs.BatchesBack.{lines_back}
use Rattle.dg_dump.proofs.HistoryRuns.{create_line_is}
use Rattle.dg_dump.proofs.LinesBack.{above}
use Rattle.dg_dump.proofs.ScriptLines.{IsLine, batch_command_line, events_are_lines, text_lines}

pub texts_back : TextsReadBack
texts_back names events new fits keys =
    ap (map change_by_text_in) (text_lines (map (event_line names) events) (events_are_lines names new events fits keys)) ∙ lines_back names new events fits keys

-- a line that begins with no `#` and is a command
command_text : (line : List ℕ) (c : Command) → 1 ≤ length line → (slice_index line 0 == 35) ≡ false → IsLine line → command_of line ≡ Some c → IsTextOf c line
command_text line c some plain is reads =
    ap (map meaning) (text_lines (line ∷ []) (All-cons IsLine line [] is (All-nil IsLine))) ∙ ap (λ m. m ∷ []) (meant line c some plain reads)

creates_back : (l k : ℕ) (f : Function) → are_parameters l k ≡ true → is_function f ≡ true → IsTextOf (creation_by l k f) (create_line (record { l = l; k = k; function = f }))
creates_back l k f right is = by f is
  where
    low : l < 2 ^ 32
    low = let m = (in_range l k right).list_most in omega arith

    high : k < 2 ^ 32
    high = let m = (in_range l k right).arity_most in omega arith

    by : (f : Function) → is_function f ≡ true → IsTextOf (creation_by l k f) (create_line (record { l = l; k = k; function = f }))
    by Intersection is =
        command_text (create_line (record { l = l; k = k; function = Intersection })) (command.Create l k Intersection) (omega arith) refl (create_line_is l k Intersection right is)
        (created l k low high (codes "intersection") Intersection (above (codes "intersection") refl) refl)
    by Union is =
        command_text (create_line (record { l = l; k = k; function = Union })) (command.Create l k Union) (omega arith) refl (create_line_is l k Union right is)
        (created l k low high (codes "union") Union (above (codes "union") refl) refl)
    by Balanced is =
        command_text (create_line (record { l = l; k = k; function = Balanced })) (command.Create l k Balanced) (omega arith) refl (create_line_is l k Balanced right is)
        (created l k low high (codes "balanced") Balanced (above (codes "balanced") refl) refl)
    by (Skewed r) is =
        command_text (create_line (record { l = l; k = k; function = Skewed r })) (command.CreateSkewed l k r) (omega arith) refl (create_line_is l k (Skewed r) right is)
        (skewed l k low high r (let m = leb-true r SKEW_MAX is in omega arith))

pub commands_back : CommandsReadBack
commands_back = record {
  create = λ p right is. creates_back p.l p.k p.function right is;
  load = λ n some few.
      command_text (batch_command (codes "load") n) (command.Load n) (omega arith) refl (batch_command_line (codes "load") n refl (omega arith) (omega arith)) (load_is n some few);
  append = λ n some few.
      command_text (batch_command (codes "append") n) (command.Append n) (omega arith) refl (batch_command_line (codes "append") n refl (omega arith) (omega arith)) (append_is n some few);
}
