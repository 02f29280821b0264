-- What was taken of a script, by the line that was cut.
use Rattle.std.proofs.Common.{◌≡◌, ℕ, List, [], ◌∷◌, Option, None, Some, IfSome, refl, ap, subst}
use Rattle.std.specs.Prelude.{Bool, true, false, IsTrue, if◌then◌else◌}
use Rattle.std.specs.Option.{option_map}
use Rattle.dg_cuts.specs.TakenLines.{CutsBy, CutsWithin, GaveBy, TakesBehind}
use Rattle.dg_cuts.proofs.TakenEntries.{cut_behind, cut_command, took_behind, took_command}
use Rattle.dg_cuts.proofs.TakenLines.{lines_by}
use Rattle.dg_io.specs.LinesState.{Comes, GaveLines, LinesState, NoneLeft, told}
use Rattle.dg_machine.specs.CommandGrammar.{Grammar}
use Rattle.dg_machine.specs.declared.command.Command.{Command}
use Rattle.dg_machine.specs.Needs.{following}
use Rattle.dg_machine.specs.Script.{Asked, Command_is, Long_line, No_command, Other, Skipped, entries_of_by, is_skipped, meaning_by, read_as}
use Rattle.dg_machine.proofs.ScriptEntries.{told_asked, told_other, told_skip}
use Rattle.dg_text.specs.Lines.{Long, ScriptLine, Text}
use Rattle.dg_turns.specs.declared.entry.Taken.{Taken}
use Rattle.dg_turns.specs.declared.entry.Taken.TheVariants as taken
use Rattle.dg_machine.specs.declared.reply.Refusal.TheVariants as refusal
use Rattle.dg_turns.specs.Entries.{CommandComes, Means, Takes, asked_by}

-- at the end of the script no entry is to come
pub end_taken : (read : Grammar) (old new : LinesState) (left then_left : Option (List ℕ)) → NoneLeft (told old left) → told old left ≡ told new then_left → IsTrue new.ended
    → Takes read old left new then_left taken.End
end_taken read old new left then_left none same ended = (none_asked (told old left) none, ap (option_map (entries_of_by read)) same, ended)
  where
    none_asked : (lines : Option (List ScriptLine)) → NoneLeft lines → IfSome (option_map (entries_of_by read) lines) (λ rest. rest ≡ [])
    none_asked None none = tt
    none_asked (Some lines) none = ap (entries_of_by read) none

-- a line that is too long
pub long_taken : (read : Grammar) (old new : LinesState) (left then_left : Option (List ℕ)) → Comes Long (told old left) (told new then_left)
    → GaveLines (Long ∷ []) old left new then_left → Takes read old left new then_left (taken.Refused refusal.LineLong)
long_taken read old new left then_left comes gave = (
  Long_line,
  refl,
  told_other read (told old left) (told new then_left) Long Long_line comes refl,
  (Long ∷ [], gave, λ yet. lines_by read Long (Other Long_line) [] refl refl),
)

-- a line by what it means
line_taken : (read : Grammar) (old new : LinesState) (left then_left : Option (List ℕ)) (line : List ℕ) (t : Taken) → Comes (Text line) (told old left) (told new then_left)
    → GaveLines (Text line ∷ []) old left new then_left → Means read t line → Takes read old left new then_left t
line_taken read old new left then_left line taken.End comes gave means = absurd means
line_taken read old new left then_left line taken.Skipped comes gave means = (
  told_skip read (told old left) (told new then_left) (Text line) comes means,
  (Text line ∷ [], gave, λ yet. lines_by read (Text line) Skipped [] means refl),
)
line_taken read old new left then_left line (taken.Refused r) comes gave means = (
  No_command line,
  means.1,
  told_other read (told old left) (told new then_left) (Text line) (No_command line) comes means.0,
  (Text line ∷ [], gave, λ yet. lines_by read (Text line) (Other (No_command line)) [] means.0 refl),
)
line_taken read old new left then_left line (taken.Command c) comes gave means =
    (record { line = Text line; means = means.0; comes = comes; gave = gave }, means.1)

pub text_taken : (read : Grammar) (old new : LinesState) (left then_left : Option (List ℕ)) (text : List ℕ) (t : Taken) → text ≡ new.text → Comes (Text new.text) (told old left) (told new then_left)
    → GaveLines (Text new.text ∷ []) old left new then_left → Means read t text → Takes read old left new then_left t
text_taken read old new left then_left text t same comes gave means =
    line_taken read old new left then_left new.text t comes gave (subst (λ (l : List ℕ). Means read t l) same means)

-- ---- a command and the lines that follow it

read_so : (line : List ℕ) (b : Bool) (r : Option Command) (c : Command) → (if b then Skipped else read_as line r) ≡ Command_is c → r ≡ Some c
read_so line true r c is = absurd (cc)
read_so line false None c is = absurd (cc)
read_so line false (Some d) c is = cc

-- a line that is a command has what each command of the grammar has
pub of_grammar : (read : Grammar) (P : Command → Type 0) → ((text : List ℕ) (c : Command) → read text ≡ Some c → P c) → (line : ScriptLine) (c : Command)
    → meaning_by read line ≡ Command_is c → P c
of_grammar read P all (Text line) c is = all line c (read_so line (is_skipped line) (read line) c is)
of_grammar read P all Long c is = absurd (cc)

pub asks_behind : (read : Grammar) (c : Command) (old mid new : LinesState) (left mid_left then_left : Option (List ℕ)) (got : List ScriptLine) → CommandComes read c old left mid mid_left
    → TakesBehind (following c) mid mid_left new then_left got → asked_by read old left ≡ option_map (λ more. Asked c got ∷ more) (asked_by read new then_left)
asks_behind read c old mid new left mid_left then_left got came took =
    told_asked read (told old left) (told mid mid_left) (told new then_left) came.line c got came.comes came.means took.follows

pub gave_behind : (read : Grammar) (c : Command) (old mid new : LinesState) (left mid_left then_left : Option (List ℕ)) (got : List ScriptLine) → CommandComes read c old left mid mid_left
    → (IsTrue mid.ended → IsTrue new.ended) → TakesBehind (following c) mid mid_left new then_left got → GaveBy read [] (Asked c got ∷ []) old left new then_left
gave_behind read c old mid new left mid_left then_left got came stays took =
    took_behind read came.line (Asked c got ∷ []) old mid new left mid_left then_left stays came.gave
    (took_command read came.line c got mid new mid_left then_left came.means took)

pub cuts_behind : (read : Grammar) (c : Command) (old mid new : LinesState) (left mid_left then_left : Option (List ℕ)) → CommandComes read c old left mid mid_left
    → (IsTrue mid.ended → IsTrue new.ended) → CutsWithin (following c) mid mid_left new then_left → CutsBy read [] old left new then_left
cuts_behind read c old mid new left mid_left then_left came stays cut =
    cut_behind read came.line old mid new left mid_left then_left stays came.gave (cut_command read came.line c mid new mid_left then_left came.means cut)
