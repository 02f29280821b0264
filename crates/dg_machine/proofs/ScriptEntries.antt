-- How the entries of a script follow from its lines, one line at a time, by any grammar.
use Rattle.std.proofs.Common.{◌≡◌, ℕ, zero, suc, ◌<◌, ◌≤◌, List, [], ◌∷◌, ◌++◌, Option, Some, None, length, take, drop, refl, sym, ◌∙◌, ap, arith, length-drop}
use Rattle.std.specs.Option.{option_map}
use Rattle.dg_machine.specs.declared.command.Command.{Command}
use Rattle.dg_machine.specs.CommandGrammar.{Grammar}
use Rattle.dg_machine.specs.Needs.{following}
use Rattle.dg_text.specs.Lines.{ScriptLine}
use Rattle.dg_machine.specs.Script.{Entry, Asked, Meaning, Skipped, Command_is, Other, meaning_by, first_entry, entries_by, entries_of_by, Follows}

-- what is left after the first line is no longer than the lines after it
first_shorter : (m : Meaning) (rest : List ScriptLine) → length (first_entry m rest).1 ≤ length rest
first_shorter Skipped rest = omega arith
first_shorter (Command_is c) rest = omega (arith, length-drop (following c) rest)
first_shorter (Other e) rest = omega arith

-- every bound that is large enough gives the same
pub enough : (read : Grammar) (j k : ℕ) (lines : List ScriptLine) → length lines ≤ j → length lines ≤ k → entries_by read j lines ≡ entries_by read k lines
enough read zero zero lines a b = refl
enough read zero (suc k) [] a b = refl
enough read zero (suc k) (line ∷ rest) a b = absurd (omega arith)
enough read (suc j) zero [] a b = refl
enough read (suc j) zero (line ∷ rest) a b = absurd (omega arith)
enough read (suc j) (suc k) [] a b = refl
enough read (suc j) (suc k) (line ∷ rest) a b =
    ap (λ es. (first_entry (meaning_by read line) rest).0 ++ es)
    (enough read j k (first_entry (meaning_by read line) rest).1
    (omega (arith, first_shorter (meaning_by read line) rest)) (omega (arith, first_shorter (meaning_by read line) rest)))

-- the entries of a line and the lines after it
pub entries_step : (read : Grammar) (line : ScriptLine) (rest : List ScriptLine)
    → entries_of_by read (line ∷ rest) ≡ (first_entry (meaning_by read line) rest).0 ++ entries_of_by read (first_entry (meaning_by read line) rest).1
entries_step read line rest =
    let first = first_entry (meaning_by read line) rest in
    enough read (length (line ∷ rest)) (suc (length rest)) (line ∷ rest) (omega arith) (omega arith)
    ∙ ap (λ es. (first_entry (meaning_by read line) rest).0 ++ es)
    (enough read (length rest) (length (first_entry (meaning_by read line) rest).1) (first_entry (meaning_by read line) rest).1
    (first_shorter (meaning_by read line) rest) (omega arith))

entries_at : (read : Grammar) (line : ScriptLine) (rest : List ScriptLine) (m : Meaning) → meaning_by read line ≡ m
    → entries_of_by read (line ∷ rest) ≡ (first_entry m rest).0 ++ entries_of_by read (first_entry m rest).1
entries_at read line rest m is =
    entries_step read line rest ∙ ap (λ x. (first_entry x rest).0 ++ entries_of_by read (first_entry x rest).1) is

-- a line that is skipped comes to nothing
pub told_skip : (read : Grammar) (old new : Option (List ScriptLine)) (line : ScriptLine)
    → old ≡ option_map (λ rest. line ∷ rest) new → meaning_by read line ≡ Skipped
    → option_map (entries_of_by read) old ≡ option_map (entries_of_by read) new
told_skip read old None line comes is = ap (option_map (entries_of_by read)) comes
told_skip read old (Some rest) line comes is =
    ap (option_map (entries_of_by read)) comes ∙ ap (λ es. Some es) (entries_at read line rest Skipped is)

-- a line that is an entry by itself
pub told_other : (read : Grammar) (old new : Option (List ScriptLine)) (line : ScriptLine) (e : Entry)
    → old ≡ option_map (λ rest. line ∷ rest) new → meaning_by read line ≡ Other e
    → option_map (entries_of_by read) old ≡ option_map (λ more. e ∷ more) (option_map (entries_of_by read) new)
told_other read old None line e comes is = ap (option_map (entries_of_by read)) comes
told_other read old (Some rest) line e comes is =
    ap (option_map (entries_of_by read)) comes ∙ ap (λ es. Some es) (entries_at read line rest (Other e) is)

-- the lines that follow are what the command takes, and the others are left
takes : (n : ℕ) (got rest : List ScriptLine) → length got ≤ n → (length got < n → rest ≡ []) → take n (got ++ rest) ≡ got
takes zero [] rest most fewer = refl
takes zero (x ∷ got) rest most fewer = absurd (omega arith)
takes (suc n) [] rest most fewer = ap (take (suc n)) (fewer (omega arith))
takes (suc n) (x ∷ got) rest most fewer = ap (λ xs. x ∷ xs) (takes n got rest (omega arith) (λ less. fewer (omega arith)))

drops : (n : ℕ) (got rest : List ScriptLine) → length got ≤ n → (length got < n → rest ≡ []) → drop n (got ++ rest) ≡ rest
drops zero [] rest most fewer = refl
drops zero (x ∷ got) rest most fewer = absurd (omega arith)
drops (suc n) [] rest most fewer = ap (drop (suc n)) (fewer (omega arith)) ∙ sym (fewer (omega arith))
drops (suc n) (x ∷ got) rest most fewer = drops n got rest (omega arith) (λ less. fewer (omega arith))

-- a command with the lines that follow it
pub told_asked : (read : Grammar) (old mid new : Option (List ScriptLine)) (line : ScriptLine) (c : Command) (got : List ScriptLine)
    → old ≡ option_map (λ rest. line ∷ rest) mid → meaning_by read line ≡ Command_is c → Follows (following c) mid got new
    → option_map (entries_of_by read) old ≡ option_map (λ more. Asked c got ∷ more) (option_map (entries_of_by read) new)
told_asked read old mid None line c got comes is follows =
    ap (option_map (entries_of_by read)) (comes ∙ ap (option_map (λ rest. line ∷ rest)) follows.lines)
told_asked read old mid (Some rest) line c got comes is follows =
    ap (option_map (entries_of_by read)) (comes ∙ ap (option_map (λ more. line ∷ more)) follows.lines)
    ∙ ap (λ es. Some es)
    (entries_at read line (got ++ rest) (Command_is c) is
    ∙ ap (λ xs. Asked c xs ∷ entries_of_by read (drop (following c) (got ++ rest))) (takes (following c) got rest follows.most follows.fewer)
    ∙ ap (λ xs. Asked c got ∷ entries_of_by read xs) (drops (following c) got rest follows.most follows.fewer))
