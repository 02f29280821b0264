-- Which lines are those of an entry, and which hold none.
use Rattle.std.proofs.Common.{◌≡◌, ℕ, zero, suc, ◌+◌, ◌<◌, ◌≤◌, List, [], ◌∷◌, ◌++◌, length, take, drop, refl, sym, ap, ◌∙◌, arith, append_assoc, length-append, length-drop, subst}
use Rattle.std.specs.Prelude.{if◌then◌else◌, nat_lt}
use Rattle.std.proofs.lemmas.Bool.{cond-true, cond-false, lt-ltb, le-ltb}
use Rattle.dg_cuts.specs.TakenLines.{AreLinesBy}
use Rattle.dg_cuts.specs.WholeEntries.{wanted, whole_by, whole_within_by}
use Rattle.dg_text.specs.Lines.{ScriptLine}
use Rattle.dg_machine.specs.declared.command.Command.{Command}
use Rattle.dg_machine.specs.CommandGrammar.{Grammar}
use Rattle.dg_machine.specs.Needs.{following}
use Rattle.dg_machine.specs.Script.{Entry, Asked, Meaning, Skipped, Command_is, Other, first_entry, meaning_by}

shorter : (m : Meaning) (rest : List ScriptLine) → length (first_entry m rest).1 ≤ length rest
shorter Skipped rest = omega arith
shorter (Command_is c) rest = omega (arith, length-drop (following c) rest)
shorter (Other e) rest = omega arith

-- every bound that is large enough gives the same
stable : (read : Grammar) (j k : ℕ) (lines : List ScriptLine) → length lines ≤ j → length lines ≤ k → whole_within_by read j lines ≡ whole_within_by read k lines
stable read zero zero lines a b = refl
stable read zero (suc k) [] a b = refl
stable read zero (suc k) (line ∷ rest) a b = absurd (omega arith)
stable read (suc j) zero [] a b = refl
stable read (suc j) zero (line ∷ rest) a b = absurd (omega arith)
stable read (suc j) (suc k) [] a b = refl
stable read (suc j) (suc k) (line ∷ rest) a b =
    ap (λ es. if nat_lt (length rest) (wanted (meaning_by read line)) then [] else (first_entry (meaning_by read line) rest).0 ++ es)
    (stable read j k (first_entry (meaning_by read line) rest).1 (omega (arith, shorter (meaning_by read line) rest)) (omega (arith, shorter (meaning_by read line) rest)))

-- the lines that are wanted are there: the entry is that of them, and the lines behind them are left
first_there : (m : Meaning) (got tail : List ScriptLine) → length got ≡ wanted m → first_entry m (got ++ tail) ≡ ((first_entry m got).0, tail)
first_there Skipped [] tail long = refl
first_there Skipped (x ∷ got) tail long = absurd (omega (arith, long))
first_there (Command_is c) got tail long = λ i. (
  Asked c (front (following c) got tail long i) ∷ [],
  back (following c) got tail long i,
)
  where
    front : (n : ℕ) (got tail : List ScriptLine) → length got ≡ n → take n (got ++ tail) ≡ take n got
    front zero got tail long = refl
    front (suc n) [] tail long = absurd (omega (arith, long))
    front (suc n) (x ∷ got) tail long = ap (λ xs. x ∷ xs) (front n got tail (omega (arith, long)))

    back : (n : ℕ) (got tail : List ScriptLine) → length got ≡ n → drop n (got ++ tail) ≡ tail
    back zero [] tail long = refl
    back zero (x ∷ got) tail long = absurd (omega (arith, long))
    back (suc n) [] tail long = absurd (omega (arith, long))
    back (suc n) (x ∷ got) tail long = back n got tail (omega (arith, long))
first_there (Other e) [] tail long = refl
first_there (Other e) (x ∷ got) tail long = absurd (omega (arith, long))

-- a line with all the lines that it wants
pub entry_lines : (read : Grammar) (line : ScriptLine) (got : List ScriptLine) → length got ≡ wanted (meaning_by read line) → AreLinesBy read (line ∷ got) (first_entry (meaning_by read line) got).0
entry_lines read line got long tail =
    let m = meaning_by read line in
    let rest : List ScriptLine = got ++ tail in
    let there = first_there m got tail long in
    let all : length rest ≡ length got + length tail = length-append got tail in
    cond-false _ _ _ (le-ltb (length rest) (wanted m) (omega (arith, all, long)))
    ∙ ap (λ (x : List Entry × List ScriptLine). x.0 ++ whole_within_by read (length rest) x.1) there
    ∙ ap (λ es. (first_entry m got).0 ++ es) (stable read (length rest) (length tail) tail (omega (arith, all)) (omega arith))

-- a line with fewer lines than it wants
pub part_of_entry : (read : Grammar) (line : ScriptLine) (got : List ScriptLine) → length got < wanted (meaning_by read line) → whole_by read (line ∷ got) ≡ []
part_of_entry read line got few = cond-true _ _ _ (lt-ltb (length got) (wanted (meaning_by read line)) few)

-- the same, by what the line means
pub lines_by : (read : Grammar) (line : ScriptLine) (m : Meaning) (got : List ScriptLine) → meaning_by read line ≡ m → length got ≡ wanted m → AreLinesBy read (line ∷ got) (first_entry m got).0
lines_by read line m got is long = subst (λ (x : Meaning). AreLinesBy read (line ∷ got) (first_entry x got).0) is (entry_lines read line got (long ∙ ap wanted (sym is)))

pub command_lines : (read : Grammar) (line : ScriptLine) (c : Command) (got : List ScriptLine) → meaning_by read line ≡ Command_is c → length got ≡ following c → AreLinesBy read (line ∷ got) (Asked c got ∷ [])
command_lines read line c got is long =
    subst (λ (ls : List ScriptLine). AreLinesBy read (line ∷ got) (Asked c ls ∷ [])) (all (following c) got long) (lines_by read line (Command_is c) got is long)
  where
    all : (n : ℕ) (got : List ScriptLine) → length got ≡ n → take n got ≡ got
    all zero [] long = refl
    all zero (x ∷ got) long = absurd (omega (arith, long))
    all (suc n) [] long = refl
    all (suc n) (x ∷ got) long = ap (λ xs. x ∷ xs) (all n got (omega (arith, long)))

pub part_of_command : (read : Grammar) (line : ScriptLine) (c : Command) (got : List ScriptLine) → meaning_by read line ≡ Command_is c → length got < following c → whole_by read (line ∷ got) ≡ []
part_of_command read line c got is few = part_of_entry read line got (subst (λ (m : Meaning). length got < wanted m) (sym is) few)

-- no line
pub no_lines : (read : Grammar) → AreLinesBy read [] []
no_lines read tail = refl

-- lines of some entries, and then those of more
pub more_lines : (read : Grammar) (xs ys : List ScriptLine) (es fs : List Entry) → AreLinesBy read xs es → AreLinesBy read ys fs → AreLinesBy read (xs ++ ys) (es ++ fs)
more_lines read xs ys es fs p q tail =
    ap (whole_by read) (append_assoc xs ys tail) ∙ p (ys ++ tail) ∙ ap (λ more. es ++ more) (q tail) ∙ sym (append_assoc es fs (whole_by read tail))
