-- What a run took of its script, where it ends.
use Rattle.std.proofs.Common.{◌≡◌, inl, inr, ℕ, Bool, true, false, List, [], ◌++◌, Option, refl, ap, subst, ◌∙◌, append_assoc, append-nil}
use Rattle.std.specs.Prelude.{IsTrue}
use Rattle.dg_cuts.proofs.TakenEntries.{AtStart, taken_front, taken_whole, took_both}
use Rattle.dg_cuts.specs.TakenLines.{CutsBy, GaveBy}
use Rattle.dg_io.specs.Frame.{Advances}
use Rattle.dg_io.specs.LinesState.{LinesState, ahead}
use Rattle.dg_machine.specs.CommandGrammar.{Grammar}
use Rattle.dg_machine.specs.Script.{Entry}
use Rattle.dg_turns.specs.Ends.{AreTakenBy, AreWholeBy}

-- a cutter of lines that holds nothing yet
abbrev pub IsFresh : LinesState → ℕ → Type 0
IsFresh r limit = r ≡ record { held = []; long = false; ended = false; taken = 0; limit = limit; text = [] }

pub fresh_starts : (r : LinesState) (limit : ℕ) → IsFresh r limit → AtStart r
fresh_starts r limit is more = ap (λ (x : LinesState). ahead x more) is

-- entries, and then those of more lines
pub took_more : (read : Grammar) (es fs : List Entry) (first now next : LinesState) (had mid has : Option (List ℕ)) → (IsTrue now.ended → IsTrue next.ended) → GaveBy read [] fs now mid next has → GaveBy read [] es first had now mid
    → GaveBy read [] (es ++ fs) first had next has
took_more read es fs first now next had mid has stays more so_far = took_both read es fs first now next had mid has stays so_far more

-- the same of lines that are those of none
pub took_no_more : (read : Grammar) (es : List Entry) (first now next : LinesState) (had mid has : Option (List ℕ)) → (IsTrue now.ended → IsTrue next.ended) → GaveBy read [] [] now mid next has → GaveBy read [] es first had now mid
    → GaveBy read [] es first had next has
took_no_more read es first now next had mid has stays none so_far =
    subst (λ (x : List Entry). GaveBy read [] x first had next has) (append-nil es) (took_both read es [] first now next had mid has stays so_far none)

-- where a read has given the end of input, the script was taken to its end
pub taken_to_end : (read : Grammar) (es : List Entry) (first now : LinesState) (had has : Option (List ℕ)) (limit f g : ℕ) → IsFresh first limit → Advances first had f now has g → IsTrue now.ended → AreTakenBy read es had has
taken_to_end read es first now had has limit f g fresh advances ended =
    let unended : first.ended ≡ false = ap (λ (r : LinesState). r.ended) fresh in
    let not_yet : IsTrue first.ended → ⊥ = λ said. cc in
    (advances.taken.0, advances.taken.1, inr (advances.at_end (λ said. absurd (not_yet said)) ended))

-- the entries were taken
pub entries_taken : (read : Grammar) (es : List Entry) (first now : LinesState) (had has : Option (List ℕ)) (limit f g : ℕ) → IsFresh first limit → Advances first had f now has g → GaveBy read [] es first had now has → AreTakenBy read es had has
entries_taken read es first now had has limit f g fresh advances gave = by now.ended refl
  where
    by : (b : Bool) → now.ended ≡ b → AreTakenBy read es had has
    by true ended = taken_to_end read es first now had has limit f g fresh advances ended
    by false yet =
        let front = taken_front read es first now had has (fresh_starts first limit fresh) yet gave in
        (front.0, front.1, inl (front.2, front.3))

front_taken : (read : Grammar) (es fs : List Entry) (had has : Option (List ℕ)) → AreTakenBy read (es ++ fs) had has → AreTakenBy read es had has
front_taken read es fs had has (taken, gives, inl (rest, whole)) = (taken, gives, inl (fs ++ rest, whole ∙ append_assoc es fs rest))
front_taken read es fs had has (taken, gives, inr end) = (taken, gives, inr end)

-- and so they were where more lines were taken, those of more entries
pub before_others : (read : Grammar) (es fs : List Entry) (first now next : LinesState) (had mid has : Option (List ℕ)) (limit f g : ℕ) → IsFresh first limit → Advances first had f next has g → (IsTrue now.ended → IsTrue next.ended)
    → GaveBy read [] fs now mid next has → GaveBy read [] es first had now mid → AreTakenBy read es had has
before_others read es fs first now next had mid has limit f g fresh advances stays more so_far =
    front_taken read es fs had has (entries_taken read (es ++ fs) first next had has limit f g fresh advances (took_more read es fs first now next had mid has stays more so_far))

-- where the script was cut they are all that stand whole
pub all_whole : (read : Grammar) (es : List Entry) (first now next : LinesState) (had mid has : Option (List ℕ)) (limit : ℕ) → IsFresh first limit → (IsTrue now.ended → IsTrue next.ended) → CutsBy read [] now mid next has → GaveBy read [] es first had now mid
    → AreWholeBy read es had has
all_whole read es first now next had mid has limit fresh stays cuts gave = taken_whole read es first now next had mid has (fresh_starts first limit fresh) stays gave cuts
