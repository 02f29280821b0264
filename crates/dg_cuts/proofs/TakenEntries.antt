-- What is answered of a script is what stands whole in the bytes that were taken of it.
use Rattle.std.proofs.Common.{◌≡◌, ℕ, Bool, true, false, ◌||◌, inl, inr, List, [], ◌∷◌, ◌++◌, length, Option, refl, sym, ap, ◌∙◌, append_assoc, append-nil, arith}
use Rattle.std.specs.Prelude.{IsTrue}
use Rattle.std.specs.Str.Lines.{strip_carriage_return}
use Rattle.std.proofs.lemmas.Bool.{cases_Bool, cond-true, cond-false}
use Rattle.dg_cuts.specs.TakenLines.{AreLinesBy, CutsBy, CutsWithin, GaveBy, TakesBehind}
use Rattle.dg_cuts.specs.WholeEntries.{up_to_feed, whole_by, whole_entries_by}
use Rattle.dg_cuts.proofs.TakenLines.{command_lines, more_lines, no_lines, part_of_command}
use Rattle.dg_cuts.proofs.WholeLines.{whole_lines}
use Rattle.dg_text.specs.Lines.{ScriptLine, Long, lines_of, script_line}
use Rattle.dg_io.specs.Feed.{has_feed, is_feed, past_feed}
use Rattle.dg_io.specs.LinesState.{GaveLines, LinesState, NeedsByte, TookNone, ahead, lines_on}
use Rattle.dg_io.specs.Told.{Gives}
use Rattle.dg_io.proofs.FeedLemmas.{feed_cases, lines_of-feed, past_feed_at}
use Rattle.dg_io.proofs.GivenLines.{gave_both, gave_kept, gave_none}
use Rattle.dg_machine.specs.declared.command.Command.{Command}
use Rattle.dg_machine.specs.CommandGrammar.{Grammar}
use Rattle.dg_machine.specs.Needs.{following}
use Rattle.dg_machine.specs.Script.{Asked, Command_is, Entry, meaning_by}

-- ---- the bytes behind the last line feed

-- they have none
last_part : (bytes : List ℕ) → (rest : List ℕ) × (bytes ≡ up_to_feed bytes ++ rest) × (has_feed rest ≡ false)
last_part [] = ([], refl, refl)
last_part (b ∷ bs) =
    elim (cases_Bool (is_feed b || has_feed bs)) [
      | inl some ↦
          let more = last_part bs in
          (more.0, ap (λ (xs : List ℕ). b ∷ xs) more.1 ∙ ap (λ (xs : List ℕ). xs ++ more.0) (sym (cond-true _ _ _ some)), more.2)
      | inr none ↦ (b ∷ bs, ap (λ (xs : List ℕ). xs ++ b ∷ bs) (sym (cond-false _ _ _ none)), none)
    ]

-- with a line feed behind them the bytes have one line more than those up to their last line feed
one_line_more : (bytes : List ℕ) → (one : ScriptLine) × (lines_of (bytes ++ 10 ∷ []) ≡ lines_of (up_to_feed bytes) ++ one ∷ [])
one_line_more bytes =
    let last = last_part bytes in
    let front : List ℕ = up_to_feed bytes in (
      script_line (strip_carriage_return last.0),
      ap (λ (xs : List ℕ). lines_of (xs ++ 10 ∷ [])) last.1 ∙ ap lines_of (append_assoc front last.0 (10 ∷ [])) ∙ whole_lines (length bytes) bytes (last.0 ++ 10 ∷ []) (omega arith)
          ∙ ap (λ ls. lines_of front ++ ls) (lines_of-feed last.0 [] last.2),
    )

-- ---- the lines to come of bytes held, with a line feed behind them

-- there is a first one
some_ahead : (long : Bool) (held : List ℕ) → (one : ScriptLine) × (more : List ScriptLine) × (lines_on long (held ++ 10 ∷ []) ≡ one ∷ more)
some_ahead true held = (Long, lines_of (past_feed (held ++ 10 ∷ [])), refl)
some_ahead false held =
    elim (feed_cases held) [
      | inl none ↦ (script_line (strip_carriage_return held), lines_of [], lines_of-feed held [] none)
      | inr h ↦ (
        script_line (strip_carriage_return h.front),
        lines_of (h.rest ++ 10 ∷ []),
        ap (λ (xs : List ℕ). lines_of (xs ++ 10 ∷ [])) h.is ∙ ap lines_of (append_assoc h.front (10 ∷ h.rest) (10 ∷ [])) ∙ lines_of-feed h.front (h.rest ++ 10 ∷ []) h.before,
      )
    ]

-- and no other, where no line feed is held
one_ahead : (long : Bool) (held : List ℕ) → has_feed held ≡ false → (one : ScriptLine) × (lines_on long (held ++ 10 ∷ []) ≡ one ∷ [])
one_ahead true held none = (Long, ap (λ (xs : List ℕ). Long ∷ lines_of xs) (past_feed_at held [] none))
one_ahead false held none = (script_line (strip_carriage_return held), lines_of-feed held [] none)

-- ---- lines in front of others

-- the first lines of these are all but the last of those, or fewer
in_front : (xs ys zs : List ScriptLine) (x z : ScriptLine) → xs ++ x ∷ [] ≡ ys ++ z ∷ zs → (more : List ScriptLine) × (xs ≡ ys ++ more) × (z ∷ zs ≡ more ++ x ∷ [])
in_front xs [] zs x z same = (xs, refl, sym same)
in_front [] (y ∷ []) zs x z same = absurd cc
in_front [] (y ∷ w ∷ ys) zs x z same = absurd cc
in_front (w ∷ xs) (y ∷ ys) zs x z same =
    let heads : w ≡ y = cc in
    let tails : xs ++ x ∷ [] ≡ ys ++ z ∷ zs = cc in
    let more = in_front xs ys zs x z tails in
    (more.0, (λ i. heads i ∷ more.1 i), more.2)

no_more : (more : List ScriptLine) (x z : ScriptLine) → z ∷ [] ≡ more ++ x ∷ [] → more ≡ []
no_more [] x z same = refl
no_more (y ∷ []) x z same = absurd cc
no_more (y ∷ w ∷ more) x z same = absurd cc

-- ---- the bytes that were taken

-- the lines that were given stand whole in the bytes that were taken, in front of others
given_whole : (taken : List ℕ) (given : List ScriptLine) (now : LinesState) → now.ended ≡ false → ((more : List ℕ) → lines_of (taken ++ more) ≡ given ++ ahead now more)
    → (more : List ScriptLine) × (lines_of (up_to_feed taken) ≡ given ++ more) × (has_feed now.held ≡ false → more ≡ [])
given_whole taken given now yet same =
    let last = one_line_more taken in
    let here : ahead now (10 ∷ []) ≡ lines_on now.long (now.held ++ 10 ∷ []) = ap (lines_on now.long) (cond-false _ _ _ yet) in
    let first = some_ahead now.long now.held in
    let parts = in_front (lines_of (up_to_feed taken)) given first.1 last.0 first.0 (sym last.1 ∙ same (10 ∷ []) ∙ ap (λ ls. given ++ ls) (here ∙ first.2)) in (
      parts.0,
      parts.1,
      λ none. let only = one_ahead now.long now.held none in no_more parts.0 last.0 only.0 (sym only.1 ∙ first.2 ∙ parts.2),
    )

-- ---- entries that were taken

-- what has not ended had not
unended_before : (now next : Bool) → (IsTrue now → IsTrue next) → next ≡ false → now ≡ false
unended_before false next stays yet = refl
unended_before true next stays yet = absurd (let ended = stays refl in cc)

-- none so far
pub took_none : (read : Grammar) (lines : LinesState) (left : Option (List ℕ)) → GaveBy read [] [] lines left lines left
took_none read lines left = ([], gave_none lines left, λ yet. no_lines read)

-- some, and then some more
pub took_both : (read : Grammar) (es fs : List Entry) (first now next : LinesState) (had mid has : Option (List ℕ)) → (IsTrue now.ended → IsTrue next.ended) → GaveBy read [] es first had now mid → GaveBy read [] fs now mid next has
    → GaveBy read [] (es ++ fs) first had next has
took_both read es fs first now next had mid has stays p q = (
  p.0 ++ q.0,
  gave_both p.0 q.0 first now next had mid has stays p.1 q.1,
  λ yet. more_lines read p.0 q.0 es fs (p.2 (unended_before now.ended next.ended stays yet)) (q.2 yet),
)

-- behind a line that was taken before
pub took_behind : (read : Grammar) (line : ScriptLine) (es : List Entry) (first now next : LinesState) (had mid has : Option (List ℕ)) → (IsTrue now.ended → IsTrue next.ended) → GaveLines (line ∷ []) first had now mid
    → GaveBy read (line ∷ []) es now mid next has → GaveBy read [] es first had next has
took_behind read line es first now next had mid has stays p q = (line ∷ q.0, gave_both (line ∷ []) q.0 first now next had mid has stays p q.1, q.2)

pub cut_behind : (read : Grammar) (line : ScriptLine) (first now next : LinesState) (had mid has : Option (List ℕ)) → (IsTrue now.ended → IsTrue next.ended) → GaveLines (line ∷ []) first had now mid
    → CutsBy read (line ∷ []) now mid next has → CutsBy read [] first had next has
cut_behind read line first now next had mid has stays p q = (line ∷ q.0, gave_both (line ∷ []) q.0 first now next had mid has stays p q.1, q.2, q.3)

-- before the first byte of a line
pub cut_between : (read : Grammar) (first next : LinesState) (had has : Option (List ℕ)) → TookNone first had next has → NeedsByte next → CutsBy read [] first had next has
cut_between read first next had has took needs = ([], gave_kept first next had has took, needs, refl)

-- a command with the lines that follow it
pub took_command : (read : Grammar) (line : ScriptLine) (c : Command) (got : List ScriptLine) (old new : LinesState) (left has : Option (List ℕ)) → meaning_by read line ≡ Command_is c → TakesBehind (following c) old left new has got
    → GaveBy read (line ∷ []) (Asked c got ∷ []) old left new has
took_command read line c got old new left has is taken = (got, taken.gave, λ yet. command_lines read line c got is (taken.all yet))

-- a command within whose lines the script was cut
pub cut_command : (read : Grammar) (line : ScriptLine) (c : Command) (old new : LinesState) (left has : Option (List ℕ)) → meaning_by read line ≡ Command_is c → CutsWithin (following c) old left new has → CutsBy read (line ∷ []) old left new has
cut_command read line c old new left has is cut = (cut.0, cut.2, cut.3, part_of_command read line c cut.0 is cut.1)

-- a line that no line follows
pub took_line : (read : Grammar) (line : ScriptLine) (es : List Entry) (lines : LinesState) (left : Option (List ℕ)) → AreLinesBy read (line ∷ []) es → GaveBy read (line ∷ []) es lines left lines left
took_line read line es lines left are = ([], gave_none lines left, λ yet. are)

-- from the first byte of a script on
abbrev pub AtStart : LinesState → Type 0
AtStart first = (more : List ℕ) → ahead first more ≡ lines_of more

-- the entries stand whole in the bytes that were taken, in front of others
pub taken_front : (read : Grammar) (es : List Entry) (first now : LinesState) (had has : Option (List ℕ)) → AtStart first → now.ended ≡ false → GaveBy read [] es first had now has
    → (taken : List ℕ) × Gives had taken has × (rest : List Entry) × (whole_entries_by read taken ≡ es ++ rest)
taken_front read es first now had has starts yet gave =
    let took = gave.1 yet in
    let whole = given_whole took.0 gave.0 now yet (λ more. sym (starts (took.0 ++ more)) ∙ took.3 more) in
    (took.0, took.1, whole_by read whole.0, ap (whole_by read) whole.1 ∙ gave.2 yet whole.0)

-- where the script was cut they are all that stand whole there
pub taken_whole : (read : Grammar) (es : List Entry) (first now next : LinesState) (had mid has : Option (List ℕ)) → AtStart first → (IsTrue now.ended → IsTrue next.ended) → GaveBy read [] es first had now mid → CutsBy read [] now mid next has
    → (taken : List ℕ) × Gives had taken has × (es ≡ whole_entries_by read taken)
taken_whole read es first now next had mid has starts stays gave cuts =
    let needs = cuts.2 in
    let all = gave_both gave.0 cuts.0 first now next had mid has stays gave.1 cuts.1 needs.0 in
    let whole = given_whole all.0 (gave.0 ++ cuts.0) next needs.0 (λ more. sym (starts (all.0 ++ more)) ∙ all.3 more) in
    let lines : lines_of (up_to_feed all.0) ≡ gave.0 ++ cuts.0 = whole.1 ∙ ap (λ ls. (gave.0 ++ cuts.0) ++ ls) (whole.2 needs.1) ∙ append-nil (gave.0 ++ cuts.0) in (
      all.0,
      all.1,
      sym (ap (whole_by read) lines ∙ gave.2 (unended_before now.ended next.ended stays needs.0) cuts.0 ∙ ap (λ fs. es ++ fs) cuts.3 ∙ append-nil es),
    )
