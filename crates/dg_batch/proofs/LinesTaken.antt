-- The lines that are taken behind a command, one after another.
use Rattle.std.proofs.Common.{◌≡◌, ℕ, ◌<◌, ◌≤◌, List, [], ◌∷◌, ◌++◌, length, Option, Some, None, refl, sym, ap, subst, ◌∙◌, arith, append_assoc}
use Rattle.std.specs.Prelude.{IsTrue}
use Rattle.std.specs.Option.{option_map}
use Rattle.std.proofs.lemmas.List.{append-nil}
use Rattle.dg_cuts.specs.TakenLines.{CutsWithin, TakesBehind}
use Rattle.dg_text.specs.Lines.{ScriptLine}
use Rattle.dg_io.specs.declared.lines.Line.{Line}
use Rattle.dg_io.specs.declared.lines.Line.TheVariants as line
use Rattle.dg_io.specs.declared.lines.Line.TheVariants.{End}
use Rattle.dg_io.specs.LinesState.{Comes, GaveLines, LineComes, LinesState, NeedsByte, NoneLeft, TookLine, TookNone, line_given, told}
use Rattle.dg_io.proofs.GivenLines.{gave_both, gave_kept, gave_line, gave_none}
use Rattle.dg_batch.specs.BatchLines.{line_read}

-- ---- lines to come

-- nothing in front changes nothing
none_first : {A : Type 0} (told : Option (List A)) → told ≡ option_map (λ rest. [] ++ rest) told
none_first None = refl
none_first (Some rest) = refl

both_first : {A : Type 0} (old mid new : Option (List A)) (xs ys : List A)
    → old ≡ option_map (λ rest. xs ++ rest) mid → mid ≡ option_map (λ rest. ys ++ rest) new → old ≡ option_map (λ rest. (xs ++ ys) ++ rest) new
both_first old mid None xs ys a b = a ∙ ap (option_map (λ rest. xs ++ rest)) b
both_first old mid (Some rest) xs ys a b =
    a ∙ ap (option_map (λ rest. xs ++ rest)) b ∙ ap (λ zs. Some zs) (sym (append_assoc xs ys rest))

-- the line that came
line_comes : (line : Line) (old new : Option (List ScriptLine)) (text : List ℕ) → (line ≡ End → ⊥) → LineComes line old new text → Comes (line_read line text) old new
line_comes (line.Text n) old new text other h = h.0
line_comes line.TooLong old new text other h = h
line_comes line.End old new text other h = absurd (other refl)

-- ---- lines taken

-- these lines were taken, from the lines to come at the start to those to come now
pub record Taken (first : LinesState) (had : Option (List ℕ)) (now : LinesState) (has : Option (List ℕ)) (got : List ScriptLine) : Type 0 where
  pub lines : told first had ≡ option_map (λ rest. got ++ rest) (told now has)
  pub gave : GaveLines got first had now has

pub taken_none : (lines : LinesState) (left : Option (List ℕ)) → Taken lines left lines left []
taken_none lines left = record { lines = none_first (told lines left); gave = gave_none lines left }

one_given : (one : Line) (text : List ℕ) → (one ≡ End → ⊥) → line_given one text ≡ line_read one text ∷ []
one_given (line.Text n) text other = refl
one_given line.TooLong text other = refl
one_given line.End text other = absurd (other refl)

-- a line more
pub taken_more : (first now next : LinesState) (had mid has : Option (List ℕ)) (one : Line) → (one ≡ End → ⊥) → (IsTrue now.ended → IsTrue next.ended) → LineComes one (told now mid) (told next has) next.text
    → TookLine one now mid next has → (got : List ScriptLine) → Taken first had now mid got → Taken first had next has (got ++ line_read one next.text ∷ [])
taken_more first now next had mid has one other stays comes took got taken = record {
  lines = both_first (told first had) (told now mid) (told next has) got (line_read one next.text ∷ []) taken.lines (line_comes one (told now mid) (told next has) next.text other comes);
  gave =
      subst (λ (ls : List ScriptLine). GaveLines (got ++ ls) first had next has) (one_given one next.text other)
      (gave_both got (line_given one next.text) first now next had mid has stays taken.gave (gave_line one now next mid has took));
}

-- all of them
pub taken_all : (count : ℕ) (first now : LinesState) (had has : Option (List ℕ)) (got : List ScriptLine) → length got ≡ count → Taken first had now has got → TakesBehind count first had now has got
taken_all count first now had has got long taken = record {
  follows = record { lines = taken.lines; most = omega (arith, long); fewer = λ few. absurd (omega (arith, few, long)) };
  gave = taken.gave;
  all = λ yet. long;
}

-- all that there are
pub taken_to_end : (count : ℕ) (first now next : LinesState) (had mid has : Option (List ℕ)) (got : List ScriptLine) → length got ≤ count → IsTrue next.ended → LineComes End (told now mid) (told next has) next.text
    → Taken first had now mid got → TakesBehind count first had next has got
taken_to_end count first now next had mid has got few ended comes taken = record {
  follows = record {
    lines = taken.lines ∙ ap (option_map (λ rest. got ++ rest)) comes.1;
    most = few;
    fewer = λ less. subst NoneLeft comes.1 comes.0;
  };
  gave = λ yet. absurd cc;
  all = λ yet. absurd cc;
}

-- fewer, where another byte is needed
pub taken_in_part : (count : ℕ) (first now next : LinesState) (had mid has : Option (List ℕ)) (got : List ScriptLine) → length got < count → (IsTrue now.ended → IsTrue next.ended) → TookNone now mid next has → NeedsByte next
    → Taken first had now mid got → CutsWithin count first had next has
taken_in_part count first now next had mid has got few stays took needs taken = (
  got,
  few,
  subst (λ (ls : List ScriptLine). GaveLines ls first had next has) (append-nil got) (gave_both got [] first now next had mid has stays taken.gave (gave_kept now next mid has took)),
  needs,
)

-- no line is wanted
pub taken_without_any : (lines : LinesState) (left : Option (List ℕ)) → TakesBehind 0 lines left lines left []
taken_without_any lines left = taken_all 0 lines lines left left [] refl (taken_none lines left)
