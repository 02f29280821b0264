-- Lines that are given, call after call.
use Rattle.std.proofs.Common.{◌≡◌, ℕ, Bool, true, false, List, [], ◌++◌, Option, Some, refl, sym, ap, ◌∙◌, arith, append_assoc, length-append}
use Rattle.std.specs.Prelude.{IsTrue}
use Rattle.dg_text.specs.Lines.{ScriptLine}
use Rattle.dg_io.specs.LinesState.{LineComes, LinesState, GaveLines, TookLine, TookNone, ahead, line_given}
use Rattle.dg_io.specs.declared.lines.Line.{Line}
use Rattle.dg_io.specs.declared.lines.Line.TheVariants as line
use Rattle.dg_io.proofs.FrameLemmas.{gives_more, gives_nothing}

-- no call
pub gave_none : (lines : LinesState) (left : Option (List ℕ)) → GaveLines [] lines left lines left
gave_none lines left = λ yet. ([], gives_nothing left, omega arith, λ more. refl)

-- a call that gave no line
pub gave_kept : (old new : LinesState) (left then_left : Option (List ℕ)) → TookNone old left new then_left → GaveLines [] old left new then_left
gave_kept old new left then_left took = λ yet. (took.0, took.1, took.2, λ more. took.3 more (λ ended. absurd cc))

line_comes : (one : Line) (before after : List ScriptLine) (text : List ℕ) → LineComes one (Some before) (Some after) text → before ≡ line_given one text ++ after
line_comes (line.Text n) before after text comes = let c = comes.0 in cc
line_comes line.TooLong before after text comes = let c = comes in cc
line_comes line.End before after text comes = let c = comes.1 in cc

-- a call that gave a line
pub gave_line : (one : Line) (old new : LinesState) (left then_left : Option (List ℕ)) → TookLine one old left new then_left → GaveLines (line_given one new.text) old left new then_left
gave_line one old new left then_left took = λ yet. (
  took.0,
  took.1,
  took.2,
  λ more. line_comes one (ahead old (took.0 ++ more)) (ahead new more) new.text (took.3 more (λ ended. absurd cc)),
)

open_before : (now next : Bool) → (IsTrue now → IsTrue next) → next ≡ false → now ≡ false
open_before false next stays yet = refl
open_before true next stays yet = absurd (let ended = stays refl in cc)

-- some calls, and then some more
pub gave_both : (xs ys : List ScriptLine) (first now next : LinesState) (had mid has : Option (List ℕ)) → (IsTrue now.ended → IsTrue next.ended) → GaveLines xs first had now mid → GaveLines ys now mid next has
    → GaveLines (xs ++ ys) first had next has
gave_both xs ys first now next had mid has stays p q = λ yet.
    let front = p (open_before now.ended next.ended stays yet) in
    let back = q yet in (
      front.0 ++ back.0,
      gives_more had mid has front.0 back.0 front.1 back.1,
      omega (arith, front.2, back.2, length-append front.0 back.0),
      λ more. ap (ahead first) (append_assoc front.0 back.0 more) ∙ front.3 (back.0 ++ more) ∙ ap (λ ls. xs ++ ls) (back.3 more) ∙ sym (append_assoc xs ys (ahead next more)),
    )
