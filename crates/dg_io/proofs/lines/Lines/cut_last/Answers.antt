use Rattle.std.proofs.Common.{◌≡◌, ℕ, ◌-◌, ◌≤◌, Bool, true, false, List, length, drop, slice_range, refl, sym, ap, ◌∙◌, subst, arith}
use Rattle.std.proofs.lemmas.List.{length-take-le, length-drop}
use Rattle.dg_io.specs.declared.lines.Line.{Line}
use Rattle.dg_io.specs.LinesState.{LinesState, Cuts}
use Rattle.dg_io.specs.Feed.{has_feed}
use Rattle.dg_io.proofs.LinesStateLemmas.{cuts_last, last_for}
use Rattle.dg_io.proofs.BufferLemmas.{range_none}
use Rattle.dg_io.proofs.lines.Lines.cut_last.Goals as goal

-- the cut, by the offsets in the buffer
last_range : (buffer was : List ℕ) (start end taken limit : ℕ) (long ended : Bool) (answer : Line) (old : LinesState)
    → record { held = slice_range buffer start end; long = long; ended = ended; taken = taken; limit = limit; text = was } ≡ old → answer ≡ last_for long (end - start)
    → start ≤ end → end ≤ length buffer → old.ended ≡ true → has_feed old.held ≡ false
    → Cuts answer old record { held = slice_range buffer end end; long = false; ended = ended; taken = taken; limit = limit; text = slice_range buffer start end }
last_range buffer was start end taken limit long ended answer old is said order within at_end clear =
    let here : LinesState = record { held = slice_range buffer start end; long = long; ended = ended; taken = taken; limit = limit; text = was } in
    let new : LinesState = record { held = slice_range buffer end end; long = false; ended = ended; taken = taken; limit = limit; text = slice_range buffer start end } in
    let all : end - start ≤ length (drop start buffer) = omega (arith, length-drop start buffer) in
    let cuts : Cuts (last_for long (end - start)) here new = cuts_last (slice_range buffer start end) was _ _ long ended taken limit (end - start)
    (ap (λ (r : LinesState). r.ended) is ∙ at_end) (ap (λ (r : LinesState). has_feed r.held) is ∙ clear) (range_none buffer end) refl
    (sym (length-take-le (end - start) (drop start buffer) all)) in
    subst (λ (r : LinesState). Cuts answer r new) is (subst (λ a. Cuts a here new) (sym said) cuts)

pub returns : goal.returns
returns c =
    let s = c.self.inside in
    last_range s.buffer _ s.start s.end s.taken s.limit s.long s.ended c.last_line.result c.args.self.now c.self.view_is c.last_line.ensures
    (omega arith) c.self.invariant.within c.requires.ended c.requires.no_feed
