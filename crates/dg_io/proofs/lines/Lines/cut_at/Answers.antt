use Rattle.std.proofs.Common.{◌≡◌, ℕ, ◌+◌, ◌-◌, ◌<◌, ◌≤◌, Bool, false, List, length, take, drop, slice_range, sym, ap, ◌∙◌, subst, arith, length-take}
use Rattle.std.specs.Str.Lines.{strip_carriage_return}
use Rattle.std.proofs.lemmas.List.{take-take, length-take-le}
use Rattle.dg_io.specs.declared.lines.Line.{Line}
use Rattle.dg_io.specs.LinesState.{LinesState, Cuts}
use Rattle.dg_io.specs.Feed.{IsFirstFeed}
use Rattle.dg_io.proofs.LinesStateLemmas.{cuts_at, answer_for}
use Rattle.dg_io.proofs.BufferLemmas.{range_past, range_front, range_take}
use Rattle.dg_io.proofs.lines.Lines.cut_at.Goals as goal

-- the cut, by the offsets in the buffer
cut_range : (buffer was : List ℕ) (start end index count taken limit : ℕ) (long ended : Bool) (answer : Line) (old : LinesState)
    → record { held = slice_range buffer start end; long = long; ended = ended; taken = taken; limit = limit; text = was } ≡ old → answer ≡ answer_for long count
    → end ≤ length buffer → IsFirstFeed old.held index → count ≤ length (slice_range buffer start (start + index))
    → take count (slice_range buffer start (start + index)) ≡ strip_carriage_return (slice_range buffer start (start + index))
    → Cuts answer old record { held = slice_range buffer (start + index + 1) end; long = false; ended = ended; taken = taken; limit = limit; text = slice_range buffer start (start + count) }
cut_range buffer was start end index count taken limit long ended answer old is said within at bound value =
    let here : LinesState = record { held = slice_range buffer start end; long = long; ended = ended; taken = taken; limit = limit; text = was } in
    let new : LinesState = record { held = slice_range buffer (start + index + 1) end; long = false; ended = ended; taken = taken; limit = limit; text = slice_range buffer start (start + count) } in
    let feed : IsFirstFeed (slice_range buffer start end) index = subst (λ (r : LinesState). IsFirstFeed r.held index) (sym is) at in
    let line = slice_range buffer start (start + index) in
    let low : index < end - start = omega (arith, feed.within, length-take (end - start) (drop start buffer)) in
    let front : line ≡ take index (slice_range buffer start end) = range_front buffer start index ∙ sym (range_take buffer start index end (omega arith)) in
    let least : count ≤ index = omega (arith, bound, ap length front, length-take index (slice_range buffer start end)) in
    let text : slice_range buffer start (start + count) ≡ take count line =
    range_front buffer start count ∙ sym (take-take count index (drop start buffer) least) ∙ sym (ap (take count) (range_front buffer start index)) in
    let next : start + index + 1 ≡ start + (index + 1) = omega arith in
    let cuts : Cuts (answer_for long count) here new = cuts_at here index count _ _ feed
    (ap (λ k. slice_range buffer k end) next ∙ range_past buffer start (index + 1) end (omega arith))
    (text ∙ value ∙ ap strip_carriage_return front)
    (sym (ap length text ∙ length-take-le count line bound)) in
    subst (λ (r : LinesState). Cuts answer r new) is (subst (λ a. Cuts a here new) (sym said) cuts)

pub returns : goal.returns
returns c =
    let s = c.self.inside in
    cut_range s.buffer _ s.start s.end c.args.index c.text_len-count.result s.taken s.limit s.long s.ended c.line_of.result c.args.self.now c.self.view_is c.line_of.ensures
    c.self.invariant.within c.requires c.text_len-count.ensures.bound c.text_len-count.ensures.value
