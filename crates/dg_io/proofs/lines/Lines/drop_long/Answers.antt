use Rattle.std.proofs.Common.{◌≡◌, ℕ, ◌+◌, ◌-◌, ◌<◌, ◌≤◌, Bool, true, ◌⊎◌, inl, inr, if◌then◌else◌, List, ◌∷◌, ◌++◌, length, drop, slice_range, sym, ap, ◌∙◌, arith}
use Rattle.std.proofs.lemmas.List.{length-take-le, length-drop}
use Rattle.dg_text.specs.declared.limits.TheConstants.{LINE_BYTES_MAX}
use Rattle.dg_text.specs.Lines.{Long, lines_of}
use Rattle.dg_io.specs.LinesState.{LinesState, ahead, lines_on, NeedsByte}
use Rattle.dg_io.specs.Feed.{past_feed}
use Rattle.dg_io.proofs.LinesStateLemmas.{drops_long}
use Rattle.dg_io.proofs.BufferLemmas.{range_none}
use Rattle.dg_io.proofs.lines.Lines.drop_long.Goals as goal
use Rattle.dg_io.proofs.lines.Lines.drop_long.Goals.{then-self-via-then-self, then-self-via-else-self+then-self-gt-WAITING_BYTES_MAX}

dropped : (buffer : List ℕ) (end : ℕ) (ended : Bool) (old : LinesState) (left : List ℕ) → NeedsByte old → ended ≡ old.ended → (old.long ≡ true) ⊎ (LINE_BYTES_MAX + 1 < length old.held)
    → ahead old left ≡ Long ∷ lines_of (past_feed (if ended then slice_range buffer end end else slice_range buffer end end ++ left))
dropped buffer end ended old left needs same since =
    let going = same ∙ needs.0 in
    ap (λ e. lines_on old.long (if e then old.held else old.held ++ left)) needs.0
    ∙ drops_long old.held left old.long needs.1 since
    ∙ sym (ap (λ e. Long ∷ lines_of (past_feed (if e then slice_range buffer end end else slice_range buffer end end ++ left))) going
    ∙ ap (λ b. Long ∷ lines_of (past_feed (b ++ left))) (range_none buffer end))

pub returns-then-self-clause-ahead : goal.returns-then-self-clause-ahead
returns-then-self-clause-ahead c left =
    let s = c.self.inside in
    let old = c.args.self.now in
    let held : length (slice_range s.buffer s.start s.end) ≡ length old.held = ap (λ (r : LinesState). length r.held) c.self.view_is in
    let all : s.end - s.start ≤ length (drop s.start s.buffer) = omega (arith, c.self.invariant.within, length-drop s.start s.buffer) in
    let count = length-take-le (s.end - s.start) (drop s.start s.buffer) all in
    let since : (old.long ≡ true) ⊎ (LINE_BYTES_MAX + 1 < length old.held) = elim c.then-self.branch [
      | then-self-via-then-self w ↦ inl (sym (ap (λ (r : LinesState). r.long) c.self.view_is) ∙ w.if-self.true)
      | then-self-via-else-self+then-self-gt-WAITING_BYTES_MAX w ↦ inr (omega (arith, w.if-self-gt-WAITING_BYTES_MAX.true))
    ] in
    dropped s.buffer s.end s.ended old left c.requires (ap (λ (r : LinesState). r.ended) c.self.view_is) since
