use Rattle.std.proofs.Common.{◌≡◌, ℕ, ◌+◌, ◌-◌, ◌≤◌, nat_eq, List, [], ◌++◌, length, take, drop, slice_range, refl, sym, ap, subst, ◌∙◌, arith}
use Rattle.std.proofs.lemmas.List.{length-take-le, length-drop}
use Rattle.dg_io.specs.Told.{Gives}
use Rattle.dg_io.proofs.FrameLemmas.{gives_nothing}
use Rattle.dg_io.specs.LinesState.{LinesState}
use Rattle.dg_io.proofs.LinesStateLemmas.{ahead_like, told_read, took_read}
use Rattle.dg_io.proofs.BufferLemmas.{range_from_start}
use Rattle.dg_io.proofs.lines.Lines.fill.Goals as goal

pub returns-clause-told : goal.returns-clause-told
returns-clause-told g c =
    let s = c.self-2.inside in
    let mid = c.drop_long.new.self in
    let count = c.in_ok-count.count in
    let len = s.end - s.start in
    let held : take len c.read_behind.new.buffer ≡ mid.held =
    c.in_ok-count.ensures.kept ∙ c.move_to_front.ensures ∙ ap (λ (r : LinesState). r.held) c.self-2.view_is in
    let now : LinesState = record {
      held = slice_range c.read_behind.new.buffer 0 (len + count);
      long = s.long;
      ended = nat_eq count 0;
      taken = s.taken + count;
      limit = s.limit;
      text = slice_range c.read_behind.new.buffer 0 0;
    } in
    told_read c.args.self.now mid now (slice_range c.read_behind.new.buffer len (len + count)) count _ _ c.drop_long.ensures.ahead
    c.drop_long.ensures.needs.0
    (range_from_start c.read_behind.new.buffer len count ∙ ap (λ b. b ++ slice_range c.read_behind.new.buffer len (len + count)) held)
    (ap (λ (r : LinesState). r.long) c.self-2.view_is) refl
    c.in_ok-count.ensures.given c.in_ok-count.ensures.end

range_front : (buffer : List ℕ) (n : ℕ) → slice_range buffer 0 n ≡ take n buffer
range_front buffer n = ap (λ m. take m buffer) (omega arith)

range_length : (buffer : List ℕ) (at n : ℕ) → at + n ≤ length buffer → length (slice_range buffer at (at + n)) ≡ n
range_length buffer at n within =
    let all : at + n - at ≤ length (drop at buffer) = omega (arith, within, length-drop at buffer) in
    let long = length-take-le (at + n - at) (drop at buffer) all in
    omega (arith, long)

pub returns-in_err-count-clause-took : goal.returns-in_err-count-clause-took
returns-in_err-count-clause-took g c =
    let s = c.self-2.inside in
    let mid = c.drop_long.new.self in
    let len = s.end - s.start in
    let held : take len c.read_behind.new.buffer ≡ mid.held =
    c.in_err-count.ensures.kept ∙ c.move_to_front.ensures ∙ ap (λ (r : LinesState). r.held) c.self-2.view_is in
    let now : LinesState = record {
      held = slice_range c.read_behind.new.buffer 0 len;
      long = s.long;
      ended = s.ended;
      taken = s.taken;
      limit = s.limit;
      text = slice_range c.read_behind.new.buffer 0 0;
    } in
    let none : List ℕ = [] in (
      none,
      subst (Gives (g.S.Source.left c.args.source.now) none) (sym c.in_err-count.ensures.err) (gives_nothing (g.S.Source.left c.args.source.now)),
      omega (arith, ap (λ (r : LinesState). r.taken) c.self-2.view_is, c.drop_long.ensures.taken),
      λ more ended. c.drop_long.ensures.ahead more
          ∙ ahead_like mid now (sym held ∙ sym (range_front c.read_behind.new.buffer len)) (sym (ap (λ (r : LinesState). r.long) c.self-2.view_is)) (sym (ap (λ (r : LinesState). r.ended) c.self-2.view_is)) more,
    )

pub returns-clause-took : goal.returns-clause-took
returns-clause-took g c =
    let s = c.self-2.inside in
    let mid = c.drop_long.new.self in
    let count = c.in_ok-count.count in
    let len = s.end - s.start in
    let held : take len c.read_behind.new.buffer ≡ mid.held =
    c.in_ok-count.ensures.kept ∙ c.move_to_front.ensures ∙ ap (λ (r : LinesState). r.held) c.self-2.view_is in
    let piece = slice_range c.read_behind.new.buffer len (len + count) in
    let now : LinesState = record {
      held = slice_range c.read_behind.new.buffer 0 (len + count);
      long = s.long;
      ended = nat_eq count 0;
      taken = s.taken + count;
      limit = s.limit;
      text = slice_range c.read_behind.new.buffer 0 0;
    } in
    let many = range_length c.read_behind.new.buffer len count c.in_ok-count.ensures.bound.0 in (
      piece,
      c.in_ok-count.ensures.given,
      omega (arith, many, ap (λ (r : LinesState). r.taken) c.self-2.view_is, c.drop_long.ensures.taken),
      took_read c.args.self.now mid now piece count c.drop_long.ensures.ahead c.drop_long.ensures.needs.0
          (range_from_start c.read_behind.new.buffer len count ∙ ap (λ b. b ++ piece) held)
          (ap (λ (r : LinesState). r.long) c.self-2.view_is) refl many,
    )
