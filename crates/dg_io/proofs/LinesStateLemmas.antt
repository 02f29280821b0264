-- What is left to come when a line is cut from the bytes held, when bytes are dropped, and when bytes
-- are read behind those held.
use Rattle.std.proofs.Common.{◌≡◌, ℕ, ◌+◌, ◌<◌, ◌≤◌, Bool, true, false, ◌||◌, nat_eq, nat_lt, if◌then◌else◌, ◌⊎◌, inl, inr, List, [], ◌∷◌, ◌++◌, length, take, drop, Option, None, Some, refl, sym, ap, ◌∙◌, subst, arith, append_assoc, append-nil, length-drop}
use Rattle.std.specs.Option.{option_map}
use Rattle.std.specs.Prelude.{IsTrue}
use Rattle.std.specs.Str.Lines.{strip_carriage_return}
use Rattle.std.proofs.lemmas.Bool.{cases_Bool, ltb-true, ltb-false, eqb-true, cond_both, eqb-false}
use Rattle.dg_text.specs.declared.limits.TheConstants.{LINE_BYTES_MAX}
use Rattle.dg_text.specs.Lines.{ScriptLine, Long, script_line, lines_of}
use Rattle.dg_io.specs.declared.lines.Line.{Line}
use Rattle.dg_io.specs.declared.lines.Line.TheVariants as line
use Rattle.dg_io.specs.Feed.{has_feed, past_feed, IsFirstFeed}
use Rattle.dg_io.specs.Told.{Gives, IsAtEnd}
use Rattle.dg_io.specs.LinesState.{LinesState, lines_on, ahead, told, Comes, NoneLeft, LineComes, Cuts}
use Rattle.dg_io.proofs.FeedLemmas.{past_feed-append, past_feed_at, past_feed_none, split_at_feed, lines_of-feed, lines_of_last, lines_of_long, script_line_fits, script_line_long}

-- lists that are to come whatever the source has left, told or not
told_same : (old new : LinesState) → ((left : List ℕ) → ahead old left ≡ ahead new left) → (left : Option (List ℕ)) → told old left ≡ told new left
told_same old new same None = refl
told_same old new same (Some bytes) = ap Some (same bytes)

told_comes : (old new : LinesState) (one : ScriptLine) → ((left : List ℕ) → ahead old left ≡ one ∷ ahead new left) → (left : Option (List ℕ)) → Comes one (told old left) (told new left)
told_comes old new one same None = refl
told_comes old new one same (Some bytes) = ap Some (same bytes)

-- the line whose last bytes are these, where its first bytes may be gone
abbrev closed_by : Bool → List ℕ → ScriptLine
closed_by long text = if long then Long else script_line text

lines_on-feed : (long : Bool) (front rest : List ℕ) → has_feed front ≡ false → lines_on long (front ++ 10 ∷ rest) ≡ closed_by long (strip_carriage_return front) ∷ lines_of rest
lines_on-feed true front rest p = ap (λ b. Long ∷ lines_of b) (past_feed_at front rest p)
lines_on-feed false front rest p = lines_of-feed front rest p

ahead-feed : (held left : List ℕ) (long ended : Bool) (index : ℕ) → IsFirstFeed held index
    → lines_on long (if ended then held else held ++ left) ≡ closed_by long (strip_carriage_return (take index held)) ∷ lines_of (if ended then drop (index + 1) held else drop (index + 1) held ++ left)
ahead-feed held left long true index f =
    ap (lines_on long) (split_at_feed held index f) ∙ lines_on-feed long (take index held) (drop (index + 1) held) f.before
ahead-feed held left long false index f =
    let front = take index held in
    let rest = drop (index + 1) held in
    ap (λ b. lines_on long (b ++ left)) (split_at_feed held index f)
    ∙ ap (lines_on long) (append_assoc front (10 ∷ rest) left)
    ∙ lines_on-feed long front (rest ++ left) f.before

-- the answer for a line of so many bytes, or of that many more than were dropped
abbrev pub answer_for : Bool → ℕ → Line
answer_for long count = if long || nat_lt LINE_BYTES_MAX count then line.TooLong else line.Text count

answer_comes : (long : Bool) (count : ℕ) (text : List ℕ) (old new : Option (List ScriptLine)) → count ≡ length text → Comes (closed_by long text) old new → LineComes (answer_for long count) old new text
answer_comes true count text old new same comes = comes
answer_comes false count text old new same comes =
    elim (cases_Bool (nat_lt LINE_BYTES_MAX count)) [
      | inl over ↦
          let long : LINE_BYTES_MAX < length text = omega (arith, ltb-true LINE_BYTES_MAX count over) in
          subst (λ b. LineComes (if b then line.TooLong else line.Text count) old new text) (sym over)
          (subst (λ one. Comes one old new) (script_line_long text long) comes)
      | inr fits ↦
          let short : length text ≤ LINE_BYTES_MAX = omega (arith, ltb-false LINE_BYTES_MAX count fits) in
          subst (λ b. LineComes (if b then line.TooLong else line.Text count) old new text) (sym fits)
          (subst (λ one. Comes one old new) (script_line_fits text short) comes, same, short)
    ]

answer_no_end : (long : Bool) (count : ℕ) → answer_for long count ≡ line.End → ⊥
answer_no_end true count e = cc
answer_no_end false count e =
    cond_both (nat_lt LINE_BYTES_MAX count) line.TooLong (line.Text count) (λ l. l ≡ line.End → ⊥) (λ _ e'. cc) (λ _ e'. cc) e

-- a line that ends before a line feed
pub cuts_at : (old : LinesState) (index count : ℕ) (held text : List ℕ) → IsFirstFeed old.held index → held ≡ drop (index + 1) old.held → text ≡ strip_carriage_return (take index old.held) → count ≡ length text
    → Cuts (answer_for old.long count) old record { held = held; long = false; ended = old.ended; taken = old.taken; limit = old.limit; text = text }
cuts_at old index count held text f rest is same =
    let new : LinesState = record { held = held; long = false; ended = old.ended; taken = old.taken; limit = old.limit; text = text } in
    let next : (left : List ℕ) → ahead old left ≡ closed_by old.long text ∷ ahead new left = λ left.
    ahead-feed old.held left old.long old.ended index f
    ∙ ap (λ t. closed_by old.long t ∷ lines_of (if old.ended then drop (index + 1) old.held else drop (index + 1) old.held ++ left)) (sym is)
    ∙ ap (λ h. closed_by old.long text ∷ lines_of (if old.ended then h else h ++ left)) (sym rest) in
    let shorter : length held < length old.held = omega (arith, ap length rest, length-drop (index + 1) old.held, f.within) in
    record {
      comes = λ left. answer_comes old.long count text (told old left) (told new left) same (told_comes old new _ next left);
      falls = λ _. omega arith;
      kept = omega arith;
      at_end = λ e. absurd (answer_no_end old.long count e);
      ended = refl;
      taken = refl;
      limit = refl;
    }

no_bytes : (bytes : List ℕ) → length bytes ≡ 0 → bytes ≡ []
no_bytes [] e = refl
no_bytes (b ∷ bs) e = absurd (omega (arith, e))

none_left : (r : LinesState) → ((left : List ℕ) → ahead r left ≡ []) → (left : Option (List ℕ)) → NoneLeft (told r left)
none_left r none None = tt
none_left r none (Some bytes) = none bytes

-- the answer for the bytes at the end of input
abbrev pub last_for : Bool → ℕ → Line
last_for long count = if long then line.TooLong else if nat_eq count 0 then line.End else if nat_lt LINE_BYTES_MAX count then line.TooLong else line.Text count

abbrev last_from : (bytes text : List ℕ) (long : Bool) (taken limit : ℕ) → LinesState
last_from bytes text long taken limit = record { held = bytes; long = long; ended = true; taken = taken; limit = limit; text = text }

-- the last line, or the end
cuts_ended : (bytes was held text : List ℕ) (long : Bool) (taken limit count : ℕ) → has_feed bytes ≡ false → held ≡ [] → text ≡ bytes → count ≡ length bytes
    → Cuts (last_for long count) (last_from bytes was long taken limit) (last_from held text false taken limit)
cuts_ended bytes was held text true taken limit count clear empty is same =
    let old = last_from bytes was true taken limit in
    let new = last_from held text false taken limit in
    let short = ap length empty in
    record {
      comes = told_comes old new Long (λ left. ap (λ b. Long ∷ lines_of b) (past_feed_none bytes clear ∙ sym empty));
      falls = λ _. omega arith;
      kept = omega arith;
      at_end = λ e. cc;
      ended = refl;
      taken = refl;
      limit = refl;
    }
cuts_ended bytes was held text false taken limit count clear empty is same =
    let old = last_from bytes was false taken limit in
    let new = last_from held text false taken limit in
    let short = ap length empty in
    elim (cases_Bool (nat_eq count 0)) [
      | inl zero_count ↦
          let nothing : bytes ≡ [] = no_bytes bytes (omega (arith, eqb-true count 0 zero_count)) in
          subst (λ b. Cuts (if b then line.End else answer_for false count) old new) (sym zero_count)
          (let cuts : Cuts line.End old new = record {
            comes = λ left. (none_left old (λ _. ap lines_of nothing) left, told_same old new (λ _. ap lines_of (nothing ∙ sym empty)) left);
            falls = λ more. absurd (more refl);
            kept = omega arith;
            at_end = λ _. refl;
            ended = refl;
            taken = refl;
            limit = refl;
          } in cuts)
      | inr some_count ↦
          let some : 0 < length bytes = omega (arith, eqb-false count 0 some_count) in
          let next : (left : List ℕ) → ahead old left ≡ closed_by false text ∷ ahead new left = λ _.
          lines_of_last bytes clear some ∙ ap (λ b. script_line b ∷ []) (sym is) ∙ sym (ap (λ b. script_line text ∷ lines_of b) empty) in
          let counted : count ≡ length text = same ∙ sym (ap length is) in
          subst (λ b. Cuts (if b then line.End else answer_for false count) old new) (sym some_count)
          (let cuts : Cuts (answer_for false count) old new = record {
            comes = λ left. answer_comes false count text (told old left) (told new left) counted (told_comes old new _ next left);
            falls = λ _. omega arith;
            kept = omega arith;
            at_end = λ e. absurd (answer_no_end false count e);
            ended = refl;
            taken = refl;
            limit = refl;
          } in cuts)
    ]

pub cuts_last : (bytes was held text : List ℕ) (long ended : Bool) (taken limit count : ℕ) → ended ≡ true → has_feed bytes ≡ false → held ≡ [] → text ≡ bytes → count ≡ length bytes
    → Cuts (last_for long count) record { held = bytes; long = long; ended = ended; taken = taken; limit = limit; text = was }
    record { held = held; long = false; ended = ended; taken = taken; limit = limit; text = text }
cuts_last bytes was held text long true taken limit count at_end clear empty is same = cuts_ended bytes was held text long taken limit count clear empty is same
cuts_last bytes was held text long false taken limit count at_end clear empty is same = cc

-- bytes that belong to a line that is too long, however it goes on
pub drops_long : (held left : List ℕ) (long : Bool) → has_feed held ≡ false → (long ≡ true) ⊎ (LINE_BYTES_MAX + 1 < length held) → lines_on long (held ++ left) ≡ Long ∷ lines_of (past_feed left)
drops_long held left true none since = ap (λ b. Long ∷ lines_of b) (past_feed-append held left none)
drops_long held left false none since =
    elim since [ inl wrong ↦ cc | inr many ↦ lines_of_long held left none many ]

append_nothing : (xs ys : List ℕ) → xs ++ ys ≡ [] → ys ≡ []
append_nothing [] ys e = e
append_nothing (x ∷ xs) ys e = cc

-- a read behind the bytes held, where the source had the piece and the rest left
ahead_read : (mid new : LinesState) (piece rest : List ℕ) (count : ℕ) → mid.ended ≡ false → new.held ≡ mid.held ++ piece → new.long ≡ mid.long → new.ended ≡ nat_eq count 0
    → (count ≡ 0 → piece ++ rest ≡ []) → ahead mid (piece ++ rest) ≡ ahead new rest
ahead_read mid new piece rest count going held long ended end =
    let bytes = mid.held ++ (piece ++ rest) in
    let same : bytes ≡ (if nat_eq count 0 then mid.held ++ piece else (mid.held ++ piece) ++ rest) =
    cond_both (nat_eq count 0) (mid.held ++ piece) ((mid.held ++ piece) ++ rest) (λ b. bytes ≡ b)
    (λ none. ap (λ r. mid.held ++ (piece ++ r)) (append_nothing piece rest (end (eqb-true count 0 none))) ∙ ap (λ p. mid.held ++ p) (append-nil piece))
    (λ _. sym (append_assoc mid.held piece rest)) in
    ap (λ e. lines_on mid.long (if e then mid.held else bytes)) going
    ∙ ap (lines_on mid.long) same
    ∙ sym (ap (λ l. lines_on l (if new.ended then new.held else new.held ++ rest)) long
    ∙ ap (λ h. lines_on mid.long (if new.ended then h else h ++ rest)) held
    ∙ ap (λ e. lines_on mid.long (if e then mid.held ++ piece else (mid.held ++ piece) ++ rest)) ended)

told_piece : (mid new : LinesState) (piece : List ℕ) (count : ℕ) (has : Option (List ℕ)) → mid.ended ≡ false → new.held ≡ mid.held ++ piece → new.long ≡ mid.long → new.ended ≡ nat_eq count 0
    → (count ≡ 0 → IsAtEnd (option_map (λ rest. piece ++ rest) has)) → told mid (option_map (λ rest. piece ++ rest) has) ≡ told new has
told_piece mid new piece count None going held long ended end = refl
told_piece mid new piece count (Some rest) going held long ended end = ap Some (ahead_read mid new piece rest count going held long ended end)

-- a read behind the bytes held
pub told_read : (old mid new : LinesState) (piece : List ℕ) (count : ℕ) (had has : Option (List ℕ)) → ((left : List ℕ) → ahead old left ≡ ahead mid left) → mid.ended ≡ false → new.held ≡ mid.held ++ piece → new.long ≡ mid.long → new.ended ≡ nat_eq count 0
    → Gives had piece has → (count ≡ 0 → IsAtEnd had) → told old had ≡ told new has
told_read old mid new piece count had has same going held long ended gives end =
    told_same old mid same had ∙ ap (told mid) gives ∙ told_piece mid new piece count has going held long ended (λ none. subst IsAtEnd gives (end none))

-- the lines to come of two that hold the same
pub ahead_like : (old new : LinesState) → old.held ≡ new.held → old.long ≡ new.long → old.ended ≡ new.ended → (left : List ℕ) → ahead old left ≡ ahead new left
ahead_like old new held long ended left = λ i. lines_on (long i) (if ended i then held i else held i ++ left)

-- a read behind the bytes held, whatever the source goes on with
pub took_read : (old mid new : LinesState) (piece : List ℕ) (count : ℕ) → ((left : List ℕ) → ahead old left ≡ ahead mid left) → mid.ended ≡ false → new.held ≡ mid.held ++ piece → new.long ≡ mid.long → new.ended ≡ nat_eq count 0
    → length piece ≡ count → (more : List ℕ) → (IsTrue new.ended → more ≡ []) → ahead old (piece ++ more) ≡ ahead new more
took_read old mid new piece count same going held long ended many more none =
    same (piece ++ more) ∙ ahead_read mid new piece more count going held long ended
    (λ at_end. ap (λ p. p ++ more) (no_bytes piece (omega (arith, many, at_end))) ∙ none (ended ∙ ap (λ n. nat_eq n 0) at_end))
