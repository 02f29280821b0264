-- A line that is put word by word.
use Rattle.std.proofs.Common.{◌≡◌, ℕ, ◌+◌, ◌<◌, ◌≤◌, List, [], ◌∷◌, ◌++◌, None, Option, Result, Ok, Err, OnErr, cond, is_ok, length, map, take, drop, get_or, slice_get, refl, sym, ap, ◌∙◌, append_assoc, append-nil}
use Rattle.std.specs.Prelude.{OnOk}
use Rattle.std.specs.declared.alloc.AllocError.{AllocError}
use Rattle.std.specs.List.{join_with_byte}
use Rattle.std.specs.Option.{unwrap_or}
use Rattle.std.proofs.lemmas.List.{at_drop_all, at_drop_more, take_at}
use Rattle.std.proofs.lemmas.Option.{unwrap_or-slice_get}
use Rattle.dg_machine.specs.ReplyText.{text_line}
use Rattle.dg_graph.specs.declared.event.Event.{Event}
use Rattle.dg_text.specs.Names.{name_text}
use Rattle.dg_dump.specs.ScriptOfHistory.{event_line, text_of_lines}
use Rattle.dg_dump_lines.specs.declared.word.Word.{Word}
use Rattle.dg_dump_lines.specs.PutLines.{GoesOn, word_bytes}

-- the rest of a line: `between` comes before the next word, and a space before each later one
abbrev pub rest_of_line : List ℕ → List (List ℕ) → List ℕ
rest_of_line between [] = 10 ∷ []
rest_of_line between (w ∷ ws) = between ++ (w ++ rest_of_line (32 ∷ []) ws)

after_word : (w : List ℕ) (ws : List (List ℕ)) → join_with_byte 32 (w ∷ ws) ++ 10 ∷ [] ≡ w ++ rest_of_line (32 ∷ []) ws
after_word w [] = refl
after_word w (v ∷ ws) = append_assoc w (32 ∷ join_with_byte 32 (v ∷ ws)) (10 ∷ []) ∙ ap (λ bytes. w ++ (32 ∷ bytes)) (after_word v ws)

pub line_is_rest : (ws : List (List ℕ)) → text_line ws ≡ rest_of_line [] ws
line_is_rest [] = refl
line_is_rest (w ∷ ws) = after_word w ws

-- what is left before a word of a line
pub rest_at : (between : List ℕ) (words : List Word) (i : ℕ) (d : Word) → i < length words
    → rest_of_line between (map word_bytes (drop i words))
    ≡ between ++ (word_bytes (get_or words i d) ++ rest_of_line (32 ∷ []) (map word_bytes (drop (i + 1) words)))
rest_at between words i d below = at_drop_more (λ ws. rest_of_line between (map word_bytes ws)) words i d below

-- and behind the last
pub rest_past : (between : List ℕ) (words : List Word) (i : ℕ) → length words ≤ i → rest_of_line between (map word_bytes (drop i words)) ≡ 10 ∷ []
rest_past between words i past = at_drop_all (λ ws. rest_of_line between (map word_bytes ws)) words i past

-- two pieces more, of what is left
pub two_more : (text mid new between word later all : List ℕ) → mid ≡ text ++ between → new ≡ mid ++ word → text ++ (between ++ (word ++ later)) ≡ all → new ++ later ≡ all
two_more text mid new between word later all a b e =
    ap (λ t. t ++ later) b ∙ append_assoc mid word later ∙ ap (λ t. t ++ (word ++ later)) a ∙ append_assoc text between (word ++ later) ∙ e

pub goes_itself : (text : List ℕ) → GoesOn text text
goes_itself text = ([], sym (append-nil text))

pub goes_more : (start text new piece : List ℕ) → GoesOn start text → new ≡ text ++ piece → GoesOn start new
goes_more start text new piece g e = (g.0 ++ piece, e ∙ ap (λ t. t ++ piece) g.1 ∙ append_assoc start g.0 piece)

-- the text of a number that no name has
pub no_name : (names : List (List ℕ)) (n : ℕ) (text : List ℕ) → None ≡ slice_get names n → text ≡ [] → text ≡ name_text names n
no_name names n text at none = none ∙ ap (λ (s : Option (List ℕ)). unwrap_or s []) at ∙ unwrap_or-slice_get names n []

-- behind a call that puts a piece, or puts nothing
pub goes_by : (r : Result (Unit {0}) AllocError) (start text new piece : List ℕ) → GoesOn start text → new ≡ cond (is_ok r) (text ++ piece) text → GoesOn start new
goes_by (Ok u) start text new piece g e = goes_more start text new piece g e
goes_by (Err u) start text new piece g e = (g.0, e ∙ g.1)

pub goes_word : (r : Result (Unit {0}) AllocError) (start text new piece : List ℕ) → GoesOn start text → OnOk r (new ≡ text ++ piece) → OnErr r (new ≡ text) → GoesOn start new
goes_word (Ok u) start text new piece g e none = goes_more start text new piece g e
goes_word (Err u) start text new piece g none e = (g.0, e ∙ g.1)

-- the end of the line is put
pub ends_line : (r : Result (Unit {0}) AllocError) (text new all : List ℕ) → new ≡ cond (is_ok r) (text ++ 10 ∷ []) text → text ++ 10 ∷ [] ≡ all → OnOk r (new ≡ all)
ends_line (Ok u) text new all e is = e ∙ is
ends_line (Err u) text new all e is = tt

-- what was put is cut off
pub cut_back : (before after : List ℕ) (n : ℕ) → GoesOn before after → n ≡ length before → take n after ≡ before
cut_back before after n g e = ap (take n) g.1 ∙ take_at before g.0 n (sym e)

-- the lines of the events from one on
abbrev pub lines_from : List (List ℕ) → ℕ → List Event → List ℕ
lines_from names i events = text_of_lines (map (event_line names) (drop i events))

-- the line of the next event is put
pub event_more : (names : List (List ℕ)) (events : List Event) (i : ℕ) (d : Event) (text new all : List ℕ) → i < length events
    → new ≡ text ++ (event_line names (get_or events i d) ++ 10 ∷ []) → text ++ lines_from names i events ≡ all → new ++ lines_from names (i + 1) events ≡ all
event_more names events i d text new all below put is =
    let piece = event_line names (get_or events i d) ++ 10 ∷ [] in
    let later = lines_from names (i + 1) events in
    ap (λ t. t ++ later) put ∙ append_assoc text piece later
    ∙ ap (λ t. text ++ t) (sym (at_drop_more (λ es. text_of_lines (map (event_line names) es)) events i d below)) ∙ is

-- and no event is left
pub events_past : (names : List (List ℕ)) (events : List Event) (i : ℕ) (text all : List ℕ) → length events ≤ i → text ++ lines_from names i events ≡ all → text ≡ all
events_past names events i text all past is =
    sym (append-nil text) ∙ ap (λ t. text ++ t) (sym (at_drop_all (λ es. text_of_lines (map (event_line names) es)) events i past)) ∙ is
