-- Bytes on their way to a sink through a buffer, piece by piece.
use Rattle.std.proofs.Common.{◌≡◌, ℕ, ◌+◌, ◌-◌, ◌<◌, ◌≤◌, Option, Result, Ok, Err, OnErr, map, take, drop, length, get_or, codes, List, [], ◌∷◌, ◌++◌, refl, sym, ap, ◌∙◌, subst, append_assoc, append-nil, arith}
use Rattle.std.specs.List.{join_with_byte}
use Rattle.std.proofs.lemmas.List.Concat.{flat_map-append}
use Rattle.std.proofs.lemmas.Option.{get_or_from_slice_get, slice_get_within}
use Rattle.std.specs.Prelude.{Some, slice_get}
use Rattle.dg_io.specs.Told.{grown, GrowsByPart}
use Rattle.dg_io.proofs.ToldLemmas.{grown_nothing, both_pieces, part_first, part_second}
use Rattle.dg_machine.specs.declared.reply.BodyLine.{BodyLine}
use Rattle.dg_machine.specs.declared.reply.Head.{Head}
use Rattle.dg_machine.specs.declared.reply.Reply.{Reply}
use Rattle.dg_machine.specs.declared.reply.Reply.TheVariants as replied
use Rattle.dg_machine.specs.ReplyText.{text_line, body_text, body_words, head_words, text}
use Rattle.dg_reply.specs.declared.reply_buffer.Word.{Word}
use Rattle.dg_reply.specs.Buffered.{IsBuffered, spaced, text_before_end, word_bytes}
use Rattle.std.proofs.lemmas.List.{at_drop_more, at_drop_all, length-append, length-take-le, take-append-drop, take-take, take_at}
use borrow.Rule.Slice.PartMut.{put_mid, post_of}

-- of all bytes, some are sent, then come those held, and `left` is still to be put
pub record IsPartlyPut (start : Option (List ℕ)) (all : List ℕ) (now : Option (List ℕ)) (held left : List ℕ) : Type 0 where
  pub sent : List ℕ
  pub written : now ≡ grown start sent
  pub split : sent ++ (held ++ left) ≡ all

pub put_first : (start : Option (List ℕ)) (held left : List ℕ) → IsPartlyPut start (held ++ left) start held left
put_first start held left = record { sent = []; written = sym (grown_nothing start); split = refl }

-- the next piece is put
pub put_next : (start mid now : Option (List ℕ)) (all held piece left new_held : List ℕ) → IsPartlyPut start all mid held (piece ++ left)
    → IsBuffered mid (held ++ piece) now new_held → IsPartlyPut start all now new_held left
put_next start mid now all held piece left new_held g p = record {
  sent = g.sent ++ p.sent;
  written = both_pieces start mid now g.sent p.sent g.written p.written;
  split =
      append_assoc g.sent p.sent (new_held ++ left) ∙ ap (λ bytes. g.sent ++ bytes)
      (sym (append_assoc p.sent new_held left) ∙ ap (λ bytes. bytes ++ left) p.rest ∙ append_assoc held piece left) ∙ g.split;
}

-- a write fails at the next piece
pub put_fails : (start mid new : Option (List ℕ)) (all held piece left : List ℕ) → IsPartlyPut start all mid held (piece ++ left)
    → GrowsByPart mid (held ++ piece) new → GrowsByPart start all new
put_fails start mid new all held piece left g p =
    let P : List ℕ → Type 0 = λ bytes. GrowsByPart start bytes new in
    subst P (ap (λ bytes. g.sent ++ bytes) (append_assoc held piece left) ∙ g.split)
    (part_second start mid new g.sent ((held ++ piece) ++ left) g.written (part_first mid new (held ++ piece) left p))

-- all is put
pub put_ends : (start now : Option (List ℕ)) (all held : List ℕ) → IsPartlyPut start all now held [] → IsBuffered start all now held
put_ends start now all held g = record {
  sent = g.sent;
  written = g.written;
  rest = ap (λ bytes. g.sent ++ bytes) (sym (append-nil held)) ∙ g.split;
}

-- what was held is sent, and then a piece as well
pub buffered_both : (start mid now : Option (List ℕ)) (held piece new_held : List ℕ) → mid ≡ grown start held → now ≡ grown mid piece
    → new_held ≡ [] → IsBuffered start (held ++ piece) now new_held
buffered_both start mid now held piece new_held p q empty = record {
  sent = held ++ piece;
  written = both_pieces start mid now held piece p q;
  rest = ap (λ bytes. (held ++ piece) ++ bytes) empty ∙ append-nil (held ++ piece);
}

-- what is held, written in the end, is all of the bytes
pub buffered_written : (start mid now : Option (List ℕ)) (all held : List ℕ) → IsBuffered start all mid held → now ≡ grown mid held
    → now ≡ grown start all
buffered_written start mid now all held p q = both_pieces start mid now p.sent held p.written q ∙ ap (grown start) p.rest

-- the rest of a line: `between` comes before the next word, and a space before each later one
abbrev pub rest_of_line : List ℕ → List (List ℕ) → List ℕ
rest_of_line between [] = 10 ∷ []
rest_of_line between (w ∷ ws) = between ++ (w ++ rest_of_line (32 ∷ []) ws)

after_word : (w : List ℕ) (ws : List (List ℕ)) → join_with_byte 32 (w ∷ ws) ++ 10 ∷ [] ≡ w ++ rest_of_line (32 ∷ []) ws
after_word w [] = refl
after_word w (v ∷ ws) =
    append_assoc w (32 ∷ join_with_byte 32 (v ∷ ws)) (10 ∷ []) ∙ ap (λ bytes. w ++ (32 ∷ bytes)) (after_word v ws)

pub line_is_rest : (ws : List (List ℕ)) → text_line ws ≡ rest_of_line [] ws
line_is_rest [] = refl
line_is_rest (w ∷ ws) = after_word w ws

-- a fact for the case of an error, where it holds in every case
pub on_err : {T E : Type 0} (r : Result T E) {P : Type 0} → P → OnErr r P
on_err (Ok x) h = tt
on_err (Err e) h = h

-- what is left before a word of a line
pub rest_at : (between : List ℕ) (words : List Word) (i : ℕ) (d : Word) → i < length words
    → rest_of_line between (map word_bytes (drop i words))
    ≡ between ++ (word_bytes (get_or words i d) ++ rest_of_line (32 ∷ []) (map word_bytes (drop (i + 1) words)))
rest_at between words i d below = at_drop_more (λ ws. rest_of_line between (map word_bytes ws)) words i d below

-- and behind the last
pub rest_past : (between : List ℕ) (words : List Word) (i : ℕ) → length words ≤ i
    → rest_of_line between (map word_bytes (drop i words)) ≡ 10 ∷ []
rest_past between words i past = at_drop_all (λ ws. rest_of_line between (map word_bytes ws)) words i past

-- what a loop over the words of a line knows, before a word
pub put_at : (start mid : Option (List ℕ)) (all held between : List ℕ) (words : List Word) (i : ℕ) (d : Word) → i < length words
    → IsPartlyPut start all mid held (rest_of_line between (map word_bytes (drop i words)))
    → IsPartlyPut start all mid held (between ++ (word_bytes (get_or words i d) ++ rest_of_line (32 ∷ []) (map word_bytes (drop (i + 1) words))))
put_at start mid all held between words i d below g =
    subst (λ (left : List ℕ). IsPartlyPut start all mid held left) (rest_at between words i d below) g

-- and behind the last, where the piece is a line feed
pub put_past : (start mid : Option (List ℕ)) (all held between piece : List ℕ) (words : List Word) (i : ℕ) → length words ≤ i
    → piece ≡ 10 ∷ [] → IsPartlyPut start all mid held (rest_of_line between (map word_bytes (drop i words))) → IsPartlyPut start all mid held (piece ++ [])
put_past start mid all held between piece words i past feed g =
    subst (λ (left : List ℕ). IsPartlyPut start all mid held left)
    (rest_past between words i past ∙ ap (λ bytes. bytes ++ []) (sym feed)) g

-- of what is held, some is sent
pub put_moved : (start mid now : Option (List ℕ)) (all held left new_held : List ℕ) → IsPartlyPut start all mid held left → IsBuffered mid held now new_held
    → IsPartlyPut start all now new_held left
put_moved start mid now all held left new_held g p = record {
  sent = g.sent ++ p.sent;
  written = both_pieces start mid now g.sent p.sent g.written p.written;
  split =
      append_assoc g.sent p.sent (new_held ++ left)
      ∙ ap (λ bytes. g.sent ++ bytes) (sym (append_assoc p.sent new_held left) ∙ ap (λ bytes. bytes ++ left) p.rest) ∙ g.split;
}

-- or a write of it fails
pub put_move_fails : (start mid new : Option (List ℕ)) (all held left : List ℕ) → IsPartlyPut start all mid held left → GrowsByPart mid held new
    → GrowsByPart start all new
put_move_fails start mid new all held left g p =
    subst (λ (bytes : List ℕ). GrowsByPart start bytes new) g.split
    (part_second start mid new g.sent (held ++ left) g.written (part_first mid new held left p))

-- the next line of a body is held
pub put_body_line : (names : List (List ℕ)) (start now : Option (List ℕ)) (all held new_held : List ℕ) (lines : List BodyLine) (i : ℕ) (d : BodyLine)
    → slice_get lines i ≡ Some d → new_held ≡ held ++ text_line (body_words names d) → IsPartlyPut start all now held (body_text names (drop i lines))
    → IsPartlyPut start all now new_held (body_text names (drop (i + 1) lines))
put_body_line names start now all held new_held lines i d here is g =
    let line = text_line (body_words names d) in
    let later = body_text names (drop (i + 1) lines) in
    record {
      sent = g.sent;
      written = g.written;
      split =
          ap (λ bytes. g.sent ++ bytes)
          (ap (λ bytes. bytes ++ later) is ∙ append_assoc held line later
          ∙ ap (λ bytes. held ++ bytes)
          (ap (λ (x : BodyLine). text_line (body_words names x) ++ later) (sym (get_or_from_slice_get lines i d d here))
          ∙ sym (at_drop_more (body_text names) lines i d (slice_get_within lines i d here)))) ∙ g.split;
    }

-- and behind the last
pub put_lines_past : (names : List (List ℕ)) (start mid : Option (List ℕ)) (all held : List ℕ) (lines : List BodyLine) (i : ℕ) → length lines ≤ i
    → IsPartlyPut start all mid held (body_text names (drop i lines)) → IsBuffered start all mid held
put_lines_past names start mid all held lines i past g =
    put_ends start mid all held (subst (λ (left : List ℕ). IsPartlyPut start all mid held left) (at_drop_all (body_text names) lines i past) g)

-- the text of a reply is what stands before `end`, and `end`
text_ends : (names : List (List ℕ)) (reply : Reply) → text_before_end names reply ++ (text_line (codes "end" ∷ []) ++ []) ≡ text names reply
text_ends names (replied.Refused r) = ap (λ bytes. text_before_end names (replied.Refused r) ++ bytes) (append-nil (text_line (codes "end" ∷ [])))
text_ends names (replied.Answered h body) =
    ap (λ bytes. text_before_end names (replied.Answered h body) ++ bytes) (append-nil (text_line (codes "end" ∷ [])))

-- a reply, before it is put on an empty buffer
pub put_first_of : (names : List (List ℕ)) (start : Option (List ℕ)) (reply : Reply) (buffer : List ℕ) → buffer ≡ []
    → IsPartlyPut start (text names reply) start buffer (text_before_end names reply ++ (text_line (codes "end" ∷ []) ++ []))
put_first_of names start reply buffer empty = record {
  sent = [];
  written = sym (grown_nothing start);
  split = ap (λ held. held ++ (text_before_end names reply ++ (text_line (codes "end" ∷ []) ++ []))) empty ∙ text_ends names reply;
}

-- the first line of an answer, and then its body
module _ (names : List (List ℕ)) (start mid now : Option (List ℕ)) (held mid_held : List ℕ) (words : List (List ℕ)) (reply : Reply) (h : Head) (body : List BodyLine)
    (is : reply ≡ replied.Answered h body) (words_are : words ≡ head_words h) (first : IsBuffered start (held ++ text_line words) mid mid_held) where
  both_lines : first.sent ++ (mid_held ++ body_text names body) ≡ held ++ text_before_end names reply
  both_lines =
      sym (append_assoc first.sent mid_held (body_text names body))
      ∙ ap (λ bytes. bytes ++ body_text names body) first.rest
      ∙ append_assoc held (text_line words) (body_text names body)
      ∙ ap (λ ws. held ++ (text_line ws ++ body_text names body)) words_are
      ∙ ap (λ (r : Reply). held ++ text_before_end names r) (sym is)

  pub answer_put : (new_held : List ℕ) → IsBuffered mid (mid_held ++ body_text names body) now new_held → IsBuffered start (held ++ text_before_end names reply) now new_held
  answer_put new_held lines = record {
    sent = first.sent ++ lines.sent;
    written = both_pieces start mid now first.sent lines.sent first.written lines.written;
    rest = append_assoc first.sent lines.sent new_held ∙ ap (λ bytes. first.sent ++ bytes) lines.rest ∙ both_lines;
  }

  pub answer_fails : GrowsByPart mid (mid_held ++ body_text names body) now → GrowsByPart start (held ++ text_before_end names reply) now
  answer_fails part =
      subst (λ (bytes : List ℕ). GrowsByPart start bytes now) both_lines
      (part_second start mid now first.sent (mid_held ++ body_text names body) first.written part)

-- what is held fails to be written
pub buffered_fails : (start mid new : Option (List ℕ)) (all held : List ℕ) → IsBuffered start all mid held → GrowsByPart mid held new
    → GrowsByPart start all new
buffered_fails start mid new all held p q =
    subst (λ (bytes : List ℕ). GrowsByPart start bytes new) p.rest (part_second start mid new p.sent held p.written q)

-- a number's text is held, of the twenty bytes that are written behind those held
pub number_held : (bytes digits text rest ys : List ℕ) (held start k : ℕ) → held ≤ length bytes → start + length text ≡ 20 → drop start digits ≡ text ++ rest
    → ys ≡ take (start + 20 - start) (drop start digits) → take (held + (20 - start)) (put_mid held k bytes ys) ≡ take held bytes ++ text
number_held bytes digits text rest ys held start k below whole is copied =
    let n = length text in
    let later = drop n ys in
    let behind = post_of held k bytes in
    let front : take n ys ≡ text =
    ap (take n) copied ∙ take-take n (start + 20 - start) (drop start digits) (omega arith) ∙ ap (take n) is ∙ take_at text rest n refl in
    let parts : ys ≡ text ++ later = sym (take-append-drop n ys) ∙ ap (λ xs. xs ++ later) front in
    ap (λ xs. take (held + (20 - start)) (take held bytes ++ (xs ++ behind))) parts
    ∙ ap (λ xs. take (held + (20 - start)) (take held bytes ++ xs)) (append_assoc text later behind)
    ∙ ap (take (held + (20 - start))) (sym (append_assoc (take held bytes) text (later ++ behind)))
    ∙ take_at (take held bytes ++ text) (later ++ behind) (held + (20 - start))
    (omega (arith, length-append (take held bytes) text, length-take-le held bytes below))

-- the words of a line, each but the first behind a space
line_spaced : (w : List ℕ) (ws : List (List ℕ)) → text_line (w ∷ ws) ≡ w ++ (spaced ws ++ 10 ∷ [])
line_spaced w [] = refl
line_spaced w (v ∷ ws) =
    append_assoc w (32 ∷ join_with_byte 32 (v ∷ ws)) (10 ∷ [])
    ∙ ap (λ bytes. w ++ (32 ∷ bytes)) (line_spaced v ws ∙ sym (append_assoc v (spaced ws) (10 ∷ [])))

pieces : (held a b c d : List ℕ) → (((held ++ a) ++ b) ++ c) ++ d ≡ held ++ (a ++ ((b ++ c) ++ d))
pieces held a b c d = simp append_assoc refl

-- what is held behind a record's line: `record`, the words of its key, and the lengths of its columns
pub record_held : (held : List ℕ) (key lengths : List (List ℕ))
    → (((held ++ codes "record") ++ spaced key) ++ spaced lengths) ++ 10 ∷ [] ≡ held ++ text_line (codes "record" ∷ (key ++ lengths))
record_held held key lengths =
    let line : text_line (codes "record" ∷ (key ++ lengths)) ≡ codes "record" ++ ((spaced key ++ spaced lengths) ++ 10 ∷ []) =
    line_spaced (codes "record") (key ++ lengths)
    ∙ ap (λ bytes. codes "record" ++ (bytes ++ 10 ∷ [])) (flat_map-append (λ w. 32 ∷ w) key lengths) in
    pieces held (codes "record") (spaced key) (spaced lengths) (10 ∷ []) ∙ ap (λ bytes. held ++ bytes) (sym line)
