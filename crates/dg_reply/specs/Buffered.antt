-- Bytes on their way to a sink through a buffer.
use Rattle.std.specs.Prelude.{◌≡◌, ℕ, ◌+◌, ◌≤◌, List, ◌∷◌, ◌++◌, Option, codes, decimal, length}
use Rattle.std.specs.List.{flat_map}
use Rattle.dg_io.specs.Told.{grown}
use Rattle.dg_machine.specs.declared.reply.Reply.{Reply}
use Rattle.dg_machine.specs.declared.reply.Reply.TheVariants as replied
use Rattle.dg_machine.specs.ReplyText.{body_text, head_words, refusal_words, text_line}
use Rattle.dg_reply.specs.declared.reply_buffer.TheConstants.{BUFFER_BYTES}
use Rattle.dg_reply.specs.declared.reply_buffer.Word.{Word}
use Rattle.dg_reply.specs.declared.reply_buffer.Word.TheVariants as word

-- of the bytes, the first are written to the sink, and the others are held
pub record IsBuffered (before : Option (List ℕ)) (bytes : List ℕ) (after : Option (List ℕ)) (held : List ℕ) : Type 0 where
  pub sent : List ℕ
  pub written : after ≡ grown before sent
  pub rest : sent ++ held ≡ bytes

-- the bytes of a word
abbrev pub word_bytes : Word → List ℕ
word_bytes (word.Text text) = text.now
word_bytes (word.Number n) = decimal n

-- behind the bytes held there is room for this many
abbrev pub HasBufferRoom : List ℕ → ℕ → Type 0
HasBufferRoom held n = length held + n ≤ BUFFER_BYTES

-- words, each behind a space
abbrev pub spaced : List (List ℕ) → List ℕ
spaced ws = flat_map (λ w. 32 ∷ w) ws

-- the lines of a reply before `end`
abbrev pub text_before_end : List (List ℕ) → Reply → List ℕ
text_before_end names (replied.Refused r) = text_line (codes "refused" ∷ refusal_words r)
text_before_end names (replied.Answered h body) = text_line (head_words h) ++ body_text names body
