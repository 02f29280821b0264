-- A line of a reply with a word more.
use Rattle.std.proofs.Common.{◌≡◌, ℕ, ◌+◌, ◌<◌, List, [], ◌∷◌, ◌++◌, length, map, set, take, ap, ◌∙◌}
use Rattle.std.proofs.lemmas.List.{map-append, take_more_set}
use Rattle.dg_reply.specs.declared.reply_buffer.Word.{Word}
use Rattle.dg_reply.specs.Buffered.{word_bytes}

-- the words of a line behind whose last a word is written
pub word_more : (words : List Word) (n : ℕ) (w : Word) → n < length words
    → map word_bytes (take (n + 1) (set words n w)) ≡ map word_bytes (take n words) ++ word_bytes w ∷ []
word_more words n w below = ap (map word_bytes) (take_more_set words n w below) ∙ map-append word_bytes (take n words) (w ∷ [])
