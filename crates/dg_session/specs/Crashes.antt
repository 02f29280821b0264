-- What a crash within the making of an index may leave beside an image of a history.
use Rattle.std.specs.Prelude.{◌≡◌, ℕ, Bool, true, false, List, length, drop}
use Rattle.dg_machine.specs.declared.reply.Head.TheVariants as head
use Rattle.dg_machine.specs.declared.reply.Reply.{Reply}
use Rattle.dg_machine.specs.declared.reply.Reply.TheVariants as replied

-- the reply says that an index was made
abbrev pub is_created : Reply → Bool
is_created (replied.Answered head.Created body) = true
is_created r = false

-- both are just the bytes of a header, and differ at most in the first
abbrev pub IsFirstByte : List ℕ → List ℕ → Type 0
IsFirstByte a c = (length a ≡ 18) × (length c ≡ 18) × (drop 1 c ≡ drop 1 a)
