-- The runs of a machine over the entries of a script: what it replies, one after another.
use Rattle.std.specs.Prelude.{◌≡◌, ℕ, List, [], ◌∷◌}
use Rattle.std.specs.List.{flat_map}
use Rattle.dg_machine.specs.CommandGrammar.{Grammar}
use Rattle.dg_machine.specs.declared.reply.Refusal.{Refusal}
use Rattle.dg_machine.specs.declared.reply.Reply.{Reply}
use Rattle.dg_machine.specs.declared.reply.Reply.TheVariants as replied
use Rattle.dg_machine.specs.ReplyText.{text}
use Rattle.dg_machine.specs.Script.{Entry, Asked, No_command, Long_line}
use Rattle.dg_turns.specs.declared.machine.Machine as machine
use Rattle.dg_turns.specs.Entries.{RefusesLine}

-- a reply, with the machine and the world behind it
pub record Turned (M W : Type 0) : Type 0 where
  pub reply : Reply
  pub machine : M
  pub world : W

-- the line is refused, and neither machine nor world is touched
abbrev pub RefusesEntry : {M W : Type 0} → Grammar → M → W → Entry → Turned M W → Type 0
RefusesEntry read m w e t = (r : Refusal) × RefusesLine read e r × (t.reply ≡ replied.Refused r) × (t.machine ≡ m) × (t.world ≡ w)

-- the entry is answered so
abbrev pub Answers : {M W : Type 0} → machine.Ghosts M W → Grammar → M → W → Entry → Turned M W → Type 0
Answers g read m w (Asked c got) t = g.answers c got m w t.machine t.world t.reply
Answers g read m w (No_command line) t = RefusesEntry read m w (No_command line) t
Answers g read m w Long_line t = RefusesEntry read m w Long_line t

-- A run: each entry is answered, from where the one before it left machine and world.
abbrev pub RunOver : {M W : Type 0} → machine.Ghosts M W → Grammar → M → W → List Entry → List (Turned M W) → Type 0
RunOver g read m w [] [] = Unit {0}
RunOver g read m w (e ∷ entries) (t ∷ turns) = Answers g read m w e t × RunOver g read t.machine t.world entries turns
RunOver g read m w [] (t ∷ turns) = ⊥
RunOver g read m w (e ∷ entries) [] = ⊥

-- the machine and the world behind a run
abbrev pub last_machine : {M W : Type 0} → M → List (Turned M W) → M
last_machine m [] = m
last_machine m (t ∷ turns) = last_machine t.machine turns

abbrev pub last_world : {M W : Type 0} → W → List (Turned M W) → W
last_world w [] = w
last_world w (t ∷ turns) = last_world t.world turns

-- the text of a reply, by the names of the machine behind it
abbrev pub turn_text : {M W : Type 0} → machine.Ghosts M W → Turned M W → List ℕ
turn_text g t = text (g.texts t.machine) t.reply

-- the texts of the replies, one after another
abbrev pub turn_texts : {M W : Type 0} → machine.Ghosts M W → List (Turned M W) → List ℕ
turn_texts g turns = flat_map (turn_text g) turns
