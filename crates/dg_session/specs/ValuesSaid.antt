-- What a session keeps of an index of values, what it says, also once more events are there, and what is found by it.
use Rattle.std.specs.Prelude.{◌≡◌, ℕ, ◌+◌, List, [], Option, Some, None, map, nat_eq}
use Rattle.std.specs.List.{list_any}
use Rattle.dg_aux.specs.declared.turns.Turn.{Turn}
use Rattle.dg_aux.specs.Turns.{AuxState, IsRising, ValuesSaid, additions, says, says_from, turns_of}
use Rattle.dg_graph.specs.declared.event.Event.{Event}

-- the key, and the turns of its values
pub record IndexKept : Type 0 where
  pub key : ℕ
  pub turns : List Turn

-- the index without its room
abbrev pub kept_of : AuxState → IndexKept
kept_of aux = record { key = aux.key; turns = aux.turns }

-- what it says
abbrev pub said_of : IndexKept → ValuesSaid
said_of kept = record { key = kept.key; says = says kept.turns; additions = additions kept.turns }

-- what is said of a key with these events behind the others
abbrev pub said_with : List Event → ValuesSaid → ValuesSaid
said_with events s = record {
  key = s.key;
  says = λ value id t. says_from (s.says value id t) (turns_of s.key events) value id t;
  additions = s.additions + additions (turns_of s.key events);
}

-- the same of all of them
abbrev pub all_said_with : List Event → List ValuesSaid → List ValuesSaid
all_said_with events said = map (said_with events) said

-- the ids are, rising, those of the nodes that have the value at the instant, by these turns; none, where there is no value
abbrev pub AreFound : List Turn → ℕ → Option ℕ → List ℕ → Type 0
AreFound turns t None ids = ids ≡ []
AreFound turns t (Some value) ids = IsRising ids × ((id : ℕ) → list_any (nat_eq id) ids ≡ says turns value id t)
