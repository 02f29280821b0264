-- Turns of the values of one key, what they say of a value at a node, and the index that keeps them.
use Rattle.std.specs.Prelude.{ℕ, ◌≡◌, ◌≤◌, ◌<◌, ◌*◌, ◌==◌, Bool, true, false, ◌&&◌, not, List, [], ◌∷◌, ◌++◌, Option, Some, None, if◌then◌else◌, length, nat_le}
use Rattle.std.specs.Cmp.Lexicographic.{slice_cmp}
use Rattle.std.specs.List.{count_by, flat_map}
use Rattle.std.specs.Option.{option_to_list}
use Rattle.std.specs.Ordering.{is_lt, nat_cmp}
use Rattle.dg_graph.specs.declared.element.Element.{Element}
use Rattle.dg_graph.specs.declared.element.Element.TheVariants as element
use Rattle.dg_graph.specs.declared.event.Event.{Event}
use Rattle.dg_graph.specs.Effect.{removed_by, added_by}
use Rattle.dg_aux.specs.declared.turns.Turn.{Turn}

-- ---- what turns say

-- the turn is of this value at this node, and up to the instant
abbrev pub is_about : ℕ → ℕ → ℕ → Turn → Bool
is_about value id t turn = (turn.value == value && turn.id == id) && nat_le turn.time t

-- the node has the value at the instant: the last turn of them up to it brings it
abbrev pub says_from : Bool → List Turn → ℕ → ℕ → ℕ → Bool
says_from b [] value id t = b
says_from b (turn ∷ turns) value id t = says_from (if is_about value id t turn then turn.comes else b) turns value id t

abbrev pub says : List Turn → ℕ → ℕ → ℕ → Bool
says turns value id t = says_from false turns value id t

-- how many turns bring a value
abbrev pub additions : List Turn → ℕ
additions turns = count_by (λ turn. turn.comes) turns

-- both lists say the same, and as many of their turns bring a value
pub record AreAlike (old new : List Turn) : Type 0 where
  pub says : (value id t : ℕ) → says new value id t ≡ says old value id t
  pub additions : additions new ≡ additions old

-- ---- the turns of events

-- the turn of an element that comes or goes, if it is a value of the key
abbrev pub turn_of : ℕ → Bool → ℕ → Option Element → Option Turn
turn_of key comes t None = None
turn_of key comes t (Some (element.Node id)) = None
turn_of key comes t (Some (element.Edge directed id src dst)) = None
turn_of key comes t (Some (element.NodeAttr id k value)) = if k == key then Some (record { value = value; comes = comes; id = id; time = t }) else None
turn_of key comes t (Some (element.EdgeAttr id k value)) = None
turn_of key comes t (Some (element.Message src dst value)) = None

-- the turns of an event: that of what it removes, and that of what it adds
abbrev pub turns_by : ℕ → Event → List Turn
turns_by key e = option_to_list (turn_of key false e.time (removed_by e.body)) ++ option_to_list (turn_of key true e.time (added_by e.body))

abbrev pub turns_of : ℕ → List Event → List Turn
turns_of key events = flat_map (λ e. turns_by key e) events

-- ---- their order

-- by value, and then by node
abbrev pub place : Turn → List ℕ
place turn = turn.value ∷ turn.id ∷ []

abbrev pub earlier : Turn → Turn → Bool
earlier a b = is_lt (slice_cmp nat_cmp (place a) (place b))

-- ---- what is found among them

-- the turn is of the value, and up to the instant
abbrev pub is_told : ℕ → ℕ → Turn → Bool
is_told value t turn = turn.value == value && nat_le turn.time t

-- the last turn at the node brings what the turns are about
abbrev pub told_from : Bool → List Turn → ℕ → Bool
told_from b [] id = b
told_from b (turn ∷ turns) id = told_from (if turn.id == id then turn.comes else b) turns id

-- the first turn is at the node
abbrev pub begins_with : ℕ → List Turn → Bool
begins_with id [] = false
begins_with id (turn ∷ turns) = turn.id == id

-- of each run of turns at one node the node, where the last brings the value
abbrev pub lasts : List Turn → List ℕ
lasts [] = []
lasts (turn ∷ turns) = if turn.comes && not (begins_with turn.id turns) then turn.id ∷ lasts turns else lasts turns

abbrev pub IsUnder : ℕ → List ℕ → Type 0
IsUnder id [] = Unit {0}
IsUnder id (first ∷ ids) = id < first

-- the ids rise strictly
abbrev pub IsRising : List ℕ → Type 0
IsRising [] = Unit {0}
IsRising (id ∷ ids) = IsUnder id ids × IsRising ids

-- ---- the index

-- An index of the values of a key: its turns, and room for more.
pub record AuxState : Type 0 where
  pub key : ℕ
  pub turns : List Turn
  pub room : ℕ

-- there is room for the turns of so many events: two of each
abbrev pub HasRoomFor : AuxState → ℕ → Type 0
HasRoomFor aux count = 2 * count ≤ aux.room

-- ---- what an index says

-- Of each value of the key, at each node and each instant, whether it is there; and how often one comes.
pub record ValuesSaid : Type 0 where
  pub key : ℕ
  pub says : ℕ → ℕ → ℕ → Bool
  pub additions : ℕ

-- what the index says
abbrev pub said_by : AuxState → ValuesSaid
said_by aux = record { key = aux.key; says = says aux.turns; additions = additions aux.turns }

-- what is to be said of the key over these events
abbrev pub said_over : List Event → ℕ → ValuesSaid
said_over events key = record { key = key; says = says (turns_of key events); additions = additions (turns_of key events) }
