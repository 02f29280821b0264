-- The deltas that a batch gives, of any input: its new leaves, and height after height the nodes above them.
use Rattle.std.specs.Prelude.{◌≡◌, ℕ, zero, suc, ◌+◌, ◌-◌, ◌*◌, ◌/◌, ◌<◌, List, [], ◌∷◌, ◌++◌, Some, None, length, map, take, drop, reverse, get_or, nat_lt, if◌then◌else◌}
use Rattle.dg_graph.specs.declared.element.Element.{Element}
use Rattle.dg_graph.specs.declared.event.Event.{Event}
use Rattle.dg_graph.specs.Composition.{Delta, applied, between, chained, nothing, reversed}
use Rattle.dg_graph.specs.Elements.{IsSet}
use Rattle.dg_graph.specs.ExactEvents.{AreChangesOf, effect_of}
use Rattle.dg_graph.specs.Replay.{replay_from}
use Rattle.dg_history.specs.declared.params.Params.{Params}
use Rattle.dg_delta.specs.Deltas.{applied_in_turn}
use Rattle.dg_index.specs.FileOfHistory.{Stored}
use Rattle.dg_index.specs.Hierarchy.{leaves}
use Rattle.dg_build.specs.declared.fault.BuildFault.{BuildFault}
use Rattle.dg_build.specs.declared.fault.BuildFault.TheVariants.{Memory, Wide}
use Rattle.dg_build.specs.InteriorDeltas.{downs_by, inner_by, last_way, stored_delta, top_to, up_by}
use Rattle.dg_build.specs.OlderSteps.{IsTopDue}
use Rattle.dg_build.specs.SpelledRecords.{first_wide}

-- The new nodes of a height: the exact delta to the first from where the height starts, which is at the first in time of
-- the older children of the heights below it, or at the last leaf; and the exact steps from each to the next.
pub record Nodes : Type 0 where
  pub up : Delta
  pub steps : List Delta

-- ---- the new leaves

-- from each set of which the events are changes, it is the exact delta to the set that they lead to
abbrev pub IsExactNet : List Event → Delta → Type 0
IsExactNet events d = (set : List Element) → IsSet set → AreChangesOf set events → d ≡ between set (replay_from set events)

-- the set that the events lead back to, the last of them first
abbrev pub taken_back : List Element → List Event → List Element
taken_back set events = applied_in_turn (map (λ e. reversed (effect_of e)) (reverse events)) set

-- So many leaves behind one, by the lists behind it, of `l` events each: the delta to the first of them, and each step to
-- the next, is the exact net of a list.
pub record AreNewLeaves (l count : ℕ) (events : List Event) (new : Nodes) : Type 0 where
  pub first : IsExactNet (take l events) new.up
  pub long : length new.steps + 1 ≡ count
  pub steps : (i : ℕ) → i < length new.steps → IsExactNet (take l (drop ((i + 1) * l) events)) (get_or new.steps i nothing)

-- the set that these steps lead back to, the last of them first
abbrev pub gone_back : List Delta → List Element → List Element
gone_back steps set = applied_in_turn (map reversed (reverse steps)) set

-- ---- the nodes above those of a height, of which there were q and are `end`, with the older children of the first

-- the steps between the older ones, of which the last is led on to the first new one
abbrev pub row_to : List Delta → Delta → List Delta
row_to [] up = []
row_to (step ∷ []) up = chained step up ∷ []
row_to (step ∷ next ∷ older) up = step ∷ row_to (next ∷ older) up

-- the steps between all their children
abbrev pub row_between : Params → ℕ → ℕ → List Delta → Nodes → List Delta
row_between p q end older new = row_to older new.up ++ take (end / p.k * p.k - q - 1) new.steps

-- the deltas from so many nodes behind one to their children, by the steps from its last child on
abbrev pub later_downs : Params → ℕ → List Delta → List Delta
later_downs p zero row = []
later_downs p (suc count) row = downs_by p (drop 1 row) ++ later_downs p count (drop p.k row)

-- the steps from that node to the first of these and from each to the next, with the delta to its last child
abbrev pub later_steps : Params → ℕ → Delta → List Delta → List Delta
later_steps p zero last row = []
later_steps p (suc count) last row =
    chained (chained last (get_or row 0 last)) (inner_by p (drop 1 row)) ∷ later_steps p count (last_way (downs_by p (drop 1 row))) (drop p.k row)

-- these nodes
abbrev pub risen : Params → ℕ → ℕ → List Delta → Nodes → Nodes
risen p q end older new =
    let row = row_between p q end older new in
    record { up = up_by older new.up (inner_by p row); steps = later_steps p (end / p.k - q / p.k - 1) (last_way (downs_by p row)) (drop (p.k - 1) row) }

-- the set of the first of them, where the next height starts at this one
abbrev pub first_by : Params → List Delta → Delta → List Delta → List Element → List Element
first_by p older up row base = applied (up_by older up (inner_by p row)) base

-- their deltas: from the root to the first, where it is that of its height, and from each to its children
abbrev pub given_above : Params → ℕ → ℕ → List Delta → List Element → Nodes → List Delta
given_above p q end older base new =
    let row = row_between p q end older new in
    top_to (q / p.k) (first_by p older new.up row base) ++ (downs_by p row ++ later_downs p (end / p.k - q / p.k - 1) (drop (p.k - 1) row))

-- Those of all heights above, with the steps of the older children of these heights, in the order of time: the last of
-- them are those of this height. The number of turns only bounds the recursion.
abbrev pub given_on : Params → ℕ → ℕ → ℕ → List Delta → List Element → Nodes → List Delta
given_on p zero q end older base new = []
given_on p (suc turns) q end older base new =
    let before = length older - (q - q / p.k * p.k) in
    if nat_lt (q / p.k) (end / p.k)
    then given_above p q end (drop before older) base new ++ given_on p turns (q / p.k) (end / p.k) (take before older) base (risen p q end (drop before older) new)
    else []

-- ---- the batch

-- These deltas are given behind m leaves, up to `after`, by the current set, the recent events, all events behind the last
-- leaf, and the steps of the older children. Only a delta from the root takes a whole set, which is led back to from the
-- current one over the recent events and then over all these steps.
pub record AreGivenBetween (p : Params) (m after : ℕ) (now : List Element) (recent events : List Event) (steps deltas : List Delta) : Type 0 where
  pub new : Nodes
  pub new_leaves : m / p.k < after / p.k → AreNewLeaves p.l (after - m) events new
  pub base : List Element
  pub base_is : IsTopDue p.k m after → base ≡ gone_back steps (taken_back now recent)
  pub are : deltas ≡ given_on p after m after steps base new

-- they are given by a batch of these events behind so many others, from the current set, the recent events, and the steps
-- of the older children
abbrev pub AreGiven : Params → ℕ → List Element → List Event → List Event → List Delta → List Delta → Type 0
AreGiven p before now recent events steps deltas =
    AreGivenBetween p (leaves p before) (leaves p (before + length events)) now recent (recent ++ events) steps deltas

-- ---- what is written

-- the deltas are written, and none of them is too wide
pub record AreAdded (deltas : List Delta) (old now : List Stored) : Type 0 where
  pub adds : now ≡ old ++ map stored_delta deltas
  pub narrow : first_wide (length old) deltas ≡ None

-- such deltas are written
pub record AddsSuch (such : List Delta → Type 0) (old now : List Stored) : Type 0 where
  pub deltas : List Delta
  pub are : such deltas
  pub added : AreAdded deltas old now

-- of such deltas, behind so many others, the first that is too wide has this index
pub record IsFirstWide (such : List Delta → Type 0) (index at : ℕ) : Type 0 where
  pub deltas : List Delta
  pub are : such deltas
  pub first : first_wide index deltas ≡ Some at

-- why such deltas were not written behind so many others
abbrev pub IsFaultOfSuch : (List Delta → Type 0) → ℕ → BuildFault → Type 0
IsFaultOfSuch such index Memory = Unit {0}
IsFaultOfSuch such index (Wide at) = IsFirstWide such index at
