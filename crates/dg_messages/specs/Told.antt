-- Messages behind what leads to graphs.
use Rattle.std.specs.Prelude.{◌≡◌, ℕ, List, [], ◌∷◌, ◌++◌, Ok, map}
use Rattle.dg_graph.specs.Composition.{Delta, applied}
use Rattle.dg_graph.specs.declared.element.Columns.{Columns}
use Rattle.dg_graph.specs.declared.element.Element.{Element}
use Rattle.dg_graph.specs.declared.event.Event.{Event}
use Rattle.dg_graph.specs.Elements.{IsSet}
use Rattle.dg_graph.specs.Replay.{shown_at, told_at}
use Rattle.dg_heard.specs.Heard.{heard_events}
use Rattle.dg_history.specs.History.{History, events_of}
use Rattle.dg_index.specs.OpenedIndex.{Opening}
use Rattle.dg_retrieval.specs.Beginnings.{GraphLead}

-- the messages as a delta
abbrev pub telling : List Element → Delta
telling set = record { minus = []; plus = set }

-- In this image the sets are the messages of each of the instants, in the columns that are heard for these and among the
-- recent events.
abbrev pub AreToldIn : ℕ → List ℕ → Opening → List Event → List ℕ → List (List Element) → Type 0
AreToldIn name_count image o recent times sets =
    (events : List Event) × (heard_events name_count image o times ≡ Ok events) × (sets ≡ map (told_at (events ++ recent)) times)

-- the second lead goes as the first, and behind it puts in these messages
pub record TellsBehind (lead told : GraphLead) (set : List Element) : Type 0 where
  pub begins : told.begins ≡ lead.begins
  pub delta : (begun : List Element) → IsSet begun → applied told.delta begun ≡ applied (telling set) (applied lead.delta begun)

-- each lead of the second list as the one of the first, with the messages beside it
abbrev pub TellBehind : List GraphLead → List GraphLead → List (List Element) → Type 0
TellBehind [] [] [] = Unit {0}
TellBehind (lead ∷ leads) (told ∷ more) (set ∷ sets) = TellsBehind lead told set × TellBehind leads more sets
TellBehind leads more sets = ⊥

-- the graphs as of the instants in these columns, with the messages of the instants
abbrev pub shown_with_messages : History → List ℕ → Columns → List (List Element)
shown_with_messages z times cols = map (λ t. shown_at (events_of z) t cols) times
