-- What is heard over an image of a history.
use Rattle.std.specs.Prelude.{◌≡◌, ℕ, List, ◌++◌, Ok, length}
use Rattle.std.specs.List.{All}
use Rattle.dg_graph.specs.declared.event.Event.{Event}
use Rattle.dg_graph.specs.Replay.{told_at}
use Rattle.dg_history.specs.History.{History, events_of, names_of}
use Rattle.dg_index.specs.HeardLists.{heard_length}
use Rattle.dg_index.specs.ImageOfHistory.{IsImageOf}
use Rattle.dg_index.specs.IndexRecords.{recent_of}
use Rattle.dg_index.specs.OpenedIndex.{opened_of}
use Rattle.dg_heard.specs.Heard.{heard_bytes, heard_events}

-- In an image of the history no column that is heard for these instants is damaged, and its events with the recent ones
-- have the messages of each of the instants.
pub record HearsHistory (z : History) (image : List ℕ) (times : List ℕ) : Type 0 where
  pub events : List Event
  pub heard : heard_events (length (names_of z)) image (opened_of z).index times ≡ Ok events
  pub told : All (λ t. told_at (events ++ recent_of z.params (events_of z)) t ≡ told_at (events_of z) t) times

abbrev pub HistoriesAreHeard : Type 0
HistoriesAreHeard = (z : History) (image : List ℕ) → IsImageOf z image → (times : List ℕ) → HearsHistory z image times

-- the bytes are those of the history's lists
abbrev pub HeardBytesAreTheHistorys : Type 0
HeardBytesAreTheHistorys = (z : History) (image : List ℕ) → IsImageOf z image → (times : List ℕ) → heard_bytes (opened_of z).index times ≡ heard_length z times
