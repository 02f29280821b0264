-- The messages of instants as they are collected: among the events of list after list, in their order.
use Rattle.std.specs.Prelude.{◌≡◌, ◌<◌, ℕ, ◌==◌, List, ◌++◌, Option, None, Ok, IfSome, if◌then◌else◌, length, slice_index, slice_index_or}
use Rattle.std.specs.Global.{Vec}
use Rattle.std.specs.List.{flat_map}
use Rattle.std.specs.Option.{option_to_list}
use Rattle.dg_graph.specs.declared.element.Element.{Element}
use Rattle.dg_graph.specs.declared.event.Event.{Event}
use Rattle.dg_graph.specs.Replay.{message_of}
use Rattle.dg_heard.specs.Heard.{heard_events}
use Rattle.dg_index.specs.OpenedIndex.{Opening}
use Rattle.dg_records.specs.EventNames.{EventNamesAreThere}

-- the message of the event, if it is one of exactly the instant
abbrev pub message_at : ℕ → Event → Option Element
message_at t e = if e.time == t then message_of e.body else None

-- the messages of exactly the instant, in the order of the events, each as often as it was sent
abbrev pub messages_at : ℕ → List Event → List Element
messages_at t events = flat_map (λ e. option_to_list (message_at t e)) events

-- each list has the messages of its instant among the events
pub record AreCollected (events : List Event) (times : List ℕ) (lists : List (Vec Element)) : Type 0 where
  pub count : length lists ≡ length times
  pub each : (n : ℕ) (d : Vec Element) → n < length times → (slice_index_or lists n d).items ≡ messages_at (slice_index times n) events

-- each list has become longer by the messages of its instant among these events
pub record AreAdded (events : List Event) (times : List ℕ) (old new : List (Vec Element)) : Type 0 where
  pub count : length new ≡ length old
  pub each : (n : ℕ) (d : Vec Element) → n < length times → (slice_index_or new n d).items ≡ (slice_index_or old n d).items ++ messages_at (slice_index times n) events

-- In this image the lists have the messages of the instants in the columns that are heard for these; the names that these
-- have are there.
pub record AreHeardIn (name_count : ℕ) (image : Option (List ℕ)) (o : Opening) (times : List ℕ) (lists : List (Vec Element)) : Type 0 where
  pub events : List Event
  pub heard : IfSome image (λ bytes. heard_events name_count bytes o times ≡ Ok events)
  pub named : EventNamesAreThere name_count events
  pub collected : AreCollected events times lists
