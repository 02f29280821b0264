-- Whether an index file is what its own events determine, and the history that these make.
use Rattle.std.specs.Prelude.{ℕ, ◌+◌, ◌*◌, ◌/◌, ◌^◌, Bool, List, [], ◌∷◌, ◌++◌, Option, Some, None, Result, Ok, Err, if◌then◌else◌, bytes_eq, length, map, take, drop}
use Rattle.std.specs.List.{flat_map}
use Rattle.dg_graph.specs.declared.element.Column.{Column}
use Rattle.dg_graph.specs.declared.element.Column.TheVariants as column
use Rattle.dg_graph.specs.declared.event.Event.{Event}
use Rattle.dg_history.specs.declared.node.Key.{Key}
use Rattle.dg_history.specs.declared.node.Key.TheVariants as key
use Rattle.dg_history.specs.declared.params.Params.{Params}
use Rattle.dg_history.specs.History.{History, Batch}
use Rattle.dg_index.specs.Hierarchy.{leaves, numbers}
use Rattle.dg_index.specs.IndexRecords.{column_of_record, heights, lists_due, record_among}
use Rattle.dg_index.specs.OpenedIndex.{Opened, column_at, entry_at, event_total}
use Rattle.dg_index.specs.declared.entry.BatchEntry.{BatchEntry}
use Rattle.dg_sound.specs.declared.soundness.Soundness.{Soundness}
use Rattle.dg_sound.specs.declared.soundness.Soundness.TheVariants.{Sound, Unsound}
use Rattle.dg_sound.specs.OwnEvents.{own_events}

-- ---- tops and downs

-- the column of a delta's record is that which the events determine
abbrev pub is_delta_column : List ℕ → Opened → List Event → Key → Column → Bool
is_delta_column image x events k col =
    bytes_eq (column_at image (entry_at x.index k) col) (column_of_record col (record_among x.index.params events [] k))

-- the first column of the record that is not right
abbrev pub wrong_column : List ℕ → Opened → List Event → Key → Option Column
wrong_column image x events k =
    if is_delta_column image x events k column.Structure
    then (if is_delta_column image x events k column.NodeAttr
    then (if is_delta_column image x events k column.EdgeAttr then None else Some column.EdgeAttr)
    else Some column.NodeAttr)
    else Some column.Structure

abbrev pub or_later : Key → Option Column → Option (Key × Column) → Option (Key × Column)
or_later k None later = later
or_later k (Some col) later = Some (k, col)

-- the first of these records that is not right, and its first such column
abbrev pub first_wrong : List ℕ → Opened → List Event → List Key → Option (Key × Column)
first_wrong image x events [] = None
first_wrong image x events (k ∷ more) = or_later k (wrong_column image x events k) (first_wrong image x events more)

-- the tops and then the downs of an index of so many events, in the order of keys
abbrev pub delta_keys : Params → ℕ → List Key
delta_keys p n =
    map (λ h. key.Top h) (heights p.k (leaves p n))
    ++ flat_map (λ h. map (λ c. key.Down h c) (numbers 1 (leaves p n / p.k ^ h * p.k))) (heights p.k (leaves p n))

-- how many lists, tops and downs an index of so many events has
abbrev pub record_total : Params → ℕ → ℕ
record_total p n = length (lists_due p 0 n) + length (delta_keys p n)

-- ---- the answer

abbrev pub sound_unless : ℕ → Option (Key × Column) → Soundness
sound_unless total None = Sound total
sound_unless total (Some wrong) = Unsound wrong.0 wrong.1

abbrev pub judged_events : List ℕ → Opened → Result (List Event) (Key × Column) → Soundness
judged_events image x (Err wrong) = Unsound wrong.0 wrong.1
judged_events image x (Ok events) =
    sound_unless (record_total x.index.params (event_total x.index.batches))
    (first_wrong image x events (delta_keys x.index.params (event_total x.index.batches)))

-- Of an image that is opened as this: sound, or the first record, in the order of keys, that is not right.
abbrev pub soundness_of : List ℕ → Opened → Soundness
soundness_of image x = judged_events image x (own_events image x)

-- ---- the history of the file's own events

-- the events and the names cut into batches, as the directories count them
abbrev pub own_batches : List (List ℕ) → List Event → List BatchEntry → List Batch
own_batches names events [] = []
own_batches names events (b ∷ more) =
    record { names = take b.names names; events = take b.events events }
    ∷ own_batches (drop b.names names) (drop b.events events) more

abbrev pub history_of : Opened → List Event → History
history_of x events = record { params = x.index.params; form = x.index.form; batches = own_batches x.names events x.index.batches }

abbrev pub if_read : Opened → Result (List Event) (Key × Column) → Option History
if_read x (Err wrong) = None
if_read x (Ok events) = Some (history_of x events)

-- the history of an image that is opened as this, where its own events can be read
abbrev pub own_history : List ℕ → Opened → Option History
own_history image x = if_read x (own_events image x)
