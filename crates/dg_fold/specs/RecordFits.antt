-- The records of an index can be spelled.
use Rattle.std.specs.Prelude.{◌<◌, ◌≤◌, ◌^◌, ℕ, length}
use Rattle.dg_columns.specs.Ranges.{EventsFit}
use Rattle.dg_history.specs.declared.node.Key.{Key}
use Rattle.dg_history.specs.History.{History, events_of}
use Rattle.dg_index.specs.IndexRecords.{record_among}
use Rattle.dg_fold.specs.Parts.{RecordFits}

-- Where the events of a history fit, each record of its index can be spelled with so many names.
abbrev pub RecordsFit : Type 0
RecordsFit = (names : ℕ) (z : History) → EventsFit names 0 (events_of z) → length (events_of z) ≤ 2 ^ 28 → 0 < z.params.l → z.params.l ≤ 65536
    → (key : Key) → RecordFits names (record_among z.params (events_of z) z.batches key)
