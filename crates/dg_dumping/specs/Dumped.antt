-- What is dumped of an index, and what each end of a dump says.
use Rattle.std.specs.Prelude.{◌≡◌, ◌⊎◌, ◌==◌, IfSome, ℕ, Bool, true, false, List, [], ◌∷◌, ◌++◌, Option, Result, Ok, Err, codes, drop, if◌then◌else◌, length, take}
use Rattle.dg_disk.specs.declared.disk.Disk as disk
use Rattle.dg_disk.specs.Calls.{Fails}
use Rattle.dg_columns.specs.ColumnLaws.{AreBytes}
use Rattle.dg_dump.specs.ScriptOfHistory.{batch_command, script_of}
use Rattle.dg_dumping.specs.PutText.{events_text}
use Rattle.dg_dumping.specs.SpanText.{span_text}
use Rattle.dg_dumping.specs.declared.span.Span.{Span}
use Rattle.dg_dumping.specs.declared.status.DumpFault.{DumpFault}
use Rattle.dg_dumping.specs.declared.status.DumpFault.TheVariants as fault
use Rattle.dg_dumping.specs.declared.status.DumpStatus.{DumpStatus}
use Rattle.dg_dumping.specs.declared.status.DumpStatus.TheVariants as status
use Rattle.dg_graph.specs.declared.event.Event.{Event}
use Rattle.dg_history.specs.History.{History, events_of}
use Rattle.dg_index.specs.ImageOfHistory.{IsImageOf}
use Rattle.dg_index.specs.OpenedIndex.{Damaged_at, No_index, Not_ours, Opened, opening}
use Rattle.dg_io.specs.declared.sink.Sink as sink
use Rattle.dg_io.specs.Calls.{FailsToPut}
use Rattle.dg_io.specs.Told.{GrowsByPart, grown}
use Rattle.dg_sound.specs.declared.soundness.Soundness.TheVariants.{Unsound}
use Rattle.dg_sound.specs.Soundness.{soundness_of}
use Rattle.dg_spans.specs.declared.place.BatchPlace.{BatchPlace}
use Rattle.dg_spans.specs.Stretches.{WhereStands}
use Rattle.dg_start.specs.declared.fault.StartFault.TheVariants as start_fault
use Rattle.dg_start.specs.EventSources.{WhereTold}
use Rattle.dg_start.specs.RecentEvents.{Source, events_in_source}

-- ---- the text

-- the first batch is loaded, and each other one is appended
abbrev pub verb_at : ℕ → List ℕ
verb_at number = if number == 0 then codes "load" else codes "append"

-- the events of the batch, among those of the history
abbrev pub events_at : History → BatchPlace → List Event
events_at z p = take p.batch.events (drop p.before (events_of z))

-- the command of the batch, and the lines of its events
abbrev pub batch_text : History → List (List ℕ) → BatchPlace → List ℕ
batch_text z names p = (batch_command (verb_at p.number) p.batch.events ++ 10 ∷ []) ++ events_text names (events_at z p)

-- ---- what was written

-- A dump that ends so, and not with all of the text that is due, has written a proper front of it. Over an image that stands
-- for a history no other end comes.
abbrev pub GainsPart : DumpStatus → Option (List ℕ) → List ℕ → Option (List ℕ) → Type 0
GainsPart status.Done before due after = ⊥
GainsPart status.SinkFault before due after = GrowsByPart before due after
GainsPart status.DiskFault before due after = GrowsByPart before due after
GainsPart status.NoMemory before due after = GrowsByPart before due after
GainsPart (status.Refused fault) before due after = ⊥
GainsPart status.NoIndex before due after = ⊥

-- What a dump over an image that stands for a history has written: all of the script that is due, or a proper front of it
-- where a write or the disk failed or memory lacked. No such image is refused.
abbrev pub GainsScript : DumpStatus → Option (List ℕ) → List ℕ → Option (List ℕ) → Type 0
GainsScript status.Done before due after = after ≡ grown before due
GainsScript status.SinkFault before due after = GrowsByPart before due after
GainsScript status.DiskFault before due after = GrowsByPart before due after
GainsScript status.NoMemory before due after = GrowsByPart before due after
GainsScript (status.Refused fault) before due after = ⊥
GainsScript status.NoIndex before due after = ⊥

-- Not all of the text is known to be written: a proper front of it, or nothing where none is due.
abbrev pub FallsShort : Option (List ℕ) → List ℕ → Option (List ℕ) → Type 0
FallsShort before due after = GrowsByPart before due after ⊎ ((due ≡ []) × (after ≡ before))

-- The same of the changes of a span, of which there may be none.
abbrev pub GainsSpan : DumpStatus → Option (List ℕ) → List ℕ → Option (List ℕ) → Type 0
GainsSpan status.Done before due after = after ≡ grown before due
GainsSpan status.SinkFault before due after = GrowsByPart before due after
GainsSpan status.DiskFault before due after = FallsShort before due after
GainsSpan status.NoMemory before due after = FallsShort before due after
GainsSpan (status.Refused fault) before due after = ⊥
GainsSpan status.NoIndex before due after = ⊥

-- ---- why it ended

-- the first column of a record of events is read as none, or the record's columns do not come together
abbrev pub IsBadRecord : DumpFault → List ℕ → Opened → Type 0
IsBadRecord fault.Foreign image x = ⊥
IsBadRecord (fault.Damaged offset) image x = ⊥
IsBadRecord (fault.BadRecord key col) image x = (s : Source) × (events_in_source image (length x.names) x.index s ≡ Err (start_fault.BadRecord key col))
IsBadRecord (fault.Unsound key col) image x = ⊥

-- what an index is refused for before its first record is written: all but a damaged record
abbrev pub is_refusal : DumpFault → Bool
is_refusal fault.Foreign = true
is_refusal (fault.Damaged offset) = true
is_refusal (fault.BadRecord key col) = false
is_refusal (fault.Unsound key col) = true

-- Why the text of an opened index was not put whole: a write failed, the disk failed, memory lacked, or a record that is
-- read is damaged.
pub record Stops {D K : Type 0} (d : disk.Ghosts D) (k : sink.Ghosts K) (x : Opened) (s : DumpStatus) (old_disk now_disk : D) (old_sink now_sink : K) : Type 0 where
  pub done : s ≡ status.Done → ⊥
  pub sink : s ≡ status.SinkFault → FailsToPut k old_sink now_sink
  pub disk : s ≡ status.DiskFault → Fails d old_disk now_disk
  pub refused : (f : DumpFault) → s ≡ status.Refused f → WhereTold (d.image old_disk) (λ image. IsBadRecord f image x)
  pub bad_record : (f : DumpFault) → s ≡ status.Refused f → is_refusal f ≡ false
  pub no_index : s ≡ status.NoIndex → ⊥

-- an end that comes before the first write
abbrev pub IsBefore : DumpStatus → Type 0
IsBefore status.Done = ⊥
IsBefore status.SinkFault = ⊥
IsBefore status.DiskFault = Unit {0}
IsBefore status.NoMemory = Unit {0}
IsBefore (status.Refused fault) = is_refusal fault ≡ true
IsBefore status.NoIndex = Unit {0}

-- the image is opened as an index
abbrev pub IsOpened : List ℕ → Type 0
IsOpened image = (x : Opened) × (opening image ≡ Ok x)

-- why an index file with this image is refused, with a check or without
abbrev pub Refuses : Bool → DumpFault → List ℕ → Type 0
Refuses checked fault.Foreign image = opening image ≡ Err Not_ours
Refuses checked (fault.Damaged offset) image = opening image ≡ Err (Damaged_at offset)
Refuses checked (fault.BadRecord key col) image = (x : Opened) × (opening image ≡ Ok x) × IsBadRecord (fault.BadRecord key col) image x
Refuses checked (fault.Unsound key col) image = (x : Opened) × (checked ≡ true) × (opening image ≡ Ok x) × (soundness_of image x ≡ Unsound key col)

-- What each end says of the image. Of a failure of the disk and of want of memory nothing is said.
abbrev pub ComesTo : Bool → DumpStatus → List ℕ → Type 0
ComesTo checked status.Done image = IsOpened image
ComesTo checked status.SinkFault image = IsOpened image
ComesTo checked status.DiskFault image = Unit {0}
ComesTo checked status.NoMemory image = Unit {0}
ComesTo checked (status.Refused fault) image = Refuses checked fault image
ComesTo checked status.NoIndex image = opening image ≡ Err No_index

-- a dump that ended so has written nothing
abbrev pub is_unbegun : DumpStatus → Bool
is_unbegun status.Done = false
is_unbegun status.SinkFault = false
is_unbegun status.DiskFault = false
is_unbegun status.NoMemory = false
is_unbegun (status.Refused fault) = is_refusal fault
is_unbegun status.NoIndex = true

-- What a dump has come to that ended so, checked or not, from a disk and a sink to what they are at its end. Of a history
-- this text is due, and what was written of it stands to it as `Gains` says.
pub record DumpedText {D K : Type 0} (Gains : DumpStatus → Option (List ℕ) → List ℕ → Option (List ℕ) → Type 0) (due : History → List ℕ)
    (d : disk.Ghosts D) (k : sink.Ghosts K) (checked : Bool) (s : DumpStatus) (old_disk now_disk : D) (old_sink now_sink : K) : Type 0 where
  -- The headline. Over an image that stands for a history, the text that is due was written, or a front of it where a write
  -- or the disk failed or memory lacked.
  pub text : WhereStands (d.image old_disk) (λ z. Gains s (k.written old_sink) (due z) (k.written now_sink))
  -- With a check an image of bytes either stands for a history, so that the headline holds over it, or nothing was written.
  pub checked_first : checked ≡ true → IfSome (d.image old_disk) (λ image. AreBytes image → ((z : History) × IsImageOf z image) ⊎ (now_sink ≡ old_sink))
  -- Each end says of the image what it is: so an image without an index ends with that status, unless the disk failed or
  -- memory lacked.
  pub comes : IfSome (d.image old_disk) (ComesTo checked s)
  -- Nothing was written where the image is no index, where no index is opened, or where one is not sound.
  pub unbegun : is_unbegun s ≡ true → now_sink ≡ old_sink
  -- Status 4 comes only where a write of the sink failed.
  pub sink_fault : s ≡ status.SinkFault → FailsToPut k old_sink now_sink
  -- Status 5 comes only where a call of the disk failed.
  pub disk_fault : s ≡ status.DiskFault → Fails d old_disk now_disk

-- of the script that makes the history
abbrev pub Dumped : {D K : Type 0} → disk.Ghosts D → sink.Ghosts K → Bool → DumpStatus → D → D → K → K → Type 0
Dumped = DumpedText GainsScript script_of

-- of the changes of a span
abbrev pub DumpedSpan : {D K : Type 0} → Span → disk.Ghosts D → sink.Ghosts K → Bool → DumpStatus → D → D → K → K → Type 0
DumpedSpan span = DumpedText GainsSpan (span_text span)
