-- The promise of a run over parts, on one page.
use Rattle.std.specs.Prelude.{◌≡◌, ◌⊎◌, ℕ, ◌<◌, ◌≤◌, true, false, List, length, map, IfSome}
use Rattle.dg_history.specs.History.{History, events_of}
use Rattle.dg_history.specs.LegalHistory.{IsLegal}
use Rattle.dg_graph.specs.Replay.{shown_at}
use Rattle.dg_index.specs.Hierarchy.{numbers}
use Rattle.dg_io.specs.Told.{CountRose, Gives}
use Rattle.dg_machine.specs.declared.limits.Limits.{Limits}
use Rattle.dg_partition.specs.HistoryParts.{part_of}
use Rattle.dg_part_runs.specs.declared.status.PartsStatus.{PartsStatus}
use Rattle.dg_part_runs.specs.declared.status.PartsStatus.TheVariants as status
use Rattle.dg_part_runs.specs.Disks.{SomeRose}
use Rattle.dg_part_runs.specs.PartDamage.{DamageIsNamed}
use Rattle.dg_part_runs.specs.PartsMachine.{parts_at, union_shown}
use Rattle.dg_part_runs.specs.PartsOutside.{IsUnasked, PartsOutside}
use Rattle.dg_part_runs.specs.PartsServed.{AreImagesOf, PartsServed}
use Rattle.dg_part_runs.specs.PartsStatuses.{is_run}
use Rattle.dg_part_runs.specs.PartStarts.{AreTold, StartsSo}
use Rattle.dg_session.specs.declared.session_fault.SessionFault.{SessionFault}

-- no call of source, sink or disks failed
pub record NoneFailed (start now : PartsOutside) : Type 0 where
  pub source : CountRose start.source_faults now.source_faults → ⊥
  pub sink : CountRose start.sink_faults now.sink_faults → ⊥
  pub disks : SomeRose start.disk_faults now.disk_faults → ⊥

-- What a run over parts within these limits promises that ended so.
pub record PartsPromised (limits : Limits) (s : PartsStatus) (start now : PartsOutside) : Type 0 where
  -- The headline. Where the images are those of histories, the sink gained the texts of the replies of a run of the machine of
  -- parts, whose handles list what these histories together show.
  pub served : is_run s ≡ true → (parts : List History) → AreImagesOf start.images parts → PartsServed (union_shown parts) (parts_at limits parts) s start now
  -- Where they are all the parts of one history, a handle lists what that history shows as of the instant of its `at`.
  pub whole : is_run s ≡ true → (z : History) → IsLegal z → (p : ℕ) → 1 ≤ p → AreImagesOf start.images (map (λ i. part_of z i p) (numbers 0 p))
      → PartsServed (λ t cols. shown_at (events_of z) t cols) (parts_at limits (map (λ i. part_of z i p) (numbers 0 p))) s start now
  -- Whatever the images are, a reply that a column is damaged names the first damage of the first part that meets one as of the
  -- instant of its `at`.
  pub damage : is_run s ≡ true → DamageIsNamed limits s start now
  -- How a run begins, or why it does not, by the images alone: the least part that does not begin, then the least without an
  -- index, then the least whose names are others.
  pub starts : (images : List (List ℕ)) → AreTold start.images images → StartsSo images s
  -- No part of which the image is that of a history is refused or without an index.
  pub never_refused : (parts : List History) → AreImagesOf start.images parts → (part : ℕ) (fault : SessionFault) → s ≡ status.Refused part fault → ⊥
  pub never_blank : (parts : List History) → AreImagesOf start.images parts → (part : ℕ) → s ≡ status.NoIndex part → ⊥
  -- The files of the parts are as they were.
  pub images : now.images ≡ start.images
  -- Where the run did not begin, source and sink are as they were.
  pub unbegun : is_run s ≡ false → IsUnasked start now
  -- Status 0 comes only where the script has fewer bytes than the limit.
  pub done : s ≡ status.Done → IfSome start.left (λ script. length script < limits.script_bytes)
  -- Statuses 3, 4 and 5 come only where a call of the source, of the sink or of a disk failed.
  pub source_fault : s ≡ status.SourceFault → CountRose start.source_faults now.source_faults
  pub sink_fault : s ≡ status.SinkFault → CountRose start.sink_faults now.sink_faults
  pub disk_fault : s ≡ status.DiskFault → SomeRose start.disk_faults now.disk_faults
  -- Status 9 comes only where as many bytes of the script as the limit were taken.
  pub script_limit : s ≡ status.ScriptLimit → (taken : List ℕ) × Gives start.left taken now.left × (length taken ≡ limits.script_bytes)
  -- Where the images are those of histories whose names agree and nothing failed, a script with fewer bytes than the limit is
  -- answered to its end; want of memory before the first command is free.
  pub completes : NoneFailed start now → (parts : List History) → AreImagesOf start.images parts → ((part : ℕ) → s ≡ status.Mismatch part → ⊥)
      → IfSome start.left (λ script. length script < limits.script_bytes → (s ≡ status.Done) ⊎ (s ≡ status.NoMemory))
