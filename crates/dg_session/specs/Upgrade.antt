-- How the file of what a session lives on goes on in its second form.
use Rattle.std.specs.Prelude.{◌≡◌, ◌<◌, ℕ, false, Option, Some, None, Result, Ok, Err}
use Rattle.dg_batch.specs.declared.halt.Halt.{Halt}
use Rattle.dg_batch.specs.declared.halt.Halt.TheVariants as halt
use Rattle.dg_batch.specs.declared.held.Held.{Held}
use Rattle.dg_batch.specs.declared.stop.Stop.TheVariants as stop
use Rattle.dg_disk.specs.declared.disk.Disk.{Ghosts}
use Rattle.dg_file.specs.declared.fault.CommitFault.{CommitFault}
use Rattle.dg_file.specs.declared.fault.CommitFault.TheVariants as fault
use Rattle.dg_file.specs.Calls.{Upgrades, UpgradesPart}
use Rattle.dg_file.specs.Index.{IndexState}
use Rattle.dg_history.specs.History.{is_wide}
use Rattle.dg_index.specs.IndexGrowth.{needed_for_marker}
use Rattle.dg_index.specs.OpenedIndex.{Opening}
use Rattle.dg_machine.specs.declared.reply.Refusal.TheVariants as refusal

-- there is an index, and its file is in the first form
abbrev pub IsNarrow : Option Opening → Type 0
IsNarrow None = ⊥
IsNarrow (Some o) = is_wide o.form ≡ false

-- what is lived on, over this index
abbrev pub with_index : Held → IndexState → Held
with_index h i = record h { live = record h.live { history = record h.live.history { index = Some i } } }

-- The marker is in the file, and only the index has changed; or the file has too little room, and nothing has changed; or
-- the disk failed.
abbrev pub MarksHeld : {D A : Type 0} → Ghosts D → ℕ → Opening → Held → Held → D → D → Result A CommitFault → Type 0
MarksHeld g limit o old new before after (Ok x) = (i : IndexState) × (new ≡ with_index old i) × Upgrades g limit o i.opening before after
MarksHeld g limit o old new before after (Err (fault.FileFull needed)) = (new ≡ old) × (needed ≡ needed_for_marker o) × (limit < needed) × (after ≡ before)
MarksHeld g limit o old new before after (Err fault.Disk) = UpgradesPart g limit o before after

-- why the file does not go on, where it may have so many bytes in use
abbrev pub upgrade_halt : ℕ → CommitFault → Halt
upgrade_halt limit (fault.FileFull needed) = halt.Refusal (refusal.FileFull needed limit)
upgrade_halt limit fault.Disk = halt.Stop stop.Store
