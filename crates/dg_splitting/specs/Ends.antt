-- Why a step of a split stops, as its status says.
use Rattle.std.specs.Prelude.{◌≡◌, ◌⊎◌, ◌&&◌, ◌<◌, ℕ, true, false, List, [], Option, Some, None, IfSome}
use Rattle.dg_disk.specs.Calls.{Fails}
use Rattle.dg_disk.specs.declared.disk.Disk.{Ghosts}
use Rattle.dg_file.specs.Images.{IsMadeInPart}
use Rattle.dg_history.specs.History.{History, are_parameters, is_function}
use Rattle.dg_history.specs.LegalHistory.{IsLegal}
use Rattle.dg_index.specs.ImageOfHistory.{IsImageOf, is_blank}
use Rattle.dg_index.specs.OpenedIndex.{Opening, may_be_named}
use Rattle.dg_part_files.specs.PartFaults.{IsFullAt}
use Rattle.dg_part_files.specs.WrittenParts.{HasRoom, IsFrontOf}
use Rattle.dg_splitting.specs.declared.status.SplitStatus.{SplitStatus}
use Rattle.dg_splitting.specs.declared.status.SplitStatus.TheVariants as status
use Rattle.dg_splitting.specs.Outs.{IsFirstTaken, OneFails}

-- a call of the disk failed, or memory lacked
abbrev pub FailsOut : {D : Type 0} → Ghosts D → SplitStatus → D → D → Type 0
FailsOut g status.Done old new = ⊥
FailsOut g status.DiskFault old new = Fails g old new
FailsOut g status.NoMemory old new = Unit {0}
FailsOut g (status.Refused why) old new = ⊥
FailsOut g (status.Exists number) old new = ⊥
FailsOut g status.NoIndex old new = ⊥
FailsOut g (status.Full number needed) old new = ⊥

-- the outs are not all blank: one is not, a call of one failed, or memory lacked
abbrev pub StopsAsking : {D : Type 0} → Ghosts D → SplitStatus → List D → List D → Type 0
StopsAsking g status.Done outs left = ⊥
StopsAsking g status.DiskFault outs left = OneFails g outs left
StopsAsking g status.NoMemory outs left = Unit {0}
StopsAsking g (status.Refused why) outs left = ⊥
StopsAsking g (status.Exists number) outs left = IsFirstTaken g outs number
StopsAsking g status.NoIndex outs left = ⊥
StopsAsking g (status.Full number needed) outs left = ⊥

-- there is no index, or its parameters are not in their ranges
abbrev pub LacksParams : Option Opening → SplitStatus → Type 0
LacksParams index status.Done = ⊥
LacksParams index status.DiskFault = ⊥
LacksParams index status.NoMemory = ⊥
LacksParams index (status.Refused why) =
    (o : Opening) × (index ≡ Some o) × ((are_parameters o.params.l o.params.k && is_function o.params.function) ≡ false)
LacksParams index (status.Exists number) = ⊥
LacksParams index status.NoIndex = index ≡ None
LacksParams index (status.Full number needed) = ⊥

-- The events are not read: a call of the disk failed, memory lacked, or the file is refused, which is so of none that has a
-- fact.
abbrev pub StopsReading : {D : Type 0} → Ghosts D → Type 0 → SplitStatus → D → D → Type 0
StopsReading g IsRight status.Done old new = ⊥
StopsReading g IsRight status.DiskFault old new = Fails g old new
StopsReading g IsRight status.NoMemory old new = Unit {0}
StopsReading g IsRight (status.Refused why) old new = IsRight → ⊥
StopsReading g IsRight (status.Exists number) old new = ⊥
StopsReading g IsRight status.NoIndex old new = ⊥
StopsReading g IsRight (status.Full number needed) old new = ⊥

-- The part of this number, which is z, is not written: a call of the out failed, memory lacked, the next batch passes the
-- limit, or the file is refused. Where z is legal and its names may be those of a history, it is refused for an out alone that
-- does not tell its image.
abbrev pub StopsPart : {D : Type 0} → Ghosts D → ℕ → ℕ → List (List ℕ) → History → SplitStatus → D → D → Type 0
StopsPart g limit number names z status.Done old new = ⊥
StopsPart g limit number names z status.DiskFault old new = Fails g old new
StopsPart g limit number names z status.NoMemory old new = Unit {0}
StopsPart g limit number names z (status.Refused why) old new = may_be_named [] names ≡ true → IsLegal z → g.image old ≡ None
StopsPart g limit number names z (status.Exists other) old new = ⊥
StopsPart g limit number names z status.NoIndex old new = ⊥
StopsPart g limit number names z (status.Full other needed) old new = (other ≡ number) × (limit < needed) × (IsLegal z → IfSome (g.image new) (IsFullAt limit z needed))

-- the image stands for the history, whose file has no more bytes in use than the limit where it has a batch
abbrev pub StandsWithin : ℕ → History → List ℕ → Type 0
StandsWithin limit z image = IsImageOf z image × HasRoom limit z

-- What is left of an out that was blank and to which the history is written, as the out of this number: none, or its first
-- batches; or, of the out that broke, what a failure leaves of an index that is made.
abbrev pub IsLeft : History → SplitStatus → ℕ → ℕ → List ℕ → List ℕ → Type 0
IsLeft z s broken number before after =
    (is_blank after ≡ true) ⊎ IsFrontOf z after ⊎ ((s ≡ status.DiskFault) × (number ≡ broken) × IsMadeInPart z.form z.params before after)
