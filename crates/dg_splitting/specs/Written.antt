-- What the parts of a history, as it was read, leave in their outs.
use Rattle.std.specs.Prelude.{◌≡◌, ◌<◌, ℕ, true, List, [], Some, IfSome, length, slice_get}
use Rattle.dg_disk.specs.declared.disk.Disk.{Ghosts}
use Rattle.dg_file.specs.Images.{BothTold}
use Rattle.dg_graph.specs.declared.event.Event.{Event}
use Rattle.dg_history.specs.declared.params.Params.{Params}
use Rattle.dg_history.specs.LegalHistory.{IsLegal}
use Rattle.dg_index.specs.ImageOfHistory.{is_blank}
use Rattle.dg_index.specs.OpenedIndex.{may_be_named}
use Rattle.dg_part_files.specs.PartFaults.{IsFullAt}
use Rattle.dg_splitting.specs.declared.status.SplitStatus.{SplitStatus}
use Rattle.dg_splitting.specs.declared.status.SplitStatus.TheVariants as status
use Rattle.dg_splitting.specs.Ends.{IsLeft, StandsWithin}
use Rattle.dg_splitting.specs.Outs.{EachOut, EachPair, OneFails, OneIsUntold}
use Rattle.dg_splitting.specs.WholeHistory.{written_part}

-- each part that is legal stands in its out, where that tells its image, and has room there
abbrev pub HoldParts : {D : Type 0} → Ghosts D → ℕ → Params → List (List ℕ) → List Event → List D → Type 0
HoldParts g limit params names events outs =
    EachOut (λ number out. IsLegal (written_part params names events (length outs) number)
    → IfSome (g.image out) (StandsWithin limit (written_part params names events (length outs) number))) outs

-- the parts may be those of a history: their names may be, and each is legal
pub record MayBeParts (params : Params) (names : List (List ℕ)) (events : List Event) (parts : ℕ) : Type 0 where
  pub named : may_be_named [] names ≡ true
  pub legal : (number : ℕ) → IsLegal (written_part params names events parts number)

-- with its next batch the out of this number needs so many bytes, more than the limit
pub record IsPartFull {D : Type 0} (g : Ghosts D) (limit : ℕ) (params : Params) (names : List (List ℕ)) (events : List Event) (number needed : ℕ) (outs left : List D) : Type 0 where
  pub within : number < length outs
  pub more : limit < needed
  pub full : IsLegal (written_part params names events (length outs) number) → (out : D) → slice_get left number ≡ Some out
      → IfSome (g.image out) (IsFullAt limit (written_part params names events (length outs) number) needed)

-- The parts are not all written: a call of an out failed, memory lacked, the next batch of one passes the limit, or the file
-- is refused. Parts of a history are refused for an out alone that does not tell its image.
abbrev pub StopsParts : {D : Type 0} → Ghosts D → ℕ → Params → List (List ℕ) → List Event → SplitStatus → List D → List D → Type 0
StopsParts g limit params names events status.Done outs left = ⊥
StopsParts g limit params names events status.DiskFault outs left = OneFails g outs left
StopsParts g limit params names events status.NoMemory outs left = Unit {0}
StopsParts g limit params names events (status.Refused why) outs left = MayBeParts params names events (length outs) → OneIsUntold g outs
StopsParts g limit params names events (status.Exists number) outs left = ⊥
StopsParts g limit params names events status.NoIndex outs left = ⊥
StopsParts g limit params names events (status.Full number needed) outs left = IsPartFull g limit params names events number needed outs left

-- what is left of each out
abbrev pub LeavesParts : {D : Type 0} → Ghosts D → Params → List (List ℕ) → List Event → SplitStatus → List D → List D → Type 0
LeavesParts g params names events s outs left =
    (broken : ℕ) × EachPair (λ number old new. IsLegal (written_part params names events (length outs) number)
    → BothTold (g.image old) (g.image new) (λ before after. is_blank before ≡ true → IsLeft (written_part params names events (length outs) number) s broken number before after)) outs left
