-- What sessions that were started over parts are, and which of them stops the start.
use Rattle.std.specs.Prelude.{◌≡◌, ◌≢◌, ℕ, false, true, List, [], Option, None, Err, IfSome, is_some}
use Rattle.std.specs.List.{AllZip}
use Rattle.dg_history.specs.History.{History}
use Rattle.dg_machine.specs.declared.limits.Limits.{Limits}
use Rattle.dg_session.specs.declared.session_fault.SessionFault.{SessionFault}
use Rattle.dg_session.specs.SessionStart.{Begins}
use Rattle.dg_session.specs.SessionState.{SessionState}
use Rattle.dg_part_runs.specs.declared.sessions.PartSessions.{PartSessions}
use Rattle.dg_part_runs.specs.declared.status.PartsStatus.{PartsStatus}
use Rattle.dg_part_runs.specs.declared.status.PartsStatus.TheVariants as status
use Rattle.dg_part_runs.specs.HeldParts.{IsPart, StandsForPart, span_kept}
use Rattle.dg_part_runs.specs.PartDamage.{BeginsWith}
use Rattle.dg_part_runs.specs.PartStarts.{AreTold, IsFirstTo, MayBegin, StartsSo}
use Rattle.dg_part_runs.specs.PartsServed.{AreImagesOf, TellsHistory}
use Rattle.dg_part_runs.specs.PartsStatuses.{is_run}

-- the session was started over what the disk tells
pub record IsStarted (limits : Limits) (session : SessionState) (told : Option (List ℕ)) : Type 0 where
  pub part : IsPart limits session told
  pub began : IfSome told (BeginsWith session)
  pub stands : (z : History) → TellsHistory told z → StandsForPart limits session told z

abbrev pub AreStarted : Limits → List SessionState → List (Option (List ℕ)) → Type 0
AreStarted limits sessions told = AllZip (IsStarted limits) sessions told

-- what the disk tells does not begin, for this reason, and is the image of no history
pub record IsRefused (fault : SessionFault) (told : Option (List ℕ)) : Type 0 where
  pub why : IfSome told (λ image. Begins false image (Err fault))
  pub never : (z : History) → TellsHistory told z → ⊥

-- a part does not begin, the first such; or the disk failed, or memory lacked
abbrev pub StopsAt : List (Option (List ℕ)) → PartsStatus → Type 0
StopsAt told (status.Refused part fault) = IsFirstTo (IsRefused fault) (λ image. IfSome image MayBegin) told part
StopsAt told status.DiskFault = Unit {0}
StopsAt told status.NoMemory = Unit {0}
StopsAt told s = ⊥

-- the session has no index; and it has one
abbrev pub LacksIndex : SessionState → Type 0
LacksIndex s = s.parts.index ≡ None

abbrev pub KeepsIndex : SessionState → Type 0
KeepsIndex s = is_some s.parts.index ≡ true

-- the part has an event, and other names than these; and it has none, or these names
abbrev pub DiffersKept : List (List ℕ) → SessionState → Type 0
DiffersKept names s = (is_some (span_kept s) ≡ true) × (s.parts.names ≢ names)

abbrev pub AgreesKept : List (List ℕ) → SessionState → Type 0
AgreesKept names s = is_some (span_kept s) ≡ true → s.parts.names ≡ names

-- These sessions were started over the parts, each has an index and names that agree, and there is no handle yet.
pub record AreBegun (limits : Limits) (told : List (Option (List ℕ))) (s : PartSessions) : Type 0 where
  pub started : AreStarted limits s.sessions.items told
  pub starts : (images : List (List ℕ)) → AreTold told images → StartsSo images status.Done
  pub sets : s.handles.sets ≡ []
  pub next : s.handles.next ≡ limits.first_handle
  pub nameless : s.nameless ≡ []

-- No run begins over the parts, for this reason.
pub record AreNotBegun (told : List (Option (List ℕ))) (s : PartsStatus) : Type 0 where
  pub unbegun : is_run s ≡ false
  pub starts : (images : List (List ℕ)) → AreTold told images → StartsSo images s
  pub never_refused : (parts : List History) → AreImagesOf told parts → (part : ℕ) (fault : SessionFault) → s ≡ status.Refused part fault → ⊥
  pub never_blank : (parts : List History) → AreImagesOf told parts → (part : ℕ) → s ≡ status.NoIndex part → ⊥
