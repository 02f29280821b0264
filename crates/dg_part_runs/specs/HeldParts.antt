-- What sessions over the parts of a history keep and stand for, and what is gathered of them.
use Rattle.std.specs.Prelude.{◌≡◌, ℕ, List, [], ◌∷◌, Option, Some, Result, Ok, IfErr, IfOk, if◌then◌else◌, is_some, map}
use Rattle.std.specs.List.{AllZip}
use Rattle.dg_ask.specs.HeldIndex.{span_held}
use Rattle.dg_gather.specs.declared.gathered.Gathered.{Gathered}
use Rattle.dg_gather.specs.Gathered.{shown_by}
use Rattle.dg_graph.specs.declared.element.Columns.{Columns}
use Rattle.dg_graph.specs.declared.element.Element.{Element}
use Rattle.dg_history.specs.History.{History, events_of}
use Rattle.dg_machine.specs.declared.limits.Limits.{Limits}
use Rattle.dg_machine.specs.declared.reply.Refusal.{Refusal}
use Rattle.dg_machine.specs.declared.reply.Refusal.TheVariants as refusal
use Rattle.dg_machine.specs.MachineState.{machine_at}
use Rattle.dg_partition.specs.PartRanges.{shown_within}
use Rattle.dg_records.specs.declared.fault.RecordFault.{RecordFault}
use Rattle.dg_records.specs.declared.fault.RecordFault.TheVariants as fault
use Rattle.dg_retrieval.specs.Retrieval.{IsNoDamage}
use Rattle.dg_session.specs.Session.{HoldsImage, StandsFor}
use Rattle.dg_session.specs.SessionStart.{IsNew}
use Rattle.dg_session.specs.SessionState.{SessionState}
use Rattle.dg_part_runs.specs.PartsMachine.{WeighsTogether, WeighsWithin, union_shown}
use Rattle.dg_part_runs.specs.PartTimes.{joined_all}

-- ---- one part

-- the session is new, has an index, and holds what the disk tells
pub record IsPart (limits : Limits) (session : SessionState) (told : Option (List ℕ)) : Type 0 where
  pub new : IsNew limits session.parts
  pub holds : HoldsImage session.parts told

-- the disk tells an image, and the session stands over it for the history
abbrev pub StandsForPart : Limits → SessionState → Option (List ℕ) → History → Type 0
StandsForPart limits session told z = (image : List ℕ) × (told ≡ Some image) × StandsFor session.parts image (machine_at limits (Some z))

-- the first and the last instant of the part, where it has an event
abbrev pub span_kept : SessionState → Option (ℕ × ℕ)
span_kept session = span_held session.parts.index

-- Where the session stands for a history: what is gathered shows what the history shows within its range, and weighs what
-- it weighs; and no damage is met.
pub record GathersPart (limits : Limits) (session : SessionState) (told : Option (List ℕ)) (t : ℕ) (cols : Columns) (r : Result Gathered RecordFault) : Type 0 where
  pub shown : (z : History) → StandsForPart limits session told z → IfOk r (λ g. shown_by g ≡ shown_within (events_of z) t cols)
  pub weighs : (z : History) → StandsForPart limits session told z → IfOk r (λ g. WeighsWithin limits t cols z g.weight)
  pub never : (z : History) → StandsForPart limits session told z → IfErr r IsNoDamage

-- the refusal that tells of what could not be read
abbrev pub refusal_for : RecordFault → Refusal
refusal_for fault.Disk = refusal.StoreRead
refusal_for (fault.Damaged key col) = refusal.Damaged key col
refusal_for fault.Memory = refusal.OutOfMemory

-- ---- all of them

-- each session is new, has an index, and holds what the disk of its number tells
abbrev pub AreParts : Limits → List SessionState → List (Option (List ℕ)) → Type 0
AreParts limits sessions told = AllZip (IsPart limits) sessions told

-- each stands for the history of its number
abbrev pub AreStanding : Limits → List SessionState → List (Option (List ℕ)) → List History → Type 0
AreStanding limits [] [] [] = Unit {0}
AreStanding limits (s ∷ sessions) (i ∷ told) (z ∷ parts) = StandsForPart limits s i z × AreStanding limits sessions told parts
AreStanding limits sessions told parts = ⊥

-- the names of the first that has an event, or these, where none has one
abbrev pub names_kept : List (List ℕ) → List SessionState → List (List ℕ)
names_kept none [] = none
names_kept none (s ∷ sessions) = if is_some (span_kept s) then s.parts.names else names_kept none sessions

-- the range of all of them
abbrev pub ends_kept : List SessionState → Option (ℕ × ℕ)
ends_kept sessions = joined_all (map span_kept sessions)

-- of each part this was gathered
abbrev pub AreGathered : Limits → ℕ → Columns → List SessionState → List (Option (List ℕ)) → List Gathered → Type 0
AreGathered limits t cols [] [] [] = Unit {0}
AreGathered limits t cols (s ∷ sessions) (i ∷ told) (g ∷ gathered) =
    GathersPart limits s i t cols (Ok g) × AreGathered limits t cols sessions told gathered
AreGathered limits t cols sessions told gathered = ⊥

-- Where the sessions stand for histories: the set is what these together show, with the sum of what they weigh; and no damage
-- is met.
pub record ReadsParts (limits : Limits) (sessions : List SessionState) (told : List (Option (List ℕ))) (t : ℕ) (cols : Columns) (r : Result (List Element × ℕ) RecordFault) : Type 0 where
  pub shown : (parts : List History) → AreStanding limits sessions told parts → IfOk r (λ x. x.0 ≡ union_shown parts t cols)
  pub weighs : (parts : List History) → AreStanding limits sessions told parts → IfOk r (λ x. WeighsTogether limits parts t cols x.1)
  pub never : (parts : List History) → AreStanding limits sessions told parts → IfErr r IsNoDamage

-- where the sessions stand for histories, no damage is met
abbrev pub NeverDamaged : {A : Type 0} → Limits → List SessionState → List (Option (List ℕ)) → Result A RecordFault → Type 0
NeverDamaged limits sessions told r = (parts : List History) → AreStanding limits sessions told parts → IfErr r IsNoDamage
