-- How the tops and downs of an index are compared with those that are due: each kind by itself, in the order of the
-- heights and nodes.
use Rattle.std.specs.Prelude.{◌≡◌, ℕ, Bool, true, false, List, [], ◌∷◌, Option, None, Result, IfErr, IfOk, if◌then◌else◌, length, map}
use Rattle.dg_build.specs.declared.fault.BuildFault.{BuildFault}
use Rattle.dg_build.specs.declared.fault.BuildFault.TheVariants.{Memory}
use Rattle.dg_graph.specs.declared.element.Column.{Column}
use Rattle.dg_graph.specs.declared.event.Event.{Event}
use Rattle.dg_graph.specs.ExactEvents.{AreChangesOf}
use Rattle.dg_history.specs.declared.node.Key.{Key}
use Rattle.dg_history.specs.declared.node.Key.TheVariants as key
use Rattle.dg_history.specs.declared.params.Params.{Params}
use Rattle.dg_index.specs.FileOfHistory.{Stored, stored}
use Rattle.dg_index.specs.Hierarchy.{leaves}
use Rattle.dg_index.specs.IndexRecords.{deltas_due, record_among}
use Rattle.dg_index.specs.OpenedIndex.{Opening}
use Rattle.dg_sound.specs.Soundness.{or_later}
use Rattle.dg_verify.specs.declared.deltas.DeltaKind.{DeltaKind}
use Rattle.dg_verify.specs.declared.deltas.DeltaKind.TheVariants as delta
use Rattle.dg_verify.specs.declared.due_deltas.DueDeltas.{DueDeltas}
use Rattle.dg_verify.specs.Verification.{unlike}

-- These tops and downs were made of the events. Where each of the events is exact after those before it, they are those
-- that are due, and there are none only for want of memory.
pub record AreMadeOf (params : Params) (events : List Event) (made : Result DueDeltas BuildFault) : Type 0 where
  pub keys : IfOk made (λ due. due.keys.items ≡ deltas_due params.k 0 (leaves params (length events)))
  pub deltas : IfOk made (λ due. AreChangesOf [] events → due.segment.deltas ≡ map (λ k. stored (record_among params events [] k)) due.keys.items)
  pub fault : IfErr made (λ fault. AreChangesOf [] events → fault ≡ Memory)

abbrev pub has_kind : DeltaKind → Key → Bool
has_kind delta.Top (key.Top h) = true
has_kind delta.Top (key.List i) = false
has_kind delta.Top (key.Piece s) = false
has_kind delta.Top (key.Down h c) = false
has_kind delta.Down (key.Down h c) = true
has_kind delta.Down (key.List i) = false
has_kind delta.Down (key.Piece s) = false
has_kind delta.Down (key.Top h) = false

-- the first column of the record that is none of these, where the record is of the kind
abbrev pub unlike_of : List ℕ → Opening → DeltaKind → Key → Stored → Option Column
unlike_of image o kind k due = if has_kind kind k then unlike image o k due else None

-- the first of the records of the kind that has other columns than these, and its first such column
abbrev pub first_unlike : List ℕ → Opening → DeltaKind → List Key → List Stored → Option (Key × Column)
first_unlike image o kind [] due = None
first_unlike image o kind (k ∷ keys) [] = None
first_unlike image o kind (k ∷ keys) (s ∷ due) =
    or_later k (unlike_of image o kind k s) (first_unlike image o kind keys due)
