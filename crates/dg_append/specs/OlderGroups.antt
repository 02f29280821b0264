-- The older children of the interior nodes that a batch completes, as they are read: in groups, each by one tree.
use Rattle.std.specs.Prelude.{◌≡◌, ◌⊎◌, ℕ, zero, suc, ◌+◌, ◌-◌, ◌/◌, List as ListOf, [], ◌∷◌, Result, Ok, Err, length, take, drop}
use Rattle.std.specs.List.{Contains}
use Rattle.dg_append.specs.declared.older_sets.TheConstants.{GROUP_MAX}
use Rattle.dg_graph.specs.declared.element.Column.{Column}
use Rattle.dg_graph.specs.declared.element.Column.TheVariants.{Structure}
use Rattle.dg_history.specs.declared.node.Key.{Key}
use Rattle.dg_history.specs.declared.node.NodeId.{NodeId}
use Rattle.dg_index.specs.Hierarchy.{leaves}
use Rattle.dg_index.specs.IndexRecords.{deltas_due}
use Rattle.dg_index.specs.OlderNodes.{older}
use Rattle.dg_index.specs.OpenedIndex.{Opening, event_total}
use Rattle.dg_plan.specs.HistoryGraph.{all_columns}
use Rattle.dg_records.specs.declared.fault.RecordFault.{RecordFault}
use Rattle.dg_records.specs.declared.fault.RecordFault.TheVariants as fault
use Rattle.dg_retrieval.specs.KeptGraph.{record_edges}
use Rattle.dg_retrieval.specs.NodeSets.{IsUndamaged}
use Rattle.dg_retrieval.specs.Retrieval.{IsFirstDamage}

-- the numbers of leaves before and after a batch of so many events behind the index
abbrev pub leaves_before : Opening → ℕ
leaves_before o = leaves o.params (event_total o.batches)

abbrev pub leaves_after : Opening → ℕ → ℕ
leaves_after o count = leaves o.params (event_total o.batches + count)

-- the older children of the interior nodes that such a batch completes, by height and number
abbrev pub older_children : Opening → ℕ → ListOf NodeId
older_children o count = older o.params.k (leaves_before o) (leaves_after o count)

-- the first so many groups of these nodes, each of at most this size
abbrev pub groups : ℕ → ℕ → ListOf NodeId → ListOf (ListOf NodeId)
groups size zero nodes = []
groups size (suc count) nodes = take size nodes ∷ groups size count (drop size nodes)

-- all of them in groups
abbrev pub in_groups : ListOf NodeId → ListOf (ListOf NodeId)
in_groups nodes = groups GROUP_MAX ((length nodes + (GROUP_MAX - 1)) / GROUP_MAX) nodes

-- In the first group that has damage this is the first: where this is the image, the trees of the groups before it
-- enter no damaged column.
abbrev pub IsDamageOfGroups : ℕ → Opening → ListOf ℕ → ListOf (ListOf NodeId) → Key → Column → Type 0
IsDamageOfGroups name_count o image [] key col = ⊥
IsDamageOfGroups name_count o image (g ∷ more) key col =
    IsFirstDamage name_count (record_edges o) o all_columns g image (fault.Damaged key col)
    ⊎ (IsUndamaged name_count (record_edges o) o all_columns g image × IsDamageOfGroups name_count o image more key col)

-- the same of a fault of reading the sets group after group; of a failed read and of want of memory nothing is said
abbrev pub IsFirstOfGroups : ℕ → Opening → ListOf ℕ → ListOf (ListOf NodeId) → RecordFault → Type 0
IsFirstOfGroups name_count o image all fault.Disk = Unit {0}
IsFirstOfGroups name_count o image all (fault.Damaged key col) = IsDamageOfGroups name_count o image all key col
IsFirstOfGroups name_count o image all fault.Memory = Unit {0}

-- where this is the image, the trees of all these groups enter no damaged column
abbrev pub AreUndamaged : ℕ → Opening → ListOf ℕ → ListOf (ListOf NodeId) → Type 0
AreUndamaged name_count o image [] = Unit {0}
AreUndamaged name_count o image (g ∷ more) = IsUndamaged name_count (record_edges o) o all_columns g image × AreUndamaged name_count o image more

-- What a call that reads the sets of these nodes tells of damage in this image: what is given has met none; a fault that
-- is damage names the first.
abbrev pub TellsGroupDamage : {A : Type 0} → ℕ → Opening → ListOf ℕ → ListOf NodeId → Result A RecordFault → Type 0
TellsGroupDamage name_count o image nodes (Ok r) = AreUndamaged name_count o image (in_groups nodes)
TellsGroupDamage name_count o image nodes (Err f) = IsFirstOfGroups name_count o image (in_groups nodes) f

-- the key is that of a delta that such a batch gives
abbrev pub IsDueDelta : Opening → ℕ → Key → Type 0
IsDueDelta o count key = Contains (deltas_due o.params.k (leaves_before o) (leaves_after o count)) key

-- Why a batch of so many events names this column as damaged: it is the first that the trees of the older children
-- enter; or all these are whole, and it is the structure of a delta that is due.
abbrev pub IsBatchDamage : ℕ → Opening → ListOf ℕ → ℕ → Key → Column → Type 0
IsBatchDamage name_count o image count key col =
    IsDamageOfGroups name_count o image (in_groups (older_children o count)) key col
    ⊎ (AreUndamaged name_count o image (in_groups (older_children o count)) × (col ≡ Structure) × IsDueDelta o count key)
