-- The deltas that a batch gives, among the keys of its segment.
use Rattle.std.proofs.Common.{◌≡◌, ℕ, ◌+◌, ◌-◌, ◌<◌, List as ListOf, [], ◌∷◌, ◌++◌, Some, length, get_or, slice_get, refl, sym, ap, ◌∙◌, arith, length-append}
use Rattle.std.proofs.lemmas.List.{get_or_append_left, get_or-append-add, length-map}
use Rattle.std.proofs.lemmas.Option.{slice_get_read}
use Rattle.dg_append.specs.OlderGroups.{leaves_after, leaves_before}
use Rattle.dg_history.specs.declared.node.Key.{Key}
use Rattle.dg_history.specs.declared.node.Key.TheVariants as key
use Rattle.dg_history.specs.declared.params.Params.{Params}
use Rattle.dg_index.specs.Hierarchy.{leaves, numbers}
use Rattle.dg_index.specs.IndexRecords.{deltas_due, lists_due}
use Rattle.dg_index.specs.OpenedIndex.{Opening, event_total}
use Rattle.dg_index.proofs.HierarchyCounts.{numbers_length}

-- the keys of the segment of so many events behind so many
abbrev pub keys_behind : Params → ℕ → ℕ → ListOf Key
keys_behind p before count = lists_due p before (before + count) ++ (deltas_due p.k (leaves p before) (leaves p (before + count)) ++ key.Piece 0 ∷ [])

lists_long : (p : Params) (before count : ℕ) → length (lists_due p before (before + count)) ≡ leaves p (before + count) - leaves p before
lists_long p before count =
    length-map (numbers (leaves p before) (leaves p (before + count) - leaves p before)) (λ i. key.List i) ∙ numbers_length (leaves p before) (leaves p (before + count) - leaves p before)

module _ (o : Opening) (count delta_index : ℕ) (within : delta_index < length (deltas_due o.params.k (leaves_before o) (leaves_after o count))) (p : Params) (before : ℕ) (keys : ListOf Key) (after_leaves before_leaves : ℕ)
    (params : p ≡ o.params) (events : before ≡ event_total o.batches) (are : keys ≡ keys_behind p before count)
    (after_is : after_leaves ≡ leaves p (before + count)) (before_is : before_leaves ≡ leaves p before) where
  keys_are : keys ≡ lists_due o.params (event_total o.batches) (event_total o.batches + count) ++ (deltas_due o.params.k (leaves_before o) (leaves_after o count) ++ key.Piece 0 ∷ [])
  keys_are = are ∙ (λ i. keys_behind (params i) (events i) count)

  first : after_leaves - before_leaves ≡ length (lists_due o.params (event_total o.batches) (event_total o.batches + count))
  first = (λ i. after_is i - before_is i) ∙ (λ i. leaves (params i) (events i + count) - leaves (params i) (events i)) ∙ sym (lists_long o.params (event_total o.batches) count)

  -- its index is among the keys
  pub delta_index_within : after_leaves - before_leaves + delta_index < length keys
  delta_index_within =
      omega (
        arith,
        first,
        within,
        ap length keys_are,
        length-append (lists_due o.params (event_total o.batches) (event_total o.batches + count)) (deltas_due o.params.k (leaves_before o) (leaves_after o count) ++ key.Piece 0 ∷ []),
        length-append (deltas_due o.params.k (leaves_before o) (leaves_after o count)) (key.Piece 0 ∷ []),
      )

  -- and the key there is that of the delta with this index
  pub delta_there : (x : Key) → x ≡ get_or keys (after_leaves - before_leaves + delta_index) x → slice_get (deltas_due o.params.k (leaves_before o) (leaves_after o count)) delta_index ≡ Some x
  delta_there x is =
      slice_get_read (deltas_due o.params.k (leaves_before o) (leaves_after o count)) (length (deltas_due o.params.k (leaves_before o) (leaves_after o count))) delta_index x refl within
      (is ∙ (λ i. get_or (keys_are i) (first i + delta_index) x)
      ∙ get_or-append-add (lists_due o.params (event_total o.batches) (event_total o.batches + count)) (deltas_due o.params.k (leaves_before o) (leaves_after o count) ++ key.Piece 0 ∷ []) delta_index x
      ∙ get_or_append_left (deltas_due o.params.k (leaves_before o) (leaves_after o count)) (key.Piece 0 ∷ []) x delta_index within)
