use Rattle.std.proofs.Common.{◌≡◌, ◌-◌, length, drop, take, ap, ◌∙◌, arith}
use Rattle.dg_index.specs.Hierarchy.{leaves}
use Rattle.dg_index.specs.IndexRecords.{deltas_due}
use Rattle.dg_verify.proofs.DeltaSegments.{between, lists_within, some_keys}
use Rattle.dg_verify.proofs.Outcomes.{if_ok}
use Rattle.dg_verify.proofs.due_deltas.delta_keys.Goals as goal

pub between-requires : goal.between-requires
between-requires c =
    omega (
      arith,
      c.deref.ensures.len,
      ap length c.deref.ensures.value,
      some_keys c.args.params c.args.events c.leaves-lists.result c.in_ok-keys.keys.items c.leaves-lists.ensures.leaves c.in_ok-keys.ensures,
      lists_within c.args.params c.args.events c.leaves-lists.result c.in_ok-keys.keys.items c.leaves-lists.ensures.leaves c.in_ok-keys.ensures,
    )

pub returns : goal.returns
returns c =
    let keys = c.in_ok-keys.keys.items in
    let lists = c.leaves-lists.result in
    let is : c.between.result.now ≡ deltas_due c.args.params.k 0 (leaves c.args.params c.args.events) =
    c.between.ensures ∙ (λ i. take (length (c.deref.ensures.value i) - 1 - lists) (drop lists (c.deref.ensures.value i)))
    ∙ between c.args.params c.args.events lists keys c.leaves-lists.ensures.leaves c.in_ok-keys.ensures in
    if_ok c.from_slice.result (λ made. made.items ≡ c.between.result.now) (λ made. made.items ≡ deltas_due c.args.params.k 0 (leaves c.args.params c.args.events)) (λ made e. e ∙ is) c.from_slice.ensures.items
