use Rattle.std.proofs.Common.{arith}
use Rattle.dg_append.proofs.OlderGroupDeltas.{delta_there, delta_index_within}
use Rattle.dg_append.proofs.segment.delta_key.Goals as goal

pub index-requires : goal.index-requires
index-requires c =
    omega (
      arith,
      delta_index_within c.args.index.now.opening c.args.count c.args.delta_index c.requires.delta_index c.params-params.result c.events_len-events.result c.in_ok-keys.keys.items c.leaves.result c.leaves-2.result
          c.params-params.ensures c.events_len-events.ensures.events c.in_ok-keys.ensures c.leaves.ensures.leaves c.leaves-2.ensures.leaves,
    )

pub returns : goal.returns
returns c =
    delta_there c.args.index.now.opening c.args.count c.args.delta_index c.requires.delta_index c.params-params.result c.events_len-events.result c.in_ok-keys.keys.items c.leaves.result c.leaves-2.result
    c.params-params.ensures c.events_len-events.ensures.events c.in_ok-keys.ensures c.leaves.ensures.leaves c.leaves-2.ensures.leaves c.index.result.now c.index.ensures
