use Rattle.dg_graph.specs.Effect.{removed_by, added_by}
use Rattle.dg_event.proofs.EffectLaws.{undone}
use Rattle.dg_event.proofs.leads_back.Goals as goal

pub returns : goal.returns
returns c = λ set e h. undone set (removed_by e.body) (added_by e.body) h.is_set h.removed h.added
