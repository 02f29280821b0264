use Rattle.std.proofs.Common.{List, ap, ◌∙◌}
use Rattle.dg_graph.specs.declared.event.Event.{Event}
use Rattle.dg_graph.specs.Replay.{shown_at}
use Rattle.dg_history.specs.History.{events_of}
use Rattle.dg_partition.proofs.PartLegality.{events_of_cuts}
use Rattle.dg_partition.proofs.PartUnions.{part_shows}
use Rattle.dg_partition.proofs.laws.law_parts_show_their_elements.Goals as goal

pub returns : goal.returns
returns c = λ z legal i p t cols. ap (λ (es : List Event). shown_at es t cols) (events_of_cuts p i z legal) ∙ part_shows p i (events_of z) t cols
