-- The parts of a legal history make the whole.
use Rattle.std.proofs.Common.{◌≡◌, ℕ, List, [], ◌∷◌, map, refl, ap, ◌∙◌}
use Rattle.dg_graph.specs.declared.element.Columns.{Columns}
use Rattle.dg_graph.specs.declared.event.Event.{Event}
use Rattle.dg_graph.specs.DifferentialFunction.{all_of}
use Rattle.dg_graph.specs.Replay.{shown_at}
use Rattle.dg_history.specs.History.{History, events_of}
use Rattle.dg_history.specs.LegalHistory.{IsLegal}
use Rattle.dg_index.specs.Hierarchy.{numbers}
use Rattle.dg_partition.specs.HistoryParts.{part_of}
use Rattle.dg_partition.specs.Owners.{events_of_part}
use Rattle.dg_partition.specs.PartLaws.{PartsMakeTheWhole}
use Rattle.dg_partition.proofs.PartLegality.{events_of_cuts}
use Rattle.dg_partition.proofs.PartUnions.{parts_show}

each_shows : (z : History) → IsLegal z → (p t : ℕ) (cols : Columns) (ns : List ℕ)
    → map (λ i. shown_at (events_of (part_of z i p)) t cols) ns ≡ map (λ i. shown_at (events_of_part p i (events_of z)) t cols) ns
each_shows z legal p t cols [] = refl
each_shows z legal p t cols (i ∷ ns) =
    let here = ap (λ (es : List Event). shown_at es t cols) (events_of_cuts p i z legal) in
    let rest = each_shows z legal p t cols ns in
    λ k. here k ∷ rest k

pub parts_make_the_whole : PartsMakeTheWhole
parts_make_the_whole z legal p t cols some = ap all_of (each_shows z legal p t cols (numbers 0 p)) ∙ parts_show p (events_of z) t cols some
