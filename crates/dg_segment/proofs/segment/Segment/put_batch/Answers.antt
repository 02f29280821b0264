use Rattle.std.proofs.Common.{ℕ, List, ◌++◌, length, ap, ◌∙◌}
use Rattle.std.specs.List.{flat_map}
use Rattle.dg_graph.specs.Columns.{eight, four}
use Rattle.dg_index.specs.FileOfHistory.{name_bytes, Segment}
use Rattle.dg_segment.specs.DirectoryParts.{batch_text}
use Rattle.dg_segment.proofs.DirectoryPartTexts.{five_put}
use Rattle.dg_segment.proofs.segment.Segment.put_batch.Goals as goal

pub returns : goal.returns
returns c =
    let o : List ℕ = c.args.into.now.items in
    let events : List ℕ = eight c.self.inside.events in
    let first : List ℕ = eight c.self.inside.first in
    let last : List ℕ = eight c.self.inside.last in
    let names : List ℕ = flat_map name_bytes c.self.inside.names in
    c.in_ok-extend_from_slice.ensures.items
    ∙ (λ i. (c.in_ok-put_count.ensures ∙ ap (λ (l : List ℕ). l ++ four c.count.result)
    (c.in_ok-put_number-3.ensures ∙ ap (λ (l : List ℕ). l ++ last) (c.in_ok-put_number-2.ensures ∙ ap (λ (l : List ℕ). l ++ first) c.in_ok-put_number.ensures))) i ++ c.bytes.ensures i)
    ∙ ap (λ n. ((((o ++ events) ++ first) ++ last) ++ four n) ++ names) c.count.ensures
    ∙ five_put o events first last (four (length c.self.inside.names)) names
    ∙ ap (λ (v : Segment). o ++ batch_text v) c.self.view_is
