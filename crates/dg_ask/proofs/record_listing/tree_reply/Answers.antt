use Rattle.std.proofs.Common.{◌≡◌, ℕ, ◌/◌, length, map, ◌∙◌, ap, rules}
use Rattle.std.proofs.lemmas.List.{length-map}
use Rattle.dg_index.specs.Hierarchy.{leaves}
use Rattle.dg_index.specs.IndexRecords.{keys_of}
use Rattle.dg_index.specs.OpenedIndex.{Opening, event_total}
use Rattle.dg_machine.specs.declared.reply.Head.TheVariants as head
use Rattle.dg_machine.specs.declared.reply.Reply.TheVariants as replied
use Rattle.dg_retrieval.specs.KeptGraph.{shape_with}
use Rattle.dg_catalogue.specs.declared.shape.Shape.{Shape}
use Rattle.dg_catalogue.specs.Shapes.{made_with}
use Rattle.dg_ask.specs.RecordListing.{held_line}
use Rattle.dg_ask.proofs.record_listing.tree_reply.Goals as goal

pub returns : goal.returns
returns c =
    let o : Opening = c.args.index.now.opening in
    let n : ℕ = event_total o.batches in
    let many : c.events_len-events.result ≡ n = c.events_len-events.ensures.events in
    let shape_is : c.shape_of-shape.result ≡ shape_with o.params n = c.shape_of-shape.ensures in
    let lines_are : c.in_ok-lines.lines.items ≡ map (held_line o.records) (keys_of o.params n) =
    c.in_ok-lines.ensures o.params.function
    ∙ (λ i. map (held_line (c.catalogue.ensures.entries i)) (keys_of (made_with o.params.function (shape_is i)) (shape_is i).events)) in
    let held : c.len.result ≡ length c.in_ok-lines.lines.items = search rules in
    let count : c.len.result ≡ length (keys_of o.params n) = held ∙ ap length lines_are ∙ length-map (keys_of o.params n) (held_line o.records) in
    let leaves_are : c.leaves.result ≡ leaves o.params n = c.leaves.ensures.leaves o.params.function ∙ ap (λ (s : Shape). s.events / s.l) shape_is in
    λ i. replied.Answered (head.Tree (c.params-l.ensures i).l (c.params-l.ensures i).k (c.params-l.ensures i).function (many i) (leaves_are i) (count i)) ((c.from_vec.ensures ∙ lines_are) i)
