use Rattle.std.proofs.Common.{◌≡◌, ℕ, ◌+◌, ◌-◌, ◌<◌, length, Some, sym, subst, arith}
use Rattle.std.specs.Prelude.{slice_get, slice_set, slice_index_or}
use Rattle.std.proofs.lemmas.List.{get_or_read}
use Rattle.std.proofs.lemmas.Option.{slice_get-get_or}
use Rattle.dg_path.specs.declared.search.Link.{Link}
use Rattle.dg_path.specs.Search.{AreThreaded, end_of}
use Rattle.dg_path.proofs.SearchThreads.{one_threaded, end_within}
use Rattle.dg_path.proofs.adjacency.thread.Goals as goal

pub loop-i-preserved : goal.loop-i-preserved
loop-i-preserved c =
    let links = c.args.links.now in
    let leaving = c.args.leaving in
    let i : ℕ = c.loop-i.i - 1 in
    let link : Link = slice_index_or links i (record { tail = 0; head = 0; weight = 0 }) in
    let low : i < length links = (let a = c.loop-i.auto.i in let b = c.loop-i-test.true in omega arith) in
    let there : slice_get links i ≡ Some link = slice_get-get_or links i _ low in
    let within : end_of leaving link < c.args.nodes = end_within leaving c.args.nodes link (c.requires.links i _ low) in
    let before : AreThreaded leaving links c.loop-i.first.items c.loop-i.next.items c.args.nodes (i + 1) =
    subst (AreThreaded leaving links c.loop-i.first.items c.loop-i.next.items c.args.nodes) (let b = c.loop-i-test.true in omega arith) c.loop-i.invariant in
    let done = one_threaded leaving links c.loop-i.first.items c.loop-i.next.items c.args.nodes i link c.requires.few there within before in
    let node : end_of leaving link ≡ c.end-node.result = sym c.end-node.ensures in
    let in_first : c.end-node.result < length c.loop-i.first.items = (let h = c.loop-i.invariant.firsts in let e = node in omega arith) in
    let read : slice_index_or c.loop-i.first.items c.end-node.result 0 ≡ c.index.result.now = sym (get_or_read c.loop-i.first.items c.end-node.result c.index.result.now in_first c.index.ensures 0) in
    subst (λ x. AreThreaded leaving links (slice_set c.loop-i.first.items c.end-node.result i) (slice_set c.loop-i.next.items i x) c.args.nodes i) read
    (subst (λ v. AreThreaded leaving links (slice_set c.loop-i.first.items v i) (slice_set c.loop-i.next.items i (slice_index_or c.loop-i.first.items v 0)) c.args.nodes i) node done)
