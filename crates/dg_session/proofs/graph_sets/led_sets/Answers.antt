use Rattle.std.proofs.Common.{◌≡◌, ◌+◌, ◌++◌, ℕ, List, length, ◌∙◌, ap, arith, rules}
use Rattle.dg_batch.specs.Held.{graphs_held}
use Rattle.dg_fold.specs.declared.writing.Writing.{Writing}
use Rattle.dg_fold.specs.Writings.{composed_all, written_for}
use Rattle.dg_graph.specs.Composition.{applied}
use Rattle.dg_graph.specs.declared.element.Element.{Element}
use Rattle.dg_graph.specs.Elements.{shown}
use Rattle.dg_handles.specs.Handles.{held_by}
use Rattle.dg_retrieval.specs.Beginnings.{begun_with}
use Rattle.dg_session.proofs.GraphSets.{graph_more, graphs_done, graphs_from}
use Rattle.dg_session.proofs.graph_sets.led_sets.Goals as goal

pub loop-i-preserved : goal.loop-i-preserved
loop-i-preserved c =
    let h = c.args.held.now in
    let now : List Element = h.live.history.now.graph in
    let held : ℕ → List Element = held_by h.handles.table (graphs_held h) in
    let cols = c.args.cols in
    let begins = c.args.leads.now.begins.items in
    let writings = c.args.leads.now.writings.items in
    let i : ℕ = c.loop-i.i in
    let many : c.len-i-end.result ≡ length begins = search rules in
    let led : c.in_ok-set.set ≡ shown (applied (composed_all (written_for i writings)) c.in_ok-begun.begun) cols =
    c.in_ok-set.ensures ∙ ap (λ (ws : List Writing). shown (applied (composed_all (written_for i ws)) c.in_ok-begun.begun) cols) c.deref.ensures.value in
    ap (λ (l : List (List Element)). l ++ graphs_from now held cols begins writings (i + 1)) c.in_ok-push.ensures.items
    ∙ graph_more now held cols begins writings i c.index.result.now c.loop-i.sets.items c.in_ok-set.set c.in_ok-begun.begun (omega (arith, c.loop-i-test.true, many))
    (c.in_ok-begun.ensures ∙ ap (begun_with now held) c.index.ensures) led c.loop-i.invariant

pub returns : goal.returns
returns c =
    let h = c.args.held.now in
    let begins = c.args.leads.now.begins.items in
    let many : c.len-i-end.result ≡ length begins = search rules in
    graphs_done h.live.history.now.graph (held_by h.handles.table (graphs_held h)) c.args.cols begins c.args.leads.now.writings.items c.loop-i.i c.loop-i.sets.items (omega (arith, c.loop-i-test.false, many)) c.loop-i.invariant
