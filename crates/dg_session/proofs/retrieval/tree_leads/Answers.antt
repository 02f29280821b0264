use Rattle.std.proofs.Common.{List, sym, ◌∙◌, subst}
use Rattle.std.specs.Prelude.{IfOk, IfSome}
use Rattle.std.specs.List.{All, Contains}
use Rattle.dg_graph.specs.declared.element.Element.{Element}
use Rattle.dg_history.specs.declared.node.NodeId.{NodeId}
use Rattle.dg_history.specs.History.{History}
use Rattle.dg_index.specs.OpenedIndex.{Opening, event_total}
use Rattle.dg_retrieval.specs.Calls.{IsRetrieval, RetrievesOver, TellsDamage}
use Rattle.dg_retrieval.specs.KeptGraph.{kept_nodes}
use Rattle.dg_retrieval.specs.Retrieval.{IsOver}
use Rattle.dg_session.proofs.SessionRetrievals.{points_there}
use Rattle.dg_session.proofs.retrieval.tree_leads.Goals as goal

pub retrieve-requires-clause-targets : goal.retrieve-requires-clause-targets
retrieve-requires-clause-targets g c =
    let o : Opening = c.args.from.now.index.now.opening in
    subst (λ (ns : List NodeId). All (Contains ns) c.deref.result.now) (sym c.requires.nodes)
    (subst (λ (ts : List NodeId). All (Contains (kept_nodes o (event_total o.batches) c.args.from.now.cols)) ts) (sym (c.deref.ensures.value ∙ c.in_ok-targets.ensures))
    (points_there o c.args.from.now.recent.now c.args.from.now.cols c.args.times.now (record { parameters = c.facts.ensures.parameters; kept = c.facts.ensures.kept; few = c.facts.ensures.few }) c.requires.there))

pub returns-clause-done : goal.returns-clause-done
returns-clause-done g c =
    subst (λ (targets : List NodeId). IfOk c.retrieve.result (IsRetrieval c.args.from.now.name_count c.args.from.now.recent.now c.args.from.now.planner.now.edges targets)) (c.deref.ensures.value ∙ c.in_ok-targets.ensures) c.retrieve.ensures.done

pub returns-clause-over : goal.returns-clause-over
returns-clause-over g c =
    let Over : List NodeId → Type 0 = λ targets. IfSome (g.D.Disk.image c.args.disk.now) (λ image. (z : History) (now : List Element)
    → IsOver z image c.args.from.now.index.now.opening c.args.from.now.name_count now c.args.from.now.recent.now
    → RetrievesOver z now c.args.from.now.planner.now.edges c.args.from.now.cols targets c.args.times.now (g.D.Disk.taken c.args.disk.now) (g.D.Disk.taken c.retrieve.new.disk) c.retrieve.result) in
    subst Over (c.deref.ensures.value ∙ c.in_ok-targets.ensures) c.retrieve.ensures.over

pub returns-clause-damage : goal.returns-clause-damage
returns-clause-damage g c =
    let Damage : List NodeId → Type 0 = λ targets. IfSome (g.D.Disk.image c.args.disk.now)
    (λ image. TellsDamage c.args.from.now.name_count c.args.from.now.planner.now.edges c.args.from.now.index.now.opening c.args.from.now.cols targets image c.retrieve.result) in
    subst Damage (c.deref.ensures.value ∙ c.in_ok-targets.ensures) c.retrieve.ensures.damage
