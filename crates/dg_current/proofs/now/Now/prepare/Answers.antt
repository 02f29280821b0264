use Rattle.std.proofs.Common.{◌≡◌, sym, ap, ◌∙◌}
use Rattle.dg_current.specs.EventEffect.{Led, rewound}
use Rattle.dg_current.specs.HeldGraph.{HeldGraphState}
use Rattle.dg_current.specs.Now.{NowState}
use Rattle.dg_current.proofs.NowState.{led_back, led_again, held_alone, same_state}
use Rattle.dg_current.proofs.now.Now.prepare.Goals as goal
use Rattle.dg_current.proofs.now.Now.prepare.Goals.{After-complete_all}

-- what was held is the graph, since nothing was pending
start : (c : After-complete_all) → c.reserve.new.self.set ≡ c.args.self.now.graph
start c =
    c.in_ok-reserve.ensures.set ∙ ap (λ (h : HeldGraphState). h.set) c.in_ok-ready_for_changes.ensures
    ∙ held_alone c.self.inside.held.set c.args.self.now.graph c.self.inside.pending.items c.args.self.now.pending
    (ap (λ (s : NowState). s.graph) c.self.view_is) (ap (λ (s : NowState). s.pending) c.self.view_is) c.requires.none_pending

-- it still is, with the events undone
graph : (c : After-complete_all) → rewound c.complete_all.new.graph.set c.complete_all.new.events.items ≡ c.args.self.now.graph
graph c =
    led_back c.reserve.new.self.set c.complete_all.new.events.items c.complete_all.new.graph c.complete_all.ensures.led ∙ start c

led : (c : After-complete_all)
    → Led (rewound c.complete_all.new.graph.set c.complete_all.new.events.items) c.complete_all.new.events.items c.complete_all.new.graph
led c = led_again c.reserve.new.self.set c.complete_all.new.events.items c.complete_all.new.graph c.complete_all.ensures.led

pub invariant_of-self-in-Err : goal.invariant_of-self-in-Err
invariant_of-self-in-Err c = led (goal.at.invariant_of-self-in-Err c).After-complete_all

pub invariant_of-self-in_default : goal.invariant_of-self-in_default
invariant_of-self-in_default c = led (goal.at.invariant_of-self-in_default c).After-complete_all

pub returns-clause-same_graph : goal.returns-clause-same_graph
returns-clause-same_graph c = graph (goal.at.returns-clause-same_graph c).After-complete_all

pub returns-in-Err-clause-same_graph : goal.returns-in-Err-clause-same_graph
returns-in-Err-clause-same_graph c = c.abandon.ensures.graph ∙ graph (goal.at.returns-in-Err-clause-same_graph c).After-complete_all

pub returns-in-Err-clause-err : goal.returns-in-Err-clause-err
returns-in-Err-clause-err c =
    same_state c.abandon.new.self c.args.self.now
    (c.abandon.ensures.graph ∙ graph (goal.at.returns-in-Err-clause-err c).After-complete_all) (c.abandon.ensures.none ∙ sym c.requires.none_pending)
