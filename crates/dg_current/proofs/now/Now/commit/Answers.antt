use Rattle.std.proofs.Common.{◌≡◌, ◌∙◌, Global, List, Vec, [], ap, sym, subst}
use Rattle.dg_graph.specs.declared.event.Event.{Event}
use Rattle.dg_current.specs.EventEffect.{Led, rewound}
use Rattle.dg_current.proofs.EventEffect.{led_is_graph}
use Rattle.dg_current.proofs.NowState.{led_none}
use Rattle.dg_current.proofs.now.Now.commit.Goals as goal

pub invariant_of-self : goal.invariant_of-self
invariant_of-self c =
    let held = c.self.inside.held in
    let events = c.self.inside.pending.items in
    let none : [] ≡ c.replace.new.dest.items = sym (ap (λ (v : Vec Event Global). v.items) c.replace.ensures.after ∙ c.new-none.ensures.items) in
    subst (λ (es : List Event). Led (rewound held.set es) es held) none
    (led_none held (led_is_graph (rewound held.set events) events held c.self.invariant))
