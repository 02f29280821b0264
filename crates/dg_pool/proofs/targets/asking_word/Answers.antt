use Rattle.std.proofs.Common.{get_or, sym, subst}
use Rattle.dg_graph.specs.declared.element.Column.{Column}
use Rattle.dg_graph.specs.declared.element.Column.TheVariants as column
use Rattle.dg_pool.specs.Changes.{numbers_of, IsMarkedWord}
use Rattle.dg_pool.specs.Masks.{is_asking}
use Rattle.dg_pool.proofs.WordSlots.{marked_word}
use Rattle.dg_pool.proofs.targets.asking_word.Goals as goal

pub returns-in-Structure : goal.returns-in-Structure
returns-in-Structure c =
    let t = c.args.targets.now in
    subst (λ (k : Column). IsMarkedWord (is_asking k) t.states.now (numbers_of t.slots.now) c.args.word (get_or t.structure c.args.word 0)) (sym c.in-Structure.is)
    (marked_word (is_asking column.Structure) t.states.now (numbers_of t.slots.now) t.structure c.requires.targets.structure c.args.word c.requires.word)

pub returns-in-NodeAttr : goal.returns-in-NodeAttr
returns-in-NodeAttr c =
    let t = c.args.targets.now in
    subst (λ (k : Column). IsMarkedWord (is_asking k) t.states.now (numbers_of t.slots.now) c.args.word (get_or t.node_attr c.args.word 0)) (sym c.in-NodeAttr.is)
    (marked_word (is_asking column.NodeAttr) t.states.now (numbers_of t.slots.now) t.node_attr c.requires.targets.node_attr c.args.word c.requires.word)

pub returns-in-EdgeAttr : goal.returns-in-EdgeAttr
returns-in-EdgeAttr c =
    let t = c.args.targets.now in
    subst (λ (k : Column). IsMarkedWord (is_asking k) t.states.now (numbers_of t.slots.now) c.args.word (get_or t.edge_attr c.args.word 0)) (sym c.in-EdgeAttr.is)
    (marked_word (is_asking column.EdgeAttr) t.states.now (numbers_of t.slots.now) t.edge_attr c.requires.targets.edge_attr c.args.word c.requires.word)

pub returns-in-Transient : goal.returns-in-Transient
returns-in-Transient c =
    let t = c.args.targets.now in
    subst (λ (k : Column). IsMarkedWord (is_asking k) t.states.now (numbers_of t.slots.now) c.args.word (get_or t.transient c.args.word 0)) (sym c.in-Transient.is)
    (marked_word (is_asking column.Transient) t.states.now (numbers_of t.slots.now) t.transient c.requires.targets.transient c.args.word c.requires.word)
