use Rattle.std.proofs.Common.{get_or, sym, ◌≡◌, ◌∙◌, subst, IfSome, Option}
use Rattle.dg_cells.specs.Rows.{Row, is_current}
use Rattle.dg_pool.specs.Graphs.{is_on_now}
use Rattle.dg_pool.specs.Changes.{numbers_of, base_has}
use Rattle.dg_pool.proofs.WordSlots.{marked_word, base_now, base_not_now, base_none}
use Rattle.dg_pool.proofs.targets.base_word.Goals as goal

pub returns-then-targets : goal.returns-then-targets
returns-then-targets c = λ r there.
    let t = c.args.targets.now in
    marked_word (base_has r) t.states.now (numbers_of t.slots.now) c.bases_each.result (c.bases_each.ensures r there) c.args.word c.requires.word

pub returns-then-on_now-eq0 : goal.returns-then-on_now-eq0
returns-then-on_now-eq0 c = λ r there.
    let t = c.args.targets.now in
    base_none r t.states.now (numbers_of t.slots.now) (c.requires.targets.on_slot c.if-targets.false) c.args.word (get_or t.on_now c.args.word 0)
    (marked_word is_on_now t.states.now (numbers_of t.slots.now) t.on_now c.requires.targets.on_now c.args.word c.requires.word) c.if-on_now-eq0.true

pub returns-then-is_current_at : goal.returns-then-is_current_at
returns-then-is_current_at c = λ r there.
    let t = c.args.targets.now in
    let now : c.is_current_at.result ≡ is_current r = subst (λ (o : Option Row). IfSome o (λ (q : Row). c.is_current_at.result ≡ is_current q)) there c.is_current_at.ensures in
    base_now r t.states.now (numbers_of t.slots.now) (c.requires.targets.on_slot c.if-targets.false) c.args.word (get_or t.on_now c.args.word 0)
    (marked_word is_on_now t.states.now (numbers_of t.slots.now) t.on_now c.requires.targets.on_now c.args.word c.requires.word) (sym now ∙ c.if-is_current_at.true)

pub returns-else-is_current_at : goal.returns-else-is_current_at
returns-else-is_current_at c = λ r there.
    let t = c.args.targets.now in
    let now : c.is_current_at.result ≡ is_current r = subst (λ (o : Option Row). IfSome o (λ (q : Row). c.is_current_at.result ≡ is_current q)) there c.is_current_at.ensures in
    base_not_now r t.states.now (numbers_of t.slots.now) (c.requires.targets.on_slot c.if-targets.false) c.args.word (sym now ∙ c.if-is_current_at.false)
