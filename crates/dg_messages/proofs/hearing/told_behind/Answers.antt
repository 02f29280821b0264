-- The sets that are not yet written are fewer by one; what is written stands behind the rest.
use Rattle.std.proofs.Common.{arith, ◌≡◌, ◌==◌, List, [], ◌∷◌, ap, get_or, length, length-append, map, refl, sym, ◌∙◌}
use Rattle.dg_fold.specs.declared.writing.Writing.{Writing}
use Rattle.dg_messages.proofs.MessagesBehind.{told_all, told_next, told_none}
use Rattle.dg_messages.proofs.hearing.told_behind.Goals as goal

pub loop-set-init : goal.loop-set-init
loop-set-init c = told_none c.args.leads.writings.items c.args.heard.instants.items c.args.heard.sets.items c.args.times.now c.requires.sets

pub told_at-requires : goal.told_at-requires
told_at-requires c =
    let parted = ap length c.loop-set.invariant.parted ∙ length-append c.loop-set.rest.items c.loop-set.invariant.back in
    let popped = ap length c.in-Some.ensures.items ∙ length-append c.pop.new.self.items (c.in-Some.set ∷ []) in
    let here = c.len.ensures ∙ c.pop.new.self.ok.0 in
    let all = ap length c.deref.ensures.value in
    let same = c.requires.sets in
    omega arith

pub loop-set-preserved : goal.loop-set-preserved
loop-set-preserved c =
    let w : Writing = c.in_ok-writing.writing in
    let here = c.len.ensures ∙ c.pop.new.self.ok.0 in
    told_next c.args.leads.writings.items c.args.heard.instants.items c.args.heard.sets.items c.loop-set.rest.items c.pop.new.self.items c.args.times.now c.in-Some.set c.loop-set.writings.items c.push.new.self.items w
    c.requires.sets c.loop-set.invariant c.in-Some.ensures.items
    (c.in_ok-writing.ensures.targets ∙ (λ i. map (λ t. get_or (c.deref.ensures.value i) (here i) 0 == t) c.args.times.now))
    c.in_ok-writing.ensures.delta c.in_ok-push.ensures.items

none_left : {X : Type 0} (xs : List X) → length xs ≡ 0 → xs ≡ []
none_left [] none = refl
none_left (x ∷ xs) none = absurd (omega arith)

pub returns : goal.returns
returns c =
    let rest = c.loop-set.rest in
    told_all c.args.leads.begins.items c.args.leads.writings.items c.loop-set.writings.items c.args.heard.instants.items c.args.heard.sets.items rest.items c.args.times.now c.requires.times c.requires.instants c.requires.sets
    (none_left rest.items (sym rest.ok.0 ∙ c.in_default.ensures.cases.0)) c.loop-set.invariant
