use Rattle.std.proofs.Common.{◌∙◌, List, ℕ, ap, length, subst}
use Rattle.std.specs.Prelude.{IfSome}
use Rattle.dg_messages.specs.Told.{AreToldIn}
use Rattle.dg_messages.proofs.HeardLists.{takes_fails}
use Rattle.dg_messages.proofs.OnceHeard.{damage_once, most_once, named_for, sound_once, taken_once, told_for}
use Rattle.dg_messages.proofs.told.messages_once.Goals as goal

pub returns-in_err-sets-clause-takes : goal.returns-in_err-sets-clause-takes
returns-in_err-sets-clause-takes g c =
    let told = g.D.Disk.image c.args.disk.now in
    let o = c.args.index.now.opening in
    let before = g.D.Disk.taken c.args.disk.now in
    let after = g.D.Disk.taken c.messages.new.disk in
    takes_fails told o c.args.times.now before after c.from_residual-in_err-sets.result c.from_residual-in_err-sets.ensures.0
    (most_once told o c.args.times.now c.deref.result.now (c.deref.ensures.value ∙ c.in_ok-instants.ensures) before after c.messages.result c.messages.ensures.takes)

pub returns-in_err-sets-clause-damage : goal.returns-in_err-sets-clause-damage
returns-in_err-sets-clause-damage g c =
    damage_once c.args.name_count (g.D.Disk.image c.args.disk.now) c.args.index.now.opening c.args.times.now c.deref.result.now (c.deref.ensures.value ∙ c.in_ok-instants.ensures) c.from_residual-in_err-sets.result
    c.in_err-sets.field-0.0 c.from_residual-in_err-sets.ensures c.in_err-sets.ensures.damage

pub returns-clause-count : goal.returns-clause-count
returns-clause-count g c = c.in_ok-sets.ensures.count ∙ ap length c.deref.ensures.value

pub returns-clause-told : goal.returns-clause-told
returns-clause-told g c =
    told_for c.args.name_count (g.D.Disk.image c.args.disk.now) c.args.index.now.opening c.args.recent.now c.args.times.now c.in_ok-instants.instants.items c.in_ok-sets.sets.items c.in_ok-instants.ensures
    (subst (λ (l : List ℕ). IfSome (g.D.Disk.image c.args.disk.now) (λ image. AreToldIn c.args.name_count image c.args.index.now.opening c.args.recent.now l c.in_ok-sets.sets.items)) c.deref.ensures.value c.in_ok-sets.ensures.told)

pub returns-clause-named : goal.returns-clause-named
returns-clause-named g c = λ recent. named_for c.args.name_count c.in_ok-instants.instants.items c.in_ok-sets.sets.items c.args.times.now (c.in_ok-sets.ensures.named recent)

pub returns-clause-takes : goal.returns-clause-takes
returns-clause-takes g c =
    taken_once (g.D.Disk.image c.args.disk.now) c.args.index.now.opening c.args.times.now c.deref.result.now (c.deref.ensures.value ∙ c.in_ok-instants.ensures) (g.D.Disk.taken c.args.disk.now)
    (g.D.Disk.taken c.messages.new.disk) c.in_ok-sets.sets _ c.in_ok-sets.ensures.takes

pub returns-clause-damage : goal.returns-clause-damage
returns-clause-damage g c =
    sound_once c.args.name_count (g.D.Disk.image c.args.disk.now) c.args.index.now.opening c.args.times.now c.deref.result.now (c.deref.ensures.value ∙ c.in_ok-instants.ensures)
    c.in_ok-sets.ensures.damage
