use Rattle.std.proofs.Common.{ap}
use Rattle.dg_session.specs.Damage.{value_readings}
use Rattle.dg_session.specs.Parts.{Parts}
use Rattle.dg_session.specs.SessionState.{SessionState}
use Rattle.dg_session.proofs.DamageStep.{damage_over, values_tell}
use Rattle.dg_session.proofs.SessionIndexStep.{indexes_for}
use Rattle.dg_session.proofs.SessionRetrievals.{IsSession, is_session}
use Rattle.dg_session.proofs.session.Session.read_values.Goals as goal

pub returns-clause-over : goal.returns-clause-over
returns-clause-over g c =
    let p : Parts = c.args.self.now.parts in
    let o = c.in-Some.index.opening in
    let recent = c.deref.result.now in
    let is : IsSession p o c.len.result recent = is_session p c.self.inside c.in-Some.index c.len.result recent (ap (λ (x : SessionState). x.parts) c.self.view_is) c.in-Some.is c.len.ensures.len c.deref.ensures.value in
    indexes_for c.law_images_have_values.ensures p o is.there c.len.result recent is (g.D.Disk.taken c.args.disk.now) (g.D.Disk.taken c.read_values.new.disk) c.args.key (g.D.Disk.image c.args.disk.now)
    c.read_values.result c.read_values.ensures.key c.read_values.ensures.values c.read_values.ensures.takes c.read_values.ensures.damage

pub returns-clause-damage : goal.returns-clause-damage
returns-clause-damage g c =
    let p : Parts = c.args.self.now.parts in
    let o = c.in-Some.index.opening in
    let recent = c.deref.result.now in
    let is : IsSession p o c.len.result recent = is_session p c.self.inside c.in-Some.index c.len.result recent (ap (λ (x : SessionState). x.parts) c.self.view_is) c.in-Some.is c.len.ensures.len c.deref.ensures.value in
    damage_over value_readings p o (g.D.Disk.image c.args.disk.now) c.len.result c.read_values.result is.there is.count c.read_values.ensures.damage
    (λ bytes d. values_tell c.len.result o bytes c.read_values.result d)
