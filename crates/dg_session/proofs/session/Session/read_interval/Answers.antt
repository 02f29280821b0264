use Rattle.std.proofs.Common.{length, sym, ap, subst}
use Rattle.dg_range.specs.Added.{range_columns}
use Rattle.dg_retrieval.specs.NamesThere.{EventNamesAreThere}
use Rattle.dg_session.specs.Damage.{interval_readings}
use Rattle.dg_session.specs.Parts.{Parts}
use Rattle.dg_session.specs.SessionState.{SessionState}
use Rattle.dg_session.proofs.DamageStep.{columns_tell, damage_over}
use Rattle.dg_session.proofs.SessionIntervalStep.{added_named, adds_for}
use Rattle.dg_session.proofs.SessionRetrievals.{IsSession, is_session}
use Rattle.dg_session.proofs.session.Session.read_interval.Goals as goal

pub returns-clause-named : goal.returns-clause-named
returns-clause-named g c =
    let p : Parts = c.args.self.now.parts in
    let o = c.in-Some.index.opening in
    let recent = c.deref.result.now in
    let is : IsSession p o c.len.result recent = is_session p c.self.inside c.in-Some.index c.len.result recent (ap (λ (x : SessionState). x.parts) c.self.view_is) c.in-Some.is c.len.ensures.len c.deref.ensures.value in
    added_named p c.len.result recent c.read_added.result c.read_added.ensures.named
    (subst (λ n. EventNamesAreThere n recent) (sym c.len.ensures.len)
    (subst (λ es. EventNamesAreThere (length c.self.inside.held.live.history.names) es) (sym c.deref.ensures.value) c.self.invariant.1.live.sound.recent_named))
    is.count

pub returns-clause-over : goal.returns-clause-over
returns-clause-over g c =
    let p : Parts = c.args.self.now.parts in
    let o = c.in-Some.index.opening in
    let recent = c.deref.result.now in
    let is : IsSession p o c.len.result recent = is_session p c.self.inside c.in-Some.index c.len.result recent (ap (λ (x : SessionState). x.parts) c.self.view_is) c.in-Some.is c.len.ensures.len c.deref.ensures.value in
    adds_for p o c.args.from c.args.until c.args.cols is.there c.law_images_have_added.ensures c.len.result recent is (g.D.Disk.taken c.args.disk.now) (g.D.Disk.taken c.read_added.new.disk) (g.D.Disk.image c.args.disk.now)
    c.read_added.result c.read_added.ensures.added c.read_added.ensures.takes c.read_added.ensures.damage

pub returns-clause-damage : goal.returns-clause-damage
returns-clause-damage g c =
    let p : Parts = c.args.self.now.parts in
    let o = c.in-Some.index.opening in
    let recent = c.deref.result.now in
    let is : IsSession p o c.len.result recent = is_session p c.self.inside c.in-Some.index c.len.result recent (ap (λ (x : SessionState). x.parts) c.self.view_is) c.in-Some.is c.len.ensures.len c.deref.ensures.value in
    damage_over (interval_readings c.args.from c.args.until c.args.cols) p o (g.D.Disk.image c.args.disk.now) c.len.result c.read_added.result is.there is.count c.read_added.ensures.damage
    (λ bytes d. columns_tell c.len.result o (range_columns o c.args.from c.args.until c.args.cols) bytes c.read_added.result d)
