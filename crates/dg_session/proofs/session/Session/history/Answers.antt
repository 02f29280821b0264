use Rattle.std.proofs.Common.{◌≡◌, ℕ, List, [], true, Ok, length, sym, ◌∙◌, ap, subst}
use Rattle.std.specs.Prelude.{IfErr, IfOk}
use Rattle.dg_records.specs.EventNames.{EventNamesAreThere}
use Rattle.dg_session.specs.Parts.{Parts}
use Rattle.dg_session.specs.SessionState.{SessionState}
use Rattle.dg_session.proofs.HistoryEvents.{events_read, first_wrong, never_damaged}
use Rattle.dg_sound.specs.OwnEvents.{are_completions, own_events}
use Rattle.dg_start.specs.EventSources.{WhereTold}
use Rattle.dg_stored.specs.StoredHistory.{index_opening}
use Rattle.dg_verify.specs.Faults.{IsFirstWrong}
use Rattle.dg_verify.specs.Verification.{opened_with}
use Rattle.dg_session.proofs.session.Session.history.Goals as goal

pub returns-clause-events : goal.returns-clause-events
returns-clause-events g c =
    let p : Parts = c.args.self.now.parts in
    let o = c.in-Some.index.opening in
    let told = g.D.Disk.image c.args.disk.now in
    events_read c.law_standing_files_are_sound.ensures p o (ap (λ (x : SessionState). x.parts.index) (sym c.self.view_is) ∙ ap index_opening c.in-Some.is) told c.read_own_events.result
    (subst (λ (names : List (List ℕ)). IfOk c.read_own_events.result (λ events. WhereTold told (λ image. own_events image (opened_with o names) ≡ Ok events.items)))
    (ap (λ (x : SessionState). x.parts.names) c.self.view_is) c.read_own_events.ensures.own)

pub returns-clause-follow : goal.returns-clause-follow
returns-clause-follow g c =
    subst (λ (names : List (List ℕ)). IfOk c.read_own_events.result (λ events. are_completions names [] 0 events.items ≡ true))
    (ap (λ (x : SessionState). x.parts.names) c.self.view_is) c.read_own_events.ensures.follow

pub returns-clause-named : goal.returns-clause-named
returns-clause-named g c =
    subst (λ (names : List (List ℕ)). IfOk c.read_own_events.result (λ events. EventNamesAreThere (length names) events.items))
    (ap (λ (x : SessionState). x.parts.names) c.self.view_is) c.read_own_events.ensures.named

pub returns-clause-never : goal.returns-clause-never
returns-clause-never g c =
    let p : Parts = c.args.self.now.parts in
    let o = c.in-Some.index.opening in
    let told = g.D.Disk.image c.args.disk.now in
    never_damaged c.law_standing_files_are_sound.ensures p o (ap (λ (x : SessionState). x.parts.index) (sym c.self.view_is) ∙ ap index_opening c.in-Some.is) told c.read_own_events.result
    (subst (λ (names : List (List ℕ)). IfErr c.read_own_events.result (λ f. WhereTold told (λ image. IsFirstWrong f (own_events image (opened_with o names)))))
    (ap (λ (x : SessionState). x.parts.names) c.self.view_is) c.read_own_events.ensures.damage)

pub returns-clause-damage : goal.returns-clause-damage
returns-clause-damage g c =
    let p : Parts = c.args.self.now.parts in
    let o = c.in-Some.index.opening in
    let told = g.D.Disk.image c.args.disk.now in
    first_wrong c.law_standing_files_are_sound.ensures p o (ap (λ (x : SessionState). x.parts.index) (sym c.self.view_is) ∙ ap index_opening c.in-Some.is) told c.read_own_events.result
    (subst (λ (names : List (List ℕ)). IfErr c.read_own_events.result (λ f. WhereTold told (λ image. IsFirstWrong f (own_events image (opened_with o names)))))
    (ap (λ (x : SessionState). x.parts.names) c.self.view_is) c.read_own_events.ensures.damage)
