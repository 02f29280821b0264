use Rattle.std.proofs.Common.{◌≡◌, ℕ, List, [], map, None, Ok, Err, refl, sym, ◌∙◌, ap, subst}
use Rattle.dg_batch.specs.declared.held.Held.{Held}
use Rattle.dg_batch.specs.declared.halt.Halt.{Halt}
use Rattle.dg_disk.specs.Calls.{LeftByCrash}
use Rattle.dg_machine.specs.declared.command.Command.TheVariants as command
use Rattle.dg_machine.specs.Needs.{needs}
use Rattle.dg_session.proofs.CommandDisks.{made_treats, unmarked_treats}
use Rattle.dg_session.proofs.SessionSteps.{refused_denies}
use Rattle.dg_session.proofs.SessionUpgradeStep.{IsFree, held_parts, marked_here, upgrade_fails, upgrade_free, upgrade_marked}
use Rattle.dg_session.proofs.UpgradeCrashes.{unupgraded_left, upgraded_left}
use Rattle.dg_session.specs.Calls.{TreatsDisk}
use Rattle.dg_session.specs.Parts.{Parts}
use Rattle.dg_session.specs.Session.{ComesTo, LeavesCommand, refused_by}
use Rattle.dg_session.specs.SessionState.{SessionState}
use Rattle.dg_session.specs.ValuesSaid.{IndexKept, kept_of}
use Rattle.dg_session.proofs.session.Session.upgrade.Goals as goal
use Rattle.dg_session.proofs.session.Session.upgrade.Goals.{in-Ok, in-Err}

pub returns-in-Some-clause-comes : goal.returns-in-Some-clause-comes
returns-in-Some-clause-comes g c =
    refused_denies command.Upgrade [] c.args.self.now.parts c.args.self.now.parts (g.D.Disk.image c.args.disk.now) (g.D.Disk.image c.args.disk.now) c.in-Some.refusal refl refl
    (sym c.refused.ensures ∙ c.in-Some.is)

pub returns-clause-comes : goal.returns-clause-comes
returns-clause-comes g c =
    let p : Parts = c.args.self.now.parts in
    let old : Held = c.self.inside.held in
    let new : Held = c.mark.new.held in
    let limit : ℕ = c.self.inside.limits.file_bytes in
    let indexes : List IndexKept = map kept_of c.self.inside.indexes.items in
    let view : held_parts c.self.inside.limits indexes old ≡ p = ap (λ (x : SessionState). x.parts) c.self.view_is in
    let limit_is : limit ≡ p.limits.file_bytes = ap (λ (x : Parts). x.limits.file_bytes) view in
    let none : refused_by p 0 (needs command.Upgrade) ≡ None = sym c.refused.ensures ∙ c.in_default.is in
    let free : IsFree p = upgrade_free p none in
    elim c.match-mark.branch [
      | in-Ok w ↦ rw w.result-is
          (upgrade_marked p limit limit_is none free g.D.Disk (Unit {0}) c.self.inside.limits indexes old new c.args.disk.now c.mark.new.disk view w.in-Ok.field-0
          (marked_here p limit limit_is none free g.D.Disk (Unit {0}) c.self.inside.limits indexes old new c.args.disk.now c.mark.new.disk view c.mark.result (Ok w.in-Ok.field-0) c.mark.ensures.marks w.in-Ok.is)
          c.mark.ensures.frame.told w.headed.result w.headed.ensures)
      | in-Err w ↦ rw w.result-is
          (subst (λ (h : Halt). ComesTo command.Upgrade [] p (g.D.Disk.image c.args.disk.now) (held_parts c.self.inside.limits indexes new) (g.D.Disk.image c.mark.new.disk) (Err h)) (sym w.upgrade_halt.ensures)
          (upgrade_fails p limit limit_is none free g.D.Disk (Unit {0}) c.self.inside.limits indexes old new c.args.disk.now c.mark.new.disk view w.in-Err.fault
          (marked_here p limit limit_is none free g.D.Disk (Unit {0}) c.self.inside.limits indexes old new c.args.disk.now c.mark.new.disk view c.mark.result (Err w.in-Err.fault) c.mark.ensures.marks w.in-Err.is)))
    ]

pub returns-clause-disk : goal.returns-clause-disk
returns-clause-disk g c =
    let p : Parts = c.args.self.now.parts in
    let old : Held = c.self.inside.held in
    let new : Held = c.mark.new.held in
    let limit : ℕ = c.self.inside.limits.file_bytes in
    let indexes : List IndexKept = map kept_of c.self.inside.indexes.items in
    let view : held_parts c.self.inside.limits indexes old ≡ p = ap (λ (x : SessionState). x.parts) c.self.view_is in
    let limit_is : limit ≡ p.limits.file_bytes = ap (λ (x : Parts). x.limits.file_bytes) view in
    let none : refused_by p 0 (needs command.Upgrade) ≡ None = sym c.refused.ensures ∙ c.in_default.is in
    let free : IsFree p = upgrade_free p none in
    elim c.match-mark.branch [
      | in-Ok w ↦ rw w.result-is
          (let marks = marked_here p limit limit_is none free g.D.Disk (Unit {0}) c.self.inside.limits indexes old new c.args.disk.now c.mark.new.disk view c.mark.result (Ok w.in-Ok.field-0) c.mark.ensures.marks w.in-Ok.is in
          made_treats g.D.Disk c.args.disk.now c.mark.new.disk w.headed.result c.mark.ensures.frame marks.2.settled marks.2.exact)
      | in-Err w ↦ rw w.result-is
          (subst (λ (h : Halt). TreatsDisk g.D.Disk c.args.disk.now c.mark.new.disk (Err h)) (sym w.upgrade_halt.ensures)
          (unmarked_treats g.D.Disk (Unit {0}) limit free.index old new c.args.disk.now c.mark.new.disk w.in-Err.fault c.mark.ensures.frame
          (marked_here p limit limit_is none free g.D.Disk (Unit {0}) c.self.inside.limits indexes old new c.args.disk.now c.mark.new.disk view c.mark.result (Err w.in-Err.fault) c.mark.ensures.marks w.in-Err.is)))
    ]

pub returns-clause-crash : goal.returns-clause-crash
returns-clause-crash g c =
    let p : Parts = c.args.self.now.parts in
    let old : Held = c.self.inside.held in
    let new : Held = c.mark.new.held in
    let limit : ℕ = c.self.inside.limits.file_bytes in
    let indexes : List IndexKept = map kept_of c.self.inside.indexes.items in
    let view : held_parts c.self.inside.limits indexes old ≡ p = ap (λ (x : SessionState). x.parts) c.self.view_is in
    let limit_is : limit ≡ p.limits.file_bytes = ap (λ (x : Parts). x.limits.file_bytes) view in
    let none : refused_by p 0 (needs command.Upgrade) ≡ None = sym c.refused.ensures ∙ c.in_default.is in
    let free : IsFree p = upgrade_free p none in
    elim c.match-mark.branch [
      | in-Ok w ↦ rw w.result-is
          (let marks = marked_here p limit limit_is none free g.D.Disk (Unit {0}) c.self.inside.limits indexes old new c.args.disk.now c.mark.new.disk view c.mark.result (Ok w.in-Ok.field-0) c.mark.ensures.marks w.in-Ok.is in
          upgraded_left p limit limit_is none free g.D.Disk c.args.disk.now c.mark.new.disk c.mark.ensures.crash w.headed.result marks.2.fits w.headed.ensures)
      | in-Err w ↦ rw w.result-is
          (subst (λ (h : Halt). LeftByCrash g.D.Disk c.args.disk.now c.mark.new.disk (LeavesCommand command.Upgrade [] p (Err h))) (sym w.upgrade_halt.ensures)
          (unupgraded_left p limit limit_is none free g.D.Disk c.args.disk.now c.mark.new.disk c.mark.ensures.crash g.met.D.Disk.only_now (Unit {0}) old new w.in-Err.fault
          (marked_here p limit limit_is none free g.D.Disk (Unit {0}) c.self.inside.limits indexes old new c.args.disk.now c.mark.new.disk view c.mark.result (Err w.in-Err.fault) c.mark.ensures.marks w.in-Err.is)))
    ]
