use Rattle.std.proofs.Common.{◌≡◌, [], Some, None, Ok, Err, false, length, refl, sym, ◌∙◌, ap, arith}
use Rattle.dg_session.specs.SessionState.{SessionState}
use Rattle.dg_batch.specs.declared.halt.Halt.TheVariants as halt
use Rattle.std.specs.Prelude.{is_some}
use Rattle.dg_machine.specs.Needs.{needs}
use Rattle.dg_batch.specs.Halt.{creation_halt}
use Rattle.dg_session.specs.CreationCommand.{making}
use Rattle.dg_session.specs.Parts.{Parts}
use Rattle.dg_session.specs.Reads.{ReadsIn}
use Rattle.dg_session.specs.Session.{ComesTo, LeavesCommand, refused_by}
use Rattle.dg_stored.specs.StoredHistory.{index_opening}
use Rattle.dg_session.specs.contracts.session.Session.{the_view}
use Rattle.dg_disk.proofs.FrameLemmas.{reads_none}
use Rattle.dg_disk.specs.Calls.{LeftByCrash}
use Rattle.dg_session.proofs.CommandCrashes.{reading_left}
use Rattle.dg_session.proofs.CreationCrashes.{created_left, uncreated_left}
use Rattle.dg_session.proofs.CommandDisks.{made_treats, unmade_treats, reading_treats}
use Rattle.dg_file.proofs.TidyWrites.{made_tidy}
use Rattle.dg_history.specs.declared.form.Form.TheVariants as form
use Rattle.dg_history.specs.declared.params.Params.{Params}
use Rattle.dg_history.specs.History.{empty_history}
use Rattle.dg_session.specs.Calls.{TreatsDisk}
use Rattle.dg_session.proofs.SessionCreationStep.{asked_refused, create_answers, create_fails, creation_free, no_names, reads_no_record}
use Rattle.dg_session.proofs.HeldIndexes.{held_made}
use Rattle.dg_session.proofs.ReadsStep.{reads_nothing}
use Rattle.dg_session.proofs.SessionSteps.{handed_out, refused_denies}
use Rattle.dg_session.proofs.session.Session.create.Goals as goal

pub function-function-requires : goal.function-function-requires
function-function-requires g c = (creation_free c.args.self.now.parts c.args.l c.args.k c.args.asked (asked_refused c.args.self.now.parts c.args.l c.args.k c.args.asked c.share.result c.share.ensures ∙ sym c.refused.ensures ∙ c.in_default.is)).2

pub returns-in-Some-clause-comes : goal.returns-in-Some-clause-comes
returns-in-Some-clause-comes g c =
    refused_denies (making c.args.l c.args.k c.args.asked) [] c.args.self.now.parts c.args.self.now.parts (g.D.Disk.image c.args.disk.now) (g.D.Disk.image c.args.disk.now) c.in-Some.refusal refl refl
    (asked_refused c.args.self.now.parts c.args.l c.args.k c.args.asked c.share.result c.share.ensures ∙ sym c.refused.ensures ∙ c.in-Some.is)

pub returns-in_err-index-clause-comes : goal.returns-in_err-index-clause-comes
returns-in_err-index-clause-comes g c =
    handed_out c.from_residual.result (creation_halt c.in_err-index.field-0.0) (ComesTo (making c.args.l c.args.k c.args.asked) [] c.args.self.now.parts (g.D.Disk.image c.args.disk.now) c.args.self.now.parts (g.D.Disk.image c.create.new.disk)) c.from_residual.ensures
    (create_fails c.args.l c.args.k c.args.asked (record { l = c.args.l; k = c.args.k; function = c.function-function.result }) (λ i. record { l = c.args.l; k = c.args.k; function = c.function-function.ensures.function i }) c.args.self.now.parts c.args.self.now.parts (g.D.Disk.image c.args.disk.now) (g.D.Disk.image c.create.new.disk) c.in_err-index.field-0.0
    (asked_refused c.args.self.now.parts c.args.l c.args.k c.args.asked c.share.result c.share.ensures ∙ sym c.refused.ensures ∙ c.in_default.is) refl
    (λ h. ap (g.D.Disk.image) (c.create.ensures.memory (c.in_err-index.was ∙ ap (λ f. Err f) h))) (λ h. c.create.ensures.part (c.in_err-index.was ∙ ap (λ f. Err f) h)))

pub invariant_of-self : goal.invariant_of-self
invariant_of-self g c =
    let gone : is_some (index_opening c.self.inside.held.live.history.index) ≡ false =
    ap (λ (x : SessionState). is_some x.parts.index) c.self.view_is ∙ (creation_free c.args.self.now.parts c.args.l c.args.k c.args.asked (asked_refused c.args.self.now.parts c.args.l c.args.k c.args.asked c.share.result c.share.ensures ∙ sym c.refused.ensures ∙ c.in_default.is)).0 in (
      c.self.invariant.0,
      held_made c.self.inside.held c.in_ok-index.index (record { l = c.args.l; k = c.args.k; function = c.function-function.result }) gone c.in_ok-index.ensures.made c.self.invariant.1,
      λ k d lt. absurd (omega (arith, lt, ap length c.forget.ensures)),
    )

pub returns-clause-comes : goal.returns-clause-comes
returns-clause-comes g c =
    let view : Parts = (the_view c.self.inside).parts in
    let new : Parts = record view { index = Some c.in_ok-index.index.opening } in
    let none : refused_by c.args.self.now.parts 0 (needs (making c.args.l c.args.k c.args.asked)) ≡ None = asked_refused c.args.self.now.parts c.args.l c.args.k c.args.asked c.share.result c.share.ensures ∙ sym c.refused.ensures ∙ c.in_default.is in
    let names : c.args.self.now.parts.names ≡ [] =
    ap (λ (p : Parts). p.names) (sym (ap (λ (x : SessionState). x.parts) c.self.view_is))
    ∙ no_names (index_opening c.self.inside.held.live.history.index) c.self.inside.held.live.history.names c.self.inside.held.live.history.now.graph c.self.inside.held.live.history.recent.items c.self.invariant.1.live.sound.counted
    (ap (λ (p : Parts). is_some p.index) (ap (λ (x : SessionState). x.parts) c.self.view_is) ∙ (creation_free c.args.self.now.parts c.args.l c.args.k c.args.asked none).0) in
    create_answers c.args.l c.args.k c.args.asked (record { l = c.args.l; k = c.args.k; function = c.function-function.result }) (λ i. record { l = c.args.l; k = c.args.k; function = c.function-function.ensures.function i }) c.args.self.now.parts new (g.D.Disk.image c.args.disk.now) (g.D.Disk.image c.create.new.disk) c.in_ok-index.index.opening c.headed.result none
    c.in_ok-index.ensures.image c.in_ok-index.ensures.opened c.in_ok-index.ensures.made names (ap (λ (p : Parts). let x : Parts = record p { index = Some c.in_ok-index.index.opening } in x) (ap (λ (x : SessionState). x.parts) c.self.view_is)) c.headed.ensures

pub returns-in-Some-clause-reads : goal.returns-in-Some-clause-reads
returns-in-Some-clause-reads g c =
    reads_nothing (making c.args.l c.args.k c.args.asked) c.args.self.now.parts (g.D.Disk.image c.args.disk.now) (Err (halt.Refusal c.in-Some.refusal)) (g.D.Disk.taken c.args.disk.now) (g.D.Disk.taken c.args.disk.now)
    (reads_no_record c.args.l c.args.k c.args.asked) refl

pub returns-in_err-index-clause-reads : goal.returns-in_err-index-clause-reads
returns-in_err-index-clause-reads g c =
    handed_out c.from_residual.result (creation_halt c.in_err-index.field-0.0) (λ r. ReadsIn (making c.args.l c.args.k c.args.asked) c.args.self.now.parts (g.D.Disk.image c.args.disk.now) r (g.D.Disk.taken c.args.disk.now) (g.D.Disk.taken c.create.new.disk)) c.from_residual.ensures
    (reads_nothing (making c.args.l c.args.k c.args.asked) c.args.self.now.parts (g.D.Disk.image c.args.disk.now) (Err (creation_halt c.in_err-index.field-0.0)) (g.D.Disk.taken c.args.disk.now) (g.D.Disk.taken c.create.new.disk)
    (reads_no_record c.args.l c.args.k c.args.asked) c.create.ensures.frame.nothing_read)

pub returns-clause-reads : goal.returns-clause-reads
returns-clause-reads g c =
    reads_nothing (making c.args.l c.args.k c.args.asked) c.args.self.now.parts (g.D.Disk.image c.args.disk.now) (Ok c.headed.result) (g.D.Disk.taken c.args.disk.now) (g.D.Disk.taken c.create.new.disk)
    (reads_no_record c.args.l c.args.k c.args.asked) c.create.ensures.frame.nothing_read

pub returns-in-Some-clause-disk : goal.returns-in-Some-clause-disk
returns-in-Some-clause-disk g c = reading_treats g.D.Disk c.args.disk.now c.args.disk.now (Err (halt.Refusal c.in-Some.refusal)) reads_none

pub returns-in_err-index-clause-disk : goal.returns-in_err-index-clause-disk
returns-in_err-index-clause-disk g c =
    handed_out c.from_residual.result (creation_halt c.in_err-index.field-0.0) (TreatsDisk g.D.Disk c.args.disk.now c.create.new.disk) c.from_residual.ensures
    (unmade_treats g.D.Disk c.args.disk.now c.create.new.disk c.in_err-index.field-0.0 c.create.ensures.frame
    (λ h. c.create.ensures.memory (c.in_err-index.was ∙ ap (λ f. Err f) h)))

pub returns-clause-disk : goal.returns-clause-disk
returns-clause-disk g c =
    let made : Params = record { l = c.args.l; k = c.args.k; function = c.function-function.result } in
    made_treats g.D.Disk c.args.disk.now c.create.new.disk c.headed.result c.create.ensures.frame c.in_ok-index.ensures.settled
    (made_tidy (empty_history form.Two made) (g.D.Disk.image c.args.disk.now) (g.D.Disk.image c.create.new.disk) c.in_ok-index.ensures.image c.in_ok-index.ensures.exact)

pub returns-in-Some-clause-crash : goal.returns-in-Some-clause-crash
returns-in-Some-clause-crash g c =
    reading_left g.D.Disk g.met.D.Disk.only_now c.args.disk.now c.args.disk.now reads_none (making c.args.l c.args.k c.args.asked) [] c.args.self.now.parts (Err (halt.Refusal c.in-Some.refusal)) (λ e. cc)

pub returns-in_err-index-clause-crash : goal.returns-in_err-index-clause-crash
returns-in_err-index-clause-crash g c =
    handed_out c.from_residual.result (creation_halt c.in_err-index.field-0.0) (λ r. LeftByCrash g.D.Disk c.args.disk.now c.create.new.disk (LeavesCommand (making c.args.l c.args.k c.args.asked) [] c.args.self.now.parts r)) c.from_residual.ensures
    (uncreated_left c.args.l c.args.k c.args.asked (record { l = c.args.l; k = c.args.k; function = c.function-function.result }) (λ i. record { l = c.args.l; k = c.args.k; function = c.function-function.ensures.function i }) c.args.self.now.parts (asked_refused c.args.self.now.parts c.args.l c.args.k c.args.asked c.share.result c.share.ensures ∙ sym c.refused.ensures ∙ c.in_default.is) g.D.Disk c.args.disk.now c.create.new.disk c.create.ensures.crash g.met.D.Disk.only_now c.in_err-index.field-0.0
    (λ h. c.create.ensures.memory (c.in_err-index.was ∙ ap (λ f. Err f) h)))

pub returns-clause-crash : goal.returns-clause-crash
returns-clause-crash g c =
    created_left c.args.l c.args.k c.args.asked (record { l = c.args.l; k = c.args.k; function = c.function-function.result }) (λ i. record { l = c.args.l; k = c.args.k; function = c.function-function.ensures.function i }) c.args.self.now.parts (asked_refused c.args.self.now.parts c.args.l c.args.k c.args.asked c.share.result c.share.ensures ∙ sym c.refused.ensures ∙ c.in_default.is) g.D.Disk c.args.disk.now c.create.new.disk c.create.ensures.crash c.headed.result c.headed.ensures
