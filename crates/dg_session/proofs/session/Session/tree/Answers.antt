use Rattle.std.proofs.Common.{[], refl, sym, ◌∙◌, ap}
use Rattle.dg_machine.specs.declared.command.Command.TheVariants as command
use Rattle.dg_machine.specs.declared.reply.Refusal.TheVariants as refusal
use Rattle.dg_batch.specs.declared.halt.Halt.TheVariants as halt
use Rattle.dg_session.specs.Parts.{Parts}
use Rattle.dg_session.specs.Session.{ComesTo}
use Rattle.dg_session.specs.SessionState.{SessionState}
use Rattle.dg_stored.specs.StoredHistory.{index_opening}
use Rattle.dg_session.proofs.SessionSteps.{handed_out, lacking_denies, refused_denies}
use Rattle.dg_session.proofs.RecordListingStep.{tree_answers}
use Rattle.dg_session.proofs.session.Session.tree.Goals as goal

pub returns-in-Some-clause-comes : goal.returns-in-Some-clause-comes
returns-in-Some-clause-comes c image =
    let p : Parts = c.args.self.now.parts in
    refused_denies command.Tree [] p p image image c.in-Some.refusal refl refl (sym c.refused.ensures ∙ c.in-Some.is)

pub returns-in_err-reply-clause-comes : goal.returns-in_err-reply-clause-comes
returns-in_err-reply-clause-comes c image =
    let p : Parts = c.args.self.now.parts in
    handed_out c.from_residual.result (halt.Refusal refusal.OutOfMemory) (ComesTo command.Tree [] p image p image) c.from_residual.ensures
    (lacking_denies command.Tree [] p p image image refl refl refl (sym c.refused.ensures ∙ c.in_default.is))

pub returns-clause-comes : goal.returns-clause-comes
returns-clause-comes c image =
    tree_answers c.args.self.now.parts image c.in-Some-index.index.opening c.in_ok-reply.reply
    (ap (λ (x : SessionState). x.parts.index) (sym c.self.view_is) ∙ ap index_opening c.in-Some-index.is) (sym c.refused.ensures ∙ c.in_default.is) c.in_ok-reply.ensures
