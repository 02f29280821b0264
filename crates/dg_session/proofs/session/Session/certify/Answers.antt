use Rattle.dg_index.specs.OpenedIndex.{event_total}
use Rattle.dg_session.specs.SessionState.{SessionState}
use Rattle.dg_machine.specs.Planning.{bases_in}
use Rattle.dg_ask.specs.HeldIndex.{point_over}
use Rattle.dg_machine.specs.Needs.{needs}
use Rattle.dg_session.specs.Session.{Accepts, refused_by}
use Rattle.dg_stored.specs.StoredHistory.{index_opening}
use Rattle.std.proofs.Common.{◌≡◌, Some, Err, List, length, map, refl, sym, ◌∙◌, ap, subst}
use Rattle.dg_text.specs.Lines.{ScriptLine}
use Rattle.dg_cuts.specs.TakenLines.{CutsWithin, TakesBehind}
use Rattle.dg_machine.specs.declared.command.Command.TheVariants as command
use Rattle.dg_machine.specs.declared.reply.Refusal.TheVariants as refusal
use Rattle.dg_machine.specs.CommandGrammar.{plan_line_in}
use Rattle.dg_plan.specs.CertificateLines.{judged}
use Rattle.dg_batch.specs.declared.halt.Halt.TheVariants as halt
use Rattle.dg_batch.specs.declared.stop.Stop.TheVariants as stop
use Rattle.dg_session.proofs.LimitStops.{not_ok, same_fault}
use Rattle.dg_session.specs.Parts.{Parts}
use Rattle.dg_retrieval.specs.KeptGraph.{kept_edges}
use Rattle.dg_session.proofs.KeptPlannerGraphs.{graph_for}
use Rattle.dg_session.proofs.PlanStep.{certificate_answers, certificate_stopped, inside_of}
use Rattle.dg_session.proofs.SessionSteps.{Comes, handed_out, lacking_denies, refused_denies}
use Rattle.dg_session.proofs.Needed.{has_needed}
use Rattle.dg_session.proofs.session.Session.certify.Goals as goal

pub returns-in_err-written-clause-comes : goal.returns-in_err-written-clause-comes
returns-in_err-written-clause-comes g c image =
    let takes : List ScriptLine → Type 0 = TakesBehind c.args.count c.args.lines.now (g.S.Source.left c.args.source.now) c.read_plan_lines.new.lines (g.S.Source.left c.read_plan_lines.new.source) in
    let short : Type 0 = CutsWithin c.args.count c.args.lines.now (g.S.Source.left c.args.source.now) c.read_plan_lines.new.lines (g.S.Source.left c.read_plan_lines.new.source) in
    handed_out c.from_residual.result (halt.Stop c.in_err-written.field-0.0) (Comes (command.Certify c.args.t c.args.cols c.args.count) takes short c.args.self.now.parts image c.args.self.now.parts image) c.from_residual.ensures
    (certificate_stopped c.args.self.now.parts c.args.t c.args.cols c.args.count takes short image c.in_err-written.field-0.0 c.in_err-written.ensures.cut (λ e. c.read_plan_lines.ensures.no_store (c.in_err-written.was ∙ ap (λ x. Err x) e)))

pub returns-in-Some-clause-comes : goal.returns-in-Some-clause-comes
returns-in-Some-clause-comes g c image =
    let w = c.in_ok-written.ensures.reads in
    let p : Parts = c.args.self.now.parts in
    let is = ap (λ n. refused_by p n (needs (command.Certify c.args.t c.args.cols c.args.count))) w.2.read_is ∙ sym c.refused-2.ensures ∙ c.in-Some.is in
    (w.0, w.1, refused_denies (command.Certify c.args.t c.args.cols c.args.count) w.0 p p image image c.in-Some.refusal refl refl is)

pub returns-then-not-written-clause-comes : goal.returns-then-not-written-clause-comes
returns-then-not-written-clause-comes g c image =
    let w = c.in_ok-written.ensures.reads in
    let p : Parts = c.args.self.now.parts in
    let free = ap (λ n. refused_by p n (needs (command.Certify c.args.t c.args.cols c.args.count))) w.2.read_is ∙ sym c.refused-2.ensures ∙ c.in_default.is in
    (w.0, w.1, lacking_denies (command.Certify c.args.t c.args.cols c.args.count) w.0 p p image image refl refl refl free)

pub returns-in_err-keep-clause-comes : goal.returns-in_err-keep-clause-comes
returns-in_err-keep-clause-comes g c image =
    let takes : List ScriptLine → Type 0 = TakesBehind c.args.count c.args.lines.now (g.S.Source.left c.args.source.now) c.read_plan_lines.new.lines (g.S.Source.left c.read_plan_lines.new.source) in
    let short : Type 0 = CutsWithin c.args.count c.args.lines.now (g.S.Source.left c.args.source.now) c.read_plan_lines.new.lines (g.S.Source.left c.read_plan_lines.new.source) in
    let w = c.in_ok-written.ensures.reads in
    let p : Parts = c.args.self.now.parts in
    let free = ap (λ n. refused_by p n (needs (command.Certify c.args.t c.args.cols c.args.count))) w.2.read_is ∙ sym c.refused-2.ensures ∙ c.in_default.is in
    handed_out c.from_residual-in_err-keep.result (halt.Refusal refusal.OutOfMemory) (Comes (command.Certify c.args.t c.args.cols c.args.count) takes short p image _ image) c.from_residual-in_err-keep.ensures
    (w.0, w.1, lacking_denies (command.Certify c.args.t c.args.cols c.args.count) w.0 p _ image image (ap (λ (x : SessionState). x.parts) c.self.view_is) refl refl free)

pub judge-requires-clause-there : goal.judge-requires-clause-there
judge-requires-clause-there g c =
    let w = c.in_ok-written.ensures.reads in
    let p : Parts = c.args.self.now.parts in
    let free = ap (λ n. refused_by p n (needs (command.Certify c.args.t c.args.cols c.args.count))) w.2.read_is ∙ sym c.refused-2.ensures ∙ c.in_default.is in
    let there = ap (λ (x : SessionState). x.parts.index) (sym c.self.view_is) ∙ ap index_opening c.in-Some-index.is in
    inside_of p c.args.t c.in-Some-index.index.opening there (has_needed p (length w.0) (needs (command.Certify c.args.t c.args.cols c.args.count)) free).instants

pub returns-in_err-verdict-clause-comes : goal.returns-in_err-verdict-clause-comes
returns-in_err-verdict-clause-comes g c image =
    let takes : List ScriptLine → Type 0 = TakesBehind c.args.count c.args.lines.now (g.S.Source.left c.args.source.now) c.read_plan_lines.new.lines (g.S.Source.left c.read_plan_lines.new.source) in
    let short : Type 0 = CutsWithin c.args.count c.args.lines.now (g.S.Source.left c.args.source.now) c.read_plan_lines.new.lines (g.S.Source.left c.read_plan_lines.new.source) in
    let w = c.in_ok-written.ensures.reads in
    let p : Parts = c.args.self.now.parts in
    let free = ap (λ n. refused_by p n (needs (command.Certify c.args.t c.args.cols c.args.count))) w.2.read_is ∙ sym c.refused-2.ensures ∙ c.in_default.is in
    handed_out c.from_residual-in_err-verdict.result (halt.Refusal refusal.OutOfMemory) (Comes (command.Certify c.args.t c.args.cols c.args.count) takes short p image _ image) c.from_residual-in_err-verdict.ensures
    (w.0, w.1, lacking_denies (command.Certify c.args.t c.args.cols c.args.count) w.0 p _ image image (ap (λ (x : SessionState). x.parts) c.self.view_is) refl refl free)

pub returns-clause-comes : goal.returns-clause-comes
returns-clause-comes g c image =
    let w = c.in_ok-written.ensures.reads in
    let p : Parts = c.args.self.now.parts in
    let free = ap (λ n. refused_by p n (needs (command.Certify c.args.t c.args.cols c.args.count))) w.2.read_is ∙ sym c.refused-2.ensures ∙ c.in_default.is in
    let same = ap (λ (x : SessionState). x.parts) c.self.view_is in
    let o = c.in-Some-index.index.opening in
    let there : p.index ≡ Some o = ap (λ (x : Parts). x.index) (sym same) ∙ ap index_opening c.in-Some-index.is in
    let cols = c.args.cols in
    let graph = graph_for o c.self.inside.held.handles.table cols c.keep.new.self c.planner-planner.result.now c.keep.ensures.kept c.planner-planner.ensures.planner in
    let edges : c.planner-planner.result.now.edges ≡ kept_edges o (event_total o.batches) cols (bases_in cols p.table) =
    graph.edges ∙ ap (λ (x : Parts). kept_edges o (event_total o.batches) cols (bases_in cols x.table)) same in
    let recent : c.deref.result.now ≡ p.recent = c.deref.ensures.value ∙ ap (λ (x : Parts). x.recent) same in
    let said : c.deref-2.result.now ≡ map plan_line_in w.0 = c.deref-2.ensures.value ∙ w.2.said_is c.if-not-written.false in (
      w.0,
      w.1,
      subst (λ (x : Parts). Accepts (command.Certify c.args.t cols c.args.count) w.0 p image x image c.headed.result) (sym same)
          (certificate_answers p c.args.t cols c.args.count w.0 image o c.in_ok-verdict.verdict c.headed.result there free
          (c.in_ok-verdict.ensures ∙ (λ i. judged (edges i) (graph.nodes i) (point_over o (recent i) c.args.t) (said i)))
          c.headed.ensures),
    )

pub returns-in_err-written-clause-due : goal.returns-in_err-written-clause-due
returns-in_err-written-clause-due g c some at needs =
    handed_out c.from_residual.result (halt.Stop c.in_err-written.field-0.0) (λ r. r ≡ Err (halt.Stop stop.Limit)) c.from_residual.ensures
    (ap (λ s. Err (halt.Stop s)) (same_fault c.read_plan_lines.result stop.Limit c.in_err-written.field-0.0 (c.read_plan_lines.ensures.due some at needs) c.in_err-written.was))

pub returns-in-Some-clause-due : goal.returns-in-Some-clause-due
returns-in-Some-clause-due g c some at needs = absurd (not_ok c.read_plan_lines.result c.in_ok-written.written stop.Limit (c.read_plan_lines.ensures.due some at needs) c.in_ok-written.was)

pub returns-then-not-written-clause-due : goal.returns-then-not-written-clause-due
returns-then-not-written-clause-due g c some at needs = absurd (not_ok c.read_plan_lines.result c.in_ok-written.written stop.Limit (c.read_plan_lines.ensures.due some at needs) c.in_ok-written.was)

pub returns-in_err-keep-clause-due : goal.returns-in_err-keep-clause-due
returns-in_err-keep-clause-due g c some at needs = absurd (not_ok c.read_plan_lines.result c.in_ok-written.written stop.Limit (c.read_plan_lines.ensures.due some at needs) c.in_ok-written.was)

pub returns-in_err-verdict-clause-due : goal.returns-in_err-verdict-clause-due
returns-in_err-verdict-clause-due g c some at needs = absurd (not_ok c.read_plan_lines.result c.in_ok-written.written stop.Limit (c.read_plan_lines.ensures.due some at needs) c.in_ok-written.was)

pub returns-clause-due : goal.returns-clause-due
returns-clause-due g c some at needs = absurd (not_ok c.read_plan_lines.result c.in_ok-written.written stop.Limit (c.read_plan_lines.ensures.due some at needs) c.in_ok-written.was)
