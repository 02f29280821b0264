use Rattle.std.proofs.Common.{◌≡◌, List, [], ◌∷◌, None, length, map, refl, sym, ◌∙◌, ap, subst, arith}
use Rattle.std.specs.Prelude.{IfSome}
use Rattle.std.specs.List.{All}
use Rattle.std.proofs.lemmas.List.{length-map}
use Rattle.dg_batch.specs.declared.halt.Halt.TheVariants as halt
use Rattle.dg_batch.specs.Halt.{retrieval_halt}
use Rattle.dg_expr.specs.Expressions.{instants_of, words_of}
use Rattle.dg_fold.specs.Parts.{graph_columns}
use Rattle.dg_graph.specs.Elements.{shown}
use Rattle.dg_handles.specs.Handles.{with_messages}
use Rattle.dg_machine.specs.Answer.{headed}
use Rattle.dg_machine.specs.declared.command.Command.{Command}
use Rattle.dg_machine.specs.declared.command.Command.TheVariants as command
use Rattle.dg_machine.specs.declared.reply.Head.TheVariants as head
use Rattle.dg_machine.specs.declared.reply.Refusal.TheVariants as refusal
use Rattle.dg_machine.specs.declared.reply.Reply.{Reply}
use Rattle.dg_machine.specs.declared.reply.Reply.TheVariants as replied
use Rattle.dg_machine.specs.declared.selection.Selection.TheVariants.{Chosen}
use Rattle.dg_machine.specs.declared.stands.Shown.TheVariants.{Selected}
use Rattle.dg_machine.specs.MachineState.{MachineState}
use Rattle.dg_machine.specs.Needs.{needs}
use Rattle.dg_retrieval.specs.Beginnings.{GraphLead, base_handle, leads_in, led_to}
use Rattle.dg_retrieval.specs.NamesThere.{NamesAreThere}
use Rattle.dg_session.proofs.DamageStep.{damage_in, none_met, tells_no_damage}
use Rattle.dg_session.proofs.SessionLeads.{most_of, never_of, retrieved_of, taken_of}
use Rattle.dg_session.proofs.SessionRetrievals.{reads_exactly, reads_failing, reads_unasked, retrieval_failed, retrieval_free, without_handles}
use Rattle.dg_session.proofs.SessionSelectionStep.{chosen_answers, chosen_fails}
use Rattle.dg_session.proofs.SessionSteps.{handed_out, lacking_denies, refused_denies, refused_not_read}
use Rattle.dg_session.specs.Damage.{DamageIn, DamageIs, MeetsNone, MeetsOver, Reads_along, graph_readings, reads_for}
use Rattle.dg_session.specs.Parts.{Parts}
use Rattle.dg_session.specs.Reads.{IsRetrieved, Reads, ReadsIn, TakesAtMostRetrieval, bases_of, listed_by, with_new_handles}
use Rattle.dg_session.specs.Session.{ComesTo, StandsFor, refused_by, retrieval_needs}
use Rattle.dg_session.specs.SessionState.{SessionState}
use Rattle.dg_session.proofs.session.Session.choose.Goals as goal

pub retrieve-requires-clause-few : goal.retrieve-requires-clause-few
retrieve-requires-clause-few g c = omega (arith, c.first_of-times.ensures.count, c.instants-instants.ensures.count)

pub retrieve-requires-clause-free : goal.retrieve-requires-clause-free
retrieve-requires-clause-free g c = without_handles c.args.self.now.parts c.first_of-times.result.now 1 (sym c.refused.ensures ∙ c.in_default.is)

pub chosen_of-requires-clause-leads : goal.chosen_of-requires-clause-leads
chosen_of-requires-clause-leads g c =
    let asked : c.first_of-times.result.now ≡ instants_of (words_of c.args.expr) = c.first_of-times.ensures.times ∙ c.instants-instants.ensures.times in
    c.in_ok-leads.ensures.done.count ∙ ap length asked

pub chosen_of-requires-clause-named : goal.chosen_of-requires-clause-named
chosen_of-requires-clause-named g c =
    subst (λ (x : SessionState). All (λ (l : GraphLead). NamesAreThere (length x.parts.names) l.delta.plus) (leads_in c.in_ok-leads.field-0.leads)) (sym c.retrieve.ensures.same) c.in_ok-leads.ensures.done.named

pub add_selected-requires-clause-room : goal.add_selected-requires-clause-room
add_selected-requires-clause-room g c =
    let room = retrieval_free c.args.self.now.parts c.first_of-times.result.now 1 (omega arith) (sym c.refused.ensures ∙ c.in_default.is) in
    omega (arith, room.2, ap (λ (x : SessionState). length x.parts.table) c.retrieve.ensures.same)

pub add_selected-requires-clause-numbers : goal.add_selected-requires-clause-numbers
add_selected-requires-clause-numbers g c =
    let room = retrieval_free c.args.self.now.parts c.first_of-times.result.now 1 (omega arith) (sym c.refused.ensures ∙ c.in_default.is) in
    omega (arith, room.3, ap (λ (x : SessionState). x.parts.next) c.retrieve.ensures.same)

pub returns-in-Some-clause-comes : goal.returns-in-Some-clause-comes
returns-in-Some-clause-comes g c =
    let p : Parts = c.args.self.now.parts in
    let asked : c.first_of-times.result.now ≡ instants_of (words_of c.args.expr) = c.first_of-times.ensures.times ∙ c.instants-instants.ensures.times in
    refused_denies (command.Select (Chosen c.args.expr) c.args.cols) [] p p (g.D.Disk.image c.args.disk.now) (g.D.Disk.image c.args.disk.now) c.in-Some.refusal refl refl
    (ap (λ ts. refused_by p 0 (retrieval_needs ts 1)) (sym asked) ∙ sym c.refused.ensures ∙ c.in-Some.is)

pub returns-in_err-leads-clause-comes : goal.returns-in_err-leads-clause-comes
returns-in_err-leads-clause-comes g c =
    let p : Parts = c.args.self.now.parts in
    let done : Command = command.Select (Chosen c.args.expr) c.args.cols in
    let asked : c.first_of-times.result.now ≡ instants_of (words_of c.args.expr) = c.first_of-times.ensures.times ∙ c.instants-instants.ensures.times in
    let none : refused_by p 0 (retrieval_needs (instants_of (words_of c.args.expr)) 1) ≡ None = ap (λ ts. refused_by p 0 (retrieval_needs ts 1)) (sym asked) ∙ sym c.refused.ensures ∙ c.in_default.is in
    handed_out c.from_residual.result (retrieval_halt c.in_err-leads.field-0.0)
    (ComesTo done [] p (g.D.Disk.image c.args.disk.now) c.retrieve.new.self.parts (g.D.Disk.image c.retrieve.new.disk)) c.from_residual.ensures
    (retrieval_failed done p c.retrieve.new.self.parts (g.D.Disk.image c.args.disk.now) (g.D.Disk.image c.retrieve.new.disk) c.in_err-leads.field-0.0 refl refl (λ m. refl)
    none (ap (λ (x : SessionState). x.parts) c.retrieve.ensures.same) c.retrieve.ensures.disk.same_image
    (never_of p c.first_of-times.result.now (graph_columns c.args.cols) (g.D.Disk.image c.args.disk.now) (g.D.Disk.taken c.args.disk.now) (g.D.Disk.taken c.retrieve.new.disk) c.in_err-leads.field-0.0 c.in_err-leads.ensures.over))

pub returns-in_err-elements-clause-comes : goal.returns-in_err-elements-clause-comes
returns-in_err-elements-clause-comes g c =
    let p : Parts = c.args.self.now.parts in
    let done : Command = command.Select (Chosen c.args.expr) c.args.cols in
    let asked : c.first_of-times.result.now ≡ instants_of (words_of c.args.expr) = c.first_of-times.ensures.times ∙ c.instants-instants.ensures.times in
    let none : refused_by p 0 (retrieval_needs (instants_of (words_of c.args.expr)) 1) ≡ None = ap (λ ts. refused_by p 0 (retrieval_needs ts 1)) (sym asked) ∙ sym c.refused.ensures ∙ c.in_default.is in
    handed_out c.from_residual-in_err-elements.result (halt.Refusal refusal.OutOfMemory)
    (ComesTo done [] p (g.D.Disk.image c.args.disk.now) c.retrieve.new.self.parts (g.D.Disk.image c.retrieve.new.disk)) c.from_residual-in_err-elements.ensures
    (lacking_denies done [] p c.retrieve.new.self.parts (g.D.Disk.image c.args.disk.now) (g.D.Disk.image c.retrieve.new.disk)
    (ap (λ (x : SessionState). x.parts) c.retrieve.ensures.same) c.retrieve.ensures.disk.same_image refl none)

pub returns-in_err-add_selected-clause-comes : goal.returns-in_err-add_selected-clause-comes
returns-in_err-add_selected-clause-comes g c =
    let p : Parts = c.args.self.now.parts in
    let done : Command = command.Select (Chosen c.args.expr) c.args.cols in
    let asked : c.first_of-times.result.now ≡ instants_of (words_of c.args.expr) = c.first_of-times.ensures.times ∙ c.instants-instants.ensures.times in
    let none : refused_by p 0 (retrieval_needs (instants_of (words_of c.args.expr)) 1) ≡ None = ap (λ ts. refused_by p 0 (retrieval_needs ts 1)) (sym asked) ∙ sym c.refused.ensures ∙ c.in_default.is in
    handed_out c.from_residual-in_err-add_selected.result (halt.Refusal refusal.OutOfMemory)
    (ComesTo done [] p (g.D.Disk.image c.args.disk.now) c.add_selected.new.self.parts (g.D.Disk.image c.retrieve.new.disk)) c.from_residual-in_err-add_selected.ensures
    (lacking_denies done [] p c.add_selected.new.self.parts (g.D.Disk.image c.args.disk.now) (g.D.Disk.image c.retrieve.new.disk)
    (c.in_err-add_selected.ensures.err ∙ ap (λ (x : SessionState). x.parts) c.retrieve.ensures.same) c.retrieve.ensures.disk.same_image refl none)

pub returns-clause-comes : goal.returns-clause-comes
returns-clause-comes g c =
    let p : Parts = c.args.self.now.parts in
    let image = g.D.Disk.image c.args.disk.now in
    let r = c.in_ok-leads.field-0 in
    let e = c.args.expr in
    let cols = c.args.cols in
    let leads : List GraphLead = leads_in r.leads in
    let asked : c.first_of-times.result.now ≡ instants_of (words_of e) = c.first_of-times.ensures.times ∙ c.instants-instants.ensures.times in
    let none : refused_by p 0 (retrieval_needs (instants_of (words_of e)) 1) ≡ None = ap (λ ts. refused_by p 0 (retrieval_needs ts 1)) (sym asked) ∙ sym c.refused.ensures ∙ c.in_default.is in
    let same : c.retrieve.new.self.parts ≡ p = ap (λ (x : SessionState). x.parts) c.retrieve.ensures.same in
    let number : c.next-handle.result ≡ p.next = c.next-handle.ensures.next ∙ ap (λ (x : SessionState). x.parts.next) (c.self.view_is ∙ c.retrieve.ensures.same) in
    chosen_answers c.law_chosen_elements_are_shown.ensures p e cols none c.add_selected.new.self.parts image (g.D.Disk.image c.retrieve.new.disk) r.weight r.singles.items (bases_of leads)
    (map (led_to p.graph (listed_by p) (graph_columns cols)) leads) c.in_ok-elements.elements c.headed.result c.retrieve.ensures.disk.same_image
    (subst (λ ts. IfSome image (λ bytes. (m : MachineState) → StandsFor p bytes m → IsRetrieved m ts (graph_columns cols) r.weight r.singles.items (bases_of leads) (map (led_to p.graph (listed_by p) (graph_columns cols)) leads))) asked
    (retrieved_of p c.first_of-times.result.now (graph_columns cols) image (g.D.Disk.taken c.args.disk.now) (g.D.Disk.taken c.retrieve.new.disk) r c.in_ok-leads.ensures.over))
    (length-map leads (λ (l : GraphLead). base_handle l.begins) ∙ c.in_ok-leads.ensures.done.count ∙ ap length asked)
    (λ graph all. c.in_ok-elements.ensures.chosen graph (ap (λ (x : Parts). map (led_to x.graph (listed_by x) (graph_columns cols)) leads) same ∙ all))
    (c.in_ok-add_selected.ensures.added ∙ (λ i. with_new_handles (same i) (record { what = Selected (Chosen e); cols = cols } ∷ []) (shown c.in_ok-elements.elements (with_messages cols) ∷ [])))
    (c.headed.ensures ∙ ap (λ n. headed (head.Chosen n r.weight)) number)

pub returns-in-Some-clause-file : goal.returns-in-Some-clause-file
returns-in-Some-clause-file g c =
    let p : Parts = c.args.self.now.parts in
    let done : Command = command.Select (Chosen c.args.expr) c.args.cols in
    let asked : c.first_of-times.result.now ≡ instants_of (words_of c.args.expr) = c.first_of-times.ensures.times ∙ c.instants-instants.ensures.times in
    record {
      damaged = tells_no_damage done p (g.D.Disk.image c.args.disk.now) c.in-Some.refusal
          (refused_not_read p 0 (needs done) c.in-Some.refusal (ap (λ ts. refused_by p 0 (retrieval_needs ts 1)) (sym asked) ∙ sym c.refused.ensures ∙ c.in-Some.is));
      undamaged = tt;
      reads = reads_unasked done p (g.D.Disk.image c.args.disk.now) c.in-Some.refusal (g.D.Disk.taken c.args.disk.now) (λ m got plan planned. omega arith);
    }

pub returns-in_err-leads-clause-file : goal.returns-in_err-leads-clause-file
returns-in_err-leads-clause-file g c =
    let p : Parts = c.args.self.now.parts in
    let image = g.D.Disk.image c.args.disk.now in
    let done : Command = command.Select (Chosen c.args.expr) c.args.cols in
    let asked : c.first_of-times.result.now ≡ instants_of (words_of c.args.expr) = c.first_of-times.ensures.times ∙ c.instants-instants.ensures.times in
    let none : refused_by p 0 (retrieval_needs (instants_of (words_of c.args.expr)) 1) ≡ None = ap (λ ts. refused_by p 0 (retrieval_needs ts 1)) (sym asked) ∙ sym c.refused.ensures ∙ c.in_default.is in
    record {
      damaged = handed_out c.from_residual.result (retrieval_halt c.in_err-leads.field-0.0) (λ r. DamageIn done p image r) c.from_residual.ensures
          (damage_in done (graph_readings c.first_of-times.result.now (graph_columns c.args.cols)) p image c.in_err-leads.field-0.0
          (ap (λ ts. Reads_along (graph_readings ts (graph_columns c.args.cols))) (sym asked)) c.in_err-leads.ensures.damage);
      undamaged = none_met c.from_residual.result (MeetsNone (reads_for done) p image) c.from_residual.ensures.0;
      reads = handed_out c.from_residual.result (retrieval_halt c.in_err-leads.field-0.0)
          (λ r. ReadsIn done p image r (g.D.Disk.taken c.args.disk.now) (g.D.Disk.taken c.retrieve.new.disk)) c.from_residual.ensures
          (reads_failing done p image c.in_err-leads.field-0.0 (g.D.Disk.taken c.args.disk.now) (g.D.Disk.taken c.retrieve.new.disk)
          (λ h refuses late. chosen_fails c.law_chosen_elements_are_shown.ensures p c.args.expr c.args.cols none image h (g.D.Disk.taken c.args.disk.now) (g.D.Disk.taken c.retrieve.new.disk) refuses late
          (subst (λ ts. IfSome image (λ bytes. (m : MachineState) → StandsFor p bytes m → TakesAtMostRetrieval m ts (graph_columns c.args.cols) (g.D.Disk.taken c.args.disk.now) (g.D.Disk.taken c.retrieve.new.disk))) asked
          (most_of p c.first_of-times.result.now (graph_columns c.args.cols) image (g.D.Disk.taken c.args.disk.now) (g.D.Disk.taken c.retrieve.new.disk) c.retrieve.result c.retrieve.ensures.over))));
    }

pub returns-in_err-elements-clause-file : goal.returns-in_err-elements-clause-file
returns-in_err-elements-clause-file g c =
    let p : Parts = c.args.self.now.parts in
    let image = g.D.Disk.image c.args.disk.now in
    let done : Command = command.Select (Chosen c.args.expr) c.args.cols in
    let asked : c.first_of-times.result.now ≡ instants_of (words_of c.args.expr) = c.first_of-times.ensures.times ∙ c.instants-instants.ensures.times in
    let none : refused_by p 0 (retrieval_needs (instants_of (words_of c.args.expr)) 1) ≡ None = ap (λ ts. refused_by p 0 (retrieval_needs ts 1)) (sym asked) ∙ sym c.refused.ensures ∙ c.in_default.is in
    record {
      damaged = handed_out c.from_residual-in_err-elements.result (halt.Refusal refusal.OutOfMemory) (λ r. DamageIn done p image r) c.from_residual-in_err-elements.ensures tt;
      undamaged = none_met c.from_residual-in_err-elements.result (MeetsNone (reads_for done) p image) c.from_residual-in_err-elements.ensures.0;
      reads = handed_out c.from_residual-in_err-elements.result (halt.Refusal refusal.OutOfMemory)
          (λ r. ReadsIn done p image r (g.D.Disk.taken c.args.disk.now) (g.D.Disk.taken c.retrieve.new.disk)) c.from_residual-in_err-elements.ensures
          (chosen_fails c.law_chosen_elements_are_shown.ensures p c.args.expr c.args.cols none image (replied.Refused refusal.OutOfMemory) (g.D.Disk.taken c.args.disk.now) (g.D.Disk.taken c.retrieve.new.disk) refl refl
          (subst (λ ts. IfSome image (λ bytes. (m : MachineState) → StandsFor p bytes m → TakesAtMostRetrieval m ts (graph_columns c.args.cols) (g.D.Disk.taken c.args.disk.now) (g.D.Disk.taken c.retrieve.new.disk))) asked
          (most_of p c.first_of-times.result.now (graph_columns c.args.cols) image (g.D.Disk.taken c.args.disk.now) (g.D.Disk.taken c.retrieve.new.disk) c.retrieve.result c.retrieve.ensures.over)));
    }

pub returns-in_err-add_selected-clause-file : goal.returns-in_err-add_selected-clause-file
returns-in_err-add_selected-clause-file g c =
    let p : Parts = c.args.self.now.parts in
    let image = g.D.Disk.image c.args.disk.now in
    let done : Command = command.Select (Chosen c.args.expr) c.args.cols in
    let asked : c.first_of-times.result.now ≡ instants_of (words_of c.args.expr) = c.first_of-times.ensures.times ∙ c.instants-instants.ensures.times in
    let none : refused_by p 0 (retrieval_needs (instants_of (words_of c.args.expr)) 1) ≡ None = ap (λ ts. refused_by p 0 (retrieval_needs ts 1)) (sym asked) ∙ sym c.refused.ensures ∙ c.in_default.is in
    record {
      damaged = handed_out c.from_residual-in_err-add_selected.result (halt.Refusal refusal.OutOfMemory) (λ r. DamageIn done p image r) c.from_residual-in_err-add_selected.ensures tt;
      undamaged = none_met c.from_residual-in_err-add_selected.result (MeetsNone (reads_for done) p image) c.from_residual-in_err-add_selected.ensures.0;
      reads = handed_out c.from_residual-in_err-add_selected.result (halt.Refusal refusal.OutOfMemory)
          (λ r. ReadsIn done p image r (g.D.Disk.taken c.args.disk.now) (g.D.Disk.taken c.retrieve.new.disk)) c.from_residual-in_err-add_selected.ensures
          (chosen_fails c.law_chosen_elements_are_shown.ensures p c.args.expr c.args.cols none image (replied.Refused refusal.OutOfMemory) (g.D.Disk.taken c.args.disk.now) (g.D.Disk.taken c.retrieve.new.disk) refl refl
          (subst (λ ts. IfSome image (λ bytes. (m : MachineState) → StandsFor p bytes m → TakesAtMostRetrieval m ts (graph_columns c.args.cols) (g.D.Disk.taken c.args.disk.now) (g.D.Disk.taken c.retrieve.new.disk))) asked
          (most_of p c.first_of-times.result.now (graph_columns c.args.cols) image (g.D.Disk.taken c.args.disk.now) (g.D.Disk.taken c.retrieve.new.disk) c.retrieve.result c.retrieve.ensures.over)));
    }

pub returns-clause-file : goal.returns-clause-file
returns-clause-file g c =
    let p : Parts = c.args.self.now.parts in
    let image = g.D.Disk.image c.args.disk.now in
    let done : Command = command.Select (Chosen c.args.expr) c.args.cols in
    let read = graph_columns c.args.cols in
    let asked : c.first_of-times.result.now ≡ instants_of (words_of c.args.expr) = c.first_of-times.ensures.times ∙ c.instants-instants.ensures.times in
    record {
      damaged = subst (DamageIs done p image) (sym c.headed.ensures) tt;
      undamaged = subst (λ ts. MeetsOver (graph_readings ts read) p image None) asked c.in_ok-leads.ensures.damage;
      reads = subst (λ (x : Reply). Reads done p image x (g.D.Disk.taken c.args.disk.now) (g.D.Disk.taken c.retrieve.new.disk)) (sym c.headed.ensures)
          (reads_exactly done p image _ (g.D.Disk.taken c.args.disk.now) (g.D.Disk.taken c.retrieve.new.disk) refl refl (λ m got takes. takes)
          (taken_of p c.first_of-times.result.now read image (g.D.Disk.taken c.args.disk.now) (g.D.Disk.taken c.retrieve.new.disk) c.in_ok-leads.field-0 c.in_ok-leads.ensures.over));
    }
