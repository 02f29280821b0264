use Rattle.std.proofs.Common.{ℕ, List, Option, nat_lt, subst}
use Rattle.std.specs.Prelude.{IfSome}
use Rattle.std.proofs.lemmas.Bool.{not-false, not-true}
use Rattle.std.proofs.lemmas.Option.{IfSome_then}
use Rattle.std.proofs.lemmas.List.{length-map}
use Rattle.dg_ask.specs.HeldIndex.{point_over, points_over}
use Rattle.dg_graph.specs.declared.element.Element.{Element}
use Rattle.dg_history.specs.History.{History}
use Rattle.dg_index.specs.OpenedIndex.{Opening, event_total}
use Rattle.dg_messages.specs.Calls.{HearsOver, TakesHeard, TellsMessageDamage}
use Rattle.dg_retrieval.proofs.CallRecords.{of_both, of_three}
use Rattle.dg_retrieval.specs.Retrieval.{IsOver}
use Rattle.dg_session.proofs.MessageLeads.{heard_damage, heard_leads, heard_over, plain_leads, plain_over, tree_fails}
use Rattle.dg_session.proofs.retrieval.leads_at.Goals as goal

pub tree_leads-requires-clause-over : goal.tree_leads-requires-clause-over
tree_leads-requires-clause-over g c =
    record { image = c.requires.image; edges = (nat_lt 0 (event_total c.args.index.now.opening.batches), c.requires.edges.0, c.requires.edges.1, c.requires.edges.2) }

pub returns-in-Err-clause-over : goal.returns-in-Err-clause-over
returns-in-Err-clause-over g c =
    let o : Opening = c.args.index.now.opening in
    IfSome_then (g.D.Disk.image c.args.disk.now) c.in-Err.ensures.over
    (λ image over z now is. tree_fails c.args.name_count c.args.recent.now c.args.planner.now.edges o (points_over o c.args.recent.now c.args.times.now) c.args.times.now c.args.cols
    z now (g.D.Disk.taken c.args.disk.now) (g.D.Disk.taken c.tree_leads.new.disk) c.in-Err.fault (over z now is))

pub returns-then-not-cols-clause-done : goal.returns-then-not-cols-clause-done
returns-then-not-cols-clause-done g c =
    let o : Opening = c.args.index.now.opening in
    plain_leads c.args.name_count c.args.recent.now c.args.planner.now.edges o (points_over o c.args.recent.now c.args.times.now) c.args.times.now c.args.cols (not-true c.args.cols.transient c.if-not-cols.true)
    c.in-Ok.retrieved (length-map c.args.times.now (point_over o c.args.recent.now)) c.in-Ok.ensures.done

pub returns-then-not-cols-clause-over : goal.returns-then-not-cols-clause-over
returns-then-not-cols-clause-over g c =
    let o : Opening = c.args.index.now.opening in
    IfSome_then (g.D.Disk.image c.args.disk.now) c.in-Ok.ensures.over
    (λ image over z now is. plain_over c.args.name_count c.args.recent.now c.args.planner.now.edges o (points_over o c.args.recent.now c.args.times.now) c.args.times.now c.args.cols (not-true c.args.cols.transient c.if-not-cols.true)
    z now (g.D.Disk.taken c.args.disk.now) (g.D.Disk.taken c.tree_leads.new.disk) c.in-Ok.retrieved (over z now is))

pub returns-clause-done : goal.returns-clause-done
returns-clause-done g c =
    let o : Opening = c.args.index.now.opening in
    heard_leads c.args.name_count c.args.recent.now c.args.planner.now.edges o (points_over o c.args.recent.now c.args.times.now) c.args.times.now c.args.cols (not-false c.args.cols.transient c.if-not-cols.false) c.in-Ok.retrieved c.in-Ok.ensures.done
    (g.D.Disk.image c.tree_leads.new.disk) c.hear.result
    c.hear.ensures.done

pub returns-clause-over : goal.returns-clause-over
returns-clause-over g c =
    let o : Opening = c.args.index.now.opening in
    let same_image = c.tree_leads.ensures.reads.disk.same_image in
    let Hears : Option (List ℕ) → Type 0 = λ told. IfSome told (λ image. (z : History) (now : List Element) → IsOver z image o c.args.name_count now c.args.recent.now
    → HearsOver z c.args.times.now c.in-Ok.retrieved c.hear.result) in
    let Taking : Option (List ℕ) → Type 0 = λ told. IfSome told (λ image. TakesHeard o c.args.times.now (g.D.Disk.taken c.tree_leads.new.disk) (g.D.Disk.taken c.hear.new.disk) c.hear.result) in
    let hears : Hears (g.D.Disk.image c.args.disk.now) = subst Hears same_image c.hear.ensures.over in
    let taking : Taking (g.D.Disk.image c.args.disk.now) = subst Taking same_image c.hear.ensures.takes in
    of_three (g.D.Disk.image c.args.disk.now) c.in-Ok.ensures.over hears taking
    (λ image over hears takes z now is. heard_over c.args.name_count c.args.recent.now c.args.planner.now.edges o (points_over o c.args.recent.now c.args.times.now) c.args.times.now c.args.cols (not-false c.args.cols.transient c.if-not-cols.false)
    c.in-Ok.retrieved c.in-Ok.ensures.done z image now (g.D.Disk.image c.tree_leads.new.disk) (g.D.Disk.taken c.args.disk.now) (g.D.Disk.taken c.tree_leads.new.disk) (g.D.Disk.taken c.hear.new.disk) c.hear.result is
    (over z now is) c.hear.ensures.done (hears z now is) takes)

pub returns-clause-damage : goal.returns-clause-damage
returns-clause-damage g c =
    let o : Opening = c.args.index.now.opening in
    let Tells : Option (List ℕ) → Type 0 = λ told. IfSome told (λ image. TellsMessageDamage c.args.name_count o c.args.times.now image c.hear.result) in
    let tells : Tells (g.D.Disk.image c.args.disk.now) = subst Tells c.tree_leads.ensures.reads.disk.same_image c.hear.ensures.damage in
    of_both (g.D.Disk.image c.args.disk.now) c.in-Ok.ensures.damage tells
    (λ image undamaged tells. heard_damage c.args.name_count c.args.recent.now c.args.planner.now.edges o (points_over o c.args.recent.now c.args.times.now) c.args.times.now c.args.cols (not-false c.args.cols.transient c.if-not-cols.false)
    c.in-Ok.retrieved c.in-Ok.ensures.done image c.hear.result undamaged tells)
