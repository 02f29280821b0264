use Rattle.std.proofs.Common.{ℕ, length, sym, ap, subst, ◌∙◌}
use Rattle.dg_history.specs.declared.node.Key.TheVariants as key
use Rattle.dg_history.specs.declared.params.Params.{Params}
use Rattle.dg_history.proofs.ParameterRanges.{in_range}
use Rattle.dg_index.specs.OpenedIndex.{entry_at}
use Rattle.dg_records.specs.EventNames.{EventNamesAreThere}
use Rattle.dg_sound.specs.OwnEvents.{events_of_record, have_ends, with_list}
use Rattle.dg_start.specs.EventSources.{WhereTold}
use Rattle.dg_start.proofs.EventSourceOutcomes.{err_is}
use Rattle.dg_verify.specs.declared.stop.Stop.{Stop}
use Rattle.dg_verify.specs.EventTests.{IsStopBehind, tested}
use Rattle.dg_verify.specs.Verification.{IsStop, keyed, opened_with}
use Rattle.dg_verify.proofs.EventTestLists.{list_held}
use Rattle.dg_verify.proofs.VerificationRecords.{record_stops}
use Rattle.dg_verify.proofs.EventTestRecords.{stops_behind}
use Rattle.dg_verify.proofs.lists.add_list.Goals as goal

pub read_events-requires-clause-held : goal.read_events-requires-clause-held
read_events-requires-clause-held g c =
    let o = c.args.index.now.opening in
    let range = in_range o.params.l o.params.k c.facts.ensures.parameters in
    list_held o c.args.number range.list_some range.arity_two c.facts.ensures.kept c.requires.closed

pub returns-in_err-events-clause-stopped : goal.returns-in_err-events-clause-stopped
returns-in_err-events-clause-stopped g c =
    let o = c.args.index.now.opening in
    let x = opened_with o c.args.names.now in
    let k = key.List c.args.number in
    let s : Stop = c.in_err-events.field-0.0 in
    err_is c.from_residual.result s
    (λ (s : Stop). WhereTold (g.D.Disk.image c.args.disk.now)
    (λ image. IsStopBehind c.args.names.now c.args.own.now s (tested c.args.names.now c.args.own.now (with_list image x c.args.own.now.events.items c.args.number))))
    c.from_residual.ensures
    (λ image h. stops_behind s c.args.names.now c.args.own.now (with_list image x c.args.own.now.events.items c.args.number)
    (record_stops s c.args.names.now k (have_ends (entry_at o k).ends) c.args.own.now.events.items (events_of_record image x k o.params.l)
    (subst (λ (n : ℕ). IsStop s (keyed k (events_of_record image x k n))) (c.from-size.ensures ∙ ap (λ (p : Params). p.l) c.params.ensures) (c.in_err-events.ensures.stopped image h))))

pub returns-clause-read : goal.returns-clause-read
returns-clause-read g c =
    c.in_ok-add.ensures.read (length c.args.names.now) c.requires.read (subst (EventNamesAreThere (length c.args.names.now)) (sym c.deref.ensures.value) c.in_ok-events.ensures.named)
