use Rattle.std.proofs.Common.{◌≡◌, ◌≤◌, ◌++◌, List, Ok, length, get_or, sym, subst}
use Rattle.std.specs.List.{All}
use Rattle.std.proofs.lemmas.List.Elements.{All-append}
use Rattle.dg_disk.proofs.FrameLemmas.{reads_then}
use Rattle.dg_columns.specs.NamesInRange.{NamesFit}
use Rattle.dg_file.specs.Images.{IsOpenedAs}
use Rattle.dg_graph.specs.declared.event.Event.{Event}
use Rattle.dg_index.specs.OpenedIndex.{Opening}
use Rattle.dg_plan.specs.HistoryGraph.{all_columns}
use Rattle.dg_records.specs.ColumnReads.{Takes, TakesAtMost, asked_length, kept_in}
use Rattle.dg_records.specs.EventNames.{BodyHasNamesThere, EventNamesAreThere}
use Rattle.dg_start.specs.declared.event_source.EventSource.{EventSource}
use Rattle.dg_start.specs.declared.fault.StartFault.{StartFault}
use Rattle.dg_start.specs.declared.fault.StartFault.TheVariants as fault
use Rattle.dg_start.specs.Faults.{start_fault_of}
use Rattle.dg_start.specs.RecentEvents.{Source, events_in_source, events_in_sources}
use Rattle.dg_start.specs.EventSources.{WhereTold, source_of, sources_in}
use Rattle.dg_start.specs.Refusals.{IsReason}
use Rattle.dg_start.proofs.EventSourceBytes.{takes_less}
use Rattle.dg_start.proofs.RecentEventSources.{IsNextSource, added_so, all_parted, all_read, all_taken, next_fails, next_source, no_source, past_all, source_read, source_refused}
use Rattle.dg_start.proofs.EventSourceOutcomes.{err_is, said_before, told_weaker}
use Rattle.dg_start.proofs.source_events.read_sources.Goals as goal

pub read_record-requires-clause-image : goal.read_record-requires-clause-image
read_record-requires-clause-image g c =
    told_weaker (g.D.Disk.image c.args.disk.now) (g.D.Disk.image c.loop-source.disk) (λ image. IsOpenedAs image c.args.index.now.opening) (λ image. IsOpenedAs image c.args.index.now.opening)
    c.loop-source.invariant.frame.same_image (λ image h. h) c.requires.image

pub returns-in_err-more-clause-refused : goal.returns-in_err-more-clause-refused
returns-in_err-more-clause-refused g c =
    let o : Opening = c.args.index.now.opening in
    let all : List Source = sources_in c.args.sources.now in
    let item : EventSource = get_or c.args.sources.now c.loop-source.source-index no_source in
    let next : IsNextSource all c.loop-source.source-index (source_of item) = next_source c.args.sources.now c.loop-source.source-index no_source c.loop-source-test.true in
    let told = g.D.Disk.image c.args.disk.now in
    err_is c.from_residual.result (start_fault_of c.in_err-more.field-0.0) (λ (f : StartFault). WhereTold told (λ image. IsReason f (events_in_sources image c.args.names o all))) c.from_residual.ensures
    (source_refused told c.args.names o all c.loop-source.source-index (source_of item) next c.loop-source.events.items (g.D.Disk.taken c.args.disk.now) (g.D.Disk.taken c.loop-source.disk)
    (start_fault_of c.in_err-more.field-0.0) c.loop-source.invariant.so_far
    (said_before (g.D.Disk.image c.loop-source.disk) told (λ image. IsReason (start_fault_of c.in_err-more.field-0.0) (events_in_source image c.args.names o (source_of item)))
    c.loop-source.invariant.frame.same_image c.in_err-more.ensures.refused))

pub loop-source-preserved : goal.loop-source-preserved
loop-source-preserved g c =
    let o : Opening = c.args.index.now.opening in
    let all : List Source = sources_in c.args.sources.now in
    let item : EventSource = get_or c.args.sources.now c.loop-source.source-index no_source in
    let next : IsNextSource all c.loop-source.source-index (source_of item) = next_source c.args.sources.now c.loop-source.source-index no_source c.loop-source-test.true in
    let told = g.D.Disk.image c.args.disk.now in
    let added : c.extend_from_slice.new.self.items ≡ c.loop-source.events.items ++ c.in_ok-more.more.items =
    added_so c.loop-source.events.items c.in_ok-more.more.items c.extend_from_slice.new.self.items c.deref.result.now c.in_ok-extend_from_slice.ensures.items c.deref.ensures.value in
    record {
      frame = reads_then c.loop-source.invariant.frame c.read_record.ensures.disk;
      so_far =
          source_read told c.args.names o all c.loop-source.source-index (source_of item) next c.loop-source.events.items c.in_ok-more.more.items c.extend_from_slice.new.self.items
          (g.D.Disk.taken c.args.disk.now) (g.D.Disk.taken c.loop-source.disk) (g.D.Disk.taken c.read_record.new.disk) c.loop-source.invariant.so_far
          (said_before (g.D.Disk.image c.loop-source.disk) told (λ image. events_in_source image c.args.names o (source_of item) ≡ Ok c.in_ok-more.more.items)
          c.loop-source.invariant.frame.same_image c.in_ok-more.ensures.done.read)
          c.in_ok-more.ensures.done.many c.in_ok-more.ensures.done.rises
          (said_before (g.D.Disk.image c.loop-source.disk) told
          (λ image. Takes (asked_length (kept_in image o) all_columns item.key) (g.D.Disk.taken c.loop-source.disk) (g.D.Disk.taken c.read_record.new.disk))
          c.loop-source.invariant.frame.same_image c.in_ok-more.ensures.takes)
          added;
      fit = subst (λ (es : List Event). All (λ (e : Event). NamesFit e.body) es) (sym added)
          (All-append (λ (e : Event). NamesFit e.body) c.loop-source.events.items c.in_ok-more.more.items c.loop-source.invariant.fit c.in_ok-more.ensures.done.fit);
      named = subst (EventNamesAreThere c.args.names) (sym added)
          (All-append (λ (e : Event). BodyHasNamesThere c.args.names e.body) c.loop-source.events.items c.in_ok-more.more.items c.loop-source.invariant.named c.in_ok-more.ensures.done.named);
    }

pub returns-in_err-more-clause-takes : goal.returns-in_err-more-clause-takes
returns-in_err-more-clause-takes g c =
    let o : Opening = c.args.index.now.opening in
    let all : List Source = sources_in c.args.sources.now in
    let item : EventSource = get_or c.args.sources.now c.loop-source.source-index no_source in
    let next : IsNextSource all c.loop-source.source-index (source_of item) = next_source c.args.sources.now c.loop-source.source-index no_source c.loop-source-test.true in
    let told = g.D.Disk.image c.args.disk.now in
    let now = g.D.Disk.taken c.loop-source.disk in
    let after = g.D.Disk.taken c.read_record.new.disk in
    next_fails told c.args.names o all c.loop-source.source-index (source_of item) next c.from_residual.result (start_fault_of c.in_err-more.field-0.0) c.loop-source.events.items
    (g.D.Disk.taken c.args.disk.now) now after c.from_residual.ensures c.loop-source.invariant.so_far
    (said_before (g.D.Disk.image c.loop-source.disk) told (λ image. TakesAtMost (asked_length (kept_in image o) all_columns item.key) now after)
    c.loop-source.invariant.frame.same_image c.in_err-more.ensures.takes)

pub returns-in_err-extend_from_slice-clause-takes : goal.returns-in_err-extend_from_slice-clause-takes
returns-in_err-extend_from_slice-clause-takes g c =
    let o : Opening = c.args.index.now.opening in
    let all : List Source = sources_in c.args.sources.now in
    let item : EventSource = get_or c.args.sources.now c.loop-source.source-index no_source in
    let next : IsNextSource all c.loop-source.source-index (source_of item) = next_source c.args.sources.now c.loop-source.source-index no_source c.loop-source-test.true in
    let told = g.D.Disk.image c.args.disk.now in
    let now = g.D.Disk.taken c.loop-source.disk in
    let after = g.D.Disk.taken c.read_record.new.disk in
    next_fails told c.args.names o all c.loop-source.source-index (source_of item) next c.from_residual-in_err-extend_from_slice.result fault.Memory c.loop-source.events.items
    (g.D.Disk.taken c.args.disk.now) now after c.from_residual-in_err-extend_from_slice.ensures c.loop-source.invariant.so_far
    (said_before (g.D.Disk.image c.loop-source.disk) told (λ image. TakesAtMost (asked_length (kept_in image o) all_columns item.key) now after)
    c.loop-source.invariant.frame.same_image
    (λ image is. takes_less (asked_length (kept_in image o) all_columns item.key) now after (c.in_ok-more.ensures.takes image is)))

pub returns-clause-done : goal.returns-clause-done
returns-clause-done g c =
    let o : Opening = c.args.index.now.opening in
    let all : List Source = sources_in c.args.sources.now in
    let told = g.D.Disk.image c.args.disk.now in
    let past : length all ≤ c.loop-source.source-index = past_all c.args.sources.now c.loop-source.source-index c.loop-source-test.false in
    record {
      read = all_read told c.args.names o all c.loop-source.source-index c.loop-source.events.items (g.D.Disk.taken c.args.disk.now) (g.D.Disk.taken c.loop-source.disk) c.loop-source.invariant.so_far past;
      parted = all_parted told c.args.names o all c.loop-source.source-index c.loop-source.events.items (g.D.Disk.taken c.args.disk.now) (g.D.Disk.taken c.loop-source.disk) c.loop-source.invariant.so_far past;
      fit = c.loop-source.invariant.fit;
      named = c.loop-source.invariant.named;
    }

pub returns-clause-takes : goal.returns-clause-takes
returns-clause-takes g c =
    let all : List Source = sources_in c.args.sources.now in
    all_taken (g.D.Disk.image c.args.disk.now) c.args.names c.args.index.now.opening all c.loop-source.source-index c.loop-source.events.items (g.D.Disk.taken c.args.disk.now) (g.D.Disk.taken c.loop-source.disk)
    c.loop-source.invariant.so_far (past_all c.args.sources.now c.loop-source.source-index c.loop-source-test.false)
