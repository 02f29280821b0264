use Rattle.std.proofs.Common.{◌≡◌, ℕ, List, Result, Ok, Err, None, refl, sym, ◌∙◌, ap, subst, arith}
use Rattle.std.specs.Prelude.{IfSome, length}
use Rattle.dg_disk.proofs.FrameLemmas.{reads_then}
use Rattle.dg_graph.specs.declared.element.Element.{Element}
use Rattle.dg_graph.specs.declared.event.Event.{Event}
use Rattle.dg_graph.specs.Replay.{replay_from}
use Rattle.dg_index.specs.OpenedIndex.{Opening}
use Rattle.dg_records.specs.ColumnReads.{Takes, TakesAtMost}
use Rattle.dg_records.specs.EventNames.{EventNamesAreThere}
use Rattle.dg_retrieval.specs.NamesThere.{NamesAreThere}
use Rattle.dg_retrieval.specs.NodeSets.{IsLedByPlan}
use Rattle.dg_retrieval.proofs.NamesThere.{replay_there}
use Rattle.dg_retrieval.proofs.ValueRanges.{values_fit}
use Rattle.dg_start.specs.declared.event_source.EventSource.{EventSource}
use Rattle.dg_start.specs.declared.fault.StartFault.{StartFault}
use Rattle.dg_start.specs.declared.fault.StartFault.TheVariants as fault
use Rattle.dg_start.specs.Calls.{TakesAlongPlan, current_bytes, plan_bytes}
use Rattle.dg_start.specs.RecentEvents.{events_in_sources, first_wrong_event}
use Rattle.dg_start.specs.EventSources.{ArePartedBy, WhereTold, bounded, bytes_in_sources, sources_in}
use Rattle.dg_start.specs.Refusals.{IsReason, RefusesEvents, RefusesPlan}
use Rattle.dg_start.specs.SessionStart.{RefusesStart, first_recent, last_leaf}
use Rattle.dg_start.proofs.SessionStartSets.{plan_handed, plan_unread}
use Rattle.dg_start.proofs.SessionStartOutcomes.{current_takes, event_refused, is_started, plan_refused, recent_fails, record_refused, recent_goes_on, recent_many, tested_before}
use Rattle.dg_start.proofs.EventSourceOutcomes.{err_is, seen_before}
use Rattle.dg_start.proofs.opening.read_current.Goals as goal

pub returns-in_err-recent-clause-refused : goal.returns-in_err-recent-clause-refused
returns-in_err-recent-clause-refused g c =
    let o : Opening = c.args.index.now.opening in
    let found : List EventSource = c.in_ok-sources.sources.items in
    let told = g.D.Disk.image c.args.disk.now in
    err_is c.from_residual-in_err-recent.result c.in_err-recent.field-0.0 (λ (f : StartFault). IfSome told (λ image. RefusesStart f image)) c.from_residual-in_err-recent.ensures
    (record_refused c.args.names.now o told c.requires.image found c.in_ok-sources.ensures.are c.in_err-recent.field-0.0
    (λ image h. subst (λ (n : ℕ). IsReason c.in_err-recent.field-0.0 (events_in_sources image n o (sources_in found))) c.len.ensures.len
    (subst (λ (l : List EventSource). IsReason c.in_err-recent.field-0.0 (events_in_sources image c.len.result o (sources_in l))) c.deref.ensures.value
    (c.in_err-recent.ensures.refused image h))))

pub returns-in_err-set-clause-refused : goal.returns-in_err-set-clause-refused
returns-in_err-set-clause-refused g c =
    let o : Opening = c.args.index.now.opening in
    let found : List EventSource = c.in_ok-sources.sources.items in
    let recent : List Event = c.in_ok-recent.recent.items in
    let told = g.D.Disk.image c.args.disk.now in
    let f : StartFault = c.in_err-set.field-0.0 in
    err_is c.from_residual-in_err-set.result f (λ (f : StartFault). IfSome told (λ image. RefusesStart f image)) c.from_residual-in_err-set.ensures
    (plan_refused c.args.names.now o told c.requires.image found c.in_ok-sources.ensures.are recent
    (λ image h. subst (λ (n : ℕ). events_in_sources image n o (sources_in found) ≡ Ok (bounded (sources_in found) recent)) c.len.ensures.len
    (subst (λ (l : List EventSource). events_in_sources image c.len.result o (sources_in l) ≡ Ok (bounded (sources_in l) recent)) c.deref.ensures.value (c.in_ok-recent.ensures.done.read image h)))
    (subst (λ (l : List EventSource). ArePartedBy (sources_in l) recent) c.deref.ensures.value c.in_ok-recent.ensures.done.parted)
    f
    (seen_before (g.D.Disk.image c.read_sources.new.disk) told c.len-2.result (length c.args.names.now) (λ image n. RefusesPlan n image o f)
    c.read_sources.ensures.disk.same_image c.len-2.ensures.len c.in_err-set.ensures.refused))

pub returns-in_err-now-clause-refused : goal.returns-in_err-now-clause-refused
returns-in_err-now-clause-refused g c =
    let o : Opening = c.args.index.now.opening in
    let found : List EventSource = c.in_ok-sources.sources.items in
    let recent : List Event = c.in_ok-recent.recent.items in
    let told = g.D.Disk.image c.args.disk.now in
    let f : StartFault = c.in_err-now.field-0.0 in
    let set : List Element = c.in_ok-set.set in
    err_is c.from_residual-in_err-now.result f (λ (f : StartFault). IfSome told (λ image. RefusesStart f image)) c.from_residual-in_err-now.ensures
    (event_refused c.args.names.now o told c.requires.image found c.in_ok-sources.ensures.are recent
    (λ image h. subst (λ (n : ℕ). events_in_sources image n o (sources_in found) ≡ Ok (bounded (sources_in found) recent)) c.len.ensures.len
    (subst (λ (l : List EventSource). events_in_sources image c.len.result o (sources_in l) ≡ Ok (bounded (sources_in l) recent)) c.deref.ensures.value (c.in_ok-recent.ensures.done.read image h)))
    (subst (λ (l : List EventSource). ArePartedBy (sources_in l) recent) c.deref.ensures.value c.in_ok-recent.ensures.done.parted)
    set
    (seen_before (g.D.Disk.image c.read_sources.new.disk) told c.len-2.result (length c.args.names.now) (λ image n. IsLedByPlan n image o (last_leaf o) (Ok set))
    c.read_sources.ensures.disk.same_image c.len-2.ensures.len c.in_ok-set.ensures.led)
    f
    (tested_before (λ n l es. RefusesEvents c.args.names.now n set (bounded (sources_in l) es) f) (first_recent o) c.first_recent.result found c.deref-2.result.now recent c.deref-3.result.now
    c.first_recent.ensures.number c.deref-2.ensures.value c.deref-3.ensures.value c.in_err-now.ensures.refused))

pub returns-clause-done : goal.returns-clause-done
returns-clause-done g c =
    let o : Opening = c.args.index.now.opening in
    let found : List EventSource = c.in_ok-sources.sources.items in
    let recent : List Event = c.in_ok-recent.recent.items in
    let told = g.D.Disk.image c.args.disk.now in
    let set : List Element = c.in_ok-set.set in
    let names : List (List ℕ) = c.args.names.now in
    let led : c.in_ok-now.now.graph ≡ replay_from set recent = c.in_ok-now.ensures.led ∙ ap (replay_from set) c.deref-3.ensures.value in
    let there : EventNamesAreThere (length names) recent = subst (λ n. EventNamesAreThere n recent) c.len.ensures.len c.in_ok-recent.ensures.done.named in
    let named : NamesAreThere (length names) c.in_ok-now.now.graph =
    subst (NamesAreThere (length names)) (sym led) (replay_there (length names) set recent (subst (λ n. NamesAreThere n set) c.len-2.ensures.len c.in_ok-set.ensures.named) there) in
    record {
      started =
          is_started c.args.names.now o told c.requires.image found c.in_ok-sources.ensures.are recent
          (λ image h. subst (λ (n : ℕ). events_in_sources image n o (sources_in found) ≡ Ok (bounded (sources_in found) recent)) c.len.ensures.len
          (subst (λ (l : List EventSource). events_in_sources image c.len.result o (sources_in l) ≡ Ok (bounded (sources_in l) recent)) c.deref.ensures.value (c.in_ok-recent.ensures.done.read image h)))
          (subst (λ (l : List EventSource). ArePartedBy (sources_in l) recent) c.deref.ensures.value c.in_ok-recent.ensures.done.parted)
          set
          (seen_before (g.D.Disk.image c.read_sources.new.disk) told c.len-2.result (length c.args.names.now) (λ image n. IsLedByPlan n image o (last_leaf o) (Ok set))
          c.read_sources.ensures.disk.same_image c.len-2.ensures.len c.in_ok-set.ensures.led)
          c.in_ok-now.ensures.from
          (tested_before (λ n l es. first_wrong_event c.args.names.now n set (bounded (sources_in l) es) ≡ None) (first_recent o) c.first_recent.result found c.deref-2.result.now recent c.deref-3.result.now
          c.first_recent.ensures.number c.deref-2.ensures.value c.deref-3.ensures.value c.in_ok-now.ensures.right)
          c.in_ok-now.now.graph
          (c.in_ok-now.ensures.led ∙ ap (replay_from set) c.deref-3.ensures.value);
      none = c.in_ok-now.ensures.none;
      values = values_fit (length names) (omega (arith, c.len-2.ensures.len, c.len-2.ensures.few)) c.in_ok-now.now.graph named;
      named = named;
      recent_named = there;
      many =
          recent_many c.args.names.now c.args.index.now.opening c.facts.ensures.parameters c.in_ok-sources.sources.items c.in_ok-sources.ensures.are c.in_ok-recent.recent.items
          (subst (λ (l : List EventSource). ArePartedBy (sources_in l) c.in_ok-recent.recent.items) c.deref.ensures.value c.in_ok-recent.ensures.done.parted);
      fit = c.in_ok-recent.ensures.done.fit;
      goes_on =
          recent_goes_on c.args.names.now o c.facts.ensures.parameters found c.in_ok-sources.ensures.are recent
          (subst (λ (l : List EventSource). ArePartedBy (sources_in l) recent) c.deref.ensures.value c.in_ok-recent.ensures.done.parted)
          c.facts.ensures.in_turn c.facts.ensures.listed c.first_recent.result set
          (tested_before (λ n l es. first_wrong_event c.args.names.now n set (bounded (sources_in l) es) ≡ None) c.first_recent.result c.first_recent.result found c.deref-2.result.now recent c.deref-3.result.now
          refl c.deref-2.ensures.value c.deref-3.ensures.value c.in_ok-now.ensures.right);
    }

pub returns-in_err-sources-clause-takes : goal.returns-in_err-sources-clause-takes
returns-in_err-sources-clause-takes g c =
    let o : Opening = c.args.index.now.opening in
    plan_unread (g.D.Disk.image c.args.disk.now) c.from_residual.result fault.Memory (current_bytes o) o (length c.args.names.now) (g.D.Disk.taken c.args.disk.now) (g.D.Disk.taken c.args.disk.now) c.from_residual.ensures refl

pub returns-in_err-recent-clause-takes : goal.returns-in_err-recent-clause-takes
returns-in_err-recent-clause-takes g c =
    let o : Opening = c.args.index.now.opening in
    let found : List EventSource = c.in_ok-sources.sources.items in
    let a = g.D.Disk.taken c.args.disk.now in
    let b = g.D.Disk.taken c.read_sources.new.disk in
    recent_fails (g.D.Disk.image c.args.disk.now) o (length c.args.names.now) found c.in_ok-sources.ensures.are c.in_ok-sources.ensures.readable c.from_residual-in_err-recent.result c.in_err-recent.field-0.0 a b
    c.from_residual-in_err-recent.ensures
    (λ image h. subst (λ (l : List EventSource). TakesAtMost (bytes_in_sources image o (sources_in l)) a b) c.deref.ensures.value (c.in_err-recent.ensures.takes image h))

pub returns-in_err-set-clause-takes : goal.returns-in_err-set-clause-takes
returns-in_err-set-clause-takes g c =
    let o : Opening = c.args.index.now.opening in
    let found : List EventSource = c.in_ok-sources.sources.items in
    let told = g.D.Disk.image c.args.disk.now in
    let n : ℕ = length c.args.names.now in
    let before : ℕ = g.D.Disk.taken c.args.disk.now in
    let now : ℕ = g.D.Disk.taken c.read_sources.new.disk in
    let after : ℕ = g.D.Disk.taken c.last_set.new.disk in
    let first : WhereTold told (λ image. Takes (bytes_in_sources image o (sources_in found)) before now) =
    λ image h. subst (λ (l : List EventSource). Takes (bytes_in_sources image o (sources_in l)) before now) c.deref.ensures.value (c.in_ok-recent.ensures.takes image h) in
    let set : Result (List Element) StartFault = Err c.in_err-set.field-0.0 in
    let along : IfSome told (λ image. TakesAlongPlan set (current_bytes o) image o n before after) =
    current_takes told o n found c.in_ok-sources.ensures.are c.in_ok-sources.ensures.readable set before now after first
    (seen_before (g.D.Disk.image c.read_sources.new.disk) told c.len-2.result n (λ image m. TakesAlongPlan set (plan_bytes o) image o m now after)
    c.read_sources.ensures.disk.same_image c.len-2.ensures.len c.in_err-set.ensures.takes) in
    plan_handed told c.from_residual-in_err-set.result c.in_err-set.field-0.0 set (current_bytes o) o n before after c.from_residual-in_err-set.ensures along

pub returns-in_err-now-clause-takes : goal.returns-in_err-now-clause-takes
returns-in_err-now-clause-takes g c =
    let o : Opening = c.args.index.now.opening in
    let found : List EventSource = c.in_ok-sources.sources.items in
    let told = g.D.Disk.image c.args.disk.now in
    let n : ℕ = length c.args.names.now in
    let before : ℕ = g.D.Disk.taken c.args.disk.now in
    let now : ℕ = g.D.Disk.taken c.read_sources.new.disk in
    let after : ℕ = g.D.Disk.taken c.last_set.new.disk in
    let first : WhereTold told (λ image. Takes (bytes_in_sources image o (sources_in found)) before now) =
    λ image h. subst (λ (l : List EventSource). Takes (bytes_in_sources image o (sources_in l)) before now) c.deref.ensures.value (c.in_ok-recent.ensures.takes image h) in
    let set : Result (List Element) StartFault = Ok c.in_ok-set.set in
    let along : IfSome told (λ image. TakesAlongPlan set (current_bytes o) image o n before after) =
    current_takes told o n found c.in_ok-sources.ensures.are c.in_ok-sources.ensures.readable set before now after first
    (seen_before (g.D.Disk.image c.read_sources.new.disk) told c.len-2.result n (λ image m. TakesAlongPlan set (plan_bytes o) image o m now after)
    c.read_sources.ensures.disk.same_image c.len-2.ensures.len c.in_ok-set.ensures.takes) in
    plan_handed told c.from_residual-in_err-now.result c.in_err-now.field-0.0 set (current_bytes o) o n before after c.from_residual-in_err-now.ensures along

pub returns-clause-takes : goal.returns-clause-takes
returns-clause-takes g c =
    let o : Opening = c.args.index.now.opening in
    let found : List EventSource = c.in_ok-sources.sources.items in
    let told = g.D.Disk.image c.args.disk.now in
    let n : ℕ = length c.args.names.now in
    let before : ℕ = g.D.Disk.taken c.args.disk.now in
    let now : ℕ = g.D.Disk.taken c.read_sources.new.disk in
    let after : ℕ = g.D.Disk.taken c.last_set.new.disk in
    let first : WhereTold told (λ image. Takes (bytes_in_sources image o (sources_in found)) before now) =
    λ image h. subst (λ (l : List EventSource). Takes (bytes_in_sources image o (sources_in l)) before now) c.deref.ensures.value (c.in_ok-recent.ensures.takes image h) in
    let set : Result (List Element) StartFault = Ok c.in_ok-set.set in
    let along : IfSome told (λ image. TakesAlongPlan set (current_bytes o) image o n before after) =
    current_takes told o n found c.in_ok-sources.ensures.are c.in_ok-sources.ensures.readable set before now after first
    (seen_before (g.D.Disk.image c.read_sources.new.disk) told c.len-2.result n (λ image m. TakesAlongPlan set (plan_bytes o) image o m now after)
    c.read_sources.ensures.disk.same_image c.len-2.ensures.len c.in_ok-set.ensures.takes) in
    along

pub returns-clause-disk : goal.returns-clause-disk
returns-clause-disk g c = reads_then c.read_sources.ensures.disk c.last_set.ensures.disk
