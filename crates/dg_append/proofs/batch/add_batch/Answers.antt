use Rattle.std.proofs.Common.{inl, ◌≡◌, ◌+◌, ◌∙◌, List, Option, Some, length, take, refl, sym, ap, subst}
use Rattle.std.specs.Prelude.{IfSome}
use Rattle.dg_append.proofs.AddedBatchOutcomes.{WentOn, added_leaves, adds, back_live, live_after, next_is, not_added, not_added_leaves, nothing_read, ready_here, takes_kept, takes_stopped, total_kept}
use Rattle.dg_append.proofs.BatchCrashes.{cause_refused, reads_leave}
use Rattle.dg_append.proofs.FrontEvents.{IsPrepared, here, prepared}
use Rattle.dg_append.proofs.batch.add_batch.Goals as goal
use Rattle.dg_append.specs.AddedBatches.{AddsBatch, AddsBatchOrNot, AddsBehindOrNot, IsReady, left_behind}
use Rattle.dg_append.specs.declared.batch.AddedBatch.{AddedBatch}
use Rattle.dg_append.specs.declared.batch.Batch.{Batch}
use Rattle.dg_append.specs.declared.live.Live.{Live}
use Rattle.dg_disk.proofs.FrameLemmas.{reads_none}
use Rattle.dg_graph.specs.declared.element.Element.{Element}
use Rattle.dg_graph.specs.declared.event.Event.{Event}
use Rattle.dg_graph.specs.Replay.{replay_from}
use Rattle.dg_history.specs.History.{last_time_from}
use Rattle.dg_index.specs.OpenedIndex.{Opening, event_total}
use Rattle.dg_stored.specs.declared.stored_history.StoredHistory.{StoredHistory}
use Rattle.dg_stored.specs.StoredHistory.{IsHeldBy, index_opening}

pub keep_batch-requires-clause-next : goal.keep_batch-requires-clause-next
keep_batch-requires-clause-next g c =
    let o : Opening = c.in-Some.index.opening in
    let b : Batch = c.args.batch in
    let l : Live = c.args.live.now in
    let h : StoredHistory = l.history in
    let is : index_opening h.index ≡ Some o = ap index_opening c.in-Some.is in
    let ready : IsReady o b h = ready_here b l o c.requires.may is in
    let events : List Event = c.complete.new.now.pending in
    let p : IsPrepared o b h events =
    prepared o b h events c.facts.ensures.parameters ready c.facts-2.ensures.graph c.in-Ok.ensures.whole c.in-Ok.ensures.done c.in-Ok.ensures.form in
    let graph_is : c.complete.new.now.graph ≡ h.now.graph = c.complete.ensures.same_graph in
    next_is o b h c.complete.new.now.graph events _ graph_is
    (record { known_is = refl; names_are = refl; recent_is = c.deref.ensures.value ∙ c.complete.ensures.same_recent; events_are = c.pending-events.ensures })
    c.facts-2.ensures.graph.rises ready p c.in-Ok.ensures.top

pub returns-in-Ok-keep_batch-clause-adds : goal.returns-in-Ok-keep_batch-clause-adds
returns-in-Ok-keep_batch-clause-adds g c =
    let o : Opening = c.in-Some.index.opening in
    let b : Batch = c.args.batch in
    let l : Live = c.args.live.now in
    let h : StoredHistory = l.history in
    let is : index_opening h.index ≡ Some o = ap index_opening c.in-Some.is in
    let ready : IsReady o b h = ready_here b l o c.requires.may is in
    let events : List Event = c.complete.new.now.pending in
    let p : IsPrepared o b h events =
    prepared o b h events c.facts.ensures.parameters ready c.facts-2.ensures.graph c.in-Ok.ensures.whole c.in-Ok.ensures.done c.in-Ok.ensures.form in
    let graph_is : c.complete.new.now.graph ≡ h.now.graph = c.complete.ensures.same_graph in
    let new : Live = record {
      history = record { index = Some c.keep_batch.new.index; names = h.names; now = c.commit-events.new.self; recent = c.take_recent_on.new.recent };
      pool = c.keep_batch.new.pool;
    } in
    let went : WentOn l new c.keep_batch.new.index.opening events (left_behind c.in-Ok-keep_batch.left c.deref.result.now c.pending-events.result.now) =
    record { index = refl; names_are = refl; graph_is = c.commit-events.ensures.graph ∙ ap (λ (set : List Element). replay_from set events) c.complete.ensures.same_graph; pending = c.commit-events.ensures.none; recent_are = c.take_recent_on.ensures ∙ (λ i. left_behind c.in-Ok-keep_batch.left (sym c.deref.ensures.value i) c.pending-events.result.now) } in
    let total : c.events_len.result ≡ event_total o.batches + length events =
    c.events_len.ensures.events
    ∙ total_kept g.D.Disk o c.keep_batch.new.index.opening c.args.limit b l new c.args.disk.now c.keep_batch.new.disk events (left_behind c.in-Ok-keep_batch.left c.deref.result.now c.pending-events.result.now) _ c.requires.may.pool graph_is
    (record { known_is = refl; names_are = refl; recent_is = c.deref.ensures.value ∙ c.complete.ensures.same_recent; events_are = c.pending-events.ensures }) p c.in-Ok-keep_batch.ensures.kept c.in-Ok-keep_batch.ensures.passed went in
    let last : c.last_instant.result ≡ last_time_from 0 events =
    c.last_instant.ensures ∙ ap (last_time_from 0) (c.deref-in-Ok-keep_batch.ensures.value ∙ c.commit-events.ensures.events) in
    let added : AddedBatch = record { events = c.commit-events.result; total = c.events_len.result; last = c.last_instant.result } in
    here (index_opening h.index) o (λ (x : Opening). AddsBatch x c.args.limit b l new (g.D.Disk.image c.args.disk.now) (g.D.Disk.image c.keep_batch.new.disk) added) is
    (adds g.D.Disk o c.keep_batch.new.index.opening c.args.limit b l new c.args.disk.now c.keep_batch.new.disk events (left_behind c.in-Ok-keep_batch.left c.deref.result.now c.pending-events.result.now) _ c.requires.may.pool graph_is
    (record { known_is = refl; names_are = refl; recent_is = c.deref.ensures.value ∙ c.complete.ensures.same_recent; events_are = c.pending-events.ensures }) p c.in-Ok-keep_batch.ensures.kept c.in-Ok-keep_batch.ensures.passed went
    added (subst (λ (i : Option Opening). IfSome (g.D.Disk.image c.args.disk.now) (IsHeldBy i (take b.known h.names))) is c.requires.image) c.in-Ok-keep_batch.ensures.disk.used.told
    (c.commit-events.ensures.events, total, last))

pub returns-in-Ok-keep_batch-clause-live : goal.returns-in-Ok-keep_batch-clause-live
returns-in-Ok-keep_batch-clause-live g c =
    let o : Opening = c.in-Some.index.opening in
    let b : Batch = c.args.batch in
    let l : Live = c.args.live.now in
    let h : StoredHistory = l.history in
    let is : index_opening h.index ≡ Some o = ap index_opening c.in-Some.is in
    let ready : IsReady o b h = ready_here b l o c.requires.may is in
    let events : List Event = c.complete.new.now.pending in
    let p : IsPrepared o b h events =
    prepared o b h events c.facts.ensures.parameters ready c.facts-2.ensures.graph c.in-Ok.ensures.whole c.in-Ok.ensures.done c.in-Ok.ensures.form in
    let graph_is : c.complete.new.now.graph ≡ h.now.graph = c.complete.ensures.same_graph in
    let new : Live = record {
      history = record { index = Some c.keep_batch.new.index; names = h.names; now = c.commit-events.new.self; recent = c.take_recent_on.new.recent };
      pool = c.keep_batch.new.pool;
    } in
    let went : WentOn l new c.keep_batch.new.index.opening events (left_behind c.in-Ok-keep_batch.left c.deref.result.now c.pending-events.result.now) =
    record { index = refl; names_are = refl; graph_is = c.commit-events.ensures.graph ∙ ap (λ (set : List Element). replay_from set events) c.complete.ensures.same_graph; pending = c.commit-events.ensures.none; recent_are = c.take_recent_on.ensures ∙ (λ i. left_behind c.in-Ok-keep_batch.left (sym c.deref.ensures.value i) c.pending-events.result.now) } in
    live_after g.D.Disk o c.keep_batch.new.index.opening c.args.limit b l new c.args.disk.now c.keep_batch.new.disk events (left_behind c.in-Ok-keep_batch.left c.deref.result.now c.pending-events.result.now) _ c.requires.may.pool graph_is
    (record { known_is = refl; names_are = refl; recent_is = c.deref.ensures.value ∙ c.complete.ensures.same_recent; events_are = c.pending-events.ensures }) p c.in-Ok-keep_batch.ensures.kept c.in-Ok-keep_batch.ensures.passed went ready

pub returns-in-Ok-keep_batch-clause-reads : goal.returns-in-Ok-keep_batch-clause-reads
returns-in-Ok-keep_batch-clause-reads g c =
    let o : Opening = c.in-Some.index.opening in
    let b : Batch = c.args.batch in
    let l : Live = c.args.live.now in
    let h : StoredHistory = l.history in
    let is : index_opening h.index ≡ Some o = ap index_opening c.in-Some.is in
    let ready : IsReady o b h = ready_here b l o c.requires.may is in
    let events : List Event = c.complete.new.now.pending in
    let p : IsPrepared o b h events =
    prepared o b h events c.facts.ensures.parameters ready c.facts-2.ensures.graph c.in-Ok.ensures.whole c.in-Ok.ensures.done c.in-Ok.ensures.form in
    let graph_is : c.complete.new.now.graph ≡ h.now.graph = c.complete.ensures.same_graph in
    here (index_opening h.index) o _ is
    (record {
      older = takes_kept o b h c.complete.new.now.graph events _ graph_is
          (record { known_is = refl; names_are = refl; recent_is = c.deref.ensures.value ∙ c.complete.ensures.same_recent; events_are = c.pending-events.ensures })
          g.D.Disk c.args.limit c.keep_batch.new.index.opening c.args.disk.now c.keep_batch.new.disk (g.D.Disk.taken c.args.disk.now) (g.D.Disk.taken c.keep_batch.new.disk)
          c.in-Ok-keep_batch.ensures.kept p.many c.keep_batch.ensures.most;
      refused = tt;
      unkept = λ not. absurd (not p.whole);
    })

pub returns-clause-fails : goal.returns-clause-fails
returns-clause-fails g c =
    let o : Opening = c.in-Some.index.opening in
    let b : Batch = c.args.batch in
    let l : Live = c.args.live.now in
    let h : StoredHistory = l.history in
    let is : index_opening h.index ≡ Some o = ap index_opening c.in-Some.is in
    let ready : IsReady o b h = ready_here b l o c.requires.may is in
    let events : List Event = c.complete.new.now.pending in
    let p : IsPrepared o b h events =
    prepared o b h events c.facts.ensures.parameters ready c.facts-2.ensures.graph c.in-Ok.ensures.whole c.in-Ok.ensures.done c.in-Ok.ensures.form in
    let graph_is : c.complete.new.now.graph ≡ h.now.graph = c.complete.ensures.same_graph in
    here (index_opening h.index) o _ is
    (not_added o b h c.complete.new.now.graph events _ graph_is
    (record { known_is = refl; names_are = refl; recent_is = c.deref.ensures.value ∙ c.complete.ensures.same_recent; events_are = c.pending-events.ensures })
    c.args.limit (g.D.Disk.image c.args.disk.now) (g.D.Disk.image c.keep_batch.new.disk) c.in-Err-keep_batch.fault p c.in-Err-keep_batch.ensures.fails)

pub returns-clause-live : goal.returns-clause-live
returns-clause-live g c =
    let o : Opening = c.in-Some.index.opening in
    let b : Batch = c.args.batch in
    let l : Live = c.args.live.now in
    let is : index_opening l.history.index ≡ Some o = ap index_opening c.in-Some.is in
    let ready : IsReady o b l.history = ready_here b l o c.requires.may is in
    let middle : Live = record {
      history = record { index = Some c.keep_batch.new.index; names = l.history.names; now = c.complete.new.now; recent = c.complete.new.recent };
      pool = c.keep_batch.new.pool;
    } in
    back_live b.known o l middle c.give_back-in-Err-keep_batch.new.live ready.sound c.requires.may.pool refl c.complete.ensures.same_graph c.complete.ensures.same_recent
    c.in-Err-keep_batch.ensures.back.graphs c.in-Err-keep_batch.fault c.keep_batch.new.index.opening refl c.in-Err-keep_batch.ensures.back.index c.give_back-in-Err-keep_batch.ensures

pub returns-clause-reads : goal.returns-clause-reads
returns-clause-reads g c =
    let o : Opening = c.in-Some.index.opening in
    let b : Batch = c.args.batch in
    let l : Live = c.args.live.now in
    let h : StoredHistory = l.history in
    let is : index_opening h.index ≡ Some o = ap index_opening c.in-Some.is in
    let ready : IsReady o b h = ready_here b l o c.requires.may is in
    let events : List Event = c.complete.new.now.pending in
    let p : IsPrepared o b h events =
    prepared o b h events c.facts.ensures.parameters ready c.facts-2.ensures.graph c.in-Ok.ensures.whole c.in-Ok.ensures.done c.in-Ok.ensures.form in
    let graph_is : c.complete.new.now.graph ≡ h.now.graph = c.complete.ensures.same_graph in
    here (index_opening h.index) o _ is
    (record {
      older = takes_stopped o b h c.complete.new.now.graph events _ graph_is
          (record { known_is = refl; names_are = refl; recent_is = c.deref.ensures.value ∙ c.complete.ensures.same_recent; events_are = c.pending-events.ensures })
          c.args.limit (g.D.Disk.image c.args.disk.now) (g.D.Disk.image c.keep_batch.new.disk) c.in-Err-keep_batch.fault (g.D.Disk.taken c.args.disk.now) (g.D.Disk.taken c.keep_batch.new.disk)
          c.in-Err-keep_batch.ensures.fails p.many c.keep_batch.ensures.most;
      refused = nothing_read c.args.limit o _ c.complete.new.now.graph (g.D.Disk.image c.args.disk.now) (g.D.Disk.image c.keep_batch.new.disk) c.in-Err-keep_batch.fault
          (g.D.Disk.taken c.args.disk.now) (g.D.Disk.taken c.keep_batch.new.disk) c.in-Err-keep_batch.ensures.fails;
      unkept = λ not. absurd (not p.whole);
    })

pub returns-in-Err-clause-disk : goal.returns-in-Err-clause-disk
returns-in-Err-clause-disk g c =
    let o : Opening = c.in-Some.index.opening in
    let b : Batch = c.args.batch in
    let l : Live = c.args.live.now in
    let h : StoredHistory = l.history in
    let is : index_opening h.index ≡ Some o = ap index_opening c.in-Some.is in
    reads_leave g.D.Disk c.args.disk.now c.args.disk.now g.met.D.Disk.only_now reads_none (IsHeldBy (index_opening h.index) (take b.known h.names)) (AddsBatchOrNot b h)
    (λ before held. here (index_opening h.index) o (λ o. AddsBehindOrNot o b h before before) is (λ z over. inl over.stands))
    c.requires.image c.in-Err.fault (cause_refused g.D.Disk c.args.disk.now o h.now.graph b c.in-Err.fault c.in-Err.ensures.refused)

pub returns-in-Ok-keep_batch-clause-disk : goal.returns-in-Ok-keep_batch-clause-disk
returns-in-Ok-keep_batch-clause-disk g c =
    let o : Opening = c.in-Some.index.opening in
    let b : Batch = c.args.batch in
    let l : Live = c.args.live.now in
    let h : StoredHistory = l.history in
    let is : index_opening h.index ≡ Some o = ap index_opening c.in-Some.is in
    let ready : IsReady o b h = ready_here b l o c.requires.may is in
    let events : List Event = c.complete.new.now.pending in
    let p : IsPrepared o b h events =
    prepared o b h events c.facts.ensures.parameters ready c.facts-2.ensures.graph c.in-Ok.ensures.whole c.in-Ok.ensures.done c.in-Ok.ensures.form in
    let graph_is : c.complete.new.now.graph ≡ h.now.graph = c.complete.ensures.same_graph in
    added_leaves o b h c.complete.new.now.graph events _ graph_is
    (record { known_is = refl; names_are = refl; recent_is = c.deref.ensures.value ∙ c.complete.ensures.same_recent; events_are = c.pending-events.ensures })
    g.D.Disk c.args.limit c.args.disk.now c.keep_batch.new.disk is p c.requires.image c.keep_batch.new.index.opening c.in-Ok-keep_batch.left _ c.in-Ok-keep_batch.ensures.kept c.in-Ok-keep_batch.ensures.disk

pub returns-clause-disk : goal.returns-clause-disk
returns-clause-disk g c =
    let o : Opening = c.in-Some.index.opening in
    let b : Batch = c.args.batch in
    let l : Live = c.args.live.now in
    let h : StoredHistory = l.history in
    let is : index_opening h.index ≡ Some o = ap index_opening c.in-Some.is in
    let ready : IsReady o b h = ready_here b l o c.requires.may is in
    let events : List Event = c.complete.new.now.pending in
    let p : IsPrepared o b h events =
    prepared o b h events c.facts.ensures.parameters ready c.facts-2.ensures.graph c.in-Ok.ensures.whole c.in-Ok.ensures.done c.in-Ok.ensures.form in
    let graph_is : c.complete.new.now.graph ≡ h.now.graph = c.complete.ensures.same_graph in
    not_added_leaves o b h c.complete.new.now.graph events _ graph_is
    (record { known_is = refl; names_are = refl; recent_is = c.deref.ensures.value ∙ c.complete.ensures.same_recent; events_are = c.pending-events.ensures })
    g.D.Disk c.args.limit c.args.disk.now c.keep_batch.new.disk is p c.requires.image c.in-Err-keep_batch.fault c.in-Err-keep_batch.ensures.fails c.in-Err-keep_batch.ensures.disk
