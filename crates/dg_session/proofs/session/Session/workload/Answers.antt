use Rattle.std.proofs.Common.{length, map, vec_len, arith, ◌≡◌, ℕ, true, List, [], Option, Err, refl, sym, ◌∙◌, ap, subst}
use Rattle.std.specs.List.{All}
use Rattle.dg_aux.specs.Turns.{AuxState, HasRoomFor}
use Rattle.dg_append.specs.declared.batch.AddedBatch.{AddedBatch}
use Rattle.dg_session.specs.ValuesSaid.{IndexKept, all_said_with, kept_of, said_of}
use Rattle.dg_session.proofs.IndexRuns.{lent, made_are, made_kept, went_said}
use Rattle.std.specs.Global.{Vec}
use Rattle.dg_graph.specs.declared.event.Event.{Event}
use Rattle.std.proofs.lemmas.Bool.{false≢true}
use Rattle.std.specs.Prelude.{is_some}
use Rattle.dg_graph.specs.declared.element.Element.{Element}
use Rattle.dg_machine.specs.declared.command.Command.TheVariants as command
use Rattle.dg_machine.specs.declared.reply.Head.TheVariants as head
use Rattle.dg_machine.specs.declared.reply.Refusal.TheVariants as refusal
use Rattle.dg_machine.specs.declared.reply.Reply.{Reply}
use Rattle.dg_machine.specs.Answer.{headed}
use Rattle.dg_machine.specs.Needs.{needs}
use Rattle.dg_query.specs.Queries.{counts_of}
use Rattle.dg_query.specs.declared.answers.Counts.{Counts}
use Rattle.dg_pool.specs.Graphs.{graph_now}
use Rattle.dg_session.specs.BatchCommand.{barred}
use Rattle.dg_session.specs.declared.batch_command.BatchCommand.TheVariants.{Load}
use Rattle.dg_append.specs.Overlays.{IsOverlayOf, pool_in, pool_of}
use Rattle.dg_append.specs.declared.batch.Batch.{Batch}
use Rattle.dg_batch.specs.declared.halt.Halt.TheVariants as halt
use Rattle.dg_session.specs.Damage.{Batch_of, DamageIn, MeetsNone, DamageIs, reads_for}
use Rattle.dg_batch.specs.Halt.{batch_halt}
use Rattle.dg_session.specs.Parts.{Parts}
use Rattle.dg_session.specs.Reads.{Reads, ReadsIn}
use Rattle.dg_session.specs.Session.{Accepts, ComesTo, LeavesAnswered, LeavesCommand}
use Rattle.dg_session.specs.SessionState.{SessionState}
use Rattle.dg_session.specs.contracts.session.Session.{the_view}
use Rattle.dg_disk.proofs.FrameLemmas.{reads_none}
use Rattle.dg_disk.specs.Calls.{LeftByCrash}
use Rattle.dg_session.proofs.BatchCommandCrashes.{added_left, failed_left}
use Rattle.dg_session.proofs.CommandCrashes.{reading_left}
use Rattle.dg_session.proofs.CommandDisks.{added_treats, failed_treats, reading_treats}
use Rattle.dg_session.specs.Calls.{TreatsDisk}
use Rattle.dg_session.proofs.BatchCommandForms.{Seed, head_over}
use Rattle.dg_session.proofs.BatchCommandReads.{ReadsNoMore, added_reads, added_undamaged, failed_damage, failed_reads, reads_no_more, refused_reads, unread_reads}
use Rattle.dg_session.proofs.BatchCommandStep.{IsAsked, added_pool, added_slots, batch_added, batch_failed, failed_stays, is_generated, may_add, kept_handles, none_bars, room_for_values, with_handles, with_history, with_indexes}
use Rattle.dg_session.proofs.DamageStep.{tells_no_damage, none_met}
use Rattle.dg_session.proofs.SessionSteps.{handed_out, lacking_denies, refused_denies, refused_not_read}
use Rattle.dg_append.specs.declared.live.Live.{Live}
use Rattle.dg_session.proofs.session.Session.workload.Goals as goal

-- a list of a vector is as long as the vector
many : (v : Vec Event) → vec_len v ≡ length v.items
many v = let long = v.ok.0 in omega (arith, long)

pub returns-in-Some-clause-comes : goal.returns-in-Some-clause-comes
returns-in-Some-clause-comes g c =
    refused_denies (command.Workload c.args.seed c.args.count) [] c.args.self.now.parts c.args.self.now.parts (g.D.Disk.image c.args.disk.now) (g.D.Disk.image c.args.disk.now) c.in-Some.refusal refl refl (sym c.barred.ensures ∙ c.in-Some.is)

pub generated_batch-requires-clause-room : goal.generated_batch-requires-clause-room
generated_batch-requires-clause-room g c =
    let made : List AuxState = lent c.self.inside.indexes.len c.self.inside.indexes.items c.reserve.new.indexes in
    let kept : map kept_of made ≡ map kept_of c.self.inside.indexes.items = made_kept c.self.inside.indexes c.deref_mut.result.now c.reserve.new.indexes c.deref_mut.ensures.value c.reserve.ensures.kept in
    let p : Parts = with_indexes (the_view c.self.inside).parts (map kept_of made) in
    let same : p ≡ c.args.self.now.parts = ap (with_indexes (the_view c.self.inside).parts) kept ∙ ap (λ (x : SessionState). x.parts) c.self.view_is ∙ c.overlay.ensures.parts in
    (none_bars Load p c.args.count c.requires.some (ap (λ (x : Parts). barred Load x c.args.count) same ∙ sym c.barred.ensures ∙ c.in_default.is)).few_names

pub returns-in_err-overlay-clause-comes : goal.returns-in_err-overlay-clause-comes
returns-in_err-overlay-clause-comes g c =
    handed_out c.from_residual.result (halt.Refusal refusal.OutOfMemory) (ComesTo (command.Workload c.args.seed c.args.count) [] c.args.self.now.parts (g.D.Disk.image c.args.disk.now) c.overlay.new.self.parts (g.D.Disk.image c.args.disk.now)) c.from_residual.ensures
    (lacking_denies (command.Workload c.args.seed c.args.count) [] c.args.self.now.parts c.overlay.new.self.parts (g.D.Disk.image c.args.disk.now) (g.D.Disk.image c.args.disk.now) c.overlay.ensures.parts refl refl (sym c.barred.ensures ∙ c.in_default.is))

pub returns-in_err-batch-clause-comes : goal.returns-in_err-batch-clause-comes
returns-in_err-batch-clause-comes g c =
    let made : List AuxState = lent c.self.inside.indexes.len c.self.inside.indexes.items c.reserve.new.indexes in
    let kept : map kept_of made ≡ map kept_of c.self.inside.indexes.items = made_kept c.self.inside.indexes c.deref_mut.result.now c.reserve.new.indexes c.deref_mut.ensures.value c.reserve.ensures.kept in
    let p : Parts = with_indexes (the_view c.self.inside).parts (map kept_of made) in
    let same : p ≡ c.args.self.now.parts = ap (with_indexes (the_view c.self.inside).parts) kept ∙ ap (λ (x : SessionState). x.parts) c.self.view_is ∙ c.overlay.ensures.parts in
    let q : Parts = record p { names = c.generated_batch.new.names } in
    handed_out c.from_residual-in_err-batch.result (halt.Refusal refusal.OutOfMemory) (ComesTo (command.Workload c.args.seed c.args.count) [] c.args.self.now.parts (g.D.Disk.image c.args.disk.now) q (g.D.Disk.image c.args.disk.now)) c.from_residual-in_err-batch.ensures
    (lacking_denies (command.Workload c.args.seed c.args.count) [] c.args.self.now.parts q (g.D.Disk.image c.args.disk.now) (g.D.Disk.image c.args.disk.now) (ap (λ ns. let x : Parts = record p { names = ns } in x) c.in_err-batch.ensures.same ∙ same) refl refl (sym c.barred.ensures ∙ c.in_default.is))

pub add_changes-requires-clause-may : goal.add_changes-requires-clause-may
add_changes-requires-clause-may g c =
    let made : List AuxState = lent c.self.inside.indexes.len c.self.inside.indexes.items c.reserve.new.indexes in
    let kept : map kept_of made ≡ map kept_of c.self.inside.indexes.items = made_kept c.self.inside.indexes c.deref_mut.result.now c.reserve.new.indexes c.deref_mut.ensures.value c.reserve.ensures.kept in
    let p : Parts = with_indexes (the_view c.self.inside).parts (map kept_of made) in
    let same : p ≡ c.args.self.now.parts = ap (with_indexes (the_view c.self.inside).parts) kept ∙ ap (λ (x : SessionState). x.parts) c.self.view_is ∙ c.overlay.ensures.parts in
    let old : Live = record { history = record c.self.inside.held.live.history { names = c.generated_batch.new.names }; pool = c.self.inside.held.live.pool } in
    let b : Batch = c.in_ok-batch.batch in
    let asked : IsAsked (Seed c.args.seed) [] p c.args.count c.self.inside.limits.file_bytes old b =
    is_generated c.args.seed p c.args.self.now.parts c.args.count old b c.barred.result same c.barred.ensures c.in_default.is
    refl refl refl c.self.invariant.0.events c.requires.some c.requires.few c.in_ok-batch.ensures.generated in
    may_add (Seed c.args.seed) [] p c.args.count c.self.inside.limits.file_bytes old b asked c.self.invariant.1.live.sound c.self.invariant.1.live.pool

pub returns-in_err-added-clause-comes : goal.returns-in_err-added-clause-comes
returns-in_err-added-clause-comes g c =
    let made : List AuxState = lent c.self.inside.indexes.len c.self.inside.indexes.items c.reserve.new.indexes in
    let kept : map kept_of made ≡ map kept_of c.self.inside.indexes.items = made_kept c.self.inside.indexes c.deref_mut.result.now c.reserve.new.indexes c.deref_mut.ensures.value c.reserve.ensures.kept in
    let p : Parts = with_indexes (the_view c.self.inside).parts (map kept_of made) in
    let same : p ≡ c.args.self.now.parts = ap (with_indexes (the_view c.self.inside).parts) kept ∙ ap (λ (x : SessionState). x.parts) c.self.view_is ∙ c.overlay.ensures.parts in
    let old : Live = record { history = record c.self.inside.held.live.history { names = c.generated_batch.new.names }; pool = c.self.inside.held.live.pool } in
    let b : Batch = c.in_ok-batch.batch in
    let asked : IsAsked (Seed c.args.seed) [] p c.args.count c.self.inside.limits.file_bytes old b =
    is_generated c.args.seed p c.args.self.now.parts c.args.count old b c.barred.result same c.barred.ensures c.in_default.is
    refl refl refl c.self.invariant.0.events c.requires.some c.requires.few c.in_ok-batch.ensures.generated in
    let image : Option (List ℕ) = g.D.Disk.image c.args.disk.now in
    let then_image : Option (List ℕ) = g.D.Disk.image c.add_changes.new.disk in
    let q : Parts = with_handles (with_history p c.add_changes.new.held.live.history) c.add_changes.new.held.handles (pool_of c.add_changes.new.held.live.pool) in
    handed_out c.from_residual-in_err-added.result (batch_halt c.in_err-added.field-0.0) (ComesTo (command.Workload c.args.seed c.args.count) [] c.args.self.now.parts image q then_image) c.from_residual-in_err-added.ensures
    (subst (λ (x : Parts). ComesTo (command.Workload c.args.seed c.args.count) [] x image q then_image (Err (batch_halt c.in_err-added.field-0.0))) same
    (batch_failed (Seed c.args.seed) [] p c.args.count c.self.inside.limits.file_bytes old b asked c.add_changes.new.held.live image then_image c.in_err-added.field-0.0 c.in_err-added.ensures.fails q
    (failed_stays (Seed c.args.seed) [] p c.args.count c.self.inside.limits.file_bytes old b asked c.add_changes.new.held.live image then_image c.in_err-added.field-0.0 c.self.inside.held.handles c.add_changes.new.held.handles
    c.in_err-added.ensures.back c.in_err-added.ensures.handles refl)))

pub unreachable-requires : goal.unreachable-requires
unreachable-requires g c =
    let made : List AuxState = lent c.self.inside.indexes.len c.self.inside.indexes.items c.reserve.new.indexes in
    let kept : map kept_of made ≡ map kept_of c.self.inside.indexes.items = made_kept c.self.inside.indexes c.deref_mut.result.now c.reserve.new.indexes c.deref_mut.ensures.value c.reserve.ensures.kept in
    let p : Parts = with_indexes (the_view c.self.inside).parts (map kept_of made) in
    let same : p ≡ c.args.self.now.parts = ap (with_indexes (the_view c.self.inside).parts) kept ∙ ap (λ (x : SessionState). x.parts) c.self.view_is ∙ c.overlay.ensures.parts in
    let old : Live = record { history = record c.self.inside.held.live.history { names = c.generated_batch.new.names }; pool = c.self.inside.held.live.pool } in
    let b : Batch = c.in_ok-batch.batch in
    let asked : IsAsked (Seed c.args.seed) [] p c.args.count c.self.inside.limits.file_bytes old b =
    is_generated c.args.seed p c.args.self.now.parts c.args.count old b c.barred.result same c.barred.ensures c.in_default.is
    refl refl refl c.self.invariant.0.events c.requires.some c.requires.few c.in_ok-batch.ensures.generated in
    let stays : is_some (pool_in c.add_changes.new.held.live.pool) ≡ is_some (pool_in c.self.inside.held.live.pool) =
    added_pool (Seed c.args.seed) [] p c.args.count c.self.inside.limits.file_bytes old b asked c.add_changes.new.held.live (g.D.Disk.image c.args.disk.now) (g.D.Disk.image c.add_changes.new.disk) c.in_ok-added.added c.in_ok-added.ensures.adds in
    let pooled : is_some (pool_in c.self.inside.held.live.pool) ≡ true = ap (λ (x : SessionState). is_some x.pool) c.self.view_is ∙ c.in_ok-overlay.ensures.made in
    false≢true (ap (λ pool. is_some (pool_in pool)) (sym c.in_default-pool.is) ∙ stays ∙ pooled)

pub returns-clause-comes : goal.returns-clause-comes
returns-clause-comes g c =
    let made : List AuxState = lent c.self.inside.indexes.len c.self.inside.indexes.items c.reserve.new.indexes in
    let kept : map kept_of made ≡ map kept_of c.self.inside.indexes.items = made_kept c.self.inside.indexes c.deref_mut.result.now c.reserve.new.indexes c.deref_mut.ensures.value c.reserve.ensures.kept in
    let p : Parts = with_indexes (the_view c.self.inside).parts (map kept_of made) in
    let same : p ≡ c.args.self.now.parts = ap (with_indexes (the_view c.self.inside).parts) kept ∙ ap (λ (x : SessionState). x.parts) c.self.view_is ∙ c.overlay.ensures.parts in
    let old : Live = record { history = record c.self.inside.held.live.history { names = c.generated_batch.new.names }; pool = c.self.inside.held.live.pool } in
    let b : Batch = c.in_ok-batch.batch in
    let asked : IsAsked (Seed c.args.seed) [] p c.args.count c.self.inside.limits.file_bytes old b =
    is_generated c.args.seed p c.args.self.now.parts c.args.count old b c.barred.result same c.barred.ensures c.in_default.is
    refl refl refl c.self.invariant.0.events c.requires.some c.requires.few c.in_ok-batch.ensures.generated in
    let image : Option (List ℕ) = g.D.Disk.image c.args.disk.now in
    let then_image : Option (List ℕ) = g.D.Disk.image c.add_changes.new.disk in
    let indexes : List IndexKept = map kept_of (lent c.self.inside.indexes.len made c.pass.new.indexes) in
    let tells : map said_of indexes ≡ all_said_with c.in_ok-added.added.events.items (map said_of p.indexes) =
    went_said c.self.inside.indexes c.deref_mut.result.now c.reserve.new.indexes c.deref_mut.ensures.value c.reserve.ensures.kept
    c.in_ok-added.added.events.items c.deref.result.now c.deref_mut-2.result.now c.pass.new.indexes c.deref.ensures.value c.deref_mut-2.ensures.value c.pass.ensures in
    let left : Parts = with_indexes (with_history p c.add_changes.new.held.live.history) indexes in
    let q : Parts = with_handles left c.add_changes.new.held.handles (pool_of c.add_changes.new.held.live.pool) in
    let added = c.in_ok-added.added in
    let graph : List Element = c.add_changes.new.held.live.history.now.graph in
    let counts : c.counts_now-counts.result ≡ counts_of graph = c.counts_now-counts.ensures ∙ ap (λ p. counts_of (graph_now p)) c.deref-2.ensures ∙ ap counts_of (subst (λ pool. IsOverlayOf graph (pool_in pool)) c.in-Some-pool.is c.add_changes.ensures.held.live.pool) in
    let said : Reply = headed (head_over (Seed c.args.seed) graph (length added.events.items) added.total added.last) in
    let reply : said ≡ c.headed.result = sym (c.headed.ensures ∙ ap (λ (k : ℕ). headed (head.Generated k added.last c.counts_now-counts.result.nodes c.counts_now-counts.result.edges)) (c.len.ensures ∙ many added.events) ∙ ap (λ (n : Counts). headed (head.Generated (length added.events.items) added.last n.nodes n.edges)) counts) in
    subst (λ (r : Reply). Accepts (command.Workload c.args.seed c.args.count) [] c.args.self.now.parts image q then_image r) reply
    (subst (λ (x : Parts). Accepts (command.Workload c.args.seed c.args.count) [] x image q then_image said) same
    (subst (λ (y : Parts). Accepts (command.Workload c.args.seed c.args.count) [] p image y then_image said)
    (sym (kept_handles left c.self.inside.held.handles c.add_changes.new.held.handles (pool_of c.self.inside.held.live.pool) (pool_of c.add_changes.new.held.live.pool) c.in_ok-added.ensures.handles (added_slots (Seed c.args.seed) [] p c.args.count c.self.inside.limits.file_bytes old b asked c.add_changes.new.held.live image then_image c.in_ok-added.added c.in_ok-added.ensures.adds)))
    (batch_added (Seed c.args.seed) [] p c.args.count c.self.inside.limits.file_bytes old b asked c.add_changes.new.held.live image then_image added indexes tells c.in_ok-added.ensures.adds)))

pub returns-in-Some-clause-file : goal.returns-in-Some-clause-file
returns-in-Some-clause-file g c = record {
  damaged =
      tells_no_damage (command.Workload c.args.seed c.args.count) c.args.self.now.parts (g.D.Disk.image c.args.disk.now) c.in-Some.refusal
      (refused_not_read c.args.self.now.parts 0 (needs (command.Workload c.args.seed c.args.count)) c.in-Some.refusal (sym c.barred.ensures ∙ c.in-Some.is));
  undamaged = tt;
  reads = unread_reads (Seed c.args.seed) c.args.count c.args.self.now.parts (g.D.Disk.image c.args.disk.now) (halt.Refusal c.in-Some.refusal) (g.D.Disk.taken c.args.disk.now);
}

pub returns-in_err-overlay-clause-file : goal.returns-in_err-overlay-clause-file
returns-in_err-overlay-clause-file g c = record {
  damaged = handed_out c.from_residual.result (halt.Refusal refusal.OutOfMemory) (λ r. DamageIn (command.Workload c.args.seed c.args.count) c.args.self.now.parts (g.D.Disk.image c.args.disk.now) r) c.from_residual.ensures tt;
  undamaged = none_met c.from_residual.result (MeetsNone (reads_for (command.Workload c.args.seed c.args.count)) c.args.self.now.parts (g.D.Disk.image c.args.disk.now)) c.from_residual.ensures.0;
  reads =
      handed_out c.from_residual.result (halt.Refusal refusal.OutOfMemory) (λ r. ReadsIn (command.Workload c.args.seed c.args.count) c.args.self.now.parts (g.D.Disk.image c.args.disk.now) r (g.D.Disk.taken c.args.disk.now) (g.D.Disk.taken c.args.disk.now)) c.from_residual.ensures
      (unread_reads (Seed c.args.seed) c.args.count c.args.self.now.parts (g.D.Disk.image c.args.disk.now) (halt.Refusal refusal.OutOfMemory) (g.D.Disk.taken c.args.disk.now));
}

pub returns-in_err-batch-clause-file : goal.returns-in_err-batch-clause-file
returns-in_err-batch-clause-file g c = record {
  damaged = handed_out c.from_residual-in_err-batch.result (halt.Refusal refusal.OutOfMemory) (λ r. DamageIn (command.Workload c.args.seed c.args.count) c.args.self.now.parts (g.D.Disk.image c.args.disk.now) r) c.from_residual-in_err-batch.ensures tt;
  undamaged = none_met c.from_residual-in_err-batch.result (MeetsNone (reads_for (command.Workload c.args.seed c.args.count)) c.args.self.now.parts (g.D.Disk.image c.args.disk.now)) c.from_residual-in_err-batch.ensures.0;
  reads =
      handed_out c.from_residual-in_err-batch.result (halt.Refusal refusal.OutOfMemory) (λ r. ReadsIn (command.Workload c.args.seed c.args.count) c.args.self.now.parts (g.D.Disk.image c.args.disk.now) r (g.D.Disk.taken c.args.disk.now) (g.D.Disk.taken c.args.disk.now)) c.from_residual-in_err-batch.ensures
      (unread_reads (Seed c.args.seed) c.args.count c.args.self.now.parts (g.D.Disk.image c.args.disk.now) (halt.Refusal refusal.OutOfMemory) (g.D.Disk.taken c.args.disk.now));
}

pub returns-in_err-added-clause-file : goal.returns-in_err-added-clause-file
returns-in_err-added-clause-file g c = record {
  damaged =
      let made : List AuxState = lent c.self.inside.indexes.len c.self.inside.indexes.items c.reserve.new.indexes in
      let kept : map kept_of made ≡ map kept_of c.self.inside.indexes.items = made_kept c.self.inside.indexes c.deref_mut.result.now c.reserve.new.indexes c.deref_mut.ensures.value c.reserve.ensures.kept in
      let p : Parts = with_indexes (the_view c.self.inside).parts (map kept_of made) in
      let same : p ≡ c.args.self.now.parts = ap (with_indexes (the_view c.self.inside).parts) kept ∙ ap (λ (x : SessionState). x.parts) c.self.view_is ∙ c.overlay.ensures.parts in
      let old : Live = record { history = record c.self.inside.held.live.history { names = c.generated_batch.new.names }; pool = c.self.inside.held.live.pool } in
      let b : Batch = c.in_ok-batch.batch in
      let asked : IsAsked (Seed c.args.seed) [] p c.args.count c.self.inside.limits.file_bytes old b =
      is_generated c.args.seed p c.args.self.now.parts c.args.count old b c.barred.result same c.barred.ensures c.in_default.is
      refl refl refl c.self.invariant.0.events c.requires.some c.requires.few c.in_ok-batch.ensures.generated in
      let image : Option (List ℕ) = g.D.Disk.image c.args.disk.now in
      let then_image : Option (List ℕ) = g.D.Disk.image c.add_changes.new.disk in
      handed_out c.from_residual-in_err-added.result (batch_halt c.in_err-added.field-0.0) (λ r. DamageIn (command.Workload c.args.seed c.args.count) c.args.self.now.parts image r) c.from_residual-in_err-added.ensures
      (subst (λ (x : Parts). DamageIn (command.Workload c.args.seed c.args.count) x image (Err (batch_halt c.in_err-added.field-0.0))) same
      (failed_damage (Seed c.args.seed) [] p c.args.count c.self.inside.limits.file_bytes old b asked image then_image c.in_err-added.field-0.0 c.in_err-added.ensures.fails));
  undamaged = none_met c.from_residual-in_err-added.result (MeetsNone (reads_for (command.Workload c.args.seed c.args.count)) c.args.self.now.parts (g.D.Disk.image c.args.disk.now)) c.from_residual-in_err-added.ensures.0;
  reads =
      let made : List AuxState = lent c.self.inside.indexes.len c.self.inside.indexes.items c.reserve.new.indexes in
      let kept : map kept_of made ≡ map kept_of c.self.inside.indexes.items = made_kept c.self.inside.indexes c.deref_mut.result.now c.reserve.new.indexes c.deref_mut.ensures.value c.reserve.ensures.kept in
      let p : Parts = with_indexes (the_view c.self.inside).parts (map kept_of made) in
      let same : p ≡ c.args.self.now.parts = ap (with_indexes (the_view c.self.inside).parts) kept ∙ ap (λ (x : SessionState). x.parts) c.self.view_is ∙ c.overlay.ensures.parts in
      let old : Live = record { history = record c.self.inside.held.live.history { names = c.generated_batch.new.names }; pool = c.self.inside.held.live.pool } in
      let b : Batch = c.in_ok-batch.batch in
      let asked : IsAsked (Seed c.args.seed) [] p c.args.count c.self.inside.limits.file_bytes old b =
      is_generated c.args.seed p c.args.self.now.parts c.args.count old b c.barred.result same c.barred.ensures c.in_default.is
      refl refl refl c.self.invariant.0.events c.requires.some c.requires.few c.in_ok-batch.ensures.generated in
      let image : Option (List ℕ) = g.D.Disk.image c.args.disk.now in
      let taken : ℕ = g.D.Disk.taken c.args.disk.now in
      let then_taken : ℕ = g.D.Disk.taken c.add_changes.new.disk in
      let older : ReadsNoMore p image c.args.count taken then_taken =
      reads_no_more (Seed c.args.seed) [] p c.args.count c.self.inside.limits.file_bytes old b asked image c.add_changes.result taken then_taken c.add_changes.ensures.reads in
      handed_out c.from_residual-in_err-added.result (batch_halt c.in_err-added.field-0.0) (λ r. ReadsIn (command.Workload c.args.seed c.args.count) c.args.self.now.parts image r taken then_taken) c.from_residual-in_err-added.ensures
      (failed_reads (Seed c.args.seed) c.args.count c.args.self.now.parts image c.in_err-added.field-0.0 taken then_taken (subst (λ (x : Parts). ReadsNoMore x image c.args.count taken then_taken) same older) (refused_reads (Seed c.args.seed) [] p c.args.count c.self.inside.limits.file_bytes old b asked image c.in_err-added.field-0.0 taken then_taken c.in_err-added.ensures.reads));
}

pub returns-clause-file : goal.returns-clause-file
returns-clause-file g c = record {
  damaged = subst (DamageIs (command.Workload c.args.seed c.args.count) c.args.self.now.parts (g.D.Disk.image c.args.disk.now)) (sym c.headed.ensures) tt;
  undamaged =
      let made : List AuxState = lent c.self.inside.indexes.len c.self.inside.indexes.items c.reserve.new.indexes in
      let kept : map kept_of made ≡ map kept_of c.self.inside.indexes.items = made_kept c.self.inside.indexes c.deref_mut.result.now c.reserve.new.indexes c.deref_mut.ensures.value c.reserve.ensures.kept in
      let p : Parts = with_indexes (the_view c.self.inside).parts (map kept_of made) in
      let same : p ≡ c.args.self.now.parts = ap (with_indexes (the_view c.self.inside).parts) kept ∙ ap (λ (x : SessionState). x.parts) c.self.view_is ∙ c.overlay.ensures.parts in
      let old : Live = record { history = record c.self.inside.held.live.history { names = c.generated_batch.new.names }; pool = c.self.inside.held.live.pool } in
      let b : Batch = c.in_ok-batch.batch in
      let asked : IsAsked (Seed c.args.seed) [] p c.args.count c.self.inside.limits.file_bytes old b =
      is_generated c.args.seed p c.args.self.now.parts c.args.count old b c.barred.result same c.barred.ensures c.in_default.is
      refl refl refl c.self.invariant.0.events c.requires.some c.requires.few c.in_ok-batch.ensures.generated in
      let image : Option (List ℕ) = g.D.Disk.image c.args.disk.now in
      let then_image : Option (List ℕ) = g.D.Disk.image c.add_changes.new.disk in
      subst (λ (x : Parts). MeetsNone (Batch_of c.args.count) x image) same
      (added_undamaged (Seed c.args.seed) [] p c.args.count c.self.inside.limits.file_bytes old b asked image then_image c.add_changes.new.held.live c.in_ok-added.added
      c.in_ok-added.ensures.adds);
  reads =
      let made : List AuxState = lent c.self.inside.indexes.len c.self.inside.indexes.items c.reserve.new.indexes in
      let kept : map kept_of made ≡ map kept_of c.self.inside.indexes.items = made_kept c.self.inside.indexes c.deref_mut.result.now c.reserve.new.indexes c.deref_mut.ensures.value c.reserve.ensures.kept in
      let p : Parts = with_indexes (the_view c.self.inside).parts (map kept_of made) in
      let same : p ≡ c.args.self.now.parts = ap (with_indexes (the_view c.self.inside).parts) kept ∙ ap (λ (x : SessionState). x.parts) c.self.view_is ∙ c.overlay.ensures.parts in
      let old : Live = record { history = record c.self.inside.held.live.history { names = c.generated_batch.new.names }; pool = c.self.inside.held.live.pool } in
      let b : Batch = c.in_ok-batch.batch in
      let asked : IsAsked (Seed c.args.seed) [] p c.args.count c.self.inside.limits.file_bytes old b =
      is_generated c.args.seed p c.args.self.now.parts c.args.count old b c.barred.result same c.barred.ensures c.in_default.is
      refl refl refl c.self.invariant.0.events c.requires.some c.requires.few c.in_ok-batch.ensures.generated in
      let image : Option (List ℕ) = g.D.Disk.image c.args.disk.now in
      let taken : ℕ = g.D.Disk.taken c.args.disk.now in
      let then_taken : ℕ = g.D.Disk.taken c.add_changes.new.disk in
      let added = c.in_ok-added.added in
      let graph : List Element = c.add_changes.new.held.live.history.now.graph in
      let counts : c.counts_now-counts.result ≡ counts_of graph = c.counts_now-counts.ensures ∙ ap (λ p. counts_of (graph_now p)) c.deref-2.ensures ∙ ap counts_of (subst (λ pool. IsOverlayOf graph (pool_in pool)) c.in-Some-pool.is c.add_changes.ensures.held.live.pool) in
      let older : ReadsNoMore p image c.args.count taken then_taken =
      reads_no_more (Seed c.args.seed) [] p c.args.count c.self.inside.limits.file_bytes old b asked image c.add_changes.result taken then_taken c.add_changes.ensures.reads in
      subst (λ (r : Reply). Reads (command.Workload c.args.seed c.args.count) c.args.self.now.parts image r taken then_taken) (sym (c.headed.ensures ∙ ap (λ (k : ℕ). headed (head.Generated k added.last c.counts_now-counts.result.nodes c.counts_now-counts.result.edges)) (c.len.ensures ∙ many added.events) ∙ ap (λ (n : Counts). headed (head.Generated (length added.events.items) added.last n.nodes n.edges)) counts))
      (added_reads (Seed c.args.seed) c.args.count c.args.self.now.parts image graph (length added.events.items) added.total added.last taken then_taken
      (subst (λ (x : Parts). ReadsNoMore x image c.args.count taken then_taken) same older));
}

pub returns-in-Some-clause-disk : goal.returns-in-Some-clause-disk
returns-in-Some-clause-disk g c = reading_treats g.D.Disk c.args.disk.now c.args.disk.now (Err (halt.Refusal c.in-Some.refusal)) reads_none

pub returns-in_err-overlay-clause-disk : goal.returns-in_err-overlay-clause-disk
returns-in_err-overlay-clause-disk g c =
    handed_out c.from_residual.result (halt.Refusal refusal.OutOfMemory) (TreatsDisk g.D.Disk c.args.disk.now c.args.disk.now) c.from_residual.ensures
    (reading_treats g.D.Disk c.args.disk.now c.args.disk.now (Err (halt.Refusal refusal.OutOfMemory)) reads_none)

pub returns-in_err-batch-clause-disk : goal.returns-in_err-batch-clause-disk
returns-in_err-batch-clause-disk g c =
    handed_out c.from_residual-in_err-batch.result (halt.Refusal refusal.OutOfMemory) (TreatsDisk g.D.Disk c.args.disk.now c.args.disk.now) c.from_residual-in_err-batch.ensures
    (reading_treats g.D.Disk c.args.disk.now c.args.disk.now (Err (halt.Refusal refusal.OutOfMemory)) reads_none)

pub returns-in_err-added-clause-disk : goal.returns-in_err-added-clause-disk
returns-in_err-added-clause-disk g c =
    handed_out c.from_residual-in_err-added.result (batch_halt c.in_err-added.field-0.0) (TreatsDisk g.D.Disk c.args.disk.now c.add_changes.new.disk) c.from_residual-in_err-added.ensures
    (failed_treats g.D.Disk c.args.disk.now c.add_changes.new.disk c.in_err-added.field-0.0 c.in_err-added.ensures.disk)

pub returns-clause-disk : goal.returns-clause-disk
returns-clause-disk g c = added_treats g.D.Disk c.args.disk.now c.add_changes.new.disk c.in_ok-added.added c.headed.result c.in_ok-added.ensures.disk

pub returns-in-Some-clause-crash : goal.returns-in-Some-clause-crash
returns-in-Some-clause-crash g c =
    reading_left g.D.Disk g.met.D.Disk.only_now c.args.disk.now c.args.disk.now reads_none (command.Workload c.args.seed c.args.count) [] c.args.self.now.parts (Err (halt.Refusal c.in-Some.refusal)) (λ e. cc)

pub returns-in_err-overlay-clause-crash : goal.returns-in_err-overlay-clause-crash
returns-in_err-overlay-clause-crash g c =
    handed_out c.from_residual.result (halt.Refusal refusal.OutOfMemory) (λ r. LeftByCrash g.D.Disk c.args.disk.now c.args.disk.now (LeavesCommand (command.Workload c.args.seed c.args.count) [] c.args.self.now.parts r)) c.from_residual.ensures
    (reading_left g.D.Disk g.met.D.Disk.only_now c.args.disk.now c.args.disk.now reads_none (command.Workload c.args.seed c.args.count) [] c.args.self.now.parts (Err (halt.Refusal refusal.OutOfMemory)) (λ e. cc))

pub returns-in_err-batch-clause-crash : goal.returns-in_err-batch-clause-crash
returns-in_err-batch-clause-crash g c =
    handed_out c.from_residual-in_err-batch.result (halt.Refusal refusal.OutOfMemory) (λ r. LeftByCrash g.D.Disk c.args.disk.now c.args.disk.now (LeavesCommand (command.Workload c.args.seed c.args.count) [] c.args.self.now.parts r)) c.from_residual-in_err-batch.ensures
    (reading_left g.D.Disk g.met.D.Disk.only_now c.args.disk.now c.args.disk.now reads_none (command.Workload c.args.seed c.args.count) [] c.args.self.now.parts (Err (halt.Refusal refusal.OutOfMemory)) (λ e. cc))

pub returns-in_err-added-clause-crash : goal.returns-in_err-added-clause-crash
returns-in_err-added-clause-crash g c =
    let made : List AuxState = lent c.self.inside.indexes.len c.self.inside.indexes.items c.reserve.new.indexes in
    let kept : map kept_of made ≡ map kept_of c.self.inside.indexes.items = made_kept c.self.inside.indexes c.deref_mut.result.now c.reserve.new.indexes c.deref_mut.ensures.value c.reserve.ensures.kept in
    let p : Parts = with_indexes (the_view c.self.inside).parts (map kept_of made) in
    let same : p ≡ c.args.self.now.parts = ap (with_indexes (the_view c.self.inside).parts) kept ∙ ap (λ (x : SessionState). x.parts) c.self.view_is ∙ c.overlay.ensures.parts in
    let old : Live = record { history = record c.self.inside.held.live.history { names = c.generated_batch.new.names }; pool = c.self.inside.held.live.pool } in
    let b : Batch = c.in_ok-batch.batch in
    let asked : IsAsked (Seed c.args.seed) [] p c.args.count c.self.inside.limits.file_bytes old b =
    is_generated c.args.seed p c.args.self.now.parts c.args.count old b c.barred.result same c.barred.ensures c.in_default.is
    refl refl refl c.self.invariant.0.events c.requires.some c.requires.few c.in_ok-batch.ensures.generated in
    handed_out c.from_residual-in_err-added.result (batch_halt c.in_err-added.field-0.0)
    (λ r. LeftByCrash g.D.Disk c.args.disk.now c.add_changes.new.disk (LeavesCommand (command.Workload c.args.seed c.args.count) [] c.args.self.now.parts r)) c.from_residual-in_err-added.ensures
    (subst (λ (x : Parts). LeftByCrash g.D.Disk c.args.disk.now c.add_changes.new.disk (LeavesCommand (command.Workload c.args.seed c.args.count) [] x (Err (batch_halt c.in_err-added.field-0.0)))) same
    (failed_left (Seed c.args.seed) [] p c.args.count c.self.inside.limits.file_bytes old b asked g.D.Disk c.args.disk.now c.add_changes.new.disk g.met.D.Disk.only_now
    c.in_err-added.field-0.0 c.in_err-added.ensures.fails c.in_err-added.ensures.disk.unwritten c.in_err-added.ensures.disk.crash))

pub returns-clause-crash : goal.returns-clause-crash
returns-clause-crash g c =
    let made : List AuxState = lent c.self.inside.indexes.len c.self.inside.indexes.items c.reserve.new.indexes in
    let kept : map kept_of made ≡ map kept_of c.self.inside.indexes.items = made_kept c.self.inside.indexes c.deref_mut.result.now c.reserve.new.indexes c.deref_mut.ensures.value c.reserve.ensures.kept in
    let p : Parts = with_indexes (the_view c.self.inside).parts (map kept_of made) in
    let same : p ≡ c.args.self.now.parts = ap (with_indexes (the_view c.self.inside).parts) kept ∙ ap (λ (x : SessionState). x.parts) c.self.view_is ∙ c.overlay.ensures.parts in
    let old : Live = record { history = record c.self.inside.held.live.history { names = c.generated_batch.new.names }; pool = c.self.inside.held.live.pool } in
    let b : Batch = c.in_ok-batch.batch in
    let asked : IsAsked (Seed c.args.seed) [] p c.args.count c.self.inside.limits.file_bytes old b =
    is_generated c.args.seed p c.args.self.now.parts c.args.count old b c.barred.result same c.barred.ensures c.in_default.is
    refl refl refl c.self.invariant.0.events c.requires.some c.requires.few c.in_ok-batch.ensures.generated in
    let added = c.in_ok-added.added in
    let graph : List Element = c.add_changes.new.held.live.history.now.graph in
    let counts : c.counts_now-counts.result ≡ counts_of graph = c.counts_now-counts.ensures ∙ ap (λ p. counts_of (graph_now p)) c.deref-2.ensures ∙ ap counts_of (subst (λ pool. IsOverlayOf graph (pool_in pool)) c.in-Some-pool.is c.add_changes.ensures.held.live.pool) in
    let said : Reply = headed (head_over (Seed c.args.seed) graph (length added.events.items) added.total added.last) in
    let reply : said ≡ c.headed.result = sym (c.headed.ensures ∙ ap (λ (k : ℕ). headed (head.Generated k added.last c.counts_now-counts.result.nodes c.counts_now-counts.result.edges)) (c.len.ensures ∙ many added.events) ∙ ap (λ (n : Counts). headed (head.Generated (length added.events.items) added.last n.nodes n.edges)) counts) in
    subst (λ (r : Reply). LeftByCrash g.D.Disk c.args.disk.now c.add_changes.new.disk (LeavesAnswered (command.Workload c.args.seed c.args.count) [] c.args.self.now.parts r)) reply
    (subst (λ (x : Parts). LeftByCrash g.D.Disk c.args.disk.now c.add_changes.new.disk (LeavesAnswered (command.Workload c.args.seed c.args.count) [] x said)) same
    (added_left (Seed c.args.seed) [] p c.args.count c.self.inside.limits.file_bytes old b asked g.D.Disk c.args.disk.now c.add_changes.new.disk c.add_changes.new.held.live added c.in_ok-added.ensures.adds c.in_ok-added.ensures.disk.crash))

pub pass-requires : goal.pass-requires
pass-requires g c =
    let made : List AuxState = lent c.self.inside.indexes.len c.self.inside.indexes.items c.reserve.new.indexes in
    let kept : map kept_of made ≡ map kept_of c.self.inside.indexes.items = made_kept c.self.inside.indexes c.deref_mut.result.now c.reserve.new.indexes c.deref_mut.ensures.value c.reserve.ensures.kept in
    let p : Parts = with_indexes (the_view c.self.inside).parts (map kept_of made) in
    let same : p ≡ c.args.self.now.parts = ap (with_indexes (the_view c.self.inside).parts) kept ∙ ap (λ (x : SessionState). x.parts) c.self.view_is ∙ c.overlay.ensures.parts in
    let old : Live = record { history = record c.self.inside.held.live.history { names = c.generated_batch.new.names }; pool = c.self.inside.held.live.pool } in
    let b : Batch = c.in_ok-batch.batch in
    let asked : IsAsked (Seed c.args.seed) [] p c.args.count c.self.inside.limits.file_bytes old b =
    is_generated c.args.seed p c.args.self.now.parts c.args.count old b c.barred.result same c.barred.ensures c.in_default.is
    refl refl refl c.self.invariant.0.events c.requires.some c.requires.few c.in_ok-batch.ensures.generated in
    let added : AddedBatch = c.in_ok-added.added in
    let there : c.deref_mut-2.result.now ≡ c.reserve.new.indexes =
    c.deref_mut-2.ensures.value ∙ made_are c.self.inside.indexes c.deref_mut.result.now c.reserve.new.indexes c.deref_mut.ensures.value c.reserve.ensures.kept in
    let room : All (λ (aux : AuxState). HasRoomFor aux (length added.events.items)) c.reserve.new.indexes =
    room_for_values (Seed c.args.seed) [] p c.args.count c.self.inside.limits.file_bytes old b asked c.add_changes.new.held.live (g.D.Disk.image c.args.disk.now) (g.D.Disk.image c.add_changes.new.disk)
    added c.reserve.new.indexes c.in_ok-added.ensures.adds c.in_ok-reserve.ensures.room in
    subst (λ (es : List Event). All (λ (aux : AuxState). HasRoomFor aux (length es)) c.deref_mut-2.result.now) (sym c.deref.ensures.value)
    (subst (All (λ (aux : AuxState). HasRoomFor aux (length added.events.items))) (sym there) room)

pub returns-in_err-reserve-clause-comes : goal.returns-in_err-reserve-clause-comes
returns-in_err-reserve-clause-comes g c =
    let made : List AuxState = lent c.self.inside.indexes.len c.self.inside.indexes.items c.reserve.new.indexes in
    let kept : map kept_of made ≡ map kept_of c.self.inside.indexes.items = made_kept c.self.inside.indexes c.deref_mut.result.now c.reserve.new.indexes c.deref_mut.ensures.value c.reserve.ensures.kept in
    let p : Parts = with_indexes (the_view c.self.inside).parts (map kept_of made) in
    let same : p ≡ c.args.self.now.parts = ap (with_indexes (the_view c.self.inside).parts) kept ∙ ap (λ (x : SessionState). x.parts) c.self.view_is ∙ c.overlay.ensures.parts in
    handed_out c.from_residual-in_err-reserve.result (halt.Refusal refusal.OutOfMemory) (ComesTo (command.Workload c.args.seed c.args.count) [] c.args.self.now.parts (g.D.Disk.image c.args.disk.now) p (g.D.Disk.image c.args.disk.now)) c.from_residual-in_err-reserve.ensures
    (lacking_denies (command.Workload c.args.seed c.args.count) [] c.args.self.now.parts p (g.D.Disk.image c.args.disk.now) (g.D.Disk.image c.args.disk.now) same refl refl (sym c.barred.ensures ∙ c.in_default.is))

pub returns-in_err-reserve-clause-file : goal.returns-in_err-reserve-clause-file
returns-in_err-reserve-clause-file g c = record {
  damaged = handed_out c.from_residual-in_err-reserve.result (halt.Refusal refusal.OutOfMemory) (λ r. DamageIn (command.Workload c.args.seed c.args.count) c.args.self.now.parts (g.D.Disk.image c.args.disk.now) r) c.from_residual-in_err-reserve.ensures tt;
  undamaged = none_met c.from_residual-in_err-reserve.result (MeetsNone (reads_for (command.Workload c.args.seed c.args.count)) c.args.self.now.parts (g.D.Disk.image c.args.disk.now)) c.from_residual-in_err-reserve.ensures.0;
  reads =
      handed_out c.from_residual-in_err-reserve.result (halt.Refusal refusal.OutOfMemory) (λ r. ReadsIn (command.Workload c.args.seed c.args.count) c.args.self.now.parts (g.D.Disk.image c.args.disk.now) r (g.D.Disk.taken c.args.disk.now) (g.D.Disk.taken c.args.disk.now)) c.from_residual-in_err-reserve.ensures
      (unread_reads (Seed c.args.seed) c.args.count c.args.self.now.parts (g.D.Disk.image c.args.disk.now) (halt.Refusal refusal.OutOfMemory) (g.D.Disk.taken c.args.disk.now));
}

pub returns-in_err-reserve-clause-disk : goal.returns-in_err-reserve-clause-disk
returns-in_err-reserve-clause-disk g c =
    handed_out c.from_residual-in_err-reserve.result (halt.Refusal refusal.OutOfMemory) (TreatsDisk g.D.Disk c.args.disk.now c.args.disk.now) c.from_residual-in_err-reserve.ensures
    (reading_treats g.D.Disk c.args.disk.now c.args.disk.now (Err (halt.Refusal refusal.OutOfMemory)) reads_none)

pub returns-in_err-reserve-clause-crash : goal.returns-in_err-reserve-clause-crash
returns-in_err-reserve-clause-crash g c =
    handed_out c.from_residual-in_err-reserve.result (halt.Refusal refusal.OutOfMemory) (λ r. LeftByCrash g.D.Disk c.args.disk.now c.args.disk.now (LeavesCommand (command.Workload c.args.seed c.args.count) [] c.args.self.now.parts r)) c.from_residual-in_err-reserve.ensures
    (reading_left g.D.Disk g.met.D.Disk.only_now c.args.disk.now c.args.disk.now reads_none (command.Workload c.args.seed c.args.count) [] c.args.self.now.parts (Err (halt.Refusal refusal.OutOfMemory)) (λ e. cc))
