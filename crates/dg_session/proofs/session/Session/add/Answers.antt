use Rattle.std.proofs.Common.{length, map, ◌≡◌, ℕ, List, Option, None, Err, refl, sym, ◌∙◌, ap, subst}
use Rattle.std.specs.List.{All}
use Rattle.dg_aux.specs.Turns.{AuxState, HasRoomFor}
use Rattle.dg_append.specs.declared.batch.AddedBatch.{AddedBatch}
use Rattle.dg_graph.specs.declared.event.Event.{Event}
use Rattle.dg_machine.specs.declared.reply.Refusal.{Refusal}
use Rattle.dg_session.specs.ValuesSaid.{IndexKept, all_said_with, kept_of, said_of}
use Rattle.dg_session.proofs.IndexRuns.{lent, made_are, made_kept, went_said}
use Rattle.dg_text.specs.Lines.{ScriptLine}
use Rattle.dg_cuts.specs.TakenLines.{CutsWithin, TakesBehind}
use Rattle.dg_machine.specs.declared.reply.Reply.{Reply}
use Rattle.dg_machine.specs.Answer.{headed}
use Rattle.dg_session.specs.SessionState.{SessionState}
use Rattle.dg_session.specs.BatchCommand.{Bars, barred, command_with, batch_head}
use Rattle.dg_session.specs.Damage.{Batch_of, DamageIn, MeetsNone, reads_for}
use Rattle.dg_batch.specs.declared.halt.Halt.TheVariants as halt
use Rattle.dg_batch.specs.declared.stop.Stop.TheVariants as stop
use Rattle.dg_batch.specs.Halt.{batch_halt}
use Rattle.dg_session.proofs.LimitStops.{not_ok, same_fault}
use Rattle.dg_session.specs.Parts.{Parts}
use Rattle.dg_session.specs.Reads.{Reads, ReadsIn}
use Rattle.dg_session.specs.Session.{Accepts, ComesTo, LeavesAnswered, LeavesCommand}
use Rattle.dg_session.specs.contracts.session.Session.{the_view}
use Rattle.dg_session.proofs.BatchCommandReads.{ReadsNoMore, added_reads, added_undamaged, failed_damage, failed_reads, reads_no_more, reads_of, refused_reads, unread_damage, unread_reads}
use Rattle.dg_batch.specs.declared.halt.Halt.{Halt}
use Rattle.dg_disk.proofs.FrameLemmas.{reads_none}
use Rattle.dg_disk.specs.Calls.{LeftByCrash}
use Rattle.dg_session.proofs.BatchCommandCrashes.{added_left, failed_left}
use Rattle.dg_session.proofs.CommandCrashes.{reading_left}
use Rattle.dg_session.proofs.CommandDisks.{added_treats, failed_treats, fails_as, reading_treats}
use Rattle.dg_session.specs.Calls.{TreatsDisk}
use Rattle.dg_session.proofs.BatchCommandForms.{Lines_of}
use Rattle.dg_session.proofs.BatchCommandStep.{IsAsked, added_slots, bars_none, batch_added, batch_failed, failed_stays, is_asked, may_add, kept_handles, none_barred, none_bars, room_for_values, takes_failed, unread_comes, with_handles, with_history, with_indexes}
use Rattle.dg_session.proofs.SessionSteps.{Carried, handed_out, with_crash}
use Rattle.dg_append.specs.Overlays.{pool_of}
use Rattle.dg_append.specs.declared.live.Live.{Live}
use Rattle.dg_session.proofs.DamageStep.{accepted_tells_none, none_met}
use Rattle.dg_session.proofs.session.Session.add.Goals as goal

pub returns-in_err-batch-clause-comes : goal.returns-in_err-batch-clause-comes
returns-in_err-batch-clause-comes g c =
    let made : List AuxState = lent c.self.inside.indexes.len c.self.inside.indexes.items c.barred_with-barred.new.indexes in
    let kept : map kept_of made ≡ map kept_of c.self.inside.indexes.items =
    made_kept c.self.inside.indexes c.deref_mut.result.now c.barred_with-barred.new.indexes c.deref_mut.ensures.value c.barred_with-barred.ensures.kept in
    let p : Parts = with_indexes (the_view c.self.inside).parts (map kept_of made) in
    let same : p ≡ c.args.self.now.parts = ap (with_indexes (the_view c.self.inside).parts) kept ∙ ap (λ (x : SessionState). x.parts) c.self.view_is in
    let q : Parts = record p { names = c.read_batch.new.names } in
    let takes : List ScriptLine → Type 0 = TakesBehind c.args.count c.args.lines.now (g.S.Source.left c.args.source.now) c.read_batch.new.lines (g.S.Source.left c.read_batch.new.source) in
    let short : Type 0 = CutsWithin c.args.count c.args.lines.now (g.S.Source.left c.args.source.now) c.read_batch.new.lines (g.S.Source.left c.read_batch.new.source) in
    let image : Option (List ℕ) = g.D.Disk.image c.args.disk.now in
    let h : Halt = c.in_err-batch.field-0.0 in
    let bars : Bars (barred c.args.which c.args.self.now.parts c.args.count) c.barred_with-barred.result = subst (λ (r : Option Refusal). Bars r c.barred_with-barred.result) c.barred.ensures c.barred_with-barred.ensures.bars in
    let other : h ≡ halt.Stop stop.Store → ⊥ = λ e. c.read_batch.ensures.no_store (c.in_err-batch.was ∙ ap (λ x. Err x) e) in
    handed_out c.from_residual.result h (λ r. Carried (command_with c.args.which c.args.count) takes short c.args.self.now.parts image q image r (LeftByCrash g.D.Disk c.args.disk.now c.args.disk.now)) c.from_residual.ensures
    (with_crash (command_with c.args.which c.args.count) takes short c.args.self.now.parts image q image (Err h) (LeftByCrash g.D.Disk c.args.disk.now c.args.disk.now)
    (unread_comes c.args.which c.args.count c.args.self.now.parts q c.self.inside.held.live.history.names c.read_batch.new.names takes short image h c.barred_with-barred.result
    (λ e. ap (λ ns. let x : Parts = record p { names = ns } in x) e ∙ same) bars c.in_err-batch.ensures.reads other)
    (λ got. reading_left g.D.Disk g.met.D.Disk.only_now c.args.disk.now c.args.disk.now reads_none (command_with c.args.which c.args.count) got c.args.self.now.parts (Err h) (λ e. other (fails_as h (halt.Stop stop.Store) e))))

pub add_changes-requires-clause-may : goal.add_changes-requires-clause-may
add_changes-requires-clause-may g c =
    let made : List AuxState = lent c.self.inside.indexes.len c.self.inside.indexes.items c.barred_with-barred.new.indexes in
    let kept : map kept_of made ≡ map kept_of c.self.inside.indexes.items =
    made_kept c.self.inside.indexes c.deref_mut.result.now c.barred_with-barred.new.indexes c.deref_mut.ensures.value c.barred_with-barred.ensures.kept in
    let p : Parts = with_indexes (the_view c.self.inside).parts (map kept_of made) in
    let same : p ≡ c.args.self.now.parts = ap (with_indexes (the_view c.self.inside).parts) kept ∙ ap (λ (x : SessionState). x.parts) c.self.view_is in
    let old : Live = record { history = record c.self.inside.held.live.history { names = c.read_batch.new.names }; pool = c.self.inside.held.live.pool } in
    let takes : List ScriptLine → Type 0 = TakesBehind c.args.count c.args.lines.now (g.S.Source.left c.args.source.now) c.read_batch.new.lines (g.S.Source.left c.read_batch.new.source) in
    let short : Type 0 = CutsWithin c.args.count c.args.lines.now (g.S.Source.left c.args.source.now) c.read_batch.new.lines (g.S.Source.left c.read_batch.new.source) in
    let got : List ScriptLine = c.in_ok-batch.ensures.reads.got in
    let asked : IsAsked (Lines_of c.args.which) got p c.args.count c.self.inside.limits.file_bytes old c.in_ok-batch.batch =
    is_asked c.args.which p c.args.self.now.parts c.args.count old c.in_ok-batch.batch takes c.barred.result c.barred_with-barred.result same c.barred.ensures c.barred_with-barred.ensures.bars
    refl refl refl c.self.invariant.0.events c.requires.some c.requires.few c.in_ok-batch.ensures.reads in
    may_add (Lines_of c.args.which) got p c.args.count c.self.inside.limits.file_bytes old c.in_ok-batch.batch asked c.self.invariant.1.live.sound c.self.invariant.1.live.pool

pub returns-in_err-added-clause-comes : goal.returns-in_err-added-clause-comes
returns-in_err-added-clause-comes g c =
    let made : List AuxState = lent c.self.inside.indexes.len c.self.inside.indexes.items c.barred_with-barred.new.indexes in
    let kept : map kept_of made ≡ map kept_of c.self.inside.indexes.items =
    made_kept c.self.inside.indexes c.deref_mut.result.now c.barred_with-barred.new.indexes c.deref_mut.ensures.value c.barred_with-barred.ensures.kept in
    let p : Parts = with_indexes (the_view c.self.inside).parts (map kept_of made) in
    let same : p ≡ c.args.self.now.parts = ap (with_indexes (the_view c.self.inside).parts) kept ∙ ap (λ (x : SessionState). x.parts) c.self.view_is in
    let old : Live = record { history = record c.self.inside.held.live.history { names = c.read_batch.new.names }; pool = c.self.inside.held.live.pool } in
    let takes : List ScriptLine → Type 0 = TakesBehind c.args.count c.args.lines.now (g.S.Source.left c.args.source.now) c.read_batch.new.lines (g.S.Source.left c.read_batch.new.source) in
    let short : Type 0 = CutsWithin c.args.count c.args.lines.now (g.S.Source.left c.args.source.now) c.read_batch.new.lines (g.S.Source.left c.read_batch.new.source) in
    let got : List ScriptLine = c.in_ok-batch.ensures.reads.got in
    let asked : IsAsked (Lines_of c.args.which) got p c.args.count c.self.inside.limits.file_bytes old c.in_ok-batch.batch =
    is_asked c.args.which p c.args.self.now.parts c.args.count old c.in_ok-batch.batch takes c.barred.result c.barred_with-barred.result same c.barred.ensures c.barred_with-barred.ensures.bars
    refl refl refl c.self.invariant.0.events c.requires.some c.requires.few c.in_ok-batch.ensures.reads in
    let image : Option (List ℕ) = g.D.Disk.image c.args.disk.now in
    let then_image : Option (List ℕ) = g.D.Disk.image c.add_changes.new.disk in
    let q : Parts = with_handles (with_history p c.add_changes.new.held.live.history) c.add_changes.new.held.handles (pool_of c.add_changes.new.held.live.pool) in
    handed_out c.from_residual-in_err-added.result (batch_halt c.in_err-added.field-0.0)
    (λ r. Carried (command_with c.args.which c.args.count) takes short c.args.self.now.parts image q then_image r (LeftByCrash g.D.Disk c.args.disk.now c.add_changes.new.disk)) c.from_residual-in_err-added.ensures (
      got,
      takes_failed takes short got c.in_err-added.field-0.0 c.in_ok-batch.ensures.reads.taken,
      subst (λ (x : Parts). ComesTo (command_with c.args.which c.args.count) got x image q then_image (Err (batch_halt c.in_err-added.field-0.0))) same
          (batch_failed (Lines_of c.args.which) got p c.args.count c.self.inside.limits.file_bytes old c.in_ok-batch.batch asked c.add_changes.new.held.live image then_image
          c.in_err-added.field-0.0 c.in_err-added.ensures.fails q
          (failed_stays (Lines_of c.args.which) got p c.args.count c.self.inside.limits.file_bytes old c.in_ok-batch.batch asked c.add_changes.new.held.live image then_image
          c.in_err-added.field-0.0 c.self.inside.held.handles c.add_changes.new.held.handles c.in_err-added.ensures.back c.in_err-added.ensures.handles refl)),
      subst (λ (x : Parts). LeftByCrash g.D.Disk c.args.disk.now c.add_changes.new.disk (LeavesCommand (command_with c.args.which c.args.count) got x (Err (batch_halt c.in_err-added.field-0.0)))) same
          (failed_left (Lines_of c.args.which) got p c.args.count c.self.inside.limits.file_bytes old c.in_ok-batch.batch asked g.D.Disk c.args.disk.now c.add_changes.new.disk g.met.D.Disk.only_now
          c.in_err-added.field-0.0 c.in_err-added.ensures.fails c.in_err-added.ensures.disk.unwritten c.in_err-added.ensures.disk.crash),
    )

pub returns-clause-comes : goal.returns-clause-comes
returns-clause-comes g c =
    let made : List AuxState = lent c.self.inside.indexes.len c.self.inside.indexes.items c.barred_with-barred.new.indexes in
    let kept : map kept_of made ≡ map kept_of c.self.inside.indexes.items =
    made_kept c.self.inside.indexes c.deref_mut.result.now c.barred_with-barred.new.indexes c.deref_mut.ensures.value c.barred_with-barred.ensures.kept in
    let p : Parts = with_indexes (the_view c.self.inside).parts (map kept_of made) in
    let same : p ≡ c.args.self.now.parts = ap (with_indexes (the_view c.self.inside).parts) kept ∙ ap (λ (x : SessionState). x.parts) c.self.view_is in
    let old : Live = record { history = record c.self.inside.held.live.history { names = c.read_batch.new.names }; pool = c.self.inside.held.live.pool } in
    let takes : List ScriptLine → Type 0 = TakesBehind c.args.count c.args.lines.now (g.S.Source.left c.args.source.now) c.read_batch.new.lines (g.S.Source.left c.read_batch.new.source) in
    let short : Type 0 = CutsWithin c.args.count c.args.lines.now (g.S.Source.left c.args.source.now) c.read_batch.new.lines (g.S.Source.left c.read_batch.new.source) in
    let got : List ScriptLine = c.in_ok-batch.ensures.reads.got in
    let asked : IsAsked (Lines_of c.args.which) got p c.args.count c.self.inside.limits.file_bytes old c.in_ok-batch.batch =
    is_asked c.args.which p c.args.self.now.parts c.args.count old c.in_ok-batch.batch takes c.barred.result c.barred_with-barred.result same c.barred.ensures c.barred_with-barred.ensures.bars
    refl refl refl c.self.invariant.0.events c.requires.some c.requires.few c.in_ok-batch.ensures.reads in
    let image : Option (List ℕ) = g.D.Disk.image c.args.disk.now in
    let then_image : Option (List ℕ) = g.D.Disk.image c.add_changes.new.disk in
    let indexes : List IndexKept = map kept_of (lent c.self.inside.indexes.len made c.pass.new.indexes) in
    let tells : map said_of indexes ≡ all_said_with c.in_ok-added.added.events.items (map said_of p.indexes) =
    went_said c.self.inside.indexes c.deref_mut.result.now c.barred_with-barred.new.indexes c.deref_mut.ensures.value c.barred_with-barred.ensures.kept
    c.in_ok-added.added.events.items c.deref.result.now c.deref_mut-2.result.now c.pass.new.indexes c.deref.ensures.value c.deref_mut-2.ensures.value c.pass.ensures in
    let left : Parts = with_indexes (with_history p c.add_changes.new.held.live.history) indexes in
    let q : Parts = with_handles left c.add_changes.new.held.handles (pool_of c.add_changes.new.held.live.pool) in
    let reply : headed (batch_head c.args.which (length c.in_ok-added.added.events.items) c.in_ok-added.added.total c.in_ok-added.added.last) ≡ c.headed.result = sym (c.headed.ensures ∙ ap headed c.head.ensures) in (
      got,
      c.in_ok-batch.ensures.reads.taken,
      subst (λ (r : Reply). Accepts (command_with c.args.which c.args.count) got c.args.self.now.parts image q then_image r) reply
          (subst (λ (x : Parts). Accepts (command_with c.args.which c.args.count) got x image q then_image (headed (batch_head c.args.which (length c.in_ok-added.added.events.items) c.in_ok-added.added.total c.in_ok-added.added.last))) same
          (subst (λ (y : Parts). Accepts (command_with c.args.which c.args.count) got p image y then_image (headed (batch_head c.args.which (length c.in_ok-added.added.events.items) c.in_ok-added.added.total c.in_ok-added.added.last)))
          (sym (kept_handles left c.self.inside.held.handles c.add_changes.new.held.handles (pool_of c.self.inside.held.live.pool) (pool_of c.add_changes.new.held.live.pool) c.in_ok-added.ensures.handles (added_slots (Lines_of c.args.which) got p c.args.count c.self.inside.limits.file_bytes old c.in_ok-batch.batch asked c.add_changes.new.held.live image then_image c.in_ok-added.added c.in_ok-added.ensures.adds)))
          (batch_added (Lines_of c.args.which) got p c.args.count c.self.inside.limits.file_bytes old c.in_ok-batch.batch asked c.add_changes.new.held.live image then_image
          c.in_ok-added.added indexes tells c.in_ok-added.ensures.adds))),
      subst (λ (r : Reply). LeftByCrash g.D.Disk c.args.disk.now c.add_changes.new.disk (LeavesAnswered (command_with c.args.which c.args.count) got c.args.self.now.parts r)) reply
          (subst (λ (x : Parts). LeftByCrash g.D.Disk c.args.disk.now c.add_changes.new.disk
          (LeavesAnswered (command_with c.args.which c.args.count) got x (headed (batch_head c.args.which (length c.in_ok-added.added.events.items) c.in_ok-added.added.total c.in_ok-added.added.last)))) same
          (added_left (Lines_of c.args.which) got p c.args.count c.self.inside.limits.file_bytes old c.in_ok-batch.batch asked g.D.Disk c.args.disk.now c.add_changes.new.disk c.add_changes.new.held.live
          c.in_ok-added.added c.in_ok-added.ensures.adds c.in_ok-added.ensures.disk.crash)),
    )

pub returns-in_err-batch-clause-due : goal.returns-in_err-batch-clause-due
returns-in_err-batch-clause-due g c some at needs =
    handed_out c.from_residual.result c.in_err-batch.field-0.0 (λ r. r ≡ Err (halt.Stop stop.Limit)) c.from_residual.ensures
    (ap (λ h. Err h) (same_fault c.read_batch.result (halt.Stop stop.Limit) c.in_err-batch.field-0.0 (c.read_batch.ensures.due some at needs) c.in_err-batch.was))

pub returns-in_err-added-clause-due : goal.returns-in_err-added-clause-due
returns-in_err-added-clause-due g c some at needs = absurd (not_ok c.read_batch.result c.in_ok-batch.batch (halt.Stop stop.Limit) (c.read_batch.ensures.due some at needs) c.in_ok-batch.was)

pub returns-clause-due : goal.returns-clause-due
returns-clause-due g c some at needs = absurd (not_ok c.read_batch.result c.in_ok-batch.batch (halt.Stop stop.Limit) (c.read_batch.ensures.due some at needs) c.in_ok-batch.was)

pub returns-in_err-batch-clause-file : goal.returns-in_err-batch-clause-file
returns-in_err-batch-clause-file g c = record {
  damaged =
      let takes : List ScriptLine → Type 0 = TakesBehind c.args.count c.args.lines.now (g.S.Source.left c.args.source.now) c.read_batch.new.lines (g.S.Source.left c.read_batch.new.source) in
      let short : Type 0 = CutsWithin c.args.count c.args.lines.now (g.S.Source.left c.args.source.now) c.read_batch.new.lines (g.S.Source.left c.read_batch.new.source) in
      let bars : Bars (barred c.args.which c.args.self.now.parts c.args.count) c.barred_with-barred.result = subst (λ (r : Option Refusal). Bars r c.barred_with-barred.result) c.barred.ensures c.barred_with-barred.ensures.bars in
      handed_out c.from_residual.result c.in_err-batch.field-0.0 (λ r. DamageIn (command_with c.args.which c.args.count) c.args.self.now.parts (g.D.Disk.image c.args.disk.now) r) c.from_residual.ensures
      (unread_damage c.args.which c.args.count c.args.self.now.parts c.self.inside.held.live.history.names c.read_batch.new.names takes short c.barred_with-barred.result (g.D.Disk.image c.args.disk.now) c.in_err-batch.field-0.0
      bars c.in_err-batch.ensures.reads);
  undamaged = none_met c.from_residual.result (MeetsNone (reads_for (command_with c.args.which c.args.count)) c.args.self.now.parts (g.D.Disk.image c.args.disk.now)) c.from_residual.ensures.0;
  reads =
      handed_out c.from_residual.result c.in_err-batch.field-0.0 (λ r. ReadsIn (command_with c.args.which c.args.count) c.args.self.now.parts (g.D.Disk.image c.args.disk.now) r (g.D.Disk.taken c.args.disk.now) (g.D.Disk.taken c.args.disk.now)) c.from_residual.ensures
      (unread_reads (Lines_of c.args.which) c.args.count c.args.self.now.parts (g.D.Disk.image c.args.disk.now) c.in_err-batch.field-0.0 (g.D.Disk.taken c.args.disk.now));
}

pub returns-in_err-added-clause-file : goal.returns-in_err-added-clause-file
returns-in_err-added-clause-file g c = record {
  damaged =
      let made : List AuxState = lent c.self.inside.indexes.len c.self.inside.indexes.items c.barred_with-barred.new.indexes in
      let kept : map kept_of made ≡ map kept_of c.self.inside.indexes.items =
      made_kept c.self.inside.indexes c.deref_mut.result.now c.barred_with-barred.new.indexes c.deref_mut.ensures.value c.barred_with-barred.ensures.kept in
      let p : Parts = with_indexes (the_view c.self.inside).parts (map kept_of made) in
      let same : p ≡ c.args.self.now.parts = ap (with_indexes (the_view c.self.inside).parts) kept ∙ ap (λ (x : SessionState). x.parts) c.self.view_is in
      let old : Live = record { history = record c.self.inside.held.live.history { names = c.read_batch.new.names }; pool = c.self.inside.held.live.pool } in
      let takes : List ScriptLine → Type 0 = TakesBehind c.args.count c.args.lines.now (g.S.Source.left c.args.source.now) c.read_batch.new.lines (g.S.Source.left c.read_batch.new.source) in
      let short : Type 0 = CutsWithin c.args.count c.args.lines.now (g.S.Source.left c.args.source.now) c.read_batch.new.lines (g.S.Source.left c.read_batch.new.source) in
      let got : List ScriptLine = c.in_ok-batch.ensures.reads.got in
      let asked : IsAsked (Lines_of c.args.which) got p c.args.count c.self.inside.limits.file_bytes old c.in_ok-batch.batch =
      is_asked c.args.which p c.args.self.now.parts c.args.count old c.in_ok-batch.batch takes c.barred.result c.barred_with-barred.result same c.barred.ensures c.barred_with-barred.ensures.bars
      refl refl refl c.self.invariant.0.events c.requires.some c.requires.few c.in_ok-batch.ensures.reads in
      let image : Option (List ℕ) = g.D.Disk.image c.args.disk.now in
      let then_image : Option (List ℕ) = g.D.Disk.image c.add_changes.new.disk in
      handed_out c.from_residual-in_err-added.result (batch_halt c.in_err-added.field-0.0) (λ r. DamageIn (command_with c.args.which c.args.count) c.args.self.now.parts image r) c.from_residual-in_err-added.ensures
      (subst (λ (x : Parts). DamageIn (command_with c.args.which c.args.count) x image (Err (batch_halt c.in_err-added.field-0.0))) same
      (failed_damage (Lines_of c.args.which) got p c.args.count c.self.inside.limits.file_bytes old c.in_ok-batch.batch asked image then_image c.in_err-added.field-0.0
      c.in_err-added.ensures.fails));
  undamaged = none_met c.from_residual-in_err-added.result (MeetsNone (reads_for (command_with c.args.which c.args.count)) c.args.self.now.parts (g.D.Disk.image c.args.disk.now)) c.from_residual-in_err-added.ensures.0;
  reads =
      let made : List AuxState = lent c.self.inside.indexes.len c.self.inside.indexes.items c.barred_with-barred.new.indexes in
      let kept : map kept_of made ≡ map kept_of c.self.inside.indexes.items =
      made_kept c.self.inside.indexes c.deref_mut.result.now c.barred_with-barred.new.indexes c.deref_mut.ensures.value c.barred_with-barred.ensures.kept in
      let p : Parts = with_indexes (the_view c.self.inside).parts (map kept_of made) in
      let same : p ≡ c.args.self.now.parts = ap (with_indexes (the_view c.self.inside).parts) kept ∙ ap (λ (x : SessionState). x.parts) c.self.view_is in
      let old : Live = record { history = record c.self.inside.held.live.history { names = c.read_batch.new.names }; pool = c.self.inside.held.live.pool } in
      let takes : List ScriptLine → Type 0 = TakesBehind c.args.count c.args.lines.now (g.S.Source.left c.args.source.now) c.read_batch.new.lines (g.S.Source.left c.read_batch.new.source) in
      let short : Type 0 = CutsWithin c.args.count c.args.lines.now (g.S.Source.left c.args.source.now) c.read_batch.new.lines (g.S.Source.left c.read_batch.new.source) in
      let got : List ScriptLine = c.in_ok-batch.ensures.reads.got in
      let asked : IsAsked (Lines_of c.args.which) got p c.args.count c.self.inside.limits.file_bytes old c.in_ok-batch.batch =
      is_asked c.args.which p c.args.self.now.parts c.args.count old c.in_ok-batch.batch takes c.barred.result c.barred_with-barred.result same c.barred.ensures c.barred_with-barred.ensures.bars
      refl refl refl c.self.invariant.0.events c.requires.some c.requires.few c.in_ok-batch.ensures.reads in
      let image : Option (List ℕ) = g.D.Disk.image c.args.disk.now in
      let then_image : Option (List ℕ) = g.D.Disk.image c.add_changes.new.disk in
      let taken : ℕ = g.D.Disk.taken c.args.disk.now in
      let then_taken : ℕ = g.D.Disk.taken c.add_changes.new.disk in
      let older : ReadsNoMore p image c.args.count taken then_taken =
      reads_no_more (Lines_of c.args.which) got p c.args.count c.self.inside.limits.file_bytes old c.in_ok-batch.batch asked image c.add_changes.result taken then_taken c.add_changes.ensures.reads in
      handed_out c.from_residual-in_err-added.result (batch_halt c.in_err-added.field-0.0) (λ r. ReadsIn (command_with c.args.which c.args.count) c.args.self.now.parts image r taken then_taken) c.from_residual-in_err-added.ensures
      (failed_reads (Lines_of c.args.which) c.args.count c.args.self.now.parts image c.in_err-added.field-0.0 taken then_taken (subst (λ (x : Parts). ReadsNoMore x image c.args.count taken then_taken) same older) (refused_reads (Lines_of c.args.which) got p c.args.count c.self.inside.limits.file_bytes old c.in_ok-batch.batch asked image c.in_err-added.field-0.0 taken then_taken c.in_err-added.ensures.reads));
}

pub returns-clause-file : goal.returns-clause-file
returns-clause-file g c = record {
  damaged = accepted_tells_none (command_with c.args.which c.args.count) c.args.self.now.parts (g.D.Disk.image c.args.disk.now) c.headed.result (returns-clause-comes g c).2.accepted;
  undamaged =
      subst (λ x. MeetsNone x c.args.self.now.parts (g.D.Disk.image c.args.disk.now)) (sym (reads_of c.args.which c.args.count)) (let made : List AuxState = lent c.self.inside.indexes.len c.self.inside.indexes.items c.barred_with-barred.new.indexes in
      let kept : map kept_of made ≡ map kept_of c.self.inside.indexes.items =
      made_kept c.self.inside.indexes c.deref_mut.result.now c.barred_with-barred.new.indexes c.deref_mut.ensures.value c.barred_with-barred.ensures.kept in
      let p : Parts = with_indexes (the_view c.self.inside).parts (map kept_of made) in
      let same : p ≡ c.args.self.now.parts = ap (with_indexes (the_view c.self.inside).parts) kept ∙ ap (λ (x : SessionState). x.parts) c.self.view_is in
      let old : Live = record { history = record c.self.inside.held.live.history { names = c.read_batch.new.names }; pool = c.self.inside.held.live.pool } in
      let takes : List ScriptLine → Type 0 = TakesBehind c.args.count c.args.lines.now (g.S.Source.left c.args.source.now) c.read_batch.new.lines (g.S.Source.left c.read_batch.new.source) in
      let short : Type 0 = CutsWithin c.args.count c.args.lines.now (g.S.Source.left c.args.source.now) c.read_batch.new.lines (g.S.Source.left c.read_batch.new.source) in
      let got : List ScriptLine = c.in_ok-batch.ensures.reads.got in
      let asked : IsAsked (Lines_of c.args.which) got p c.args.count c.self.inside.limits.file_bytes old c.in_ok-batch.batch =
      is_asked c.args.which p c.args.self.now.parts c.args.count old c.in_ok-batch.batch takes c.barred.result c.barred_with-barred.result same c.barred.ensures c.barred_with-barred.ensures.bars
      refl refl refl c.self.invariant.0.events c.requires.some c.requires.few c.in_ok-batch.ensures.reads in
      let image : Option (List ℕ) = g.D.Disk.image c.args.disk.now in
      let then_image : Option (List ℕ) = g.D.Disk.image c.add_changes.new.disk in
      subst (λ (x : Parts). MeetsNone (Batch_of c.args.count) x image) same
      (added_undamaged (Lines_of c.args.which) got p c.args.count c.self.inside.limits.file_bytes old c.in_ok-batch.batch asked image then_image c.add_changes.new.held.live c.in_ok-added.added
      c.in_ok-added.ensures.adds));
  reads =
      let made : List AuxState = lent c.self.inside.indexes.len c.self.inside.indexes.items c.barred_with-barred.new.indexes in
      let kept : map kept_of made ≡ map kept_of c.self.inside.indexes.items =
      made_kept c.self.inside.indexes c.deref_mut.result.now c.barred_with-barred.new.indexes c.deref_mut.ensures.value c.barred_with-barred.ensures.kept in
      let p : Parts = with_indexes (the_view c.self.inside).parts (map kept_of made) in
      let same : p ≡ c.args.self.now.parts = ap (with_indexes (the_view c.self.inside).parts) kept ∙ ap (λ (x : SessionState). x.parts) c.self.view_is in
      let old : Live = record { history = record c.self.inside.held.live.history { names = c.read_batch.new.names }; pool = c.self.inside.held.live.pool } in
      let takes : List ScriptLine → Type 0 = TakesBehind c.args.count c.args.lines.now (g.S.Source.left c.args.source.now) c.read_batch.new.lines (g.S.Source.left c.read_batch.new.source) in
      let short : Type 0 = CutsWithin c.args.count c.args.lines.now (g.S.Source.left c.args.source.now) c.read_batch.new.lines (g.S.Source.left c.read_batch.new.source) in
      let got : List ScriptLine = c.in_ok-batch.ensures.reads.got in
      let asked : IsAsked (Lines_of c.args.which) got p c.args.count c.self.inside.limits.file_bytes old c.in_ok-batch.batch =
      is_asked c.args.which p c.args.self.now.parts c.args.count old c.in_ok-batch.batch takes c.barred.result c.barred_with-barred.result same c.barred.ensures c.barred_with-barred.ensures.bars
      refl refl refl c.self.invariant.0.events c.requires.some c.requires.few c.in_ok-batch.ensures.reads in
      let image : Option (List ℕ) = g.D.Disk.image c.args.disk.now in
      let then_image : Option (List ℕ) = g.D.Disk.image c.add_changes.new.disk in
      let taken : ℕ = g.D.Disk.taken c.args.disk.now in
      let then_taken : ℕ = g.D.Disk.taken c.add_changes.new.disk in
      let older : ReadsNoMore p image c.args.count taken then_taken =
      reads_no_more (Lines_of c.args.which) got p c.args.count c.self.inside.limits.file_bytes old c.in_ok-batch.batch asked image c.add_changes.result taken then_taken c.add_changes.ensures.reads in
      subst (λ (r : Reply). Reads (command_with c.args.which c.args.count) c.args.self.now.parts image r taken then_taken) (sym (c.headed.ensures ∙ ap headed c.head.ensures))
      (added_reads (Lines_of c.args.which) c.args.count c.args.self.now.parts image c.add_changes.new.held.live.history.now.graph (length c.in_ok-added.added.events.items) c.in_ok-added.added.total c.in_ok-added.added.last taken then_taken
      (subst (λ (x : Parts). ReadsNoMore x image c.args.count taken then_taken) same older));
}

pub returns-in_err-batch-clause-disk : goal.returns-in_err-batch-clause-disk
returns-in_err-batch-clause-disk g c =
    handed_out c.from_residual.result c.in_err-batch.field-0.0 (TreatsDisk g.D.Disk c.args.disk.now c.args.disk.now) c.from_residual.ensures
    (reading_treats g.D.Disk c.args.disk.now c.args.disk.now (Err c.in_err-batch.field-0.0) reads_none)

pub returns-in_err-added-clause-disk : goal.returns-in_err-added-clause-disk
returns-in_err-added-clause-disk g c =
    handed_out c.from_residual-in_err-added.result (batch_halt c.in_err-added.field-0.0) (TreatsDisk g.D.Disk c.args.disk.now c.add_changes.new.disk) c.from_residual-in_err-added.ensures
    (failed_treats g.D.Disk c.args.disk.now c.add_changes.new.disk c.in_err-added.field-0.0 c.in_err-added.ensures.disk)

pub returns-clause-disk : goal.returns-clause-disk
returns-clause-disk g c = added_treats g.D.Disk c.args.disk.now c.add_changes.new.disk c.in_ok-added.added c.headed.result c.in_ok-added.ensures.disk

pub read_batch-requires : goal.read_batch-requires
read_batch-requires g c =
    let made : List AuxState = lent c.self.inside.indexes.len c.self.inside.indexes.items c.barred_with-barred.new.indexes in
    let kept : map kept_of made ≡ map kept_of c.self.inside.indexes.items =
    made_kept c.self.inside.indexes c.deref_mut.result.now c.barred_with-barred.new.indexes c.deref_mut.ensures.value c.barred_with-barred.ensures.kept in
    let p : Parts = with_indexes (the_view c.self.inside).parts (map kept_of made) in
    let same : p ≡ c.args.self.now.parts = ap (with_indexes (the_view c.self.inside).parts) kept ∙ ap (λ (x : SessionState). x.parts) c.self.view_is in
    record {
      room = λ none.
          (none_bars c.args.which p c.args.count c.requires.some
          (ap (λ (x : Parts). barred c.args.which x c.args.count) same ∙ sym c.barred.ensures ∙ bars_none c.barred_with-barred.result c.barred.result c.barred_with-barred.ensures.bars none)).few_names;
    }

pub pass-requires : goal.pass-requires
pass-requires g c =
    let made : List AuxState = lent c.self.inside.indexes.len c.self.inside.indexes.items c.barred_with-barred.new.indexes in
    let kept : map kept_of made ≡ map kept_of c.self.inside.indexes.items =
    made_kept c.self.inside.indexes c.deref_mut.result.now c.barred_with-barred.new.indexes c.deref_mut.ensures.value c.barred_with-barred.ensures.kept in
    let p : Parts = with_indexes (the_view c.self.inside).parts (map kept_of made) in
    let same : p ≡ c.args.self.now.parts = ap (with_indexes (the_view c.self.inside).parts) kept ∙ ap (λ (x : SessionState). x.parts) c.self.view_is in
    let old : Live = record { history = record c.self.inside.held.live.history { names = c.read_batch.new.names }; pool = c.self.inside.held.live.pool } in
    let takes : List ScriptLine → Type 0 = TakesBehind c.args.count c.args.lines.now (g.S.Source.left c.args.source.now) c.read_batch.new.lines (g.S.Source.left c.read_batch.new.source) in
    let got : List ScriptLine = c.in_ok-batch.ensures.reads.got in
    let asked : IsAsked (Lines_of c.args.which) got p c.args.count c.self.inside.limits.file_bytes old c.in_ok-batch.batch =
    is_asked c.args.which p c.args.self.now.parts c.args.count old c.in_ok-batch.batch takes c.barred.result c.barred_with-barred.result same c.barred.ensures c.barred_with-barred.ensures.bars
    refl refl refl c.self.invariant.0.events c.requires.some c.requires.few c.in_ok-batch.ensures.reads in
    let image : Option (List ℕ) = g.D.Disk.image c.args.disk.now in
    let then_image : Option (List ℕ) = g.D.Disk.image c.add_changes.new.disk in
    let added : AddedBatch = c.in_ok-added.added in
    let none : c.barred_with-barred.result ≡ None =
    (none_barred c.barred_with-barred.result c.barred.result c.args.count (length got) c.barred_with-barred.ensures.bars c.in_ok-batch.ensures.reads.free).1 in
    let there : c.deref_mut-2.result.now ≡ c.barred_with-barred.new.indexes =
    c.deref_mut-2.ensures.value ∙ made_are c.self.inside.indexes c.deref_mut.result.now c.barred_with-barred.new.indexes c.deref_mut.ensures.value c.barred_with-barred.ensures.kept in
    let room : All (λ (aux : AuxState). HasRoomFor aux (length added.events.items)) c.barred_with-barred.new.indexes =
    room_for_values (Lines_of c.args.which) got p c.args.count c.self.inside.limits.file_bytes old c.in_ok-batch.batch asked c.add_changes.new.held.live image then_image
    added c.barred_with-barred.new.indexes c.in_ok-added.ensures.adds (c.barred_with-barred.ensures.room none) in
    subst (λ (es : List Event). All (λ (aux : AuxState). HasRoomFor aux (length es)) c.deref_mut-2.result.now) (sym c.deref.ensures.value)
    (subst (All (λ (aux : AuxState). HasRoomFor aux (length added.events.items))) (sym there) room)
