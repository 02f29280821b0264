use Rattle.std.proofs.Common.{◌≡◌, ◌⊎◌, ℕ, true, List, Ok, Err, None, Option, length, refl, ap, subst, sym}
use Rattle.std.specs.Prelude.{IfSome}
use Rattle.dg_disk.specs.Counts.{raised_by}
use Rattle.dg_disk.proofs.CrashTold.{settled_on}
use Rattle.dg_disk.proofs.FrameLemmas.{syncs_then_reads}
use Rattle.dg_file.specs.Index.{IndexState, opening_bytes}
use Rattle.dg_file.proofs.OpenedBytes.{blank_is}
use Rattle.dg_graph.specs.declared.event.Event.{Event}
use Rattle.dg_history.specs.History.{History}
use Rattle.dg_index.specs.ImageOfHistory.{StandsAs, is_blank}
use Rattle.dg_index.specs.OpenedIndex.{No_index, Opening, opening}
use Rattle.dg_current.specs.Now.{NowState}
use Rattle.dg_start.specs.declared.fault.StartFault.{StartFault}
use Rattle.dg_start.specs.declared.fault.StartFault.TheVariants as fault
use Rattle.dg_start.specs.Calls.{TakesAlongPlan, current_bytes}
use Rattle.dg_start.specs.SessionStart.{RefusesStart, Starts, started_with}
use Rattle.dg_stored.specs.StoredHistory.{AreCounted, IsHeldBy, KeepsHistory, index_opening}
use Rattle.dg_start.proofs.SessionStartOpenings.{blank_starts, empty_sound, gives, index_found, keeps_history, never_refused, none_found, none_taken, of_index, open_takes, opening_fails, start_handed}
use Rattle.dg_start.proofs.EventSourceOutcomes.{err_is, told_weaker}
use Rattle.dg_start.proofs.opening.open.Goals as goal

pub returns-in_err-index-clause-never : goal.returns-in_err-index-clause-never
returns-in_err-index-clause-never g c =
    let told = g.D.Disk.image c.args.disk.now in
    let f : StartFault = c.in_err-index.field-0.0 in
    err_is c.from_residual.result f (λ (f : StartFault). IfSome told (λ image. (z : Option History) → StandsAs z image → (f ≡ fault.Disk) ⊎ (f ≡ fault.Memory))) c.from_residual.ensures
    (never_refused c.law_images_start_as_they_stand.ensures told f c.in_err-index.ensures.refused)

pub returns-in_err-opened-clause-never : goal.returns-in_err-opened-clause-never
returns-in_err-opened-clause-never g c =
    let told = g.D.Disk.image c.args.disk.now in
    let f : StartFault = c.in_err-opened.field-0.0 in
    err_is c.from_residual-in_err-opened.result f (λ (f : StartFault). IfSome told (λ image. (z : Option History) → StandsAs z image → (f ≡ fault.Disk) ⊎ (f ≡ fault.Memory))) c.from_residual-in_err-opened.ensures
    (never_refused c.law_images_start_as_they_stand.ensures told f
    (told_weaker (g.D.Disk.image c.reopen.new.disk) told (λ image. RefusesStart f image) (λ image. RefusesStart f image) (sym c.reopen.ensures.disk.same_image) (λ image h. h) c.in_err-opened.ensures.refused))

pub returns-in_err-index-clause-takes : goal.returns-in_err-index-clause-takes
returns-in_err-index-clause-takes g c =
    opening_fails (g.D.Disk.image c.args.disk.now) c.from_residual.result c.in_err-index.field-0.0 (g.D.Disk.taken c.args.disk.now) (g.D.Disk.taken c.reopen.new.disk)
    c.from_residual.ensures c.in_err-index.ensures.within

pub returns-in_default-clause-takes : goal.returns-in_default-clause-takes
returns-in_default-clause-takes g c =
    none_taken (g.D.Disk.image c.args.disk.now) c.empty.result (g.D.Disk.taken c.args.disk.now) (g.D.Disk.taken c.reopen.new.disk)
    (none_found (g.D.Disk.image c.args.disk.now) c.in_ok-index.field-0 c.reopen.new.names c.in_default.is c.in_ok-index.ensures.opened)
    (c.in_ok-index.ensures.blank c.in_default.is)

pub returns-in_default-clause-done : goal.returns-in_default-clause-done
returns-in_default-clause-done g c =
    let told = g.D.Disk.image c.args.disk.now in
    let index : Option Opening = index_opening c.empty.result.index in
    let names : List (List ℕ) = c.empty.result.names in
    let none : index ≡ None = ap index_opening c.empty.ensures.index in
    let found : IfSome told (λ image. opening image ≡ Err No_index) = none_found told c.in_ok-index.field-0 c.reopen.new.names c.in_default.is c.in_ok-index.ensures.opened in
    let started : IfSome told (λ image. Starts image (Ok (started_with index names c.empty.result.now.graph c.empty.result.recent.items))) =
    subst (λ (i : Option Opening). IfSome told (λ image. Starts image (Ok (started_with i names c.empty.result.now.graph c.empty.result.recent.items)))) (sym none)
    (told_weaker told told (λ image. opening image ≡ Err No_index) (λ image. Starts image (Ok None)) refl blank_starts found) in
    let empty : AreCounted index names c.empty.result.now.graph c.empty.result.recent.items =
    subst (λ (i : Option Opening). AreCounted i names c.empty.result.now.graph c.empty.result.recent.items) (sym none) (c.empty.ensures.names, c.empty.ensures.graph, c.empty.ensures.recent) in
    record {
      started = started;
      stands = keeps_history c.law_images_start_as_they_stand.ensures told index names c.empty.result.now.graph c.empty.result.recent.items started
          (λ e. (c.empty.ensures.names, c.empty.ensures.graph, c.empty.ensures.recent));
      sound = empty_sound index names c.empty.result.now c.empty.result.recent.items none c.empty.ensures.pending empty c.empty.ensures.graph c.empty.ensures.recent;
      held =
          subst (λ (i : Option Opening). IfSome (g.D.Disk.image c.reopen.new.disk) (λ image. IsHeldBy i names image)) (sym none)
          (told_weaker told (g.D.Disk.image c.reopen.new.disk) (λ image. opening image ≡ Err No_index) (λ image. is_blank image ≡ true) c.reopen.ensures.disk.same_image blank_is found);
    }

pub returns-in_err-opened-clause-takes : goal.returns-in_err-opened-clause-takes
returns-in_err-opened-clause-takes g c =
    let told = g.D.Disk.image c.args.disk.now in
    let o : Opening = c.in-Some.index.opening in
    let names : List (List ℕ) = c.reopen.new.names in
    let before : ℕ = g.D.Disk.taken c.args.disk.now in
    let now : ℕ = g.D.Disk.taken c.reopen.new.disk in
    let after : ℕ = g.D.Disk.taken c.open_index.new.disk in
    start_handed told c.from_residual-in_err-opened.result c.in_err-opened.field-0.0 c.open_index.result before after c.from_residual-in_err-opened.ensures
    (open_takes c.open_index.result told o names before now after
    (index_found told c.in_ok-index.field-0 names c.in-Some.index c.in-Some.is c.in_ok-index.ensures.opened)
    (of_index c.in_ok-index.field-0 c.in-Some.index (λ (i : IndexState). now ≡ raised_by (opening_bytes i.opening) before) c.in-Some.is c.in_ok-index.ensures.taken)
    (subst (λ (t : Option (List ℕ)). IfSome t (λ image. TakesAlongPlan c.open_index.result (current_bytes o) image o (length names) now after)) c.reopen.ensures.disk.same_image c.open_index.ensures.takes))

pub returns-clause-takes : goal.returns-clause-takes
returns-clause-takes g c =
    let told = g.D.Disk.image c.args.disk.now in
    let o : Opening = c.in-Some.index.opening in
    let names : List (List ℕ) = c.reopen.new.names in
    let before : ℕ = g.D.Disk.taken c.args.disk.now in
    let now : ℕ = g.D.Disk.taken c.reopen.new.disk in
    let after : ℕ = g.D.Disk.taken c.open_index.new.disk in
    open_takes (gives c.in_ok-opened.opened) told o names before now after
    (index_found told c.in_ok-index.field-0 names c.in-Some.index c.in-Some.is c.in_ok-index.ensures.opened)
    (of_index c.in_ok-index.field-0 c.in-Some.index (λ (i : IndexState). now ≡ raised_by (opening_bytes i.opening) before) c.in-Some.is c.in_ok-index.ensures.taken)
    (subst (λ (t : Option (List ℕ)). IfSome t (λ image. TakesAlongPlan (gives c.in_ok-opened.opened) (current_bytes o) image o (length names) now after)) c.reopen.ensures.disk.same_image c.in_ok-opened.ensures.takes)

pub returns-clause-done : goal.returns-clause-done
returns-clause-done g c =
    let d = c.in_ok-opened.ensures.done in
    let same = c.reopen.ensures.disk.same_image in
    let index : Option Opening = index_opening c.in_ok-opened.opened.index in
    let names : List (List ℕ) = c.in_ok-opened.opened.names in
    let now : NowState = c.in_ok-opened.opened.now in
    let recent : List Event = c.in_ok-opened.opened.recent.items in
    record {
      started = subst (λ (t : Option (List ℕ)). IfSome t (λ image. Starts image (Ok (started_with index names now.graph recent)))) same d.started;
      stands = subst (λ (t : Option (List ℕ)). IfSome t (λ image. (z : Option History) → StandsAs z image → KeepsHistory z index names now.graph recent)) same d.stands;
      sound = d.sound;
      held = d.held;
    }

pub returns-clause-settled : goal.returns-clause-settled
returns-clause-settled g c =
    settled_on _ _ _ _ c.open_index.ensures.disk.same_image c.open_index.ensures.disk.leaves c.in_ok-index.ensures.settled

pub returns-clause-disk : goal.returns-clause-disk
returns-clause-disk g c = syncs_then_reads c.reopen.ensures.disk c.open_index.ensures.disk
