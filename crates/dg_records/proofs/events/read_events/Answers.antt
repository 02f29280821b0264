use Rattle.std.proofs.Common.{◌≡◌, List, Some, ℕ, refl, sym, subst, ◌∙◌, length, arith}
use Rattle.dg_catalogue.specs.Entries.{column_length_in}
use Rattle.dg_columns.specs.declared.fault.ReadFault.{ReadFault}
use Rattle.dg_columns.specs.ReadOutcome.{IsFaultOf}
use Rattle.dg_file.specs.Images.{IsOpenedAs}
use Rattle.dg_graph.specs.ColumnGrammar.{events_in}
use Rattle.dg_index.specs.OpenedIndex.{column_at, entry_at}
use Rattle.dg_records.specs.ColumnReads.{TakesAtMost, kept_in}
use Rattle.dg_records.specs.Faults.{of_fetch}
use Rattle.dg_records.proofs.KeptColumns.{all_taken, fails_with, in_image, is_whole, most_taken, whole_damaged, whole_read}
use Rattle.dg_records.proofs.events.read_events.Given.{Over}
use Rattle.dg_records.proofs.events.read_events.Goals as goal
use Rattle.dg_records.proofs.events.read_events.Goals.{After-deref}

-- what was decoded is what was read
decoded : (g : Over) (c : After-deref g) (image : List ℕ) → g.D.Disk.image c.args.disk.now ≡ Some image → c.deref.result.now ≡ kept_in image c.args.index.now.opening c.args.key c.args.col
decoded g c image told = c.deref.ensures.value ∙ c.in_ok-bytes.ensures.bytes image told

-- no more was read than the index tells
most : (g : Over) (c : After-deref g) (image : List ℕ) → g.D.Disk.image c.args.disk.now ≡ Some image
    → TakesAtMost (column_length_in (entry_at c.args.index.now.opening c.args.key) c.args.col) (g.D.Disk.taken c.args.disk.now) (g.D.Disk.taken c.read_bytes.new.disk)
most g c image told =
    let o = c.args.index.now.opening in
    let some = c.in_ok-bytes.ensures.takes image told in
    most_taken o c.args.key c.args.col image c.requires.held (in_image (g.D.Disk.image c.args.disk.now) (λ image. IsOpenedAs image o) c.requires.image image told) (g.D.Disk.taken c.args.disk.now)
    (g.D.Disk.taken c.read_bytes.new.disk) (omega (arith, some))

pub returns-in_err-bytes-clause-takes : goal.returns-in_err-bytes-clause-takes
returns-in_err-bytes-clause-takes g c image told =
    fails_with c.from_residual.result (of_fetch c.in_err-bytes.field-0.0) (length (kept_in image c.args.index.now.opening c.args.key c.args.col)) (g.D.Disk.taken c.args.disk.now) (g.D.Disk.taken c.read_bytes.new.disk)
    c.from_residual.ensures (c.in_err-bytes.ensures.takes image told)

pub returns-in_err-bytes-clause-all : goal.returns-in_err-bytes-clause-all
returns-in_err-bytes-clause-all g c image told =
    let o = c.args.index.now.opening in
    fails_with c.from_residual.result (of_fetch c.in_err-bytes.field-0.0) (column_length_in (entry_at o c.args.key) c.args.col) (g.D.Disk.taken c.args.disk.now) (g.D.Disk.taken c.read_bytes.new.disk)
    c.from_residual.ensures
    (most_taken o c.args.key c.args.col image c.requires.held (in_image (g.D.Disk.image c.args.disk.now) (λ image. IsOpenedAs image o) c.requires.image image told) (g.D.Disk.taken c.args.disk.now)
    (g.D.Disk.taken c.read_bytes.new.disk) (c.in_err-bytes.ensures.takes image told))

pub returns-in-Ok-clause-read : goal.returns-in-Ok-clause-read
returns-in-Ok-clause-read g c image told =
    let whole = column_at image (entry_at c.args.index.now.opening c.args.key) c.args.col in
    whole_read c.args.name_count c.args.key c.args.col c.deref.result.now whole (decoded g (goal.at.returns-in-Ok-clause-read g c).After-deref image told) (c.read_events.ensures.front whole)
    c.in-Ok.placed.items c.in-Ok.ensures.ok

pub returns-in-Ok-clause-all : goal.returns-in-Ok-clause-all
returns-in-Ok-clause-all g c image told =
    let o = c.args.index.now.opening in
    let whole = column_at image (entry_at o c.args.key) c.args.col in
    let is = decoded g (goal.at.returns-in-Ok-clause-all g c).After-deref image told in
    all_taken o c.args.key c.args.col image c.requires.held (in_image (g.D.Disk.image c.args.disk.now) (λ image. IsOpenedAs image o) c.requires.image image told) (g.D.Disk.taken c.args.disk.now)
    (g.D.Disk.taken c.read_bytes.new.disk)
    (sym is ∙ is_whole c.args.name_count c.args.key c.args.col c.deref.result.now whole is (c.read_events.ensures.front whole) c.in-Ok.placed.items c.in-Ok.ensures.ok)
    (c.in_ok-bytes.ensures.takes image told)

pub returns-in-Err-Damaged-clause-read : goal.returns-in-Err-Damaged-clause-read
returns-in-Err-Damaged-clause-read g c image told =
    let whole = column_at image (entry_at c.args.index.now.opening c.args.key) c.args.col in
    let damage =
    whole_damaged c.args.name_count c.args.key c.args.col c.deref.result.now whole (decoded g (goal.at.returns-in-Err-Damaged-clause-read g c).After-deref image told) (c.read_events.ensures.front whole)
    c.in-Err-Damaged.field-0-0 (subst (λ (f : ReadFault). IsFaultOf f (events_in c.args.col c.args.name_count c.deref.result.now)) c.in-Err-Damaged.field-0-is c.in-Err-Damaged.ensures.err) in (
      damage.0,
      damage.1,
      refl,
      refl,
    )

pub returns-in-Err-Damaged-clause-all : goal.returns-in-Err-Damaged-clause-all
returns-in-Err-Damaged-clause-all g c image told = most g (goal.at.returns-in-Err-Damaged-clause-all g c).After-deref image told

pub returns-clause-all : goal.returns-clause-all
returns-clause-all g c image told = most g (goal.at.returns-clause-all g c).After-deref image told
