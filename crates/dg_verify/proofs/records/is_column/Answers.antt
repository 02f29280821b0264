use Rattle.std.proofs.Common.{◌≡◌, true, Some, sym, ◌∙◌, ap, arith}
use Rattle.std.specs.Prelude.{bytes_eq, is_some}
use Rattle.std.specs.Map.{lookup}
use Rattle.dg_catalogue.specs.Entries.{column_length_in}
use Rattle.dg_history.specs.Keys.{same_key}
use Rattle.dg_index.specs.declared.entry.Entry.{Entry}
use Rattle.dg_index.specs.OpenedIndex.{Opening, entry_or_none}
use Rattle.dg_verify.proofs.RecordReads.{column_read, fetched_is, other_length}
use Rattle.dg_verify.proofs.records.is_column.Given.{Over}
use Rattle.dg_verify.proofs.records.is_column.Goals as goal
use Rattle.dg_verify.proofs.records.is_column.Goals.{After-column_length}

-- the index keeps the record
there : (g : Over) (c : After-column_length g) → lookup (same_key c.args.key) c.args.index.now.opening.records ≡ Some c.in-Some.entry
there g c = sym c.entry.ensures ∙ c.in-Some.is

pub returns-then-column_length-due-clause-is : goal.returns-then-column_length-due-clause-is
returns-then-column_length-due-clause-is g c =
    let is = there g (goal.at.returns-then-column_length-due-clause-is g c).After-column_length in
    other_length (g.D.Disk.image c.args.disk.now) c.args.index.now.opening c.args.key c.args.col c.args.due.now c.column_length.result (ap is_some is) c.requires.image
    (c.column_length.ensures ∙ sym (ap (λ (e : _). column_length_in (entry_or_none e) c.args.col) is)) (λ same. omega (arith, same, c.if-column_length-due.true))

pub returns-clause-is : goal.returns-clause-is
returns-clause-is g c image told =
    let is = there g (goal.at.returns-clause-is g c).After-column_length in
    c.eq.ensures ∙ ap (λ b. bytes_eq b c.args.due.now)
    (c.as_slice.ensures.value ∙ fetched_is (g.D.Disk.image c.args.disk.now) c.args.index.now.opening c.args.key c.args.col c.in_ok-bytes.bytes.items (ap is_some is) c.in_ok-bytes.ensures.bytes image told)

pub returns-clause-takes : goal.returns-clause-takes
returns-clause-takes g c =
    let is = there g (goal.at.returns-clause-takes g c).After-column_length in
    column_read (g.D.Disk.image c.args.disk.now) c.args.index.now.opening c.args.key c.args.col c.in_ok-bytes.bytes.items (g.D.Disk.taken c.args.disk.now) (g.D.Disk.taken c.fetch.new.disk)
    (ap is_some is) c.in_ok-bytes.ensures.bytes c.in_ok-bytes.ensures.taken
