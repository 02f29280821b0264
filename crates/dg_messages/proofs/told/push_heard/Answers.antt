use Rattle.std.proofs.Common.{◌≡◌, ℕ, List, Option, Ok, Err, subst}
use Rattle.std.specs.Prelude.{IfSome}
use Rattle.dg_disk.proofs.FrameLemmas.{reads_none, reads_then}
use Rattle.dg_graph.specs.declared.element.Column.TheVariants.{Transient}
use Rattle.dg_graph.specs.declared.event.Event.{Event}
use Rattle.dg_heard.specs.Heard.{heard_bytes, heard_events, messages_in}
use Rattle.dg_heard.specs.ListColumns.{IsColumnRead, TakesColumn}
use Rattle.dg_heard.proofs.ListColumns.{told_so}
use Rattle.dg_index.specs.OpenedIndex.{Opening}
use Rattle.dg_messages.specs.Calls.{AreHeard}
use Rattle.dg_messages.specs.Collected.{AreAdded}
use Rattle.dg_messages.proofs.HeardLists.{IsLast, all_heard, all_taken, damage_fails, heard_more, heard_none, message_bytes, most_heard, rest_end, rest_is, takes_done, takes_fails}
use Rattle.dg_messages.proofs.told.push_heard.Given.{Over}
use Rattle.dg_records.specs.ColumnReads.{Takes, TakesAtMost}
use Rattle.dg_messages.proofs.told.push_heard.Goals as goal
use Rattle.dg_messages.proofs.told.push_heard.Goals.{After-next_heard, After-read_column}

pub loop-list-init : goal.loop-list-init
loop-list-init g c = record {
  frame = reads_none;
  so_far = heard_none c.args.name_count (g.D.Disk.image c.args.disk.now) c.args.index.now.opening c.args.times.now c.args.lists.now (g.D.Disk.taken c.args.disk.now) c.requires.empty;
}

-- ---- a list that is heard

-- what is said of the image as the loop has it
said : (g : Over) (c : After-read_column g) (P : List ℕ → Type 0) → IfSome (g.D.Disk.image c.loop-list.disk) P → IfSome (g.D.Disk.image c.args.disk.now) P
said g c P = subst (λ (told : Option (List ℕ)). IfSome told P) c.loop-list.invariant.frame.same_image

pub loop-list-preserved : goal.loop-list-preserved
loop-list-preserved g c =
    let o : Opening = c.args.index.now.opening in
    let times = c.args.times.now in
    let told = g.D.Disk.image c.args.disk.now in
    let now = g.D.Disk.taken c.loop-list.disk in
    let after = g.D.Disk.taken c.read_column.new.disk in
    let i = c.in-Some.list in
    let more = c.in_ok-events.events.items in
    let here = (goal.at.loop-list-preserved g c).After-read_column in
    record {
      frame = reads_then c.loop-list.invariant.frame c.read_column.ensures.reads.disk;
      so_far =
          heard_more c.args.name_count told o times c.loop-list.from i c.loop-list.lists (g.D.Disk.taken c.args.disk.now) now c.loop-list.invariant.so_far (rest_is o times c.loop-list.from i c.in-Some.ensures.some)
          after more c.push_all.new.lists
          (said g here (λ image. messages_in c.args.name_count image o i ≡ Ok more) c.in_ok-events.ensures.read) c.in_ok-events.ensures.named
          (subst (λ (events : List Event). AreAdded events times c.loop-list.lists c.push_all.new.lists) c.deref.ensures.value c.in_ok-push_all.ensures)
          (said g here (λ image. Takes (message_bytes o i) now after)
          (told_so (g.D.Disk.image c.loop-list.disk) (λ image. TakesColumn o i Transient now after (Ok c.in_ok-events.events)) (λ image. Takes (message_bytes o i) now after)
          (λ image h. h.takes) c.in_ok-events.ensures.takes));
    }

-- no more is read than all
most : (g : Over) (c : After-read_column g) → IfSome (g.D.Disk.image c.args.disk.now) (λ image. TakesAtMost (heard_bytes c.args.index.now.opening c.args.times.now) (g.D.Disk.taken c.args.disk.now) (g.D.Disk.taken c.read_column.new.disk))
most g c =
    let o : Opening = c.args.index.now.opening in
    let now = g.D.Disk.taken c.loop-list.disk in
    let after = g.D.Disk.taken c.read_column.new.disk in
    let i = c.in-Some.list in
    most_heard c.args.name_count (g.D.Disk.image c.args.disk.now) o c.args.times.now c.loop-list.from i c.loop-list.lists (g.D.Disk.taken c.args.disk.now) now c.loop-list.invariant.so_far
    (rest_is o c.args.times.now c.loop-list.from i c.in-Some.ensures.some) after
    (said g c (λ image. TakesAtMost (message_bytes o i) now after)
    (told_so (g.D.Disk.image c.loop-list.disk) (λ image. TakesColumn o i Transient now after c.read_column.result) (λ image. TakesAtMost (message_bytes o i) now after)
    (λ image h. h.most) c.read_column.ensures.takes))

pub returns-in_err-events-clause-takes : goal.returns-in_err-events-clause-takes
returns-in_err-events-clause-takes g c =
    takes_fails (g.D.Disk.image c.args.disk.now) c.args.index.now.opening c.args.times.now (g.D.Disk.taken c.args.disk.now) (g.D.Disk.taken c.read_column.new.disk) c.from_residual.result c.from_residual.ensures.0
    (most g (goal.at.returns-in_err-events-clause-takes g c).After-read_column)

pub returns-in_err-push_all-clause-takes : goal.returns-in_err-push_all-clause-takes
returns-in_err-push_all-clause-takes g c =
    takes_fails (g.D.Disk.image c.args.disk.now) c.args.index.now.opening c.args.times.now (g.D.Disk.taken c.args.disk.now) (g.D.Disk.taken c.read_column.new.disk) c.from_residual-in_err-push_all.result
    c.from_residual-in_err-push_all.ensures.0 (most g (goal.at.returns-in_err-push_all-clause-takes g c).After-read_column)

pub returns-in_err-events-clause-damage : goal.returns-in_err-events-clause-damage
returns-in_err-events-clause-damage g c =
    let o : Opening = c.args.index.now.opening in
    let i = c.in-Some.list in
    let here = (goal.at.returns-in_err-events-clause-damage g c).After-read_column in
    damage_fails (Unit {0}) c.args.name_count (g.D.Disk.image c.args.disk.now) o c.args.times.now c.loop-list.from i c.loop-list.lists (g.D.Disk.taken c.args.disk.now) (g.D.Disk.taken c.loop-list.disk)
    c.loop-list.invariant.so_far (rest_is o c.args.times.now c.loop-list.from i c.in-Some.ensures.some) c.from_residual.result c.in_err-events.field-0.0 c.from_residual.ensures
    (said g here (λ image. IsColumnRead c.args.name_count image o i Transient (Err c.in_err-events.field-0.0)) c.in_err-events.ensures.read)

-- ---- the end

all : (g : Over) (c : After-next_heard g) → IsLast c.args.index.now.opening c.args.times.now c.loop-list.from
    → IfSome (g.D.Disk.image c.args.disk.now) (λ image. heard_events c.args.name_count image c.args.index.now.opening c.args.times.now ≡ Ok c.loop-list.invariant.so_far.events)
all g c none =
    all_heard c.args.name_count (g.D.Disk.image c.args.disk.now) c.args.index.now.opening c.args.times.now c.loop-list.from c.loop-list.lists (g.D.Disk.taken c.args.disk.now) (g.D.Disk.taken c.loop-list.disk)
    c.loop-list.invariant.so_far (rest_end c.args.index.now.opening c.args.times.now c.loop-list.from none)

pub returns-clause-heard : goal.returns-clause-heard
returns-clause-heard g c =
    let h = c.loop-list.invariant.so_far in
    record {
      events = h.events;
      heard = all g (goal.at.returns-clause-heard g c).After-next_heard c.in_default.ensures.none;
      named = h.named;
      collected = h.collected;
    }

pub returns-clause-damage : goal.returns-clause-damage
returns-clause-damage g c =
    let h = c.loop-list.invariant.so_far in
    told_so (g.D.Disk.image c.args.disk.now) (λ image. heard_events c.args.name_count image c.args.index.now.opening c.args.times.now ≡ Ok h.events)
    (λ image. AreHeard c.args.name_count image c.args.index.now.opening c.args.times.now) (λ image is. (h.events, is)) (all g (goal.at.returns-clause-damage g c).After-next_heard c.in_default.ensures.none)

pub returns-clause-takes : goal.returns-clause-takes
returns-clause-takes g c =
    let o : Opening = c.args.index.now.opening in
    let told = g.D.Disk.image c.args.disk.now in
    let before = g.D.Disk.taken c.args.disk.now in
    let now = g.D.Disk.taken c.loop-list.disk in
    takes_done told o c.args.times.now before now tt
    (all_taken c.args.name_count told o c.args.times.now c.loop-list.from c.loop-list.lists before now c.loop-list.invariant.so_far
    (rest_end o c.args.times.now c.loop-list.from c.in_default.ensures.none))
