-- Which first line a reply to a command has where it is not refused, and which refusals may come of more than what the
-- session keeps.
use Rattle.std.specs.Prelude.{◌≡◌, Bool, false, ◌&&◌, List}
use Rattle.dg_graph.specs.declared.element.Columns.{Columns}
use Rattle.dg_graph.specs.declared.element.Element.{Element}
use Rattle.dg_machine.specs.declared.command.Command.{Command}
use Rattle.dg_machine.specs.declared.command.Command.TheVariants as command
use Rattle.dg_machine.specs.declared.reply.Head.{Head}
use Rattle.dg_machine.specs.declared.reply.Head.TheVariants as head
use Rattle.dg_machine.specs.declared.reply.Refusal.{Refusal}
use Rattle.dg_machine.specs.declared.reply.Refusal.TheVariants as refusal
use Rattle.dg_machine.specs.declared.reply.Reply.{Reply}
use Rattle.dg_machine.specs.declared.reply.Reply.TheVariants as replied
use Rattle.dg_machine.specs.declared.selection.Selection.TheVariants.{Chosen, Added}
use Rattle.dg_machine.specs.Needs.{Needs}
use Rattle.dg_machine.specs.QueryTable.{told_of}

-- The refusal may come of something else than what the session keeps, where a command needs this: of changes where a batch is
-- added, of the file where it grows, of records where they are read, and of memory where it is taken.
abbrev pub is_late : Needs → Refusal → Bool
is_late n (refusal.BadChange line reason) = n.reads && n.writes
is_late n refusal.OldFormat = n.reads && n.writes
is_late n (refusal.FileFull needed limit) = n.index && n.writes
is_late n refusal.StoreRead = n.reads
is_late n (refusal.Damaged key column) = n.reads
is_late n refusal.OutOfMemory = n.memory
is_late n r = false

-- The first line of the answer to this command. What is told of a handle is what the query asks of some set of elements.
abbrev pub IsHeadOf : Command → Head → Type 0
IsHeadOf (command.Create l k function) head.Created = Unit {0}
IsHeadOf (command.CreateSkewed l k r) head.Created = Unit {0}
IsHeadOf command.Upgrade head.Upgraded = Unit {0}
IsHeadOf (command.Load count) (head.Loaded events total last) = Unit {0}
IsHeadOf (command.Append count) (head.Appended events total last) = Unit {0}
IsHeadOf (command.At t cols) (head.At handle weight) = Unit {0}
IsHeadOf (command.Several cols times count) (head.Several weight sum) = Unit {0}
IsHeadOf (command.Materialise node cols) (head.Materialised handle weight) = Unit {0}
IsHeadOf (command.Select (Chosen e) cols) (head.Chosen handle weight) = Unit {0}
IsHeadOf (command.Select (Added from until) cols) (head.Added handle weight) = Unit {0}
IsHeadOf (command.Index key) (head.Indexed spans weight) = Unit {0}
IsHeadOf (command.Find t key value) (head.Found lines) = Unit {0}
IsHeadOf (command.Ask handle q) (head.Asked h told) = (h ≡ handle) × (cols : Columns) × (set : List Element) × (told ≡ (told_of q cols set).head)
IsHeadOf (command.Release handle) (head.Released h) = h ≡ handle
IsHeadOf (command.Clean cells) head.Cleaned = Unit {0}
IsHeadOf command.CleanAll (head.CleanedAll cells) = Unit {0}
IsHeadOf command.Pool (head.Pool live size) = Unit {0}
IsHeadOf (command.Plan t cols) (head.Plan weight steps) = Unit {0}
IsHeadOf (command.Certify t cols count) (head.Certified verdict) = Unit {0}
IsHeadOf command.Verify (head.Verified soundness) = Unit {0}
IsHeadOf command.Tree (head.Tree l k function events leaves records) = Unit {0}
IsHeadOf (command.Workload seed count) (head.Generated events last nodes edges) = Unit {0}
IsHeadOf c h = ⊥

-- the reply is an answer to this command
abbrev pub Fits : Command → Reply → Type 0
Fits c (replied.Refused r) = ⊥
Fits c (replied.Answered h body) = IsHeadOf c h
