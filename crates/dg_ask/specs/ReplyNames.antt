-- The names in a reply are there: the number of each is below the number of names.
use Rattle.std.specs.Prelude.{◌<◌, ℕ}
use Rattle.std.specs.List.{All}
use Rattle.dg_machine.specs.declared.reply.BodyLine.{BodyLine}
use Rattle.dg_machine.specs.declared.reply.BodyLine.TheVariants as line
use Rattle.dg_machine.specs.declared.reply.Reply.{Reply}
use Rattle.dg_machine.specs.declared.reply.Reply.TheVariants as replied
use Rattle.dg_retrieval.specs.NamesThere.{HasNamesThere}

-- the names of an element and of an attribute are among so many; other lines have none
abbrev pub LineNamesAreThere : ℕ → BodyLine → Type 0
LineNamesAreThere name_count (line.Element x) = HasNamesThere name_count x
LineNamesAreThere name_count (line.Attribute v) = (v.key < name_count) × (v.value < name_count)
LineNamesAreThere name_count l = Unit {0}

-- so are those of an answer, whose first line has none; a refusal has none
abbrev pub ReplyNamesAreThere : ℕ → Reply → Type 0
ReplyNamesAreThere name_count (replied.Refused r) = Unit {0}
ReplyNamesAreThere name_count (replied.Answered h body) = All (LineNamesAreThere name_count) body
