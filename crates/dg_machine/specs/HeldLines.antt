-- The lines of a body by what is held of them.
use Rattle.std.specs.Prelude.{List, map}
use Rattle.dg_machine.specs.declared.reply.BodyLine.{BodyLine}
use Rattle.dg_machine.specs.declared.reply.BodyLine.TheVariants as line
use Rattle.dg_machine.specs.declared.reply.HeldLines.{HeldLines}
use Rattle.dg_machine.specs.declared.reply.HeldLines.TheVariants as held

-- a line for each element, or the lines themselves
abbrev pub lines_in : HeldLines → List BodyLine
lines_in (held.Elements elements) = map (λ x. line.Element x) elements.items
lines_in (held.Lines lines) = lines.items
