-- Deltas one behind another, in one list of what they take out and in one of what they put in.
use Rattle.std.specs.Prelude.{length, take, drop}
use Rattle.dg_graph.specs.Composition.{Delta}
use Rattle.dg_delta.specs.declared.stack.DeltaStack.{DeltaStack}
use Rattle.dg_delta.specs.declared.stack.Height.{Height}

-- what all deltas of the stack take out and put in, those of each behind those of the ones in front of it
abbrev pub stacked : DeltaStack → Delta
stacked s = record { minus = s.minus.items; plus = s.plus.items }

-- where a delta begins that stands behind these
abbrev pub height_of : Delta → Height
height_of d = record { minus = length d.minus; plus = length d.plus }

-- what stands in front of the height, and what stands behind it
abbrev pub lower : Height → Delta → Delta
lower h d = record { minus = take h.minus d.minus; plus = take h.plus d.plus }

abbrev pub upper : Height → Delta → Delta
upper h d = record { minus = drop h.minus d.minus; plus = drop h.plus d.plus }
