-- What the contracts of deltas say of their sets.
use Rattle.std.specs.Prelude.{Bool, true, false, List, [], ◌∷◌, ◌++◌}
use Rattle.dg_graph.specs.declared.element.Element.{Element}
use Rattle.dg_graph.specs.Sets.{unioned, without_all}
use Rattle.dg_graph.specs.Composition.{Delta, Says, In, Out, As_it_was, applied}

-- a delta and then a later one, as one: each set is the first delta's, without what the later delta
-- names for the other set, and with what it names for this one
abbrev pub composed : Delta → Delta → Delta
composed a b = record {
  minus = unioned (without_all a.minus b.plus) b.minus;
  plus = unioned (without_all a.plus b.minus) b.plus;
}

-- a delta, and then one whose elements come after its own
abbrev pub joined : Delta → Delta → Delta
joined a b = record { minus = a.minus ++ b.minus; plus = a.plus ++ b.plus }

-- the set after each delta of the list in turn
abbrev pub applied_in_turn : List Delta → List Element → List Element
applied_in_turn [] set = set
applied_in_turn (d ∷ later) set = applied_in_turn later (applied d set)

-- whether an element is in after what was said of it, by whether it was in before
abbrev pub is_in_after : Says → Bool → Bool
is_in_after In was = true
is_in_after Out was = false
is_in_after As_it_was was = was
