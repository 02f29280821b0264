-- The effects of events as a list of marks, each of one element, and the last mark of each element.
use Rattle.std.specs.Prelude.{◌&&◌, Bool, true, false, not, List, [], ◌∷◌, ◌++◌, Option, if◌then◌else◌, map}
use Rattle.std.specs.Option.{option_to_list}
use Rattle.dg_graph.specs.declared.element.Element.{Element}
use Rattle.dg_graph.specs.Composition.{Delta}
use Rattle.dg_graph.specs.Elements.{same, before}
use Rattle.dg_net.specs.declared.marks.Mark.{Mark}

-- a mark as a delta: it puts the element in, or takes it out
abbrev pub word_of : Mark → Delta
word_of m = if m.puts_in then record { minus = []; plus = m.element ∷ [] } else record { minus = m.element ∷ []; plus = [] }

abbrev pub taken_out : Element → Mark
taken_out x = record { element = x; puts_in = false }

abbrev pub put_in : Element → Mark
put_in x = record { element = x; puts_in = true }

-- the marks of an element that goes out and one that comes in, where there are such
abbrev pub marks_of : Option Element → Option Element → List Mark
marks_of out into = map taken_out (option_to_list out) ++ map put_in (option_to_list into)

-- the order of marks is that of their elements
abbrev pub earlier : Mark → Mark → Bool
earlier a b = before a.element b.element

-- the first mark of the list is of the element
abbrev pub names_first : Element → List Mark → Bool
names_first x [] = false
names_first x (m ∷ rest) = same x m.element

-- the mark goes this way
abbrev pub goes : Bool → Mark → Bool
goes into m = if into then m.puts_in else not m.puts_in

-- of each run of marks of one element the last, where it goes this way
abbrev pub lasts : Bool → List Mark → List Element
lasts into [] = []
lasts into (m ∷ rest) =
    if not (names_first m.element rest) && goes into m then m.element ∷ lasts into rest else lasts into rest
