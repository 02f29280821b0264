-- Deltas between sets of elements, and their composition.
use Rattle.std.specs.Prelude.{◌≡◌, true, false, List, [], ◌∷◌, if◌then◌else◌}
use Rattle.dg_graph.specs.declared.element.Element.{Element}
use Rattle.dg_graph.specs.Elements.{IsSet, has}
use Rattle.dg_graph.specs.Sets.{unioned, without_all}

-- a delta takes the elements of one set out, and puts those of the other in
pub record Delta : Type 0 where
  pub minus : List Element
  pub plus : List Element

-- its two sets share no element
pub record IsDelta (d : Delta) : Type 0 where
  pub minus : IsSet d.minus
  pub plus : IsSet d.plus
  pub apart : (x : Element) → has d.minus x ≡ true → has d.plus x ≡ false

-- the exact delta from a to b
abbrev pub between : List Element → List Element → Delta
between a b = record { minus = without_all a b; plus = without_all b a }

-- the set without minus, and with plus
abbrev pub applied : Delta → List Element → List Element
applied d set = unioned (without_all set d.minus) d.plus

-- the delta that changes nothing
abbrev pub nothing : Delta
nothing = record { minus = []; plus = [] }

-- Two exact deltas, one from where the other ends, as one exact delta: what one takes out and the other puts
-- in again is as it was.
abbrev pub chained : Delta → Delta → Delta
chained d e = record {
  minus = unioned (without_all d.minus e.plus) (without_all e.minus d.plus);
  plus = unioned (without_all d.plus e.minus) (without_all e.plus d.minus);
}

-- the delta with its two sets changed over
abbrev pub reversed : Delta → Delta
reversed d = record { minus = d.plus; plus = d.minus }

-- what a delta says of one element
pub data Says : Type 0 where
  In : Says
  Out : Says
  As_it_was : Says

abbrev pub says : Delta → Element → Says
says d x = if has d.plus x then In else (if has d.minus x then Out else As_it_was)

-- a later word decides, unless it leaves the element as it was
abbrev pub then_says : Says → Says → Says
then_says first In = In
then_says first Out = Out
then_says first As_it_was = first

-- What a list of deltas, one after another, says of an element: the word of the last that names it.
-- The empty list names nothing.
abbrev pub composition : List Delta → Element → Says
composition [] x = As_it_was
composition (d ∷ later) x = then_says (says d x) (composition later x)

-- the delta is the composition of the list
abbrev pub Composes : Delta → List Delta → Type 0
Composes d list = (x : Element) → says d x ≡ composition list x
