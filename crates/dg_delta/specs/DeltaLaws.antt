-- The laws of deltas, as they are proved.
use Rattle.std.specs.Prelude.{◌≡◌, List, [], ◌∷◌, ◌++◌}
use Rattle.dg_graph.specs.declared.element.Element.{Element}
use Rattle.dg_graph.specs.Elements.{IsSet, has}
use Rattle.dg_graph.specs.Composition.{Delta, IsDelta, between, applied, chained, reversed, says, then_says, composition, Composes}
use Rattle.dg_delta.specs.Deltas.{composed, applied_in_turn, is_in_after}

-- the exact delta from a to b leads from a to b
abbrev pub BetweenLeadsOn : Type 0
BetweenLeadsOn = (a b : List Element) → IsSet a → IsSet b → applied (between a b) a ≡ b

-- and, reversed, from b to a
abbrev pub ReversedLeadsBack : Type 0
ReversedLeadsBack = (a b : List Element) → IsSet a → IsSet b → applied (reversed (between a b)) b ≡ a

-- an exact delta and one from where it ends are one exact delta
abbrev pub ChainsAreExact : Type 0
ChainsAreExact = (a b c : List Element) → IsSet a → IsSet b → IsSet c → chained (between a b) (between b c) ≡ between a c

-- what a delta does to one element is what it says of it
abbrev pub DecidesEachElement : Type 0
DecidesEachElement = (d : Delta) (set : List Element) (x : Element) → has (applied d set) x ≡ is_in_after (says d x) (has set x)

-- a composition of two applies as one and then the other
abbrev pub AppliesOneAfterTheOther : Type 0
AppliesOneAfterTheOther = (d first later : Delta) (set : List Element) → Composes d (first ∷ later ∷ []) → IsSet set → applied d set ≡ applied later (applied first set)

-- a composition of a list applies as each in turn
abbrev pub AppliesEachInTurn : Type 0
AppliesEachInTurn = (d : Delta) (list : List Delta) (set : List Element) → Composes d list → IsSet set → applied d set ≡ applied_in_turn list set

-- a delta is what it says of each element
abbrev pub SayTheSameAreEqual : Type 0
SayTheSameAreEqual = (a b : Delta) → IsDelta a → IsDelta b → ((x : Element) → says a x ≡ says b x) → a ≡ b

-- it does not matter which two of three are composed first
abbrev pub IsAssociative : Type 0
IsAssociative = (a b c : Delta) → IsDelta a → IsDelta b → IsDelta c → composed (composed a b) c ≡ composed a (composed b c)

-- it does not matter where a list is cut
abbrev pub CanBeCut : Type 0
CanBeCut = (xs ys : List Delta) (x : Element) → composition (xs ++ ys) x ≡ then_says (composition xs x) (composition ys x)
