-- The differential functions: how an interior node's set is made from those of its children, element
-- by element.
use Rattle.std.specs.Prelude.{ℕ, ◌*◌, ◌/◌, ◌%◌, ◌^◌, Bool, false, List, [], ◌∷◌, ◌++◌, map, filter, if◌then◌else◌, nat_lt, bit_xor}
use Rattle.std.specs.List.{list_any, list_all}
use Rattle.dg_graph.specs.declared.element.Element.{Element}
use Rattle.dg_graph.specs.declared.element.Element.TheVariants.{Node, Edge, NodeAttr, EdgeAttr, Message}
use Rattle.dg_graph.specs.declared.function.Function.{Function}
use Rattle.dg_graph.specs.declared.function.Function.TheVariants.{Intersection, Union, Balanced, Skewed}
use Rattle.dg_graph.specs.Columns.{four, eight}
use Rattle.dg_graph.specs.Composition.{Delta, nothing}
use Rattle.dg_graph.specs.Elements.{bit, has}
use Rattle.dg_graph.specs.Sets.{unioned}

-- an element as bytes: its kind, and then its fields
abbrev pub canonical : Element → List ℕ
canonical (Node id) = 1 ∷ eight id
canonical (Edge directed id src dst) = 2 ∷ (eight id ++ (eight src ++ (eight dst ++ bit directed ∷ [])))
canonical (NodeAttr id key value) = 3 ∷ (eight id ++ (four key ++ four value))
canonical (EdgeAttr id key value) = 4 ∷ (eight id ++ (four key ++ four value))
canonical (Message src dst value) = 5 ∷ (eight src ++ (eight dst ++ four value))

-- the FNV-1a hash of 64 bits, going on from a hash
abbrev pub fnv_from : ℕ → List ℕ → ℕ
fnv_from hash [] = hash
fnv_from hash (b ∷ bytes) = fnv_from ((bit_xor hash b * 1099511628211) % 2 ^ 64) bytes

abbrev pub fnv : List ℕ → ℕ
fnv bytes = fnv_from 14695981039346656037 bytes

-- the top byte of the element's hash is below r
abbrev pub part : Element → ℕ → Bool
part x r = nat_lt (fnv (canonical x) / 2 ^ 56) r

abbrev pub in_first : List (List Element) → Element → Bool
in_first [] x = false
in_first (set ∷ sets) x = has set x

abbrev pub in_last : List (List Element) → Element → Bool
in_last [] x = false
in_last (set ∷ []) x = has set x
in_last (set ∷ other ∷ sets) x = in_last (other ∷ sets) x

-- those of the elements that are among so many of 256, by their hash, from the last set, and the others from the first
abbrev pub in_skewed : ℕ → List (List Element) → Element → Bool
in_skewed r sets x = if part x r then in_last sets x else in_first sets x

-- Of the children's sets, first to last: the elements in every set; in at least one; or, by a hash, half of the
-- elements, or so many of 256, from the last and the others from the first.
abbrev pub in_combined : Function → List (List Element) → Element → Bool
in_combined Intersection sets x = list_all (λ set. has set x) sets
in_combined Union sets x = list_any (λ set. has set x) sets
in_combined Balanced sets x = in_skewed 128 sets x
in_combined (Skewed r) sets x = in_skewed r sets x

-- the elements of any of the sets
abbrev pub all_of : List (List Element) → List Element
all_of [] = []
all_of (set ∷ sets) = unioned set (all_of sets)

-- the set of an interior node, from the sets of its children, first to last
abbrev pub combined : Function → List (List Element) → List Element
combined f sets = filter (in_combined f sets) (all_of sets)

-- the elements of the delta that are in the last child's part
abbrev pub parted : ℕ → Delta → Delta
parted r d = record { minus = filter (λ x. part x r) d.minus; plus = filter (λ x. part x r) d.plus }

abbrev pub parted_last : ℕ → List Delta → Delta
parted_last r [] = nothing
parted_last r (d ∷ []) = parted r d
parted_last r (d ∷ e ∷ more) = parted_last r (e ∷ more)

-- From the exact deltas that lead from the first child to each other one: the exact delta from the first
-- child to the interior node.
abbrev pub inward : Function → List Delta → Delta
inward Intersection ways = record { minus = all_of (map (λ (d : Delta). d.minus) ways); plus = [] }
inward Union ways = record { minus = []; plus = all_of (map (λ (d : Delta). d.plus) ways) }
inward Balanced ways = parted_last 128 ways
inward (Skewed r) ways = parted_last r ways
