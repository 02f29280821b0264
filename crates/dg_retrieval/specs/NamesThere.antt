-- The names that elements have are there, as those of events are: the number of each is below the number of names.
use Rattle.std.specs.Prelude.{◌≡◌, ◌<◌, ℕ, true, List}
use Rattle.dg_graph.specs.declared.element.Element.{Element}
use Rattle.dg_graph.specs.declared.element.Element.TheVariants as element
use Rattle.dg_graph.specs.Elements.{has}
pub use Rattle.dg_records.specs.EventNames.{BodyHasNamesThere, ChangeHasNamesThere, EventNamesAreThere}

-- the key and the value that an element has, if it has them, are among so many names
abbrev pub HasNamesThere : ℕ → Element → Type 0
HasNamesThere name_count (element.NodeAttr id key value) = (key < name_count) × (value < name_count)
HasNamesThere name_count (element.EdgeAttr id key value) = (key < name_count) × (value < name_count)
HasNamesThere name_count (element.Message src dst value) = value < name_count
HasNamesThere name_count _ = Unit {0}

-- so are those of all elements of the set
abbrev pub NamesAreThere : ℕ → List Element → Type 0
NamesAreThere name_count set = (x : Element) → has set x ≡ true → HasNamesThere name_count x
