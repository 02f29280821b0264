-- The graph at the start and the entries before it: for each id that an event touched its element now,
-- and by how many more or fewer elements it is needed than at the start.
use Rattle.std.specs.Prelude.{◌≡◌, ℕ, ◌+◌, Bool, true, ◌||◌, List, [], ◌∷◌, ◌++◌, Option, Some, map, nat_lt}
use Rattle.std.specs.List.{list_any, count_by}
use Rattle.std.specs.Map.{keys_of, lookup}
use Rattle.std.specs.Option.{option_map_or}
use Rattle.dg_graph.specs.declared.element.Element.{Element}
use Rattle.dg_graph.specs.Elements.{with_one}
use Rattle.dg_graph.specs.Graph.{IsGraph}
use Rattle.dg_current.specs.declared.element_entry.ElementEntry.{ElementEntry}
use Rattle.dg_current.specs.declared.element_id.ElementId.{ElementId}
use Rattle.dg_current.specs.ElementIds.{element_id_of, at, needs_id, same_id}
use Rattle.dg_current.specs.HeldElements.{element_in}

-- the entry of an id
abbrev pub element_entry_at : List (ElementId × ElementEntry) → ElementId → Option ElementEntry
element_entry_at entries p = lookup (same_id p) entries

-- the element with an id: that of its entry, or else the one at the start
abbrev pub held_at : List Element → List (ElementId × ElementEntry) → ElementId → Option Element
held_at base entries p = option_map_or (λ (c : ElementEntry). element_in p c.held) (element_entry_at entries p) (at base p)

-- by how many more elements the one with an id is needed than at the start, and by how many fewer
abbrev pub more_at : List (ElementId × ElementEntry) → ElementId → ℕ
more_at entries p = option_map_or (λ (c : ElementEntry). c.more) (element_entry_at entries p) 0

abbrev pub fewer_at : List (ElementId × ElementEntry) → ElementId → ℕ
fewer_at entries p = option_map_or (λ (c : ElementEntry). c.fewer) (element_entry_at entries p) 0

-- the id has an entry
abbrev pub has_entry : List (ElementId × ElementEntry) → ElementId → Bool
has_entry entries p = list_any (same_id p) (keys_of entries)

-- the set of the elements of these ids
abbrev pub collected : (ElementId → Option Element) → List ElementId → List Element
collected f [] = []
collected f (p ∷ ids) = with_one (collected f ids) (f p)

-- the ids that have an element at the start, and those that have an entry
abbrev pub ids_of : List Element → List (ElementId × ElementEntry) → List ElementId
ids_of base entries = map element_id_of base ++ keys_of entries

-- the elements now
abbrev pub elements_of : List Element → List (ElementId × ElementEntry) → List Element
elements_of base entries = collected (held_at base entries) (ids_of base entries)

-- no entry is lost
abbrev pub KeepsEntries : List (ElementId × ElementEntry) → List (ElementId × ElementEntry) → Type 0
KeepsEntries old new = (p : ElementId) → has_entry old p ≡ true → has_entry new p ≡ true

-- the element with each id stays
abbrev pub KeepsHeld : List Element → List (ElementId × ElementEntry) → List (ElementId × ElementEntry) → Type 0
KeepsHeld base old new = (p : ElementId) → held_at base new p ≡ held_at base old p

-- the two counts of each id stay
pub record KeepsUses (old new : List (ElementId × ElementEntry)) : Type 0 where
  pub more : (p : ElementId) → more_at new p ≡ more_at old p
  pub fewer : (p : ElementId) → fewer_at new p ≡ fewer_at old p

-- Each element has its own id, all of them are a graph, and an element is needed by as many of them
-- as at the start, with what the counts say.
pub record HeldGraphIsSound (base : List Element) (entries : List (ElementId × ElementEntry)) : Type 0 where
  pub own_ids : (p : ElementId) (x : Element) → held_at base entries p ≡ Some x → element_id_of x ≡ p
  pub graph : IsGraph (elements_of base entries)
  pub uses : (p : ElementId) → count_by (needs_id p) base + more_at entries p ≡ count_by (needs_id p) (elements_of base entries) + fewer_at entries p

-- What is held: the graph at the start, the graph now, the ids that have an entry, and how many
-- further ids fit.
pub record HeldGraphState : Type 0 where
  pub base : List Element
  pub set : List Element
  pub ids : List ElementId
  pub spare : ℕ

-- the id has an entry
abbrev pub knows : HeldGraphState → ElementId → Bool
knows h p = list_any (same_id p) h.ids

-- what the element needs has entries
abbrev pub KnowsNeeds : HeldGraphState → Element → Type 0
KnowsNeeds h x = (p : ElementId) → needs_id p x ≡ true → knows h p ≡ true

-- the element can be put in or taken out without memory
pub record HasRoom (h : HeldGraphState) (x : Element) : Type 0 where
  pub itself : (knows h (element_id_of x) || nat_lt 0 h.spare) ≡ true
  pub needs : KnowsNeeds h x

-- the element and what it needs have entries
pub record IsKnown (h : HeldGraphState) (x : Element) : Type 0 where
  pub itself : knows h (element_id_of x) ≡ true
  pub needs : KnowsNeeds h x

-- no id is forgotten
abbrev pub KeepsIds : HeldGraphState → HeldGraphState → Type 0
KeepsIds old new = (p : ElementId) → knows old p ≡ true → knows new p ≡ true
