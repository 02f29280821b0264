-- From which records the parts of a walk are read, and how many bytes.
use Rattle.std.specs.Prelude.{◌≡◌, ℕ, true, List, [], ◌∷◌, ◌++◌, map, None, is_some, sum_by}
use Rattle.std.specs.List.{Contains, flat_map}
use Rattle.std.specs.Map.{lookup}
use Rattle.dg_graph.specs.declared.element.Column.{Column}
use Rattle.dg_graph.specs.declared.element.Columns.{Columns}
use Rattle.dg_history.specs.declared.node.Key.{Key}
use Rattle.dg_history.specs.Keys.{same_key}
use Rattle.dg_index.specs.OpenedIndex.{Opening}
use Rattle.dg_plan.specs.declared.edge.Edge.{Edge}
use Rattle.dg_plan.specs.declared.edge.Via.{Via}
use Rattle.dg_plan.specs.declared.edge.Via.TheVariants as via
use Rattle.dg_plan.specs.declared.edge.Way.{Way}
use Rattle.dg_fold.specs.declared.part.Part.{Part}
use Rattle.dg_fold.specs.Parts.{bytes_in, graph_columns}
pub use Rattle.dg_records.specs.ColumnReads.{ColumnBytes, Takes, TakesAtMost, asked_column, asked_length, kept_in, read_of}

-- ---- what is entered

-- the records that an edge enters: the one that it reads, where it reads one
abbrev pub entered_by : Via → List Key
entered_by via.Now = []
entered_by (via.Base handle) = []
entered_by (via.Paid key way) = key ∷ []
entered_by (via.Held key way) = []
entered_by (via.Recent way) = []

-- the record that an edge names and the way in which it takes it, where it names one
abbrev pub named_by : Via → List (Key × Way)
named_by via.Now = []
named_by (via.Base handle) = []
named_by (via.Paid key way) = (key, way) ∷ []
named_by (via.Held key way) = (key, way) ∷ []
named_by (via.Recent way) = []

abbrev pub entered_along : List Edge → List Key
entered_along walk = flat_map (λ e. entered_by e.via) walk

abbrev pub named_along : List Edge → List (Key × Way)
named_along walk = flat_map (λ e. named_by e.via) walk

-- the index keeps the record that the edge enters
abbrev pub IsKept : Opening → Via → Type 0
IsKept o via.Now = Unit {0}
IsKept o (via.Base handle) = Unit {0}
IsKept o (via.Paid key way) = is_some (lookup (same_key key) o.records) ≡ true
IsKept o (via.Held key way) = Unit {0}
IsKept o (via.Recent way) = Unit {0}

-- the record that the edge holds is among those that were entered
abbrev pub IsEntered : List Key → Via → Type 0
IsEntered entered via.Now = Unit {0}
IsEntered entered (via.Base handle) = Unit {0}
IsEntered entered (via.Paid key way) = Unit {0}
IsEntered entered (via.Held key way) = Contains entered key
IsEntered entered (via.Recent way) = Unit {0}

-- behind these records, each edge that holds a record comes after one that enters it
abbrev pub HoldsWhatIsEntered : List Key → List Edge → Type 0
HoldsWhatIsEntered entered [] = Unit {0}
HoldsWhatIsEntered entered (e ∷ walk) = IsEntered entered e.via × HoldsWhatIsEntered (entered ++ entered_by e.via) walk

-- ---- parts

-- The part is that of the record in this way, with the columns of graphs that are asked for; the others have no bytes.
pub record IsPartOf (bytes : ColumnBytes) (cols : Columns) (named : Key × Way) (p : Part) : Type 0 where
  pub key : p.key ≡ named.0
  pub way : p.way ≡ named.1
  pub until : p.until ≡ None
  pub columns : (col : Column) → bytes_in p.bytes col ≡ asked_column bytes (graph_columns cols) named.0 col

-- one part for each, in order
abbrev pub AreParts : ColumnBytes → Columns → List (Key × Way) → List Part → Type 0
AreParts bytes cols [] [] = Unit {0}
AreParts bytes cols [] (p ∷ parts) = ⊥
AreParts bytes cols (k ∷ keys) [] = ⊥
AreParts bytes cols (k ∷ keys) (p ∷ parts) = IsPartOf bytes cols k p × AreParts bytes cols keys parts

-- the record and the way of each part
abbrev pub named_in : List Part → List (Key × Way)
named_in parts = map (λ (p : Part). (p.key, p.way)) parts

-- ---- how many bytes are read

-- the weight of a walk: the bytes of the asked columns, but of messages, of the records that it enters, each as often
-- as it does
abbrev pub entered_length : ColumnBytes → Columns → List Edge → ℕ
entered_length bytes cols walk = sum_by (asked_length bytes (graph_columns cols)) (entered_along walk)
