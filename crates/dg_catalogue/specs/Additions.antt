-- Records that are added to a catalogue together, as those of a segment.
use Rattle.std.specs.Prelude.{◌≡◌, ℕ, ◌+◌, ◌≤◌, List, [], ◌∷◌, length, map, is_some, sum_by}
use Rattle.dg_history.specs.declared.node.Key.{Key}
use Rattle.dg_history.specs.Keys.{is_list}
use Rattle.dg_index.specs.declared.entry.Entry.{Entry}
use Rattle.dg_index.specs.declared.entry.Row.{Row}
use Rattle.dg_index.specs.IndexGrowth.{columns_in}
use Rattle.dg_index.specs.IndexKeys.{Fresh}
use Rattle.dg_index.specs.OpenedIndex.{total}
use Rattle.dg_catalogue.specs.declared.catalogue.TheConstants.{BYTES_MAX}
use Rattle.dg_catalogue.specs.Entries.{Holdings}
use Rattle.dg_catalogue.specs.Keys.{IsNumbered}

-- the bytes of all columns that the rows tell of
abbrev pub bytes_of_rows : List Row → ℕ
bytes_of_rows rows = sum_by (λ (r : Row). total r.lengths) rows

-- a row for each key, with instants exactly for a list, whose number is small enough
abbrev pub Suits : List Key → List Row → Type 0
Suits [] [] = Unit {0}
Suits [] (r ∷ rows) = ⊥
Suits (k ∷ keys) [] = ⊥
Suits (k ∷ keys) (r ∷ rows) = IsNumbered k × (is_some r.ends ≡ is_list k) × Suits keys rows

-- The catalogue may get these records, whose columns begin at the offset: it has room for them, none of them
-- is held, and all bytes stay within BYTES_MAX.
pub record IsRoomFor (c : Holdings) (offset : ℕ) (keys : List Key) (rows : List Row) : Type 0 where
  pub room : length keys ≤ c.spare
  pub fresh : Fresh (map (λ (r : Key × Entry). r.0) c.entries) keys
  pub in_range : offset + bytes_of_rows rows ≤ BYTES_MAX
  pub bytes : columns_in c.entries + bytes_of_rows rows ≤ BYTES_MAX
  pub suits : Suits keys rows
