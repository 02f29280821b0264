-- The keys of the records that an index keeps.
use Rattle.std.specs.Prelude.{◌≡◌, ℕ, ◌+◌, ◌*◌, ◌^◌, Bool, false, ◌&&◌, List, [], ◌∷◌, ◌++◌, map, nat_le, nat_lt}
use Rattle.std.specs.List.{list_any}
use Rattle.dg_history.specs.declared.node.Key.{Key}
use Rattle.dg_history.specs.declared.node.Key.TheVariants as key
use Rattle.dg_history.specs.declared.params.Params.{Params}
use Rattle.dg_history.specs.Keys.{same_key}
use Rattle.dg_index.specs.Hierarchy.{leaves, parent}
use Rattle.dg_index.specs.IndexRecords.{lists_due, deltas_due}
use Rattle.dg_index.specs.declared.entry.BatchEntry.{BatchEntry}
use Rattle.dg_index.specs.declared.entry.Entry.{Entry}
use Rattle.dg_index.specs.OpenedIndex.{Opening}

-- the keys of the segments of these batches, of which the first has this number and stands behind so many events
abbrev pub keys_among : Params → ℕ → ℕ → List BatchEntry → List Key
keys_among p number count [] = []
keys_among p number count (b ∷ batches) =
    (lists_due p count (count + b.events) ++ (deltas_due p.k (leaves p count) (leaves p (count + b.events)) ++ key.Piece number ∷ []))
    ++ keys_among p (number + 1) (count + b.events) batches

-- of each index: its records are those of its batches
abbrev pub AreKept : Opening → Type 0
AreKept o = map (λ (r : Key × Entry). r.0) o.records ≡ keys_among o.params 0 0 o.batches

-- the record is one of an index of so many events
abbrev pub key_exists : Params → ℕ → Key → Bool
key_exists p n (key.List i) = nat_lt i (leaves p n)
key_exists p n (key.Piece s) = false
key_exists p n (key.Top h) = nat_le 1 h && nat_le (p.k ^ h) (leaves p n)
key_exists p n (key.Down h c) = nat_le 1 h && (nat_le 1 c && nat_le (parent p.k c * p.k ^ h) (leaves p n))

-- the key is among them
abbrev pub among : Key → List Key → Bool
among k keys = list_any (same_key k) keys

-- the keys to come are held nowhere before them
abbrev pub Fresh : List Key → List Key → Type 0
Fresh old [] = Unit {0}
Fresh old (k ∷ keys) = (among k old ≡ false) × Fresh (old ++ k ∷ []) keys
