-- Places in chunks.
use Rattle.std.specs.Prelude.{List}
use Rattle.std.specs.List.{flat_map}

-- the places of all chunks, one chunk after the other
abbrev pub joined : {X : Type 0} → List (List X) → List X
joined chunks = flat_map (λ c. c) chunks
