-- What the hasher of a seed computes.
use Rattle.std.specs.Prelude.{ℕ, ◌+◌, ◌*◌, ◌%◌, ◌^◌, List, length, if◌then◌else◌, nat_lt, slice_index, ◌==◌}
use Rattle.std.specs.Hash.{le_bytes}
use Rattle.std.specs.Hash.FoldHasher as folding
use Rattle.dg_seed.specs.declared.hasher.SeededHasher.{SeededHasher}

-- a byte waits, unless it is the seventh
abbrev pub taken : SeededHasher → ℕ → SeededHasher
taken h byte =
    let waiting = (h.waiting * 256 % 2 ^ 64 + byte) % 2 ^ 64 in
    if nat_lt waiting (2 ^ 56) then record { hasher = h.hasher; waiting = waiting }
    else record { hasher = folding.write h.hasher (le_bytes 8 waiting); waiting = 1 }

-- the state after `write(bytes)`
abbrev pub write : SeededHasher → List ℕ → SeededHasher
write h bytes =
    if length bytes == 1 then taken h (slice_index bytes 0)
    else record { hasher = folding.write h.hasher bytes; waiting = h.waiting }

-- what `finish` returns
abbrev pub finish : SeededHasher → ℕ
finish h = folding.finish (if h.waiting == 1 then h.hasher else folding.write h.hasher (le_bytes 8 h.waiting))
