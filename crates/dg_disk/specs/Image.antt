-- What the calls of a disk say of its image, the list of its bytes as they read. `None` is a disk that
-- tells no image. Whether a disk tells its image stays the same over every call.
use Rattle.std.specs.Prelude.{◌≡◌, ℕ, ◌+◌, ◌≤◌, List, ◌++◌, length, take, drop, slice_range, IfSome, Option}
use Rattle.std.specs.Option.{option_map}

-- the image has this length, where it is told
abbrev pub IsLengthOf : Option (List ℕ) → ℕ → Type 0
IsLengthOf image n = IfSome image (λ bytes. n ≡ length bytes)

-- the offset is within the image or at its end, where the image is told
abbrev pub HasOffset : Option (List ℕ) → ℕ → Type 0
HasOffset image offset = IfSome image (λ bytes. offset ≤ length bytes)

-- so many bytes from the offset on are within the image, where it is told
abbrev pub HasRange : Option (List ℕ) → ℕ → ℕ → Type 0
HasRange image offset len = IfSome image (λ bytes. offset + len ≤ length bytes)

-- these are the bytes of the image from the offset on, where it is told
abbrev pub IsRangeOf : Option (List ℕ) → ℕ → List ℕ → Type 0
IsRangeOf image offset range = IfSome image (λ bytes. range ≡ slice_range bytes offset (offset + length range))

-- the bytes with the piece at the offset: those before it and those behind it are as they were
abbrev pub put_at : ℕ → List ℕ → List ℕ → List ℕ
put_at offset piece bytes = take offset bytes ++ piece ++ drop (offset + length piece) bytes

-- the image with the piece at the offset, where it is told
abbrev pub with_piece : ℕ → List ℕ → Option (List ℕ) → Option (List ℕ)
with_piece offset piece image = option_map (put_at offset piece) image

-- The image after a failed write of len bytes at the offset: some bytes stand there, that many or fewer.
abbrev pub WritesPart : ℕ → ℕ → Option (List ℕ) → Option (List ℕ) → Type 0
WritesPart offset len old new = (bytes : List ℕ) × (length bytes ≤ len) × (new ≡ with_piece offset bytes old)

-- some bytes stand at the offset, that many or fewer; those before and behind them are as they were
abbrev pub PartWritten : ℕ → ℕ → List ℕ → List ℕ → Type 0
PartWritten offset len before after = (bytes : List ℕ) × (length bytes ≤ len) × (after ≡ put_at offset bytes before)
