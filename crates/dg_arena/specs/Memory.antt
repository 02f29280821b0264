-- What a block of places owns, and what a `&` to it holds, at values of the row R.
use Rattle.std.specs.Prelude.{ℕ, ◌+◌, ◌*◌, ◌^◌, List, [], ◌∷◌, length, Option, Some, None}
use Rattle.std.specs.Mem.{type_size}
use base.Fraction.{full_share}
use base.Fml.{Lft, Fml, ftrue, ffalse, fsep, flt, froom}
use mir.Syntax.{Ty, ty_array}
use mir.Raw.{raw}
use denote.RattleType.{RattleType}
use denote.Memory.{lone, part_at, shared_of}
use denote.Sharing.{nothing, said, beside}
use denote.RawPtr.{Ptr, block_ptr, null_ptr}

module _ (R : RattleType) where
  -- the place at the offset o of the block b: its value, or room for one
  abbrev pub place : ℕ → ℕ → Option R.Denot → Fml
  place b o None = froom (raw (lone R.mir)) b o
  place b o (Some x) = part_at R full_share x b o

  -- one place after the other
  abbrev pub row : ℕ → ℕ → List (Option R.Denot) → Fml
  row b o [] = ftrue
  row b o (c ∷ cs) = fsep (place b o c) (row b (o + type_size R) cs)

  abbrev pub place_lent : ℕ → ℕ → Option R.Denot → Lft → Fml
  place_lent b o None = nothing
  place_lent b o (Some x) = shared_of R x b o

  abbrev pub row_lent : ℕ → ℕ → List (Option R.Denot) → Lft → Fml
  row_lent b o [] = nothing
  row_lent b o (c ∷ cs) = beside (place_lent b o c) (row_lent b (o + type_size R) cs)

  -- they take fewer than 2 ^ 63 bytes
  abbrev pub small : List (Option R.Denot) → Fml
  small cs = flt (length cs * type_size R) (2 ^ 63)

  abbrev pub owned : Ptr → List (Option R.Denot) → Fml
  owned (block_ptr b o) cs = fsep (small cs) (row b o cs)
  owned null_ptr cs = ffalse

  abbrev pub lent : Ptr → List (Option R.Denot) → Lft → Fml
  lent (block_ptr b o) cs = beside (said (small cs)) (row_lent b o cs)
  lent null_ptr cs = said ffalse

  -- the allocator's right to take the block of n places back
  abbrev pub titled : (Ty → Ptr → Fml) → Ptr → ℕ → Fml
  titled right p n = right (raw (ty_array (lone R.mir) n)) p
