-- A `&` to a block's places reaches each value, and places cross threads as their values do.
use Rattle.std.specs.Prelude.{ℕ, ◌+◌, List, [], ◌∷◌, Option, Some, None}
use Rattle.std.specs.Mem.{type_size}
use seplogic.Ra.Ura.{Ura}
use base.Fraction.{full_share}
use base.Fml.{Lft, Incl, ftrue, ffalse}
use base.Shift.{Keyless}
use types.Logic.{Logic}
use denote.RattleType.{RattleType, RowLaws}
use denote.Param.Laws.{Laws}
use denote.Param.Send.{IsSend, IsSync, Common, AllSend, part_keyless, owning_send, struct_send, struct_sync, sendable}
use denote.RawPtr.{Ptr, block_ptr, null_ptr}
use denote.Sharing.{ShrLaws, said}
use denote.SharingLaws.{beside_shr_laws, nothing_shr_laws, said_shr_laws}
use denote.Shares.{Shares-less}
use denote.Struct.Lending.{Lends, Lends-both, Lends-nothing, Lends-said, Lends-false}
use denote.Struct.Struct.{exits_of}
use denote.Struct.Owning.{shape, fields, to}
use Rattle.core.specs.declared.alloc.Allocator.{Ghosts}
use Rattle.std_alloc.proofs.SendSync.{FreesAnywhere, quiet}
use Rattle.dg_arena.specs.Memory.{place, row, place_lent, row_lent, small, owned, lent}
use Rattle.dg_arena.specs.contracts.raw.Places as P
use Rattle.dg_arena.specs.contracts.raw.Title as T

module _ (R : RattleType) (laws : RowLaws R) where
  place_laws : (b o : ℕ) (c : Option R.Denot) → ShrLaws (place_lent R b o c)
  place_laws b o None = nothing_shr_laws
  place_laws b o (Some x) = laws x b o

  row_laws : (b o : ℕ) (cs : List (Option R.Denot)) → ShrLaws (row_lent R b o cs)
  row_laws b o [] = nothing_shr_laws
  row_laws b o (c ∷ cs) = beside_shr_laws _ _ (place_laws b o c) (row_laws b (o + type_size R) cs)

  pub lent_laws : (p : Ptr) (cs : List (Option R.Denot)) → ShrLaws (lent R p cs)
  lent_laws null_ptr cs = said_shr_laws ffalse tt
  lent_laws (block_ptr b o) cs = beside_shr_laws _ _ (said_shr_laws (small R cs) tt) (row_laws b o cs)

module _ {M : Type 1} {𝓤 : Ura M} (𝓛 : Logic 𝓤) (life : Lft) (R : RattleType) (laws : Laws R) (within : Incl life R.lives) where
  place_lends : (b o : ℕ) (c : Option R.Denot) → Lends 𝓛 (place R b o c) (place_lent R b o c) life
  place_lends b o None = Lends-nothing 𝓛 (place R b o None) life
  place_lends b o (Some x) = λ κ ts. Shares-less 𝓛 R R.lives life within (laws.shares 𝓛) x κ ts b o

  row_lends : (b o : ℕ) (cs : List (Option R.Denot)) → Lends 𝓛 (row R b o cs) (row_lent R b o cs) life
  row_lends b o [] = Lends-nothing 𝓛 ftrue life
  row_lends b o (c ∷ cs) =
      let next = o + type_size R in
      Lends-both 𝓛 (place R b o c) (row R b next cs) (place_lent R b o c) (row_lent R b next cs) life (place_lends b o c) (row_lends b next cs)

  pub owned_lends : (p : Ptr) (cs : List (Option R.Denot)) → Lends 𝓛 (owned R p cs) (lent R p cs) life
  owned_lends null_ptr cs = Lends-false 𝓛 (said ffalse) life
  owned_lends (block_ptr b o) cs =
      Lends-both 𝓛 (small R cs) (row R b o cs) (said (small R cs)) (row_lent R b o cs) life (Lends-said 𝓛 (small R cs) tt life) (row_lends b o cs)

module _ (R : RattleType) where
  row_crosses : IsSend R → (b o : ℕ) (cs : List (Option R.Denot)) → Keyless (row R b o cs)
  row_crosses sends b o [] = tt
  row_crosses sends b o (None ∷ cs) = (tt, row_crosses sends b (o + type_size R) cs)
  row_crosses sends b o (Some x ∷ cs) = (part_keyless R sends full_share x b o, row_crosses sends b (o + type_size R) cs)

  owned_crosses : IsSend R → (p : Ptr) (cs : List (Option R.Denot)) → Keyless (owned R p cs)
  owned_crosses sends null_ptr cs = tt
  owned_crosses sends (block_ptr b o) cs = (tt, row_crosses sends b o cs)

  row_is_common : IsSync R → (b o : ℕ) (cs : List (Option R.Denot)) → Common (row_lent R b o cs)
  row_is_common syncs b o [] κ = tt
  row_is_common syncs b o (None ∷ cs) κ = (tt, row_is_common syncs b (o + type_size R) cs κ)
  row_is_common syncs b o (Some x ∷ cs) κ = (syncs.shared x b o κ, row_is_common syncs b (o + type_size R) cs κ)

  lent_is_common : IsSync R → (p : Ptr) (cs : List (Option R.Denot)) → Common (lent R p cs)
  lent_is_common syncs null_ptr cs κ = tt
  lent_is_common syncs (block_ptr b o) cs κ = (tt, row_is_common syncs b o cs κ)

  pub places_send : IsSend R → IsSend (P.the_row R)
  places_send sends =
      let owner = P.the_type R in let all : AllSend (fields owner) = (search sendable, tt) in
      owning_send owner all (λ d. owned_crosses sends d.at d.places) (λ k. quiet (to owner) (exits_of k (fields owner)) ((struct_send (shape owner) all).leaving k))

  pub places_sync : IsSync R → IsSync (P.the_row R)
  places_sync syncs =
      let owner = P.the_type R in
      record { shared = λ d b o κ. ((struct_sync (shape owner) (search sendable, tt)).shared (to owner d) b o κ, lent_is_common syncs d.at d.places κ) }

  module _ (A : RattleType) (g : Ghosts A.Denot) where
    pub title_send : FreesAnywhere A.Denot g → IsSend (T.the_row R A g)
    title_send frees =
        let owner = T.the_type R A g in let all : AllSend (fields owner) = (search sendable, tt) in
        owning_send owner all (λ d. frees.frees d.alloc _ d.at) (λ k. quiet (to owner) (exits_of k (fields owner)) ((struct_send (shape owner) all).leaving k))

    pub title_sync : IsSync (T.the_row R A g)
    title_sync =
        let owner = T.the_type R A g in record { shared = λ d b o κ. ((struct_sync (shape owner) (search sendable, tt)).shared (to owner d) b o κ, tt) }
