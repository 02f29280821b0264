-- A `&` to a title holds nothing.
use denote.RattleType.{RattleType}
use denote.RawPtr.{RawPtr}
use denote.Param.Laws.{Laws}
use denote.Param.Shared.{copy_shared}
use denote.SharingLaws.{nothing_shr_laws}
use denote.Struct.Laws.{field_copy}
use denote.Struct.Lending.{of_Lends, Lends-nothing}
use Rattle.core.specs.declared.alloc.Allocator.{Ghosts}
use Rattle.core.specs.contracts.marker.PhantomData as mark
use Rattle.dg_arena.specs.contracts.raw.Title as T
use Rattle.dg_arena.proofs.raw.Title.TheLaw.Statement.{statement}

pub shares : (R A : RattleType) (g : Ghosts A.Denot) (laws : Laws R) (alloc : Laws A) → statement R A g laws alloc
shares R A g laws alloc =
    of_Lends (T.struct R A g) (T.the_codes R.Denot A.Denot R.coded A.coded (mark.the_row RawPtr).coded) (T.the_heap R A g) (T.the_lent R A g) (λ d _. nothing_shr_laws)
    (copy_shared (mark.the_field RawPtr) (field_copy (mark.the_type RawPtr) tt), tt) (λ M 𝓤 𝓛 d _. Lends-nothing 𝓛 (T.the_heap R A g d) (T.the_row R A g).lives)
