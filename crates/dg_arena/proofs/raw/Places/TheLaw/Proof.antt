-- A `&` to the places lends each value.
use Rattle.std.specs.Prelude.{[], ◌++◌}
use base.Fml.{Incl-trans}
use contract.BorrowLft.{meet_⊑_left}
use denote.RattleType.{RattleType}
use denote.RawPtr.{RawPtr}
use denote.Param.Laws.{Laws}
use denote.Param.Shared.{copy_shared}
use denote.Struct.Laws.{field_copy}
use denote.Struct.Lending.{of_Lends}
use Rattle.core.specs.contracts.marker.PhantomData as mark
use Rattle.dg_arena.specs.contracts.raw.Places as P
use Rattle.dg_arena.proofs.raw.Places.TheLaw.Statement.{statement}
use Rattle.dg_arena.proofs.Lending.{lent_laws, owned_lends}

pub shares : (R : RattleType) (laws : Laws R) → statement R laws
shares R laws =
    of_Lends (P.struct R) (P.the_codes R.Denot R.coded (mark.the_row RawPtr).coded) (P.the_heap R) (P.the_lent R) (λ d _. lent_laws R laws.shr_laws d.at d.places)
    (copy_shared (mark.the_field RawPtr) (field_copy (mark.the_type RawPtr) tt), tt)
    (λ M 𝓤 𝓛 d _. owned_lends 𝓛 (P.the_row R).lives R laws (Incl-trans (meet_⊑_left (R.lives ++ []) _) (meet_⊑_left R.lives [])) d.at d.places)
