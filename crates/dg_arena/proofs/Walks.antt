-- What the walks share: the rows of the structs, and their machine values.
use mathlib.Core.Path.{◌≡◌, refl, ◌∙◌}
use Prim.Native.Nat.{ℕ, zero, suc}
use seplogic.Ra.Ura.{Ura}
use mathlib.Core.List.{List, [], ◌∷◌, ◌++◌}
use mir.Val.{Val, vstruct, vcons, vnil, of_list}
use base.Fml.{Fml}
use base.Logic.{ent, sep, emp}
use prog.Wp.{Env, Calls, Loops, Wp, after_seq, after_block}
use mir.Syntax.{Body}
use types.Kit.{Post, any_q, post, ‵, ◌$◌, ◌∵◌, !, qed, move, fjoin, feq_i, fpack, done}
use types.Logic.{Logic, sem}
use denote.RattleType.{RattleType, Valss}
use denote.Builtin.{unit}
use denote.RawPtr.{Ptr, RawPtr, ptr_val}
use denote.Shadow.{shadow, makes_shadow}
use denote.Signature.{Slot, plain}
use denote.Steps.{nothing}
use denote.Struct.Struct.{Struct, within}
use denote.Struct.Declared as Declared
use denote.Struct.Tuple.{Tuple, tuple_type}
use Rattle.core.proofs.mem.Param.{El, R}
use Rattle.dg_arena.specs.contracts.raw.Places as P
use Rattle.dg_arena.specs.contracts.raw.Start as S

-- the k-th parameter of a signature
abbrev pub slot_at : {n : ℕ} → ℕ → List (Slot n) → Slot n
slot_at k [] = plain (λ _. unit)
slot_at zero (s ∷ ss) = s
slot_at (suc k) (s ∷ ss) = slot_at k ss

module _ (E : El) where
  abbrev pub Pr : RattleType
  Pr = P.the_row (R E)

  abbrev pub Sr : RattleType
  Sr = S.the_row (R E)

-- a struct of these fields; what it owns goes by them alone
abbrev pub plainly : List RattleType → RattleType
plainly Rs = Struct (record { name = []; args = []; types = []; fields = Rs })

abbrev pub start_val : Ptr → Val
start_val p = vstruct (vcons (ptr_val p) vnil)

pub start_told : (p : Ptr) (vs : List Val) → shadow ((plainly (RawPtr ∷ [])).own_val (p, tt) vs) → vs ≡ start_val p ∷ []
start_told p vs told = told.1.0 ∙ (λ i. vstruct (of_list (told.1.1.0 i ++ [])) ∷ [])

pub start_made : {M : Type 1} {𝓤 : Ura M} (𝓛 : Logic 𝓤) (p : Ptr) → ent 𝓤 (emp 𝓤) (sem 𝓛 ((plainly (RawPtr ∷ [])).own_val (p, tt) (start_val p ∷ [])))
start_made 𝓛 p = makes_shadow 𝓛 ((plainly (RawPtr ∷ [])).own_val (p, tt) (start_val p ∷ [])) (λ _. (tt, (tt, tt))) ((ptr_val p ∷ [], tt), (refl, (refl, tt)))

-- `Places` and `Title` have one field, which takes no bytes
abbrev pub mark_val : Val
mark_val = vstruct (vcons (vstruct vnil) vnil)

abbrev pub mark_own : List Val → Fml
mark_own = (plainly (plainly [] ∷ [])).own_val (tt, tt)

pub mark_told : (vs : List Val) → shadow (mark_own vs) → vs ≡ mark_val ∷ []
mark_told vs told = told.1.0 ∙ (λ i. vstruct (of_list (told.1.1.0.1.0 i ++ [])) ∷ [])

pub mark_made : {M : Type 1} {𝓤 : Ura M} (𝓛 : Logic 𝓤) → ent 𝓤 (emp 𝓤) (sem 𝓛 (mark_own (mark_val ∷ [])))
mark_made 𝓛 = makes_shadow 𝓛 (mark_own (mark_val ∷ [])) (λ _. (tt, ((λ _. (tt, tt)), tt))) ((vstruct vnil ∷ [], tt), (refl, ((tt, (refl, tt)), tt)))

abbrev pub triple_val : Val → Val → Val → Val
triple_val u v w = vstruct (vcons u (vcons v (vcons w vnil)))

module _ {M : Type 1} {𝓤 : Ura M} (𝓛 : Logic 𝓤) where
  open 𝓛 use {H}

  pub triple_made : (R S T : RattleType) (x : R.Denot) (y : S.Denot) (z : T.Denot) (u v w : Val)
      → ent 𝓤 (sep 𝓤 (sem 𝓛 (R.own_val x (u ∷ []))) (sep 𝓤 (sem 𝓛 (S.own_val y (v ∷ []))) (sem 𝓛 (T.own_val z (w ∷ [])))))
      (sem 𝓛 ((Tuple (R ∷ S ∷ T ∷ [])).own_val (x, y, z) (triple_val u v w ∷ [])))
  triple_made R S T x y z u v w =
      let value : List Val = triple_val u v w ∷ [] in
      qed 𝓛 (‵ (R.own_val x (u ∷ [])) ∷ ‵ (S.own_val y (v ∷ [])) ∷ ‵ (T.own_val z (w ∷ [])) ∷ []) ∵
      nothing ! $ move ! (3 ∷ 0 ∷ []) $ fjoin ! $ move ! (2 ∷ 0 ∷ []) $ fjoin ! $ move ! (1 ∷ 0 ∷ []) $ fjoin ! $ feq_i ! (List Val) value value refl $ fjoin ! $
      fpack ! (Valss (R ∷ S ∷ T ∷ [])) (within (Declared.shape (tuple_type (R ∷ S ∷ T ∷ []))) (x, (y, (z, tt))) value) (u ∷ [], (v ∷ [], (w ∷ [], tt))) $ done !

  -- what runs behind one statement of a sequence, and behind a block
  abbrev pub then_runs : Calls 𝓤 H → Loops 𝓤 H → Env 𝓤 H → Body → Post 𝓤 H → Post 𝓤 H
  then_runs C Λ En b q = any_q (after_seq 𝓤 H (Wp 𝓤 H C Λ En b (post 𝓤 H q)) (post 𝓤 H q))

  abbrev pub out_of_block : Post 𝓤 H → Post 𝓤 H
  out_of_block q = any_q (after_block 𝓤 H (post 𝓤 H q))
