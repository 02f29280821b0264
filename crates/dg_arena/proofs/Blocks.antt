-- A place of a block is taken out of the row, put back, seen, filled and emptied.
use mathlib.Core.Path.{◌≡◌, refl, sym}
use Prim.Native.Nat.{ℕ, zero, suc, ◌+◌, ◌*◌, ◌<◌}
use native.Mathlib.Omega.{arith}
use native.Mathlib.Nat.{zero-mul, suc-mul}
use mathlib.Core.List.{List, [], ◌∷◌}
use lib.ListN.{length, set, get_or, replicate}
use seplogic.Ra.Ura.{Ura}
use base.Fraction.{full_share}
use mir.Syntax.{ty_array}
use mir.Val.{Val}
use base.Logic.{ent, sep}
use base.Fml.{Fml, Lft, ftrue, fsep, fat, froom}
use types.Logic.{Logic, sem}
use types.Kit.{‵, some, ◌⊛◌, ◌$◌, ◌∵◌, !, qed, by, move, keep, use1, use2, split, pick, frame, fsplit, fjoin, rewrite, done}
use denote.Memory.{part_at}
use borrow.Table.OneValue.{part_in, part_out}
use Rattle.std.specs.Prelude.{Option, Some, None}
use Rattle.std.specs.Mem.{type_size}
use Rattle.core.proofs.mem.Param.{El, R, el_x, elτ}
use Rattle.dg_arena.specs.Memory.{place, row, place_lent, row_lent}

module _ (E : El) where
  abbrev pub size : ℕ
  size = type_size (R E)

  abbrev pub Place : Type 0
  Place = Option (el_x E)

  -- the row but for one place
  abbrev pub others : ℕ → ℕ → List Place → ℕ → Fml
  others b o [] i = ftrue
  others b o (c ∷ cs) zero = row (R E) b (o + size) cs
  others b o (c ∷ cs) (suc i) = fsep (place (R E) b o c) (others b (o + size) cs i)

  module _ {M : Type 1} {𝓤 : Ura M} (𝓛 : Logic 𝓤) (b : ℕ) where
    open 𝓛 use {H}

    pub place_out : (cs : List Place) (o i : ℕ) → i < length cs
        → ent 𝓤 (sem 𝓛 (row (R E) b o cs)) (sep 𝓤 (sem 𝓛 (place (R E) b (i * size + o) (get_or cs i None))) (sem 𝓛 (others b o cs i)))
    place_out [] o i within = absurd (omega arith)
    place_out (c ∷ cs) o zero within =
        let moved : o ≡ zero * size + o = omega (arith, zero-mul size) in
        qed 𝓛 (‵ (row (R E) b o (c ∷ cs)) ∷ []) ∵ fsplit ! $ rewrite ! 0 (λ (k : ℕ). ‵ (place (R E) b k c)) moved refl $ done !
    place_out (c ∷ cs) o (suc i) within =
        let next = o + size in
        let moved : i * size + next ≡ suc i * size + o = omega (arith, suc-mul i size) in
        qed 𝓛 (‵ (row (R E) b o (c ∷ cs)) ∷ []) ∵ fsplit ! $ move ! (1 ∷ []) $
        use1 𝓛 (‵ (place (R E) b (i * size + next) (get_or cs i None)) ⊛ ‵ (others b next cs i)) (place_out cs next i (omega arith)) $ split ! $
        rewrite ! 0 (λ (k : ℕ). ‵ (place (R E) b k (get_or cs i None))) moved refl $
        move ! (2 ∷ 1 ∷ []) $ fjoin ! $ move ! (1 ∷ []) $ done !

    pub place_in : (cs : List Place) (o i : ℕ) (d : Place) → i < length cs
        → ent 𝓤 (sep 𝓤 (sem 𝓛 (place (R E) b (i * size + o) d)) (sem 𝓛 (others b o cs i))) (sem 𝓛 (row (R E) b o (set cs i d)))
    place_in [] o i d within = absurd (omega arith)
    place_in (c ∷ cs) o zero d within =
        let moved : o ≡ zero * size + o = omega (arith, zero-mul size) in
        qed 𝓛 (‵ (place (R E) b (zero * size + o) d) ∷ ‵ (row (R E) b (o + size) cs) ∷ []) ∵
        rewrite ! 0 (λ (k : ℕ). ‵ (place (R E) b k d)) (sym moved) refl $ fjoin ! $ done !
    place_in (c ∷ cs) o (suc i) d within =
        let next = o + size in
        let moved : i * size + next ≡ suc i * size + o = omega (arith, suc-mul i size) in
        qed 𝓛 (‵ (place (R E) b (suc i * size + o) d) ∷ ‵ (others b o (c ∷ cs) (suc i)) ∷ []) ∵
        rewrite ! 0 (λ (k : ℕ). ‵ (place (R E) b k d)) (sym moved) refl $
        move ! (1 ∷ []) $ fsplit ! $ move ! (2 ∷ 1 ∷ []) $ use2 𝓛 (‵ (row (R E) b next (set cs i d))) (place_in cs next i d (omega arith)) $ move ! (1 ∷ 0 ∷ []) $ fjoin ! $ done !

    pub place_seen : (cs : List Place) (o i : ℕ) (κ : Lft) → i < length cs → ent 𝓤 (sem 𝓛 (row_lent (R E) b o cs κ)) (sem 𝓛 (place_lent (R E) b (i * size + o) (get_or cs i None) κ))
    place_seen [] o i κ within = absurd (omega arith)
    place_seen (c ∷ cs) o zero κ within =
        let moved : o ≡ zero * size + o = omega (arith, zero-mul size) in
        qed 𝓛 (‵ (row_lent (R E) b o (c ∷ cs) κ) ∷ []) ∵ fsplit ! $ keep ! (0 ∷ []) $ rewrite ! 0 (λ (k : ℕ). ‵ (place_lent (R E) b k c κ)) moved refl $ done !
    place_seen (c ∷ cs) o (suc i) κ within =
        let next = o + size in
        let moved : i * size + next ≡ suc i * size + o = omega (arith, suc-mul i size) in
        qed 𝓛 (‵ (row_lent (R E) b o (c ∷ cs) κ) ∷ []) ∵ fsplit ! $ keep ! (1 ∷ []) $
        use1 𝓛 (‵ (place_lent (R E) b (i * size + next) (get_or cs i None) κ)) (place_seen cs next i κ (omega arith)) $
        rewrite ! 0 (λ (k : ℕ). ‵ (place_lent (R E) b k (get_or cs i None) κ)) moved refl $ done !

    -- a value comes to stand in its place
    pub filled : (x : el_x E) (o : ℕ) (v : Val) → ent 𝓤 (sep 𝓤 (H.at full_share (elτ E) b o v) (sem 𝓛 ((R E).own_val x (v ∷ [])))) (sem 𝓛 (place (R E) b o (Some x)))
    filled x o v = part_in 𝓛 (R E) refl full_share x b o v

    -- a place is room for a value; what stood there is forgotten
    pub emptied : (c : Place) (o : ℕ) → ent 𝓤 (sem 𝓛 (place (R E) b o c)) (H.room (elτ E) b o)
    emptied None o = 𝓛.laws.raw-room (elτ E) b o
    emptied (Some x) o =
        qed 𝓛 (‵ (part_at (R E) full_share x b o) ∷ []) ∵
        use1 𝓛 (some (λ (v : Val). ‵ (fat full_share (elτ E) b o v) ⊛ ‵ ((R E).own_val x (v ∷ [])))) (part_out 𝓛 (R E) refl full_share x b o) $
        pick ! (λ v. split ! $ keep ! (0 ∷ []) $ by ! (𝓛.laws.at_room (elτ E) b o v))

    -- room for so many values is a row of places without one, and each row is room again
    pub no_values : (n o : ℕ) → ent 𝓤 (H.room (ty_array (elτ E) n) b o) (sem 𝓛 (row (R E) b o (replicate n None)))
    no_values zero o = qed 𝓛 (‵ (froom (ty_array (elτ E) zero) b o) ∷ []) ∵ keep ! [] $ done !
    no_values (suc n) o =
        qed 𝓛 (‵ (froom (ty_array (elτ E) (suc n)) b o) ∷ []) ∵
        use1 𝓛 (‵ (froom (elτ E) b o) ⊛ ‵ (froom (ty_array (elτ E) n) b (o + size))) (𝓛.laws.room_uncons (elτ E) n b o) $ split ! $
        use1 𝓛 (‵ (place (R E) b o None)) (𝓛.laws.room-raw (elτ E) b o) $ frame ! $ by ! (no_values n (o + size))

    pub all_emptied : (cs : List Place) (o : ℕ) → ent 𝓤 (sem 𝓛 (row (R E) b o cs)) (H.room (ty_array (elτ E) (length cs)) b o)
    all_emptied [] o = 𝓛.laws.room_nil (elτ E) b o
    all_emptied (c ∷ cs) o =
        qed 𝓛 (‵ (row (R E) b o (c ∷ cs)) ∷ []) ∵ fsplit ! $ use1 𝓛 (‵ (froom (elτ E) b o)) (emptied c o) $ move ! (1 ∷ []) $
        use1 𝓛 (‵ (froom (ty_array (elτ E) (length cs)) b (o + size))) (all_emptied cs (o + size)) $ move ! (1 ∷ []) $ by ! (𝓛.laws.room_cons (elτ E) (length cs) b o)
