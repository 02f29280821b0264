-- `write` empties the place and fills it.
use mathlib.Core.Path.{◌≡◌, refl, sym, subst, ◌∙◌}
use Prim.Native.Nat.{ℕ, ◌+◌, ◌*◌, ◌<◌, ◌^◌}
use native.Mathlib.Omega.{arith}
use mathlib.Core.List.{List, [], ◌∷◌, ◌++◌}
use lib.ListN.{length, set, get_or, length-set}
use base.Fraction.{full_share}
use base.Logic.{SProp, emp, never, id⊢}
use base.Fml.{Lft, Share, ftrue, froom, fat, flft}
use mir.Syntax.{Fn, w64}
use mir.MapTy.{inst_fn}
use mir.Val.{Val, vptr, vint, vunit}
use prog.Wp.{Env, WpFn}
use contract.BorrowLft.{◌⊑◌}
use contract.Monad.{fact, fact_i}
use contract.Running.{tables}
use types.Kit.{‵, raw, ◌⊛◌, prop, at_ret, ◌$◌, ◌∵◌, !, qed, by, move, keep, drop, use0, use1, use2, split, join, rewrite, regoal, fsplit, fsplit3, fjoin, fjoin3, feq_i, feq_l, flt_i, flt_l}
use types.Part.{whole, sub}
use types.Run.{init, stop, fld, bin, size_lit, unit_lit, of_opd, assigns_last, first, blocks, exec, returns, enter}
use types.ByLocal.{alloc_all, pass_all, free_all, look_at, get, get_in, through, sets, take_at, give_at, env}
use denote.Param.{layout}
use denote.RattleType.{owns}
use denote.RawPtr.{Ptr, in_a_block}
use denote.Signature.{plain, types_at}
use denote.Steps.{nothing, heard, opens, closes}
use denote.Triple.Walked.{Stays, stay_dropped, stay_ref, walk_of, Goes-dropped, Goes-ref}
use Rattle.core.proofs.alloc.Shapes.{after}
use Rattle.core.proofs.mem.Param.{El, R, args, elτ, lawful, one}
use Rattle.core.proofs.ptr.Rows.{times_below, one_below}
use Rattle.std.proofs.raw_atomic.Walks.{proved_at, leaves}
use Rattle.std.specs.Prelude.{Some, None}
use Rattle.std_alloc.proofs.RcSteps.{word-Good}
use Rattle.dg_arena.specs.Memory.{place, row, owned}
use Rattle.dg_arena.proofs.Blocks.{size, others, place_out, place_in, filled, emptied}
use Rattle.dg_arena.proofs.Walks.{slot_at, Pr, Sr, start_val, start_told}
use Rattle.dg_arena.specs.contracts.raw.Places.write.{ended, clauses}
use Rattle.dg_arena.specs.contracts.raw.Places.write.Key.{name as #self}
use Rattle.dg_arena.proofs.raw.Places.write.Statement.{statement}
use Rattle.dg_arena.proofs.raw.Places.write.Code as compiled

pub write_spec : {M : Type 1} → statement M
write_spec 𝓤 𝓛 𝓜 𝓡 wired T L =
    let H = 𝓛.H in
    let E : El = record { row = T; laws = L } in
    let ends = ended T in
    let c = clauses T 𝓛 𝓜.mem 𝓡.returns in
    let fn : Fn = inst_fn (args E) compiled.function in
    let ps = ends.signature.params in
    let stays : Stays ps ends.kept = (stay_ref (0 ∷ []) tt (plain (λ _. Pr E)), (stay_dropped (slot_at 1 ps) ends.kept.1.0, (stay_dropped (slot_at 2 ps) ends.kept.1.1.0, (stay_dropped (slot_at 3 ps) ends.kept.1.1.1.0, tt)))) in
    let C = (tables 𝓤 H 𝓜 𝓡 𝓡.env).C in
    let Λ = (tables 𝓤 H 𝓜 𝓡 𝓡.env).Λ in
    proved_at 𝓛 ends stays c 𝓜 𝓡
    (Goes-ref 𝓛 2 0 tt (plain (λ _. Pr E)), (Goes-dropped 𝓛 2 (slot_at 1 ps) ends.kept.1.0 (λ κs x f. refl), (Goes-dropped 𝓛 2 (slot_at 2 ps) ends.kept.1.1.0 (λ κs x f. refl), (Goes-dropped 𝓛 2 (slot_at 3 ps) ends.kept.1.1.1.0 (λ κs x f. refl), tt))))
    (#self (args E)) fn (compiled.unfolded 𝓤 H 𝓜 𝓡 wired (T, tt)) (λ z are.
    let Post : Val → SProp 𝓤 = (walk_of 𝓛 ends stays c).post z in
    let a = z.0.3 in
    let vss = z.0.4 in
    let κ : Lft = z.0.0.0 in
    let q : Share = z.0.1.0 in
    let rb : ℕ = a.0.ref_ptr.0 in
    let ro : ℕ = a.0.ref_ptr.1 in
    let d : (Pr E).Denot = a.0.now in
    let start = a.1.0 in
    let index : ℕ = a.1.1.0 in
    let x : T.Denot = a.1.1.1.0 in
    let s : ℕ = size E in
    let got = one E vss.1.1.1.0 ((lawful E 𝓛).typed x vss.1.1.1.0 are.1.1.1.0) in
    let v : Val = got.0 in
    let typed = got.2 in
    let told = start_told start.ptr vss.1.0 are.1.0 in
    let fits = are.1.1.0.1 in
    let Asked : Type 0 = (start.ptr ≡ d.at) × (index < length d.places) in
    qed 𝓛 (((‵ (flft κ q) ⊛ ‵ (flft z.0.0.1.0 z.0.1.1.0) ⊛ ‵ ftrue) ⊛ ‵ (owns (types_at ps z.0.0) a vss)) ∷ (raw (fact 𝓤 (z.0.0.1.0 ⊑ T.lives)) ⊛ raw (fact 𝓤 Asked)) ∷ []) ∵
    move ! (1 ∷ []) $ split ! $ drop ! $ heard ! Asked (λ asked. split ! $ split ! $ move ! (2 ∷ []) $
    fsplit ! $ fsplit3 ! $ feq_l ! (λ e0. move ! (2 ∷ []) $ fsplit ! $ drop ! $ fsplit ! $ drop ! $ fsplit ! $ rewrite ! 0 (λ (us : List Val). ‵ ((R E).own_val x us)) got.1 refl $
    -- [the value of self, and its borrow; the tokens; what the value owns]
    keep ! (2 ∷ 3 ∷ 4 ∷ 5 ∷ 0 ∷ []) $
    let args' : List Val = vptr rb ro ∷ start_val start.ptr ∷ vint w64 index ∷ v ∷ [] in
    regoal ! (λ (us : List Val). prop (WpFn 𝓤 H C Λ fn us Post)) (λ i. are.0.0 i ++ (told i ++ (are.1.1.0.0 i ++ (got.1 i ++ [])))) refl $
    enter ! C Λ fn args' Post $
    alloc_all ! (λ l. pass_all ! refl ((tt, tt), (word-Good [] start.ptr, ((tt, record { fits = fits }), (typed, tt)))) $
    let En : Env 𝓤 H = env fn.locals l in
    opens ! tt (Pr E) {h = d} rb ro (λ vs. move ! (1 ∷ []) $ fsplit ! $ move ! (1 ∷ []) $
    in_a_block ! d.at (λ p. owned (R E) p d.places) (id⊢ 𝓤 (never 𝓤)) (λ b o at. fsplit ! $ flt_l ! (λ small.
    let within = asked.1 in
    let tiny : s < 2 ^ 64 = omega (arith, one_below (length d.places) s (2 ^ 63) (omega arith) small) in
    let near : index * s < 2 ^ 64 = omega (arith, times_below index (length d.places) s (2 ^ 63) (omega arith) small) in
    let new : (Pr E).Denot = record { mark = d.mark; at = d.at; places = set d.places index (Some x) } in
    let here : ℕ = index * s + o in
    let rest = others E b o d.places index in
    take_at ! 2 $ rewrite ! 0 (λ (p : Ptr). ‵ (fat full_share (layout (Sr E)) (l 2) 0 (start_val p))) (asked.0 ∙ at) refl $ give_at ! 2 $
    first ! $ blocks ! $
    sets ! (bin ! (get ! refl) (size_lit ! (record { fits = tiny })) (record { fits = near })) refl (tt, record { fits = near }) $
    sets ! (bin ! (get_in ! (fld ! refl (stop !)) (sub ! 0 refl (whole !))) (get ! refl) tt) refl (tt, tt) $
    use1 𝓛 (‵ (place (R E) b here (get_or d.places index None)) ⊛ ‵ rest) (place_out E 𝓛 b d.places o index within) $ split ! $
    use1 𝓛 (‵ (froom (elτ E) b here)) (emptied E 𝓛 b (get_or d.places index None) here) $
    -- [room; the other places; the fields of self; its cell; the open borrow, in three entries; a token; what the value owns]
    sets ! (of_opd ! (get ! refl)) refl typed $
    assigns_last ! (of_opd ! (get ! refl)) (through ! refl (stop !)) (init ! 0 refl typed) $
    exec ! C Λ En (after 1 fn.body) (at_ret En Post) $
    sets ! (of_opd ! (unit_lit !)) refl (tt, tt) $
    move ! (0 ∷ 8 ∷ []) $ use2 𝓛 (‵ (place (R E) b here (Some x))) (filled E 𝓛 b x here v) $
    use2 𝓛 (‵ (row (R E) b o new.places)) (place_in E 𝓛 b d.places o index (Some x) within) $
    flt_i ! (length new.places * s) (2 ^ 63) (subst (λ k. k * s < 2 ^ 63) (sym (length-set d.places index (Some x))) small) $ fjoin ! $
    rewrite ! 0 (λ (p : Ptr). ‵ (owned (R E) p new.places)) (sym at) refl $ move ! (1 ∷ 0 ∷ []) $ fjoin ! $ move ! (1 ∷ 0 ∷ []) $ closes ! tt (Pr E) new vs rb ro $
    returns ! (look_at ! 0 refl) $ free_all ! refl $
    -- [self, in two entries; the tokens]
    keep ! (2 ∷ 3 ∷ 0 ∷ 1 ∷ []) $ join ! $ move ! (1 ∷ 2 ∷ []) $ feq_i ! (List Val) vss.0 (vptr rb ro ∷ []) are.0.0 $ fjoin3 ! $
    let Given : Type 0 = (new.at ≡ d.at) × (new.places ≡ set d.places index (Some x)) in
    use0 𝓛 (raw (fact 𝓤 Given)) (fact_i 𝓤 Given (emp 𝓤) (refl, refl)) $
    feq_i ! (List Val) (vunit ∷ []) (vunit ∷ []) refl $
    nothing ! $ nothing ! $ fjoin ! $ nothing ! $ fjoin ! $ nothing ! $ fjoin ! $ move ! (3 ∷ 0 ∷ []) $ fjoin ! $ move ! (3 ∷ 0 ∷ 1 ∷ 2 ∷ []) $
    by ! (leaves 𝓛 ends stays c z vunit tt (new, (tt, (tt, (tt, tt)))) (tt, (tt, (tt, (tt, tt))))))))))))
