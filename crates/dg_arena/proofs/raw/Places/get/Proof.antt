-- `get` shows a value that its place lends.
use mathlib.Core.Path.{◌≡◌, refl, ◌∙◌}
use Prim.Native.Nat.{ℕ, ◌+◌, ◌*◌, ◌<◌, ◌^◌}
use native.Mathlib.Omega.{arith}
use mathlib.Core.List.{List, [], ◌∷◌, ◌++◌}
use lib.ListN.{length, get_or}
use base.Fraction.{full_share}
use base.Logic.{SProp, emp, never, id⊢}
use base.Fml.{Lft, Share, ftrue, fat, flft}
use mir.Syntax.{Fn, w64}
use mir.MapTy.{inst_fn}
use mir.Val.{Val, vptr, vint}
use prog.Wp.{Env, WpFn}
use contract.BorrowLft.{◌⊑◌}
use contract.Monad.{fact, fact_i}
use contract.Running.{tables}
use types.Kit.{‵, raw, ◌⊛◌, prop, at_ret, ◌$◌, ◌∵◌, !, qed, by, move, keep, drop, use0, use1, split, join, rewrite, regoal, fsplit, fjoin, feq_i, flt_l}
use types.Part.{whole, sub}
use types.Run.{stop, fld, bin, size_lit, of_opd, addr, first, blocks, exec, returns, enter}
use types.ByLocal.{alloc_all, pass_all, free_all, look_at, get, get_in, through, sets, sets_last, take_at, give_at, env}
use denote.Opens.{hide, unhide}
use denote.Param.{layout}
use denote.RattleType.{owns}
use denote.RawPtr.{Ptr, in_a_block}
use denote.Signature.{types_at}
use denote.Steps.{nothing, heard}
use denote.Triple.Walked.{Stays, stay_dropped, walk_of, Goes-dropped}
use Rattle.core.proofs.alloc.Shapes.{after}
use Rattle.core.proofs.mem.Param.{El, R, args}
use Rattle.core.proofs.ptr.Rows.{times_below, one_below}
use Rattle.std.proofs.raw_atomic.Walks.{proved_at, leaves}
use Rattle.std.specs.Prelude.{Some, None, IsSome}
use Rattle.std_alloc.proofs.RcSteps.{word-Good}
use Rattle.dg_arena.specs.Memory.{place_lent, lent}
use Rattle.dg_arena.proofs.Blocks.{size, Place, place_seen}
use Rattle.dg_arena.proofs.Options.{holds, stands_within}
use Rattle.dg_arena.proofs.Walks.{slot_at, Pr, Sr, start_val, start_told}
use Rattle.dg_arena.specs.contracts.raw.Places.get.{ended, clauses}
use Rattle.dg_arena.specs.contracts.raw.Places.get.Key.{name as #self}
use Rattle.dg_arena.proofs.raw.Places.get.Statement.{statement}
use Rattle.dg_arena.proofs.raw.Places.get.Code as compiled

pub get_spec : {M : Type 1} → statement M
get_spec 𝓤 𝓛 𝓜 𝓡 wired T L =
    let H = 𝓛.H in
    let E : El = record { row = T; laws = L } in
    let ends = ended T in
    let c = clauses T 𝓛 𝓜.mem 𝓡.returns in
    let fn : Fn = inst_fn (args E) compiled.function in
    let ps = ends.signature.params in
    let stays : Stays ps ends.kept = (stay_dropped (slot_at 0 ps) ends.kept.0, (stay_dropped (slot_at 1 ps) ends.kept.1.0, (stay_dropped (slot_at 2 ps) ends.kept.1.1.0, tt))) in
    let C = (tables 𝓤 H 𝓜 𝓡 𝓡.env).C in
    let Λ = (tables 𝓤 H 𝓜 𝓡 𝓡.env).Λ in
    proved_at 𝓛 ends stays c 𝓜 𝓡
    (Goes-dropped 𝓛 2 (slot_at 0 ps) ends.kept.0 (λ κs x f. refl), (Goes-dropped 𝓛 2 (slot_at 1 ps) ends.kept.1.0 (λ κs x f. refl), (Goes-dropped 𝓛 2 (slot_at 2 ps) ends.kept.1.1.0 (λ κs x f. refl), tt)))
    (#self (args E)) fn (compiled.unfolded 𝓤 H 𝓜 𝓡 wired (T, tt)) (λ z are.
    let Post : Val → SProp 𝓤 = (walk_of 𝓛 ends stays c).post z in
    let a = z.0.3 in
    let vss = z.0.4 in
    let κ : Lft = z.0.0.0 in
    let q : Share = z.0.1.0 in
    let rb : ℕ = a.0.ref_ptr.0 in
    let ro : ℕ = a.0.ref_ptr.1 in
    let d : (Pr E).Denot = a.0.now in
    let start = a.1.0 in
    let index : ℕ = a.1.1.0 in
    let s : ℕ = size E in
    let told = start_told start.ptr vss.1.0 are.1.0 in
    let fits = are.1.1.0.1 in
    let Asked : Type 0 = (start.ptr ≡ d.at) × IsSome (get_or d.places index None) in
    qed 𝓛 (((‵ (flft κ q) ⊛ ‵ (flft z.0.0.1.0 z.0.1.1.0) ⊛ ‵ ftrue) ⊛ ‵ (owns (types_at ps z.0.0) a vss)) ∷ (raw (fact 𝓤 (z.0.0.1.0 ⊑ T.lives)) ⊛ raw (fact 𝓤 Asked)) ∷ []) ∵
    move ! (1 ∷ []) $ split ! $ drop ! $ heard ! Asked (λ asked. split ! $ split ! $ move ! (2 ∷ []) $ fsplit ! $ fsplit ! $
    -- [the address of self; what is lent; the other parameters; the tokens]
    keep ! (1 ∷ 3 ∷ 4 ∷ []) $
    let args' : List Val = vptr rb ro ∷ start_val start.ptr ∷ vint w64 index ∷ [] in
    regoal ! (λ (us : List Val). prop (WpFn 𝓤 H C Λ fn us Post)) (λ i. are.0.0 i ++ (told i ++ (are.1.1.0.0 i ++ []))) refl $
    enter ! C Λ fn args' Post $
    alloc_all ! (λ l. pass_all ! refl ((tt, tt), (word-Good [] start.ptr, ((tt, record { fits = fits }), tt))) $
    let En : Env 𝓤 H = env fn.locals l in
    let held = holds (get_or d.places index None) asked.1 in
    let x : T.Denot = held.0 in
    let within = stands_within d.places index x held.1 in
    unhide ! $ fsplit ! $ drop ! $ in_a_block ! d.at (λ p. lent (R E) p d.places κ) (id⊢ 𝓤 (never 𝓤)) (λ b o at. fsplit ! $ flt_l ! (λ small.
    let tiny : s < 2 ^ 64 = omega (arith, one_below (length d.places) s (2 ^ 63) (omega arith) small) in
    let near : index * s < 2 ^ 64 = omega (arith, times_below index (length d.places) s (2 ^ 63) (omega arith) small) in
    let here : ℕ = index * s + o in
    take_at ! 2 $ rewrite ! 0 (λ (p : Ptr). ‵ (fat full_share (layout (Sr E)) (l 2) 0 (start_val p))) (asked.0 ∙ at) refl $ give_at ! 2 $
    first ! $ blocks ! $
    sets ! (bin ! (get ! refl) (size_lit ! (record { fits = tiny })) (record { fits = near })) refl (tt, record { fits = near }) $
    sets ! (bin ! (get_in ! (fld ! refl (stop !)) (sub ! 0 refl (whole !))) (get ! refl) tt) refl (tt, tt) $
    use1 𝓛 (‵ (place_lent (R E) b here (get_or d.places index None) κ)) (place_seen E 𝓛 b d.places o index κ within) $
    rewrite ! 0 (λ (c : Place E). ‵ (place_lent (R E) b here c κ)) held.1 refl $ hide ! $
    sets_last ! (addr ! (through ! refl (stop !))) refl (tt, tt) $
    exec ! C Λ En (after 1 fn.body) (at_ret En Post) $
    sets ! (of_opd ! (get ! refl)) refl (tt, tt) $
    returns ! (look_at ! 0 refl) $ free_all ! refl $
    -- [what the result holds; the tokens]
    move ! (1 ∷ 2 ∷ []) $ join ! $ move ! (1 ∷ []) $ feq_i ! (List Val) (vptr b here ∷ []) (vptr b here ∷ []) refl $ fjoin ! $
    let Given : Type 0 = get_or d.places index None ≡ Some x in
    use0 𝓛 (raw (fact 𝓤 Given)) (fact_i 𝓤 Given (emp 𝓤) held.1) $
    nothing ! $ nothing ! $ fjoin ! $ nothing ! $ fjoin ! $ nothing ! $ fjoin ! $ move ! (3 ∷ 0 ∷ 2 ∷ 1 ∷ []) $
    by ! (leaves 𝓛 ends stays c z (vptr b here) (record { ref_ptr = (b, here); now = x }) (tt, (tt, (tt, tt))) (tt, (tt, (tt, tt)))))))))
