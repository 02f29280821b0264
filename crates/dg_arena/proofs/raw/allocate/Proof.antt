-- `allocate` makes places of the block that the allocator gives, and keeps the right to give it back.
use mathlib.Core.Path.{◌≡◌, refl, sym, ap, subst}
use mathlib.Core.Bool.{true, false}
use Prim.Native.Nat.{ℕ, ◌*◌, ◌<◌, ◌^◌}
use native.Mathlib.Omega.{arith}
use mathlib.Core.List.{List, [], ◌∷◌, ◌++◌}
use lib.Dec.{lit<}
use lib.ListN.{length, replicate, length-replicate}
use base.Logic.{SProp, emp, id⊢}
use base.Fml.{Lft, Share, ftrue, flft}
use mir.Syntax.{Ty, Fn, Body, w64, ty_array}
use mir.MapTy.{inst_fn}
use mir.Val.{Val, vptr, vint, vstruct, vcons, vnil}
use prog.Memory.{align, capped}
use prog.Capped.{capped_fits}
use prog.Wp.{Env, WpFn}
use contract.BorrowLft.{◌⊑◌, ⊑_trans}
use contract.Monad.{fact, fact_i}
use contract.Running.{tables}
use types.Kit.{‵, raw, ◌⊛◌, later, prop, at_ret, ◌$◌, ◌∵◌, !, qed, by, move, keep, drop, use0, use1, use2, use3, split, split3, join, regoal, fsplit, fjoin, flt_i, await}
use types.Match.{live, vrt, in_variant}
use types.Part.{whole, agg}
use types.Run.{stop, fld, lit, bin, size_word, align_word, of_opd, and_then, no_more, first, switches_on, exec, returns, enter}
use types.ByLocal.{alloc_all, pass_all, free_all, look_at, get, get_in, get_tag, sets, sets_last, lands_as, is, env}
use denote.Laws.{Is}
use denote.Param.{layout}
use denote.RattleType.{RattleType, owns}
use denote.RawPtr.{Ptr, RawPtr, block_ptr}
use denote.Signature.{types_at, type_at}
use denote.Steps.{nothing, heard, owned as owned_of}
use denote.Struct.Struct.{Struct, Struct-Makes}
use denote.Struct.Declared as Declared
use denote.Struct.Tuple.{Tuple}
use denote.Triple.Call.{calls_at}
use denote.Triple.Walked.{Stays, stay_dropped, walk_of, Goes-dropped}
use Rattle.core.specs.contracts.alloc.AllocError as AE
use Rattle.core.proofs.alloc.Calls.{Al, seen, Answer-typed, Takes, at_takes, Answered, Takes-goes, Takes-gives, answers}
use Rattle.core.proofs.alloc.Shapes.{after, head, arm_body}
use Rattle.core.proofs.atomic.Steps.{fm}
use Rattle.core.proofs.mem.Param.{El, R, elτ}
use Rattle.core.proofs.slots.Leases.{uncapped, block_ty, block_size, block_align, args, P}
use Rattle.std.proofs.raw_atomic.Walks.{proved_at, leaves}
use Rattle.std.specs.Prelude.{IfOk, Ok, Err, None}
use Rattle.std.specs.Vec.Ownership.{FitsInBlock}
use Rattle.std_alloc.proofs.RawLayout.{as_written}
use Rattle.std_alloc.proofs.RcSteps.{Good, first_Good, word-Good}
use Rattle.std_alloc.proofs.ResultValues.{ok_of, err_of}
use Rattle.dg_arena.specs.Memory.{row}
use Rattle.dg_arena.proofs.Blocks.{size, no_values}
use Rattle.dg_arena.proofs.Walks.{slot_at, Pr, Sr, plainly, start_val, start_made, mark_val, mark_own, mark_made, triple_val, triple_made, then_runs}
use Rattle.dg_arena.specs.contracts.raw.Title as T-type
use Rattle.dg_arena.specs.contracts.raw.allocate.{ended, clauses}
use Rattle.dg_arena.specs.contracts.raw.allocate.Key.{name as #self}
use Rattle.dg_arena.proofs.raw.allocate.Statement.{statement}
use Rattle.dg_arena.proofs.raw.allocate.Code as compiled

pub allocate_spec : {M : Type 1} → statement M
allocate_spec 𝓤 𝓛 𝓜 𝓡 wired T A L LA g d dd met md =
    let H = 𝓛.H in
    let E : El = record { row = T; laws = L } in
    let Z : Al = record { row = A; laws = LA; g = g; d = d; drops = dd } in
    let ends = ended T A g d dd in
    let c = clauses T A g d dd 𝓛 𝓜.mem 𝓡.returns in
    let fn : Fn = inst_fn (args E Z) compiled.function in
    let ps = ends.signature.params in
    let stays : Stays ps ends.kept = (stay_dropped (slot_at 0 ps) ends.kept.0, (stay_dropped (slot_at 1 ps) ends.kept.1.0, tt)) in
    let C = (tables 𝓤 H 𝓜 𝓡 𝓡.env).C in
    let Λ = (tables 𝓤 H 𝓜 𝓡 𝓡.env).Λ in
    proved_at 𝓛 ends stays c 𝓜 𝓡
    (Goes-dropped 𝓛 3 (slot_at 0 ps) ends.kept.0 (λ κs x f. refl), (Goes-dropped 𝓛 3 (slot_at 1 ps) ends.kept.1.0 (λ κs x f. refl), tt))
    (#self (args E Z)) fn (compiled.unfolded 𝓤 H 𝓜 𝓡 wired (T, (A, tt)) d dd) (λ z are.
    let Post : Val → SProp 𝓤 = (walk_of 𝓛 ends stays c).post z in
    let a = z.0.3 in
    let vss = z.0.4 in
    let κ : Lft = z.0.0.0 in
    let q : Share = z.0.1.0 in
    let κA : Lft = z.0.0.1.1.0 in
    let handle = a.0.ref_ptr in
    let h : A.Denot = a.0.now in
    let n : ℕ = a.1.0 in
    let fits = are.1.0.1 in
    let s : ℕ = size E in
    let al : ℕ = capped (align (elτ E)) in
    let τ : Ty = block_ty E n in
    let Tr : RattleType = T-type.the_row (R E) (P E Z) g in
    let Three : RattleType = Tuple (Sr E ∷ Pr E ∷ Tr ∷ []) in
    let Out : RattleType = type_at ends.signature.result z.0.0 in
    let y = at_takes Z 𝓛 𝓜.mem 𝓡.returns κ q handle h (n * s) al τ in
    let Asked : Type 0 = FitsInBlock (R E) n in
    qed 𝓛 (((‵ (flft κ q) ⊛ ‵ (flft z.0.0.1.0 z.0.1.1.0) ⊛ ‵ (flft κA z.0.1.1.1.0) ⊛ ‵ ftrue) ⊛ ‵ (owns (types_at ps z.0.0) a vss))
    ∷ (raw (fact 𝓤 (z.0.0.1.0 ⊑ T.lives)) ⊛ raw (fact 𝓤 (κA ⊑ A.lives)) ⊛ raw (fact 𝓤 Asked)) ∷ []) ∵
    move ! (1 ∷ []) $ split3 ! $ drop ! $ heard ! (κA ⊑ A.lives) (λ lives. heard ! Asked (λ asked. split ! $ split ! $ move ! (2 ∷ []) $
    fsplit ! $ fsplit ! $ drop ! $ use1 𝓛 (‵ (seen Z κ handle h)) (id⊢ 𝓤 _) $
    -- [the allocator, lent; the tokens]
    keep ! (0 ∷ 2 ∷ 3 ∷ []) $
    let small : n * s < 2 ^ 63 = asked.0 in
    let bytes : n * s < 2 ^ 64 = omega arith in
    let args' : List Val = vptr handle.0 handle.1 ∷ vint w64 n ∷ [] in
    regoal ! (λ (us : List Val). prop (WpFn 𝓤 H C Λ fn us Post)) (λ i. are.0.0 i ++ (are.1.0.0 i ++ [])) refl $
    enter ! C Λ fn args' Post $
    alloc_all ! (λ l. pass_all ! refl ((tt, tt), ((tt, record { fits = fits }), tt)) $
    let En : Env 𝓤 H = env fn.locals l in
    let whole_size = uncapped n s bytes in
    sets ! (is ! (bin ! (get ! refl) (size_word !) (record { fits = subst (λ (k : ℕ). k < 2 ^ 64) (sym whole_size) bytes })) (ap (vint w64) whole_size)) refl (tt, record { fits = bytes }) $
    use2 𝓛 (raw ((Takes Z 𝓛 𝓜.mem 𝓡.returns).pre y))
    (Takes-goes Z 𝓛 𝓜.mem 𝓡.returns κ q handle h (⊑_trans κ κA A.lives z.0.2.0 lives) (n * s) al τ (block_size E n bytes) (block_align E n) bytes (capped_fits (align (elτ E)))) $
    calls_at ! (fm 𝓛 𝓜 𝓡) (Takes Z 𝓛 𝓜.mem 𝓡.returns) (met.allocate dd) y (and_then ! (get ! refl) (and_then ! (get ! refl) (and_then ! (align_word !) (no_more !)))) (λ v.
    use1 𝓛 (later (raw (Answered Z 𝓛 𝓜.mem 𝓡.returns h τ v) ⊛ ‵ (flft κ q))) (Takes-gives Z 𝓛 𝓜.mem 𝓡.returns κ q handle h (n * s) al τ v) $ await ! tt $ split ! $
    let arms : Body = head (after 2 fn.body) in
    answers Z ! 𝓜.mem 𝓡.returns h τ v
    (λ b o e. move ! (2 ∷ 3 ∷ []) $ join ! $ move ! (1 ∷ 2 ∷ []) $
    let p : Ptr = block_ptr b o in
    let places : (Pr E).Denot = record { mark = record {}; at = p; places = replicate n None } in
    let title : Tr.Denot = record { mark = record {}; at = p; len = n; alloc = h } in
    let made : Val = triple_val (start_val p) mark_val mark_val in
    let typed : Good (layout Three) made = (tt, ((tt, tt), ((tt, tt), ((tt, tt), tt)))) in
    let ok = first_Good (layout Three) made typed in
    lands_as ! e refl (Answer-typed true b o) $ first ! $ switches_on ! (get_tag ! (vrt ! refl (fld ! refl (stop !))) (whole !)) $
    exec ! C Λ En (arm_body 0 arms) (then_runs 𝓛 C Λ En (after 3 fn.body) (at_ret En Post)) $
    sets ! (of_opd ! (get_in ! (vrt ! refl (fld ! refl (stop !))) (in_variant ! 0 0 refl refl (whole !)))) refl (tt, tt) $
    sets ! (of_opd ! (get ! refl)) refl (tt, tt) $
    sets ! (agg ! (and_then ! (get ! refl) (no_more !))) refl (word-Good [] p) $
    sets ! (agg ! (no_more !)) refl (tt, tt) $
    sets ! (agg ! (and_then ! (get ! refl) (no_more !))) refl (tt, (tt, tt)) $
    sets ! (agg ! (no_more !)) refl (tt, tt) $
    sets ! (agg ! (and_then ! (get ! refl) (no_more !))) refl (tt, (tt, tt)) $
    sets ! (agg ! (and_then ! (get ! refl) (and_then ! (get ! refl) (and_then ! (get ! refl) (no_more !))))) refl typed $
    sets_last ! (agg ! (and_then ! (lit ! tt) (and_then ! (get ! refl) (no_more !)))) refl ok $
    exec ! C Λ En (after 3 fn.body) (at_ret En Post) $
    sets ! (of_opd ! (get ! refl)) refl ok $
    returns ! (look_at ! 0 refl) $ free_all ! refl $
    -- [the block; the right to it; the tokens]
    as_written ! (ty_array (elτ E) n) b o $ use1 𝓛 (‵ (row (R E) b o places.places)) (no_values E 𝓛 b n o) $
    flt_i ! (length places.places * s) (2 ^ 63) (subst (λ k. k * s < 2 ^ 63) (sym (length-replicate n None)) small) $ fjoin ! $
    use0 𝓛 (‵ (mark_own (mark_val ∷ []))) (mark_made 𝓛) $ fjoin ! $ move ! (1 ∷ []) $
    use0 𝓛 (‵ (mark_own (mark_val ∷ []))) (mark_made 𝓛) $ fjoin ! $ move ! (1 ∷ 0 ∷ []) $
    use0 𝓛 (‵ ((plainly (RawPtr ∷ [])).own_val (p, tt) (start_val p ∷ []))) (start_made 𝓛 p) $
    let answer : Three.Denot = (record { ptr = p }, places, title) in
    let told : Val = live 0 (vcons made vnil) in
    use3 𝓛 (‵ (Three.own_val answer (made ∷ []))) (triple_made 𝓛 (Sr E) (Pr E) Tr (record { ptr = p }) places title (start_val p) mark_val mark_val) $
    use1 𝓛 (‵ (Out.own_val (Ok answer) (told ∷ []))) (ok_of 𝓛 Three AE.the_row answer made) $
    let Given : Type 0 = IfOk {E = AE.the_row.Denot} (Ok answer) (λ r. (r.1.at ≡ r.0.ptr) × (r.1.places ≡ replicate n None) × (r.2.at ≡ r.0.ptr) × (r.2.len ≡ n) × (r.2.alloc ≡ h)) in
    use0 𝓛 (raw (fact 𝓤 Given)) (fact_i 𝓤 Given (emp 𝓤) (refl, refl, refl, refl, refl)) $
    nothing ! $ nothing ! $ fjoin ! $ nothing ! $ fjoin ! $ move ! (3 ∷ 0 ∷ 2 ∷ 1 ∷ []) $
    by ! (leaves 𝓛 ends stays c z told (Ok answer) (tt, (tt, tt)) (tt, (tt, tt))))
    (λ e. join ! $
    let Refusal : RattleType = Struct (Declared.shape AE.the_type) in
    let none : Val = live 1 (vcons (vstruct vnil) vnil) in
    lands_as ! e refl (Answer-typed false 0 0) $ first ! $ switches_on ! (get_tag ! (vrt ! refl (fld ! refl (stop !))) (whole !)) $
    exec ! C Λ En (arm_body 1 arms) (then_runs 𝓛 C Λ En (after 3 fn.body) (at_ret En Post)) $
    sets ! (of_opd ! (get_in ! (vrt ! refl (fld ! refl (stop !))) (in_variant ! 1 0 refl refl (whole !)))) refl (tt, tt) $
    sets_last ! (agg ! (and_then ! (lit ! tt) (and_then ! (get ! refl) (no_more !)))) refl (tt, (record { fits = lit< tt }, (tt, tt))) $
    exec ! C Λ En (after 3 fn.body) (at_ret En Post) $
    sets ! (of_opd ! (get ! refl)) refl (tt, (record { fits = lit< tt }, (tt, tt))) $
    returns ! (look_at ! 0 refl) $ free_all ! refl $
    owned_of ! Refusal (Is Refusal) (Struct-Makes 𝓛 (Declared.shape AE.the_type) tt) tt (vstruct vnil ∷ []) (tt, (refl, tt)) $
    use1 𝓛 (‵ (Out.own_val (Err (record {})) (none ∷ []))) (err_of 𝓛 Three AE.the_row (record {}) (vstruct vnil)) $
    use0 𝓛 (raw (fact 𝓤 (Unit {0}))) (fact_i 𝓤 (Unit {0}) (emp 𝓤) tt) $
    nothing ! $ nothing ! $ fjoin ! $ nothing ! $ fjoin ! $ move ! (3 ∷ 0 ∷ 2 ∷ 1 ∷ []) $
    by ! (leaves 𝓛 ends stays c z none (Err (record {})) (tt, (tt, tt)) (tt, (tt, tt)))))))))
