-- `free` makes room of the places, and hands it back with the right to it.
use mathlib.Core.Path.{◌≡◌, refl, sym, ap, subst, ◌∙◌}
use Prim.Native.Nat.{ℕ, ◌*◌, ◌<◌, ◌^◌}
use native.Mathlib.Omega.{arith}
use mathlib.Core.List.{List, [], ◌∷◌, ◌++◌}
use lib.ListN.{length}
use base.Logic.{SProp, never, id⊢}
use base.Fml.{Lft, Share, ftrue, froom, flft}
use mir.Syntax.{Ty, Fn, w64, ty_unit, ty_array}
use mir.MapTy.{inst_fn}
use mir.Val.{Val, vptr, vint, vunit}
use prog.Memory.{align, capped}
use prog.Capped.{capped_fits}
use prog.Wp.{Env, WpFn}
use contract.BorrowLft.{◌⊑◌, ⊑_trans}
use contract.Monad.{fact}
use contract.Running.{tables}
use types.Kit.{‵, raw, ◌⊛◌, given, later, prop, at_ret, ◌$◌, ◌∵◌, !, qed, by, move, keep, drop, use1, split, split3, join, group, learn, rewrite, regoal, fsplit, fjoin, feq_i, flt_l, await}
use types.Part.{whole, sub}
use types.Run.{stop, fld, bin, size_word, align_word, unit_lit, of_opd, and_then, no_more, first, blocks, exec, returns, enter}
use types.ByLocal.{alloc_all, pass_all, free_all, look_at, get, get_in, sets, lands_last, is, env}
use denote.RattleType.{owns}
use denote.RawPtr.{Ptr, block_ptr, in_a_block}
use denote.Signature.{types_at}
use denote.Steps.{nothing, heard}
use denote.Triple.Call.{calls_at_last}
use denote.Triple.Walked.{Stays, stay_dropped, walk_of, Goes-dropped}
use Rattle.core.proofs.alloc.Calls.{Al, seen, token, Goes-blank, Gives, at_gives, Gives-goes, Gives-Gives}
use Rattle.core.proofs.alloc.Shapes.{after}
use Rattle.core.proofs.atomic.Steps.{fm}
use Rattle.core.proofs.mem.Param.{El, R, elτ}
use Rattle.core.proofs.slots.Leases.{uncapped, block_ty, block_size, block_align, args}
use Rattle.std.proofs.raw_atomic.Walks.{proved_at, leaves}
use Rattle.std_alloc.proofs.RawLayout.{as_raw}
use Rattle.std_alloc.proofs.RcSteps.{Good, word-Good}
use Rattle.dg_arena.specs.Memory.{owned, titled}
use Rattle.dg_arena.proofs.Blocks.{size, all_emptied}
use Rattle.dg_arena.proofs.Walks.{slot_at, Pr, start_val, start_told, mark_val, mark_told}
use Rattle.dg_arena.specs.contracts.raw.free.{ended, clauses}
use Rattle.dg_arena.specs.contracts.raw.free.Key.{name as #self}
use Rattle.dg_arena.proofs.raw.free.Statement.{statement}
use Rattle.dg_arena.proofs.raw.free.Code as compiled

pub free_spec : {M : Type 1} → statement M
free_spec 𝓤 𝓛 𝓜 𝓡 wired T A L LA g d dd met md =
    let H = 𝓛.H in
    let E : El = record { row = T; laws = L } in
    let Z : Al = record { row = A; laws = LA; g = g; d = d; drops = dd } in
    let ends = ended T A g d dd in
    let c = clauses T A g d dd 𝓛 𝓜.mem 𝓡.returns in
    let fn : Fn = inst_fn (args E Z) compiled.function in
    let ps = ends.signature.params in
    let stays : Stays ps ends.kept =
    (stay_dropped (slot_at 0 ps) ends.kept.0, (stay_dropped (slot_at 1 ps) ends.kept.1.0, (stay_dropped (slot_at 2 ps) ends.kept.1.1.0, (stay_dropped (slot_at 3 ps) ends.kept.1.1.1.0, (stay_dropped (slot_at 4 ps) ends.kept.1.1.1.1.0, tt))))) in
    let C = (tables 𝓤 H 𝓜 𝓡 𝓡.env).C in
    let Λ = (tables 𝓤 H 𝓜 𝓡 𝓡.env).Λ in
    proved_at 𝓛 ends stays c 𝓜 𝓡 (
      Goes-dropped 𝓛 3 (slot_at 0 ps) ends.kept.0 (λ κs x f. refl),
      (
        Goes-dropped 𝓛 3 (slot_at 1 ps) ends.kept.1.0 (λ κs x f. refl),
        (
          Goes-dropped 𝓛 3 (slot_at 2 ps) ends.kept.1.1.0 (λ κs x f. refl),
          (Goes-blank 𝓛 3 (slot_at 3 ps) ends.kept.1.1.1.0 (λ κs x f. tt), (Goes-blank 𝓛 3 (slot_at 4 ps) ends.kept.1.1.1.1.0 (λ κs x f. tt), tt)),
        ),
      ),
    )
    (#self (args E Z)) fn (compiled.unfolded 𝓤 H 𝓜 𝓡 wired (T, (A, tt)) d dd) (λ z are.
    let Post : Val → SProp 𝓤 = (walk_of 𝓛 ends stays c).post z in
    let a = z.0.3 in
    let vss = z.0.4 in
    let κ : Lft = z.0.0.0 in
    let q : Share = z.0.1.0 in
    let κA : Lft = z.0.0.1.1.0 in
    let handle = a.0.ref_ptr in
    let h : A.Denot = a.0.now in
    let start = a.1.0 in
    let n : ℕ = a.1.1.0 in
    let places : (Pr E).Denot = a.1.1.1.0 in
    let title = a.1.1.1.1.0 in
    let fits = are.1.1.0.1 in
    let s : ℕ = size E in
    let al : ℕ = capped (align (elτ E)) in
    let τ : Ty = block_ty E n in
    let Asked : Type 0 = (places.at ≡ start.ptr) × (length places.places ≡ n) × (title.at ≡ start.ptr) × (title.len ≡ n) × (title.alloc ≡ h) in
    qed 𝓛 (((‵ (flft κ q) ⊛ ‵ (flft z.0.0.1.0 z.0.1.1.0) ⊛ ‵ (flft κA z.0.1.1.1.0) ⊛ ‵ ftrue) ⊛ ‵ (owns (types_at ps z.0.0) a vss))
    ∷ (raw (fact 𝓤 (z.0.0.1.0 ⊑ T.lives)) ⊛ raw (fact 𝓤 (κA ⊑ A.lives)) ⊛ raw (fact 𝓤 Asked)) ∷ []) ∵
    move ! (1 ∷ []) $ split3 ! $ drop ! $ heard ! (κA ⊑ A.lives) (λ lives. heard ! Asked (λ asked. split ! $ split ! $ move ! (2 ∷ []) $
    fsplit ! $ fsplit ! $ drop ! $ use1 𝓛 (‵ (seen Z κ handle h)) (id⊢ 𝓤 _) $
    move ! (1 ∷ []) $ fsplit ! $ drop ! $ fsplit ! $ drop ! $ fsplit ! $ fsplit ! $ drop ! $
    -- [the places; the rest]
    rewrite ! 0 (λ (p : Ptr). ‵ (owned (R E) p places.places)) asked.0 refl $
    in_a_block ! start.ptr (λ p. owned (R E) p places.places) (id⊢ 𝓤 (never 𝓤)) (λ b o at. fsplit ! $ flt_l ! (λ fit.
    let small : n * s < 2 ^ 63 = subst (λ k. k * s < 2 ^ 63) asked.1 fit in
    let bytes : n * s < 2 ^ 64 = omega arith in
    move ! (1 ∷ []) $ fsplit ! $ fsplit ! $ drop ! $
    rewrite ! 0 (λ (t : A.Denot × Ptr × ℕ). ‵ (titled (R E) (token Z t.0) t.1 t.2)) (λ i. (asked.4 i, (asked.2 ∙ at) i, asked.3 i)) refl $
    -- [the places; the right to the block; the allocator, lent; its token; the other tokens]
    keep ! (2 ∷ 0 ∷ 3 ∷ 4 ∷ 5 ∷ []) $
    use1 𝓛 (‵ (froom (ty_array (elτ E) (length places.places)) b o)) (all_emptied E 𝓛 b places.places o) $
    rewrite ! 0 (λ (k : ℕ). ‵ (froom (ty_array (elτ E) k) b o)) asked.1 refl $ as_raw ! (ty_array (elτ E) n) b o $
    let y = at_gives Z 𝓛 𝓜.mem 𝓡.returns κ q handle h b o (n * s) al τ in
    let told = start_told start.ptr vss.1.0 are.1.0 ∙ ap (λ (p : Ptr). start_val p ∷ []) at in
    let no_places = mark_told vss.1.1.1.0 are.1.1.1.0.0 in
    let no_title = mark_told vss.1.1.1.1.0 are.1.1.1.1.0.0 in
    let args' : List Val = vptr handle.0 handle.1 ∷ start_val (block_ptr b o) ∷ vint w64 n ∷ mark_val ∷ mark_val ∷ [] in
    regoal ! (λ (us : List Val). prop (WpFn 𝓤 H C Λ fn us Post)) (λ i. are.0.0 i ++ (told i ++ (are.1.1.0.0 i ++ (no_places i ++ (no_title i ++ []))))) refl $
    enter ! C Λ fn args' Post $
    alloc_all ! (λ l. pass_all ! refl ((tt, tt), (word-Good [] (block_ptr b o), ((tt, record { fits = fits }), ((tt, (tt, tt)), ((tt, (tt, tt)), tt))))) $
    let En : Env 𝓤 H = env fn.locals l in
    let whole_size = uncapped n s bytes in
    first ! $ blocks ! $
    sets ! (of_opd ! (get_in ! (fld ! refl (stop !)) (sub ! 0 refl (whole !)))) refl (tt, tt) $
    sets ! (is ! (bin ! (get ! refl) (size_word !) (record { fits = subst (λ (k : ℕ). k < 2 ^ 64) (sym whole_size) bytes })) (ap (vint w64) whole_size)) refl (tt, record { fits = bytes }) $
    group ! 4 $ use1 𝓛 (raw ((Gives Z 𝓛 𝓜.mem 𝓡.returns).pre y))
    (Gives-goes Z 𝓛 𝓜.mem 𝓡.returns κ q handle h (⊑_trans κ κA A.lives z.0.2.0 lives) b o (n * s) al τ (block_size E n bytes) (block_align E n) bytes (capped_fits (align (elτ E)))) $
    calls_at_last ! (fm 𝓛 𝓜 𝓡) (Gives Z 𝓛 𝓜.mem 𝓡.returns) (met.deallocate dd) y (and_then ! (get ! refl) (and_then ! (get ! refl) (and_then ! (get ! refl) (and_then ! (align_word !) (no_more !))))) (λ v.
    use1 𝓛 (later (given (v ≡ vunit) (‵ (flft κ q)))) (Gives-Gives Z 𝓛 𝓜.mem 𝓡.returns κ q handle h b o (n * s) al τ v) $ await ! tt $ learn ! (λ gone.
    lands_last ! refl (subst (Good ty_unit) (sym gone) (tt, tt)) $
    exec ! C Λ En (after 1 fn.body) (at_ret En Post) $
    sets ! (of_opd ! (unit_lit !)) refl (tt, tt) $
    returns ! (look_at ! 0 refl) $ free_all ! refl $ keep ! (0 ∷ 1 ∷ []) $ join ! $
    feq_i ! (List Val) (vunit ∷ []) (vunit ∷ []) refl $ nothing ! $
    nothing ! $ nothing ! $ fjoin ! $ nothing ! $ fjoin ! $ nothing ! $ fjoin ! $ nothing ! $ fjoin ! $ nothing ! $ fjoin ! $ move ! (3 ∷ 0 ∷ 2 ∷ 1 ∷ []) $
    by ! (leaves 𝓛 ends stays c z vunit tt (tt, (tt, (tt, (tt, (tt, tt))))) (tt, (tt, (tt, (tt, (tt, tt))))))))))))))
