-- What stays true over several calls that take lines, and while bytes are read for the next line.
use Rattle.std.proofs.Common.{◌≡◌, ℕ, ◌+◌, Option, List, [], ◌++◌, length, None, Some, Result, Ok, Err, OnErr, refl, sym, ap, ◌∙◌, subst, arith, append_assoc, length-append}
use Rattle.std.specs.Option.{option_map}
use Rattle.dg_io.specs.Told.{Gives}
use Rattle.dg_io.specs.LinesState.{LinesState, told, ahead, NeedsByte, TookNone}
use Rattle.dg_io.specs.Frame.{Advances}

pub gives_nothing : (had : Option (List ℕ)) → Gives had [] had
gives_nothing None = refl
gives_nothing (Some bytes) = refl

pub gives_more : (had mid has : Option (List ℕ)) (xs ys : List ℕ) → Gives had xs mid → Gives mid ys has → Gives had (xs ++ ys) has
gives_more had mid has xs ys p q = p ∙ ap (option_map (λ rest. xs ++ rest)) q ∙ both has
  where
    both : (has : Option (List ℕ)) → option_map (λ rest. xs ++ rest) (option_map (λ rest. ys ++ rest) has) ≡ option_map (λ rest. (xs ++ ys) ++ rest) has
    both None = refl
    both (Some rest) = ap Some (sym (append_assoc xs ys rest))

-- the bytes of two stretches of reads, one after the other
pub taken_more : (had mid has : Option (List ℕ)) (at now next : ℕ) → (xs : List ℕ) × Gives had xs mid × (now ≡ at + length xs) → (ys : List ℕ) × Gives mid ys has × (next ≡ now + length ys)
    → (bytes : List ℕ) × Gives had bytes has × (next ≡ at + length bytes)
taken_more had mid has at now next p q =
    (p.0 ++ q.0, gives_more had mid has p.0 q.0 p.1 q.1, omega (arith, p.2, q.2, length-append p.0 q.0))

-- what was taken, and then what was taken while a byte was needed
pub took_more : (first now next : LinesState) (had mid has : Option (List ℕ)) → NeedsByte now → TookNone first had now mid → TookNone now mid next has → TookNone first had next has
took_more first now next had mid has needs p q = (
  p.0 ++ q.0,
  gives_more had mid has p.0 q.0 p.1 q.1,
  omega (arith, p.2, q.2, length-append p.0 q.0),
  λ more ended. ap (ahead first) (append_assoc p.0 q.0 more) ∙ p.3 (q.0 ++ more) (λ now_ended. absurd (let e = needs.0 in cc)) ∙ q.3 more ended,
)

pub on_err : {T E : Type 0} (r : Result T E) (P : Type 0) → P → OnErr r P
on_err (Ok t) P p = tt
on_err (Err e) P p = p

-- no call
pub advances_none : (lines : LinesState) (left : Option (List ℕ)) (faults : ℕ) → Advances lines left faults lines left faults
advances_none lines left faults = record {
  kept = omega arith;
  taken = ([], gives_nothing left, omega arith);
  at_end = λ at. at;
  ended = λ was. was;
  within = λ was. was;
  same_limit = refl;
  counted = omega arith;
}

-- some calls, and then some more
pub advances_both : (first mid last : LinesState) (had left has : Option (List ℕ)) (faults_first faults_mid faults_last : ℕ) → Advances first had faults_first mid left faults_mid → Advances mid left faults_mid last has faults_last
    → Advances first had faults_first last has faults_last
advances_both first mid last had left has faults_first faults_mid faults_last p q = record {
  kept = omega (arith, p.kept, q.kept);
  taken = taken_more had left has first.taken mid.taken last.taken p.taken q.taken;
  at_end = λ at. q.at_end (p.at_end at);
  ended = λ was. q.ended (p.ended was);
  within = λ was. q.within (p.within was);
  same_limit = q.same_limit ∙ p.same_limit;
  counted = omega (arith, p.counted, q.counted);
}

-- from the first state of the lines and the source to those now
pub record Going (first now : LinesState) (had has : Option (List ℕ)) (faults_first faults_now : ℕ) : Type 0 where
  pub same : told first had ≡ told now has
  pub took : TookNone first had now has
  pub advances : Advances first had faults_first now has faults_now
  pub due : first.taken ≡ first.limit → NeedsByte first → now ≡ first
  pub quiet : (NeedsByte first → ⊥) → (now ≡ first) × (has ≡ had) × (faults_now ≡ faults_first)

pub going_first : (first : LinesState) (had : Option (List ℕ)) (faults : ℕ) → Going first first had had faults faults
going_first first had faults = record {
  same = refl;
  took = ([], gives_nothing had, omega arith, λ more ended. refl);
  advances = advances_none first had faults;
  due = λ _ _. refl;
  quiet = λ _. (refl, refl, refl);
}

-- a read where a byte was needed, and the limit was not reached
pub going_more : (first now next : LinesState) (had mid has : Option (List ℕ)) (faults_first faults_now faults_next : ℕ) → Going first now had mid faults_first faults_now
    → NeedsByte now → (now.taken ≡ now.limit → ⊥) → told now mid ≡ told next has → TookNone now mid next has → Advances now mid faults_now next has faults_next
    → Going first next had has faults_first faults_next
going_more first now next had mid has faults_first faults_now faults_next going needs below same took more = record {
  same = going.same ∙ same;
  took = took_more first now next had mid has needs going.took took;
  advances = advances_both first now next had mid has faults_first faults_now faults_next going.advances more;
  due = λ full needed. absurd (below (subst (λ (r : LinesState). r.taken ≡ r.limit) (sym (going.due full needed)) full));
  quiet = λ ready. absurd (ready (subst NeedsByte (going.quiet ready).0 needs));
}
