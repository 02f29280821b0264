-- What the bytes taken say of the end of a run.
use Rattle.std.proofs.Common.{◌≡◌, ℕ, ◌<◌, false, IsTrue, List, [], Option, Some, None, IfSome, length, sym, ap, subst, arith, length-append}
use Rattle.dg_io.specs.Frame.{Advances}
use Rattle.dg_io.specs.Told.{Gives, IsAtEnd}
use Rattle.dg_io.specs.LinesState.{LinesState}

short_of : (bytes : List ℕ) (limit : ℕ) (start left : Option (List ℕ)) → Gives start bytes left → IsAtEnd left → length bytes < limit
    → IfSome start (λ script. length script < limit)
short_of bytes limit start None gives end less = subst (λ (o : Option (List ℕ)). IfSome o (λ script. length script < limit)) (sym gives) tt
short_of bytes limit start (Some xs) gives end less =
    subst (λ (o : Option (List ℕ)). IfSome o (λ script. length script < limit)) (sym gives)
    (let none : length xs ≡ 0 = ap length end in omega (arith, none, length-append bytes xs))

-- Where a read has given the end of input, the source had fewer bytes than the limit.
pub done_within : (limit : ℕ) (start now : LinesState) (left rest : Option (List ℕ)) (f g : ℕ) → Advances start left f now rest g
    → start ≡ record { held = []; long = false; ended = false; taken = 0; limit = limit; text = [] } → IsTrue now.ended
    → IfSome left (λ script. length script < limit)
done_within limit start now left rest f g advances is ended =
    let none : start.taken ≡ 0 = ap (λ (r : LinesState). r.taken) is in
    let unended : start.ended ≡ false = ap (λ (r : LinesState). r.ended) is in
    let same : start.limit ≡ limit = ap (λ (r : LinesState). r.limit) is in
    let not_yet : IsTrue start.ended → ⊥ = λ said. cc in
    let at_end : IsAtEnd rest = advances.at_end (λ said. absurd (not_yet said)) ended in
    let less : now.taken < now.limit = advances.within (λ said. absurd (not_yet said)) ended in
    let taken = advances.taken in
    short_of taken.0 limit left rest taken.1 at_end (omega (arith, taken.2, advances.same_limit, none, same, less))

-- Where as many bytes as the limit were taken, the source had them.
pub limit_taken : (limit : ℕ) (start now : LinesState) (left rest : Option (List ℕ)) (f g : ℕ) → Advances start left f now rest g
    → start ≡ record { held = []; long = false; ended = false; taken = 0; limit = limit; text = [] } → now.taken ≡ now.limit
    → (taken : List ℕ) × Gives left taken rest × (length taken ≡ limit)
limit_taken limit start now left rest f g advances is full =
    let none : start.taken ≡ 0 = ap (λ (r : LinesState). r.taken) is in
    let same : start.limit ≡ limit = ap (λ (r : LinesState). r.limit) is in
    let taken = advances.taken in (taken.0, taken.1, omega (arith, taken.2, advances.same_limit, none, same, full))
