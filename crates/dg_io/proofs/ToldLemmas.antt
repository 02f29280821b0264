-- What a sink has after two pieces, one after the other.
use Rattle.std.proofs.Common.{◌≡◌, ℕ, ◌+◌, ◌-◌, Option, List, [], ◌++◌, length, take, drop, None, Some, refl, sym, ap, ◌∙◌, arith, append_assoc, append-nil, length-append}
use Rattle.std.proofs.Math.Seq.{take-add, take-append-add}
use Rattle.std.proofs.lemmas.List.{take-append-le, take_rest}
use Rattle.dg_io.specs.Told.{grown, GrowsByPart}

pub grown_nothing : (old : Option (List ℕ)) → grown old [] ≡ old
grown_nothing None = refl
grown_nothing (Some front) = ap Some (append-nil front)

pub grown_both : (old : Option (List ℕ)) (xs ys : List ℕ) → grown (grown old xs) ys ≡ grown old (xs ++ ys)
grown_both None xs ys = refl
grown_both (Some front) xs ys = ap Some (append_assoc front xs ys)

-- a first piece and a second, both written
pub both_pieces : (old mid new : Option (List ℕ)) (xs ys : List ℕ) → mid ≡ grown old xs → new ≡ grown mid ys → new ≡ grown old (xs ++ ys)
both_pieces old mid new xs ys p q = q ∙ ap (λ (o : Option (List ℕ)). grown o ys) p ∙ grown_both old xs ys

-- a first piece of which a part was written, and nothing of the second, which has bytes or none
pub part_first : (old new : Option (List ℕ)) (xs ys : List ℕ) → GrowsByPart old xs new → GrowsByPart old (xs ++ ys) new
part_first old new xs ys p =
    (p.0, omega (arith, p.1, length-append xs ys), p.2 ∙ ap (grown old) (sym (take-append-le p.0 xs ys (omega (arith, p.1)))))

-- a first piece, and a part of the second
pub part_second : (old mid new : Option (List ℕ)) (xs ys : List ℕ) → mid ≡ grown old xs → GrowsByPart mid ys new → GrowsByPart old (xs ++ ys) new
part_second old mid new xs ys p q =
    (length xs + q.0, omega (arith, q.1, length-append xs ys), both_pieces old mid new xs (take q.0 ys) p q.2 ∙ ap (grown old) (sym (take-append-add xs ys q.0)))

-- the next c elements of a list, behind its first n
pub take_next : (n c : ℕ) (xs : List ℕ) → take n xs ++ take c (take (length xs - n) (drop n xs)) ≡ take (n + c) xs
take_next n c xs = ap (λ l. take n xs ++ take c l) (take_rest xs n) ∙ sym (take-add n c xs)
