-- A list in pieces, and edits of one piece.
use Rattle.std.proofs.Common.{arith, ◌≡◌, ℕ, suc, zero, ◌+◌, ◌-◌, ◌<◌, ◌≤◌, List, [], ◌∷◌, ◌++◌, length, take, drop, get_or, set, map, refl, sym, ap, ◌∙◌, subst, length-append}
use Rattle.std.specs.List.{insert, remove, All}
use Rattle.std.proofs.lemmas.List.{length-set, map-set, set-get_or, set_split, append_assoc, append-nil, map-append, take-map, drop-map, get_or-map, length-map, length-drop, take-append-drop, length-take-le, take_at, drop_more}
use Rattle.std.proofs.lemmas.List.Edits.{insert-append_left, insert-append_right, remove-append_left, remove-append_right, length-insert}
use Rattle.std.proofs.lemmas.List.Concat.{flat_map-append, get_or-flat_map}
use Rattle.std.proofs.lemmas.List.Elements.{All-append, All-take, All-drop, All-cons}
use Rattle.dg_cells.specs.Pieces.{strung, nth_piece, numbers_before, IsPiece, IsHalved}

-- the piece n, and what stands before and behind it
pub around : (ps : List (List ℕ)) (n : ℕ) → n < length ps → ps ≡ take n ps ++ (nth_piece ps n ∷ drop (suc n) ps)
around ps n h =
    sym (take-append-drop n ps) ∙ ap (λ l. take n ps ++ l) (drop_more ps n [] h ∙ ap (λ k. nth_piece ps n ∷ drop k ps) add_one_is)
  where
    add_one_is : n + 1 ≡ suc n
    add_one_is = omega arith

pub strung_around : (a : List (List ℕ)) (p : List ℕ) (c : List (List ℕ)) → strung (a ++ (p ∷ c)) ≡ strung a ++ (p ++ strung c)
strung_around a p c = flat_map-append (λ (x : List ℕ). x) a (p ∷ c)

-- a piece in place of another
pub strung_set : (ps : List (List ℕ)) (n : ℕ) (q : List ℕ) → n < length ps → strung (set ps n q) ≡ strung (take n ps) ++ (q ++ strung (drop (suc n) ps))
strung_set ps n q h = ap strung (set_split ps n q h) ∙ strung_around (take n ps) q (drop (suc n) ps)

pub strung_is : (ps : List (List ℕ)) (n : ℕ) → n < length ps → strung ps ≡ strung (take n ps) ++ (nth_piece ps n ++ strung (drop (suc n) ps))
strung_is ps n h = ap strung (around ps n h) ∙ strung_around (take n ps) (nth_piece ps n) (drop (suc n) ps)

insert_mid : (a p c : List ℕ) (k n : ℕ) → k ≤ length p → a ++ (insert p k n ++ c) ≡ insert (a ++ (p ++ c)) (length a + k) n
insert_mid a p c k n h =
    let back : (length a + k) - length a ≡ k = omega arith in
    ap (λ l. a ++ l) (sym (insert-append_left p c k n h))
    ∙ ap (λ j. a ++ insert (p ++ c) j n) (sym back)
    ∙ sym (insert-append_right a (p ++ c) (length a) (length a + k) n refl (omega arith))

remove_mid : (a p c : List ℕ) (k : ℕ) → k < length p → a ++ (remove p k ++ c) ≡ remove (a ++ (p ++ c)) (length a + k)
remove_mid a p c k h =
    let back : (length a + k) - length a ≡ k = omega arith in
    ap (λ l. a ++ l) (sym (remove-append_left p c k h))
    ∙ ap (λ j. a ++ remove (p ++ c) j) (sym back)
    ∙ sym (remove-append_right a (p ++ c) (length a) (length a + k) refl (omega arith))

-- a number more in a piece
pub inserted : (ps : List (List ℕ)) (n k x : ℕ) → n < length ps → k ≤ length (nth_piece ps n) → strung (set ps n (insert (nth_piece ps n) k x)) ≡ insert (strung ps) (numbers_before ps n + k) x
inserted ps n k x h g =
    strung_set ps n (insert (nth_piece ps n) k x) h
    ∙ insert_mid (strung (take n ps)) (nth_piece ps n) (strung (drop (suc n) ps)) k x g
    ∙ ap (λ l. insert l (numbers_before ps n + k) x) (sym (strung_is ps n h))

-- a number less
pub removed : (ps : List (List ℕ)) (n k : ℕ) → n < length ps → k < length (nth_piece ps n) → strung (set ps n (remove (nth_piece ps n) k)) ≡ remove (strung ps) (numbers_before ps n + k)
removed ps n k h g =
    strung_set ps n (remove (nth_piece ps n) k) h
    ∙ remove_mid (strung (take n ps)) (nth_piece ps n) (strung (drop (suc n) ps)) k g
    ∙ ap (λ l. remove l (numbers_before ps n + k)) (sym (strung_is ps n h))

-- a piece of one number goes
pub piece_gone : (ps : List (List ℕ)) (n : ℕ) → n < length ps → length (nth_piece ps n) ≡ 1 → strung (remove ps n) ≡ remove (strung ps) (numbers_before ps n)
piece_gone ps n h g =
    let none : numbers_before ps n + 0 ≡ numbers_before ps n = omega arith in
    flat_map-append (λ (x : List ℕ). x) (take n ps) (drop (suc n) ps)
    ∙ ap (λ p. strung (take n ps) ++ (p ++ strung (drop (suc n) ps))) (sym (one (nth_piece ps n) g))
    ∙ remove_mid (strung (take n ps)) (nth_piece ps n) (strung (drop (suc n) ps)) 0 (omega arith)
    ∙ (λ t. remove (sym (strung_is ps n h) t) (none t))
  where
    one : (p : List ℕ) → length p ≡ 1 → remove p 0 ≡ []
    one [] e = cc
    one (x ∷ []) e = refl
    one (x ∷ y ∷ p) e = absurd (omega arith)

-- the pieces with one of them cut in two
abbrev pub halved : List (List ℕ) → ℕ → List (List ℕ)
halved ps n = set (insert ps (n + 1) (drop 512 (nth_piece ps n))) n (take 512 (nth_piece ps n))

halved_is : (ps : List (List ℕ)) (n : ℕ) → n < length ps → halved ps n ≡ take n ps ++ (take 512 (nth_piece ps n) ∷ (drop 512 (nth_piece ps n) ∷ drop (suc n) ps))
halved_is ps n h =
    let one : n + 1 ≡ suc n = omega arith in
    let tail = drop 512 (nth_piece ps n) in
    let q = take 512 (nth_piece ps n) in
    ap (λ k. set (insert ps k tail) n q) one
    ∙ ap (λ l. set (insert l (suc n) tail) n q) (around ps n h)
    ∙ at (take n ps) (nth_piece ps n) (drop (suc n) ps) n tail q (length-take-le n ps (omega arith))
  where
    at : (a : List (List ℕ)) (p : List ℕ) (c : List (List ℕ)) (m : ℕ) (t q : List ℕ) → length a ≡ m → set (insert (a ++ (p ∷ c)) (suc m) t) m q ≡ a ++ (q ∷ (t ∷ c))
    at [] p c m t q e = ap (λ k. set (insert (p ∷ c) (suc k) t) k q) (sym e)
    at (b ∷ a) p c zero t q e = cc
    at (b ∷ a) p c (suc m) t q e = ap (λ l. b ∷ l) (at a p c m t q (omega arith))

pub strung-halved : (ps : List (List ℕ)) (n : ℕ) → n < length ps → strung (halved ps n) ≡ strung ps
strung-halved ps n h =
    let p = nth_piece ps n in
    let c = strung (drop (suc n) ps) in
    ap strung (halved_is ps n h)
    ∙ strung_around (take n ps) (take 512 p) (drop 512 p ∷ drop (suc n) ps)
    ∙ ap (λ l. strung (take n ps) ++ l) (sym (append_assoc (take 512 p) (drop 512 p) c) ∙ ap (λ l. l ++ c) (take-append-drop 512 p))
    ∙ sym (strung_is ps n h)

-- the halves stand where the piece stood
pub first_half : (ps : List (List ℕ)) (n : ℕ) → n < length ps → (nth_piece (halved ps n) n ≡ take 512 (nth_piece ps n)) × (take n (halved ps n) ≡ take n ps)
first_half ps n h =
    let a = take n ps in
    let rest = drop 512 (nth_piece ps n) ∷ drop (suc n) ps in
    let len = length-take-le n ps (omega arith) in
    let is = halved_is ps n h in (
      ap (λ l. nth_piece l n) is ∙ at a (take 512 (nth_piece ps n)) rest n len,
      ap (take n) is ∙ take_at a (take 512 (nth_piece ps n) ∷ rest) n len,
    )
  where
    at : (a : List (List ℕ)) (p : List ℕ) (c : List (List ℕ)) (m : ℕ) → length a ≡ m → nth_piece (a ++ (p ∷ c)) m ≡ p
    at [] p c m e = ap (nth_piece (p ∷ c)) (sym e)
    at (b ∷ a) p c zero e = cc
    at (b ∷ a) p c (suc m) e = at a p c m (omega arith)

pub second_half : (ps : List (List ℕ)) (n : ℕ) → n < length ps → (nth_piece (halved ps n) (suc n) ≡ drop 512 (nth_piece ps n)) × (take (suc n) (halved ps n) ≡ take n ps ++ (take 512 (nth_piece ps n) ∷ []))
second_half ps n h =
    let a = take n ps in
    let is = halved_is ps n h in (
      ap (λ l. nth_piece l (suc n)) is ∙ at a (take 512 (nth_piece ps n)) (drop 512 (nth_piece ps n)) (drop (suc n) ps) n (length-take-le n ps (omega arith)),
      ap (take (suc n)) is ∙ front a (take 512 (nth_piece ps n)) (drop 512 (nth_piece ps n) ∷ drop (suc n) ps) n (length-take-le n ps (omega arith)),
    )
  where
    at : (a : List (List ℕ)) (p q : List ℕ) (c : List (List ℕ)) (m : ℕ) → length a ≡ m → nth_piece (a ++ (p ∷ (q ∷ c))) (suc m) ≡ q
    at [] p q c m e = ap (λ k. nth_piece (p ∷ (q ∷ c)) (suc k)) (sym e)
    at (b ∷ a) p q c zero e = cc
    at (b ∷ a) p q c (suc m) e = at a p q c m (omega arith)

    front : (a : List (List ℕ)) (p : List ℕ) (c : List (List ℕ)) (m : ℕ) → length a ≡ m → take (suc m) (a ++ (p ∷ c)) ≡ a ++ (p ∷ [])
    front [] p c m e = ap (λ k. take (suc k) (p ∷ c)) (sym e)
    front (b ∷ a) p c zero e = cc
    front (b ∷ a) p c (suc m) e = ap (λ l. b ∷ l) (front a p c m (omega arith))

pub before_second : (ps : List (List ℕ)) (n : ℕ) → n < length ps → 512 ≤ length (nth_piece ps n) → numbers_before (halved ps n) (suc n) ≡ numbers_before ps n + 512
before_second ps n h g =
    let q = take 512 (nth_piece ps n) in
    ap (λ l. length (strung l)) (second_half ps n h).1
    ∙ ap length (strung_around (take n ps) q [])
    ∙ length-append (strung (take n ps)) (q ++ [])
    ∙ ap (λ k. numbers_before ps n + k) (ap length (append-nil q) ∙ length-take-le 512 (nth_piece ps n) g)

pub map_insert : {A B : Type 0} (f : A → B) (l : List A) (i : ℕ) (x : A) → map f (insert l i x) ≡ insert (map f l) i (f x)
map_insert f l i x =
    map-append f (take i l) (x ∷ drop i l)
    ∙ (λ t. sym (take-map f i l) t ++ (f x ∷ sym (drop-map f i l) t))

pub map_remove : {A B : Type 0} (f : A → B) (l : List A) (i : ℕ) → map f (remove l i) ≡ remove (map f l) i
map_remove f l i =
    map-append f (take i l) (drop (suc i) l)
    ∙ (λ t. sym (take-map f i l) t ++ sym (drop-map f (suc i) l) t)

-- ---- pieces stay pieces

pub pieces_halved : (ps : List (List ℕ)) (n : ℕ) → n < length ps → length (nth_piece ps n) ≡ 1024 → All IsPiece ps → All IsPiece (halved ps n)
pieces_halved ps n h g all =
    let p = nth_piece ps n in
    let low : length (take 512 p) ≡ 512 = length-take-le 512 p (omega arith) in
    let high = length-drop 512 p in
    subst (All IsPiece) (sym (halved_is ps n h))
    (All-append IsPiece (take n ps) (take 512 p ∷ (drop 512 p ∷ drop (suc n) ps)) (All-take IsPiece n ps all)
    (All-cons IsPiece (take 512 p) (drop 512 p ∷ drop (suc n) ps) (record { some = omega arith; most = omega arith })
    (All-cons IsPiece (drop 512 p) (drop (suc n) ps) (record { some = omega arith; most = omega arith }) (All-drop IsPiece (suc n) ps all))))

pub pieces_removed : (ps : List (List ℕ)) (n : ℕ) → All IsPiece ps → All IsPiece (remove ps n)
pieces_removed ps n all = All-append IsPiece (take n ps) (drop (suc n) ps) (All-take IsPiece n ps all) (All-drop IsPiece (suc n) ps all)

-- a position has its number in the whole list
pub number_there : (ps : List (List ℕ)) (n k : ℕ) → n < length ps → k < length (nth_piece ps n) → (numbers_before ps n + k < length (strung ps)) × (get_or (strung ps) (numbers_before ps n + k) 0 ≡ get_or (nth_piece ps n) k 0)
number_there ps n k h g =
    let is = ap length (strung_is ps n h) in
    let a = length-append (strung (take n ps)) (nth_piece ps n ++ strung (drop (suc n) ps)) in
    let b = length-append (nth_piece ps n) (strung (drop (suc n) ps)) in
    (omega arith, get_or-flat_map (λ (x : List ℕ). x) ps n k [] 0 h g)

-- ---- pieces as the code has them

pub read_as : {A : Type 0} (f : A → List ℕ) (l : List A) (n : ℕ) (v : A) → n < length l → v ≡ get_or l n v → f v ≡ nth_piece (map f l) n
read_as f l n v h e = ap f e ∙ sym (get_or-map f l n v [] h)

pub written_as : {A : Type 0} (f : A → List ℕ) (l : List A) (n : ℕ) (v : A) (q : List ℕ) → f v ≡ q → map f (set l n v) ≡ set (map f l) n q
written_as f l n v q e = map-set f l n v ∙ ap (set (map f l) n) e

pub unwritten_as : {A : Type 0} (f : A → List ℕ) (l : List A) (n : ℕ) (v : A) → f v ≡ nth_piece (map f l) n → map f (set l n v) ≡ map f l
unwritten_as f l n v e = written_as f l n v (nth_piece (map f l) n) e ∙ set-get_or (map f l) n []

pub length_as : {A : Type 0} (f : A → List ℕ) (l : List A) (ps : List (List ℕ)) → map f l ≡ ps → length l ≡ length ps
length_as f l ps e = sym (length-map l f) ∙ ap length e

-- ---- a number that goes into one of two halves

pub is_halved : (ps new : List (List ℕ)) (n : ℕ) → n < length ps → length (nth_piece ps n) ≡ 1024 → new ≡ halved ps n → IsHalved ps new n
is_halved ps new n h g is =
    let p = nth_piece ps n in
    let low : length (take 512 p) ≡ 512 = length-take-le 512 p (omega arith) in
    let high = length-drop 512 p in
    let tail : length (drop 512 p) ≡ 512 = omega arith in
    let longer = length-insert ps (n + 1) (drop 512 p) (omega arith) in
    let one : n + 1 ≡ suc n = omega arith in
    let same_length = length-set (insert ps (n + 1) (drop 512 p)) n (take 512 p) in
    record {
      same = ap strung is ∙ strung-halved ps n h;
      more = ap length is ∙ same_length ∙ longer;
      first = ap (λ l. length (nth_piece l n)) is ∙ ap length (first_half ps n h).0 ∙ low;
      second = ap (λ l. length (nth_piece l (n + 1))) is ∙ ap (λ k. length (nth_piece (halved ps n) k)) one ∙ ap length (second_half ps n h).0 ∙ tail;
      before_first = ap (λ l. numbers_before l n) is ∙ ap (λ l. length (strung l)) (first_half ps n h).1;
      before_second = ap (λ l. numbers_before l (n + 1)) is ∙ ap (numbers_before (halved ps n)) one ∙ before_second ps n h (omega arith);
    }

pub cut_front : (l : List ℕ) (at end : ℕ) → at ≤ end → end ≤ length l → take at l ++ take (end - at) (drop at l) ≡ take end l
cut_front l zero end h g = let same : end - 0 ≡ end = omega arith in ap (λ k. take k l) same
cut_front [] (suc at) end h g = absurd (omega arith)
cut_front (x ∷ l) (suc at) zero h g = absurd (omega arith)
cut_front (x ∷ l) (suc at) (suc end) h g =
    let same : suc end - suc at ≡ end - at = omega arith in
    ap (λ k. x ∷ (take at l ++ take k (drop at l))) same ∙ ap (λ q. x ∷ q) (cut_front l at end (omega arith) (omega arith))

-- the numbers up to a position, and some more
pub strung_more : (ps new : List (List ℕ)) (l : List ℕ) (at end : ℕ) → strung ps ≡ take at l → at ≤ end → end ≤ length l → new ≡ ps ++ take (end - at) (drop at l) ∷ [] → strung new ≡ take end l
strung_more ps new l at end e low high is =
    let part = take (end - at) (drop at l) in
    ap strung is
    ∙ flat_map-append (λ (x : List ℕ). x) ps (part ∷ [])
    ∙ (λ t. e t ++ append-nil part t)
    ∙ cut_front l at end low high
