-- Expressions: how many they are, their instants, and their truth over the places of instants.
use Rattle.std.proofs.Common.{◌≡◌, ℕ, suc, zero, ◌+◌, ◌<◌, ◌≤◌, Bool, true, false, cond, not, ◌||◌, ◌&&◌, List, [], ◌∷◌, ◌++◌, length, map, filter, take, drop, set, get_or, nat_eq, nat_le, refl, sym, ap, ◌∙◌, subst, IsTrue, arith}
use Rattle.std.specs.List.{AllByRecursion, list_any}
use Rattle.std.proofs.lemmas.Bool.{true≢false, false≢true, eqb-true, eq-eqb, or_left, or_right, leb-true}
use Rattle.std.proofs.lemmas.List.{drop_more, drop_all, take_more, take_all, length-append, length-map, length-take, append-nil, append_assoc, set_at, map_more}
use Rattle.dg_graph.specs.declared.element.Element.{Element}
use Rattle.dg_graph.specs.Elements.{has}
use Rattle.dg_expr.specs.declared.expression.Word.{Word}
use Rattle.dg_expr.specs.declared.expression.Word.TheVariants as word
use Rattle.dg_expr.specs.Expressions.{are_expressions, times_in, distinct, instants_of, is_expression}
use Rattle.dg_expr.specs.Chosen.{negated, joined, truths, first_of, holds, all_of, chosen}
use Rattle.dg_expr.specs.Rests.{true_at, place_of, placed_word, is_chosen, selected, added}

both : (a b : Bool) → (a && b) ≡ true → (a ≡ true) × (b ≡ true)
both true b e = (refl, e)
both false b e = absurd (false≢true e)

-- ---- how many

joined_length : (f : Bool → Bool → Bool) (bs : List Bool) (n : ℕ) → length bs ≡ suc (suc n) → length (joined f bs) ≡ suc n
joined_length f [] n e = absurd (omega (arith, e))
joined_length f (a ∷ []) n e = absurd (omega (arith, e))
joined_length f (a ∷ b ∷ bs) n e = omega (arith, e)

negated_length : (bs : List Bool) → length (negated bs) ≡ length bs
negated_length [] = refl
negated_length (b ∷ bs) = refl

-- expressions have a truth each
pub truths_length : (at : ℕ → Bool) (n : ℕ) (ws : List Word) → are_expressions n ws ≡ true → length (truths at ws) ≡ n
truths_length at zero [] e = refl
truths_length at zero (w ∷ ws) e = absurd (false≢true e)
truths_length at (suc n) [] e = absurd (false≢true e)
truths_length at (suc n) (word.Time t ∷ ws) e = ap suc (truths_length at n ws e)
truths_length at (suc n) (word.Not ∷ ws) e = negated_length (truths at ws) ∙ truths_length at (suc n) ws e
truths_length at (suc n) (word.And ∷ ws) e = joined_length (λ a b. a && b) (truths at ws) n (truths_length at (suc (suc n)) ws e)
truths_length at (suc n) (word.Or ∷ ws) e = joined_length (λ a b. a || b) (truths at ws) n (truths_length at (suc (suc n)) ws e)

pub are_placed : (ts : List ℕ) (n : ℕ) (ws : List Word) → are_expressions n (map (placed_word ts) ws) ≡ are_expressions n ws
are_placed ts zero [] = refl
are_placed ts zero (w ∷ ws) = refl
are_placed ts (suc n) [] = refl
are_placed ts (suc n) (word.Time t ∷ ws) = are_placed ts n ws
are_placed ts (suc n) (word.Not ∷ ws) = are_placed ts (suc n) ws
are_placed ts (suc n) (word.And ∷ ws) = are_placed ts (suc (suc n)) ws
are_placed ts (suc n) (word.Or ∷ ws) = are_placed ts (suc (suc n)) ws

-- ---- distinct instants

abbrev is : ℕ → ℕ → Bool
is t u = nat_eq u t

other_stays : (t u : ℕ) (ts : List ℕ) → nat_eq u t ≡ false → list_any (is t) (filter (λ v. not (nat_eq v u)) ts) ≡ list_any (is t) ts
other_stays t u [] e = refl
other_stays t u (v ∷ ts) e = by (nat_eq v u) refl (other_stays t u ts e)
  where
    by : (b : Bool) → nat_eq v u ≡ b → list_any (is t) (filter (λ v. not (nat_eq v u)) ts) ≡ list_any (is t) ts
        → list_any (is t) (cond (not b) (v ∷ filter (λ v. not (nat_eq v u)) ts) (filter (λ v. not (nat_eq v u)) ts)) ≡ (nat_eq v t || list_any (is t) ts)
    by true same rest =
        let at = eqb-true v u same in
        rest ∙ sym (ap (λ w. nat_eq w t || list_any (is t) ts) at ∙ ap (λ b. b || list_any (is t) ts) e)
    by false same rest = ap (λ b. nat_eq v t || b) rest

pub distinct_has : (t : ℕ) (ts : List ℕ) → list_any (is t) (distinct ts) ≡ list_any (is t) ts
distinct_has t [] = refl
distinct_has t (u ∷ ts) = by (nat_eq u t) refl (distinct_has t ts)
  where
    by : (b : Bool) → nat_eq u t ≡ b → list_any (is t) (distinct ts) ≡ list_any (is t) ts
        → (b || list_any (is t) (filter (λ v. not (nat_eq v u)) (distinct ts))) ≡ (b || list_any (is t) ts)
    by true e rest = refl
    by false e rest = other_stays t u (distinct ts) e ∙ rest

filter_push : (p : ℕ → Bool) (xs : List ℕ) (y : ℕ) → filter p (xs ++ y ∷ []) ≡ cond (p y) (filter p xs ++ y ∷ []) (filter p xs)
filter_push p [] y = refl
filter_push p (x ∷ xs) y = by (p x) (p y) (filter_push p xs y)
  where
    by : (b c : Bool) → filter p (xs ++ y ∷ []) ≡ cond c (filter p xs ++ y ∷ []) (filter p xs)
        → cond b (x ∷ filter p (xs ++ y ∷ [])) (filter p (xs ++ y ∷ [])) ≡ cond c (cond b (x ∷ filter p xs) (filter p xs) ++ y ∷ []) (cond b (x ∷ filter p xs) (filter p xs))
    by true true e = ap (λ l. x ∷ l) e
    by true false e = ap (λ l. x ∷ l) e
    by false true e = e
    by false false e = e

-- an instant more is one more, unless it is among them
pub distinct_push : (t : ℕ) (ts : List ℕ) → distinct (ts ++ t ∷ []) ≡ cond (list_any (is t) (distinct ts)) (distinct ts) (distinct ts ++ t ∷ [])
distinct_push t [] = refl
distinct_push t (u ∷ ts) = by (nat_eq u t) refl (list_any (is t) (distinct ts)) refl (distinct_push t ts)
  where
    p : ℕ → Bool
    p v = not (nat_eq v u)

    by : (b : Bool) → nat_eq u t ≡ b → (c : Bool) → list_any (is t) (distinct ts) ≡ c
        → distinct (ts ++ t ∷ []) ≡ cond (list_any (is t) (distinct ts)) (distinct ts) (distinct ts ++ t ∷ [])
        → u ∷ filter (λ v. not (nat_eq v u)) (distinct (ts ++ t ∷ []))
        ≡ cond (b || list_any (is t) (filter (λ v. not (nat_eq v u)) (distinct ts))) (u ∷ filter (λ v. not (nat_eq v u)) (distinct ts)) (u ∷ filter (λ v. not (nat_eq v u)) (distinct ts) ++ t ∷ [])
    by true e true f rest =
        ap (λ l. u ∷ filter p l) (rest ∙ ap (λ c. cond c (distinct ts) (distinct ts ++ t ∷ [])) f)
    by true e false f rest =
        let at : nat_eq t u ≡ true = eq-eqb t u (sym (eqb-true u t e)) in
        ap (λ l. u ∷ filter p l) (rest ∙ ap (λ c. cond c (distinct ts) (distinct ts ++ t ∷ [])) f)
        ∙ ap (λ l. u ∷ l) (filter_push p (distinct ts) t ∙ ap (λ c. cond (not c) (filter p (distinct ts) ++ t ∷ []) (filter p (distinct ts))) at)
    by false e true f rest =
        ap (λ l. u ∷ filter p l) (rest ∙ ap (λ c. cond c (distinct ts) (distinct ts ++ t ∷ [])) f)
        ∙ sym (ap (λ c. cond c (u ∷ filter p (distinct ts)) (u ∷ filter p (distinct ts) ++ t ∷ [])) (other_stays t u (distinct ts) e ∙ f))
    by false e false f rest =
        ap (λ l. u ∷ filter p l) (rest ∙ ap (λ c. cond c (distinct ts) (distinct ts ++ t ∷ [])) f)
        ∙ ap (λ l. u ∷ l) (filter_push p (distinct ts) t ∙ ap (λ c. cond (not c) (filter p (distinct ts) ++ t ∷ []) (filter p (distinct ts))) (apart (nat_eq t u) refl))
        ∙ sym (ap (λ c. cond c (u ∷ filter p (distinct ts)) (u ∷ filter p (distinct ts) ++ t ∷ [])) (other_stays t u (distinct ts) e ∙ f))
      where
        apart : (b : Bool) → nat_eq t u ≡ b → nat_eq t u ≡ false
        apart true g = absurd (true≢false (sym (eq-eqb u t (sym (eqb-true t u g))) ∙ e))
        apart false g = g

pub times_push : (ws : List Word) (w : Word) → times_in (ws ++ w ∷ []) ≡ times_in ws ++ times_in (w ∷ [])
times_push [] w = refl
times_push (word.Time t ∷ ws) w = ap (λ l. t ∷ l) (times_push ws w)
times_push (word.Not ∷ ws) w = times_push ws w
times_push (word.And ∷ ws) w = times_push ws w
times_push (word.Or ∷ ws) w = times_push ws w

-- ---- truth over places

place_in : (graph : ℕ → List Element) (x : Element) (t : ℕ) (ts : List ℕ) → list_any (is t) ts ≡ true
    → true_at (map (λ set. has set x) (map graph ts)) (place_of t ts) ≡ has (graph t) x
place_in graph x t [] e = absurd (false≢true e)
place_in graph x t (u ∷ ts) e = by (nat_eq u t) refl (λ later. place_in graph x t ts later)
  where
    by : (b : Bool) → nat_eq u t ≡ b
        → (list_any (is t) ts ≡ true → true_at (map (λ set. has set x) (map graph ts)) (place_of t ts) ≡ has (graph t) x)
        → true_at (has (graph u) x ∷ map (λ set. has set x) (map graph ts)) (cond b 0 (suc (place_of t ts))) ≡ has (graph t) x
    by true f rest = ap (λ v. has (graph v) x) (eqb-true u t f)
    by false f rest = rest (sym (ap (λ b. b || list_any (is t) ts) f) ∙ e)

every : (P : ℕ → Type 0) (ts : List ℕ) → ((t : ℕ) → list_any (is t) ts ≡ true → P t) → AllByRecursion P ts
every P [] f = tt
every P (u ∷ ts) f = (f u (or_left (nat_eq u u) (list_any (is u) ts) (eq-eqb u u refl)), every P ts (λ t e. f t (or_right (nat_eq u t) (list_any (is t) ts) e)))

placed_truths : (here at : ℕ → Bool) (ts : List ℕ) (ws : List Word) → AllByRecursion (λ t. here (place_of t ts) ≡ at t) (times_in ws)
    → truths here (map (placed_word ts) ws) ≡ truths at ws
placed_truths here at ts [] h = refl
placed_truths here at ts (word.Time t ∷ ws) h = let first = h.0 in let rest = placed_truths here at ts ws h.1 in λ i. first i ∷ rest i
placed_truths here at ts (word.Not ∷ ws) h = ap negated (placed_truths here at ts ws h)
placed_truths here at ts (word.And ∷ ws) h = ap (joined (λ a b. a && b)) (placed_truths here at ts ws h)
placed_truths here at ts (word.Or ∷ ws) h = ap (joined (λ a b. a || b)) (placed_truths here at ts ws h)

same_test : (ws : List Word) (graph : ℕ → List Element) (x : Element)
    → is_chosen (map (placed_word (instants_of ws)) ws) (map (λ set. has set x) (map graph (instants_of ws))) ≡ holds ws x graph
same_test ws graph x =
    let ts = instants_of ws in
    ap first_of (placed_truths (true_at (map (λ set. has set x) (map graph ts))) (λ t. has (graph t) x) ts ws
    (every (λ t. true_at (map (λ set. has set x) (map graph ts)) (place_of t ts) ≡ has (graph t) x) (times_in ws)
    (λ t e. place_in graph x t ts (distinct_has t (times_in ws) ∙ e))))

-- what is selected over places is what the expression chooses
pub selected_is : (ws : List Word) (graph : ℕ → List Element) (sets : List (List Element)) → sets ≡ map graph (instants_of ws)
    → selected (map (placed_word (instants_of ws)) ws) sets ≡ chosen ws graph
selected_is ws graph sets e =
    ap (selected (map (placed_word (instants_of ws)) ws)) e
    ∙ (λ i. filter (λ x. same_test ws graph x i) (all_of (map graph (instants_of ws))))

pub place_more : (t : ℕ) (ts : List ℕ) (i : ℕ) (d : ℕ) → i < length ts → nat_eq (get_or ts i d) t ≡ false → place_of t (drop i ts) ≡ suc (place_of t (drop (i + 1) ts))
place_more t ts i d lt e = ap (place_of t) (drop_more ts i d lt) ∙ ap (λ b. cond b 0 (suc (place_of t (drop (i + 1) ts)))) e

pub place_here : (t : ℕ) (ts : List ℕ) (i : ℕ) (d : ℕ) → i < length ts → nat_eq (get_or ts i d) t ≡ true → place_of t (drop i ts) ≡ 0
place_here t ts i d lt e = ap (place_of t) (drop_more ts i d lt) ∙ ap (λ b. cond b 0 (suc (place_of t (drop (i + 1) ts)))) e

pub place_none : (t : ℕ) (ts : List ℕ) → place_of t (drop (length ts) ts) ≡ 0
place_none t ts = ap (place_of t) (drop_all (length ts) ts (omega arith))

pub first_truth : (bs rest : List Bool) (b : Bool) → bs ≡ b ∷ rest → first_of bs ≡ b
first_truth bs rest b e = ap first_of e

pub is_one : (ws : List Word) → is_expression ws ≡ true → are_expressions 1 ws ≡ true
is_one ws e = (both (are_expressions 1 ws) _ e).0

-- ---- the loops over words

times_take_le : (n : ℕ) (ws : List Word) → length (times_in (take n ws)) ≤ length (times_in ws)
times_take_le zero ws = omega arith
times_take_le (suc n) [] = omega arith
times_take_le (suc n) (word.Time t ∷ ws) = omega (arith, times_take_le n ws)
times_take_le (suc n) (word.Not ∷ ws) = times_take_le n ws
times_take_le (suc n) (word.And ∷ ws) = times_take_le n ws
times_take_le (suc n) (word.Or ∷ ws) = times_take_le n ws

times_next : (ws : List Word) (i : ℕ) (d : Word) → i < length ws → times_in (take (i + 1) ws) ≡ times_in (take i ws) ++ times_in (get_or ws i d ∷ [])
times_next ws i d lt = ap times_in (take_more ws i d lt) ∙ times_push (take i ws) (get_or ws i d)

take_within : {X : Type 0} (m n : ℕ) (xs : List X) → m ≤ n → take m (take n xs) ≡ take m xs
take_within zero n xs le = refl
take_within (suc m) zero xs le = absurd (omega (arith, le))
take_within (suc m) (suc n) [] le = refl
take_within (suc m) (suc n) (x ∷ xs) le = ap (λ l. x ∷ l) (take_within m n xs (omega (arith, le)))

few_times : (ws : List Word) → is_expression ws ≡ true → length (times_in ws) ≤ 8
few_times ws e = leb-true (length (times_in ws)) 8 (both (nat_le (length (times_in ws)) 8) _ (both (are_expressions 1 ws) _ e).1).0

-- there is room for the instant of the next word
pub room_more : (ws : List Word) (n i : ℕ) (d : Word) (count : ℕ) → is_expression (take n ws) ≡ true → i < n → i < length ws
    → count ≤ length (times_in (take i ws)) → count + length (times_in (get_or ws i d ∷ [])) ≤ 8
room_more ws n i d count e below lt h =
    omega (
      arith,
      ap length (times_next ws i d lt),
      length-append (times_in (take i ws)) (times_in (get_or ws i d ∷ [])),
      times_take_le (i + 1) (take n ws),
      ap (λ l. length (times_in l)) (take_within (i + 1) n ws (omega arith)),
      few_times (take n ws) e,
      h,
    )

pub count_more : (ws : List Word) (i : ℕ) (d : Word) (count new : ℕ) → i < length ws
    → count ≤ length (times_in (take i ws)) → new ≤ count + length (times_in (get_or ws i d ∷ [])) → new ≤ length (times_in (take (i + 1) ws))
count_more ws i d count new lt h g =
    omega (arith, ap length (times_next ws i d lt), length-append (times_in (take i ws)) (times_in (get_or ws i d ∷ [])), h, g)

-- the instants are few
pub count_few : (ws : List Word) (n i count : ℕ) → is_expression (take n ws) ≡ true → i ≤ n → count ≤ length (times_in (take i ws)) → count ≤ 8
count_few ws n i count e le h =
    omega (arith, times_take_le i (take n ws), ap (λ l. length (times_in l)) (take_within i n ws le), few_times (take n ws) e, h)

added_times : (ts : List ℕ) (w : Word) → added (distinct ts) (times_in (w ∷ [])) ≡ distinct (ts ++ times_in (w ∷ []))
added_times ts (word.Time t) = sym (distinct_push t ts)
added_times ts word.Not = ap distinct (sym (append-nil ts))
added_times ts word.And = ap distinct (sym (append-nil ts))
added_times ts word.Or = ap distinct (sym (append-nil ts))

pub times_more : (ws : List Word) (i : ℕ) (d : Word) (old new : List ℕ) → i < length ws
    → old ≡ distinct (times_in (take i ws)) → new ≡ added old (times_in (get_or ws i d ∷ [])) → new ≡ distinct (times_in (take (i + 1) ws))
times_more ws i d old new lt h e =
    e ∙ ap (λ l. added l (times_in (get_or ws i d ∷ []))) h ∙ added_times (times_in (take i ws)) (get_or ws i d) ∙ ap distinct (sym (times_next ws i d lt))

-- a loop that writes f of each element over it
pub placed_more : {X : Type 0} (f : X → X) (xs ys : List X) (i : ℕ) (d r : X) → i < length xs → ys ≡ map f (take i xs) ++ drop i xs
    → r ≡ f (get_or xs i d) → set ys i r ≡ map f (take (i + 1) xs) ++ drop (i + 1) xs
placed_more f xs ys i d r lt h is =
    let front = map f (take i xs) in
    let long : length front ≡ i = length-map (take i xs) f ∙ omega (arith, length-take i xs) in
    let parts : ys ≡ front ++ get_or xs i d ∷ drop (i + 1) xs = h ∙ ap (λ l. front ++ l) (drop_more xs i d lt) in
    ap (λ l. set l i r) parts ∙ set_at front _ _ r i long ∙ sym (append_assoc front (r ∷ []) _)
    ∙ ap (λ l. l ++ drop (i + 1) xs) (ap (λ y. front ++ y ∷ []) is ∙ sym (map_more f xs i d lt))

take_map : {X : Type 0} (f : X → X) (n : ℕ) (xs : List X) → take n (map f xs) ≡ map f (take n xs)
take_map f zero xs = refl
take_map f (suc n) [] = refl
take_map f (suc n) (x ∷ xs) = ap (λ l. f x ∷ l) (take_map f n xs)

pub placed_all : {X : Type 0} (f : X → X) (xs ys : List X) (i n : ℕ) → length xs ≤ i → ys ≡ map f (take i xs) ++ drop i xs → take n ys ≡ map f (take n xs)
placed_all f xs ys i n h e =
    let front = take_all i xs h in
    let rest = drop_all i xs h in
    ap (take n) (e ∙ (λ j. map f (front j) ++ rest j) ∙ append-nil (map f xs)) ∙ take_map f n xs
