-- The times of the lists that are cut off do not fall.
use Rattle.std.proofs.Common.{◌≡◌, ℕ, zero, suc, ◌+◌, ◌*◌, ◌≤◌, Bool, true, ◌&&◌, List, [], ◌∷◌, ◌++◌, Some, length, map, take, drop, nat_le, refl, sym, ap, subst, ◌∙◌, arith, add-mul, take-append-drop, length-drop}
use Rattle.std.proofs.lemmas.Bool.{and_from, le-leb}
use Rattle.std.proofs.lemmas.List.{drop-drop}
use Rattle.dg_graph.specs.declared.event.Event.{Event}
use Rattle.dg_history.specs.EventTimes.{RisesFrom}
use Rattle.dg_history.specs.History.{last_time_from}
use Rattle.dg_history.proofs.EventTimes.{last_two, rises_last, rises_parts}
use Rattle.dg_index.specs.Hierarchy.{numbers}
use Rattle.dg_index.specs.OpenedIndex.{list_row, may_be_listed, within}
use Rattle.dg_index.specs.FileOfHistory.{StoredList}
use Rattle.dg_build.specs.SpelledRecords.{last_in_rows, stored_cut}
use Rattle.dg_build.proofs.SpelledRecordLists.{list_there}

-- so many lists of l events, one behind another
cuts : Bool → ℕ → ℕ → List Event → List StoredList
cuts messages l zero tail = []
cuts messages l (suc n) tail = stored_cut messages (take l tail) ∷ cuts messages l n (drop l tail)

cuts_are : (messages : Bool) (l a n : ℕ) (tail : List Event) → map (λ i. stored_cut messages (take l (drop (i * l) tail))) (numbers a n) ≡ cuts messages l n (drop (a * l) tail)
unfolding cuts
cuts_are messages l a zero tail = refl
cuts_are messages l a (suc n) tail =
    ap (λ (r : List StoredList). stored_cut messages (take l (drop (a * l) tail)) ∷ r)
    (cuts_are messages l (a + 1) n tail ∙ ap (λ m. cuts messages l n (drop m tail)) (let e : (a + 1) * l ≡ a * l + l = omega (arith, add-mul a 1 l) in e) ∙ ap (cuts messages l n) (sym (drop-drop l (a * l) tail)))

listed : (messages : Bool) (l n floor : ℕ) (tail : List Event) → 1 ≤ l → n * l ≤ length tail → RisesFrom floor tail → may_be_listed floor (last_time_from floor tail) (map list_row (cuts messages l n tail)) ≡ true
unfolding cuts
listed messages l zero floor tail some fits r = refl
listed messages zero (suc n) floor tail some fits r = absurd (omega (arith, some))
listed messages (suc l) (suc n) floor [] some fits r = absurd (omega (arith, fits, mul_some n l))
  where
    mul_some : (n l : ℕ) → 1 ≤ suc n * suc l
    mul_some n l = omega (arith, add-mul n 1 (suc l))
listed messages (suc l) (suc n) floor (e ∷ es) some fits r =
    let front : List Event = take l es in
    let back : List Event = drop l es in
    let last : ℕ = last_time_from e.time front in
    let parts : front ++ back ≡ es = take-append-drop l es in
    let r2 = rises_parts e.time front back (subst (RisesFrom e.time) (sym parts) r.1) in
    let end : last_time_from e.time es ≡ last_time_from last back = ap (last_time_from e.time) (sym parts) ∙ last_two e.time front back in
    let here : e.time ≤ last = rises_last e.time front r2.0 in
    let there : last ≤ last_time_from e.time es = omega (arith, rises_last last back r2.1, end) in
    and_from (within floor (last_time_from e.time es) (Some (record { first = e.time; last = last }))) (may_be_listed last (last_time_from e.time es) (map list_row (cuts messages (suc l) n back)))
    (and_from (nat_le floor e.time) (nat_le e.time last && nat_le last (last_time_from e.time es)) (le-leb floor e.time r.0)
    (and_from (nat_le e.time last) (nat_le last (last_time_from e.time es)) (le-leb e.time last here) (le-leb last (last_time_from e.time es) there)))
    (ap (λ m. may_be_listed last m (map list_row (cuts messages (suc l) n back))) end
    ∙ listed messages (suc l) n last back some (omega (arith, fits, add-mul n 1 (suc l), length-drop l es)) r2.1)

-- no event behind the lists is earlier than the last of them
behind : (messages : Bool) (l n floor : ℕ) (tail : List Event) → 1 ≤ l → n * l ≤ length tail → RisesFrom floor tail → RisesFrom (last_in_rows floor (map list_row (cuts messages l n tail))) (drop (n * l) tail)
unfolding cuts
behind messages l zero floor tail some fits r = subst (λ m. RisesFrom floor (drop m tail)) (let e : 0 ≡ 0 * l = omega arith in e) r
behind messages zero (suc n) floor tail some fits r = absurd (omega (arith, some))
behind messages (suc l) (suc n) floor [] some fits r = absurd (omega (arith, fits, add-mul n 1 (suc l)))
behind messages (suc l) (suc n) floor (e ∷ es) some fits r =
    let front : List Event = take l es in
    let back : List Event = drop l es in
    let last : ℕ = last_time_from e.time front in
    let r2 = rises_parts e.time front back (subst (RisesFrom e.time) (sym (take-append-drop l es)) r.1) in
    let more : RisesFrom (last_in_rows last (map list_row (cuts messages (suc l) n back))) (drop (n * suc l) back) =
    behind messages (suc l) n last back some (omega (arith, fits, add-mul n 1 (suc l), length-drop l es)) r2.1 in
    let same : drop (n * suc l) back ≡ drop (suc n * suc l) (e ∷ es) =
    drop-drop (n * suc l) (suc l) (e ∷ es) ∙ ap (λ m. drop m (e ∷ es)) (let e : suc l + n * suc l ≡ suc n * suc l = omega (arith, add-mul n 1 (suc l)) in e) in
    subst (RisesFrom (last_in_rows last (map list_row (cuts messages (suc l) n back)))) same more

-- the lists of a segment over any events whose times do not fall
pub lists_may : (messages : Bool) (l n floor : ℕ) (tail : List Event) (out : List StoredList) → 1 ≤ l → n * l ≤ length tail → RisesFrom floor tail → out ≡ map (list_there messages l tail) (numbers 0 n)
    → may_be_listed floor (last_time_from floor tail) (map list_row out) ≡ true
lists_may messages l n floor tail out some fits r is =
    ap (λ (x : List StoredList). may_be_listed floor (last_time_from floor tail) (map list_row x)) (is ∙ cuts_are messages l 0 n tail ∙ ap (λ m. cuts messages l n (drop m tail)) (let e : 0 * l ≡ 0 = omega arith in e))
    ∙ listed messages l n floor tail some fits r

-- and the events behind them
pub lists_behind : (messages : Bool) (l n floor : ℕ) (tail : List Event) (out : List StoredList) → 1 ≤ l → n * l ≤ length tail → RisesFrom floor tail → out ≡ map (list_there messages l tail) (numbers 0 n)
    → RisesFrom (last_in_rows floor (map list_row out)) (drop (n * l) tail)
lists_behind messages l n floor tail out some fits r is =
    subst (λ (x : List StoredList). RisesFrom (last_in_rows floor (map list_row x)) (drop (n * l) tail))
    (sym (is ∙ cuts_are messages l 0 n tail ∙ ap (λ m. cuts messages l n (drop m tail)) (let e : 0 * l ≡ 0 = omega arith in e)))
    (behind messages l n floor tail some fits r)
