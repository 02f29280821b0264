-- The closed lists of a segment, list after list.
use Rattle.std.proofs.Common.{◌≡◌, ℕ, suc, ◌+◌, ◌-◌, ◌*◌, Bool, List, [], ◌∷◌, ◌++◌, length, map, take, drop, slice_index_or, refl, sym, ap, ◌∙◌, arith, append_assoc}
use Rattle.std.proofs.lemmas.List.{map-append, length-map}
use Rattle.dg_graph.specs.declared.event.Event.{Event}
use Rattle.dg_graph.specs.declared.event.Body.TheVariants as body
use Rattle.dg_history.specs.History.{last_time_from}
use Rattle.dg_index.specs.Hierarchy.{numbers}
use Rattle.dg_index.specs.FileOfHistory.{Segment, StoredList}
use Rattle.dg_index.proofs.HierarchyCounts.{numbers_append, numbers_length}
use Rattle.dg_build.specs.SpelledRecords.{stored_cut}

-- ---- times

abbrev at_time : ℕ → Event
at_time n = record { time = n; body = body.NodeAdded 0 }

pub last_is : (n : ℕ) (events : List Event) → (slice_index_or events (length events - 1) (at_time n)).time ≡ last_time_from n events
last_is n [] = refl
last_is n (e ∷ []) = refl
last_is n (e ∷ f ∷ more) = ap (λ k. (slice_index_or (e ∷ f ∷ more) k (at_time n)).time) (let z : suc (suc (length more)) - 1 ≡ suc (suc (length more) - 1) = omega arith in z) ∙ last_is n (f ∷ more)

-- ---- lists

-- the i-th of the lists of l events each, with its messages or without
abbrev pub list_there : Bool → ℕ → List Event → ℕ → StoredList
list_there messages l tail i = stored_cut messages (take l (drop (i * l) tail))

pub lists_next : (messages : Bool) (l i : ℕ) (tail cut : List Event) (old now new : Segment) → now ≡ record old { lists = old.lists ++ map (list_there messages l tail) (numbers 0 i) } → cut ≡ take l (drop (i * l) tail)
    → new ≡ record now { lists = now.lists ++ stored_cut messages cut ∷ [] } → new ≡ record old { lists = old.lists ++ map (list_there messages l tail) (numbers 0 (i + 1)) }
lists_next messages l i tail cut old now new is cut_is more =
    let f = list_there messages l tail in
    more ∙ (λ j. record (is j) { lists = (is j).lists ++ (ap (stored_cut messages) cut_is ∙ ap f (let e : i ≡ 0 + i = omega arith in e)) j ∷ [] })
    ∙ ap (λ (l : List StoredList). record old { lists = l })
    (append_assoc old.lists (map f (numbers 0 i)) (f (0 + i) ∷ []) ∙ ap (λ (l : List StoredList). old.lists ++ l) (sym (map-append f (numbers 0 i) (numbers (0 + i) 1)) ∙ ap (map f) (sym (numbers_append 0 i 1))))

pub lists_long : (messages : Bool) (l n : ℕ) (tail : List Event) (out : List StoredList) → out ≡ map (list_there messages l tail) (numbers 0 n) → length out ≡ n
lists_long messages l n tail out is = ap (λ (x : List StoredList). length x) is ∙ length-map (numbers 0 n) (list_there messages l tail) ∙ numbers_length 0 n
