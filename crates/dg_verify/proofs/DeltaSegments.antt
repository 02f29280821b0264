-- The tops and downs that events determine, as the segment of all of them behind nothing.
use Rattle.std.proofs.Common.{◌≡◌, ℕ, true, false, zero, suc, ◌+◌, ◌-◌, ◌*◌, ◌/◌, ◌^◌, ◌≤◌, List, [], ◌∷◌, ◌++◌, length, drop, take, map, min, refl, sym, ◌∙◌, ap, arith, length-append}
use Rattle.std.specs.List.{flat_map}
use Rattle.std.proofs.lemmas.List.{drop_all}
use Rattle.dg_build.proofs.OlderSteps.{older_in_time_long}
use Rattle.dg_build.specs.InteriorDeltas.{steps_to}
use Rattle.dg_build.specs.OlderSteps.{AreOlderSteps, last_leaf, older_in_time}
use Rattle.dg_build.specs.SpelledRecords.{written_segment}
use Rattle.dg_graph.specs.declared.event.Event.{Event}
use Rattle.dg_history.specs.declared.node.Key.{Key}
use Rattle.dg_history.specs.declared.node.Key.TheVariants as key
use Rattle.dg_history.specs.declared.node.NodeId.{NodeId}
use Rattle.dg_history.specs.declared.params.Params.{Params}
use Rattle.dg_history.specs.History.{are_parameters}
use Rattle.dg_history.proofs.ParameterRanges.{in_range}
use Rattle.dg_index.specs.FileOfHistory.{Segment, segment_of, stored}
use Rattle.dg_index.specs.Hierarchy.{leaves, numbers, set_of}
use Rattle.dg_index.specs.IndexRecords.{deltas_due, lists_due, recent_of, record_among}
use Rattle.dg_index.specs.OlderNodes.{node_at, older, older_at}
use Rattle.dg_verify.proofs.DeltaKeys.{lists_many}

no_leaves : (p : Params) → leaves p 0 ≡ 0
no_leaves p = omega arith

-- ---- the keys between the lists and the piece

take_front : (a b : List Key) → take (length a) (a ++ b) ≡ a
take_front [] b = refl
take_front (x ∷ a) b = ap (λ (l : List Key). x ∷ l) (take_front a b)

drop_front : (a b : List Key) → drop (length a) (a ++ b) ≡ b
drop_front [] b = refl
drop_front (x ∷ a) b = drop_front a b

-- the keys of a segment, which begins with so many lists
module _ (p : Params) (events lists : ℕ) (keys : List Key) (many : lists ≡ leaves p events)
    (are : keys ≡ lists_due p 0 (0 + events) ++ (deltas_due p.k (leaves p 0) (leaves p (0 + events)) ++ key.Piece 0 ∷ [])) where
  here : keys ≡ lists_due p 0 events ++ (deltas_due p.k 0 (leaves p events) ++ key.Piece 0 ∷ [])
  here =
      let none : 0 + events ≡ events = omega arith in
      are ∙ (λ i. lists_due p 0 (none i) ++ (deltas_due p.k (no_leaves p i) (leaves p (none i)) ++ key.Piece 0 ∷ []))

  longer : length keys ≡ lists + (length (deltas_due p.k 0 (leaves p events)) + 1)
  longer =
      ap length here ∙ length-append (lists_due p 0 events) (deltas_due p.k 0 (leaves p events) ++ key.Piece 0 ∷ [])
      ∙ (λ i. (lists_many p events ∙ sym many) i + length-append (deltas_due p.k 0 (leaves p events)) (key.Piece 0 ∷ []) i)

  pub some_keys : 1 ≤ length keys
  some_keys = omega (arith, longer)

  pub lists_within : lists ≤ length keys - 1
  lists_within = omega (arith, longer)

  pub between : take (length keys - 1 - lists) (drop lists keys) ≡ deltas_due p.k 0 (leaves p events)
  between =
      let count : length keys - 1 - lists ≡ length (deltas_due p.k 0 (leaves p events)) = omega (arith, longer) in
      (λ i. take (count i) (drop ((many ∙ sym (lists_many p events)) i) (here i)))
      ∙ ap (take (length (deltas_due p.k 0 (leaves p events)))) (drop_front (lists_due p 0 events) (deltas_due p.k 0 (leaves p events) ++ key.Piece 0 ∷ []))
      ∙ take_front (deltas_due p.k 0 (leaves p events)) (key.Piece 0 ∷ [])

-- ---- the segment

none_flat : (f : ℕ → List NodeId) → ((x : ℕ) → f x ≡ []) → (xs : List ℕ) → flat_map f xs ≡ []
none_flat f none [] = refl
none_flat f none (x ∷ xs) = λ i. none x i ++ none_flat f none xs i

none_at : (k m h : ℕ) → older_at k 0 m h ≡ []
none_at k m zero = refl
none_at k m (suc h) =
    let nothing : 0 / k ^ h ≡ 0 = omega arith in
    let few : 0 / k ^ h - 0 / k ^ suc h * k ≡ 0 = omega (arith, nothing) in
    let times : min (m / k ^ suc h - 0 / k ^ suc h) 1 * 0 ≡ 0 = omega arith in
    ap (λ n. map (node_at h) (numbers (0 / k ^ suc h * k + 1) (min (m / k ^ suc h - 0 / k ^ suc h) 1 * n))) few
    ∙ ap (λ n. map (node_at h) (numbers (0 / k ^ suc h * k + 1) n)) times

none_older : (k m : ℕ) → older k 0 m ≡ []
none_older k m = none_flat (older_at k 0 m) (none_at k m) (numbers 1 m)

-- behind nothing no node has an older child
pub no_older : (p : Params) (after : ℕ) → older p.k (leaves p 0) after ≡ []
no_older p after = ap (λ m. older p.k m after) (no_leaves p) ∙ none_older p.k after

pub none_in_time : (p : Params) (after : ℕ) → are_parameters p.l p.k ≡ true → older_in_time p.k (leaves p 0) after ≡ []
none_in_time p after parameters =
    empty (older_in_time p.k (leaves p 0) after) (older_in_time_long p.k (leaves p 0) after (in_range p.l p.k parameters).arity_two ∙ ap (λ (l : List NodeId). length l) (no_older p after))
  where
    empty : (nodes : List NodeId) → length nodes ≡ 0 → nodes ≡ []
    empty [] none = refl
    empty (n ∷ nodes) none = absurd (omega (arith, none))

-- and none has a step
pub no_older_steps : (p : Params) (after : ℕ) → are_parameters p.l p.k ≡ true → AreOlderSteps p [] after []
no_older_steps p after parameters = sym (ap (λ (l : List NodeId). steps_to (map (set_of p []) l) (last_leaf p [])) (none_in_time p after parameters))

-- behind nothing no event is recent
pub none_recent : (p : Params) → [] ≡ recent_of p []
none_recent p = sym (drop_all (leaves p 0 * p.l) [] (omega arith))

pub deltas_made : (p : Params) (events : List Event) (names : List (List ℕ)) (s : Segment) (keys : List Key) → s ≡ written_segment false (segment_of p [] (record { names = names; events = events }))
    → keys ≡ deltas_due p.k 0 (leaves p (length events)) → s.deltas ≡ map (λ k. stored (record_among p events [] k)) keys
deltas_made p events names s keys is are =
    ap (λ (t : Segment). t.deltas) is
    ∙ ap (map (λ k. stored (record_among p events [] k)))
    ((λ i. deltas_due p.k (no_leaves p i) (leaves p ((let none : 0 + length events ≡ length events = omega arith in none) i))) ∙ sym are)
