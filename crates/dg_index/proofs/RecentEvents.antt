-- The recent pieces hold the events behind the last leaf; and what later events leave of a listing.
use Rattle.std.proofs.Common.{◌≡◌, ℕ, ◌+◌, ◌*◌, ◌/◌, ◌<◌, ◌≤◌, Bool, true, false, cond, List, [], ◌∷◌, ◌++◌, length, nat_le, refl, sym, ap, ◌∙◌, arith, append-nil, append_assoc, div-lt_iff_lt-mul, mul-le-mul_right, eq-or-lt_of_le, ⊎_elim}
use Rattle.std.specs.Prelude.{◌==◌}
use Rattle.std.specs.List.{flat_map}
use Rattle.std.proofs.lemmas.Bool.{eqb-true, eq-eqb}
use Rattle.std.proofs.lemmas.List.Concat.{flat_map-append}
use Rattle.std.proofs.lemmas.List.Elements.{filter-append}
use Rattle.dg_graph.specs.declared.event.Event.{Event}
use Rattle.dg_history.specs.declared.params.Params.{Params}
use Rattle.dg_history.specs.History.{Batch}
use Rattle.dg_graph.specs.Replay.{replay, events_until, replay_at}
use Rattle.dg_index.specs.Hierarchy.{leaves}
use Rattle.dg_index.specs.IndexRecords.{piece_of, recent_of}
use Rattle.dg_index.specs.RecentEvents.{recent_pieces}
use Rattle.dg_index.proofs.HierarchyStability.{recent_closed, recent_kept, leaves_more}

abbrev pub together : List (List Event) → List Event
together pieces = flat_map (λ (l : List Event). l) pieces

together_more : (pieces : List (List Event)) (piece : List Event) → together (pieces ++ piece ∷ []) ≡ together pieces ++ piece
together_more pieces piece = flat_map-append (λ (l : List Event). l) pieces (piece ∷ []) ∙ ap (λ (l : List Event). together pieces ++ l) (append-nil piece)

not_equal : (m n : ℕ) → (m == n) ≡ false → m ≡ n → ⊥
not_equal m n e is = absurd (let t : true ≡ false = sym (eq-eqb m n is) ∙ e in cc)

pub recent_pieces_are : (p : Params) → 0 < p.l → (batches : List Batch) (before : List Event) (kept : List (List Event)) → together kept ≡ recent_of p before
    → together (recent_pieces p before kept batches) ≡ recent_of p (before ++ flat_map (λ (b : Batch). b.events) batches)
recent_pieces_are p pos [] before kept is = is ∙ ap (recent_of p) (sym (append-nil before))
recent_pieces_are p pos (b ∷ batches) before kept is =
    let n : ℕ = length before in
    let after : ℕ = leaves p (length before + length b.events) in
    recent_pieces_are p pos batches (before ++ b.events) (cond (after == leaves p n) kept [] ++ piece_of p before b ∷ [])
    (together_more (cond (after == leaves p n) kept []) (piece_of p before b) ∙ by (after == leaves p n) refl)
    ∙ ap (recent_of p) (append_assoc before b.events (flat_map (λ (b : Batch). b.events) batches))
  where
    by : (same : Bool) → (leaves p (length before + length b.events) == leaves p (length before)) ≡ same → together (cond same kept []) ++ piece_of p before b ≡ recent_of p (before ++ b.events)
    by true e =
        let k = recent_kept p before b pos (eqb-true (leaves p (length before + length b.events)) (leaves p (length before)) e) in
        (λ i. is i ++ k.1 i) ∙ sym k.0
    by false e =
        let n : ℕ = length before in
        let m : ℕ = leaves p n in
        let after : ℕ = leaves p (length before + length b.events) in
        let up : m ≤ after = leaves_more p.l n (length b.events) pos in
        let more : m + 1 ≤ after = strict m after up (λ q. not_equal after m e (sym q)) in
        let below : n < (m + 1) * p.l = (div-lt_iff_lt-mul pos).0 (let lt : n / p.l < m + 1 = omega arith in lt) in
        let over : (m + 1) * p.l ≤ after * p.l = mul-le-mul_right p.l more in
        none ∙ sym (recent_closed p before b pos (omega (arith, below, over)))
      where
        none : together [] ++ piece_of p before b ≡ piece_of p before b
        none = refl

        strict : (a b : ℕ) → a ≤ b → (a ≡ b → ⊥) → a + 1 ≤ b
        strict a b le ne = ⊎_elim (λ (e : a ≡ b). absurd (ne e)) (λ (lt : a < b). let r : a + 1 ≤ b = omega (arith, lt) in r) (eq-or-lt_of_le le)

-- later events do not change the graph as of an instant before them
pub replay_at_more : (events more : List Event) (t : ℕ) → events_until more t ≡ [] → replay_at (events ++ more) t ≡ replay_at events t
replay_at_more events more t none =
    ap replay (filter-append (λ (e : Event). nat_le e.time t) events more ∙ ap (λ (l : List Event). events_until events t ++ l) none ∙ append-nil (events_until events t))
