-- The new nodes of the next height.
use Rattle.std.proofs.Common.{◌≡◌, ℕ, suc, ◌+◌, ◌-◌, ◌*◌, ◌/◌, ◌<◌, ◌≤◌, ◌==◌, Bool, true, false, cond, List, [], ◌∷◌, ◌++◌, length, map, refl, sym, ap, ◌∙◌, arith, add-mul, append_assoc, length-append}
use Rattle.std.specs.List.{flat_map}
use Rattle.std.proofs.lemmas.List.{map-append, length-map}
use Rattle.dg_graph.specs.declared.element.Element.{Element}
use Rattle.dg_graph.specs.declared.event.Event.{Event}
use Rattle.dg_history.specs.declared.params.Params.{Params}
use Rattle.dg_graph.specs.Composition.{Delta, between}
use Rattle.dg_graph.specs.Elements.{IsSet}
use Rattle.dg_index.specs.Hierarchy.{numbers, set_at}
use Rattle.dg_index.specs.FileOfHistory.{Segment, Stored}
use Rattle.dg_build.specs.InteriorDeltas.{AreMade, DiffersInDeltas, Rises, deltas_added, downs_of, stored_delta, top_to}

-- ---- segments that differ in their deltas alone

pub differs_by : (old new : Segment) (deltas : List Stored) → new ≡ record old { deltas = deltas } → DiffersInDeltas old new
differs_by old new deltas is = is ∙ (λ i. record old { deltas = (sym is i).deltas })

pub differs_on : (a b c : Segment) → DiffersInDeltas a b → DiffersInDeltas b c → DiffersInDeltas a c
differs_on a b c first later = later ∙ (λ i. record (first i) { deltas = c.deltas })

pub differs_not : (a : Segment) → DiffersInDeltas a a
differs_not a = refl

-- what is written of a height: its top, where there is one, the downs of its first node, and then those of the others
pub record Spells (old new : Segment) (tops downs : List Delta) (later : List Stored) : Type 0 where
  pub differs : DiffersInDeltas old new
  pub adds : new.deltas ≡ old.deltas ++ (map stored_delta (tops ++ downs) ++ later)

pub spells : (old mid new : Segment) (tops downs : List Delta) (later : List Stored) → mid ≡ record old { deltas = old.deltas ++ map stored_delta (tops ++ downs) } → DiffersInDeltas mid new → new.deltas ≡ mid.deltas ++ later
    → Spells old new tops downs later
spells old mid new tops downs later first differs adds = record {
  differs = differs_on old mid new (differs_by old mid _ first) differs;
  adds = adds ∙ (λ i. (first i).deltas ++ later) ∙ append_assoc old.deltas (map stored_delta (tops ++ downs)) later;
}

-- the top and then the downs
pub added_both : (old top mid : Segment) (tops made downs : List Delta) → top ≡ record old { deltas = old.deltas ++ map stored_delta tops } → mid ≡ record top { deltas = top.deltas ++ map stored_delta made } → made ≡ downs
    → mid ≡ record old { deltas = old.deltas ++ map stored_delta (tops ++ downs) }
added_both old top mid tops made downs top_is mid_is made_is =
    mid_is ∙ (λ i. record (top_is i) { deltas = (top_is i).deltas ++ map stored_delta made })
    ∙ ap (λ (l : List Stored). record old { deltas = l })
    (append_assoc old.deltas (map stored_delta tops) (map stored_delta made) ∙ ap (λ (l : List Stored). old.deltas ++ l) (sym (map-append stored_delta tops made)) ∙ ap (λ (l : List Delta). old.deltas ++ map stored_delta (tops ++ l)) made_is)

-- ---- how many deltas

top_length : (t : Bool) (node : List Element) → length (cond t (between [] node ∷ []) []) ≡ cond t 1 0
top_length true node = refl
top_length false node = refl

pub deltas_length : (old new : Segment) (made : List Delta) → new ≡ record old { deltas = old.deltas ++ map stored_delta made } → length new.deltas ≡ length old.deltas + length made
deltas_length old new made is = ap (λ (s : Segment). length s.deltas) is ∙ length-append old.deltas (map stored_delta made) ∙ ap (λ n. length old.deltas + n) (length-map made stored_delta)

-- those of the first node, and all
first_of_all : (k q end : ℕ) → q / k < end / k → (end / k - q / k) * k ≡ (end / k - q / k - 1) * k + k
first_of_all k q end due =
    let e : end / k - q / k ≡ end / k - q / k - 1 + 1 = omega (arith, due) in
    omega (arith, ap (λ n. n * k) e, add-mul (end / k - q / k - 1) 1 k)

pub first_added : (k q end : ℕ) (old mid : Segment) (node : List Element) (made : List Delta) → q / k < end / k → length made ≡ k → mid ≡ record old { deltas = old.deltas ++ map stored_delta (cond (q / k == 0) (between [] node ∷ []) [] ++ made) }
    → length mid.deltas + (end / k - q / k - 1) * k ≡ length old.deltas + deltas_added k (q / k) (end / k)
first_added k q end old mid node made due long is =
    let tops : List Delta = cond (q / k == 0) (between [] node ∷ []) [] in
    omega (arith, deltas_length old mid (tops ++ made) is, length-append tops made, long, top_length (q / k == 0) node, first_of_all k q end due)

pub first_within : (k q end : ℕ) (node : List Element) → q / k < end / k → length (cond (q / k == 0) (between [] node ∷ []) []) + k ≤ deltas_added k (q / k) (end / k)
first_within k q end node due = omega (arith, top_length (q / k == 0) node, first_of_all k q end due)

pub top_within : (k q end : ℕ) (node : List Element) → length (cond (q / k == 0) (between [] node ∷ []) []) ≤ deltas_added k (q / k) (end / k)
top_within k q end node = omega (arith, top_length (q / k == 0) node)

-- ---- what they are

pub rises : (p : Params) (events : List Event) (h q end : ℕ) → q / p.k < end / p.k → (start : List Element) (above : Delta) (up downs : List Delta) (node : List Element) (old mid new : Segment) → IsSet start
    → above ≡ between start (set_at p events (suc h) (q / p.k + 1)) → top_to (q / p.k) node ≡ top_to (q / p.k) (set_at p events (suc h) 1) → downs ≡ downs_of p events h (q / p.k + 1)
    → AreMade p events h (q / p.k + 1) (end / p.k - q / p.k - 1) up mid new
    → Spells old new (top_to (q / p.k) node) downs (map stored_delta (flat_map (downs_of p events h) (numbers (q / p.k + 1 + 1) (end / p.k - q / p.k - 1)))) → Rises p events h (q / p.k) (end / p.k) start above up old new
rises p events h q end due start above up downs node old mid new start_is there top_is downs_are made spelled =
    let b : ℕ = q / p.k in
    let n : ℕ = end / p.k - b - 1 in
    let top : List Delta = top_to b (set_at p events (suc h) 1) in
    let later : List Delta = flat_map (downs_of p events h) (numbers (b + 1 + 1) n) in
    record {
      nodes = record {
        start_is = start_is;
        up_is = there;
        steps_are = made.steps_are;
      };
      adds = spelled.adds ∙ (λ i. old.deltas ++ (map stored_delta (top_is i ++ downs_are i) ++ map stored_delta later))
          ∙ ap (λ (l : List Stored). old.deltas ++ l) (sym (map-append stored_delta (top ++ downs_of p events h (b + 1)) later)) ∙ ap (λ (l : List Delta). old.deltas ++ map stored_delta l) (append_assoc top (downs_of p events h (b + 1)) later)
          ∙ ap (λ m. old.deltas ++ map stored_delta (top ++ flat_map (downs_of p events h) (numbers (b + 1) m))) (let e : suc n ≡ end / p.k - b = omega (arith, due) in e);
    }
