-- Each adjacency that is kept is that of a live handle's graph, whatever comes to the other handles.
use Rattle.std.proofs.Common.{◌≡◌, ◌⊎◌, inl, inr, ℕ, Bool, true, false, ◌==◌, List, [], ◌∷◌, ◌++◌, Some, None, if◌then◌else◌, refl, sym, ◌∙◌, ap, subst}
use Rattle.std.specs.Prelude.{Result, Ok, Err, OnOk, OnErr}
use Rattle.std.proofs.lemmas.Bool.{eq-eqb, eqb-true, false≢true}
use Rattle.std.proofs.lemmas.Option.{none-some, same_Some}
use Rattle.dg_graph.specs.declared.element.Element.{Element}
use Rattle.dg_handles.specs.Handles.{HandlesState, graph_among, slot_graphs, graphs_without}
use Rattle.dg_machine.specs.declared.stands.Stands.{Stands}
use Rattle.dg_machine.specs.MachineState.{without_handle}
use Rattle.dg_pool.specs.Graphs.{PoolState, SameGraphs, slot_graph}
use Rattle.dg_pool.specs.Sweeps.{members_as}
use Rattle.dg_ask.specs.KeptAdjacency.{AreTurned, BothServe, IsOfLiveHandle, KeepsAdjacency, KeepsAlone, KeptEnds, MayTurnTo, ServesFor, TurnsTo, both_but, kept_but}
use Rattle.dg_view.specs.EdgeEnds.{IsAdjacencyOf}

-- ---- graphs

-- a pool whose slots have the same graphs
pub graphs_same : (old new : PoolState) → ((s : ℕ) → slot_graph new s ≡ slot_graph old s) → (slots : List ℕ) → slot_graphs new slots ≡ slot_graphs old slots
graphs_same old new same [] = refl
graphs_same old new same (s ∷ slots) = λ i. members_as (same s i) ∷ graphs_same old new same slots i

-- ---- a query

-- what is kept serves for the graph of each live handle
serves_one : (handle : ℕ) (table : List (ℕ × Stands)) (graphs : List (List Element)) (set : List Element) (kept : KeptEnds)
    → graph_among handle table graphs ≡ Some set → IsOfLiveHandle table graphs kept → ServesFor handle set kept
serves_one handle table graphs set None is h = tt
serves_one handle table graphs set (Some k) is h =
    λ same. subst (λ (s : List Element). IsAdjacencyOf s k.1) (same_Some h.0 set (sym h.1 ∙ ap (λ n. graph_among n table graphs) same ∙ is)) h.2

pub serves : (handle : ℕ) (table : List (ℕ × Stands)) (graphs : List (List Element)) (set : List Element) (kept : KeptEnds × KeptEnds)
    → graph_among handle table graphs ≡ Some set → KeepsAdjacency table graphs kept → BothServe handle set kept
serves handle table graphs set kept is h = (serves_one handle table graphs set kept.0 is h.0, serves_one handle table graphs set kept.1 is h.1)

-- what is kept of a live handle alone
kept_alone : (handle : ℕ) (table : List (ℕ × Stands)) (graphs : List (List Element)) (set : List Element) (kept : KeptEnds)
    → graph_among handle table graphs ≡ Some set → KeepsAlone handle set kept → IsOfLiveHandle table graphs kept
kept_alone handle table graphs set None is h = tt
kept_alone handle table graphs set (Some k) is h = (set, ap (λ n. graph_among n table graphs) h.0 ∙ is, h.1)

-- what is kept after a query of a live handle
pub kept_turned_to : (handle : ℕ) (table : List (ℕ × Stands)) (graphs : List (List Element)) (set : List Element) (old new : KeptEnds × KeptEnds)
    → graph_among handle table graphs ≡ Some set → KeepsAdjacency table graphs old → TurnsTo handle set old new → KeepsAdjacency table graphs new
kept_turned_to handle table graphs set old new is h turned = (kept_alone handle table graphs set new.0 is turned.0, by turned.1)
  where
    by : (new.1 ≡ old.0) ⊎ (new.1 ≡ old.1) → IsOfLiveHandle table graphs new.1
    by (inl e) = subst (IsOfLiveHandle table graphs) (sym e) h.0
    by (inr e) = subst (IsOfLiveHandle table graphs) (sym e) h.1

-- what is kept after any query of a live handle
pub kept_asked : (handle : ℕ) (table : List (ℕ × Stands)) (graphs : List (List Element)) (set : List Element) (old new : KeptEnds × KeptEnds)
    → graph_among handle table graphs ≡ Some set → KeepsAdjacency table graphs old → MayTurnTo handle set old new → KeepsAdjacency table graphs new
kept_asked handle table graphs set old new is h (inl stays) = subst (KeepsAdjacency table graphs) (sym stays) h
kept_asked handle table graphs set old new is h (inr turns) = kept_turned_to handle table graphs set old new is h turns

-- ---- the same graphs

pub kept_on : (old new : PoolState) (h : HandlesState) (kept : KeptEnds × KeptEnds) → ((s : ℕ) → slot_graph new s ≡ slot_graph old s)
    → KeepsAdjacency h.table (slot_graphs old h.slots) kept → KeepsAdjacency h.table (slot_graphs new h.slots) kept
kept_on old new h kept same k = subst (λ gs. KeepsAdjacency h.table gs kept) (sym (graphs_same old new same h.slots)) k

-- ---- new handles

-- they stand behind those that are there
among_more : (handle : ℕ) (table more : List (ℕ × Stands)) (graphs others : List (List Element)) (set : List Element)
    → graph_among handle table graphs ≡ Some set → graph_among handle (table ++ more) (graphs ++ others) ≡ Some set
among_more handle [] more graphs others set is = absurd (none-some set is)
among_more handle (e ∷ table) more [] others set is = absurd (none-some set is)
among_more handle (e ∷ table) more (g ∷ graphs) others set is = by (e.0 == handle) (among_more handle table more graphs others set) is
  where
    by : (here : Bool) → (graph_among handle table graphs ≡ Some set → graph_among handle (table ++ more) (graphs ++ others) ≡ Some set)
        → (if here then Some g else graph_among handle table graphs) ≡ Some set → (if here then Some g else graph_among handle (table ++ more) (graphs ++ others)) ≡ Some set
    by true rest h = h
    by false rest h = rest h

one_more : (table more : List (ℕ × Stands)) (graphs others : List (List Element)) (kept : KeptEnds)
    → IsOfLiveHandle table graphs kept → IsOfLiveHandle (table ++ more) (graphs ++ others) kept
one_more table more graphs others None h = tt
one_more table more graphs others (Some k) h = (h.0, among_more k.0 table more graphs others h.0 h.1, h.2)

kept_more : (table more : List (ℕ × Stands)) (graphs others : List (List Element)) (kept : KeptEnds × KeptEnds)
    → KeepsAdjacency table graphs kept → KeepsAdjacency (table ++ more) (graphs ++ others) kept
kept_more table more graphs others kept h = (one_more table more graphs others kept.0 h.0, one_more table more graphs others kept.1 h.1)

-- whether they were added or not
pub kept_after : {A E : Type 0} (r : Result A E) (old new : HandlesState) (pool pool' : PoolState) (more : List (ℕ × Stands)) (others : List (List Element)) (kept : KeptEnds × KeptEnds)
    → OnOk r (new.table ≡ old.table ++ more) → OnOk r (slot_graphs pool' new.slots ≡ slot_graphs pool old.slots ++ others)
    → OnErr r (new ≡ old) → OnErr r (SameGraphs pool pool')
    → KeepsAdjacency old.table (slot_graphs pool old.slots) kept → KeepsAdjacency new.table (slot_graphs pool' new.slots) kept
kept_after (Ok x) old new pool pool' more others kept table graphs same same_graphs h =
    subst (λ (t : List (ℕ × Stands)). KeepsAdjacency t (slot_graphs pool' new.slots) kept) (sym table)
    (subst (λ gs. KeepsAdjacency (old.table ++ more) gs kept) (sym graphs) (kept_more old.table more (slot_graphs pool old.slots) others kept h))
kept_after (Err e) old new pool pool' more others kept table graphs same same_graphs h =
    subst (λ (s : HandlesState). KeepsAdjacency s.table (slot_graphs pool' s.slots) kept) (sym same) (kept_on pool pool' old kept same_graphs.slots h)

-- ---- a handle that ends

-- another one keeps its graph
among_without : (handle other : ℕ) (table : List (ℕ × Stands)) (graphs : List (List Element)) (set : List Element) → (handle == other) ≡ false
    → graph_among handle table graphs ≡ Some set → graph_among handle (without_handle other table) (graphs_without other table graphs) ≡ Some set
among_without handle other [] graphs set apart is = absurd (none-some set is)
among_without handle other (e ∷ table) [] set apart is = absurd (none-some set is)
among_without handle other (e ∷ table) (g ∷ graphs) set apart is = by (among_without handle other table graphs set apart) (e.0 == other) refl
  where
    left : List (ℕ × Stands)
    left = without_handle other table

    graphs_left : List (List Element)
    graphs_left = graphs_without other table graphs

    passed : (here : Bool) → (e.0 == handle) ≡ here → (e.0 == other) ≡ true → (if here then Some g else graph_among handle table graphs) ≡ Some set → graph_among handle table graphs ≡ Some set
    passed true same gone h = absurd (false≢true (sym apart ∙ eq-eqb handle other (sym (eqb-true e.0 handle same) ∙ eqb-true e.0 other gone)))
    passed false same gone h = h

    Rest : Type 0
    Rest = graph_among handle table graphs ≡ Some set → graph_among handle left graphs_left ≡ Some set

    next : Rest → (here : Bool) → (if here then Some g else graph_among handle table graphs) ≡ Some set → (if here then Some g else graph_among handle left graphs_left) ≡ Some set
    next rest true h = h
    next rest false h = rest h

    by : Rest → (gone : Bool) → (e.0 == other) ≡ gone → graph_among handle (if gone then table else e ∷ left) (if gone then graphs else g ∷ graphs_left) ≡ Some set
    by rest true same = passed (e.0 == handle) refl same is
    by rest false same = next rest (e.0 == handle) is

one_without : (handle : ℕ) (table : List (ℕ × Stands)) (graphs : List (List Element)) (kept : KeptEnds)
    → IsOfLiveHandle table graphs kept → IsOfLiveHandle (without_handle handle table) (graphs_without handle table graphs) (kept_but handle kept)
one_without handle table graphs None h = tt
one_without handle table graphs (Some k) h = by (k.0 == handle) refl
  where
    by : (same : Bool) → (k.0 == handle) ≡ same → IsOfLiveHandle (without_handle handle table) (graphs_without handle table graphs) (if same then None else Some k)
    by true e = tt
    by false e = (h.0, among_without k.0 handle table graphs h.0 e h.1, h.2)

-- what is kept, in this order or in the other
kept_turned : (table : List (ℕ × Stands)) (graphs : List (List Element)) (old new : KeptEnds × KeptEnds) → AreTurned old new
    → KeepsAdjacency table graphs old → KeepsAdjacency table graphs new
kept_turned table graphs old new (inl e) h = subst (KeepsAdjacency table graphs) (sym e) h
kept_turned table graphs old new (inr e) h = subst (KeepsAdjacency table graphs) (sym e) (h.1, h.0)

pub kept_without : (handle : ℕ) (table : List (ℕ × Stands)) (graphs : List (List Element)) (old new : KeptEnds × KeptEnds)
    → AreTurned (both_but handle old) new → KeepsAdjacency table graphs old → KeepsAdjacency (without_handle handle table) (graphs_without handle table graphs) new
kept_without handle table graphs old new turned h =
    kept_turned (without_handle handle table) (graphs_without handle table graphs) (both_but handle old) new turned
    (one_without handle table graphs old.0 h.0, one_without handle table graphs old.1 h.1)
