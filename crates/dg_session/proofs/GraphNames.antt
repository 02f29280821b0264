-- The names of the handles' graphs are there, also of new ones and of those that are left.
use Rattle.std.proofs.Common.{◌≡◌, ℕ, Bool, true, false, List, [], ◌∷◌, ◌++◌, Option, Some, None, Result, Ok, Err, map, refl, sym, subst}
use Rattle.std.specs.Prelude.{◌==◌, OnErr, OnOk, if◌then◌else◌, unwrap_or}
use Rattle.std.specs.List.{All}
use Rattle.std.proofs.lemmas.List.Elements.{All-append, All-cons, All-head, All-nil, All-tail}
use Rattle.dg_ask.proofs.KeptAdjacencies.{graphs_same}
use Rattle.dg_graph.specs.Composition.{Delta, applied}
use Rattle.dg_graph.specs.declared.element.Columns.{Columns}
use Rattle.dg_graph.specs.declared.element.Element.{Element}
use Rattle.dg_graph.specs.Elements.{asks, column_of, shown}
use Rattle.dg_handles.specs.Handles.{HandlesState, graph_among, graphs_without, held_by, slot_graphs}
use Rattle.dg_machine.specs.declared.stands.Stands.{Stands}
use Rattle.dg_pool.specs.Graphs.{PoolState, SameGraphs}
use Rattle.dg_retrieval.proofs.NamesThere.{led_there}
use Rattle.dg_retrieval.proofs.PutElements.{of_applied, of_filtered, of_none}
use Rattle.dg_retrieval.specs.declared.graph_lead.Beginning.{Beginning}
use Rattle.dg_retrieval.specs.declared.graph_lead.Beginning.TheVariants.{Base, Nothing, Now}
use Rattle.dg_retrieval.specs.Beginnings.{GraphLead, begun_with, led_to}
use Rattle.dg_retrieval.specs.NamesThere.{HasNamesThere, NamesAreThere}

module _ (n : ℕ) where
  -- the names of all these graphs are there
  abbrev pub AllThere : List (List Element) → Type 0
  AllThere graphs = All (NamesAreThere n) graphs

  pub there_without : (h : ℕ) (table : List (ℕ × Stands)) (graphs : List (List Element)) → AllThere graphs → AllThere (graphs_without h table graphs)
  there_without h [] graphs all = All-nil (NamesAreThere n)
  there_without h (e ∷ table) [] all = all
  there_without h (e ∷ table) (g ∷ graphs) all = by (e.0 == h) (there_without h table graphs (All-tail (NamesAreThere n) g graphs all))
    where
      by : (b : Bool) → AllThere (graphs_without h table graphs) → AllThere (if b then graphs else g ∷ graphs_without h table graphs)
      by true rest = All-tail (NamesAreThere n) g graphs all
      by false rest = All-cons (NamesAreThere n) g (graphs_without h table graphs) (All-head (NamesAreThere n) g graphs all) rest

  pub there_among : (h : ℕ) (table : List (ℕ × Stands)) (graphs : List (List Element)) (set : List Element) → AllThere graphs → graph_among h table graphs ≡ Some set → NamesAreThere n set
  there_among h [] graphs set all is = let e : (let o : Option (List Element) = None in o) ≡ Some set = is in cc
  there_among h (e ∷ table) [] set all is = let e : (let o : Option (List Element) = None in o) ≡ Some set = is in cc
  there_among h (e ∷ table) (g ∷ graphs) set all is = by (e.0 == h) (there_among h table graphs set (All-tail (NamesAreThere n) g graphs all)) is
    where
      by : (b : Bool) → (graph_among h table graphs ≡ Some set → NamesAreThere n set) → (if b then Some g else graph_among h table graphs) ≡ Some set → NamesAreThere n set
      by true rest same = let e : g ≡ set = cc in subst (NamesAreThere n) e (All-head (NamesAreThere n) g graphs all)
      by false rest same = rest same

  -- the graph of a handle, or none
  pub there_held : (table : List (ℕ × Stands)) (graphs : List (List Element)) → AllThere graphs → (h : ℕ) → NamesAreThere n (held_by table graphs h)
  there_held table graphs all h = by (graph_among h table graphs) refl
    where
      by : (o : Option (List Element)) → graph_among h table graphs ≡ o → NamesAreThere n (unwrap_or o [])
      by None is = of_none (HasNamesThere n)
      by (Some set) is = there_among h table graphs set all is

  -- what is shown of a set of a node
  pub there_base : (d : Delta) (cols : Columns) → NamesAreThere n d.plus → NamesAreThere n (shown (applied d []) cols)
  there_base d cols puts = of_filtered (HasNamesThere n) (λ x. asks cols (column_of x)) (applied d []) (of_applied (HasNamesThere n) d [] puts (of_none (HasNamesThere n)))

  module _ (now : List Element) (held : ℕ → List Element) (cols : Columns) (now_there : NamesAreThere n now) (held_there : (h : ℕ) → NamesAreThere n (held h)) where
    begun_there : (b : Beginning) → NamesAreThere n (begun_with now held b)
    begun_there Nothing = of_none (HasNamesThere n)
    begun_there Now = now_there
    begun_there (Base h) = held_there h

    -- the graphs to which leads come
    pub there_led : (leads : List GraphLead) → All (λ (l : GraphLead). NamesAreThere n l.delta.plus) leads → AllThere (map (led_to now held cols) leads)
    there_led [] puts = All-nil (NamesAreThere n)
    there_led (l ∷ leads) puts =
        All-cons (NamesAreThere n) (led_to now held cols l) (map (led_to now held cols) leads)
        (led_there n now held cols l (All-head (λ (l : GraphLead). NamesAreThere n l.delta.plus) l leads puts) (begun_there l.begins))
        (there_led leads (All-tail (λ (l : GraphLead). NamesAreThere n l.delta.plus) l leads puts))

  -- the graphs of the handles once more were added, or not
  pub there_after : {A E : Type 0} (r : Result A E) (old new : HandlesState) (before after : PoolState) (more : List (List Element)) → OnOk r (slot_graphs after new.slots ≡ slot_graphs before old.slots ++ more)
      → OnErr r (new ≡ old) → OnErr r (SameGraphs before after) → AllThere (slot_graphs before old.slots) → AllThere more → AllThere (slot_graphs after new.slots)
  there_after (Ok x) old new before after more graphs same same_graphs all others = subst AllThere (sym graphs) (All-append (NamesAreThere n) (slot_graphs before old.slots) more all others)
  there_after (Err e) old new before after more graphs same same_graphs all others =
      subst (λ (h : HandlesState). AllThere (slot_graphs after h.slots)) (sym same) (subst AllThere (sym (graphs_same before after same_graphs.slots old.slots)) all)
