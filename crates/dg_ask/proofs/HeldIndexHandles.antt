-- New handles: how many they are, and what they leave of the nodes that are held.
use Rattle.std.proofs.Common.{◌≡◌, ℕ, ◌+◌, true, List, [], ◌∷◌, ◌++◌, Option, Some, None, length, refl, sym, ◌∙◌, ap, subst, arith, append_assoc}
use Rattle.std.specs.Prelude.{Result, Ok, Err, OnOk, OnErr, is_some}
use Rattle.std.proofs.lemmas.Bool.{false≢true}
use Rattle.std.proofs.lemmas.List.{append-nil}
use Rattle.std.proofs.lemmas.List.Elements.{All-append, All-cons, All-nil, All-weaker}
use Rattle.dg_graph.specs.declared.element.Columns.{Columns}
use Rattle.dg_handles.specs.Handles.{HandlesState, numbered, overlays_on}
use Rattle.dg_history.specs.declared.node.NodeId.{NodeId}
use Rattle.dg_index.specs.OpenedIndex.{Opening, event_total}
use Rattle.dg_machine.specs.declared.stands.Stands.{Stands}
use Rattle.dg_machine.specs.declared.stands.Shown.TheVariants.{Overlay}
use Rattle.dg_machine.specs.Planning.{bases_in, usable}
use Rattle.dg_planner.specs.Whole.{PlannerGraph}
use Rattle.dg_retrieval.specs.KeptGraph.{kept_edges}
use Rattle.dg_ask.specs.HeldIndex.{HasNode, HasNodeOf, HasNodes, has_node_held}
use Rattle.dg_ask.specs.KeptPlanner.{IsGraphOver, IsKeptFor}

pub overlays_length : (cols : Columns) (times : List ℕ) (bases : List (Option ℕ)) → length bases ≡ length times → length (overlays_on cols times bases) ≡ length times
overlays_length cols [] bases many = refl
overlays_length cols (t ∷ times) [] many = absurd (omega arith)
overlays_length cols (t ∷ times) (b ∷ bases) many = let rest = overlays_length cols times bases (omega arith) in omega arith

-- new overlays hold no node
none_held : (index : Option Opening) (next : ℕ) (cols : Columns) (times : List ℕ) (bases : List (Option ℕ)) → HasNodes index (numbered next (overlays_on cols times bases))
none_held index next cols [] bases = All-nil (λ (e : ℕ × Stands). HasNodeOf index e.1)
none_held index next cols (t ∷ times) [] = All-nil (λ (e : ℕ × Stands). HasNodeOf index e.1)
none_held index next cols (t ∷ times) (b ∷ bases) =
    All-cons (λ (e : ℕ × Stands). HasNodeOf index e.1) (next, record { what = Overlay t b; cols = cols }) (numbered (next + 1) (overlays_on cols times bases)) tt (none_held index (next + 1) cols times bases)

pub nodes_with_overlays : (index : Option Opening) (table : List (ℕ × Stands)) (next : ℕ) (cols : Columns) (times : List ℕ) (bases : List (Option ℕ))
    → HasNodes index table → HasNodes index (table ++ numbered next (overlays_on cols times bases))
nodes_with_overlays index table next cols times bases h =
    All-append (λ (e : ℕ × Stands). HasNodeOf index e.1) table (numbered next (overlays_on cols times bases)) h (none_held index next cols times bases)

-- and cannot serve
none_serves : (asked : Columns) (next : ℕ) (cols : Columns) (times : List ℕ) (bases : List (Option ℕ)) → bases_in asked (numbered next (overlays_on cols times bases)) ≡ []
none_serves asked next cols [] bases = refl
none_serves asked next cols (t ∷ times) [] = refl
none_serves asked next cols (t ∷ times) (b ∷ bases) = none_serves asked (next + 1) cols times bases

bases_append : (asked : Columns) (xs ys : List (ℕ × Stands)) → bases_in asked (xs ++ ys) ≡ bases_in asked xs ++ bases_in asked ys
bases_append asked [] ys = refl
bases_append asked (x ∷ xs) ys =
    ap (λ (l : List (ℕ × NodeId)). usable asked x ++ l) (bases_append asked xs ys) ∙ sym (append_assoc (usable asked x) (bases_in asked xs) (bases_in asked ys))

pub bases_with_overlays : (asked : Columns) (table : List (ℕ × Stands)) (next : ℕ) (cols : Columns) (times : List ℕ) (bases : List (Option ℕ))
    → bases_in asked (table ++ numbered next (overlays_on cols times bases)) ≡ bases_in asked table
bases_with_overlays asked table next cols times bases =
    bases_append asked table (numbered next (overlays_on cols times bases))
    ∙ ap (λ (l : List (ℕ × NodeId)). bases_in asked table ++ l) (none_serves asked next cols times bases) ∙ append-nil (bases_in asked table)

-- planners are kept where the same handles can serve
graph_same : (index : Option Opening) (old new : List (ℕ × Stands)) → ((cols : Columns) → bases_in cols new ≡ bases_in cols old)
    → (k : Columns × PlannerGraph) → IsGraphOver index old k → IsGraphOver index new k
graph_same None old new same k h = h
graph_same (Some o) old new same k h = record {
  edges = h.edges ∙ ap (kept_edges o (event_total o.batches) k.0) (sym (same k.0));
  nodes = h.nodes;
}

pub kept_same : (index : Option Opening) (old new : List (ℕ × Stands)) (kept : List (Columns × PlannerGraph)) → ((cols : Columns) → bases_in cols new ≡ bases_in cols old)
    → IsKeptFor index old kept → IsKeptFor index new kept
kept_same index old new kept same h = All-weaker (IsGraphOver index old) (IsGraphOver index new) (graph_same index old new same) kept h

-- ---- by what a call answers

pub on_three : {A E P Q R S : Type 0} (r : Result A E) → (P → Q → R → S) → OnOk r P → OnOk r Q → OnOk r R → OnOk r S
on_three (Ok x) f p q s = f p q s
on_three (Err e) f p q s = tt

-- the nodes of the handles, whether the overlays were added or not
pub nodes_after : {A E : Type 0} (r : Result A E) (index : Option Opening) (old new : HandlesState) (cols : Columns) (times : List ℕ) (bases : List (Option ℕ))
    → OnOk r (new.table ≡ old.table ++ numbered old.next (overlays_on cols times bases)) → OnErr r (new ≡ old) → HasNodes index old.table → HasNodes index new.table
nodes_after (Ok x) index old new cols times bases added same h =
    subst (HasNodes index) (sym added) (nodes_with_overlays index old.table old.next cols times bases h)
nodes_after (Err e) index old new cols times bases added same h = subst (λ (s : HandlesState). HasNodes index s.table) (sym same) h

-- whether the handle of a set was added or not: of a node that the index has, or selected
pub set_after : {A E : Type 0} (r : Result A E) (index : Option Opening) (old new : HandlesState) (stands : Stands)
    → OnOk r (new.table ≡ old.table ++ (old.next, stands) ∷ []) → OnErr r (new ≡ old) → HasNodeOf index stands
    → HasNodes index old.table → HasNodes index new.table
set_after (Ok x) index old new stands added same has h =
    let Has : ℕ × Stands → Type 0 = λ e. HasNodeOf index e.1 in
    subst (HasNodes index) (sym added) (All-append Has old.table ((old.next, stands) ∷ []) h (All-cons Has (old.next, stands) [] has (All-nil Has)))
set_after (Err e) index old new stands added same has h = subst (λ (s : HandlesState). HasNodes index s.table) (sym same) h

-- the index has the node
pub node_there : (index : Option Opening) (node : NodeId) → is_some index ≡ true → has_node_held index node ≡ true → HasNode index node
node_there None node there has = false≢true there
node_there (Some o) node there has = has

pub kept_after : {A E : Type 0} (r : Result A E) (index : Option Opening) (old new : HandlesState) (kept : List (Columns × PlannerGraph)) (cols : Columns) (times : List ℕ) (bases : List (Option ℕ))
    → OnOk r (new.table ≡ old.table ++ numbered old.next (overlays_on cols times bases)) → OnErr r (new ≡ old) → IsKeptFor index old.table kept → IsKeptFor index new.table kept
kept_after (Ok x) index old new kept cols times bases added same h =
    kept_same index old.table new.table kept (λ asked. ap (bases_in asked) added ∙ bases_with_overlays asked old.table old.next cols times bases) h
kept_after (Err e) index old new kept cols times bases added same h = subst (λ (s : HandlesState). IsKeptFor index s.table kept) (sym same) h
