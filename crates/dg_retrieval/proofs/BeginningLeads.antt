-- The beginnings of paths as they are found, edge by edge from the last one, and what leads from them.
use Rattle.std.proofs.Common.{◌≡◌, ℕ, zero, suc, ◌+◌, ◌<◌, Bool, List as ListOf, [], ◌∷◌, drop, get_or, length, refl, sym, ap, ◌∙◌, arith}
use Rattle.std.specs.Prelude.{if◌then◌else◌}
use Rattle.std.proofs.lemmas.List.{drop_more}
use Rattle.dg_fold.specs.declared.writing.Writing.{Writing}
use Rattle.dg_fold.specs.Writings.{composed_all, written_for}
use Rattle.dg_history.specs.declared.node.NodeId.{NodeId}
use Rattle.dg_plan.specs.declared.edge.Edge.{Edge}
use Rattle.dg_plan.specs.IndexGraph.{is_root}
use Rattle.dg_plan.specs.InstantPoint.{same_node}
use Rattle.dg_retrieval.specs.declared.graph_lead.Beginning.{Beginning}
use Rattle.dg_retrieval.specs.Beginnings.{GraphLead, begun_behind, beginning_by, leads_from}

-- what is found at the next edge, by what the two tests say of it
pub found_at : (back : ListOf Edge) (k : ℕ) (e : Edge) (n : NodeId) → (k < length back) × (e ≡ get_or back k e) → (b c : Bool) → same_node n e.to ≡ b → is_root e.from ≡ c
    → begun_behind (drop k back) n ≡ (if b then (if c then beginning_by e.via else begun_behind (drop (k + 1) back) e.from) else begun_behind (drop (k + 1) back) n)
found_at back k e n here b c same root =
    ap (λ (es : ListOf Edge). begun_behind es n) (drop_more back k e here.0 ∙ ap (λ (x : Edge). x ∷ drop (k + 1) back) (sym here.1))
    ∙ (λ i. if same i then (if root i then beginning_by e.via else begun_behind (drop (k + 1) back) e.from) else begun_behind (drop (k + 1) back) n)

-- ---- what leads from beginnings

-- something leads from each
pub leads_many : (n : ℕ) (begins : ListOf Beginning) (writings : ListOf Writing) → length (leads_from n begins writings) ≡ length begins
leads_many n [] writings = refl
leads_many n (b ∷ begins) writings = ap (λ k. suc k) (leads_many (suc n) begins writings)

-- what is written for it, as one
pub delta_led : (n i m : ℕ) (begins : ListOf Beginning) (writings : ListOf Writing) (d : GraphLead) → m ≡ n + i → i < length begins
    → (get_or (leads_from n begins writings) i d).delta ≡ composed_all (written_for m writings)
delta_led n i m [] writings d is h = absurd (omega arith)
delta_led n zero m (b ∷ begins) writings d is h = ap (λ k. composed_all (written_for k writings)) (omega arith)
delta_led n (suc i) m (b ∷ begins) writings d is h = delta_led (suc n) i m begins writings d (omega arith) (omega arith)
