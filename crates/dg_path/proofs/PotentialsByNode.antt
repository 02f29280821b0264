-- Potentials that are put into a map from the last one on.
use Rattle.std.proofs.Common.{◌≡◌, ℕ, Bool, true, false, cond, List, ◌∷◌, Option, Some, refl, sym, ap, ◌∙◌}
use Rattle.std.specs.Map.{lookup}
use Rattle.std.specs.Option.{unwrap_or}
use Rattle.dg_history.specs.declared.node.NodeId.{NodeId}
use Rattle.dg_history.specs.contracts.node.NodeIdPartialEq.TheImpl as of_nodes
use Rattle.dg_plan.specs.CertificateLines.{potential_in}
use Rattle.dg_plan.specs.InstantPoint.{same_node}
use Rattle.dg_path.proofs.InstantPointNodes.{derived_is, derived_look}

found : (b : Bool) (value other : ℕ) (o : Option ℕ) (rest : ℕ) → unwrap_or o other ≡ rest → unwrap_or (cond b (Some value) o) other ≡ cond b value rest
found true value other o rest e = refl
found false value other o rest e = e

-- the potential that is put in stands before the others
pub put_before : (old new rest all : List (NodeId × ℕ)) (node : NodeId) (value other : ℕ) → all ≡ (node, value) ∷ rest
    → ((q : NodeId) → lookup ((of_nodes.ghosts).eq q) new ≡ cond ((of_nodes.ghosts).eq node q) (Some value) (lookup ((of_nodes.ghosts).eq q) old))
    → ((q : NodeId) → unwrap_or (lookup (same_node q) old) other ≡ potential_in other rest q)
    → (q : NodeId) → unwrap_or (lookup (same_node q) new) other ≡ potential_in other all q
put_before old new rest all node value other is put before q =
    ap (λ o. unwrap_or o other) (sym (derived_look new q) ∙ put q ∙ (λ i. cond (derived_is node q i) (Some value) (derived_look old q i)))
    ∙ found (same_node node q) value other (lookup (same_node q) old) (potential_in other rest q) (before q)
    ∙ ap (λ l. potential_in other l q) (sym is)
