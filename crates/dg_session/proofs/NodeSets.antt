-- No set of a node has a message.
use Rattle.std.proofs.Common.{◌≡◌, ℕ, Bool, true, false, cond, ◌||◌, List, [], ◌∷◌, Option, Some, None, sym, ◌∙◌, subst, refl}
use Rattle.std.specs.Prelude.{IfSome, nat_eq}
use Rattle.std.specs.Option.{option_eq, option_map}
use Rattle.std.proofs.lemmas.Bool.{false≢true}
use Rattle.dg_graph.specs.declared.element.Column.TheVariants.{Transient}
use Rattle.dg_graph.specs.declared.element.Element.{Element}
use Rattle.dg_graph.specs.declared.element.Element.TheVariants as element
use Rattle.dg_graph.specs.declared.event.Body.{Body}
use Rattle.dg_graph.specs.declared.event.Body.TheVariants as body
use Rattle.dg_graph.specs.declared.event.Event.{Event}
use Rattle.dg_graph.specs.Columns.{same_column}
use Rattle.dg_graph.specs.Effect.{added_by, moved}
use Rattle.dg_graph.specs.Elements.{column_of, has, same, with_one}
use Rattle.dg_graph.proofs.Sets.{element_exact, has-put}
use Rattle.dg_graph.specs.Replay.{replay}
use Rattle.dg_history.specs.declared.node.NodeId.{NodeId}
use Rattle.dg_history.specs.declared.node.NodeId.TheVariants as node
use Rattle.dg_history.specs.declared.params.Params.{Params}
use Rattle.dg_index.specs.EverAdded.{ever}
use Rattle.dg_index.specs.Hierarchy.{set_of}
use Rattle.dg_index.proofs.EverAddedBounds.{node_within, replay_within}

abbrev pub IsNoMessage : Element → Type 0
IsNoMessage x = same_column (column_of x) Transient ≡ false

moved_quiet : (make : ℕ → Element) → ((n : ℕ) → IsNoMessage (make n)) → (value other : Option ℕ) → IfSome (moved make value other) IsNoMessage
moved_quiet make quiet value other = by (option_eq nat_eq value other) value
  where
    by : (b : Bool) (v : Option ℕ) → IfSome (cond b None (option_map make v)) IsNoMessage
    by true v = tt
    by false None = tt
    by false (Some n) = quiet n

-- no event adds one
added_quiet : (b : Body) → IfSome (added_by b) IsNoMessage
added_quiet (body.NodeAdded id) = refl
added_quiet (body.NodeRemoved id) = tt
added_quiet (body.EdgeAdded directed id src dst) = refl
added_quiet (body.EdgeRemoved directed id src dst) = tt
added_quiet (body.NodeAttr k id old new) = moved_quiet (element.NodeAttr id k) (λ n. refl) new old
added_quiet (body.EdgeAttr k id old new) = moved_quiet (element.EdgeAttr id k) (λ n. refl) new old
added_quiet (body.Message src dst value) = tt

-- an element of a set, or one that is put into it
either_quiet : (q x : Element) (a b : Bool) → same q x ≡ a → (a || b) ≡ true → IsNoMessage x → (b ≡ true → IsNoMessage q) → IsNoMessage q
either_quiet q x true b is one quiet rest = subst IsNoMessage (sym (element_exact q x is)) quiet
either_quiet q x false b is one quiet rest = rest one

put_quiet : (set : List Element) (o : Option Element) (q : Element) → IfSome o IsNoMessage → (has set q ≡ true → IsNoMessage q) → has (with_one set o) q ≡ true → IsNoMessage q
put_quiet set None q quiet rest there = rest there
put_quiet set (Some x) q quiet rest there = either_quiet q x (same q x) (has set q) refl (sym (has-put x set q) ∙ there) quiet rest

ever_quiet : (events : List Event) (q : Element) → has (ever events) q ≡ true → IsNoMessage q
ever_quiet [] q h = absurd (false≢true h)
ever_quiet (e ∷ events) q h = put_quiet (ever events) (added_by e.body) q (added_quiet e.body) (ever_quiet events q) h

-- nor does a graph that events lead to
pub replay_quiet : (events : List Event) (q : Element) → has (replay events) q ≡ true → IsNoMessage q
replay_quiet events q h = ever_quiet events q (replay_within [] events q h)

pub node_quiet : (p : Params) (events : List Event) (v : NodeId) (q : Element) → has (set_of p events v) q ≡ true → IsNoMessage q
node_quiet p events node.Root q h = absurd (false≢true h)
node_quiet p events node.Now q h = ever_quiet events q (replay_within [] events q h)
node_quiet p events node.Recent q h = ever_quiet events q (node_within p events 0 _ q h)
node_quiet p events (node.Leaf j) q h = ever_quiet events q (node_within p events 0 j q h)
node_quiet p events (node.List i) q h = ever_quiet events q (node_within p events 0 i q h)
node_quiet p events (node.Inner h j) q there = ever_quiet events q (node_within p events h j q there)
