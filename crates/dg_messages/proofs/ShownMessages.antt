-- Messages that are put into a graph stand behind it where they are shown.
use Rattle.std.proofs.Common.{◌≡◌, ℕ, Bool, true, false, cond, ◌&&◌, ◌||◌, List, [], ◌∷◌, ◌++◌, Option, Some, None, IfSome, refl, sym, ap, subst, ◌∙◌}
use Rattle.std.specs.Prelude.{IsTrue, nat_eq}
use Rattle.std.specs.List.{All}
use Rattle.std.specs.Option.{option_eq, option_map}
use Rattle.std.proofs.lemmas.Bool.{false≢true}
use Rattle.std.proofs.lemmas.List.Elements.{All-filter, All-head, All-nil, All-tail}
use Rattle.std.proofs.lemmas.List.Folds.{list_any-append}
use Rattle.dg_delta.proofs.Deltas.{IsSet-applied}
use Rattle.dg_graph.proofs.Sets.{IsSet-filter, has-filter, same_members}
use Rattle.dg_graph.specs.Composition.{applied}
use Rattle.dg_graph.specs.declared.element.Columns.{Columns}
use Rattle.dg_graph.specs.declared.element.Element.{Element}
use Rattle.dg_graph.specs.declared.element.Element.TheVariants as element
use Rattle.dg_graph.specs.declared.event.Body.{Body}
use Rattle.dg_graph.specs.declared.event.Body.TheVariants as body
use Rattle.dg_graph.specs.declared.event.Event.{Event}
use Rattle.dg_graph.specs.Effect.{added_by, forwards, moved, removed_by}
use Rattle.dg_graph.specs.Elements.{IsBelowFirst, IsSet, asks, before, column_of, has, same, shown, without}
use Rattle.dg_graph.specs.Replay.{replay_from}
use Rattle.dg_heard.proofs.Told.{All-with_one, IsMessage, has-each}
use Rattle.dg_messages.proofs.MessagesBehind.{has-telling}
use Rattle.dg_messages.specs.Told.{telling}

-- ---- graphs have no messages

abbrev pub is_message : Element → Bool
is_message (element.Node id) = false
is_message (element.Edge directed id src dst) = false
is_message (element.NodeAttr id key value) = false
is_message (element.EdgeAttr id key value) = false
is_message (element.Message src dst value) = true

-- it is of a graph
abbrev pub IsOfGraph : Element → Type 0
IsOfGraph x = is_message x ≡ false

moved_of : (make : ℕ → Element) (value other : Option ℕ) → ((n : ℕ) → IsOfGraph (make n)) → IfSome (moved make value other) IsOfGraph
moved_of make value other made = by (option_eq nat_eq value other) value
  where
    by : (b : Bool) (v : Option ℕ) → IfSome (cond b None (option_map make v)) IsOfGraph
    by true v = tt
    by false None = tt
    by false (Some n) = made n

added_of : (b : Body) → IfSome (added_by b) IsOfGraph
added_of (body.NodeAdded id) = refl
added_of (body.NodeRemoved id) = tt
added_of (body.EdgeAdded directed id src dst) = refl
added_of (body.EdgeRemoved directed id src dst) = tt
added_of (body.NodeAttr key id old new) = moved_of (element.NodeAttr id key) new old (λ n. refl)
added_of (body.EdgeAttr key id old new) = moved_of (element.EdgeAttr id key) new old (λ n. refl)
added_of (body.Message src dst value) = tt

without_of : (set : List Element) (o : Option Element) → All IsOfGraph set → All IsOfGraph (without set o)
without_of set None all = all
without_of set (Some x) all = All-filter _ IsOfGraph set all

replay_of : (set : List Element) (events : List Event) → All IsOfGraph set → All IsOfGraph (replay_from set events)
replay_of set [] all = all
replay_of set (e ∷ events) all =
    replay_of (forwards set e) events (All-with_one IsOfGraph (without set (removed_by e.body)) (added_by e.body) (added_of e.body) (without_of set (removed_by e.body) all))

-- what comes of events has no messages
pub replayed_of : (events : List Event) → All IsOfGraph (replay_from [] events)
replayed_of events = replay_of [] events (All-nil IsOfGraph)

-- ---- messages are behind all else

message_after : (x y : Element) → IsOfGraph x → IsMessage y → IsTrue (before x y)
message_after (element.Node id) (element.Message src dst value) of is = refl
message_after (element.Edge directed id from to) (element.Message src dst value) of is = refl
message_after (element.NodeAttr id key old) (element.Message src dst value) of is = refl
message_after (element.EdgeAttr id key old) (element.Message src dst value) of is = refl
message_after (element.Message from to old) y of is = absurd (false≢true (sym of))
message_after x (element.Node id) of is = absurd cc
message_after x (element.Edge directed id src dst) of is = absurd cc
message_after x (element.NodeAttr id key value) of is = absurd cc
message_after x (element.EdgeAttr id key value) of is = absurd cc

below_behind : (x : Element) (graph messages : List Element) → IsOfGraph x → IsBelowFirst x graph → All IsMessage messages → IsBelowFirst x (graph ++ messages)
below_behind x [] [] of low all = tt
below_behind x [] (y ∷ messages) of low all = message_after x y of (All-head IsMessage y messages all)
below_behind x (g ∷ graph) messages of low all = low

-- a graph and messages behind it are a set
pub IsSet-behind : (graph messages : List Element) → IsSet graph → IsSet messages → All IsOfGraph graph → All IsMessage messages → IsSet (graph ++ messages)
IsSet-behind [] messages s m of all = m
IsSet-behind (x ∷ graph) messages s m of all =
    (below_behind x graph messages (All-head IsOfGraph x graph of) s.0 all, IsSet-behind graph messages s.1 m (All-tail IsOfGraph x graph of) all)

-- ---- what is shown

both : (asked here told : Bool) → (told ≡ true → asked ≡ true) → (asked && (here || told)) ≡ ((asked && here) || told)
both true here told shows = refl
both false here true shows = absurd (false≢true (shows refl))
both false here false shows = refl

-- where a set is shown as a graph is, it is so with messages that are put in as the graph is with these behind it
pub shown_behind : (set graph messages : List Element) (cols : Columns) → IsSet set → IsSet messages → All IsMessage messages → All IsOfGraph graph → cols.transient ≡ true
    → shown set cols ≡ shown graph cols → shown (applied (telling messages) set) cols ≡ shown graph cols ++ messages
shown_behind set graph messages cols s m all of asked same_shown =
    let test = λ (y : Element). asks cols (column_of y) in
    let whole = applied (telling messages) set in
    same_members (shown whole cols) (shown graph cols ++ messages)
    (IsSet-filter test whole (IsSet-applied (telling messages) set s))
    (IsSet-behind (shown graph cols) messages (subst IsSet same_shown (IsSet-filter test set s)) m (All-filter test IsOfGraph graph of) all)
    (λ x.
    has-filter test whole x
    ∙ ap (λ b. test x && b) (has-telling messages set x)
    ∙ both (test x) (has set x) (has messages x) (λ h. ap (asks cols) (has-each IsMessage messages x all h) ∙ asked)
    ∙ ap (λ b. b || has messages x) (sym (has-filter test set x) ∙ ap (λ (l : List Element). has l x) same_shown)
    ∙ sym (list_any-append (same x) (shown graph cols) messages))
