-- Path independence: what the records along a walk compose to leads from where the walk begins to its end.
use Rattle.std.proofs.Common.{◌≡◌, ◌<◌, ℕ, Bool, true, false, cond, ◌&&◌, List, [], ◌∷◌, ◌++◌, filter, Some, nat_le, refl, sym, ap, subst, ◌∙◌, arith}
use Rattle.std.specs.List.{All}
use Rattle.std.proofs.lemmas.Bool.{false≢true}
use Rattle.std.proofs.lemmas.Bool.Decides.{nat_tests}
use Rattle.std.proofs.lemmas.List.{append-nil}
use Rattle.std.proofs.lemmas.List.Elements.{All-head, All-tail, filter-append}
use Rattle.dg_graph.specs.declared.element.Element.{Element}
use Rattle.dg_graph.specs.declared.element.Columns.{Columns}
use Rattle.dg_graph.specs.declared.event.Event.{Event}
use Rattle.dg_history.specs.declared.node.NodeId.{NodeId}
use Rattle.dg_history.specs.declared.node.NodeId.TheVariants.{Root}
use Rattle.dg_graph.specs.Composition.{Delta, applied, composition}
use Rattle.dg_graph.specs.Elements.{IsSet, has, shown, asks, column_of}
use Rattle.dg_graph.specs.Replay.{events_until, replay, replay_from, replay_at}
use Rattle.dg_graph.proofs.Sets.{same_members, has-filter, IsSet-filter}
use Rattle.dg_graph.proofs.ExactEvents.{replay_append}
use Rattle.dg_delta.specs.Deltas.{applied_in_turn, is_in_after}
use Rattle.dg_delta.proofs.Deltas.{decides_each_element, has-applied_in_turn, in_turn-append, IsSet-applied, IsSet-applied_in_turn}
use Rattle.dg_net.proofs.ReplayNets.{replays_in_turn}
use Rattle.dg_plan.specs.declared.edge.Edge.{Edge}
use Rattle.dg_plan.specs.declared.edge.Via.{Via}
use Rattle.dg_plan.specs.declared.edge.Via.TheVariants as via
use Rattle.dg_fold.specs.PathIndependence.{WalksLead, InstantsAreReached, forward, ComposesIn, Contents, via_deltas, walk_deltas, enters_held, DeltasLead, IsSoundEdge, IsWalk, begun_at}
use Rattle.dg_index.specs.IndexRecords.{Events}

-- ---- columns

-- what a delta does in some columns, where it composes there and the set is there as another
module _ (cols : Columns) (d : Delta) (list : List Delta) (set from : List Element) where
  at_asked : (x : Element) (b : Bool) → asks cols (column_of x) ≡ b
      → ComposesIn cols d list → shown set cols ≡ shown from cols
      → (b && has (applied d set) x) ≡ (b && has (applied_in_turn list from) x)
  at_asked x false is composes alike = refl
  at_asked x true is composes alike =
      let asked = λ (s : List Element). has-filter (λ y. asks cols (column_of y)) s x ∙ ap (λ b. b && has s x) is in
      let there : has set x ≡ has from x = sym (asked set) ∙ ap (λ s. has s x) alike ∙ asked from in
      decides_each_element d set x
      ∙ ap (λ w. is_in_after w (has set x)) (composes x is)
      ∙ ap (is_in_after (composition list x)) there
      ∙ sym (has-applied_in_turn list from x)

  pub shown_alike : ComposesIn cols d list → IsSet set → IsSet from → shown set cols ≡ shown from cols
      → shown (applied d set) cols ≡ shown (applied_in_turn list from) cols
  shown_alike composes s f alike =
      let p = λ (y : Element). asks cols (column_of y) in
      let left = applied d set in
      let right = applied_in_turn list from in
      same_members (shown left cols) (shown right cols)
      (IsSet-filter p left (IsSet-applied d set s))
      (IsSet-filter p right (IsSet-applied_in_turn list from f))
      (λ x. has-filter p left x ∙ at_asked x (p x) refl composes alike ∙ sym (has-filter p right x))

-- ---- walks

-- an edge to a set that is held whole does nothing
held_whole : (x : Contents) (v : Via) → enters_held v ≡ true → via_deltas x v ≡ []
held_whole x via.Now h = refl
held_whole x (via.Base handle) h = refl
held_whole x (via.Paid key way) h = absurd (false≢true h)
held_whole x (via.Held key way) h = absurd (false≢true h)
held_whole x (via.Recent way) h = absurd (false≢true h)

-- some deltas and then others
lead_on : (first later : List Delta) (from via to : List Element) → DeltasLead first from via → DeltasLead later via to → DeltasLead (first ++ later) from to
lead_on first later from via to f l =
    in_turn-append first later from ∙ ap (applied_in_turn later) f ∙ l

module _ (x : Contents) where
  -- a walk from another node than Root leads from its set to that of its end
  walk_leads : (walk : List Edge) → All (IsSoundEdge x) walk → (u v : NodeId) → (u ≡ Root → ⊥) → IsWalk u walk v
      → DeltasLead (walk_deltas x walk) (x.set u) (x.set v)
  walk_leads [] sound u v on w = ap x.set w
  walk_leads (e ∷ walk) sound u v on w =
      let here = All-head (IsSoundEdge x) e walk sound in
      let rest = walk_leads walk (All-tail (IsSoundEdge x) e walk sound) e.to v here.on w.1 in
      by (enters_held e.via) refl here rest
    where
      by : (b : Bool) → enters_held e.via ≡ b → IsSoundEdge x e → DeltasLead (walk_deltas x walk) (x.set e.to) (x.set v) → DeltasLead (walk_deltas x (e ∷ walk)) (x.set u) (x.set v)
      by true is here rest = absurd (on (sym w.0 ∙ here.begins is))
      by false is here rest =
          lead_on (via_deltas x e.via) (walk_deltas x walk) (x.set u) (x.set e.to) (x.set v)
          (ap (λ n. applied_in_turn (via_deltas x e.via) (x.set n)) (sym w.0) ∙ here.leads is) rest

  -- every walk leads from the set with which it begins
  pub begun_leads : (walk : List Edge) → All (IsSoundEdge x) walk → (u v : NodeId) → IsWalk u walk v
      → DeltasLead (walk_deltas x walk) (x.set (begun_at u walk)) (x.set v)
  begun_leads [] sound u v w = ap x.set w
  begun_leads (e ∷ walk) sound u v w = by (enters_held e.via) refl
    where
      here : IsSoundEdge x e
      here = All-head (IsSoundEdge x) e walk sound

      rest : DeltasLead (walk_deltas x walk) (x.set e.to) (x.set v)
      rest = walk_leads walk (All-tail (IsSoundEdge x) e walk sound) e.to v here.on w.1

      by : (b : Bool) → enters_held e.via ≡ b → DeltasLead (walk_deltas x (e ∷ walk)) (x.set (cond b e.to u)) (x.set v)
      by true is =
          subst (λ l. DeltasLead (l ++ walk_deltas x walk) (x.set e.to) (x.set v)) (sym (held_whole x e.via is)) rest
      by false is =
          lead_on (via_deltas x e.via) (walk_deltas x walk) (x.set u) (x.set e.to) (x.set v)
          (ap (λ n. applied_in_turn (via_deltas x e.via) (x.set n)) (sym w.0) ∙ here.leads is) rest

pub walks_lead : WalksLead
walks_lead x sets walk sound u v w cols d composes set s alike =
    shown_alike cols d (walk_deltas x walk) set (x.set (begun_at u walk)) composes s (sets (begun_at u walk)) alike
    ∙ ap (λ l. shown l cols) (begun_leads x walk sound u v w)

-- ---- instants

all_until : (t : ℕ) (events : List Event) → All (λ e. nat_le e.time t ≡ true) events → events_until events t ≡ events
all_until t [] h = refl
all_until t (e ∷ events) h =
    let P = λ (e : Event). nat_le e.time t ≡ true in
    ap (λ b. cond b (e ∷ events_until events t) (events_until events t)) (All-head P e events h)
    ∙ ap (λ l. e ∷ l) (all_until t events (All-tail P e events h))

none_until : (t : ℕ) (events : List Event) → All (λ e. t < e.time) events → events_until events t ≡ []
none_until t [] h = refl
none_until t (e ∷ events) h =
    let P = λ (e : Event). t < e.time in
    ap (λ b. cond b (e ∷ events_until events t) (events_until events t)) (later e.time (All-head P e events h))
    ∙ none_until t events (All-tail P e events h)
  where
    later : (n : ℕ) → t < n → nat_le n t ≡ false
    later n h = grind (arith, nat_tests)

-- the replay up to an instant, where all of the first events are up to it and none of the last
pub replay_until : (first next last : List Event) (t : ℕ)
    → All (λ e. nat_le e.time t ≡ true) first → All (λ e. t < e.time) last
    → replay_from (replay first) (events_until next t) ≡ replay_at (first ++ (next ++ last)) t
replay_until first next last t f l =
    let p = λ (e : Event). nat_le e.time t in
    sym (replay_append [] first (events_until next t))
    ∙ ap (replay_from []) (
    ap (λ xs. first ++ xs) (sym (append-nil (events_until next t)) ∙ ap (λ xs. events_until next t ++ xs) (sym (none_until t last l)))
    ∙ ap (λ xs. first ++ xs) (sym (filter-append p next last))
    ∙ ap (λ xs. xs ++ filter p (next ++ last)) (sym (all_until t first f))
    ∙ sym (filter-append p first (next ++ last)))

pub instants_are_reached : InstantsAreReached
instants_are_reached x sets walk sound u v w first next last t at f l cols d composes set s alike =
    let more = forward (Some t) (Events next) in
    let reached = begun_leads x walk sound u v w in
    let on = replays_in_turn (events_until next t) (x.set v) (sets v) ∙ ap (λ s. replay_from s (events_until next t)) at ∙ replay_until first next last t f l in
    shown_alike cols d (walk_deltas x walk ++ more) set (x.set (begun_at u walk)) composes s (sets (begun_at u walk)) alike
    ∙ ap (λ l. shown l cols)
    (lead_on (walk_deltas x walk) more (x.set (begun_at u walk)) (x.set v) (replay_at (first ++ (next ++ last)) t) reached on)
