-- What a session keeps of the state that it stands for, and the refusals that follow from it.
use Rattle.std.proofs.Common.{◌≡◌, ℕ, ◌+◌, Bool, true, false, not, List, [], ◌∷◌, ◌++◌, Option, Some, None, if◌then◌else◌, length, map, refl, sym, ◌∙◌, ap, subst, nat_le, nat_lt}
use Rattle.std.specs.Prelude.{◌*◌, ◌&&◌, ◌||◌, IfSome, is_some}
use Rattle.std.specs.List.{All}
use Rattle.std.specs.Option.{option_map}
use Rattle.std.proofs.lemmas.List.{map-append}
use Rattle.std.proofs.lemmas.List.Elements.{All-append, All-cons, All-nil}
use Rattle.std.proofs.lemmas.Option.{none-some}
use Rattle.dg_graph.specs.declared.element.Element.{Element}
use Rattle.dg_graph.specs.declared.event.Event.{Event}
use Rattle.dg_graph.specs.declared.limits.TheConstants.{SKEW_MAX}
use Rattle.dg_text.specs.declared.limits.TheConstants.{NAMES_MAX}
use Rattle.dg_aux.specs.Turns.{said_over}
use Rattle.dg_text.specs.Lines.{ScriptLine}
use Rattle.dg_text.specs.Names.{number_of}
use Rattle.dg_graph.specs.Replay.{replay}
use Rattle.dg_history.specs.declared.params.Params.{Params}
use Rattle.dg_history.specs.History.{History, are_parameters, events_of, is_wide, names_of, span_of}
use Rattle.dg_index.specs.ImageOfHistory.{IsImageOf, StandsAs}
use Rattle.dg_index.specs.IndexRecords.{recent_of}
use Rattle.dg_index.specs.OpenedIndex.{Opening, opened_of}
use Rattle.dg_machine.specs.declared.command.Command.{Command}
use Rattle.dg_machine.specs.declared.limits.Limits.{Limits}
use Rattle.dg_machine.specs.declared.limits.TheConstants.{HANDLE_MAX, INDEXES_MAX, LIVE_HANDLES_MAX}
use Rattle.dg_machine.specs.declared.reply.Refusal.{Refusal}
use Rattle.dg_machine.specs.declared.reply.Refusal.TheVariants as refusal
use Rattle.dg_machine.specs.declared.stands.Stands.{Stands}
use Rattle.dg_machine.specs.Answer.{with_handle}
use Rattle.dg_machine.specs.MachineState.{MachineState, dependent_on, elements, stands_at, events_in_index, graphs_of, history_in, names_in}
use Rattle.dg_machine.specs.Needs.{Needs, can_be_held, earliest, is_out_of_range, is_set, needs, of, refused, when}
use Rattle.dg_machine.specs.ValueIndex.{is_among}
use Rattle.dg_ask.proofs.HeldIndexHistory.{count_is, span_is}
use Rattle.dg_index.proofs.OpenedLegalHistories.{behind}
use Rattle.dg_ask.specs.HeldIndex.{events_held, params_held, span_held}
use Rattle.dg_session.proofs.IndexesSaid.{keys_of, many_of}
use Rattle.dg_session.specs.Parts.{Parts}
use Rattle.dg_session.specs.ValuesSaid.{IndexKept, said_of}
use Rattle.dg_session.specs.Session.{StandsFor, WhereBothTold, indexed_keys, is_reached, is_wide_held, refused_by}
use Rattle.dg_sound_files.proofs.OpenedIndexRecords.{form_is}
use Rattle.dg_stored.specs.StoredHistory.{KeepsHistory}

-- what an image of the history is opened as, without the names
abbrev pub opening_of : History → Opening
opening_of z = (opened_of z).index

-- the current graph of the machine's history
abbrev pub graph_in : Option History → List Element
graph_in index = replay (events_in_index index)

-- its events behind the last closed list
abbrev pub recent_in : Option History → List Event
recent_in None = []
recent_in (Some z) = recent_of z.params (events_of z)

-- what a session that stands for the state keeps, with these indexes of values
abbrev pub parts_of : MachineState → List IndexKept → Parts
parts_of m indexes = record {
  limits = m.limits;
  index = option_map opening_of m.index;
  names = names_in m.index;
  graph = graph_in m.index;
  recent = recent_in m.index;
  table = m.table;
  graphs = graphs_of m;
  next = m.next;
  indexes = indexes;
}

-- these indexes say of the keys of the state what its history says
abbrev pub AreOfKeys : MachineState → List IndexKept → Type 0
AreOfKeys m indexes = map said_of indexes ≡ map (said_over (events_of (history_in m.index))) m.indexes

-- what is kept of a history, or of none
pub record AreOf (index : Option History) (p : Parts) : Type 0 where
  pub index_is : p.index ≡ option_map opening_of index
  pub names_are : p.names ≡ names_in index
  pub graph_is : p.graph ≡ graph_in index
  pub recent_are : p.recent ≡ recent_in index

pub are_of : (index : Option History) (p : Parts) → KeepsHistory index p.index p.names p.graph p.recent → AreOf index p
are_of None p k = record { index_is = k.0; names_are = k.1; graph_is = k.2; recent_are = k.3 }
are_of (Some z) p k = record { index_is = k.index_is; names_are = k.names_are; graph_is = k.graph_is; recent_are = k.recent_are }

keeps : (index : Option History) (p : Parts) → AreOf index p → KeepsHistory index p.index p.names p.graph p.recent
keeps None p a = (a.index_is, a.names_are, a.graph_is, a.recent_are)
keeps (Some z) p a = record { index_is = a.index_is; names_are = a.names_are; graph_is = a.graph_is; recent_are = a.recent_are }

pub kept : (p : Parts) (image : List ℕ) (m : MachineState) → StandsFor p image m → p ≡ parts_of m p.indexes
kept p image m s =
    let a : AreOf m.index p = are_of m.index p s.kept in
    λ i. record {
      limits = s.limits i;
      index = a.index_is i;
      names = a.names_are i;
      graph = a.graph_is i;
      recent = a.recent_are i;
      table = s.table i;
      graphs = s.graphs i;
      next = s.next i;
      indexes = p.indexes;
    }

-- the instants of all live handles are in the history
abbrev pub AreReached : MachineState → Type 0
AreReached m = All (λ (e : ℕ × Stands). is_reached (history_in m.index) e.1 ≡ true) m.table

pub stands : (p : Parts) (image : List ℕ) (m : MachineState) (indexes : List IndexKept) → p ≡ parts_of m indexes → AreOfKeys m indexes → StandsAs m.index image → AreReached m → (m.index ≡ None → m.table ≡ [])
    → StandsFor p image m
stands p image m indexes is said here reached none = record {
  image_stands = here;
  kept = keeps m.index p (record {
    index_is = ap (λ (x : Parts). x.index) is;
    names_are = ap (λ (x : Parts). x.names) is;
    graph_is = ap (λ (x : Parts). x.graph) is;
    recent_are = ap (λ (x : Parts). x.recent) is;
  });
  limits = ap (λ (x : Parts). x.limits) is;
  table = ap (λ (x : Parts). x.table) is;
  graphs = ap (λ (x : Parts). x.graphs) is;
  reached = reached;
  next = ap (λ (x : Parts). x.next) is;
  indexes = ap (λ (x : Parts). map said_of x.indexes) is ∙ said;
  no_handles = none;
}

-- where no handle is live, nothing is listed, and no instant is asked for
pub no_graphs : (m k : MachineState) → m.table ≡ [] → k.table ≡ [] → graphs_of m ≡ graphs_of k
no_graphs m k none no_more =
    ap (map (λ (e : ℕ × Stands). elements (history_in m.index) e.1)) none ∙ sym (ap (map (λ (e : ℕ × Stands). elements (history_in k.index) e.1)) no_more)

pub no_handle_reached : (m : MachineState) → m.table ≡ [] → AreReached m
no_handle_reached m none =
    subst (All (λ (e : ℕ × Stands). is_reached (history_in m.index) e.1 ≡ true)) (sym none) (All-nil (λ (e : ℕ × Stands). is_reached (history_in m.index) e.1 ≡ true))

-- another session that keeps the same, over the same image
pub stands_on : (p q : Parts) (x y : List ℕ) (m : MachineState) → q ≡ p → x ≡ y → StandsFor p x m → StandsFor q y m
stands_on p q x y m is image s =
    subst (λ (z : Parts). StandsFor z y m) (sym is) (subst (λ (z : List ℕ). StandsFor p z m) image s)

-- ---- the machine's index, and its history

pub is_there : (index : Option History) → is_some (option_map opening_of index) ≡ is_some index
is_there None = refl
is_there (Some z) = refl

pub some_index : (o : Opening) (index : Option History) → Some o ≡ option_map opening_of index → (z : History) × (index ≡ Some z) × (o ≡ opening_of z)
some_index o None h = cc
some_index o (Some z) h = (z, refl, cc)

pub no_index : (index : Option History) → is_some (option_map opening_of index) ≡ false → index ≡ None
no_index None h = refl
no_index (Some z) h = cc

pub events_there : (index : Option History) → events_of (history_in index) ≡ events_in_index index
events_there None = refl
events_there (Some z) = refl

-- the history that the session stands for
pub record IsOf (p : Parts) (o : Opening) (image : List ℕ) (m : MachineState) (z : History) : Type 0 where
  pub index : m.index ≡ Some z
  pub opened : o ≡ opening_of z
  pub stands : IsImageOf z image
  pub names : p.names ≡ names_of z
  pub graph : p.graph ≡ replay (events_of z)
  pub recent : p.recent ≡ recent_of z.params (events_of z)

pub is_of : (p : Parts) (o : Opening) (image : List ℕ) (m : MachineState) → p.index ≡ Some o → StandsFor p image m → (z : History) × IsOf p o image m z
is_of p o image m there s =
    let a : AreOf m.index p = are_of m.index p s.kept in
    let z = some_index o m.index (sym there ∙ a.index_is) in (
      z.0,
      record {
        index = z.1;
        opened = z.2;
        stands = subst (λ (i : Option History). StandsAs i image) z.1 s.image_stands;
        names = a.names_are ∙ ap names_in z.1;
        graph = a.graph_is ∙ ap graph_in z.1;
        recent = a.recent_are ∙ ap recent_in z.1;
      },
    )

-- ---- refusals

-- the refusals, by the form and the parameters, by how many events there are, by the first and the last instant, by the names,
-- by the keys that are indexed and how many they are, and by the handles
abbrev refusals_of : Bool → Bool → Limits → Params → ℕ → Option (ℕ × ℕ) → List (List ℕ) → List ℕ → ℕ → List (ℕ × Stands) → ℕ → ℕ → Needs → List Refusal
refusals_of there wide limits params events span names keys many table next read n =
    of n.lines (λ count. when (nat_lt read count) (refusal.ShortBatch read count))
    ++ (when (n.index && not there) refusal.NoIndex
    ++ (of n.parameters (λ p. when there refusal.IndexExists)
    ++ (when (n.first_form && wide) refusal.NewFormat
    ++ (of n.parameters (λ p. when (not (are_parameters p.0 p.1 && nat_le p.2 SKEW_MAX)) refusal.Parameters)
    ++ (when (n.unloaded && is_some span) refusal.AlreadyLoaded
    ++ (when (nat_lt 0 n.changes && (nat_lt limits.events (events + n.changes) || nat_lt NAMES_MAX (length names + 2 * n.changes))) (refusal.HistoryFull events n.changes)
    ++ (when (is_out_of_range span n.instants n.until) (refusal.OutOfRange span)
    ++ (of n.handle (λ h. when (not (is_some (stands_at h table))) (refusal.UnknownHandle h))
    ++ (of n.handle (λ h. when (n.overlay && is_set (stands_at h table)) (refusal.NotAnOverlay h))
    ++ (of n.unused (λ h. of (dependent_on h table) (λ d. refusal.InUse d ∷ []))
    ++ (of n.node (λ v. when (not (can_be_held params events v)) refusal.UnknownNode)
    ++ (of n.unindexed (λ key. when (not (is_some (number_of names key))) refusal.UnknownKey)
    ++ (of n.indexed (λ key. when (not (is_among keys (number_of names key))) refusal.NotIndexed)
    ++ (of n.unindexed (λ key. when (is_among keys (number_of names key)) refusal.AlreadyIndexed)
    ++ (of n.unindexed (λ key. when (nat_le INDEXES_MAX many) refusal.IndexesFull)
    ++ (when (nat_lt 0 n.handles && nat_lt LIVE_HANDLES_MAX (length table + n.handles)) (refusal.PoolFull (length table) n.handles)
    ++ when (nat_lt 0 n.handles && nat_lt (HANDLE_MAX + 1) (next + n.handles)) refusal.HandlesSpent))))))))))))))))

held_wide : (index : Option History) (image : List ℕ) → StandsAs index image → is_wide_held (option_map opening_of index) ≡ is_wide (history_in index).form
held_wide None image h = refl
held_wide (Some z) image h = ap is_wide (form_is z h.legal)

held_params : (index : Option History) (image : List ℕ) → StandsAs index image → params_held (option_map opening_of index) ≡ (history_in index).params
held_params None image h = refl
held_params (Some z) image h = (behind z h.legal).params

held_events : (index : Option History) (image : List ℕ) → StandsAs index image → events_held (option_map opening_of index) ≡ length (events_in_index index)
held_events None image h = refl
held_events (Some z) image h = count_is z h.legal

held_span : (index : Option History) (image : List ℕ) → StandsAs index image → span_held (option_map opening_of index) ≡ span_of (events_in_index index)
held_span None image h = refl
held_span (Some z) image h = span_is z h.legal

pub there_is : (p : Parts) (image : List ℕ) (m : MachineState) → StandsFor p image m → is_some p.index ≡ is_some m.index
there_is p image m s = ap is_some (are_of m.index p s.kept).index_is ∙ is_there m.index

pub events_are : (p : Parts) (image : List ℕ) (m : MachineState) → StandsFor p image m → events_held p.index ≡ length (events_in_index m.index)
events_are p image m s = ap events_held (are_of m.index p s.kept).index_is ∙ held_events m.index image s.image_stands

pub form_are : (p : Parts) (image : List ℕ) (m : MachineState) → StandsFor p image m → is_wide_held p.index ≡ is_wide (history_in m.index).form
form_are p image m s = ap is_wide_held (are_of m.index p s.kept).index_is ∙ held_wide m.index image s.image_stands

pub params_are : (p : Parts) (image : List ℕ) (m : MachineState) → StandsFor p image m → params_held p.index ≡ (history_in m.index).params
params_are p image m s = ap params_held (are_of m.index p s.kept).index_is ∙ held_params m.index image s.image_stands

pub instants_are : (p : Parts) (image : List ℕ) (m : MachineState) → StandsFor p image m → span_held p.index ≡ span_of (events_in_index m.index)
instants_are p image m s = ap span_held (are_of m.index p s.kept).index_is ∙ held_span m.index image s.image_stands

-- the keys that are indexed, and how many indexes there are
pub keys_are : (p : Parts) (image : List ℕ) (m : MachineState) → StandsFor p image m → indexed_keys p ≡ m.indexes
keys_are p image m s = keys_of (events_of (history_in m.index)) p.indexes m.indexes s.indexes

pub many_indexes : (p : Parts) (image : List ℕ) (m : MachineState) → StandsFor p image m → length p.indexes ≡ length m.indexes
many_indexes p image m s = many_of (events_of (history_in m.index)) p.indexes m.indexes s.indexes

pub refused_is : (p : Parts) (image : List ℕ) (m : MachineState) (c : Command) (lines : List ScriptLine) → StandsFor p image m
    → refused_by p (length lines) (needs c) ≡ refused m c lines
refused_is p image m c lines s =
    let there : is_some p.index ≡ is_some m.index = there_is p image m s in
    let wide : is_wide_held p.index ≡ is_wide (history_in m.index).form = form_are p image m s in
    let params : params_held p.index ≡ (history_in m.index).params = params_are p image m s in
    let events : events_held p.index ≡ length (events_in_index m.index) = events_are p image m s in
    let span : span_held p.index ≡ span_of (events_in_index m.index) = instants_are p image m s in
    let names : p.names ≡ names_in m.index = (are_of m.index p s.kept).names_are in
    let keys : indexed_keys p ≡ m.indexes = keys_are p image m s in
    let many : length p.indexes ≡ length m.indexes = many_indexes p image m s in
    λ i. earliest (refusals_of (there i) (wide i) (s.limits i) (params i) (events i) (span i) (names i) (keys i) (many i) (s.table i) (s.next i) (length lines) (needs c))

-- the first of these does not hold
pub passes : (b : Bool) (r : Refusal) (rest : List Refusal) → earliest (when b r ++ rest) ≡ None → (b ≡ false) × (earliest rest ≡ None)
passes true r rest e = absurd (none-some r (sym e))
passes false r rest e = (refl, e)

pub hit : (b : Bool) (r : Refusal) (rest : List Refusal) → b ≡ true → earliest (when b r ++ rest) ≡ Some r
hit b r rest e = ap (λ t. earliest (when t r ++ rest)) e

pub miss : (b : Bool) (r : Refusal) (rest : List Refusal) → b ≡ false → earliest (when b r ++ rest) ≡ earliest rest
miss b r rest e = ap (λ t. earliest (when t r ++ rest)) e

-- the first of these, or the first of the rest
pub by_first : (b : Bool) (r : Refusal) (rest : List Refusal) → earliest (when b r ++ rest) ≡ (if b then Some r else earliest rest)
by_first true r rest = refl
by_first false r rest = refl

-- ---- images

-- both are told, and one is the other
pub one_image : (before after : Option (List ℕ)) (x y : List ℕ) → after ≡ before → before ≡ Some x → after ≡ Some y → x ≡ y
one_image before after x y same a b = let e : Some x ≡ Some y = sym a ∙ sym same ∙ b in cc

-- both images, as a lower layer tells them
pub both_told : (before after : Option (List ℕ)) (P : List ℕ → List ℕ → Type 0) → IfSome before (λ x. IfSome after (λ y. P x y)) → WhereBothTold before after P
both_told before after P h x y a b =
    subst (λ (o : Option (List ℕ)). IfSome o (λ image. P x image)) b
    (subst (λ (o : Option (List ℕ)). IfSome o (λ image. IfSome after (λ then_image. P image then_image))) a h)

pub one_told : (told : Option (List ℕ)) (P : List ℕ → Type 0) (x : List ℕ) → IfSome told P → told ≡ Some x → P x
one_told told P x h e = subst (λ (o : Option (List ℕ)). IfSome o P) e h

-- ---- a new handle

-- its elements are the last ones
graphs_with : (m : MachineState) (stands_as : Stands) → graphs_of m ++ elements (history_in m.index) stands_as ∷ [] ≡ graphs_of (with_handle m stands_as)
graphs_with m stands_as = sym (map-append (λ (e : ℕ × Stands). elements (history_in m.index) e.1) m.table ((m.next, stands_as) ∷ []))

-- the session keeps a new handle of the state, with the elements that it lists
pub handle_taken : (p q : Parts) (image : List ℕ) (m : MachineState) (stands_as : Stands) (graph : List Element) → StandsFor p image m → is_some p.index ≡ true
    → is_reached (history_in m.index) stands_as ≡ true → graph ≡ elements (history_in m.index) stands_as
    → q ≡ record p { table = p.table ++ (p.next, stands_as) ∷ []; graphs = p.graphs ++ graph ∷ []; next = p.next + 1 } → StandsFor q image (with_handle m stands_as)
handle_taken p q image m stands_as graph s there reached graph_is is =
    let reaches : ℕ × Stands → Type 0 = λ e. is_reached (history_in m.index) e.1 ≡ true in
    stands q image (with_handle m stands_as) p.indexes
    (is
    ∙ ap (λ (x : Parts). let y : Parts = record x { table = x.table ++ (x.next, stands_as) ∷ []; graphs = x.graphs ++ graph ∷ []; next = x.next + 1 } in y) (kept p image m s)
    ∙ ap (λ (g : List Element). let y : Parts = record (parts_of m p.indexes) { table = m.table ++ (m.next, stands_as) ∷ []; graphs = graphs_of m ++ g ∷ []; next = m.next + 1 } in y) graph_is
    ∙ ap (λ (gs : List (List Element)). let y : Parts = record (parts_of m p.indexes) { table = m.table ++ (m.next, stands_as) ∷ []; graphs = gs; next = m.next + 1 } in y) (graphs_with m stands_as))
    s.indexes s.image_stands
    (All-append reaches m.table ((m.next, stands_as) ∷ []) s.reached (All-cons reaches (m.next, stands_as) [] reached (All-nil reaches)))
    (λ none. let e : false ≡ true = ap is_some (sym none) ∙ sym (there_is p image m s) ∙ there in cc)

-- ---- what a session over the state is refused

pub last_passes : (b : Bool) (r : Refusal) → earliest (when b r) ≡ None → b ≡ false
last_passes true r e = absurd (none-some r (sym e))
last_passes false r e = refl
