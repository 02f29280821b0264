-- The graphs to which leads come, as sets; and graphs without their messages.
use Rattle.std.proofs.Common.{◌≡◌, ℕ, ◌+◌, ◌<◌, ◌≤◌, Bool, true, false, List as ListOf, [], ◌∷◌, ◌++◌, Some, cond, drop, get_or, length, map, refl, sym, ◌∙◌, ap, subst, add-one}
use Rattle.std.specs.Prelude.{◌==◌}
use Rattle.std.proofs.lemmas.Bool.{false≢true}
use Rattle.std.proofs.lemmas.List.{append-nil, append_assoc, drop_all, drop_more}
use Rattle.dg_fold.specs.declared.writing.Writing.{Writing}
use Rattle.dg_fold.specs.Parts.{graph_columns}
use Rattle.dg_fold.specs.Writings.{composed_all, written_for}
use Rattle.dg_graph.specs.Columns.{same_column}
use Rattle.dg_graph.specs.declared.element.Column.{Column}
use Rattle.dg_graph.specs.declared.element.Column.TheVariants.{Structure, NodeAttr, EdgeAttr, Transient}
use Rattle.dg_graph.specs.declared.element.Columns.{Columns}
use Rattle.dg_graph.specs.declared.element.Element.{Element}
use Rattle.dg_graph.specs.declared.event.Event.{Event}
use Rattle.dg_graph.specs.Elements.{IsSet, asks, column_of, shown}
use Rattle.dg_graph.specs.Composition.{applied}
use Rattle.dg_graph.specs.Replay.{events_until, replay_at}
use Rattle.dg_handles.specs.Handles.{graph_among, members_at, slot_graphs, with_messages}
use Rattle.dg_machine.specs.declared.stands.Stands.{Stands}
use Rattle.dg_pool.specs.Graphs.{PoolState}
use Rattle.dg_retrieval.specs.declared.graph_lead.Beginning.{Beginning}
use Rattle.dg_retrieval.specs.Beginnings.{begun_with, leads_from, led_to}
use Rattle.dg_session.proofs.NodeLeads.{same_filter}
use Rattle.dg_session.proofs.NodeSets.{replay_quiet}

-- ---- the graph of a handle

-- it rises, where the graphs of all slots do
pub among_set : (p : PoolState) → ((s : ℕ) → IsSet (members_at p s)) → (h : ℕ) (table : ListOf (ℕ × Stands)) (slots : ListOf ℕ) (set : ListOf Element)
    → graph_among h table (slot_graphs p slots) ≡ Some set → IsSet set
among_set p sets h [] slots set is = absurd cc
among_set p sets h (e ∷ table) [] set is = absurd cc
among_set p sets h (e ∷ table) (s ∷ slots) set is = by (e.0 == h) (among_set p sets h table slots set) is
  where
    by : (b : Bool) → (graph_among h table (slot_graphs p slots) ≡ Some set → IsSet set) → cond b (Some (members_at p s)) (graph_among h table (slot_graphs p slots)) ≡ Some set → IsSet set
    by true rest here = let one : members_at p s ≡ set = cc in subst IsSet one (sets s)
    by false rest later = rest later

-- ---- the graphs to which leads come, one after another

module _ (now : ListOf Element) (held : ℕ → ListOf Element) (cols : Columns) (begins : ListOf Beginning) (writings : ListOf Writing) where
  -- those from this number on
  abbrev pub graphs_from : ℕ → ListOf (ListOf Element)
  graphs_from i = map (led_to now held cols) (leads_from i (drop i begins) writings)

  next_graphs : (i : ℕ) (d : Beginning) → i < length begins
      → graphs_from i ≡ shown (applied (composed_all (written_for i writings)) (begun_with now held (get_or begins i d))) cols ∷ graphs_from (i + 1)
  next_graphs i d below =
      ap (λ (l : ListOf Beginning). map (led_to now held cols) (leads_from i l writings)) (drop_more begins i d below)
      ∙ ap (λ k. shown (applied (composed_all (written_for i writings)) (begun_with now held (get_or begins i d))) cols ∷ map (led_to now held cols) (leads_from k (drop (i + 1) begins) writings)) (sym (add-one i))

  -- one more is what is led to from what it begins with
  pub graph_more : (i : ℕ) (d : Beginning) (sets : ListOf (ListOf Element)) (set begun : ListOf Element) → i < length begins → begun ≡ begun_with now held (get_or begins i d)
      → set ≡ shown (applied (composed_all (written_for i writings)) begun) cols → sets ++ graphs_from i ≡ graphs_from 0 → (sets ++ set ∷ []) ++ graphs_from (i + 1) ≡ graphs_from 0
  graph_more i d sets set begun below begins_so is all =
      let here : set ≡ shown (applied (composed_all (written_for i writings)) (begun_with now held (get_or begins i d))) cols =
      is ∙ ap (λ (s : ListOf Element). shown (applied (composed_all (written_for i writings)) s) cols) begins_so in
      append_assoc sets (set ∷ []) (graphs_from (i + 1))
      ∙ ap (λ (s : ListOf Element). sets ++ s ∷ graphs_from (i + 1)) here
      ∙ ap (λ (l : ListOf (ListOf Element)). sets ++ l) (sym (next_graphs i d below)) ∙ all

  pub graphs_done : (i : ℕ) (sets : ListOf (ListOf Element)) → length begins ≤ i → sets ++ graphs_from i ≡ graphs_from 0 → sets ≡ graphs_from 0
  graphs_done i sets whole all =
      sym (append-nil sets) ∙ ap (λ (l : ListOf Beginning). sets ++ map (led_to now held cols) (leads_from i l writings)) (sym (drop_all i begins whole)) ∙ all

-- ---- without messages

asks_without : (cols : Columns) (col : Column) → same_column col Transient ≡ false → asks (graph_columns cols) col ≡ asks cols col
asks_without cols Structure other = refl
asks_without cols NodeAttr other = refl
asks_without cols EdgeAttr other = refl
asks_without cols Transient other = absurd (false≢true (sym other))

-- the graph as of an instant has no message
pub shown_without : (events : ListOf Event) (t : ℕ) (cols : Columns) → shown (replay_at events t) (graph_columns cols) ≡ shown (replay_at events t) cols
shown_without events t cols =
    same_filter (λ x. asks (graph_columns cols) (column_of x)) (λ x. asks cols (column_of x)) (replay_at events t)
    (λ x there. asks_without cols (column_of x) (replay_quiet (events_until events t) x there))

-- what is shown of a graph in some columns is shown in the same with messages
pub shown_again : (cols : Columns) (set : ListOf Element) → shown (shown set cols) (with_messages cols) ≡ shown set cols
shown_again cols [] = refl
shown_again cols (x ∷ set) = by (asks cols (column_of x)) refl (shown_again cols set)
  where
    more : (col : Column) → asks cols col ≡ true → asks (with_messages cols) col ≡ true
    more Structure e = refl
    more NodeAttr e = e
    more EdgeAttr e = e
    more Transient e = refl

    by : (b : Bool) → asks cols (column_of x) ≡ b → shown (shown set cols) (with_messages cols) ≡ shown set cols
        → shown (cond b (x ∷ shown set cols) (shown set cols)) (with_messages cols) ≡ cond b (x ∷ shown set cols) (shown set cols)
    by true e rest = ap (λ b. cond b (x ∷ shown (shown set cols) (with_messages cols)) (shown (shown set cols) (with_messages cols))) (more (column_of x) e) ∙ ap (λ l. x ∷ l) rest
    by false e rest = rest
