-- The answer to a query of a handle's graph.
use Rattle.std.proofs.Common.{◌≡◌, ℕ, Bool, true, false, ◌==◌, List, [], ◌∷◌, Option, Some, None, if◌then◌else◌, map, length, refl, sym, ◌∙◌, ap, subst}
use Rattle.std.specs.List.{All}
use Rattle.std.proofs.lemmas.Option.{none-some}
use Rattle.dg_ask.proofs.KeptAdjacencies.{kept_asked}
use Rattle.dg_ask.proofs.ReplyNames.{told_names}
use Rattle.dg_ask.specs.KeptAdjacency.{KeptEnds, MayTurnTo}
use Rattle.dg_ask.specs.ReplyNames.{ReplyNamesAreThere}
use Rattle.dg_batch.specs.Held.{IsHeld, graphs_held}
use Rattle.dg_batch.specs.declared.held.Held.{Held}
use Rattle.dg_graph.specs.declared.element.Columns.{Columns}
use Rattle.dg_graph.specs.declared.element.Element.{Element}
use Rattle.dg_handles.specs.Handles.{graph_among}
use Rattle.dg_history.specs.History.{History}
use Rattle.dg_machine.specs.declared.command.Command.TheVariants as command
use Rattle.dg_machine.specs.declared.query.Query.{Query}
use Rattle.dg_machine.specs.declared.reply.Reply.{Reply}
use Rattle.dg_machine.specs.declared.stands.Stands.{Stands}
use Rattle.dg_machine.specs.Answer.{columns_by, columns_if, elements_if, is_refusal, query_reply, say, shown_by}
use Rattle.dg_machine.specs.MachineState.{MachineState, elements, stands_at, history_in}
use Rattle.dg_machine.specs.Needs.{needs, nothing_more}
use Rattle.dg_machine.specs.QueryTable.{is_of_nodes}
use Rattle.dg_retrieval.specs.NamesThere.{NamesAreThere}
use Rattle.dg_session.proofs.GraphNames.{there_among}
use Rattle.dg_session.proofs.PartStates.{one_image, stands_on}
use Rattle.dg_session.proofs.ReplyNames.{names_stay}
use Rattle.dg_session.proofs.SessionSteps.{moved}
use Rattle.dg_session.specs.Decided.{Fits}
use Rattle.dg_session.specs.Parts.{Parts}
use Rattle.dg_session.specs.Session.{Accepts, StandsFor, refused_by}

-- ---- the table of handles

-- the graph of a handle is that of what it stands for, where all handles have theirs
graph_of_entry : (z : History) (handle : ℕ) (table : List (ℕ × Stands)) (graph : List Element)
    → graph_among handle table (map (λ (e : ℕ × Stands). elements z e.1) table) ≡ Some graph → elements_if z (stands_at handle table) ≡ graph
graph_of_entry z handle [] graph is = absurd (none-some graph is)
graph_of_entry z handle (e ∷ table) graph is = by (e.0 == handle) (graph_of_entry z handle table graph) is
  where
    by : (here : Bool) → (graph_among handle table (map (λ (e : ℕ × Stands). elements z e.1) table) ≡ Some graph → elements_if z (stands_at handle table) ≡ graph)
        → (if here then Some (elements z e.1) else graph_among handle table (map (λ (e : ℕ × Stands). elements z e.1) table)) ≡ Some graph
        → elements_if z (if here then Some e.1 else stands_at handle table) ≡ graph
    by true rest h = cc
    by false rest h = rest h

shown_are : (p : Parts) (image : List ℕ) (m : MachineState) (handle : ℕ) (graph : List Element) → StandsFor p image m → graph_among handle p.table p.graphs ≡ Some graph
    → shown_by m handle ≡ graph
shown_are p image m handle graph s is =
    graph_of_entry (history_in m.index) handle m.table graph ((λ i. graph_among handle (sym s.table i) (sym s.graphs i)) ∙ is)

-- ---- what is asked

-- what is refused of it is refused of a query that is of nodes or is not
pub ask_refused : (p : Parts) (handle : ℕ) (q : Query) (of_nodes : Bool) → of_nodes ≡ is_of_nodes q
    → refused_by p 0 (needs (command.Ask handle q)) ≡ refused_by p 0 (record nothing_more { handle = Some handle; overlay = of_nodes })
ask_refused p handle q of_nodes is = ap (λ b. refused_by p 0 (record nothing_more { handle = Some handle; overlay = b })) (sym is)

pub ask_answers : (handle : ℕ) (q : Query) (p : Parts) (graph : List Element) (image : Option (List ℕ)) (reply : Reply) → refused_by p 0 (needs (command.Ask handle q)) ≡ None → graph_among handle p.table p.graphs ≡ Some graph
    → reply ≡ query_reply q handle (columns_if (stands_at handle p.table)) graph → All (NamesAreThere (length p.names)) p.graphs → Accepts (command.Ask handle q) [] p image p image reply
ask_answers handle q p graph image reply free found is there =
    let cols : Columns = columns_if (stands_at handle p.table) in
    record {
      moves =
          moved (command.Ask handle q) [] p p image image reply (λ m. refl) free
          (λ m x y a b s none. (
            m,
            ap (λ g. say m (query_reply q handle (columns_by m handle) g)) (shown_are p x m handle graph s found)
                ∙ ap (λ t. say m (query_reply q handle (columns_if (stands_at handle t)) graph)) (sym s.table) ∙ ap (say m) (sym is),
            stands_on p p x y m refl (one_image image image x y refl a b) s,
          ));
      accepted = ap is_refusal is;
      free = free;
      fits = subst (Fits (command.Ask handle q)) (sym is) (refl, cols, graph, refl);
      held = λ h. h;
      no_index = λ h. (h, refl);
      quiet = λ h. refl;
      named = subst (ReplyNamesAreThere (length p.names)) (sym is) (told_names (length p.names) q handle cols graph (there_among (length p.names) handle p.table p.graphs graph there found));
      keeps_names = names_stay p.names p.names refl;
    }

-- what is held is held with what is kept behind a query of a live handle
pub held_asked : (h : Held) (handle asked : ℕ) (graph : List Element) (kept : KeptEnds × KeptEnds) → IsHeld h → graph_among handle h.handles.table (graphs_held h) ≡ Some graph → asked ≡ handle
    → MayTurnTo asked graph h.adjacency kept → IsHeld (record { live = record { history = h.live.history; pool = h.live.pool }; handles = h.handles; adjacency = kept })
held_asked h handle asked graph kept held is same turns = record {
  live = record { sound = held.live.sound; pool = held.live.pool };
  handles = record {
    tied = held.handles.tied;
    nodes = held.handles.nodes;
    adjacency =
        kept_asked handle h.handles.table (graphs_held h) graph h.adjacency kept is held.handles.adjacency (subst (λ (n : ℕ). MayTurnTo n graph h.adjacency kept) same turns);
    named = held.handles.named;
  };
}
