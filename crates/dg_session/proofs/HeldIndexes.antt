-- What a session lives on over another index: one that was made, or that of the upgraded file.
use Rattle.std.proofs.Common.{◌≡◌, ℕ, ◌*◌, ◌-◌, ◌≤◌, false, List, [], Option, Some, None, get_or, length, sym, ◌∙◌, ap, subst, arith}
use Rattle.std.specs.Prelude.{is_some}
use Rattle.std.proofs.lemmas.Bool.{false≢true}
use Rattle.std.proofs.lemmas.Option.{IfSome_then}
use Rattle.dg_ask.specs.HeldIndex.{HasNodeOf, HasNodes}
use Rattle.dg_batch.specs.Held.{IsHeld}
use Rattle.dg_batch.specs.declared.held.Held.{Held}
use Rattle.dg_file.specs.Index.{IndexState}
use Rattle.dg_graph.specs.declared.event.Event.{Event}
use Rattle.dg_history.specs.declared.form.Form.TheVariants as form
use Rattle.dg_history.specs.declared.params.Params.{Params}
use Rattle.dg_history.specs.EventTimes.{RisesFrom}
use Rattle.dg_history.specs.History.{last_time_from}
use Rattle.dg_index.specs.declared.entry.BatchEntry.{BatchEntry}
use Rattle.dg_index.specs.Hierarchy.{leaves}
use Rattle.dg_index.specs.IndexGrowth.{index_upgraded, name_total}
use Rattle.dg_index.specs.OpenedIndex.{Opening, bare, event_total, first_in, last_list}
use Rattle.dg_machine.specs.declared.stands.Stands.{Stands}
use Rattle.dg_machine.specs.MachineState.{base_node}
use Rattle.dg_session.specs.Upgrade.{with_index}
use Rattle.dg_stored.specs.StoredHistory.{IsSoundHistory, floor_of, index_opening}

-- ---- an upgrade

-- the form of the file and its length say nothing of the history
sound_upgraded : (o : Opening) (names : List (List ℕ)) (now : _) (recent : List Event) → IsSoundHistory (Some o) names now recent → IsSoundHistory (Some (index_upgraded o)) names now recent
sound_upgraded o names now recent s = record {
  pending = s.pending;
  counted = s.counted;
  values = s.values;
  named = s.named;
  recent_named = s.recent_named;
  fit = s.fit;
  goes_on = λ t le. let r = s.goes_on t le in record { rises = r.rises; last = r.last };
}

node_stays : (o : Opening) (s : Stands) → HasNodeOf (Some o) s → HasNodeOf (Some (index_upgraded o)) s
node_stays o s h = IfSome_then (base_node s.what) h (λ node has. has)

nodes_stay : (o : Opening) (table : List (ℕ × Stands)) → HasNodes (Some o) table → HasNodes (Some (index_upgraded o)) table
nodes_stay o table h = λ k d lt. node_stays o (get_or table k d).1 (h k d lt)

pub held_upgraded : (h : Held) (i : IndexState) (o : Opening) → index_opening h.live.history.index ≡ Some o → i.opening ≡ index_upgraded o → IsHeld h → IsHeld (with_index h i)
held_upgraded h i o there is held =
    let sound : IsSoundHistory (Some o) h.live.history.names h.live.history.now h.live.history.recent.items =
    subst (λ (x : Option Opening). IsSoundHistory x h.live.history.names h.live.history.now h.live.history.recent.items) there held.live.sound in
    let nodes : HasNodes (Some o) h.handles.table = subst (λ (x : Option Opening). HasNodes x h.handles.table) there held.handles.nodes in
    record {
      live = record {
        sound = subst (λ (x : Opening). IsSoundHistory (Some x) h.live.history.names h.live.history.now h.live.history.recent.items) (sym is)
            (sound_upgraded o h.live.history.names h.live.history.now h.live.history.recent.items sound);
        pool = held.live.pool;
      };
      handles = record {
        tied = held.handles.tied;
        nodes = subst (λ (x : Opening). HasNodes (Some x) h.handles.table) (sym is) (nodes_stay o h.handles.table nodes);
        adjacency = held.handles.adjacency;
        named = held.handles.named;
      };
    }

-- ---- an index that is made

-- it has no batch
made_sound : (o : Opening) (names : List (List ℕ)) (now : _) (recent : List Event) → o.batches ≡ [] → o.records ≡ [] → IsSoundHistory None names now recent → IsSoundHistory (Some o) names now recent
made_sound o names now recent none no_records s = record {
  pending = s.pending;
  counted = (
    ap length s.counted.0 ∙ sym (ap name_total none),
    ap length s.counted.2 ∙ (let e : 0 ≡ 0 - leaves o.params 0 * o.params.l = omega arith in e) ∙ sym (ap (λ (bs : List BatchEntry). event_total bs - leaves o.params (event_total bs) * o.params.l) none),
  );
  values = s.values;
  named = s.named;
  recent_named = s.recent_named;
  fit = s.fit;
  goes_on = λ t le.
      let floor : floor_of o t ≡ t = λ i. last_list (first_in t (none i)) (no_records i) in
      record {
        rises = subst (λ (es : List Event). RisesFrom (floor_of o t) es) (sym s.counted.2) tt;
        last = subst (λ (es : List Event). last_time_from (floor_of o t) es ≤ t) (sym s.counted.2) (omega (arith, floor));
      };
}

no_node : (o : Opening) (s : Stands) → HasNodeOf None s → HasNodeOf (Some o) s
no_node o s h = IfSome_then (base_node s.what) h (λ node none. absurd none)

pub held_made : (h : Held) (i : IndexState) (params : Params) → is_some (index_opening h.live.history.index) ≡ false → i.opening ≡ (bare form.Two params).index → IsHeld h → IsHeld (with_index h i)
held_made h i params none is held = by (index_opening h.live.history.index) none held.live.sound held.handles.nodes
  where
    by : (o : Option Opening) → is_some o ≡ false → IsSoundHistory o h.live.history.names h.live.history.now h.live.history.recent.items → HasNodes o h.handles.table → IsHeld (with_index h i)
    by (Some o) some sound nodes = absurd (false≢true (sym some))
    by None some sound nodes = record {
      live = record {
        sound = made_sound i.opening h.live.history.names h.live.history.now h.live.history.recent.items (ap (λ (o : Opening). o.batches) is) (ap (λ (o : Opening). o.records) is) sound;
        pool = held.live.pool;
      };
      handles = record {
        tied = held.handles.tied;
        nodes = λ k d lt. no_node i.opening (get_or h.handles.table k d).1 (nodes k d lt);
        adjacency = held.handles.adjacency;
        named = held.handles.named;
      };
    }
