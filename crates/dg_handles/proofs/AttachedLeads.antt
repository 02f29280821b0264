-- Slots that are given to what graphs begin with, and written: that they have the graphs to which the leads come.
use Rattle.std.proofs.Common.{◌≡◌, ℕ, suc, true, false, List, [], ◌∷◌, Some, None, All, length, map, refl, sym, ap, ◌∙◌, subst, ◌⊎◌, inl, inr, option_map}
use Rattle.std.specs.List.{AllByRecursion}
use Rattle.std.proofs.lemmas.Bool.{cases_Bool}
use Rattle.std.proofs.lemmas.List.Elements.{All-from_recursion, recursion_from_All}
use Rattle.dg_fold.specs.declared.writing.Writing.{Writing}
use Rattle.dg_fold.specs.Writings.{composed_all, written_for}
use Rattle.dg_graph.specs.declared.element.Columns.{Columns}
use Rattle.dg_graph.specs.Elements.{IsSet}
use Rattle.dg_handles.specs.Attached.{AreAttached, graph_begun, graph_led, resting}
use Rattle.dg_handles.specs.Handles.{BeginsOn, CanBegin, HandlesState, IsTied, held_by, slot_graphs}
use Rattle.dg_handles.specs.Written.{AreWritten, graph_after_all}
use Rattle.dg_handles.proofs.AttachedSlots.{attached_live, front, none_on_new, rest}
use Rattle.dg_handles.proofs.HandleTies.{base_slot, held_at}
use Rattle.dg_handles.proofs.WrittenSlots.{led_by_all}
use Rattle.dg_pool.specs.Changes.{CanChange}
use Rattle.dg_pool.specs.Graphs.{PoolState, SameGraphs, SlotGraph, graph_now, is_listed, slot_graph}
use Rattle.dg_pool.specs.Sweeps.{members_as}
use Rattle.dg_retrieval.specs.Beginnings.{GraphLead, base_handle, begun_with, leads_from}
use Rattle.dg_retrieval.specs.declared.graph_lead.Beginning.{Beginning}
use Rattle.dg_retrieval.specs.declared.graph_lead.Beginning.TheVariants as begins

-- ---- what the leads begin with

pub leads_many : (n : ℕ) (begun : List Beginning) (ws : List Writing) → length (leads_from n begun ws) ≡ length begun
leads_many n [] ws = refl
leads_many n (b ∷ begun) ws = ap suc (leads_many (suc n) begun ws)

pub handles_begun : (n : ℕ) (begun : List Beginning) (ws : List Writing) → map (λ (l : GraphLead). base_handle l.begins) (leads_from n begun ws) ≡ map base_handle begun
handles_begun n [] ws = refl
handles_begun n (b ∷ begun) ws = ap (λ l. base_handle b ∷ l) (handles_begun (suc n) begun ws)

all_begun : (Q : Beginning → Type 0) (n : ℕ) (begun : List Beginning) (ws : List Writing) → AllByRecursion (λ (l : GraphLead). Q l.begins) (leads_from n begun ws) → AllByRecursion Q begun
all_begun Q n [] ws all = tt
all_begun Q n (b ∷ begun) ws all = (all.0, all_begun Q (suc n) begun ws all.1)

pub can_begin : (h : HandlesState) (cols : Columns) (begun : List Beginning) (ws : List Writing) → All (BeginsOn h.table cols) (leads_from 0 begun ws) → All (CanBegin h.table cols) begun
can_begin h cols begun ws all =
    All-from_recursion (CanBegin h.table cols) begun (all_begun (CanBegin h.table cols) 0 begun ws (recursion_from_All (BeginsOn h.table cols) (leads_from 0 begun ws) all))

-- ---- over a tie

module _ (old : PoolState) (h : HandlesState) (t : IsTied old h) (cols : Columns) where
  begun_set : ((s : ℕ) → IsSet (members_as (slot_graph old s))) → IsSet (graph_now old) → (b : Beginning) → CanBegin h.table cols b
      → IsSet (begun_with (graph_now old) (held_by h.table (slot_graphs old h.slots)) b)
  begun_set sets now begins.Nothing on = tt
  begun_set sets now begins.Now on = now
  begun_set sets now (begins.Base handle) on =
      let r = base_slot old h t handle cols (on handle refl) in
      subst IsSet (sym (held_at old h t handle r.0 r.1)) (sets r.0)

  -- slots that were given may be changed
  pub can_change_new : (new : PoolState) (slots : List ℕ) (begun : List Beginning) → All (CanBegin h.table cols) begun → AreAttached old new slots (map (graph_begun h old cols) begun) → CanChange slots new
  can_change_new new slots begun on a = record {
    live = attached_live old new slots (map (graph_begun h old cols) begun) a;
    apart = a.apart;
    unused = none_on_new old new h t cols slots begun on a;
  }

  module _ (sets : (s : ℕ) → IsSet (members_as (slot_graph old s))) (now : IsSet (graph_now old)) (mid new : PoolState) (ws : List Writing) where
    led : (n : ℕ) (slots : List ℕ) (begun : List Beginning) → AllByRecursion (CanBegin h.table cols) begun → AreWritten n slots ws mid new
        → map (slot_graph mid) slots ≡ map (λ g. Some g) (map (graph_begun h old cols) begun)
        → map (slot_graph new) slots ≡ map (λ g. Some g) (map (graph_led h old cols) (leads_from n begun ws))
    led n [] [] on written same = refl
    led n [] (b ∷ begun) on written same = cc
    led n (s ∷ slots) [] on written same = cc
    led n (s ∷ slots) (b ∷ begun) on written same =
        let set = begun_with (graph_now old) (held_by h.table (slot_graphs old h.slots)) b in
        let here : slot_graph new s ≡ Some (graph_led h old cols (record { begins = b; delta = composed_all (written_for n ws) })) =
        written.0 ∙ ap (λ o. option_map (graph_after_all (written_for n ws)) (front o)) same
        ∙ ap (λ x. Some x) (led_by_all (written_for n ws) (resting h b) cols set (begun_set sets now b on.0)) in
        let later = led (suc n) slots begun on.1 written.1 (ap rest same) in
        λ i. here i ∷ later i

    -- and have the graphs to which the leads come once all deltas are written
    pub attached_written : (slots : List ℕ) (begun : List Beginning) → All (CanBegin h.table cols) begun → AreAttached old mid slots (map (graph_begun h old cols) begun)
        → AreWritten 0 slots ws mid new → ((s : ℕ) → is_listed slots s ≡ false → slot_graph new s ≡ slot_graph mid s) → graph_now new ≡ graph_now mid
        → AreAttached old new slots (map (graph_led h old cols) (leads_from 0 begun ws))
    attached_written slots begun on a written others kept = record {
      fresh = a.fresh;
      apart = a.apart;
      hold = led 0 slots begun (recursion_from_All (CanBegin h.table cols) begun on) written a.hold;
      others = λ s e. others s e ∙ a.others s e;
      now = kept ∙ a.now;
    }

-- ---- slots that were given and are ended

pub attached_ended : (old mid new last : PoolState) (slots : List ℕ) (graphs : List SlotGraph) → AreAttached old mid slots graphs
    → ((s : ℕ) → is_listed slots s ≡ false → slot_graph new s ≡ slot_graph mid s) → graph_now new ≡ graph_now mid
    → ((s : ℕ) → is_listed slots s ≡ true → slot_graph last s ≡ None) → ((s : ℕ) → is_listed slots s ≡ false → slot_graph last s ≡ slot_graph new s) → graph_now last ≡ graph_now new
    → SameGraphs old last
attached_ended old mid new last slots graphs a others kept gone ended now = record {
  now = now ∙ kept ∙ a.now;
  slots = λ s. at s (cases_Bool (is_listed slots s));
}
  where
    at : (s : ℕ) → (is_listed slots s ≡ true) ⊎ (is_listed slots s ≡ false) → slot_graph last s ≡ slot_graph old s
    at s (inl e) = gone s e ∙ sym (a.fresh s e)
    at s (inr e) = ended s e ∙ others s e ∙ a.others s e
