-- Over an image of a history: the graphs with their messages.
use Rattle.std.proofs.Common.{◌≡◌, ℕ, true, cond, List, [], ◌∷◌, ◌++◌, Ok, Err, inl, inr, map, refl, sym, ap, subst, ◌∙◌}
use Rattle.std.specs.Prelude.{IsErr, IsErrAnd, Result}
use Rattle.std.specs.List.{All}
use Rattle.std.proofs.lemmas.List.Elements.{All-head, All-tail}
use Rattle.dg_graph.specs.Composition.{applied}
use Rattle.dg_graph.specs.declared.element.Columns.{Columns}
use Rattle.dg_graph.specs.declared.element.Element.{Element}
use Rattle.dg_graph.specs.declared.event.Event.{Event}
use Rattle.dg_graph.specs.Elements.{IsSet, shown}
use Rattle.dg_graph.specs.Replay.{events_until, replay_at, shown_at, told_at}
use Rattle.dg_delta.proofs.Deltas.{IsSet-applied}
use Rattle.dg_heard.proofs.Told.{IsSet-told, told_messages}
use Rattle.dg_heard.specs.Heard.{heard_events}
use Rattle.dg_heard.specs.HistoryLaw.{HearsHistory}
use Rattle.dg_history.specs.History.{History, events_of}
use Rattle.dg_index.specs.IndexRecords.{recent_of}
use Rattle.dg_index.specs.OpenedIndex.{Opening}
use Rattle.dg_messages.proofs.ShownMessages.{replayed_of, shown_behind}
use Rattle.dg_messages.specs.Calls.{HearsOver, IsFirstMessageDamage}
use Rattle.dg_messages.specs.Told.{AreToldIn, TellBehind, TellsBehind}
use Rattle.dg_retrieval.specs.Beginnings.{GraphLead, begun_with, leads_in, led_to}
use Rattle.dg_records.specs.declared.fault.RecordFault.{RecordFault}
use Rattle.dg_records.specs.declared.fault.RecordFault.TheVariants as fault
use Rattle.dg_retrieval.specs.declared.retrieval.Retrieved.{Retrieved}
use Rattle.dg_retrieval.specs.Retrieval.{IsNoDamage, IsOver}

-- ---- the graphs

module _ (events : List Event) (now : List Element) (held : ℕ → List Element) (cols : Columns) (asked : cols.transient ≡ true) where
  one_shown : (t : ℕ) (lead told : GraphLead) → TellsBehind lead told (told_at events t) → IsSet (begun_with now held lead.begins) → led_to now held cols lead ≡ shown (replay_at events t) cols
      → led_to now held cols told ≡ shown_at events t cols
  one_shown t lead told behind s is =
      let begun = begun_with now held lead.begins in
      let set = applied lead.delta begun in
      (λ i. shown (applied told.delta (begun_with now held (behind.begins i))) cols)
      ∙ ap (λ l. shown l cols) (behind.delta begun s)
      ∙ shown_behind set (replay_at events t) (told_at events t) cols (IsSet-applied lead.delta begun s) (IsSet-told events t) (told_messages events t) (replayed_of (events_until events t)) asked is
      ∙ sym (ap (λ b. shown (replay_at events t) cols ++ cond b (told_at events t) []) asked)

  all_shown : (times : List ℕ) (leads more : List GraphLead) → TellBehind leads more (map (told_at events) times)
      → All (λ (l : GraphLead). IsSet (begun_with now held l.begins)) leads → map (led_to now held cols) leads ≡ map (λ t. shown (replay_at events t) cols) times
      → map (led_to now held cols) more ≡ map (λ t. shown_at events t cols) times
  all_shown [] [] [] behind sets is = refl
  all_shown [] [] (told ∷ more) behind sets is = absurd behind
  all_shown [] (lead ∷ leads) [] behind sets is = absurd behind
  all_shown [] (lead ∷ leads) (told ∷ more) behind sets is = absurd behind
  all_shown (t ∷ times) [] [] behind sets is = absurd behind
  all_shown (t ∷ times) [] (told ∷ more) behind sets is = absurd behind
  all_shown (t ∷ times) (lead ∷ leads) [] behind sets is = absurd behind
  all_shown (t ∷ times) (lead ∷ leads) (told ∷ more) behind sets is =
      let here : led_to now held cols lead ≡ shown (replay_at events t) cols = cc in
      let later : map (led_to now held cols) leads ≡ map (λ u. shown (replay_at events u) cols) times = cc in
      let S = λ (l : GraphLead). IsSet (begun_with now held l.begins) in
      let first = one_shown t lead told behind.0 (All-head S lead leads sets) here in
      let rest = all_shown times leads more behind.1 (All-tail S lead leads sets) later in
      λ i. first i ∷ rest i

-- ---- over an image of a history

told_each : (f g : ℕ → List Element) (times : List ℕ) → All (λ t. f t ≡ g t) times → map f times ≡ map g times
told_each f g [] all = refl
told_each f g (t ∷ times) all =
    let first = All-head (λ u. f u ≡ g u) t times all in
    let rest = told_each f g times (All-tail (λ u. f u ≡ g u) t times all) in
    λ i. first i ∷ rest i

module _ (z : History) (image : List ℕ) (o : Opening) (names : ℕ) (now : List Element) (recent : List Event) (times : List ℕ) (over : IsOver z image o names now recent) (hears : HearsHistory z image times) where
  heard_is : heard_events names image o times ≡ Ok hears.events
  heard_is = (λ i. heard_events (over.names i) image (over.opened i) times) ∙ hears.heard

  -- the sets are the messages of the instants
  sets_are : (sets : List (List Element)) → AreToldIn names image o recent times sets → sets ≡ map (told_at (events_of z)) times
  sets_are sets told =
      let same : told.0 ≡ hears.events = (let both : Ok told.0 ≡ Ok hears.events = sym told.1 ∙ heard_is in cc) in
      told.2 ∙ (λ i. map (told_at (same i ++ over.recent i)) times)
      ∙ told_each (told_at (hears.events ++ recent_of z.params (events_of z))) (told_at (events_of z)) times hears.told

  -- no column that is heard is damaged
  pub none_damaged : (f : RecordFault) → IsFirstMessageDamage names image o times f → IsNoDamage f
  none_damaged fault.Disk first = inl refl
  none_damaged fault.Memory first = inr refl
  none_damaged (fault.Damaged k col) first = absurd (let both : Err first.0 ≡ Ok hears.events = sym first.1 ∙ heard_is in cc)

  pub hears_graphs : (old new : Retrieved) (sets : List (List Element)) → AreToldIn names image o recent times sets → TellBehind (leads_in old.leads) (leads_in new.leads) sets → HearsOver z times old (Ok new)
  hears_graphs old new sets told behind = record {
    graphs = λ n held cols asked begun is.
        all_shown (events_of z) n held cols asked times (leads_in old.leads) (leads_in new.leads)
        (subst (TellBehind (leads_in old.leads) (leads_in new.leads)) (sets_are sets told) behind) begun is;
    never = tt;
  }

-- where nothing is given, no damage is told
pub hears_nothing : {z : History} {times : List ℕ} {old : Retrieved} (r : Result Retrieved RecordFault) (f : RecordFault) → IsErr r × IsErrAnd r (λ y. y ≡ f) → IsNoDamage f → HearsOver z times old r
hears_nothing (Ok new) f h none = cc
hears_nothing (Err y) f h none = record { graphs = tt; never = subst IsNoDamage (sym h.1) none }
