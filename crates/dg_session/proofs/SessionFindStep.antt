-- The answer to `find`.
use Rattle.std.proofs.Common.{◌≡◌, ℕ, List, [], ◌∷◌, Option, Some, None, length, map, refl, sym, ◌∙◌, ap, subst}
use Rattle.std.specs.List.{All, Contains}
use Rattle.std.proofs.lemmas.List.{length-map}
use Rattle.std.proofs.lemmas.List.Elements.{All-cons, All-contains, All-head, All-nil, All-tail}
use Rattle.dg_aux.specs.Turns.{ValuesSaid, said_over}
use Rattle.dg_aux.specs.TurnLaws.{FoundNodesAreThere, TurnsStandForEvents}
use Rattle.dg_graph.proofs.ExactEvents.{IsSet-replay_from}
use Rattle.dg_graph.specs.declared.element.Element.{Element}
use Rattle.dg_graph.specs.declared.element.Element.TheVariants as element
use Rattle.dg_graph.specs.declared.event.Event.{Event}
use Rattle.dg_graph.specs.Replay.{events_until, replay_at}
use Rattle.dg_history.specs.History.{History, events_of}
use Rattle.dg_machine.specs.declared.command.Command.TheVariants as command
use Rattle.dg_machine.specs.declared.reply.BodyLine.{BodyLine}
use Rattle.dg_machine.specs.declared.reply.BodyLine.TheVariants as line
use Rattle.dg_machine.specs.declared.reply.Head.TheVariants as head
use Rattle.dg_machine.specs.declared.reply.Reply.{Reply}
use Rattle.dg_machine.specs.declared.reply.Reply.TheVariants as replied
use Rattle.dg_machine.specs.declared.texts.KeyText.{KeyText}
use Rattle.dg_machine.specs.declared.texts.ValueText.{ValueText}
use Rattle.dg_machine.specs.Answer.{found_reply, is_refusal}
use Rattle.dg_machine.specs.MachineState.{MachineState, history_in, names_in}
use Rattle.dg_machine.specs.Needs.{number_in_index}
use Rattle.dg_machine.specs.ValueIndex.{found, key_text, value_text}
use Rattle.dg_session.proofs.PartStates.{are_of, one_image, stands_on}
use Rattle.dg_session.proofs.ReplyNames.{found_names, names_stay}
use Rattle.dg_session.proofs.SessionSteps.{moved}
use Rattle.dg_session.specs.Decided.{Fits}
use Rattle.dg_session.specs.Parts.{Parts}
use Rattle.dg_session.specs.Session.{Accepts, StandsFor, find_needs, refused_by}
use Rattle.dg_session.specs.ValuesSaid.{AreFound, IndexKept, said_of}
use Rattle.dg_text.specs.Names.{number_of}

-- ---- what is found

-- each index of a state says of its key what the history says
each_said : (events : List Event) (keys : List ℕ) → All (λ (s : ValuesSaid). s ≡ said_over events s.key) (map (said_over events) keys)
each_said events [] = All-nil (λ (s : ValuesSaid). s ≡ said_over events s.key)
each_said events (key ∷ keys) = All-cons (λ (s : ValuesSaid). s ≡ said_over events s.key) (said_over events key) (map (said_over events) keys) refl (each_said events keys)

each_kept : (events : List Event) (kept : List IndexKept) (keys : List ℕ) → map said_of kept ≡ map (said_over events) keys → All (λ (k : IndexKept). said_of k ≡ said_over events k.key) kept
each_kept events kept keys is = unmapped kept (subst (All Says) (sym is) (each_said events keys))
  where
    Says : ValuesSaid → Type 0
    Says s = s ≡ said_over events s.key

    unmapped : (kept : List IndexKept) → All Says (map said_of kept) → All (λ (k : IndexKept). Says (said_of k)) kept
    unmapped [] all = All-nil (λ (k : IndexKept). Says (said_of k))
    unmapped (k ∷ kept) all = All-cons (λ (k : IndexKept). Says (said_of k)) k kept (All-head Says (said_of k) (map said_of kept) all) (unmapped kept (All-tail Says (said_of k) (map said_of kept) all))

module _ (stand : TurnsStandForEvents) (there : FoundNodesAreThere) (p : Parts) (t : ℕ) (k : KeyText) (v : ValueText) (values : IndexKept) (named : number_of p.names (key_text k) ≡ Some values.key) (among : Contains p.indexes values) where
  said_here : (image : List ℕ) (m : MachineState) → StandsFor p image m → said_of values ≡ said_over (events_of (history_in m.index)) values.key
  said_here image m s =
      let events : List Event = events_of (history_in m.index) in
      All-contains (λ (x : IndexKept). said_of x ≡ said_over events x.key) p.indexes values (each_kept events p.indexes m.indexes s.indexes) among

  found_by : (z : History) → said_of values ≡ said_over (events_of z) values.key → (value : Option ℕ) (ids : List ℕ) → AreFound values.turns t value ids → ids ≡ found z t (Some values.key) value
  found_by z said None ids are = are
  found_by z said (Some value) ids are =
      let events : List Event = events_of z in
      there values.key value (replay_at events t) (IsSet-replay_from (events_until events t) [] tt) ids are.0
      (λ id. are.1 id ∙ ap (λ (x : ValuesSaid). x.says value id t) said ∙ stand values.key events value id t)

  -- the ids that are found are those of the machine
  pub found_is : (image : List ℕ) (m : MachineState) → StandsFor p image m → (ids : List ℕ) → AreFound values.turns t (number_of p.names (value_text v)) ids
      → ids ≡ found (history_in m.index) t (number_in_index m (key_text k)) (number_in_index m (value_text v))
  found_is image m s ids are =
      let names : p.names ≡ names_in m.index = (are_of m.index p s.kept).names_are in
      found_by (history_in m.index) (said_here image m s) (number_of p.names (value_text v)) ids are
      ∙ (λ i. found (history_in m.index) t (sym named i) (number_of p.names (value_text v)))
      ∙ (λ i. found (history_in m.index) t (number_of (names i) (key_text k)) (number_of (names i) (value_text v)))

  pub find_answers : refused_by p 0 (find_needs t (key_text k)) ≡ None → (image : Option (List ℕ)) (ids : List ℕ) (reply : Reply) → AreFound values.turns t (number_of p.names (value_text v)) ids → reply ≡ found_reply ids
      → Accepts (command.Find t k v) [] p image p image reply
  find_answers free image ids reply are is = record {
    moves =
        moved (command.Find t k v) [] p p image image reply (λ m. refl) free
        (λ m x y a b s none. (
          m,
          (λ i. record { reply = (ap found_reply (sym (found_is x m s ids are)) ∙ sym is) i; state = m }),
          stands_on p p x y m refl (one_image image image x y refl a b) s,
        ));
    accepted = ap is_refusal is;
    free = free;
    fits = subst (Fits (command.Find t k v)) (sym is) tt;
    held = λ h. h;
    no_index = λ h. (h, refl);
    quiet = λ h. refl;
    named = found_names (length p.names) ids reply is;
    keeps_names = names_stay p.names p.names refl;
  }

-- the lines of a reply are those of the ids
pub reply_found : (ids : List ℕ) (nodes : List Element) (lines : ℕ) (body : List BodyLine) → nodes ≡ map (λ (id : ℕ). element.Node id) ids → lines ≡ length nodes → body ≡ map (λ (x : Element). line.Element x) nodes
    → replied.Answered (head.Found lines) body ≡ found_reply ids
reply_found ids nodes lines body made count is = λ i. replied.Answered (head.Found ((count ∙ ap length made ∙ many ids) i)) ((is ∙ ap (map (λ (x : Element). line.Element x)) made ∙ mapped ids) i)
  where
    many : (ids : List ℕ) → length (map (λ (id : ℕ). element.Node id) ids) ≡ length ids
    many ids = length-map ids (λ (id : ℕ). element.Node id)

    mapped : (ids : List ℕ) → map (λ (x : Element). line.Element x) (map (λ (id : ℕ). element.Node id) ids) ≡ map (λ (id : ℕ). line.Element (element.Node id)) ids
    mapped [] = refl
    mapped (id ∷ ids) = ap (λ l. line.Element (element.Node id) ∷ l) (mapped ids)
