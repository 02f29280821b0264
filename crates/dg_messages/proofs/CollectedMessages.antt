-- The messages that are collected, list by list of the index.
use Rattle.std.proofs.Common.{◌≡◌, ℕ, suc, List, [], ◌∷◌, ◌++◌, get_or, map, refl, sym, ap, ◌∙◌, subst, Vec, Global, arith}
use Rattle.std.specs.List.{All}
use Rattle.std.specs.Option.{option_to_list}
use Rattle.std.proofs.lemmas.Grind.{flat_map-append}
use Rattle.std.proofs.lemmas.List.Elements.{All-append, All-map}
use Rattle.dg_graph.specs.declared.element.Element.{Element}
use Rattle.dg_graph.specs.declared.event.Event.{Event}
use Rattle.dg_graph.specs.Replay.{told_at}
use Rattle.dg_graph.specs.Sets.{unioned}
use Rattle.dg_messages.specs.Collected.{AreAdded, AreCollected, message_at, messages_at}
use Rattle.dg_messages.proofs.ToldSets.{told_is, told_named}
use Rattle.dg_records.specs.EventNames.{BodyHasNamesThere, EventNamesAreThere}
use Rattle.dg_retrieval.specs.NamesThere.{NamesAreThere}

messages-append : (t : ℕ) (before events : List Event) → messages_at t (before ++ events) ≡ messages_at t before ++ messages_at t events
messages-append t before events = flat_map-append (λ (e : Event). option_to_list (message_at t e)) before events

-- what was collected, with what is added
pub collected_more : (before events : List Event) (times : List ℕ) (old new : List (Vec Element Global)) → AreCollected before times old → AreAdded events times old new → AreCollected (before ++ events) times new
collected_more before events times old new so_far more = record {
  count = more.count ∙ so_far.count;
  each = λ n d lt.
      more.each n d lt ∙ ap (λ l. l ++ messages_at (get_or times n 0) events) (so_far.each n d lt)
      ∙ sym (messages-append (get_or times n 0) before events);
}

-- ---- the sets of what was collected

abbrev pub set_in : Vec Element Global → List Element
set_in v = unioned [] v.items

collected_sets : (events : List Event) (times : List ℕ) (lists : List (Vec Element Global)) → AreCollected events times lists → map set_in lists ≡ map (told_at events) times
collected_sets events [] [] h = refl
collected_sets events [] (v ∷ lists) h = absurd (let count = h.count in omega arith)
collected_sets events (t ∷ times) [] h = absurd (let count = h.count in omega arith)
collected_sets events (t ∷ times) (v ∷ lists) h =
    let one : set_in v ≡ told_at events t = ap (unioned []) (h.each 0 v (omega arith)) ∙ told_is t events in
    let count = h.count in
    let more : AreCollected events times lists = record { count = omega (arith, count); each = λ n d lt. h.each (suc n) d (omega (arith, lt)) } in
    (λ i. one i ∷ collected_sets events times lists more i)

module _ (events recent : List Event) (times : List ℕ) (heard old new last : List (Vec Element Global)) (sets : List (List Element))
    (collected : AreCollected events times heard) (same : old ≡ heard) (added : AreAdded recent times old new) (kept : last ≡ new) (are : sets ≡ map set_in last) where
  -- the sets are the messages of the instants
  pub sets_told : sets ≡ map (told_at (events ++ recent)) times
  sets_told =
      are ∙ ap (map set_in) kept
      ∙ collected_sets (events ++ recent) times new (collected_more events recent times heard new collected (subst (λ l. AreAdded recent times l new) same added))

  -- the names that they have are there
  pub sets_named : (names : ℕ) → EventNamesAreThere names events → EventNamesAreThere names recent → All (NamesAreThere names) sets
  sets_named names one two =
      let all = All-append (λ (e : Event). BodyHasNamesThere names e.body) events recent one two in
      subst (All (NamesAreThere names)) (sym sets_told) (All-map (NamesAreThere names) (told_at (events ++ recent)) times (λ k d lt. told_named names (get_or times k d) (events ++ recent) all))
