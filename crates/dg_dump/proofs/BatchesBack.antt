-- The lines of a batch come to the batch: to its events and to its names.
use Rattle.std.proofs.Common.{◌≡◌, ℕ, ◌<◌, true, List, [], ◌∷◌, ◌++◌, length, map, drop, Option, Some, None, Result, Ok, refl, sym, ap, subst, ◌∙◌}
use Rattle.std.specs.Prelude.{IsTrue}
use Rattle.std.specs.List.{All}
use Rattle.std.proofs.Math.Seq.{drop-append_seam}
use Rattle.std.proofs.lemmas.List.Elements.{All-head, All-tail}
use Rattle.std.proofs.lemmas.Option.{slice_get-get_or}
use Rattle.dg_graph.specs.declared.event.Body.{Body}
use Rattle.dg_graph.specs.declared.event.Body.TheVariants as body
use Rattle.dg_graph.specs.declared.event.Change.{Change}
use Rattle.dg_graph.specs.declared.event.Event.{Event}
use Rattle.dg_graph.specs.declared.event.What.TheVariants as what
use Rattle.dg_graph.specs.CompletedChanges.{completed, on_value}
use Rattle.dg_graph.specs.Completion.{has_key}
use Rattle.dg_graph.specs.MadeByChanges.{AreMadeByChanges}
use Rattle.dg_graph.specs.Replay.{replay}
use Rattle.dg_graph.proofs.Completions.{all_come, made_come}
use Rattle.dg_text.specs.Lines.{Text}
use Rattle.dg_text.specs.Names.{added, are_new, name_text, number_in}
use Rattle.dg_changes.specs.Batch.{batch_of, changes_after, names_after}
use Rattle.dg_changes.specs.ChangeGrammar.{ChangeByText, WhatByText, Plain, Sets_node, Unsets_node, Sets_edge, Unsets_edge, Sends, change_by_text_in, named, what_in}
use Rattle.dg_history.specs.History.{Batch, History, earliest_next, events_of, names_of, span_of}
use Rattle.dg_history.specs.LegalHistory.{FitsBody, FitsEvent, IsLegalBatch}
use Rattle.dg_history.proofs.LegalHistories.{batch_rises}
use Rattle.dg_changes.specs.EventChanges.{change_of, what_of}
use Rattle.dg_dump.specs.NamesOfLines.{asked_by, said_in}
use Rattle.dg_dump.specs.ScriptOfHistory.{event_line}
use Rattle.dg_changes.proofs.ChangeEvents.{changes_come}
use Rattle.dg_dump.proofs.LinesBack.{lines_read_back}
use Rattle.dg_dump.proofs.NameNumbers.{Has, IsFront, added_front, added_has, front_both, front_itself, has_more, number_in_front}

-- ---- names

pub named_front : (now : List (List ℕ)) (asked : WhatByText) → IsFront now (named now asked)
named_front now (Plain w) = front_itself now
named_front now (Sets_node id key value) = front_both now (added now key) (added (added now key) value) (added_front now key) (added_front (added now key) value)
named_front now (Unsets_node id key) = added_front now key
named_front now (Sets_edge id key value) = front_both now (added now key) (added (added now key) value) (added_front now key) (added_front (added now key) value)
named_front now (Unsets_edge id key) = added_front now key
named_front now (Sends src dst value) = added_front now value

pub names_front : (now : List (List ℕ)) (lines : List (Option ChangeByText)) → IsFront now (names_after now lines)
names_front now [] = front_itself now
names_front now (None ∷ lines) = names_front now lines
names_front now (Some said ∷ lines) =
    front_both now (named now said.asked) (names_after (named now said.asked) lines) (named_front now said.asked) (names_front (named now said.asked) lines)

-- ---- changes

module _ (names : List (List ℕ)) (new : are_new [] names ≡ true) where
  -- the number of a name's text, in a front that has it
  number_back : (now : List (List ℕ)) (n : ℕ) → n < length names → IsFront now names → Has now (name_text names n) → number_in now (name_text names n) ≡ n
  number_back now n within f h = number_in_front now names (name_text names n) n new f h (slice_get-get_or names n [] within)

  key_there : (now : List (List ℕ)) (key value : List ℕ) → Has (added (added now key) value) key
  key_there now key value = has_more (added now key) (added (added now key) value) key (added_front (added now key) value) (added_has now key)

  -- what is asked for by texts is what is asked for by their numbers
  what_back : (now : List (List ℕ)) (b : Body) → FitsBody (length names) b → IsFront (named now (asked_by names b)) names
      → what_in (named now (asked_by names b)) (asked_by names b) ≡ what_of b
  what_back now (body.NodeAdded id) fits f = refl
  what_back now (body.NodeRemoved id) fits f = refl
  what_back now (body.EdgeAdded directed id src dst) fits f = refl
  what_back now (body.EdgeRemoved directed id src dst) fits f = refl
  what_back now (body.NodeAttr k id old (Some v)) fits f =
      let all = added (added now (name_text names k)) (name_text names v) in
      let a = number_back all k fits.1 f (key_there now (name_text names k) (name_text names v)) in
      let b = number_back all v fits.3 f (added_has (added now (name_text names k)) (name_text names v)) in
      λ i. what.SetNode id (a i) (b i)
  what_back now (body.NodeAttr k id old None) fits f =
      ap (λ k. what.UnsetNode id k) (number_back (added now (name_text names k)) k fits.1 f (added_has now (name_text names k)))
  what_back now (body.EdgeAttr k id old (Some v)) fits f =
      let all = added (added now (name_text names k)) (name_text names v) in
      let a = number_back all k fits.1 f (key_there now (name_text names k) (name_text names v)) in
      let b = number_back all v fits.3 f (added_has (added now (name_text names k)) (name_text names v)) in
      λ i. what.SetEdge id (a i) (b i)
  what_back now (body.EdgeAttr k id old None) fits f =
      ap (λ k. what.UnsetEdge id k) (number_back (added now (name_text names k)) k fits.1 f (added_has now (name_text names k)))
  what_back now (body.Message src dst v) fits f =
      ap (λ v. what.Message src dst v) (number_back (added now (name_text names v)) v fits.2 f (added_has now (name_text names v)))

  changes_back : (now : List (List ℕ)) (events : List Event) → All (FitsEvent (length names)) events → IsFront (names_after now (said_in names events)) names
      → changes_after now (said_in names events) ≡ map (λ (c : Change). Some c) (map change_of events)
  changes_back now [] fit f = refl
  changes_back now (e ∷ events) fit f =
      let asked = asked_by names e.body in
      let here = what_back now e.body (All-head (FitsEvent (length names)) e events fit).1
      (front_both (named now asked) (names_after (named now asked) (said_in names events)) names (names_front (named now asked) (said_in names events)) f) in
      let rest = changes_back (named now asked) events (All-tail (FitsEvent (length names)) e events fit) f in
      λ i. Some (record { time = e.time; what = here i }) ∷ rest i

  -- the lines say what the events' changes say
  pub lines_back : (events : List Event) → All (FitsEvent (length names)) events → All (λ (e : Event). IsTrue (has_key names e.body)) events
      → map change_by_text_in (map (λ t. Text t) (map (event_line names) events)) ≡ said_in names events
  lines_back [] fit keys = refl
  lines_back (e ∷ events) fit keys =
      let here = lines_read_back names e new (All-head (FitsEvent (length names)) e events fit) (All-head (λ (e : Event). IsTrue (has_key names e.body)) e events keys) in
      let rest = lines_back events (All-tail (FitsEvent (length names)) e events fit) (All-tail (λ (e : Event). IsTrue (has_key names e.body)) e events keys) in
      λ i. here i ∷ rest i

  -- the lines of the next batch come to it
  pub batch_back : (z : History) (b : Batch) → IsLegalBatch names (events_of z) b → names_after (names_of z) (said_in names b.events) ≡ names_of z ++ b.names
      → IsFront (names_of z ++ b.names) names → batch_of z (map (λ t. Text t) (map (event_line names) b.events)) ≡ Ok b
  batch_back z b legal brings front =
      let before = names_of z in
      let earliest = earliest_next (span_of (events_of z)) in
      let said = lines_back b.events legal.fits legal.keys in
      let changes = changes_back before b.events legal.fits (subst (λ (ns : List (List ℕ)). IsFront ns names) (sym brings) front) in
      let made : AreMadeByChanges (replay (events_of z)) b.events = made_come earliest (replay (events_of z)) (map (λ (c : Change). Some c) legal.changes) b.events
      (all_come 1 earliest (replay (events_of z)) (map (λ (c : Change). Some c) legal.changes) b.events legal.comes) in
      let comes = changes_come (replay (events_of z)) earliest b.events made (batch_rises names (events_of z) b legal) in
      let own : drop (length before) (before ++ b.names) ≡ b.names = drop-append_seam before b.names in
      let by : List (Option ChangeByText) → List (Option Change) → Result Batch (ℕ × ℕ) = λ lines cs.
      on_value (λ (events : List Event). record { names = drop (length before) (names_after before lines); events = events }) (completed 1 earliest (replay (events_of z)) cs) in
      ap (λ lines. by lines (changes_after before lines)) said
      ∙ ap (λ cs. by (said_in names b.events) cs) changes
      ∙ ap (on_value (λ (events : List Event). record { names = drop (length before) (names_after before (said_in names b.events)); events = events })) comes
      ∙ (λ i. Ok (record { names = (ap (drop (length before)) brings ∙ own) i; events = b.events }))
