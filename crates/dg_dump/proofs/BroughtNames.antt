-- A batch of changes brings the names that the lines of its events bring.
use Rattle.std.proofs.Common.{◌≡◌, ℕ, ◌<◌, List, [], ◌∷◌, ◌++◌, length, drop, Option, Some, None, Result, Ok, Err, refl, sym, ap, subst, ◌∙◌, append_assoc, append-nil}
use Rattle.std.specs.List.{All}
use Rattle.std.proofs.Math.Seq.{drop-append_seam}
use Rattle.std.proofs.lemmas.Bool.{eqb-true}
use Rattle.std.proofs.lemmas.List.{get_or_append_left}
use Rattle.std.proofs.lemmas.List.Elements.{All-head, All-tail}
use Rattle.dg_graph.specs.declared.element.Element.{Element}
use Rattle.dg_graph.specs.declared.element.Element.TheVariants as element
use Rattle.dg_graph.specs.declared.event.Body.{Body}
use Rattle.dg_graph.specs.declared.event.Body.TheVariants as body
use Rattle.dg_graph.specs.declared.event.Event.{Event}
use Rattle.dg_graph.specs.declared.event.What.TheVariants as what
use Rattle.dg_graph.specs.CompletedChanges.{completed, on_value}
use Rattle.dg_graph.specs.Completion.{is_edge}
use Rattle.dg_graph.specs.Effect.{forwards}
use Rattle.dg_graph.specs.Replay.{replay}
use Rattle.dg_graph.proofs.Completions.{AllCome, IsCompletion, all_come, completion, found_in}
use Rattle.dg_text.specs.Names.{added, name_text}
use Rattle.dg_changes.specs.Batch.{changes_after, names_after}
use Rattle.dg_changes.specs.ChangeGrammar.{ChangeByText, WhatByText, Plain, Sets_node, Unsets_node, Sets_edge, Unsets_edge, Sends, named, what_in}
use Rattle.dg_history.specs.History.{Batch, earliest_next, events_of, names_of, span_of, with_batch}
use Rattle.dg_history.specs.LegalHistory.{AreLegalAfter, FitsBody, FitsEvent}
use Rattle.dg_history.proofs.LegalHistories.{names_among}
use Rattle.dg_dump.specs.DumpLaws.{BatchesBringTheirNames}
use Rattle.dg_dump.specs.NamesOfLines.{AreByText, AreOfLines, IsByText, NamesAreOfLines, asked_by, said_in}
use Rattle.dg_dump.proofs.BatchesBack.{names_front}
use Rattle.dg_dump.proofs.HistoryRuns.{names_more}
use Rattle.dg_dump.proofs.NameNumbers.{Has, IsFront, added_front, added_has, front_both, has_more, text_in_front}

-- ---- more names behind those that are there

text_stays : (names more : List (List ℕ)) (n : ℕ) → n < length names → name_text (names ++ more) n ≡ name_text names n
text_stays names more n within = get_or_append_left names more [] n within

asked_stays : (names more : List (List ℕ)) (b : Body) → FitsBody (length names) b → asked_by (names ++ more) b ≡ asked_by names b
asked_stays names more (body.NodeAdded id) fits = refl
asked_stays names more (body.NodeRemoved id) fits = refl
asked_stays names more (body.EdgeAdded directed id src dst) fits = refl
asked_stays names more (body.EdgeRemoved directed id src dst) fits = refl
asked_stays names more (body.NodeAttr k id old (Some v)) fits = λ i. Sets_node id (text_stays names more k fits.1 i) (text_stays names more v fits.3 i)
asked_stays names more (body.NodeAttr k id old None) fits = ap (λ t. Unsets_node id t) (text_stays names more k fits.1)
asked_stays names more (body.EdgeAttr k id old (Some v)) fits = λ i. Sets_edge id (text_stays names more k fits.1 i) (text_stays names more v fits.3 i)
asked_stays names more (body.EdgeAttr k id old None) fits = ap (λ t. Unsets_edge id t) (text_stays names more k fits.1)
asked_stays names more (body.Message src dst v) fits = ap (λ t. Sends src dst t) (text_stays names more v fits.2)

said_stays : (names more : List (List ℕ)) (events : List Event) → All (FitsEvent (length names)) events → said_in (names ++ more) events ≡ said_in names events
said_stays names more [] fit = refl
said_stays names more (e ∷ events) fit =
    let here = asked_stays names more e.body (All-head (FitsEvent (length names)) e events fit).1 in
    let rest = said_stays names more events (All-tail (FitsEvent (length names)) e events fit) in
    λ i. Some (record { time = e.time; asked = here i }) ∷ rest i

brought_stays : (names more now : List (List ℕ)) (before : List Event) (batches : List Batch) → AreLegalAfter names before batches → AreOfLines names now batches → AreOfLines (names ++ more) now batches
brought_stays names more now before [] legal l = tt
brought_stays names more now before (b ∷ batches) legal l =
    (ap (names_after now) (said_stays names more b.events legal.0.fits) ∙ l.0, brought_stays names more (now ++ b.names) (before ++ b.events) batches legal.1 l.1)

brought_more : (names now : List (List ℕ)) (batches : List Batch) (b : Batch) → AreOfLines names now batches
    → names_after (now ++ names_among batches) (said_in names b.events) ≡ (now ++ names_among batches) ++ b.names → AreOfLines names now (batches ++ b ∷ [])
brought_more names now [] b l e = (subst (λ ns. names_after ns (said_in names b.events) ≡ ns ++ b.names) (append-nil now) e, tt)
brought_more names now (x ∷ batches) b l e = (
  l.0,
  brought_more names (now ++ x.names) batches b l.1
      (subst (λ ns. names_after ns (said_in names b.events) ≡ ns ++ b.names) (sym (append_assoc now x.names (names_among batches))) e),
)

-- ---- what an event's line says is what was said

module _ (names : List (List ℕ)) where
  key_there : (now : List (List ℕ)) (key value : List ℕ) → Has (added (added now key) value) key
  key_there now key value = has_more (added now key) (added (added now key) value) key (added_front (added now key) value) (added_has now key)

  asked_back : (now : List (List ℕ)) (set : List Element) (b : Body) (asked : WhatByText) → IsByText asked → IsFront (named now asked) names
      → IsCompletion (what_in (named now asked) asked) set b → asked_by names b ≡ asked
  asked_back now set b (Plain (what.AddNode id)) is f c = ap (asked_by names) (sym c.0)
  asked_back now set b (Plain (what.RemoveNode id)) is f c = ap (asked_by names) (sym c.0)
  asked_back now set b (Plain (what.AddEdge directed id src dst)) is f c = ap (asked_by names) (sym c.0)
  asked_back now set b (Plain (what.RemoveEdge id)) is f c =
      let same : c.id ≡ id = eqb-true c.id id (found_in (is_edge id) set (element.Edge c.directed c.id c.src c.dst) c.found_is).1 in
      ap (asked_by names) (sym c.is) ∙ ap (λ n. Plain (what.RemoveEdge n)) same
  asked_back now set b (Plain (what.SetNode id key value)) is f c = absurd is
  asked_back now set b (Plain (what.UnsetNode id key)) is f c = absurd is
  asked_back now set b (Plain (what.SetEdge id key value)) is f c = absurd is
  asked_back now set b (Plain (what.UnsetEdge id key)) is f c = absurd is
  asked_back now set b (Plain (what.Message src dst value)) is f c = absurd is
  asked_back now set b (Sets_node id key value) is f c =
      let all = added (added now key) value in
      let k = text_in_front all names key f (key_there now key value) in
      let v = text_in_front all names value f (added_has (added now key) value) in
      ap (asked_by names) (sym c.0) ∙ (λ i. Sets_node id (k i) (v i))
  asked_back now set b (Unsets_node id key) is f c =
      ap (asked_by names) (sym c.0.is) ∙ ap (λ t. Unsets_node id t) (text_in_front (added now key) names key f (added_has now key))
  asked_back now set b (Sets_edge id key value) is f c =
      let all = added (added now key) value in
      let k = text_in_front all names key f (key_there now key value) in
      let v = text_in_front all names value f (added_has (added now key) value) in
      ap (asked_by names) (sym c.0) ∙ (λ i. Sets_edge id (k i) (v i))
  asked_back now set b (Unsets_edge id key) is f c =
      ap (asked_by names) (sym c.0.is) ∙ ap (λ t. Unsets_edge id t) (text_in_front (added now key) names key f (added_has now key))
  asked_back now set b (Sends src dst value) is f c =
      ap (asked_by names) (sym c.0) ∙ ap (λ t. Sends src dst t) (text_in_front (added now value) names value f (added_has now value))

  said_back : (now : List (List ℕ)) (earliest : ℕ) (set : List Element) (lines : List (Option ChangeByText)) (events : List Event) → AreByText lines
      → AllCome earliest set (changes_after now lines) events → IsFront (names_after now lines) names → said_in names events ≡ lines
  said_back now earliest set [] [] is come f = refl
  said_back now earliest set [] (e ∷ events) is come f = absurd come
  said_back now earliest set (None ∷ lines) events is come f = absurd come
  said_back now earliest set (Some said ∷ lines) [] is come f = absurd come
  said_back now earliest set (Some said ∷ lines) (e ∷ events) is come f =
      let next = named now said.asked in
      let front = front_both next (names_after next lines) names (names_front next lines) f in
      let here = asked_back now set e.body said.asked is.0 front (completion (what_in next said.asked) set e.body come.0.body) in
      let time : e.time ≡ said.time = come.0.time in
      let rest = said_back next e.time (forwards set e) lines events is.1 come.1 f in
      λ i. Some (record { time = time i; asked = here i }) ∷ rest i

-- ---- the batch

pub batches_bring : BatchesBringTheirNames
batches_bring z lines b legal brought is comes =
    by (completed 1 (earliest_next (span_of (events_of z))) (replay (events_of z)) (changes_after (names_of z) lines)) refl comes
  where
    by : (r : Result (List Event) (ℕ × ℕ)) → completed 1 (earliest_next (span_of (events_of z))) (replay (events_of z)) (changes_after (names_of z) lines) ≡ r
        → on_value (λ (events : List Event). record { names = drop (length (names_of z)) (names_after (names_of z) lines); events = events }) r ≡ Ok b
        → NamesAreOfLines (with_batch z b)
    by (Err x) come h = cc
    by (Ok events) come h =
        let same : record { names = drop (length (names_of z)) (names_after (names_of z) lines); events = events } ≡ b = cc in
        let f = names_front (names_of z) lines in
        let own : names_after (names_of z) lines ≡ names_of z ++ b.names =
        f.1 ∙ ap (λ ns. names_of z ++ ns) (sym (ap (drop (length (names_of z))) f.1 ∙ drop-append_seam (names_of z) f.0) ∙ ap (λ (b : Batch). b.names) same) in
        let all = names_of z ++ b.names in
        let said : said_in all b.events ≡ lines =
        said_back all (names_of z) (earliest_next (span_of (events_of z))) (replay (events_of z)) lines b.events is
        (subst (λ es. AllCome (earliest_next (span_of (events_of z))) (replay (events_of z)) (changes_after (names_of z) lines) es) (ap (λ (b : Batch). b.events) same)
        (all_come 1 (earliest_next (span_of (events_of z))) (replay (events_of z)) (changes_after (names_of z) lines) events come)) ([], sym own ∙ sym (append-nil (names_after (names_of z) lines))) in
        subst (λ ns. AreOfLines ns [] (z.batches ++ b ∷ [])) (sym (names_more z.batches b))
        (brought_more all [] z.batches b (brought_stays (names_of z) b.names [] [] z.batches legal.batches brought) (ap (names_after (names_of z)) said ∙ own))
