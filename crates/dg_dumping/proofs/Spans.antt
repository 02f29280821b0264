-- Which events of a history are in a span.
use Rattle.std.proofs.Common.{◌≡◌, ℕ, zero, suc, ◌+◌, ◌-◌, ◌<◌, ◌≤◌, Bool, true, false, cond, List, [], ◌∷◌, ◌++◌, length, take, drop, refl, sym, ap, ◌∙◌, subst, append-nil, length-append, length-drop, length-take, min, arith}
use Rattle.std.proofs.lemmas.List.Elements.{filter-append}
use Rattle.dg_dumping.specs.PutText.{events_text}
use Rattle.dg_dumping.specs.SpanText.{events_within, is_within, span_text}
use Rattle.dg_dumping.specs.declared.span.Span.{Span}
use Rattle.dg_dumping.proofs.Batches.{IsIndexOf, left_from, part_next}
use Rattle.dg_dumping.proofs.Pieces.{lines_join}
use Rattle.dg_graph.specs.declared.event.Event.{Event}
use Rattle.dg_history.specs.History.{History, events_of}
use Rattle.dg_index.specs.OpenedIndex.{Opened, Opening, event_total, opened_of}
use Rattle.dg_index.proofs.HeldRecords.{known}
use Rattle.dg_spans.specs.Stretches.{AreEventsFrom}

-- the lines of the next events of a history, and of those behind them
pub part_within : (names : List (List ℕ)) (span : Span) (z : History) (at stop : ℕ) (part : List Event) → AreEventsFrom z at part → at + length part ≤ stop
    → events_text names (events_within span (left_from z at stop))
    ≡ events_text names (events_within span part) ++ events_text names (events_within span (left_from z (at + length part) stop))
part_within names span z at stop part from le =
    ap (λ (es : List Event). events_text names (events_within span es)) (part_next z at stop part from le)
    ∙ ap (events_text names) (filter-append (λ (e : Event). is_within span e.time) part (left_from z (at + length part) stop))
    ∙ lines_join names (events_within span part) (events_within span (left_from z (at + length part) stop))

-- nothing is left behind the last event
pub none_left_within : (names : List (List ℕ)) (span : Span) (z : History) (at stop total : ℕ) → total ≡ length (events_of z) → min stop total ≤ at
    → events_text names (events_within span (left_from z at stop)) ≡ []
none_left_within names span z at stop total whole low = ap (λ (es : List Event). events_text names (events_within span es)) none
  where
    rest : length (left_from z at stop) ≡ 0
    rest = omega (arith, low, whole, length-take (stop - at) (drop at (events_of z)), length-drop at (events_of z))

    empty : (es : List Event) → length es ≡ 0 → es ≡ []
    empty [] is = refl
    empty (e ∷ es) is = absurd (omega (arith, is))

    none : left_from z at stop ≡ []
    none = empty (left_from z at stop) rest

-- the lines are those of the span, by what is known of the index
pub text_is : (span : Span) (z : History) (x : Opened) (first : List ℕ) → IsIndexOf z x → first ≡ [] → first ++ events_text x.names (events_within span (events_of z)) ≡ span_text span z
text_is span z x first i none = λ j. none j ++ events_text (i.names j) (events_within span (events_of z))
