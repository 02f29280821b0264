-- Text on its way to a sink, piece by piece.
use Rattle.std.proofs.Common.{◌≡◌, ◌⊎◌, inl, inr, min, Bool, true, false, cond, ℕ, ◌+◌, ◌<◌, ◌≤◌, List, [], ◌∷◌, ◌++◌, length, map, take, drop, get_or, refl, sym, ap, ◌∙◌, subst, append_assoc, append-nil, length-append, arith}
use Rattle.std.proofs.lemmas.List.{at_drop_all, at_drop_more, take_at}
use Rattle.dg_dump.specs.ScriptOfHistory.{event_line, text_of_lines}
use Rattle.dg_dumping.specs.PutText.{HasPut, PutFails, Puts, events_text}
use Rattle.dg_dumping.specs.SpanText.{events_within, is_within}
use Rattle.dg_dumping.specs.declared.span.Span.{Span}
use Rattle.dg_dumping.specs.declared.status.DumpStatus.{DumpStatus}
use Rattle.dg_dumping.specs.declared.status.DumpStatus.TheVariants as status
use Rattle.dg_graph.specs.declared.event.Event.{Event}
use Rattle.dg_io.specs.declared.sink.Sink as sink
use Rattle.dg_io.specs.Calls.{FailsToPut, PutsPart}
use Rattle.dg_io.specs.Told.{CountRose, GrowsByPart, grown}
use Rattle.dg_io.proofs.ToldLemmas.{both_pieces, grown_nothing, part_first, part_second}

-- ---- pieces

module _ {K : Type 0} (g : sink.Ghosts K) where
  -- nothing is written yet
  pub put_first : (old : K) (held left : List ℕ) → HasPut g old (held ++ left) old held left
  put_first old held left = record { sent = []; written = sym (grown_nothing (g.written old)); split = refl }

  -- more text is due behind what was put
  pub put_more : (old now : K) (all held piece : List ℕ) → HasPut g old all now held [] → HasPut g old (all ++ piece) now held piece
  put_more old now all held piece h = record {
    sent = h.sent;
    written = h.written;
    split = sym (append_assoc h.sent held piece) ∙ ap (λ bytes. bytes ++ piece) (ap (λ bytes. h.sent ++ bytes) (sym (append-nil held)) ∙ h.split);
  }

  -- sink and text are those of another step
  pub put_moved : (old now new : K) (all held new_held left : List ℕ) → now ≡ new → held ≡ new_held → HasPut g old all new new_held left → HasPut g old all now held left
  put_moved old now new all held new_held left e f h = subst (λ k. HasPut g old all k held left) (sym e) (subst (λ bytes. HasPut g old all new bytes left) (sym f) h)

  -- the next piece is held
  pub put_held : (old now : K) (all held piece left new_held : List ℕ) → HasPut g old all now held (piece ++ left) → new_held ≡ held ++ piece → HasPut g old all now new_held left
  put_held old now all held piece left new_held h is = record {
    sent = h.sent;
    written = h.written;
    split = ap (λ bytes. h.sent ++ bytes) (ap (λ bytes. bytes ++ left) is ∙ append_assoc held piece left) ∙ h.split;
  }

  -- the next piece is put
  pub put_next : (old mid now : K) (all held piece left new_held : List ℕ) → HasPut g old all mid held (piece ++ left) → Puts g mid (held ++ piece) now new_held → HasPut g old all now new_held left
  put_next old mid now all held piece left new_held h p = record {
    sent = h.sent ++ p.sent;
    written = both_pieces (g.written old) (g.written mid) (g.written now) h.sent p.sent h.written p.written;
    split =
        append_assoc h.sent p.sent (new_held ++ left)
        ∙ ap (λ bytes. h.sent ++ bytes)
        (sym (append_assoc p.sent new_held left) ∙ ap (λ bytes. bytes ++ left) (ap (λ bytes. p.sent ++ bytes) (sym (append-nil new_held)) ∙ p.split) ∙ append_assoc held piece left)
        ∙ h.split;
  }

  -- a write fails at the next piece
  pub put_fails : (old mid now : K) (all held piece left : List ℕ) → HasPut g old all mid held (piece ++ left) → PutsPart g mid (held ++ piece) now → PutsPart g old all now
  put_fails old mid now all held piece left h p =
      subst (λ bytes. GrowsByPart (g.written old) bytes (g.written now)) (ap (λ bytes. h.sent ++ bytes) (append_assoc held piece left) ∙ h.split)
      (part_second (g.written old) (g.written mid) (g.written now) h.sent ((held ++ piece) ++ left) h.written (part_first (g.written mid) (g.written now) (held ++ piece) left p))

  -- not all is written, where some is left
  pub put_stops : (old now : K) (all held left : List ℕ) → HasPut g old all now held left → 1 ≤ length left → PutsPart g old all now
  put_stops old now all held left h some = (
    length h.sent,
    omega (arith, some, ap length h.split, length-append h.sent (held ++ left), length-append held left),
    h.written ∙ ap (grown (g.written old)) (sym (ap (take (length h.sent)) (sym h.split) ∙ take_at h.sent (held ++ left) (length h.sent) refl)),
  )

  -- what is held is written
  pub put_all : (old mid now : K) (all held : List ℕ) → HasPut g old all mid held [] → g.written now ≡ grown (g.written mid) held → g.written now ≡ grown (g.written old) all
  put_all old mid now all held h is =
      both_pieces (g.written old) (g.written mid) (g.written now) h.sent held h.written is
      ∙ ap (grown (g.written old)) (ap (λ bytes. h.sent ++ bytes) (sym (append-nil held)) ∙ h.split)

  -- a write of what is held fails
  pub put_all_fails : (old mid now : K) (all held : List ℕ) → HasPut g old all mid held [] → PutsPart g mid held now → PutsPart g old all now
  put_all_fails old mid now all held h p =
      subst (λ bytes. GrowsByPart (g.written old) bytes (g.written now)) (ap (λ bytes. h.sent ++ bytes) (sym (append-nil held)) ∙ h.split)
      (part_second (g.written old) (g.written mid) (g.written now) h.sent held h.written p)

  -- nothing is left
  pub put_done : (old now : K) (all held left : List ℕ) → left ≡ [] → HasPut g old all now held left → Puts g old all now held
  put_done old now all held left none h = subst (λ bytes. HasPut g old all now held bytes) none h

  -- what is left is these bytes
  pub put_left : (old now : K) (all held left due : List ℕ) → left ≡ due → HasPut g old all now held left → HasPut g old all now held due
  put_left old now all held left due same h = subst (λ bytes. HasPut g old all now held bytes) same h

  -- the next piece is not put
  pub fails_next : (old mid now : K) (all held piece left : List ℕ) (s : DumpStatus) → HasPut g old all mid held (piece ++ left) → g.faults old ≤ g.faults mid
      → PutFails g mid (held ++ piece) s now → PutFails g old all s now
  fails_next old mid now all held piece left s h counted f = record { part = put_fails old mid now all held piece left h f.part; cause = by f.cause }
    where
      rose : (a b c : ℕ) → a ≤ b → CountRose b c → CountRose a c
      rose a b c le h = omega (arith, le, h)

      by : ((s ≡ status.SinkFault) × FailsToPut g mid now) ⊎ (s ≡ status.NoMemory) → ((s ≡ status.SinkFault) × FailsToPut g old now) ⊎ (s ≡ status.NoMemory)
      by (inl h) = inl (h.0, rose (g.faults old) (g.faults mid) (g.faults now) counted h.1)
      by (inr h) = inr h

  -- all is held, and nothing is written
  pub held_whole : (old : K) (held piece new_held : List ℕ) → new_held ≡ held ++ piece → Puts g old (held ++ piece) old new_held
  held_whole old held piece new_held is = record { sent = []; written = sym (grown_nothing (g.written old)); split = append-nil new_held ∙ is }

  -- all is written, and nothing is held
  pub sent_whole : (old now : K) (held new_held : List ℕ) → g.written now ≡ grown (g.written old) held → new_held ≡ [] → Puts g old held now new_held
  sent_whole old now held new_held is none = record { sent = held; written = is; split = ap (λ bytes. held ++ (bytes ++ [])) none ∙ append-nil held }

  -- the text is another one by another word for it
  pub put_same : (old now : K) (all due held left : List ℕ) → all ≡ due → HasPut g old all now held left → HasPut g old due now held left
  put_same old now all due held left same h = subst (λ bytes. HasPut g old bytes now held left) same h

-- ---- some text is held, or nothing is written

module _ {K : Type 0} where
  -- sink and text are those of another step
  pub held_moved : (old mid now : K) (first held new_held : List ℕ) → now ≡ mid → new_held ≡ held → (1 ≤ length held) ⊎ ((mid ≡ old) × (held ≡ first))
      → (1 ≤ length new_held) ⊎ ((now ≡ old) × (new_held ≡ first))
  held_moved old mid now first held new_held e f (inl some) = inl (omega (arith, some, ap length f))
  held_moved old mid now first held new_held e f (inr h) = inr (e ∙ h.0, f ∙ h.1)

  -- behind a further call
  pub held_on : (old mid now : K) (held new_held : List ℕ) → (1 ≤ length held) ⊎ (mid ≡ old) → (1 ≤ length new_held) ⊎ ((now ≡ mid) × (new_held ≡ held))
      → (1 ≤ length new_held) ⊎ (now ≡ old)
  held_on old mid now held new_held b (inl some) = inl some
  held_on old mid now held new_held (inl some) (inr h) = inl (omega (arith, some, ap length h.1))
  held_on old mid now held new_held (inr e) (inr h) = inr (h.0 ∙ e)

-- ---- the lines of events

line_some : (names : List (List ℕ)) (e : Event) (events : List Event) → 1 ≤ length (events_text names (e ∷ events))
line_some names e events =
    omega (arith, length-append (event_line names e ++ 10 ∷ []) (events_text names events), length-append (event_line names e) (10 ∷ []))

-- the line of the next event
pub next_line : (names : List (List ℕ)) (events : List Event) (i : ℕ) (d : Event) → i < length events
    → events_text names (drop i events) ≡ events_text names (get_or events i d ∷ []) ++ events_text names (drop (i + 1) events)
next_line names events i d below =
    at_drop_more (events_text names) events i d below
    ∙ ap (λ bytes. bytes ++ events_text names (drop (i + 1) events)) (sym (append-nil (event_line names (get_or events i d) ++ 10 ∷ [])))

-- and behind the last
pub no_line : (names : List (List ℕ)) (events : List Event) (i : ℕ) → length events ≤ i → events_text names (drop i events) ≡ []
no_line names events i past = at_drop_all (events_text names) events i past

pub lines_join : (names : List (List ℕ)) (xs ys : List Event) → events_text names (xs ++ ys) ≡ events_text names xs ++ events_text names ys
lines_join names [] ys = refl
lines_join names (e ∷ xs) ys =
    ap (λ bytes. (event_line names e ++ 10 ∷ []) ++ bytes) (lines_join names xs ys)
    ∙ sym (append_assoc (event_line names e ++ 10 ∷ []) (events_text names xs) (events_text names ys))

pub lines_some : (names : List (List ℕ)) (events : List Event) → 1 ≤ length events → 1 ≤ length (events_text names events)
lines_some names [] some = absurd (omega (arith, some))
lines_some names (e ∷ events) some = line_some names e events

-- ---- the lines of those events that are in a span

within_more : (names : List (List ℕ)) (span : Span) (events : List Event) (i : ℕ) (d : Event) (b : Bool) → i < length events → is_within span (get_or events i d).time ≡ b
    → events_text names (events_within span (drop i events))
    ≡ events_text names (cond b (get_or events i d ∷ events_within span (drop (i + 1) events)) (events_within span (drop (i + 1) events)))
within_more names span events i d b below is =
    at_drop_more (λ (es : List Event). events_text names (events_within span es)) events i d below
    ∙ ap (λ b. events_text names (cond b (get_or events i d ∷ events_within span (drop (i + 1) events)) (events_within span (drop (i + 1) events)))) is

-- the line of the next event, where it is in the span
pub next_within : (names : List (List ℕ)) (span : Span) (events : List Event) (i : ℕ) (d : Event) → i < length events → is_within span (get_or events i d).time ≡ true
    → events_text names (events_within span (drop i events)) ≡ events_text names (get_or events i d ∷ []) ++ events_text names (events_within span (drop (i + 1) events))
next_within names span events i d below is =
    within_more names span events i d true below is
    ∙ ap (λ bytes. bytes ++ events_text names (events_within span (drop (i + 1) events))) (sym (append-nil (event_line names (get_or events i d) ++ 10 ∷ [])))

-- and none, where it is not
pub next_outside : (names : List (List ℕ)) (span : Span) (events : List Event) (i : ℕ) (d : Event) → i < length events → is_within span (get_or events i d).time ≡ false
    → events_text names (events_within span (drop i events)) ≡ events_text names (events_within span (drop (i + 1) events))
next_outside names span events i d below is = within_more names span events i d false below is

pub none_within : (names : List (List ℕ)) (span : Span) (events : List Event) (i : ℕ) → length events ≤ i → events_text names (events_within span (drop i events)) ≡ []
none_within names span events i past = at_drop_all (λ (es : List Event). events_text names (events_within span es)) events i past
