-- The text of a history, batch by batch.
use Rattle.std.proofs.Common.{◌≡◌, ℕ, zero, suc, ◌+◌, ◌-◌, ◌<◌, ◌≤◌, ◌==◌, List, [], ◌∷◌, ◌++◌, Option, Some, None, if◌then◌else◌, length, map, take, drop, refl, sym, ap, ◌∙◌, subst, append_assoc, append-nil, length-append, length-drop, codes, arith}
use Rattle.std.specs.Prelude.{Bool, IfSome, Ok, Result}
use Rattle.std.proofs.lemmas.Bool.{ne_eqb}
use Rattle.std.proofs.lemmas.List.{drop_all, drop_at, drop-drop, length-map, length-take, take_at}
use Rattle.std.proofs.Math.Seq.{take-add}
use Rattle.dg_dump.specs.ScriptOfHistory.{appended_lines, batch_command, batch_lines, batches_lines, create_line, event_line, script_of, text_of_lines}
use Rattle.dg_dumping.specs.Dumped.{batch_text, events_at, verb_at}
use Rattle.dg_dumping.specs.PutText.{events_text}
use Rattle.dg_dumping.proofs.Pieces.{lines_join}
use Rattle.dg_graph.specs.declared.event.Event.{Event}
use Rattle.dg_history.specs.History.{Batch, History, events_of, names_of}
use Rattle.dg_history.proofs.LegalHistories.{events_among}
use Rattle.dg_index.specs.declared.entry.BatchEntry.{BatchEntry}
use Rattle.dg_spans.specs.declared.place.BatchPlace.{BatchPlace}
use Rattle.dg_index.specs.ImageOfHistory.{IsImageOf}
use Rattle.dg_index.specs.OpenedIndex.{Opened, event_total, opened_of, opening}
use Rattle.dg_index.proofs.HeldRecords.{known}
use Rattle.dg_index.proofs.OpenedIndexHistories.{images_are_opened}
use Rattle.dg_index.proofs.OpenedLegalHistories.{behind}
use Rattle.dg_index.proofs.RecentEventPieces.{batches_of, noted}
use Rattle.dg_spans.specs.Stretches.{AreEventsFrom, IsPlaced, WhereStands}
use Rattle.dg_spans.proofs.HistoryRecords.{IsBatchAt, batch_at}
use Rattle.dg_spans.proofs.Places.{placed_within}
use Rattle.dg_start.proofs.EventSourceOutcomes.{of_told}
use Rattle.std.proofs.lemmas.Grind.{flat_map-append}

-- the lines of the batches from the one of this number on
abbrev pub lines_from : List (List ℕ) → ℕ → List Batch → List (List ℕ)
lines_from names zero batches = batches_lines names batches
lines_from names (suc n) batches = appended_lines names batches

pub next_batch : (names : List (List ℕ)) (n : ℕ) (b : Batch) (more : List Batch)
    → lines_from names n (b ∷ more) ≡ batch_lines (verb_at n) names b ++ lines_from names (suc n) more
next_batch names zero b more = refl
next_batch names (suc n) b more = ap (λ verb. batch_lines verb names b ++ appended_lines names more) (is_appended n)
  where
    is_appended : (n : ℕ) → codes "append" ≡ verb_at (suc n)
    is_appended n = ap (λ (t : Bool). if t then codes "load" else codes "append") (sym (ne_eqb (suc n) 0 (λ e. omega (arith, e))))

pub text_join : (xs ys : List (List ℕ)) → text_of_lines (xs ++ ys) ≡ text_of_lines xs ++ text_of_lines ys
text_join xs ys = flat_map-append (λ (line : List ℕ). line ++ 10 ∷ []) xs ys

-- the events of the batch of a place
pub events_there : (z : History) (p : BatchPlace) (c : IsBatchAt z p) → events_at z p ≡ c.b.events
events_there z p c =
    let before : List Event = events_among c.front in
    let more : List Event = events_among c.more in
    let n : p.batch.events ≡ length c.b.events = ap (λ (e : BatchEntry). e.events) (sym c.entry) in
    let whole : events_of z ≡ before ++ (c.b.events ++ more) = ap events_among c.is ∙ flat_map-append (λ (b : Batch). b.events) c.front (c.b ∷ c.more) in
    (λ j. take (n j) (drop (sym c.before j) (whole j)))
    ∙ ap (take (length c.b.events)) (drop_at before (c.b.events ++ more) (length before) refl)
    ∙ take_at c.b.events more (length c.b.events) refl

-- what is left from the batch of a place on
pub batch_next : (z : History) (names : List (List ℕ)) (p : BatchPlace) → IsBatchAt z p
    → text_of_lines (lines_from names p.number (drop p.number z.batches))
    ≡ batch_text z names p ++ text_of_lines (lines_from names (p.number + 1) (drop (p.number + 1) z.batches))
batch_next z names p c =
    let n : ℕ = p.number in
    let here : drop n z.batches ≡ c.b ∷ c.more = ap (drop n) c.is ∙ drop_at c.front (c.b ∷ c.more) n c.number in
    let later : drop (n + 1) z.batches ≡ c.more =
    ap (drop (n + 1)) (c.is ∙ sym (append_assoc c.front (c.b ∷ []) c.more))
    ∙ drop_at (c.front ++ c.b ∷ []) c.more (n + 1) (length-append c.front (c.b ∷ []) ∙ ap (λ m. m + 1) c.number) in
    let count : length c.b.events ≡ p.batch.events = ap (λ (e : BatchEntry). e.events) c.entry in
    let one : n + 1 ≡ suc n = omega arith in
    let own : text_of_lines (batch_lines (verb_at n) names c.b) ≡ batch_text z names p =
    (λ j. text_of_lines (batch_command (verb_at n) (count j) ∷ map (event_line names) (sym (events_there z p c) j))) in
    ap (λ (bs : List Batch). text_of_lines (lines_from names n bs)) here
    ∙ ap text_of_lines (next_batch names n c.b c.more)
    ∙ text_join (batch_lines (verb_at n) names c.b) (lines_from names (suc n) c.more)
    ∙ (λ j. own j ++ text_of_lines (lines_from names (sym one j) (sym later j)))

-- ---- the events of a batch, stretch by stretch

-- those that are left from this one on
abbrev pub left_from : History → ℕ → ℕ → List Event
left_from z at end = take (end - at) (drop at (events_of z))

pub part_next : (z : History) (at end : ℕ) (part : List Event) → AreEventsFrom z at part → at + length part ≤ end
    → left_from z at end ≡ part ++ left_from z (at + length part) end
part_next z at end part from le =
    let n : ℕ = length part in
    let es : List Event = events_of z in
    let parts : end - at ≡ n + (end - (at + n)) = omega (arith, le) in
    ap (λ k. take k (drop at es)) parts ∙ take-add n (end - (at + n)) (drop at es)
    ∙ (λ j. from j ++ take (end - (at + n)) (drop-drop n at es j))

-- ---- over an opened image

-- the index is that of each history that the image stands for, with its names and parameters
pub record IsIndexOf (z : History) (x : Opened) : Type 0 where
  pub is : opened_of z ≡ x
  pub names : x.names ≡ names_of z
  pub params : x.index.params ≡ z.params
  pub total : event_total x.index.batches ≡ length (events_of z)
  pub batches : x.index.batches ≡ map noted z.batches

pub index_of : (told : Option (List ℕ)) (x : Opened) → IfSome told (λ image. opening image ≡ Ok x) → WhereStands told (λ z. IsIndexOf z x)
index_of told x opened image is z h =
    let same : opened_of z ≡ x = ok_same (opened_of z) x (opening image) (images_are_opened z image h) (of_told told (λ image. opening image ≡ Ok x) image opened is) in
    record {
      is = same;
      names = subst (λ (y : Opened). y.names ≡ names_of z) same (behind z h.legal).names_are;
      params = subst (λ (y : Opened). y.index.params ≡ z.params) same (known z).params;
      total = subst (λ (y : Opened). event_total y.index.batches ≡ length (events_of z)) same (known z).count;
      batches = subst (λ (y : Opened). y.index.batches ≡ map noted z.batches) same (batches_of z);
    }
  where
    ok_same : {A E : Type 0} (x y : A) (r : Result A E) → r ≡ Ok x → r ≡ Ok y → x ≡ y
    ok_same x y r p q = cc

pub batch_of : (z : History) (x : Opened) (p : BatchPlace) → IsIndexOf z x → IsPlaced x.index p → IsBatchAt z p
batch_of z x p i placed = batch_at z p (subst (λ (y : Opened). IsPlaced y.index p) (sym i.is) placed)

-- the events of the batch are among those of the history
pub batch_in : (z : History) (x : Opened) (p : BatchPlace) → IsIndexOf z x → IsPlaced x.index p → p.before + p.batch.events ≤ length (events_of z)
batch_in z x p i placed = omega (arith, placed_within x.index p placed, i.total)

-- some are left before the end
pub left_some : (z : History) (at end : ℕ) → at < end → end ≤ length (events_of z) → 1 ≤ length (left_from z at end)
left_some z at end lt le = omega (arith, lt, le, length-take (end - at) (drop at (events_of z)), length-drop at (events_of z))

-- behind the last batch nothing is left
pub no_batch : (z : History) (names : List (List ℕ)) (x : Opened) (n : ℕ) → IsIndexOf z x → length x.index.batches ≤ n
    → text_of_lines (lines_from names n (drop n z.batches)) ≡ []
no_batch z names x n i past =
    ap (λ (bs : List Batch). text_of_lines (lines_from names n bs))
    (drop_all n z.batches (omega (arith, past, ap length i.batches, length-map z.batches noted))) ∙ none n
  where
    none : (n : ℕ) → text_of_lines (lines_from names n []) ≡ []
    none zero = refl
    none (suc n) = refl

-- the script of the history, by what is known of the index
pub script_text : (z : History) (x : Opened) (mid : List ℕ) → IsIndexOf z x → mid ≡ create_line x.index.params ++ 10 ∷ []
    → mid ++ text_of_lines (batches_lines x.names z.batches) ≡ script_of z
script_text z x mid i is =
    ap (λ bytes. bytes ++ text_of_lines (batches_lines x.names z.batches)) is
    ∙ (λ j. (create_line (i.params j) ++ 10 ∷ []) ++ text_of_lines (batches_lines (i.names j) z.batches))

-- ---- pieces of text

-- what stands behind a text that is longer by a piece
pub text_more : (old mid piece rest : List ℕ) → mid ≡ old ++ piece → mid ++ rest ≡ old ++ (piece ++ rest)
text_more old mid piece rest is = ap (λ bytes. bytes ++ rest) is ∙ append_assoc old piece rest

-- a line is not empty
pub some_line : (line rest : List ℕ) → 1 ≤ length ((line ++ 10 ∷ []) ++ rest)
some_line line rest = omega (arith, length-append (line ++ 10 ∷ []) rest, length-append line (10 ∷ []))
