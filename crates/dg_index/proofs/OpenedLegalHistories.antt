-- What a legal history is opened as.
use Rattle.std.proofs.Common.{◌≡◌, ℕ, ◌+◌, ◌<◌, ◌≤◌, true, false, List, [], ◌∷◌, ◌++◌, length, take, drop, sym, ap, subst, ◌∙◌, arith, append_assoc, append-nil, length-append}
use Rattle.std.specs.Prelude.{nat_le}
use Rattle.std.proofs.lemmas.Bool.{and_from, false≢true, le-leb}
use Rattle.std.proofs.lemmas.List.{take-append-drop}
use Rattle.std.proofs.lemmas.List.Concat.{flat_map-append}
use Rattle.dg_graph.specs.declared.event.Event.{Event}
use Rattle.dg_text.specs.declared.limits.TheConstants.{NAMES_MAX}
use Rattle.dg_text.specs.Names.{are_new}
use Rattle.dg_history.specs.declared.limits.TheConstants.{EVENTS_MAX}
use Rattle.dg_history.specs.declared.form.Form.{Form}
use Rattle.dg_history.specs.declared.form.Form.TheVariants as form
use Rattle.dg_history.specs.declared.params.Params.{Params}
use Rattle.dg_history.specs.History.{Batch, History, events_of, is_wide, names_of, narrow_batches}
use Rattle.dg_history.specs.LegalHistory.{AreLegalAfter, IsLegal, are_silent}
use Rattle.dg_history.proofs.LegalHistories.{events_among, names_among}
use Rattle.dg_index.specs.FileOfHistory.{segment_of}
use Rattle.dg_index.specs.OpenedIndex.{Opened, bare, may_be_named, opened_in, opened_of, opened_onto, with_marker, with_segment}
use Rattle.dg_index.proofs.ImageTextNames.{new_parts}
use Rattle.dg_index.proofs.OpenedIndexHistories.{IsBehind, bare_is, behind_marker, behind_more, large_parameters, legal_parts}
use Rattle.dg_index.proofs.UnheardRecords.{silent_parts}

-- more batches behind some
behind_all : (p : Params) → 0 < p.l → 2 ≤ p.k → (batches : List Batch) (x : Opened) (before : List Event) (names all_names : List (List ℕ))
    → IsBehind p x before names → AreLegalAfter all_names before batches → are_new names (names_among batches) ≡ true → length names + length (names_among batches) ≤ NAMES_MAX
    → length before + length (events_among batches) ≤ EVENTS_MAX → (is_wide x.index.form ≡ false → are_silent (before ++ events_among batches) ≡ true)
    → IsBehind p (opened_onto p x before batches) (before ++ events_among batches) (names ++ names_among batches)
behind_all p pos two [] x before names all_names is legal new few_names few silent =
    subst (λ (es : List Event). IsBehind p x es (names ++ [])) (sym (append-nil before)) (subst (λ (ns : List (List ℕ)). IsBehind p x before ns) (sym (append-nil names)) is)
behind_all p pos two (b ∷ more) x before names all_names is legal new few_names few silent =
    let count : length (b.events ++ events_among more) ≡ length b.events + length (events_among more) = length-append b.events (events_among more) in
    let number : length (b.names ++ names_among more) ≡ length b.names + length (names_among more) = length-append b.names (names_among more) in
    let fresh = new_parts names b.names (names_among more) new in
    let named : may_be_named names b.names ≡ true =
    and_from (are_new names b.names) (nat_le (length names + length b.names) NAMES_MAX) fresh.0 (le-leb (length names + length b.names) NAMES_MAX (omega (arith, number, few_names))) in
    let still : is_wide x.index.form ≡ false → are_silent ((before ++ b.events) ++ events_among more) ≡ true = λ h. ap are_silent (append_assoc before b.events (events_among more)) ∙ silent h in
    let next = behind_more p pos two x before names all_names b is legal.0 (omega (arith, count, few)) named (λ h. (silent_parts (before ++ b.events) (events_among more) (still h)).0) in
    subst (λ (es : List Event). IsBehind p (opened_onto p x before (b ∷ more)) es (names ++ names_among (b ∷ more))) (append_assoc before b.events (events_among more))
    (subst (λ (ns : List (List ℕ)). IsBehind p (opened_onto p x before (b ∷ more)) ((before ++ b.events) ++ events_among more) ns) (append_assoc names b.names (names_among more))
    (behind_all p pos two more (with_segment x (segment_of p before b)) (before ++ b.events) (names ++ b.names) all_names next legal.1 fresh.1
    (omega (arith, number, few_names, length-append names b.names)) (omega (arith, count, few, length-append before b.events)) still))

-- all batches of a history, in whichever form
behind_form : (f : Form) (p : Params) (batches : List Batch) (all_names : List (List ℕ)) → 0 < p.l → 2 ≤ p.k → AreLegalAfter all_names [] batches
    → are_new [] (names_among batches) ≡ true → length (names_among batches) ≤ NAMES_MAX → length (events_among batches) ≤ EVENTS_MAX
    → are_silent (events_among (narrow_batches f batches)) ≡ true → IsBehind p (opened_in f p batches) (events_among batches) (names_among batches)
behind_form form.One p batches all_names pos two legal new few_names few silent =
    behind_all p pos two batches (bare form.One p) [] [] all_names (bare_is form.One p) legal new (omega (arith, few_names)) (omega (arith, few)) (λ h. silent)
behind_form form.Two p batches all_names pos two legal new few_names few silent =
    behind_all p pos two batches (bare form.Two p) [] [] all_names (bare_is form.Two p) legal new (omega (arith, few_names)) (omega (arith, few)) (λ h. absurd (false≢true (sym h)))
behind_form (form.Upgraded b) p batches all_names pos two legal new few_names few silent =
    let xs : List Batch = take b batches in
    let ys : List Batch = drop b batches in
    let whole : batches ≡ xs ++ ys = sym (take-append-drop b batches) in
    let parts = legal_parts all_names [] xs ys (subst (λ (l : List Batch). AreLegalAfter all_names [] l) whole legal) in
    let names : names_among batches ≡ names_among xs ++ names_among ys = ap names_among whole ∙ flat_map-append (λ (b : Batch). b.names) xs ys in
    let events : events_among batches ≡ events_among xs ++ events_among ys = ap events_among whole ∙ flat_map-append (λ (b : Batch). b.events) xs ys in
    let count : length (events_among batches) ≡ length (events_among xs) + length (events_among ys) = ap length events ∙ length-append (events_among xs) (events_among ys) in
    let number : length (names_among batches) ≡ length (names_among xs) + length (names_among ys) = ap length names ∙ length-append (names_among xs) (names_among ys) in
    let fresh = new_parts [] (names_among xs) (names_among ys) (ap (are_new []) (sym names) ∙ new) in
    let y : Opened = opened_onto p (bare form.One p) [] xs in
    let first = behind_all p pos two xs (bare form.One p) [] [] all_names (bare_is form.One p) parts.0 fresh.0 (omega (arith, number, few_names)) (omega (arith, count, few)) (λ h. silent) in
    let second = behind_all p pos two ys (with_marker y) (events_among xs) (names_among xs) all_names (behind_marker p y (events_among xs) (names_among xs) first) parts.1 fresh.1
    (omega (arith, number, few_names)) (omega (arith, count, few)) (λ h. absurd (false≢true (sym h))) in
    subst (λ (es : List Event). IsBehind p (opened_in (form.Upgraded b) p batches) es (names_among batches)) (sym events)
    (subst (λ (ns : List (List ℕ)). IsBehind p (opened_in (form.Upgraded b) p batches) (events_among xs ++ events_among ys) ns) (sym names) second)

-- a legal history is opened as an index with its names, behind its events
pub behind : (z : History) → IsLegal z → IsBehind z.params (opened_of z) (events_of z) (names_of z)
behind z legal =
    let large = large_parameters z.params.l z.params.k legal.parameters in
    behind_form z.form z.params z.batches (names_of z) (omega (arith, large.0)) large.1 legal.batches legal.names legal.few_names legal.few legal.silent
