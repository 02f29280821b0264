-- Batches that are cut from events, of which the first brings the names: the first of them are a legal history where all are.
--     HasNext, next_of      the next of some batches
--     front_legal      the first batches
use Rattle.std.proofs.Common.{◌≡◌, ℕ, zero, suc, ◌<◌, ◌≤◌, true, List, [], ◌∷◌, ◌++◌, length, take, drop, refl, sym, ap, subst, ◌∙◌, arith, length-append}
use Rattle.std.proofs.lemmas.List.{take-append-drop}
use Rattle.std.proofs.lemmas.List.Concat.{flat_map-append}
use Rattle.dg_graph.specs.declared.event.Event.{Event}
use Rattle.dg_history.specs.declared.form.Form.TheVariants as form
use Rattle.dg_history.specs.declared.params.Params.{Params}
use Rattle.dg_history.specs.History.{Batch, History, is_function, are_parameters, names_of}
use Rattle.dg_history.specs.LegalHistory.{AreLegalAfter, IsLegal}
use Rattle.dg_history.proofs.LegalHistories.{events_among, names_among}
use Rattle.dg_index.proofs.OpenedIndexHistories.{legal_parts}
use Rattle.dg_part_files.specs.WrittenParts.{front_of, written}
use Rattle.dg_partition.specs.Cuts.{cut}
use Rattle.dg_partition.specs.HistoryParts.{batches_of}
use Rattle.dg_text.specs.declared.limits.TheConstants.{NAMES_MAX}
use Rattle.dg_text.specs.Names.{are_new}

-- ---- the next of some

pub record HasNext {X : Type 0} (xs : List X) (n : ℕ) (x : X) (more : List X) : Type 0 where
  pub front : take (suc n) xs ≡ take n xs ++ x ∷ []
  pub left : drop (suc n) xs ≡ more
  pub within : n < length xs

pub next_of : {X : Type 0} (n : ℕ) (xs : List X) (x : X) (more : List X) → drop n xs ≡ x ∷ more → HasNext xs n x more
next_of zero [] x more is = absurd cc
next_of zero (y ∷ ys) x more is =
    subst (λ (zs : List _). HasNext zs 0 x more) (sym is) (record { front = refl; left = refl; within = omega arith })
next_of (suc n) [] x more is = absurd cc
next_of (suc n) (y ∷ ys) x more is =
    let h = next_of n ys x more is in
    record { front = ap (λ l. y ∷ l) h.front; left = h.left; within = omega (arith, h.within) }

-- ---- names

no_names : (more : List (List Event)) → names_among (batches_of [] more) ≡ []
no_names [] = refl
no_names (events ∷ more) = no_names more

no_front_names : (n : ℕ) (more : List (List Event)) → names_among (take n (batches_of [] more)) ≡ []
no_front_names zero more = refl
no_front_names (suc n) [] = refl
no_front_names (suc n) (events ∷ more) = no_front_names n more

-- ---- the first batches

-- no batch is a legal history
none_legal : (p : Params) → are_parameters p.l p.k ≡ true → is_function p.function ≡ true → IsLegal (record { params = p; form = form.Two; batches = [] })
none_legal p parameters function =
    record { parameters = parameters; function = function; form = refl; silent = refl; batches = tt; names = refl; few_names = omega arith; few = omega arith }

front_events : (n : ℕ) (batches : List Batch) → length (events_among (take n batches)) ≤ length (events_among batches)
front_events n batches =
    let whole : events_among batches ≡ events_among (take n batches) ++ events_among (drop n batches) =
    ap events_among (sym (take-append-drop n batches)) ∙ flat_map-append (λ (b : Batch). b.events) (take n batches) (drop n batches) in
    omega (arith, ap length whole, length-append (events_among (take n batches)) (events_among (drop n batches)))

cuts_front : (p : Params) (names : List (List ℕ)) (cuts : List (List Event)) → IsLegal (record { params = p; form = form.Two; batches = batches_of names cuts })
    → (n : ℕ) → IsLegal (record { params = p; form = form.Two; batches = take n (batches_of names cuts) })
cuts_front p names cuts legal zero = none_legal p legal.parameters legal.function
cuts_front p names [] legal (suc n) = none_legal p legal.parameters legal.function
cuts_front p names (c ∷ cuts) legal (suc n) =
    let all : List Batch = batches_of names (c ∷ cuts) in
    let same : names_among (take (suc n) all) ≡ names_among all = ap (λ (l : List (List ℕ)). names ++ l) (no_front_names n cuts ∙ sym (no_names cuts)) in
    let parts = legal_parts (names_among all) [] (take (suc n) all) (drop (suc n) all) (subst (λ (l : List Batch). AreLegalAfter (names_among all) [] l) (sym (take-append-drop (suc n) all)) legal.batches) in
    record {
      parameters = legal.parameters;
      function = legal.function;
      form = refl;
      silent = refl;
      batches = subst (λ (ns : List (List ℕ)). AreLegalAfter ns [] (take (suc n) all)) (sym same) parts.0;
      names = subst (λ (ns : List (List ℕ)). are_new [] ns ≡ true) (sym same) legal.names;
      few_names = subst (λ (ns : List (List ℕ)). length ns ≤ NAMES_MAX) (sym same) legal.few_names;
      few = omega (arith, front_events (suc n) all, legal.few);
    }

pub front_legal : (p : Params) (names : List (List ℕ)) (events : List Event) → IsLegal (written p names events) → (n : ℕ) → IsLegal (front_of (written p names events) n)
front_legal p names events legal n = cuts_front p names (cut (length events) events) legal n

-- a batch of a legal history has an event
pub some_events : (p : Params) (names : List (List ℕ)) (events : List Event) → IsLegal (written p names events) → (n : ℕ) (b : Batch) (more : List Batch)
    → drop n ((written p names events).batches) ≡ b ∷ more → 1 ≤ length b.events
some_events p names events legal n b more is =
    let z : History = written p names events in
    let parts = legal_parts (names_of z) [] (take n z.batches) (drop n z.batches) (subst (λ (l : List Batch). AreLegalAfter (names_of z) [] l) (sym (take-append-drop n z.batches)) legal.batches) in
    let behind = subst (λ (l : List Batch). AreLegalAfter (names_of z) (events_among (take n z.batches)) l) is parts.1 in
    behind.0.some
