-- What the indexes of values say: over events with more behind them, and by their keys.
use Rattle.std.proofs.Common.{◌≡◌, ℕ, Bool, false, cond, List, [], ◌∷◌, ◌++◌, length, map, refl, sym, ◌∙◌, ap}
use Rattle.std.proofs.lemmas.List.{length-map}
use Rattle.std.proofs.lemmas.List.Concat.{flat_map-append}
use Rattle.std.proofs.lemmas.List.Sums.{sum_by-append}
use Rattle.dg_aux.specs.declared.turns.Turn.{Turn}
use Rattle.dg_aux.specs.Turns.{AreAlike, AuxState, ValuesSaid, additions, is_about, said_by, said_over, says, says_from, turns_by, turns_of}
use Rattle.dg_graph.specs.declared.event.Event.{Event}
use Rattle.dg_session.specs.ValuesSaid.{IndexKept, all_said_with, kept_of, said_of, said_with}

says_then : (b : Bool) (xs ys : List Turn) (v i t : ℕ) → says_from b (xs ++ ys) v i t ≡ says_from (says_from b xs v i t) ys v i t
says_then b [] ys v i t = refl
says_then b (m ∷ xs) ys v i t = says_then (cond (is_about v i t m) m.comes b) xs ys v i t

-- turns that are alike say the same
pub alike_says : (key : ℕ) (old new : List Turn) → AreAlike old new
    → (let a : ValuesSaid = record { key = key; says = says new; additions = additions new } in let b : ValuesSaid = record { key = key; says = says old; additions = additions old } in a ≡ b)
alike_says key old new alike = λ j. record { key = key; says = λ v i t. alike.says v i t j; additions = alike.additions j }

-- with the turns of more events behind them
pub turns_say : (key : ℕ) (turns : List Turn) (more : List Event)
    → (let a : ValuesSaid = record { key = key; says = says (turns ++ turns_of key more); additions = additions (turns ++ turns_of key more) } in
    let b : ValuesSaid = record { key = key; says = says turns; additions = additions turns } in a ≡ said_with more b)
turns_say key turns more =
    let bring : Turn → ℕ = λ m. cond m.comes 1 0 in
    λ j. record {
      key = key;
      says = λ v i t. says_then false turns (turns_of key more) v i t j;
      additions = sum_by-append bring turns (turns_of key more) j;
    }

pub said_more : (events more : List Event) (key : ℕ) → said_with more (said_over events key) ≡ said_over (events ++ more) key
said_more events more key =
    sym (turns_say key (turns_of key events) more)
    ∙ (λ j. let turns : List Turn = sym (flat_map-append (λ (e : Event). turns_by key e) events more) j in record { key = key; says = says turns; additions = additions turns })

pub all_said_more : (events more : List Event) (keys : List ℕ) → all_said_with more (map (said_over events) keys) ≡ map (said_over (events ++ more)) keys
all_said_more events more [] = refl
all_said_more events more (key ∷ keys) = λ j. said_more events more key j ∷ all_said_more events more keys j

-- their keys
keys_said : (events : List Event) (keys : List ℕ) → map (λ (s : ValuesSaid). s.key) (map (said_over events) keys) ≡ keys
keys_said events [] = refl
keys_said events (key ∷ keys) = ap (λ ks. key ∷ ks) (keys_said events keys)

keys_kept : (kept : List IndexKept) → map (λ (s : ValuesSaid). s.key) (map said_of kept) ≡ map (λ (k : IndexKept). k.key) kept
keys_kept [] = refl
keys_kept (k ∷ kept) = ap (λ ks. k.key ∷ ks) (keys_kept kept)

-- indexes that say this of these keys have these keys, and are as many
pub keys_of : (events : List Event) (kept : List IndexKept) (keys : List ℕ) → map said_of kept ≡ map (said_over events) keys → map (λ (k : IndexKept). k.key) kept ≡ keys
keys_of events kept keys is = sym (keys_kept kept) ∙ ap (map (λ (s : ValuesSaid). s.key)) is ∙ keys_said events keys

pub many_of : (events : List Event) (kept : List IndexKept) (keys : List ℕ) → map said_of kept ≡ map (said_over events) keys → length kept ≡ length keys
many_of events kept keys is = sym (length-map kept said_of) ∙ ap length is ∙ length-map keys (said_over events)

-- what is kept of the indexes says what they say
pub said_kept : (xs : List AuxState) → map said_of (map kept_of xs) ≡ map said_by xs
said_kept [] = refl
said_kept (x ∷ xs) = ap (λ l. said_by x ∷ l) (said_kept xs)
