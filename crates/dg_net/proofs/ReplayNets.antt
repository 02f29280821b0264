-- What the net of a list of events says, and what it does to a set.
--     cut_whole      the deltas of one list and then of another
--     replays, leads_back      what a net does to a set
use Rattle.std.proofs.Common.{◌≡◌, Bool, true, false, not, ◌||◌, ◌&&◌, List, [], ◌∷◌, ◌++◌, map, filter, reverse, Option, Some, None, refl, sym, ap, ◌∙◌}
use Rattle.std.specs.Option.{option_to_list}
use Rattle.std.proofs.lemmas.List.{map-append, reverse-append}
use Rattle.std.proofs.lemmas.List.Elements.{filter-append}
use Rattle.dg_graph.specs.declared.element.Element.{Element}
use Rattle.dg_graph.specs.declared.event.Event.{Event}
use Rattle.dg_graph.specs.Elements.{IsSet, has, same, with_one, without}
use Rattle.dg_graph.specs.Effect.{removed_by, added_by, forwards}
use Rattle.dg_graph.specs.Composition.{Delta, then_says, composition, Composes, applied, reversed}
use Rattle.dg_graph.specs.Replay.{replay_from}
use Rattle.dg_graph.proofs.ExactEvents.{IsSet-with_one, IsSet-without, IsSet-forwards, IsSet-replay_from}
use Rattle.dg_graph.proofs.Sets.{has-put, has-take_out, same_members}
use Rattle.dg_delta.specs.Deltas.{applied_in_turn}
use Rattle.dg_delta.proofs.Deltas.{edited, has-edited, IsSet-edited, can_be_cut, applies_each_in_turn, in_turn-append}
use Rattle.dg_event.proofs.EffectLaws.{undone}
use Rattle.dg_graph.specs.ExactEvents.{effect_of, IsExact, AreChangesOf}
use Rattle.dg_net.specs.Lists.{counts}

or_false : (a : Bool) → a ≡ (a || false)
or_false true = refl
or_false false = refl

-- ---- an element more, or less, where there is one

has-with_one : (set : List Element) (o : Option Element) (x : Element) → has (with_one set o) x ≡ (has (option_to_list o) x || has set x)
has-with_one set None x = refl
has-with_one set (Some y) x = has-put y set x ∙ ap (λ b. b || has set x) (or_false (same x y))

has-without : (set : List Element) (o : Option Element) (x : Element) → has (without set o) x ≡ (not (has (option_to_list o) x) && has set x)
has-without set None x = refl
has-without set (Some y) x = has-take_out y set x ∙ ap (λ b. not b && has set x) (or_false (same x y))

-- ---- an event as a delta

-- the delta that takes out one element and puts in another, where there are such
abbrev pub one_delta : Option Element → Option Element → Delta
one_delta removed added = record { minus = option_to_list removed; plus = option_to_list added }

abbrev pub back_of : Event → Delta
back_of e = reversed (effect_of e)

-- ---- a list that is cut in two

-- a composition of two compositions
pub composes_halves : (d a b : Delta) (xs ys list : List Delta) → Composes d (a ∷ b ∷ []) → Composes a xs → Composes b ys → list ≡ xs ++ ys → Composes d list
composes_halves d a b xs ys list composes first then is x =
    composes x
    ∙ (λ i. then_says (first x i) (then x i))
    ∙ sym (can_be_cut xs ys x)
    ∙ ap (λ l. composition l x) (sym is)

pub cut_on : (p : Event → Bool) (events xs ys : List Event) → events ≡ xs ++ ys
    → map effect_of (filter p events) ≡ map effect_of (filter p xs) ++ map effect_of (filter p ys)
cut_on p events xs ys is =
    ap (λ l. map effect_of (filter p l)) is
    ∙ ap (map effect_of) (filter-append p xs ys)
    ∙ map-append effect_of (filter p xs) (filter p ys)

-- where there is no instant, each event counts
pub all_count : (events : List Event) → filter (counts None) events ≡ events
all_count [] = refl
all_count (e ∷ events) = ap (λ l. e ∷ l) (all_count events)

pub cut_whole : (xs ys : List Event)
    → map effect_of (xs ++ ys) ≡ map effect_of (filter (counts None) xs) ++ map effect_of (filter (counts None) ys)
cut_whole xs ys =
    sym (ap (map effect_of) (all_count (xs ++ ys))) ∙ cut_on (counts None) (xs ++ ys) xs ys refl

cut_back : (events xs ys : List Event) → events ≡ xs ++ ys
    → map back_of (reverse events) ≡ map back_of (reverse ys) ++ map back_of (reverse xs)
cut_back events xs ys is =
    ap (λ l. map back_of (reverse l)) is
    ∙ ap (map back_of) (reverse-append xs ys)
    ∙ map-append back_of (reverse ys) (reverse xs)

-- ---- what a net does to a set

changed : (set : List Element) (removed added : Option Element) (x : Element)
    → has (with_one (without set removed) added) x ≡ (has (option_to_list added) x || (not (has (option_to_list removed) x) && has set x))
changed set removed added x =
    has-with_one (without set removed) added x ∙ ap (λ b. has (option_to_list added) x || b) (has-without set removed x)

-- one delta does what it says
one_applied : (set : List Element) (removed added : Option Element) → IsSet set
    → applied (one_delta removed added) set ≡ with_one (without set removed) added
one_applied set removed added s =
    same_members (applied (one_delta removed added) set) (with_one (without set removed) added)
    (IsSet-edited set (option_to_list removed) (option_to_list added) s)
    (IsSet-with_one (without set removed) added (IsSet-without set removed s))
    (λ x.
    has-edited set (option_to_list removed) (option_to_list added) x
    ∙ turned (has set x) (has (option_to_list removed) x) (has (option_to_list added) x)
    ∙ sym (changed set removed added x))
  where
    turned : (was lost gained : Bool) → edited was lost gained ≡ (gained || (not lost && was))
    turned true true true = refl
    turned true true false = refl
    turned true false true = refl
    turned true false false = refl
    turned false true true = refl
    turned false true false = refl
    turned false false true = refl
    turned false false false = refl

pub replays_in_turn : (events : List Event) (set : List Element) → IsSet set → applied_in_turn (map effect_of events) set ≡ replay_from set events
replays_in_turn [] set s = refl
replays_in_turn (e ∷ events) set s =
    ap (applied_in_turn (map effect_of events)) (one_applied set (removed_by e.body) (added_by e.body) s)
    ∙ replays_in_turn events (forwards set e) (IsSet-forwards set e s)

-- the net of some events leads where they lead
pub replays : (d : Delta) (events : List Event) → Composes d (map effect_of events) → (set : List Element) → IsSet set → applied d set ≡ replay_from set events
replays d events composes set s =
    applies_each_in_turn d (map effect_of events) set composes s ∙ replays_in_turn events set s

one_back : (e : Event) (set : List Element) → IsSet set → IsExact set e → applied (back_of e) (forwards set e) ≡ set
one_back e set s exact =
    one_applied (forwards set e) (added_by e.body) (removed_by e.body) (IsSet-forwards set e s)
    ∙ undone set (removed_by e.body) (added_by e.body) s exact.removed exact.added

pub back_in_turn : (events : List Event) (set : List Element) → IsSet set → AreChangesOf set events → applied_in_turn (map back_of (reverse events)) (replay_from set events) ≡ set
back_in_turn [] set s changes = refl
back_in_turn (e ∷ events) set s changes =
    ap (λ l. applied_in_turn l (replay_from (forwards set e) events)) (cut_back (e ∷ events) (e ∷ []) events refl)
    ∙ in_turn-append (map back_of (reverse events)) (back_of e ∷ []) (replay_from (forwards set e) events)
    ∙ ap (applied (back_of e)) (back_in_turn events (forwards set e) (IsSet-forwards set e s) changes.1)
    ∙ one_back e set s changes.0

-- the net that leads back over some events does so, where they are exact
pub leads_back : (d : Delta) (events : List Event) → Composes d (map back_of (reverse events))
    → (set : List Element) → IsSet set → AreChangesOf set events → applied d (replay_from set events) ≡ set
leads_back d events composes set s changes =
    applies_each_in_turn d (map back_of (reverse events)) (replay_from set events) composes (IsSet-replay_from events set s)
    ∙ back_in_turn events set s changes
