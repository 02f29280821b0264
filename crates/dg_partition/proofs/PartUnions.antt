-- The union of what the parts have is the whole.
--     union_of_parts      of a set
--     IsSet-shown_at      the graph as of an instant, with its messages, is a set
use Rattle.std.proofs.Common.{◌≡◌, ℕ, zero, suc, ◌+◌, ◌≤◌, ◌<◌, ◌⊎◌, inl, inr, ◌%◌, Bool, true, false, cond, not, ◌&&◌, ◌||◌, ◌==◌, List, [], ◌∷◌, ◌++◌, Option, Some, None, IfSome, IsTrue, filter, map, refl, sym, ap, ◌∙◌, arith}
use Rattle.std.specs.List.{list_any}
use Rattle.std.specs.Option.{option_eq, option_map}
use Rattle.std.proofs.Math.Nat.{mod-lt}
use Rattle.std.proofs.lemmas.Bool.{eq-eqb, or_left, or_right}
use Rattle.dg_graph.specs.declared.element.Columns.{Columns}
use Rattle.dg_graph.specs.declared.element.Element.{Element}
use Rattle.dg_graph.specs.declared.element.Element.TheVariants as element
use Rattle.dg_graph.specs.declared.event.Body.{Body}
use Rattle.dg_graph.specs.declared.event.Body.TheVariants as body
use Rattle.dg_graph.specs.declared.event.Event.{Event}
use Rattle.dg_graph.specs.DifferentialFunction.{all_of}
use Rattle.dg_graph.specs.Effect.{added_by, forwards, moved, removed_by}
use Rattle.dg_graph.specs.Elements.{IsBelowFirst, IsSet, asks, before, column_of, has, same, shown, with_one, without}
use Rattle.dg_graph.specs.Replay.{events_until, message_of, replay_at, replay_from, shown_at, told_at}
use Rattle.dg_graph.proofs.DifferentialFunctionDeltas.{AreSets, IsSet-all_of, has-all_of}
use Rattle.dg_graph.proofs.ExactEvents.{IsSet-replay_from}
use Rattle.dg_graph.proofs.Sets.{IsSet-filter, element_exact, has-filter, has-put, has-take_out, has_first, same_members}
use Rattle.dg_index.specs.Hierarchy.{numbers}
use Rattle.dg_partition.specs.Owners.{elements_of_part, events_of_part, is_placed, owner_of}
use Rattle.dg_partition.proofs.PartCuts.{split}
use Rattle.dg_partition.proofs.PartReplays.{IsSet-told_at, part_of_replay_at, part_of_told, filters_swap}

-- ---- some part has each element

-- of so many numbers from the first on, one is that of a part that has what is placed by this id
placed_among : (p first count : ℕ) (o : Option ℕ) → Bool
placed_among p first count o = list_any (λ i. is_placed p i o) (numbers first count)

one_of : (p id first count : ℕ) → first ≤ id % p → id % p < first + count → placed_among p first count (Some id) ≡ true
unfolding placed_among
one_of p id first zero low high = absurd (omega (arith, low, high))
one_of p id first (suc count) low high = by (id % p == first) refl (one_of p id (first + 1) count)
  where
    at : (a b : ℕ) → ((a == b) ≡ false) → a ≡ b → ⊥
    at a b is e = let yes = eq-eqb a b e in let no : true ≡ false = sym yes ∙ is in cc

    different : (a b : ℕ) → (a == b) ≡ false → b ≤ a → b + 1 ≤ a
    different a b is le = go (split a b)
      where
        go : (a ≤ b) ⊎ (b < a) → b + 1 ≤ a
        go (inl l) = absurd (at a b is (let e : a ≡ b = omega (arith, l, le) in e))
        go (inr l) = omega (arith, l)

    by : (b : Bool) → (id % p == first) ≡ b → (first + 1 ≤ id % p → id % p < (first + 1) + count → list_any (λ i. is_placed p i (Some id)) (numbers (first + 1) count) ≡ true)
        → ((id % p == first) || list_any (λ i. is_placed p i (Some id)) (numbers (first + 1) count)) ≡ true
    by true is rest = or_left (id % p == first) (list_any (λ i. is_placed p i (Some id)) (numbers (first + 1) count)) is
    by false is rest = or_right (id % p == first) (list_any (λ i. is_placed p i (Some id)) (numbers (first + 1) count)) (rest (different (id % p) first is low) (omega (arith, high)))

some_part : (p : ℕ) (o : Option ℕ) → 1 ≤ p → placed_among p 0 p o ≡ true
unfolding placed_among
some_part zero o some = absurd (omega (arith, some))
some_part (suc p) None some = refl
some_part (suc p) (Some id) some = one_of (suc p) id 0 (suc p) (omega arith) (let low = mod-lt id (let l : 0 < suc p = omega arith in l) in omega (arith, low))

-- an element is in the parts of these numbers where it is in the set and one of them has it
among_parts : (p : ℕ) (set : List Element) (x : Element) (ns : List ℕ)
    → list_any (λ (s : List Element). has s x) (map (λ i. elements_of_part p i set) ns) ≡ (list_any (λ i. is_placed p i (owner_of x)) ns && has set x)
among_parts p set x [] = refl
among_parts p set x (i ∷ ns) =
    (λ k. has-filter (λ y. is_placed p i (owner_of y)) set x k || among_parts p set x ns k)
    ∙ join (is_placed p i (owner_of x)) (list_any (λ i. is_placed p i (owner_of x)) ns) (has set x)
  where
    join : (a b h : Bool) → ((a && h) || (b && h)) ≡ ((a || b) && h)
    join true true true = refl
    join true true false = refl
    join true false true = refl
    join true false false = refl
    join false b h = refl

parts_are_sets : (p : ℕ) (set : List Element) → IsSet set → (ns : List ℕ) → AreSets (map (λ i. elements_of_part p i set) ns)
parts_are_sets p set s [] = tt
parts_are_sets p set s (i ∷ ns) = (IsSet-filter (λ y. is_placed p i (owner_of y)) set s, parts_are_sets p set s ns)

pub union_of_parts : (p : ℕ) (set : List Element) → 1 ≤ p → IsSet set → all_of (map (λ i. elements_of_part p i set) (numbers 0 p)) ≡ set
unfolding placed_among
union_of_parts p set some s =
    same_members (all_of (map (λ i. elements_of_part p i set) (numbers 0 p))) set (IsSet-all_of (map (λ i. elements_of_part p i set) (numbers 0 p)) (parts_are_sets p set s (numbers 0 p))) s
    (λ x. has-all_of (map (λ i. elements_of_part p i set) (numbers 0 p)) x ∙ among_parts p set x (numbers 0 p) ∙ ap (λ b. b && has set x) (some_part p (owner_of x) some))

-- ---- a graph with its messages is a set

is_told : Element → Bool
is_told (element.Node id) = false
is_told (element.Edge directed id src dst) = false
is_told (element.NodeAttr id key value) = false
is_told (element.EdgeAttr id key value) = false
is_told (element.Message src dst value) = true

-- no element is a message
Silent : List Element → Type 0
Silent set = (x : Element) → has set x ≡ true → is_told x ≡ false

Told : List Element → Type 0
Told set = (x : Element) → has set x ≡ true → is_told x ≡ true

moved_silent : (make : ℕ → Element) → ((v : ℕ) → is_told (make v) ≡ false) → (value other : Option ℕ) → IfSome (moved make value other) (λ x. is_told x ≡ false)
moved_silent make is value other = by (option_eq _ value other) value
  where
    by : (b : Bool) (value : Option ℕ) → IfSome (cond b None (option_map make value)) (λ x. is_told x ≡ false)
    by true value = tt
    by false None = tt
    by false (Some v) = is v

added_silent : (b : Body) → IfSome (added_by b) (λ x. is_told x ≡ false)
unfolding is_told
added_silent (body.NodeAdded id) = refl
added_silent (body.NodeRemoved id) = tt
added_silent (body.EdgeAdded directed id src dst) = refl
added_silent (body.EdgeRemoved directed id src dst) = tt
added_silent (body.NodeAttr key id old new) = moved_silent (element.NodeAttr id key) (λ v. refl) new old
added_silent (body.EdgeAttr key id old new) = moved_silent (element.EdgeAttr id key) (λ v. refl) new old
added_silent (body.Message src dst value) = tt

message_told : (b : Body) → IfSome (message_of b) (λ x. is_told x ≡ true)
unfolding is_told
message_told (body.NodeAdded id) = tt
message_told (body.NodeRemoved id) = tt
message_told (body.EdgeAdded directed id src dst) = tt
message_told (body.EdgeRemoved directed id src dst) = tt
message_told (body.NodeAttr key id old new) = tt
message_told (body.EdgeAttr key id old new) = tt
message_told (body.Message src dst value) = refl

with_kept : (b : Bool) (o : Option Element) (set : List Element) → IfSome o (λ x. is_told x ≡ b) → ((x : Element) → has set x ≡ true → is_told x ≡ b) → (x : Element) → has (with_one set o) x ≡ true → is_told x ≡ b
with_kept b None set one all x h = all x h
with_kept b (Some y) set one all x h = by (same x y) refl (sym (has-put y set x) ∙ h)
  where
    by : (c : Bool) → same x y ≡ c → (same x y || has set x) ≡ true → is_told x ≡ b
    by true is k = ap is_told (element_exact x y is) ∙ one
    by false is k = all x (sym (ap (λ c. c || has set x) is) ∙ k)

without_kept : (b : Bool) (o : Option Element) (set : List Element) → ((x : Element) → has set x ≡ true → is_told x ≡ b) → (x : Element) → has (without set o) x ≡ true → is_told x ≡ b
without_kept b None set all x h = all x h
without_kept b (Some y) set all x h = by (same x y) refl (sym (has-take_out y set x) ∙ h)
  where
    by : (c : Bool) → same x y ≡ c → (not (same x y) && has set x) ≡ true → is_told x ≡ b
    by true is k = absurd (let no : false ≡ true = sym (ap (λ c. not c && has set x) is) ∙ k in cc)
    by false is k = all x (sym (ap (λ c. not c && has set x) is) ∙ k)

silent_replay : (events : List Event) (set : List Element) → Silent set → Silent (replay_from set events)
unfolding Silent
silent_replay [] set s = s
silent_replay (e ∷ events) set s =
    silent_replay events (forwards set e)
    (with_kept false (added_by e.body) (without set (removed_by e.body)) (added_silent e.body) (without_kept false (removed_by e.body) set s))

all_told : (events : List Event) (t : ℕ) → Told (told_at events t)
unfolding Told
all_told [] t x h = absurd (let no : false ≡ true = h in cc)
all_told (e ∷ events) t x h = with_kept true (cond (e.time == t) (message_of e.body) None) (told_at events t) (one (e.time == t)) (all_told events t) x h
  where
    one : (b : Bool) → IfSome (cond b (message_of e.body) None) (λ x. is_told x ≡ true)
    one true = message_told e.body
    one false = tt

silent_first : (x y : Element) → is_told x ≡ false → is_told y ≡ true → IsTrue (before x y)
unfolding is_told
silent_first x (element.Node id) e f = absurd (let no : false ≡ true = f in cc)
silent_first x (element.Edge directed id src dst) e f = absurd (let no : false ≡ true = f in cc)
silent_first x (element.NodeAttr id key value) e f = absurd (let no : false ≡ true = f in cc)
silent_first x (element.EdgeAttr id key value) e f = absurd (let no : false ≡ true = f in cc)
silent_first (element.Node n) (element.Message src dst value) e f = refl
silent_first (element.Edge directed n s d) (element.Message src dst value) e f = refl
silent_first (element.NodeAttr n key v) (element.Message src dst value) e f = refl
silent_first (element.EdgeAttr n key v) (element.Message src dst value) e f = refl
silent_first (element.Message s d v) (element.Message src dst value) e f = absurd (let no : true ≡ false = e in cc)

sets_join : (xs ys : List Element) → IsSet xs → IsSet ys → Silent xs → Told ys → IsSet (xs ++ ys)
unfolding Silent Told
sets_join [] ys s u silent all = u
sets_join (x ∷ xs) ys s u silent all = (below xs ys s.0 all, sets_join xs ys s.1 u (λ y h. silent y (or_right (same y x) (has xs y) h)) all)
  where
    below : (xs ys : List Element) → IsBelowFirst x xs → ((y : Element) → has ys y ≡ true → is_told y ≡ true) → IsBelowFirst x (xs ++ ys)
    below [] [] b told = tt
    below [] (y ∷ ys) b told = silent_first x y (silent x (has_first x xs)) (told y (has_first y ys))
    below (z ∷ zs) ys b told = b

silent_shown : (set : List Element) (cols : Columns) → Silent set → Silent (shown set cols)
unfolding Silent
silent_shown set cols s x h = s x (by (asks cols (column_of x)) (sym (has-filter (λ y. asks cols (column_of y)) set x) ∙ h))
  where
    by : (b : Bool) → (b && has set x) ≡ true → has set x ≡ true
    by true k = k
    by false k = absurd (let no : false ≡ true = k in cc)

pub IsSet-shown_at : (events : List Event) (t : ℕ) (cols : Columns) → IsSet (shown_at events t cols)
unfolding Silent Told
IsSet-shown_at events t cols = by cols.transient
  where
    graph : List Element
    graph = replay_at events t

    graph_set : IsSet (shown (replay_at events t) cols)
    graph_set = IsSet-filter (λ x. asks cols (column_of x)) (replay_at events t) (IsSet-replay_from (events_until events t) [] tt)

    silent : Silent (shown (replay_at events t) cols)
    silent = silent_shown (replay_at events t) cols (silent_replay (events_until events t) [] (λ x h. absurd (let no : false ≡ true = h in cc)))

    by : (b : Bool) → IsSet (shown (replay_at events t) cols ++ cond b (told_at events t) [])
    by true = sets_join (shown (replay_at events t) cols) (told_at events t) graph_set (IsSet-told_at events t) silent (all_told events t)
    by false = sets_join (shown (replay_at events t) cols) [] graph_set tt silent (λ x h. absurd (let no : false ≡ true = h in cc))

-- ---- what a part shows

filter_append : (u : Element → Bool) (xs ys : List Element) → filter u (xs ++ ys) ≡ filter u xs ++ filter u ys
filter_append u [] ys = refl
filter_append u (x ∷ xs) ys = by (u x) (filter_append u xs ys)
  where
    by : (b : Bool) → filter u (xs ++ ys) ≡ filter u xs ++ filter u ys → cond b (x ∷ filter u (xs ++ ys)) (filter u (xs ++ ys)) ≡ cond b (x ∷ filter u xs) (filter u xs) ++ filter u ys
    by true rest = ap (λ l. x ∷ l) rest
    by false rest = rest

pub part_shows : (p i : ℕ) (events : List Event) (t : ℕ) (cols : Columns) → shown_at (events_of_part p i events) t cols ≡ elements_of_part p i (shown_at events t cols)
part_shows p i events t cols =
    (λ k. shown (part_of_replay_at p i events t k) cols ++ cond cols.transient (part_of_told p i events t k) [])
    ∙ (λ k. filters_swap (λ x. asks cols (column_of x)) (λ x. is_placed p i (owner_of x)) (replay_at events t) k ++ by cols.transient k)
    ∙ sym (filter_append (λ x. is_placed p i (owner_of x)) (shown (replay_at events t) cols) (cond cols.transient (told_at events t) []))
  where
    by : (b : Bool) → cond b (elements_of_part p i (told_at events t)) [] ≡ elements_of_part p i (cond b (told_at events t) [])
    by true = refl
    by false = refl

-- the parts together show what the whole shows
pub parts_show : (p : ℕ) (events : List Event) (t : ℕ) (cols : Columns) → 1 ≤ p
    → all_of (map (λ i. shown_at (events_of_part p i events) t cols) (numbers 0 p)) ≡ shown_at events t cols
parts_show p events t cols some =
    ap all_of (each (numbers 0 p)) ∙ union_of_parts p (shown_at events t cols) some (IsSet-shown_at events t cols)
  where
    each : (ns : List ℕ) → map (λ i. shown_at (events_of_part p i events) t cols) ns ≡ map (λ i. elements_of_part p i (shown_at events t cols)) ns
    each [] = refl
    each (i ∷ ns) = let rest = each ns in λ k. part_shows p i events t cols k ∷ rest k
