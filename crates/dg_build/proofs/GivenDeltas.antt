-- What is written of the deltas that a batch gives, and the first of them that is too wide.
use Rattle.std.proofs.Common.{◌≡◌, ℕ, zero, suc, ◌+◌, ◌-◌, ◌*◌, ◌/◌, ◌<◌, ◌≤◌, Bool, true, false, cond, List, [], ◌∷◌, ◌++◌, length, get_or, map, take, drop, Option, Some, None, is_some, refl, sym, ap, subst, ◌∙◌, arith, append-nil, append_assoc, length-append, lt-ltb, le-ltb, ⊎_elim, eq-or-lt_of_le}
use Rattle.std.proofs.lemmas.Bool.{false≢true}
use Rattle.std.proofs.lemmas.List.{map-append, length-map, get_or_append_left, get_or_push}
use Rattle.dg_graph.specs.declared.element.Element.{Element}
use Rattle.dg_history.specs.declared.params.Params.{Params}
use Rattle.dg_graph.specs.Composition.{Delta, chained, nothing}
use Rattle.dg_index.specs.FileOfHistory.{Segment, Stored}
use Rattle.dg_build.specs.declared.fault.BuildFault.{BuildFault}
use Rattle.dg_build.specs.declared.fault.BuildFault.TheVariants.{Memory, Wide}
use Rattle.dg_build.specs.InteriorDeltas.{downs_by, inner_by, last_way, stored_delta, top_to}
use Rattle.dg_build.specs.SpelledRecords.{first_wide, is_wide, IsFaultOfDeltas}
use Rattle.dg_build.specs.GivenDeltas.{AreAdded, IsFaultOfSuch, Nodes, first_by, given_above, given_on, later_downs, later_steps, risen, row_between}
use Rattle.dg_build.proofs.OlderSteps.{half}

-- ---- some deltas, and then others

wide_behind : (index : ℕ) (done more : List Delta) → first_wide index done ≡ None → first_wide index (done ++ more) ≡ first_wide (index + length done) more
wide_behind index [] more none = ap (λ n. first_wide n more) (let e : index ≡ index + 0 = omega arith in e)
wide_behind index (d ∷ done) more none = by (is_wide d) none (wide_behind (index + 1) done more)
  where
    by : (wide : Bool) → cond wide (Some index) (first_wide (index + 1) done) ≡ None → (first_wide (index + 1) done ≡ None → first_wide (index + 1) (done ++ more) ≡ first_wide (index + 1 + length done) more)
        → cond wide (Some index) (first_wide (index + 1) (done ++ more)) ≡ first_wide (index + length (d ∷ done)) more
    by true there later = absurd (false≢true (ap (λ (o : Option ℕ). is_some o) (sym there)))
    by false none later = later none ∙ ap (λ n. first_wide n more) (let e : index + 1 + length done ≡ index + length (d ∷ done) = omega arith in e)

wide_within : (index at : ℕ) (here more : List Delta) → first_wide index here ≡ Some at → first_wide index (here ++ more) ≡ Some at
wide_within index at [] more is = absurd (false≢true (ap (λ (o : Option ℕ). is_some o) is))
wide_within index at (d ∷ here) more is = by (is_wide d) is (wide_within (index + 1) at here more)
  where
    by : (wide : Bool) → cond wide (Some index) (first_wide (index + 1) here) ≡ Some at → (first_wide (index + 1) here ≡ Some at → first_wide (index + 1) (here ++ more) ≡ Some at)
        → cond wide (Some index) (first_wide (index + 1) (here ++ more)) ≡ Some at
    by true is later = is
    by false is later = later is

added_length : (a : List Delta) (old mid : List Stored) → AreAdded a old mid → length mid ≡ length old + length a
added_length a old mid first = ap (λ (l : List Stored). length l) first.adds ∙ length-append old (map stored_delta a) ∙ ap (λ n. length old + n) (length-map a stored_delta)

pub none_added : (old : List Stored) → AreAdded [] old old
none_added old = record { adds = sym (append-nil old); narrow = refl }

pub both_added : (a b : List Delta) (old mid new : List Stored) → AreAdded a old mid → AreAdded b mid new → AreAdded (a ++ b) old new
both_added a b old mid new first later = record {
  adds = later.adds ∙ ap (λ (l : List Stored). l ++ map stored_delta b) first.adds ∙ append_assoc old (map stored_delta a) (map stored_delta b) ∙ ap (λ (l : List Stored). old ++ l) (sym (map-append stored_delta a b));
  narrow = wide_behind (length old) a b first.narrow ∙ ap (λ n. first_wide n b) (sym (added_length a old mid first)) ∙ later.narrow;
}

pub front_fault : (index : ℕ) (a b : List Delta) (e : BuildFault) → IsFaultOfDeltas index a e → IsFaultOfDeltas index (a ++ b) e
front_fault index a b Memory is = tt
front_fault index a b (Wide at) is = wide_within index at a b is

pub fault_behind : (a b : List Delta) (old mid : List Stored) (e : BuildFault) → AreAdded a old mid → IsFaultOfDeltas (length mid) b e → IsFaultOfDeltas (length old) (a ++ b) e
fault_behind a b old mid Memory first is = tt
fault_behind a b old mid (Wide at) first is = wide_behind (length old) a b first.narrow ∙ ap (λ n. first_wide n b) (sym (added_length a old mid first)) ∙ is

-- these are added to the segment, and nothing else
pub added_by : (made deltas : List Delta) (old new : Segment) → new ≡ record old { deltas = old.deltas ++ map stored_delta made } → made ≡ deltas → first_wide (length old.deltas) made ≡ None → AreAdded deltas old.deltas new.deltas
added_by made deltas old new new_is made_are narrow = record {
  adds = ap (λ (s : Segment). s.deltas) new_is ∙ ap (λ (l : List Delta). old.deltas ++ map stored_delta l) made_are;
  narrow = sym (ap (first_wide (length old.deltas)) made_are) ∙ narrow;
}

pub such_fault : (such : List Delta → Type 0) (deltas : List Delta) (index : ℕ) (e : BuildFault) → such deltas → IsFaultOfDeltas index deltas e → IsFaultOfSuch such index e
such_fault such deltas index Memory are is = tt
such_fault such deltas index (Wide at) are is = record { deltas = deltas; are = are; first = is }

-- ---- list after list

pub nets_on : (P : ℕ → Delta → Type 0) (steps steps2 : List Delta) (d : Delta) → steps2 ≡ steps ++ d ∷ [] → P (length steps) d → ((i : ℕ) → i < length steps → P i (get_or steps i nothing)) → (i : ℕ) → i < length steps2 → P i (get_or steps2 i nothing)
nets_on P steps steps2 d steps_are here so i lt =
    let le : i ≤ length steps = omega (arith, lt, ap (λ (l : List Delta). length l) steps_are, length-append steps (d ∷ [])) in
    subst (λ (l : List Delta). P i (get_or l i nothing)) (sym steps_are)
    (⊎_elim (λ (e : i ≡ length steps). subst (P i) (sym (get_or_push steps d nothing i (sym e))) (subst (λ n. P n d) (sym e) here))
    (λ (l : i < length steps). subst (P i) (sym (get_or_append_left steps (d ∷ []) nothing i l)) (so i l)) (eq-or-lt_of_le le))

-- ---- of these deltas those are left

pub record IsLeft (all left : List Delta) (old now : List Stored) : Type 0 where
  pub done : List Delta
  pub is : all ≡ done ++ left
  pub added : AreAdded done old now

all_left : (all : List Delta) (old : List Stored) → IsLeft all all old old
all_left all old = record { done = []; is = refl; added = none_added old }

left_on : (all left here rest : List Delta) (old now new : List Stored) → left ≡ here ++ rest → AreAdded here now new → IsLeft all left old now → IsLeft all rest old new
left_on all left here rest old now new left_is added so = record {
  done = so.done ++ here;
  is = so.is ∙ ap (λ (l : List Delta). so.done ++ l) left_is ∙ sym (append_assoc so.done here rest);
  added = both_added so.done here old now new so.added added;
}

left_none : (all left : List Delta) (old now : List Stored) → left ≡ [] → IsLeft all left old now → AreAdded all old now
left_none all left old now none so = subst (λ (l : List Delta). AreAdded l old now) (sym (so.is ∙ ap (λ (l : List Delta). so.done ++ l) none ∙ append-nil so.done)) so.added

left_fault : (all left here rest : List Delta) (old now : List Stored) (e : BuildFault) → left ≡ here ++ rest → IsLeft all left old now → IsFaultOfDeltas (length now) here e → IsFaultOfDeltas (length old) all e
left_fault all left here rest old now e left_is so fault =
    subst (λ (l : List Delta). IsFaultOfDeltas (length old) l e) (sym (so.is ∙ ap (λ (l : List Delta). so.done ++ l) left_is)) (fault_behind so.done (here ++ rest) old now e so.added (front_fault (length now) here rest e fault))

-- ---- node after node

pub record NodesGiven (p : Params) (more : ℕ) (start last : Delta) (all row steps : List Delta) (old now : List Stored) : Type 0 where
  pub up : later_steps p more start all ≡ steps ++ later_steps p (more - length steps) last row
  pub left : IsLeft (later_downs p more all) (later_downs p (more - length steps) row) old now

pub nodes_given_first : (p : Params) (more : ℕ) (start : Delta) (all steps : List Delta) (old : List Stored) → steps ≡ [] → NodesGiven p more start start all all steps old old
nodes_given_first p more start all steps old none =
    let whole : more ≡ more - 0 = omega arith in
    subst (λ (l : List Delta). NodesGiven p more start start all all l old old) (sym none) (record {
      up = ap (λ n. later_steps p n start all) whole;
      left = subst (λ n. IsLeft (later_downs p more all) (later_downs p n all) old old) whole (all_left (later_downs p more all) old);
    })

module _ (p : Params) (more : ℕ) (start last : Delta) (all row steps : List Delta) (old now : List Stored) (so : NodesGiven p more start last all row steps old now) where
  one_left : length steps < more → more - length steps ≡ suc (more - length steps - 1)
  one_left lt = omega (arith, lt)

  pub nodes_given_on : (step last2 : Delta) (row2 steps2 : List Delta) (new : List Stored) → length steps < more → step ≡ chained (chained last (get_or row 0 last)) (inner_by p (drop 1 row)) → last2 ≡ last_way (downs_by p (drop 1 row))
      → row2 ≡ drop p.k row → steps2 ≡ steps ++ step ∷ [] → AreAdded (downs_by p (drop 1 row)) now new → NodesGiven p more start last2 all row2 steps2 old new
  nodes_given_on step last2 row2 steps2 new lt step_is last_is row_is steps_are added =
      let n : ℕ = more - length steps2 in
      let e : more - length steps ≡ suc n = omega (arith, lt, ap (λ (l : List Delta). length l) steps_are, length-append steps (step ∷ [])) in
      record {
        up = so.up ∙ ap (λ m. steps ++ later_steps p m last row) e ∙ (λ i. steps ++ sym step_is i ∷ later_steps p n (sym last_is i) (sym row_is i))
            ∙ sym (append_assoc steps (step ∷ []) (later_steps p n last2 row2)) ∙ ap (λ (l : List Delta). l ++ later_steps p n last2 row2) (sym steps_are);
        left = left_on (later_downs p more all) (later_downs p (more - length steps) row) (downs_by p (drop 1 row)) (later_downs p n row2) old now new
            (ap (λ m. later_downs p m row) e ∙ ap (λ (l : List Delta). downs_by p (drop 1 row) ++ later_downs p n l) (sym row_is)) added so.left;
      }

  pub nodes_up : more ≤ length steps → steps ≡ later_steps p more start all
  nodes_up le =
      let none : more - length steps ≡ 0 = omega (arith, le) in
      sym (so.up ∙ ap (λ n. steps ++ later_steps p n last row) none ∙ append-nil steps)

  pub nodes_added : more ≤ length steps → AreAdded (later_downs p more all) old now
  nodes_added le =
      let none : more - length steps ≡ 0 = omega (arith, le) in
      left_none (later_downs p more all) (later_downs p (more - length steps) row) old now (ap (λ n. later_downs p n row) none) so.left

  pub nodes_fault : (e : BuildFault) → length steps < more → IsFaultOfDeltas (length now) (downs_by p (drop 1 row)) e → IsFaultOfDeltas (length old) (later_downs p more all) e
  nodes_fault e lt fault =
      left_fault (later_downs p more all) (later_downs p (more - length steps) row) (downs_by p (drop 1 row)) (later_downs p (more - length steps - 1) (drop p.k row)) old now e (ap (λ m. later_downs p m row) (one_left lt)) so.left fault

-- ---- height after height

-- those of the first node, and then those of the others
pub whole_height : (p : Params) (q end : ℕ) (older : List Delta) (base : List Element) (new : Nodes) (row rest : List Delta) → row ≡ row_between p q end older new → rest ≡ drop (p.k - 1) row
    → (top_to (q / p.k) (first_by p older new.up row base) ++ downs_by p row) ++ later_downs p (end / p.k - q / p.k - 1) rest ≡ given_above p q end older base new
whole_height p q end older base new row rest row_is rest_is =
    let n : ℕ = end / p.k - q / p.k - 1 in
    let left : rest ≡ drop (p.k - 1) (row_between p q end older new) = rest_is ∙ ap (drop (p.k - 1)) row_is in
    append_assoc (top_to (q / p.k) (first_by p older new.up row base)) (downs_by p row) (later_downs p n rest)
    ∙ (λ i. top_to (q / p.k) (first_by p older new.up (row_is i) base) ++ (downs_by p (row_is i) ++ later_downs p n (left i)))

pub record HeightsGiven (p : Params) (m after q end : ℕ) (all left : List Delta) (base : List Element) (start new : Nodes) (old now : List Stored) : Type 0 where
  pub turns : ℕ
  pub enough : end ≤ turns
  pub rest : IsLeft (given_on p after m after all base start) (given_on p turns q end left base new) old now

pub heights_given_first : (p : Params) (m after : ℕ) (all left : List Delta) (base : List Element) (start : Nodes) (old : List Stored) → left ≡ all → HeightsGiven p m after m after all left base start start old old
heights_given_first p m after all left base start old is = record {
  turns = after;
  enough = omega arith;
  rest = subst (λ (l : List Delta). IsLeft (given_on p after m after all base start) (given_on p after m after l base start) old old) (sym is) (all_left (given_on p after m after all base start) old);
}

-- how many of the older steps are of the heights above
abbrev above_these : Params → ℕ → List Delta → ℕ
above_these p q left = length left - (q - q / p.k * p.k)

-- where a node is due
due_here : (p : Params) (turns q end : ℕ) (left : List Delta) (base : List Element) (new : Nodes) → q / p.k < end / p.k
    → given_on p (suc turns) q end left base new
    ≡ given_above p q end (drop (above_these p q left) left) base new ++ given_on p turns (q / p.k) (end / p.k) (take (above_these p q left) left) base (risen p q end (drop (above_these p q left) left) new)
due_here p turns q end left base new due =
    let k : ℕ = p.k in
    let n : ℕ = above_these p q left in
    (λ i. cond (lt-ltb (q / k) (end / k) due i) (given_above p q end (drop n left) base new ++ given_on p turns (q / k) (end / k) (take n left) base (risen p q end (drop n left) new)) [])

-- where none is
pub none_given : (p : Params) (turns q end : ℕ) (left : List Delta) (base : List Element) (new : Nodes) → end / p.k ≤ q / p.k → given_on p turns q end left base new ≡ []
none_given p zero q end left base new le = refl
none_given p (suc turns) q end left base new le =
    let k : ℕ = p.k in
    let n : ℕ = above_these p q left in
    (λ i. cond (le-ltb (q / k) (end / k) le i) (given_above p q end (drop n left) base new ++ given_on p turns (q / k) (end / k) (take n left) base (risen p q end (drop n left) new)) [])

module _ (p : Params) (m after q end : ℕ) (all left : List Delta) (base : List Element) (start new : Nodes) (old now : List Stored) (so : HeightsGiven p m after q end all left base start new old now) where
  abbrev whole : List Delta
  whole = given_on p after m after all base start

  abbrev k : ℕ
  k = p.k

  -- the deltas of the height above, by the steps that are taken for it, and then the others
  parts : (here rest : List Delta) → here ≡ drop (above_these p q left) left → rest ≡ take (above_these p q left) left → 2 ≤ k → q / k < end / k
      → given_on p so.turns q end left base new ≡ given_above p q end here base new ++ given_on p (so.turns - 1) (q / k) (end / k) rest base (risen p q end here new)
  parts here rest here_is rest_is two due =
      let n : ℕ = so.turns - 1 in
      let e : so.turns ≡ suc n = omega (arith, so.enough, half end k two, due) in
      ap (λ t. given_on p t q end left base new) e ∙ due_here p n q end left base new due
      ∙ (λ i. given_above p q end (sym here_is i) base new ++ given_on p n (q / k) (end / k) (sym rest_is i) base (risen p q end (sym here_is i) new))

  pub heights_given_on : (here rest : List Delta) (up : Nodes) (more : List Stored) → here ≡ drop (above_these p q left) left → rest ≡ take (above_these p q left) left → 2 ≤ k → q / k < end / k → up ≡ risen p q end here new
      → AreAdded (given_above p q end here base new) now more → HeightsGiven p m after (q / k) (end / k) all rest base start up old more
  heights_given_on here rest up more here_is rest_is two due up_is added = record {
    turns = so.turns - 1;
    enough = omega (arith, so.enough, half end k two, due);
    rest = left_on whole (given_on p so.turns q end left base new) (given_above p q end here base new) (given_on p (so.turns - 1) (q / k) (end / k) rest base up) old now more
        (parts here rest here_is rest_is two due ∙ ap (λ (n : Nodes). given_above p q end here base new ++ given_on p (so.turns - 1) (q / k) (end / k) rest base n) (sym up_is)) added so.rest;
  }

  pub heights_added : end / k ≤ q / k → AreAdded whole old now
  heights_added le = left_none whole (given_on p so.turns q end left base new) old now (none_given p so.turns q end left base new le) so.rest

  pub heights_fault : (here rest : List Delta) (e : BuildFault) → here ≡ drop (above_these p q left) left → rest ≡ take (above_these p q left) left → 2 ≤ k → q / k < end / k
      → IsFaultOfDeltas (length now) (given_above p q end here base new) e → IsFaultOfDeltas (length old) whole e
  heights_fault here rest e here_is rest_is two due fault =
      left_fault whole (given_on p so.turns q end left base new) (given_above p q end here base new)
      (given_on p (so.turns - 1) (q / k) (end / k) rest base (risen p q end here new)) old now e (parts here rest here_is rest_is two due) so.rest fault
