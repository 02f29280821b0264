-- The steps of a tree in which paths differ: what is kept of each of them, one after another.
use Rattle.std.proofs.Common.{◌≡◌, ◌⊎◌, inl, inr, ◌<◌, ◌+◌, Bool, true, false, cond, ℕ, List, [], ◌∷◌, ◌++◌, length, get_or, drop, Option, Some, None, Result, Ok, Err, slice_get, refl, sym, ap, subst, ◌∙◌, arith, reverse}
use Rattle.std.specs.Global.{Vec}
use Rattle.std.specs.List.{All}
use Rattle.std.specs.Option.{option_to_list}
use Rattle.std.proofs.lemmas.List.{append_assoc, append-nil, drop_all, drop_more, length-append, length-reverse, length_push, reverse-append}
use Rattle.std.proofs.lemmas.List.Elements.{All-head, All-tail}
use Rattle.dg_delta.proofs.Deltas.{can_be_cut}
use Rattle.dg_fold.specs.declared.fault.FoldFault.{FoldFault}
use Rattle.dg_fold.specs.declared.fault.FoldFault.TheVariants as fault
use Rattle.dg_fold.specs.declared.part.Part.{Part}
use Rattle.dg_fold.specs.Ends.{FailsIn}
use Rattle.dg_fold.specs.Parts.{Folds, beside}
use Rattle.dg_fold.specs.Steps.{PartedStep, names_record, paired, part_deltas, step_by, steps_in}
use Rattle.dg_fold.proofs.TreeStepPaths.{beside_associates}
use Rattle.dg_fold.proofs.Steps.{paired_first}
use Rattle.dg_graph.specs.Composition.{Delta, then_says}
use Rattle.dg_graph.specs.declared.element.Column.{Column}
use Rattle.dg_history.specs.declared.node.Key.{Key}
use Rattle.dg_plan.specs.declared.edge.Edge.{Edge}
use Rattle.dg_plan.specs.declared.edge.Via.{Via}
use Rattle.dg_plan.specs.declared.edge.Via.TheVariants as via
use Rattle.dg_plan.specs.declared.edge.Way.TheVariants.{Back, Forward, Same}
use Rattle.dg_steps.specs.declared.crossing.Crossing.{Crossing}
use Rattle.dg_steps.specs.TreeSteps.{turned, turned_part, turned_via, way_back}
use Rattle.dg_steps.specs.TreeStepWalks.{AllAgree, AreKept, ComeTo, IsCrossing, backs, chosen, is_own, ons, own_steps, part_of}

abbrev Due : Type 0
Due = Result (List Delta) (Key × Column)

pub none_left : {A : Type 0} (xs : List A) → length xs ≡ 0 → xs ≡ []
none_left [] e = refl
none_left (x ∷ xs) e = absurd (omega arith)

-- ---- what an edge does

pub part_is : (v : Via) (parts : List Part) (p : Part) → names_record v ≡ true → Some p ≡ slice_get parts 0 → part_of v parts ≡ Some p
part_is v parts p named first = ap (λ b. cond b (slice_get parts 0) None) named ∙ sym first

-- by its own part, and the other way by its part turned
step_is : (names : ℕ) (v : Via) (parts : List Part) → step_by names [] v (part_of v parts) ≡ part_deltas names (part_of v parts)
step_is names via.Now parts = refl
step_is names (via.Base handle) parts = refl
step_is names (via.Paid key way) parts = refl
step_is names (via.Held key way) parts = refl
step_is names (via.Recent Same) parts = refl
step_is names (via.Recent Forward) parts = refl
step_is names (via.Recent Back) parts = refl

turned_is : (names : ℕ) (v : Via) (parts : List Part) → step_by names [] (turned_via v) (turned_part (part_of v parts)) ≡ part_deltas names (turned_part (part_of v parts))
turned_is names via.Now parts = refl
turned_is names (via.Base handle) parts = refl
turned_is names (via.Paid key way) parts = refl
turned_is names (via.Held key way) parts = refl
turned_is names (via.Recent Same) parts = refl
turned_is names (via.Recent Forward) parts = refl
turned_is names (via.Recent Back) parts = refl

-- ---- steps one after another

beside_none : (a : Due) → beside (Ok []) a ≡ a
beside_none (Ok list) = refl
beside_none (Err f) = refl

beside_last : (a : Due) → beside a (Ok []) ≡ a
beside_last (Ok list) = ap (λ l. Ok l) (append-nil list)
beside_last (Err f) = refl

steps_cut : (names : ℕ) (xs ys : List PartedStep) → steps_in names [] (xs ++ ys) ≡ beside (steps_in names [] xs) (steps_in names [] ys)
steps_cut names [] ys = sym (beside_none (steps_in names [] ys))
steps_cut names (t ∷ xs) ys =
    let due = step_by names [] t.0.via t.1 in
    ap (beside due) (steps_cut names xs ys) ∙ sym (beside_associates due (steps_in names [] xs) (steps_in names [] ys))

pub come_to_both : (names : ℕ) (xs ys : List PartedStep) (ds es : List Delta) → ComeTo names xs ds → ComeTo names ys es → ComeTo names (xs ++ ys) (ds ++ es)
come_to_both names xs ys ds es f g = (
  f.0 ++ g.0,
  steps_cut names xs ys ∙ (λ i. beside (f.1 i) (g.1 i)),
  λ x. can_be_cut ds es x ∙ (λ i. then_says (f.2 x i) (g.2 x i)) ∙ sym (can_be_cut f.0 g.0 x),
)

come_to_none : (names : ℕ) → ComeTo names [] []
come_to_none names = ([], refl, λ x. refl)

come_to_one : (names : ℕ) (t : PartedStep) (d : Delta) → Folds (Ok d) (step_by names [] t.0.via t.1) → ComeTo names (t ∷ []) (d ∷ [])
come_to_one names t d f = (f.0, ap (λ a. beside a (Ok [])) f.1 ∙ beside_last (Ok f.0), f.2)

come_to_nothing : (names : ℕ) (t : PartedStep) → step_by names [] t.0.via t.1 ≡ Ok [] → ComeTo names (t ∷ []) []
come_to_nothing names t is = ([], ap (λ a. beside a (Ok [])) is, λ x. refl)

way_back_both : (xs ys : List PartedStep) → way_back (xs ++ ys) ≡ way_back ys ++ way_back xs
way_back_both [] ys = sym (append-nil (way_back ys))
way_back_both (s ∷ xs) ys = ap (λ l. l ++ turned s ∷ []) (way_back_both xs ys) ∙ append_assoc (way_back ys) (way_back xs) (turned s ∷ [])

chosen_push : (test : List Bool → Bool) (all : List PartedStep) (takes : List (Vec Bool)) (t : PartedStep) (f : Vec Bool) → length all ≡ length takes
    → chosen test (all ++ t ∷ []) (takes ++ f ∷ []) ≡ chosen test all takes ++ cond (test f.items) (t ∷ []) []
chosen_push test [] [] t f long = refl
chosen_push test [] (g ∷ takes) t f long = absurd (omega arith)
chosen_push test (s ∷ all) [] t f long = absurd (omega arith)
chosen_push test (s ∷ all) (g ∷ takes) t f long = by (test g.items) (chosen_push test all takes t f (omega arith))
  where
    by : (b : Bool) → chosen test (all ++ t ∷ []) (takes ++ f ∷ []) ≡ chosen test all takes ++ cond (test f.items) (t ∷ []) []
        → cond b (s ∷ chosen test (all ++ t ∷ []) (takes ++ f ∷ [])) (chosen test (all ++ t ∷ []) (takes ++ f ∷ [])) ≡ cond b (s ∷ chosen test all takes) (chosen test all takes) ++ cond (test f.items) (t ∷ []) []
    by true again = ap (λ l. s ∷ l) again
    by false again = again

pub ons_both : (n m : ℕ) (xs ys : List Crossing) → ons n m (xs ++ ys) ≡ ons n m xs ++ ons n m ys
ons_both n m [] ys = refl
ons_both n m (c ∷ xs) ys = by (is_own m n c.takes.items) (ons_both n m xs ys)
  where
    by : (b : Bool) → ons n m (xs ++ ys) ≡ ons n m xs ++ ons n m ys
        → cond b (c.on ∷ ons n m (xs ++ ys)) (ons n m (xs ++ ys)) ≡ cond b (c.on ∷ ons n m xs) (ons n m xs) ++ ons n m ys
    by true again = ap (λ l. c.on ∷ l) again
    by false again = again

pub backs_both : (n m : ℕ) (xs ys : List Crossing) → backs n m (xs ++ ys) ≡ backs n m ys ++ backs n m xs
backs_both n m [] ys = sym (append-nil (backs n m ys))
backs_both n m (c ∷ xs) ys = by (is_own n m c.takes.items) (backs_both n m xs ys)
  where
    by : (b : Bool) → backs n m (xs ++ ys) ≡ backs n m ys ++ backs n m xs
        → cond b (backs n m (xs ++ ys) ++ c.back ∷ []) (backs n m (xs ++ ys)) ≡ backs n m ys ++ cond b (backs n m xs ++ c.back ∷ []) (backs n m xs)
    by true again = ap (λ l. l ++ c.back ∷ []) again ∙ append_assoc (backs n m ys) (backs n m xs) (c.back ∷ [])
    by false again = again

-- ---- what is kept of one step

module _ (names n m : ℕ) (e : Edge) (parts : List Part) (f : List Bool) (in_n : n < length f) (in_m : m < length f) where
  abbrev step : PartedStep
  step = (e, part_of e.via parts)

  does : (d : Delta) → Folds (Ok d) (part_deltas names (part_of e.via parts)) → ComeTo names (step ∷ []) (d ∷ [])
  does d folds = come_to_one names step d (subst (Folds (Ok d)) (sym (step_is names e.via parts)) folds)

  does_back : (d : Delta) → Folds (Ok d) (part_deltas names (turned_part (part_of e.via parts))) → ComeTo names (turned step ∷ []) (d ∷ [])
  does_back d folds = come_to_one names (turned step) d (subst (Folds (Ok d)) (sym (turned_is names e.via parts)) folds)

  nothing_on : part_of e.via parts ≡ None → ComeTo names (step ∷ []) []
  nothing_on none = come_to_nothing names step (step_is names e.via parts ∙ ap (part_deltas names) none)

  nothing_back : part_of e.via parts ≡ None → ComeTo names (turned step ∷ []) []
  nothing_back none = come_to_nothing names (turned step) (turned_is names e.via parts ∙ ap (λ p. part_deltas names (turned_part p)) none)

  one_on : (c : Option Crossing) → IsCrossing names (part_of e.via parts) f c → ComeTo names (cond (is_own m n f) (step ∷ []) []) (ons n m (option_to_list c))
  one_on None h = by (is_own m n f) refl h.2
    where
      by : (b : Bool) → is_own m n f ≡ b → (part_of e.via parts ≡ None) ⊎ AllAgree f → ComeTo names (cond b (step ∷ []) []) []
      by true own (inl none) = nothing_on none
      by true own (inr agree) = (let not_own = agree m n in_m in_n in absurd cc)
      by false own h = come_to_none names
  one_on (Some c) h =
      subst (λ (l : List Bool). ComeTo names (cond (is_own m n f) (step ∷ []) []) (cond (is_own m n l) (c.on ∷ []) [])) (sym h.0) (by (is_own m n f))
    where
      by : (b : Bool) → ComeTo names (cond b (step ∷ []) []) (cond b (c.on ∷ []) [])
      by true = does c.on h.1
      by false = come_to_none names

  one_back : (c : Option Crossing) → IsCrossing names (part_of e.via parts) f c → ComeTo names (way_back (cond (is_own n m f) (step ∷ []) [])) (backs n m (option_to_list c))
  one_back None h = by (is_own n m f) refl h.2
    where
      by : (b : Bool) → is_own n m f ≡ b → (part_of e.via parts ≡ None) ⊎ AllAgree f → ComeTo names (way_back (cond b (step ∷ []) [])) []
      by true own (inl none) = nothing_back none
      by true own (inr agree) = (let not_own = agree n m in_n in_m in absurd cc)
      by false own h = come_to_none names
  one_back (Some c) h =
      subst (λ (l : List Bool). ComeTo names (way_back (cond (is_own n m f) (step ∷ []) [])) (cond (is_own n m l) (c.back ∷ []) [])) (sym h.0) (by (is_own n m f))
    where
      by : (b : Bool) → ComeTo names (way_back (cond b (step ∷ []) [])) (cond b (c.back ∷ []) [])
      by true = does_back c.back h.2
      by false = come_to_none names

kept_push : (names n m : ℕ) (e : Edge) (parts : List Part) (done : List PartedStep) (takes : List (Vec Bool)) (kept : List Crossing) (f : Vec Bool) (c : Option Crossing)
    → n < length f.items → m < length f.items → length done ≡ length takes → IsCrossing names (part_of e.via parts) f.items c → AreKept names n m done takes kept
    → AreKept names n m (done ++ (e, part_of e.via parts) ∷ []) (takes ++ f ∷ []) (kept ++ option_to_list c)
kept_push names n m e parts done takes kept f c in_n in_m long is old =
    let step : PartedStep = (e, part_of e.via parts) in
    let last : Bool → List PartedStep = λ b. cond b (step ∷ []) [] in
    let back = own_steps n m done takes in
    let on = own_steps m n done takes in
    let kept_back = chosen_push (is_own n m) done takes step f long in
    let kept_on = chosen_push (is_own m n) done takes step f long in
    let last_back = last (is_own n m f.items) in
    let last_on = last (is_own m n f.items) in (
      subst (λ w. ComeTo names w (backs n m (kept ++ option_to_list c))) (sym (ap way_back kept_back ∙ way_back_both back last_back))
          (subst (ComeTo names (way_back last_back ++ way_back back)) (sym (backs_both n m kept (option_to_list c)))
          (come_to_both names (way_back last_back) (way_back back) (backs n m (option_to_list c)) (backs n m kept) (one_back names n m e parts f.items in_n in_m c is) old.0)),
      subst (λ w. ComeTo names w (ons n m (kept ++ option_to_list c))) (sym kept_on)
          (subst (ComeTo names (on ++ last_on)) (sym (ons_both n m kept (option_to_list c)))
          (come_to_both names on last_on (ons n m kept) (ons n m (option_to_list c)) old.1 (one_on names n m e parts f.items in_n in_m c is))),
    )

-- ---- all steps

abbrev pub Has : ℕ → ℕ → Vec Bool → Type 0
Has n m f = (n < length f.items) × (m < length f.items)

-- What is known when so many edges have been gone over; it is still said of the others which paths take them.
pub record Going (names : ℕ) (edges : List Edge) (parts : List Part) (paths : List (Vec Bool)) (i : ℕ) (rest : List Part) (left : List (Vec Bool)) (kept : List Crossing) : Type 0 where
  pub done : List PartedStep
  pub over : List (Vec Bool)
  pub parted : paths ≡ left ++ over
  pub count : length over ≡ i
  pub long : length done ≡ length over
  pub front : paired edges parts ≡ done ++ paired (drop i edges) rest
  pub read : (list : List Delta) × (steps_in names [] done ≡ Ok list)
  pub known : (n m : ℕ) → All (Has n m) over → AreKept names n m done (reverse over) kept

pub going_none : (names : ℕ) (edges : List Edge) (parts : List Part) (paths : List (Vec Bool)) (kept : List Crossing) → kept ≡ [] → Going names edges parts paths 0 parts paths kept
going_none names edges parts paths kept none = record {
  done = [];
  over = [];
  parted = sym (append-nil paths);
  count = refl;
  long = refl;
  front = refl;
  read = ([], refl);
  known = λ n m each. subst (AreKept names n m [] []) (sym none) (come_to_none names, come_to_none names);
}

read_of : (names : ℕ) (part : Option Part) (takes : List Bool) (c : Option Crossing) → IsCrossing names part takes c → (list : List Delta) × (part_deltas names part ≡ Ok list)
read_of names part takes None h = (h.0, h.1)
read_of names part takes (Some c) h = (h.1.0, h.1.1)

module _ (names : ℕ) (edges : List Edge) (parts : List Part) (paths : List (Vec Bool)) (i : ℕ) (rest : List Part) (left front : List (Vec Bool)) (f : Vec Bool) (kept : List Crossing)
    (g : Going names edges parts paths i rest left kept) (as_many : length paths ≡ length edges) (last : left ≡ front ++ f ∷ []) where
  pub within : i < length edges
  within = let a = ap length g.parted in let b = ap length last in let c = g.count in omega (arith, length-append left g.over, length_push front f)

  module _ (d : Edge) where
    abbrev pub e : Edge
    e = get_or edges i d

    abbrev more : List PartedStep
    more = paired (drop (i + 1) edges) (cond (names_record e.via) (drop 1 rest) rest)

    at_next : paired (drop i edges) rest ≡ (e, part_of e.via rest) ∷ more
    at_next = ap (λ l. paired l rest) (drop_more edges i d within) ∙ paired_first e (drop (i + 1) edges) rest

    pub going_on : (c : Option Crossing) (next : List Part) (new : List Crossing) → IsCrossing names (part_of e.via rest) f.items c → next ≡ cond (names_record e.via) (drop 1 rest) rest
        → new ≡ kept ++ option_to_list c → Going names edges parts paths (i + 1) next front new
    going_on c next new is behind grown =
        let step : PartedStep = (e, part_of e.via rest) in
        let read = read_of names (part_of e.via rest) f.items c is in
        let turn : reverse (f ∷ g.over) ≡ reverse g.over ++ f ∷ [] = reverse-append (f ∷ []) g.over in
        record {
          done = g.done ++ step ∷ [];
          over = f ∷ g.over;
          parted = g.parted ∙ ap (λ l. l ++ g.over) last ∙ append_assoc front (f ∷ []) g.over;
          count = let n = g.count in omega arith;
          long = let n = g.long in omega (arith, length_push g.done step);
          front = g.front ∙ ap (λ l. g.done ++ l) (at_next ∙ ap (λ r. step ∷ paired (drop (i + 1) edges) r) (sym behind))
              ∙ sym (append_assoc g.done (step ∷ []) (paired (drop (i + 1) edges) next));
          read = (
            g.read.0 ++ (read.0 ++ []),
            steps_cut names g.done (step ∷ [])
                ∙ (λ j. beside (g.read.1 j) (beside ((step_is names e.via rest ∙ read.1) j) (Ok []))),
          );
          known = λ n m each.
              subst (λ t. AreKept names n m (g.done ++ step ∷ []) t new) (sym turn)
              (subst (AreKept names n m (g.done ++ step ∷ []) (reverse g.over ++ f ∷ [])) (sym grown)
              (kept_push names n m e rest g.done (reverse g.over) kept f c (All-head (Has n m) f g.over each).0 (All-head (Has n m) f g.over each).1
              (g.long ∙ sym (length-reverse g.over)) is (g.known n m (All-tail (Has n m) f g.over each))));
        }

    pub fails_next : (fault : FoldFault) → FailsIn fault (part_deltas names (part_of e.via rest)) → FailsIn fault (steps_in names [] (paired edges parts))
    fails_next (fault.Damaged k col) fails =
        let step : PartedStep = (e, part_of e.via rest) in
        ap (steps_in names []) (g.front ∙ ap (λ l. g.done ++ l) at_next)
        ∙ steps_cut names g.done (step ∷ more)
        ∙ ap (λ a. beside a (steps_in names [] (step ∷ more))) g.read.1
        ∙ ap (λ a. beside (Ok g.read.0) (beside a (steps_in names [] more))) (step_is names e.via rest ∙ fails)
    fails_next fault.Memory fails = tt

module _ (names : ℕ) (edges : List Edge) (parts : List Part) (paths : List (Vec Bool)) (i : ℕ) (rest : List Part) (left : List (Vec Bool)) (kept : List Crossing)
    (g : Going names edges parts paths i rest left kept) (as_many : length paths ≡ length edges) (none : left ≡ []) where
  all_over : paths ≡ g.over
  all_over = g.parted ∙ ap (λ l. l ++ g.over) none

  all_done : paired edges parts ≡ g.done
  all_done =
      g.front
      ∙ ap (λ l. g.done ++ paired l rest) (drop_all i edges (let a = ap length all_over in let c = g.count in omega arith)) ∙ append-nil g.done

  pub all_read : (list : List Delta) × (steps_in names [] (paired edges parts) ≡ Ok list)
  all_read = (g.read.0, ap (steps_in names []) all_done ∙ g.read.1)

  pub all_kept : (n m : ℕ) → All (Has n m) paths → AreKept names n m (paired edges parts) (reverse paths) kept
  all_kept n m each =
      subst (λ a. AreKept names n m a (reverse paths) kept) (sym all_done)
      (subst (λ t. AreKept names n m g.done (reverse t) kept) (sym all_over) (g.known n m (subst (All (Has n m)) all_over each)))
