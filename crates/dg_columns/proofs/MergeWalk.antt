-- Columns that are taken together event by event give the events at the positions.
use Rattle.std.proofs.Common.{◌≡◌, ℕ, zero, suc, ◌-◌, ◌+◌, ◌<◌, ◌≤◌, Bool, true, false, cond, leb, List, [], ◌∷◌, ◌++◌, length, Option, Some, None, find, refl, sym, ap, subst, ◌∙◌, append_assoc, arith}
use Rattle.std.specs.Prelude.{◌==◌, ◌&&◌, nat_le, option_and_then}
use Rattle.std.specs.Option.{option_map, option_or}
use Rattle.std.proofs.lemmas.Bool.{eq-eqb, ne_eqb, eqb-true, le-leb}
use Rattle.std.proofs.lemmas.List.{length-append, append-nil}
use Rattle.std.proofs.lemmas.List.Folds.{find-append}
use Rattle.dg_graph.specs.declared.event.Event.{Event}
use Rattle.dg_graph.specs.declared.placed.Placed.{Placed}
use Rattle.dg_graph.specs.ColumnMerge.{never_fall, at_positions, if_never_fall, merged}
use Rattle.dg_columns.specs.MergeWalk.{MergeStep, head_at, step_at, walked}

abbrev stands : ℕ → Placed → Bool
stands n p = p.at == n

-- no event stands before the position
abbrev pub From : ℕ → List Placed → Type 0
From n [] = Unit {0}
From n (p ∷ ps) = (n ≤ p.at) × From n ps

from_next : (n : ℕ) (ps : List Placed) → From (n + 1) ps → From n ps
from_next n [] h = tt
from_next n (p ∷ ps) h = (omega (arith, h.0), from_next n ps h.1)

none_before : (n : ℕ) (ps : List Placed) → From (n + 1) ps → find (stands n) ps ≡ None
none_before n [] h = refl
none_before n (p ∷ ps) h =
    ap (λ t. cond t (Some p) (find (stands n) ps)) (ne_eqb p.at n (λ e. omega (arith, h.0, e))) ∙ none_before n ps h.1

-- an event elsewhere is not found
passed : (m : ℕ) (front : List Placed) (p : Placed) (rest : List Placed) → (p.at ≡ m → ⊥) → find (stands m) (front ++ p ∷ rest) ≡ find (stands m) (front ++ rest)
passed m front p rest other =
    find-append (stands m) front (p ∷ rest)
    ∙ ap (λ t. option_or (find (stands m) front) (cond t (Some p) (find (stands m) rest))) (ne_eqb p.at m other)
    ∙ sym (find-append (stands m) front rest)

found : (n : ℕ) (front : List Placed) (p : Placed) (rest : List Placed) → find (stands n) front ≡ None → p.at ≡ n → find (stands n) (front ++ p ∷ rest) ≡ Some p
found n front p rest none at =
    find-append (stands n) front (p ∷ rest)
    ∙ ap (λ o. option_or o (find (stands n) (p ∷ rest))) none
    ∙ ap (λ t. cond t (Some p) (find (stands n) rest)) (eq-eqb p.at n at)

-- what a step keeps
pub record Steps (n : ℕ) (a b c d : List Placed) (s : MergeStep) : Type 0 where
  pub count : length a + length b + length c + length d ≡ suc (length s.structure + length s.node_attrs + length s.edge_attrs + length s.transient)
  pub rest : From (n + 1) s.structure → From (n + 1) s.node_attrs → From (n + 1) s.edge_attrs → From (n + 1) s.transient
      → (find (stands n) (a ++ b ++ c ++ d) ≡ Some s.here) × ((m : ℕ) → n < m → find (stands m) (a ++ b ++ c ++ d) ≡ find (stands m) (s.structure ++ s.node_attrs ++ s.edge_attrs ++ s.transient)) × From n a × From n b × From n c × From n d

some_is : {X : Type 0} (x s : X) → Some x ≡ Some s → x ≡ s
some_is x s e = cc

-- the events behind a front
behind_one : (a b c d : List Placed) → a ++ b ++ c ++ d ≡ a ++ ((b ++ c) ++ d)
behind_one a b c d = ap (λ l. l ++ d) (append_assoc a b c) ∙ append_assoc a (b ++ c) d

module _ (n : ℕ) where
  in_first : (p : Placed) (a b c d : List Placed) → p.at ≡ n → Steps n (p ∷ a) b c d (record { here = p; structure = a; node_attrs = b; edge_attrs = c; transient = d })
  in_first p a b c d at = record {
    count = omega arith;
    rest = λ fa fb fc fd. (
      ap (λ t. cond t (Some p) (find (stands n) (a ++ b ++ c ++ d))) (eq-eqb p.at n at),
      λ m lt. ap (λ t. cond t (Some p) (find (stands m) (a ++ b ++ c ++ d))) (ne_eqb p.at m (λ e. omega (arith, at, e))),
      (omega (arith, at), from_next n a fa),
      from_next n b fb,
      from_next n c fc,
      from_next n d fd,
    );
  }

  in_second : (p : Placed) (a b c d : List Placed) → p.at ≡ n → Steps n a (p ∷ b) c d (record { here = p; structure = a; node_attrs = b; edge_attrs = c; transient = d })
  in_second p a b c d at = record {
    count = omega arith;
    rest = λ fa fb fc fd. (
      ap (find (stands n)) (behind_one a (p ∷ b) c d) ∙ found n a p ((b ++ c) ++ d) (none_before n a fa) at,
      λ m lt. ap (find (stands m)) (behind_one a (p ∷ b) c d) ∙ passed m a p ((b ++ c) ++ d) (λ e. omega (arith, at, e)) ∙ ap (find (stands m)) (sym (behind_one a b c d)),
      from_next n a fa,
      (omega (arith, at), from_next n b fb),
      from_next n c fc,
      from_next n d fd,
    );
  }

  none_in_two : (a b : List Placed) → From (n + 1) a → From (n + 1) b → find (stands n) (a ++ b) ≡ None
  none_in_two a b fa fb = find-append (stands n) a b ∙ ap (λ o. option_or o (find (stands n) b)) (none_before n a fa) ∙ none_before n b fb

  in_third : (p : Placed) (a b c d : List Placed) → p.at ≡ n → Steps n a b (p ∷ c) d (record { here = p; structure = a; node_attrs = b; edge_attrs = c; transient = d })
  in_third p a b c d at = record {
    count = omega arith;
    rest = λ fa fb fc fd. (
      ap (find (stands n)) (append_assoc (a ++ b) (p ∷ c) d) ∙ found n (a ++ b) p (c ++ d) (none_in_two a b fa fb) at,
      λ m lt. ap (find (stands m)) (append_assoc (a ++ b) (p ∷ c) d) ∙ passed m (a ++ b) p (c ++ d) (λ e. omega (arith, at, e)) ∙ ap (find (stands m)) (sym (append_assoc (a ++ b) c d)),
      from_next n a fa,
      from_next n b fb,
      (omega (arith, at), from_next n c fc),
      from_next n d fd,
    );
  }

  in_fourth : (p : Placed) (a b c d : List Placed) → p.at ≡ n → Steps n a b c (p ∷ d) (record { here = p; structure = a; node_attrs = b; edge_attrs = c; transient = d })
  in_fourth p a b c d at = record {
    count = omega arith;
    rest = λ fa fb fc fd.
        let none = find-append (stands n) (a ++ b) c ∙ ap (λ o. option_or o (find (stands n) c)) (none_in_two a b fa fb) ∙ none_before n c fc in
        (found n (a ++ b ++ c) p d none at, λ m lt. passed m (a ++ b ++ c) p d (λ e. omega (arith, at, e)), from_next n a fa, from_next n b fb, from_next n c fc, (omega (arith, at), from_next n d fd));
  }

  by_fourth : (a b c d : List Placed) (s : MergeStep) → head_at n d (λ p rest. record { here = p; structure = a; node_attrs = b; edge_attrs = c; transient = rest }) ≡ Some s → Steps n a b c d s
  by_fourth a b c [] s e = absurd cc
  by_fourth a b c (p ∷ d) s e = at_test (p.at == n) refl e
    where
      made : MergeStep
      made = record { here = p; structure = a; node_attrs = b; edge_attrs = c; transient = d }

      at_test : (t : Bool) → (p.at == n) ≡ t → cond t (Some made) None ≡ Some s → Steps n a b c (p ∷ d) s
      at_test true h e = subst (Steps n a b c (p ∷ d)) (some_is made s e) (in_fourth p a b c d (eqb-true p.at n h))
      at_test false h e = absurd cc

  by_third : (a b c d : List Placed) (s : MergeStep) → option_or (head_at n c (λ p rest. record { here = p; structure = a; node_attrs = b; edge_attrs = rest; transient = d })) (head_at n d (λ p rest. record { here = p; structure = a; node_attrs = b; edge_attrs = c; transient = rest })) ≡ Some s → Steps n a b c d s
  by_third a b [] d s e = by_fourth a b [] d s e
  by_third a b (p ∷ c) d s e = at_test (p.at == n) refl e
    where
      made : MergeStep
      made = record { here = p; structure = a; node_attrs = b; edge_attrs = c; transient = d }

      at_test : (t : Bool) → (p.at == n) ≡ t → option_or (cond t (Some made) None) (head_at n d (λ q rest. record { here = q; structure = a; node_attrs = b; edge_attrs = p ∷ c; transient = rest })) ≡ Some s → Steps n a b (p ∷ c) d s
      at_test true h e = subst (Steps n a b (p ∷ c) d) (some_is made s e) (in_third p a b c d (eqb-true p.at n h))
      at_test false h e = by_fourth a b (p ∷ c) d s e

  by_second : (a b c d : List Placed) (s : MergeStep)
      → option_or (head_at n b (λ p rest. record { here = p; structure = a; node_attrs = rest; edge_attrs = c; transient = d })) (option_or (head_at n c (λ p rest. record { here = p; structure = a; node_attrs = b; edge_attrs = rest; transient = d })) (head_at n d (λ p rest. record { here = p; structure = a; node_attrs = b; edge_attrs = c; transient = rest }))) ≡ Some s → Steps n a b c d s
  by_second a [] c d s e = by_third a [] c d s e
  by_second a (p ∷ b) c d s e = at_test (p.at == n) refl e
    where
      made : MergeStep
      made = record { here = p; structure = a; node_attrs = b; edge_attrs = c; transient = d }

      at_test : (t : Bool) → (p.at == n) ≡ t
          → option_or (cond t (Some made) None) (option_or (head_at n c (λ q rest. record { here = q; structure = a; node_attrs = p ∷ b; edge_attrs = rest; transient = d })) (head_at n d (λ q rest. record { here = q; structure = a; node_attrs = p ∷ b; edge_attrs = c; transient = rest }))) ≡ Some s → Steps n a (p ∷ b) c d s
      at_test true h e = subst (Steps n a (p ∷ b) c d) (some_is made s e) (in_second p a b c d (eqb-true p.at n h))
      at_test false h e = by_third a (p ∷ b) c d s e

  pub steps : (a b c d : List Placed) (s : MergeStep) → step_at n a b c d ≡ Some s → Steps n a b c d s
  steps [] b c d s e = by_second [] b c d s e
  steps (p ∷ a) b c d s e = at_test (p.at == n) refl e
    where
      made : MergeStep
      made = record { here = p; structure = a; node_attrs = b; edge_attrs = c; transient = d }

      at_test : (t : Bool) → (p.at == n) ≡ t
          → option_or (cond t (Some made) None) (option_or (head_at n b (λ q rest. record { here = q; structure = p ∷ a; node_attrs = rest; edge_attrs = c; transient = d }))
          (option_or (head_at n c (λ q rest. record { here = q; structure = p ∷ a; node_attrs = b; edge_attrs = rest; transient = d })) (head_at n d (λ q rest. record { here = q; structure = p ∷ a; node_attrs = b; edge_attrs = c; transient = rest })))) ≡ Some s → Steps n (p ∷ a) b c d s
      at_test true h e = subst (Steps n (p ∷ a) b c d) (some_is made s e) (in_first p a b c d (eqb-true p.at n h))
      at_test false h e = by_second (p ∷ a) b c d s e

-- the same events are found from the position on
same_found : (k n : ℕ) (xs ys : List Placed) → ((m : ℕ) → n ≤ m → find (stands m) xs ≡ find (stands m) ys) → at_positions k n xs ≡ at_positions k n ys
same_found zero n xs ys h = refl
same_found (suc k) n xs ys h =
    (λ i. option_and_then (λ (p : Placed). option_map (λ (events : List Event). p.event ∷ events) (same_found k (n + 1) xs ys (λ m le. h m (omega (arith, le))) i)) (h n (omega arith) i))

-- what the walk gave stands at the positions, its times do not fall, and no event is left
pub record Woven (k n earliest : ℕ) (a b c d : List Placed) (events : List Event) : Type 0 where
  pub found : at_positions k n (a ++ b ++ c ++ d) ≡ Some events
  pub times : never_fall earliest events ≡ true
  pub from_a : From n a
  pub from_b : From n b
  pub from_c : From n c
  pub from_d : From n d

some_step : {X Y : Type 0} (o : Option X) (f : X → Option Y) (y : Y) → option_and_then f o ≡ Some y → (x : X) × (o ≡ Some x) × (f x ≡ Some y)
some_step None f y e = absurd cc
some_step (Some x) f y e = (x, refl, e)

if_some : {Y : Type 0} (t : Bool) (o : Option Y) (y : Y) → cond t o None ≡ Some y → (t ≡ true) × (o ≡ Some y)
if_some true o y e = (refl, e)
if_some false o y e = absurd cc

some_map : (o : Option (List Event)) (e : Event) (all : List Event) → option_map (λ (events : List Event). e ∷ events) o ≡ Some all → (events : List Event) × (o ≡ Some events) × (e ∷ events ≡ all)
some_map None e all h = absurd cc
some_map (Some events) e all h = (events, refl, cc)

pub walked_is : (k n earliest : ℕ) (a b c d : List Placed) (events : List Event) → length a + length b + length c + length d ≡ k → walked k n earliest a b c d ≡ Some events → Woven k n earliest a b c d events
walked_is zero n earliest [] [] [] [] events count e = record {
  found = e;
  times = ap (never_fall earliest) (sym (some_is [] events e));
  from_a = tt;
  from_b = tt;
  from_c = tt;
  from_d = tt;
}
walked_is zero n earliest (p ∷ a) b c d events count e = absurd (omega arith)
walked_is zero n earliest [] (p ∷ b) c d events count e = absurd (omega arith)
walked_is zero n earliest [] [] (p ∷ c) d events count e = absurd (omega arith)
walked_is zero n earliest [] [] [] (p ∷ d) events count e = absurd (omega arith)
walked_is (suc k) n earliest a b c d events count e =
    let x = some_step (step_at n a b c d) (λ (s : MergeStep). cond (nat_le earliest s.here.event.time) (option_map (λ (events : List Event). s.here.event ∷ events) (walked k (n + 1) s.here.event.time s.structure s.node_attrs s.edge_attrs s.transient)) None) events e in
    let s = x.0 in
    let st = steps n a b c d s x.1 in
    let t = if_some (nat_le earliest s.here.event.time) (option_map (λ (events : List Event). s.here.event ∷ events) (walked k (n + 1) s.here.event.time s.structure s.node_attrs s.edge_attrs s.transient)) events x.2 in
    let more = some_map (walked k (n + 1) s.here.event.time s.structure s.node_attrs s.edge_attrs s.transient) s.here.event events t.1 in
    let w = walked_is k (n + 1) s.here.event.time s.structure s.node_attrs s.edge_attrs s.transient more.0 (omega (arith, st.count, count)) more.1 in
    let r = st.rest w.from_a w.from_b w.from_c w.from_d in
    let rest = same_found k (n + 1) (a ++ b ++ c ++ d) (s.structure ++ s.node_attrs ++ s.edge_attrs ++ s.transient) (λ m le. r.1 m (omega (arith, le))) ∙ w.found in
    record {
      found = (λ i. option_and_then (λ (p : Placed). option_map (λ (events : List Event). p.event ∷ events) (rest i)) (r.0 i)) ∙ ap (λ (l : List Event). Some l) more.2;
      times = ap (never_fall earliest) (sym more.2) ∙ (λ i. t.0 i && w.times i);
      from_a = r.2;
      from_b = r.3;
      from_c = r.4;
      from_d = r.5;
    }

-- columns that are walked to the end are merged to what the walk gave
pub walked_merged : (a b c d : List Placed) (len : ℕ) (events : List Event) → length a + length b + length c + length d ≡ len → walked len 0 0 a b c d ≡ Some events → merged a b c d len ≡ Some events
walked_merged a b c d len events counted e =
    let w = walked_is len 0 0 a b c d events counted e in
    let count : length (a ++ b ++ c ++ d) ≡ len = omega (arith, length-append (a ++ b ++ c) d, length-append (a ++ b) c, length-append a b) in
    ap (λ t. cond t (option_and_then if_never_fall (at_positions len 0 (a ++ b ++ c ++ d))) None) (eq-eqb (length (a ++ b ++ c ++ d)) len count)
    ∙ ap (option_and_then if_never_fall) w.found
    ∙ ap (λ t. cond t (Some events) None) w.times

-- ---- the loop

-- the events so far, and those to come
abbrev pub after_walked : List Event → Option (List Event) → Option (List Event)
after_walked front o = option_map (λ (events : List Event). front ++ events) o

regroup : (front : List Event) (e : Event) (o : Option (List Event)) → after_walked front (option_map (λ (events : List Event). e ∷ events) o) ≡ after_walked (front ++ e ∷ []) o
regroup front e None = refl
regroup front e (Some events) = ap (λ (l : List Event). Some l) (sym (append_assoc front (e ∷ []) events))

module _ (front : List Event) (len i earliest : ℕ) (a b c d : List Placed) (total : Option (List Event)) where
  pub walks_on : i < len → (s : MergeStep) → step_at i a b c d ≡ Some s → earliest ≤ s.here.event.time → after_walked front (walked (len - i) i earliest a b c d) ≡ total
      → after_walked (front ++ s.here.event ∷ []) (walked (len - (i + 1)) (i + 1) s.here.event.time s.structure s.node_attrs s.edge_attrs s.transient) ≡ total
  walks_on lt s is le e =
      let k : len - i ≡ suc (len - (i + 1)) = omega arith in
      let rest = walked (len - (i + 1)) (i + 1) s.here.event.time s.structure s.node_attrs s.edge_attrs s.transient in
      let t : leb earliest s.here.event.time ≡ true = le-leb earliest s.here.event.time le in
      sym (regroup front s.here.event rest)
      ∙ ap (λ t. after_walked front (cond t (option_map (λ (events : List Event). s.here.event ∷ events) rest) None)) (sym t)
      ∙ ap (λ o. after_walked front (option_and_then (λ (s : MergeStep). cond (nat_le earliest s.here.event.time) (option_map (λ (events : List Event). s.here.event ∷ events) (walked (len - (i + 1)) (i + 1) s.here.event.time s.structure s.node_attrs s.edge_attrs s.transient)) None) o)) (sym is)
      ∙ ap (λ m. after_walked front (walked m i earliest a b c d)) (sym k) ∙ e

  pub walks_to_the_end : len ≤ i → after_walked front (walked (len - i) i earliest a b c d) ≡ total → total ≡ Some front
  walks_to_the_end le e =
      let k : len - i ≡ 0 = omega arith in
      sym e ∙ ap (λ m. after_walked front (walked m i earliest a b c d)) k ∙ ap (λ (l : List Event). Some l) (append-nil front)

pub walks_from_nothing : (o : Option (List Event)) → after_walked [] o ≡ o
walks_from_nothing None = refl
walks_from_nothing (Some events) = refl
