-- Where the point of an instant splits the events of a history.
use Rattle.std.proofs.Common.{◌≡◌, ◌<◌, ◌≤◌, ◌+◌, ◌*◌, ◌/◌, ◌%◌, ◌==◌, ℕ, Bool, true, false, cond, List as ListOf, [], ◌++◌, length, take, drop, nat_le, nat_lt, refl, sym, ap, subst, ◌∙◌, arith}
use Rattle.std.specs.List.{All}
use Rattle.std.proofs.Math.Nat.{mod-lt}
use Rattle.std.proofs.lemmas.Bool.Decides.{nat_tests}
use Rattle.std.proofs.lemmas.List.{append-nil, drop-drop, take-append-drop, take_all}
use Rattle.std.proofs.lemmas.List.Elements.{All-nil}
use Rattle.std.proofs.lemmas.Nat.{div-add-mod'}
use Rattle.dg_graph.specs.declared.event.Event.{Event}
use Rattle.dg_graph.specs.ColumnMerge.{never_fall}
use Rattle.dg_graph.specs.Replay.{events_until}
use Rattle.dg_history.specs.declared.node.NodeId.TheVariants.{Now, Recent, Leaf, List}
use Rattle.dg_history.specs.declared.params.Params.{Params}
use Rattle.dg_history.specs.History.{History, events_of}
use Rattle.dg_index.specs.Hierarchy.{leaves}
use Rattle.dg_plan.specs.InstantPoint.{point}
use Rattle.dg_fold.specs.PointSplits.{SplitsAt, PointsSplit, next_of}
use Rattle.dg_fold.proofs.PathIndependenceInstants.{instants_part}

same_of : (m n : ℕ) → (m == n) ≡ true → m ≡ n
same_of m n e = grind (arith, nat_tests)

less_of : (m n : ℕ) → nat_lt m n ≡ true → m < n
less_of m n e = grind (arith, nat_tests)

module _ (z : History) (t : ℕ) (rise : never_fall 0 (events_of z) ≡ true) (pos : 0 < z.params.l) where
  abbrev pub p : Params
  p = z.params

  abbrev pub events : ListOf Event
  events = events_of z

  abbrev pub count : ℕ
  count = length (events_until events t)

  abbrev pub m : ℕ
  m = leaves p (length events)

  up_to : (n : ℕ) → n ≤ count → All (λ (e : Event). nat_le e.time t ≡ true) (take n events)
  up_to n h = (instants_part events t n rise).0 h

  later : (n : ℕ) → count ≤ n → All (λ (e : Event). t < e.time) (drop n events)
  later n h = (instants_part events t n rise).1 h

  none_later : All (λ (e : Event). t < e.time) []
  none_later = All-nil (λ (e : Event). t < e.time)

  at_now : count ≡ length events → SplitsAt z t Now []
  at_now is = record {
    first = events;
    last = [];
    set = refl;
    up_to = subst (All (λ (e : Event). nat_le e.time t ≡ true)) (take_all (length events) events (omega arith)) (up_to (length events) (omega arith));
    later = none_later;
    whole = append-nil events;
  }

  at_leaf : count % p.l ≡ 0 → SplitsAt z t (Leaf (count / p.l)) []
  at_leaf none =
      let is : count / p.l * p.l ≡ count = (let e = div-add-mod' count p.l in omega arith) in
      record {
        first = take (count / p.l * p.l) events;
        last = drop (count / p.l * p.l) events;
        set = refl;
        up_to = up_to (count / p.l * p.l) (omega arith);
        later = later (count / p.l * p.l) (omega arith);
        whole = take-append-drop (count / p.l * p.l) events;
      }

  at_recent : m * p.l < count → SplitsAt z t Recent (drop (m * p.l) events)
  at_recent over = record {
    first = take (m * p.l) events;
    last = [];
    set = refl;
    up_to = up_to (m * p.l) (omega arith);
    later = none_later;
    whole = ap (λ l. take (m * p.l) events ++ l) (append-nil (drop (m * p.l) events)) ∙ take-append-drop (m * p.l) events;
  }

  at_list : SplitsAt z t (List (count / p.l)) (take p.l (drop (count / p.l * p.l) events))
  at_list =
      let i = count / p.l in
      let is = div-add-mod' count p.l in
      let within : count % p.l < p.l = mod-lt count pos in
      record {
        first = take (i * p.l) events;
        last = drop p.l (drop (i * p.l) events);
        set = refl;
        up_to = up_to (i * p.l) (omega arith);
        later = subst (All (λ (e : Event). t < e.time)) (sym (drop-drop p.l (i * p.l) events)) (later (i * p.l + p.l) (omega arith));
        whole = ap (λ l. take (i * p.l) events ++ l) (take-append-drop p.l (drop (i * p.l) events)) ∙ take-append-drop (i * p.l) events;
      }

  pub at_point : SplitsAt z t (point p events t) (next_of z (point p events t))
  at_point = now (count == length events) refl
    where
      list : (b : Bool) → nat_lt (m * p.l) count ≡ b → SplitsAt z t (cond b Recent (List (count / p.l))) (next_of z (cond b Recent (List (count / p.l))))
      list true is = at_recent (less_of (m * p.l) count is)
      list false is = at_list

      leaf : (b : Bool) → (count % p.l == 0) ≡ b
          → SplitsAt z t (cond b (Leaf (count / p.l)) (cond (nat_lt (m * p.l) count) Recent (List (count / p.l))))
          (next_of z (cond b (Leaf (count / p.l)) (cond (nat_lt (m * p.l) count) Recent (List (count / p.l)))))
      leaf true is = at_leaf (same_of (count % p.l) 0 is)
      leaf false is = list (nat_lt (m * p.l) count) refl

      now : (b : Bool) → (count == length events) ≡ b
          → SplitsAt z t (cond b Now (cond (count % p.l == 0) (Leaf (count / p.l)) (cond (nat_lt (m * p.l) count) Recent (List (count / p.l)))))
          (next_of z (cond b Now (cond (count % p.l == 0) (Leaf (count / p.l)) (cond (nat_lt (m * p.l) count) Recent (List (count / p.l))))))
      now true is = at_now (same_of count (length events) is)
      now false is = leaf (count % p.l == 0) refl

pub points_split : PointsSplit
points_split z t rise pos = at_point z t rise pos
