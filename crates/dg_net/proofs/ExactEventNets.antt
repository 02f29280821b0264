-- The exact net of events that are changes of a set, by how often each element goes out and comes in.
use Rattle.std.proofs.Common.{◌≡◌, ℕ, ◌+◌, Bool, true, false, not, ◌&&◌, ◌||◌, List, [], ◌∷◌, ◌++◌, Option, Some, None, IfSome, refl, sym, ap, ◌∙◌, arith}
use Rattle.std.specs.List.{flat_map}
use Rattle.std.specs.List.Sorted.{IsPermutation, IsSortedBy}
use Rattle.std.specs.Option.{option_to_list}
use Rattle.dg_graph.specs.declared.element.Element.{Element}
use Rattle.dg_graph.specs.declared.event.Event.{Event}
use Rattle.dg_graph.specs.Composition.{Delta, between}
use Rattle.dg_graph.specs.Effect.{removed_by, added_by, forwards}
use Rattle.dg_graph.specs.Elements.{IsSet, before, bit, has, same, with_one, without}
use Rattle.dg_graph.specs.ExactEvents.{AreChangesOf}
use Rattle.dg_graph.specs.Replay.{replay_from}
use Rattle.dg_graph.specs.Sets.{without_all}
use Rattle.dg_graph.proofs.ExactEvents.{IsSet-replay_from}
use Rattle.dg_graph.proofs.Sets.{same_members, element_exact, has-put, has-take_out, has-without_all, IsSet-without_all}
use Rattle.dg_net.specs.Surplus.{surplus}
use Rattle.dg_net.proofs.SortedSurplus.{times, times_permuted, climbs_sorted, Tells, surplus_tells, IsSet-surplus}

-- what the events take out, and what they put in
abbrev pub all_removed : List Event → List Element
all_removed events = flat_map (λ e. option_to_list (removed_by e.body)) events

abbrev pub all_added : List Event → List Element
all_added events = flat_map (λ e. option_to_list (added_by e.body)) events

-- ---- an element goes out or comes in

count_one : (q : Element) (o : Option Element) (rest : List Element) → times q (option_to_list o ++ rest) ≡ times q (option_to_list o) + times q rest
count_one q None rest = omega arith
count_one q (Some x) rest = omega arith

goes_out : (q : Element) (set : List Element) (o : Option Element) → IfSome o (λ x. has set x ≡ true) → bit (has set q) ≡ bit (has (without set o) q) + times q (option_to_list o)
goes_out q set None there = omega arith
goes_out q set (Some x) there = by (same q x) refl ∙ ap (λ b. bit b + (bit (same q x) + 0)) (sym (has-take_out x set q))
  where
    by : (b : Bool) → same q x ≡ b → bit (has set q) ≡ bit (not b && has set q) + (bit b + 0)
    by true e = ap bit (ap (has set) (element_exact q x e) ∙ there)
    by false e = omega arith

comes_in : (q : Element) (set : List Element) (o : Option Element) → IfSome o (λ x. has set x ≡ false) → bit (has set q) + times q (option_to_list o) ≡ bit (has (with_one set o) q)
comes_in q set None absent = omega arith
comes_in q set (Some x) absent = by (same q x) refl ∙ ap bit (sym (has-put x set q))
  where
    by : (b : Bool) → same q x ≡ b → bit (has set q) + (bit b + 0) ≡ bit (b || has set q)
    by true e = ap (λ b. bit b + (1 + 0)) (ap (has set) (element_exact q x e) ∙ absent)
    by false e = omega arith

-- what was absent is absent still where something goes out
absent_still : (set : List Element) (o a : Option Element) → IfSome a (λ x. has set x ≡ false) → IfSome a (λ x. has (without set o) x ≡ false)
absent_still set o None absent = tt
absent_still set None (Some x) absent = absent
absent_still set (Some y) (Some x) absent = has-take_out y set x ∙ ap (λ b. not (same x y) && b) absent ∙ no (not (same x y))
  where
    no : (b : Bool) → (b && false) ≡ false
    no true = refl
    no false = refl

-- ---- events that are changes

-- an element that is there at the end was there, or came in once more than it went out
tally : (q : Element) (set : List Element) (events : List Event) → AreChangesOf set events → bit (has set q) + times q (all_added events) ≡ bit (has (replay_from set events) q) + times q (all_removed events)
tally q set [] changes = refl
tally q set (e ∷ events) changes =
    let out : Option Element = removed_by e.body in
    let into : Option Element = added_by e.body in
    let first = goes_out q set out changes.0.removed in
    let then = comes_in q (without set out) into (absent_still set out into changes.0.added) in
    let rest = tally q (forwards set e) events changes.1 in
    let more = count_one q into (all_added events) in
    let less = count_one q out (all_removed events) in
    omega arith

-- the surplus of one side has what was there, and is there no more
told : (q : Element) (kept : List Element) (was is : Bool) (many others : ℕ) → Tells q kept many others → bit was + others ≡ bit is + many → has kept q ≡ (was && not is)
told q kept true true many others h e = h.less (omega arith)
told q kept true false many others h e = h.more (omega arith)
told q kept false true many others h e = h.less (omega arith)
told q kept false false many others h e = h.less (omega arith)

pub exact_is : (d : Delta) (events : List Event) (removed added out into : List Element) → removed ≡ all_removed events → added ≡ all_added events
    → IsPermutation removed out → IsSortedBy before out → IsPermutation added into → IsSortedBy before into
    → d ≡ record { minus = surplus out into; plus = surplus into out }
    → (set : List Element) → IsSet set → AreChangesOf set events → d ≡ between set (replay_from set events)
exact_is d events removed added out into out_is into_is out_same out_sorted into_same into_sorted is set s changes =
    let after : List Element = replay_from set events in
    let after_is : IsSet after = IsSet-replay_from events set s in
    let falls = climbs_sorted out out_sorted in
    let climbs = climbs_sorted into into_sorted in
    let outs : (q : Element) → times q out ≡ times q (all_removed events) = λ q. times_permuted q removed out out_same ∙ ap (times q) out_is in
    let intos : (q : Element) → times q into ≡ times q (all_added events) = λ q. times_permuted q added into into_same ∙ ap (times q) into_is in
    let minus : surplus out into ≡ without_all set after =
    same_members (surplus out into) (without_all set after) (IsSet-surplus out into falls) (IsSet-without_all set after s)
    (λ q.
    let sum = tally q set events changes in
    let o = outs q in
    let i = intos q in
    told q (surplus out into) (has set q) (has after q) (times q out) (times q into) (surplus_tells q out into falls climbs) (omega arith)
    ∙ sym (has-without_all set after q))
    in
    let plus : surplus into out ≡ without_all after set =
    same_members (surplus into out) (without_all after set) (IsSet-surplus into out climbs) (IsSet-without_all after set after_is)
    (λ q.
    let sum = tally q set events changes in
    let o = outs q in
    let i = intos q in
    told q (surplus into out) (has after q) (has set q) (times q into) (times q out) (surplus_tells q into out climbs falls) (omega arith)
    ∙ sym (has-without_all after set q))
    in
    is ∙ (λ i. record { minus = minus i; plus = plus i })
