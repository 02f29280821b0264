-- An event that is a change of a set, as the exact delta to the set after it; the sets after events.
use Rattle.std.proofs.Common.{◌≡◌, Bool, true, false, not, ◌&&◌, ◌||◌, List, [], ◌∷◌, ◌++◌, Option, Some, None, IfSome, option_to_list, refl, sym, ap, ◌∙◌}
use Rattle.dg_graph.specs.declared.element.Element.{Element}
use Rattle.dg_graph.specs.declared.event.Event.{Event}
use Rattle.dg_graph.specs.Composition.{between}
use Rattle.dg_graph.specs.Effect.{removed_by, added_by, forwards}
use Rattle.dg_graph.specs.Elements.{IsSet, has, same, with_one, without}
use Rattle.dg_graph.specs.ExactEvents.{effect_of, IsExact}
use Rattle.dg_graph.specs.Replay.{replay_from}
use Rattle.dg_graph.specs.Sets.{without_all}
use Rattle.dg_graph.proofs.Sets.{same_members, element_exact, has-put, has-take_out, has-without_all, IsSet-put, IsSet-take_out, IsSet-without_all}

-- the element is the one
is_one : Option Element → Element → Bool
is_one None q = false
is_one (Some x) q = same q x

IsSet-one : (o : Option Element) → IsSet (option_to_list o)
IsSet-one None = tt
IsSet-one (Some x) = (tt, tt)

or_false : (a : Bool) → (a || false) ≡ a
or_false true = refl
or_false false = refl

has-one : (o : Option Element) (q : Element) → has (option_to_list o) q ≡ is_one o q
unfolding is_one
has-one None q = refl
has-one (Some x) q = or_false (same q x)

has-without : (set : List Element) (o : Option Element) (q : Element) → has (without set o) q ≡ (not (is_one o q) && has set q)
unfolding is_one
has-without set None q = refl
has-without set (Some x) q = has-take_out x set q

has-with : (set : List Element) (o : Option Element) (q : Element) → has (with_one set o) q ≡ (is_one o q || has set q)
unfolding is_one
has-with set None q = refl
has-with set (Some x) q = has-put x set q

known : (set : List Element) (o : Option Element) (b : Bool) (q : Element) → IfSome o (λ x. has set x ≡ b) → is_one o q ≡ true → has set q ≡ b
unfolding is_one
known set None b q k e = absurd cc
known set (Some x) b q k e = ap (has set) (element_exact q x e) ∙ k

pub IsSet-with_one : (set : List Element) (o : Option Element) → IsSet set → IsSet (with_one set o)
IsSet-with_one set None is = is
IsSet-with_one set (Some x) is = IsSet-put x set is

pub IsSet-without : (set : List Element) (o : Option Element) → IsSet set → IsSet (without set o)
IsSet-without set None is = is
IsSet-without set (Some x) is = IsSet-take_out x set is

lost : (s r a : Bool) → (r ≡ true → s ≡ true) → (a ≡ true → s ≡ false) → (s && not (a || (not r && s))) ≡ r
lost true true true f g = cc (g refl)
lost true true false f g = refl
lost true false true f g = cc (g refl)
lost true false false f g = refl
lost false true a f g = cc (f refl)
lost false false a f g = refl

gained : (s r a : Bool) → (a ≡ true → s ≡ false) → ((a || (not r && s)) && not s) ≡ a
gained true r true g = cc (g refl)
gained true true false g = refl
gained true false false g = refl
gained false r true g = refl
gained false true false g = refl
gained false false false g = refl

-- an event that is exact in a set is the exact delta to the set after it
pub exact_event : (set : List Element) (e : Event) → IsSet set → IsExact set e → between set (forwards set e) ≡ effect_of e
exact_event set e is exact =
    let r = removed_by e.body in
    let a = added_by e.body in
    let after : (q : Element) → has (forwards set e) q ≡ (is_one a q || (not (is_one r q) && has set q)) = λ q. has-with (without set r) a q ∙ ap (λ b. is_one a q || b) (has-without set r q) in
    let is_after : IsSet (forwards set e) = IsSet-with_one (without set r) a (IsSet-without set r is) in
    let minus : without_all set (forwards set e) ≡ option_to_list r = same_members (without_all set (forwards set e)) (option_to_list r) (IsSet-without_all set (forwards set e) is) (IsSet-one r)
    (λ q. has-without_all set (forwards set e) q ∙ ap (λ b. has set q && not b) (after q) ∙ lost (has set q) (is_one r q) (is_one a q) (known set r true q exact.removed) (known set a false q exact.added) ∙ sym (has-one r q)) in
    let plus : without_all (forwards set e) set ≡ option_to_list a = same_members (without_all (forwards set e) set) (option_to_list a) (IsSet-without_all (forwards set e) set is_after) (IsSet-one a)
    (λ q. has-without_all (forwards set e) set q ∙ ap (λ b. b && not (has set q)) (after q) ∙ gained (has set q) (is_one r q) (is_one a q) (known set a false q exact.added) ∙ sym (has-one a q)) in
    λ i. record { minus = minus i; plus = plus i }

pub none_left : (set : List Element) → IsSet set → without_all set set ≡ []
none_left set is = same_members (without_all set set) [] (IsSet-without_all set set is) tt (λ q. has-without_all set set q ∙ no (has set q))
  where
    no : (a : Bool) → (a && not a) ≡ false
    no true = refl
    no false = refl

pub IsSet-forwards : (set : List Element) (e : Event) → IsSet set → IsSet (forwards set e)
IsSet-forwards set e is = IsSet-with_one (without set (removed_by e.body)) (added_by e.body) (IsSet-without set (removed_by e.body) is)

pub IsSet-replay_from : (events : List Event) (set : List Element) → IsSet set → IsSet (replay_from set events)
IsSet-replay_from [] set is = is
IsSet-replay_from (e ∷ events) set is = IsSet-replay_from events (forwards set e) (IsSet-forwards set e is)

-- events and then others, over the set
pub replay_append : (set : List Element) (xs ys : List Event) → replay_from set (xs ++ ys) ≡ replay_from (replay_from set xs) ys
replay_append set [] ys = refl
replay_append set (x ∷ xs) ys = replay_append (forwards set x) xs ys
