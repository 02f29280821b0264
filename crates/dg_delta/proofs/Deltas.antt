-- What deltas say of each element, and the laws that follow.
use Rattle.std.proofs.Common.{◌≡◌, Bool, true, false, cond, not, ◌||◌, ◌&&◌, List, [], ◌∷◌, ◌++◌, refl, sym, ap, ◌∙◌}
use Rattle.dg_graph.specs.declared.element.Element.{Element}
use Rattle.dg_graph.specs.Elements.{IsSet, has}
use Rattle.dg_graph.specs.Sets.{unioned, without_all}
use Rattle.dg_graph.specs.Composition.{Delta, IsDelta, between, applied, chained, Says, In, Out, As_it_was, says, then_says, composition, Composes}
use Rattle.dg_graph.proofs.Sets.{same_members, has-unioned, has-without_all, IsSet-unioned, IsSet-without_all}
use Rattle.dg_graph.proofs.DifferentialFunctionDeltas.{has-cancelled}
use Rattle.dg_set.specs.Apart.{AreApart}
use Rattle.dg_delta.specs.Deltas.{composed, applied_in_turn, is_in_after}
use Rattle.dg_delta.specs.DeltaLaws.{BetweenLeadsOn, ReversedLeadsBack, DecidesEachElement, AppliesOneAfterTheOther, AppliesEachInTurn, SayTheSameAreEqual, IsAssociative, CanBeCut}

-- the word of a delta by whether plus and minus have the element
abbrev pub word : Bool → Bool → Says
word plus minus = cond plus In (cond minus Out As_it_was)

-- an element of a set that lost some and then gained some
abbrev pub edited : Bool → Bool → Bool → Bool
edited was lost gained = (was && not lost) || gained

pub has-edited : (a lost gained : List Element) (x : Element) → has (unioned (without_all a lost) gained) x ≡ edited (has a x) (has lost x) (has gained x)
has-edited a lost gained x =
    has-unioned (without_all a lost) gained x ∙ ap (λ t. t || has gained x) (has-without_all a lost x)

pub IsSet-edited : (a lost gained : List Element) → IsSet a → IsSet (unioned (without_all a lost) gained)
IsSet-edited a lost gained s =
    IsSet-unioned (without_all a lost) gained (IsSet-without_all a lost s)

-- ---- the two sets of a delta

apart_by : (m p : Bool) → (m ≡ true → p ≡ false) → p ≡ true → m ≡ false
apart_by true p f e = cc (f refl)
apart_by false p f e = refl

pub apart_back : (a b : List Element) → AreApart a b → AreApart b a
apart_back a b apart x = apart_by (has a x) (has b x) (apart x)

apart_without : (a b : Bool) → (a && not b) ≡ true → (b && not a) ≡ false
apart_without true true e = refl
apart_without true false e = refl
apart_without false true e = cc
apart_without false false e = refl

-- the sets of an exact delta share no element
pub apart_between : (a b : List Element) → AreApart (without_all a b) (without_all b a)
apart_between a b x e =
    has-without_all b a x ∙ apart_without (has a x) (has b x) (sym (has-without_all a b x) ∙ e)

pub apart_edited : (m p m2 p2 : Bool) → (m ≡ true → p ≡ false) → (m2 ≡ true → p2 ≡ false) → edited m p2 m2 ≡ true → edited p m2 p2 ≡ false
apart_edited m p true true f g e = cc (g refl)
apart_edited m true true false f g e = refl
apart_edited m false true false f g e = refl
apart_edited true p false true f g e = cc
apart_edited false p false true f g e = cc
apart_edited true true false false f g e = cc (f refl)
apart_edited true false false false f g e = refl
apart_edited false p false false f g e = cc

-- nor do those of a composition
pub apart_composed : (a b : Delta) → AreApart a.minus a.plus → AreApart b.minus b.plus → AreApart (unioned (without_all a.minus b.plus) b.minus) (unioned (without_all a.plus b.minus) b.plus)
apart_composed a b f g x e =
    has-edited a.plus b.minus b.plus x
    ∙ apart_edited (has a.minus x) (has a.plus x) (has b.minus x) (has b.plus x) (f x) (g x) (sym (has-edited a.minus b.plus b.minus x) ∙ e)

apart_cancelled : (m p m2 p2 : Bool) → (m ≡ true → p ≡ false) → (m2 ≡ true → p2 ≡ false) → ((m && not p2) || (m2 && not p)) ≡ true → ((p && not m2) || (p2 && not m)) ≡ false
apart_cancelled true true m2 p2 f g e = cc (f refl)
apart_cancelled true false true true f g e = cc (g refl)
apart_cancelled true false true false f g e = refl
apart_cancelled true false false true f g e = cc
apart_cancelled true false false false f g e = refl
apart_cancelled false true true p2 f g e = cc
apart_cancelled false true false p2 f g e = cc
apart_cancelled false false true true f g e = cc (g refl)
apart_cancelled false false true false f g e = refl
apart_cancelled false false false true f g e = cc
apart_cancelled false false false false f g e = cc

-- nor do those of chained deltas
pub apart_chained : (a b : Delta) → AreApart a.minus a.plus → AreApart b.minus b.plus → AreApart (chained a b).minus (chained a b).plus
apart_chained a b f g x e =
    has-cancelled a.plus b.minus b.plus a.minus x
    ∙ apart_cancelled (has a.minus x) (has a.plus x) (has b.minus x) (has b.plus x) (f x) (g x) (sym (has-cancelled a.minus b.plus b.minus a.plus x) ∙ e)

pub IsDelta-composed : (a b : Delta) → IsDelta a → IsDelta b → IsDelta (composed a b)
IsDelta-composed a b f g = record {
  minus = IsSet-edited a.minus b.plus b.minus f.minus;
  plus = IsSet-edited a.plus b.minus b.plus f.plus;
  apart = apart_composed a b f.apart g.apart;
}

-- ---- what a composition says

word_edited : (p m p2 m2 : Bool) → word (edited p m2 p2) (edited m p2 m2) ≡ then_says (word p m) (word p2 m2)
word_edited true m true true = refl
word_edited true m true false = refl
word_edited true true false true = refl
word_edited true false false true = refl
word_edited true m false false = refl
word_edited false m true true = refl
word_edited false m true false = refl
word_edited false true false true = refl
word_edited false true false false = refl
word_edited false false false true = refl
word_edited false false false false = refl

pub says-composed : (a b : Delta) (x : Element) → says (composed a b) x ≡ then_says (says a x) (says b x)
says-composed a b x =
    let plus = has-edited a.plus b.minus b.plus x in
    let minus = has-edited a.minus b.plus b.minus x in
    (λ i. word (plus i) (minus i)) ∙ word_edited (has a.plus x) (has a.minus x) (has b.plus x) (has b.minus x)

pub composes_by : (d a b : Delta) → d ≡ composed a b → Composes d (a ∷ b ∷ [])
composes_by d a b is x = ap (λ z. says z x) is ∙ says-composed a b x

pub and_then_associates : (a b c : Says) → then_says (then_says a b) c ≡ then_says a (then_says b c)
and_then_associates a b In = refl
and_then_associates a b Out = refl
and_then_associates a b As_it_was = refl

and_then_first : (a : Says) → a ≡ then_says As_it_was a
and_then_first In = refl
and_then_first Out = refl
and_then_first As_it_was = refl

pub can_be_cut : CanBeCut
can_be_cut [] ys x = and_then_first (composition ys x)
can_be_cut (d ∷ xs) ys x =
    ap (then_says (says d x)) (can_be_cut xs ys x)
    ∙ sym (and_then_associates (says d x) (composition xs x) (composition ys x))

-- ---- a delta is what it says

plus_said : (p m : Bool) → p ≡ is_in_after (word p m) false
plus_said true m = refl
plus_said false true = refl
plus_said false false = refl

minus_said : (p m : Bool) → (m ≡ true → p ≡ false) → m ≡ not (is_in_after (word p m) true)
minus_said true true f = cc (f refl)
minus_said true false f = refl
minus_said false true f = refl
minus_said false false f = refl

pub say_the_same_are_equal : SayTheSameAreEqual
say_the_same_are_equal a b f g is =
    let plus =
    same_members a.plus b.plus f.plus g.plus
    (λ x.
    plus_said (has a.plus x) (has a.minus x)
    ∙ ap (λ w. is_in_after w false) (is x)
    ∙ sym (plus_said (has b.plus x) (has b.minus x))) in
    let minus =
    same_members a.minus b.minus f.minus g.minus
    (λ x.
    minus_said (has a.plus x) (has a.minus x) (f.apart x)
    ∙ ap (λ w. not (is_in_after w true)) (is x)
    ∙ sym (minus_said (has b.plus x) (has b.minus x) (g.apart x))) in
    λ i. record { minus = minus i; plus = plus i }

pub is_associative : IsAssociative
is_associative a b c f g h =
    let left = IsDelta-composed (composed a b) c (IsDelta-composed a b f g) h in
    let right = IsDelta-composed a (composed b c) f (IsDelta-composed b c g h) in
    say_the_same_are_equal (composed (composed a b) c) (composed a (composed b c)) left right
    (λ x.
    says-composed (composed a b) c x
    ∙ ap (λ w. then_says w (says c x)) (says-composed a b x)
    ∙ and_then_associates (says a x) (says b x) (says c x)
    ∙ ap (then_says (says a x)) (sym (says-composed b c x))
    ∙ sym (says-composed a (composed b c) x))

-- ---- what applying does

edited_by_word : (was m p : Bool) → edited was m p ≡ is_in_after (word p m) was
edited_by_word true true true = refl
edited_by_word true false true = refl
edited_by_word false m true = refl
edited_by_word true true false = refl
edited_by_word true false false = refl
edited_by_word false true false = refl
edited_by_word false false false = refl

pub decides_each_element : DecidesEachElement
decides_each_element d set x =
    has-edited set d.minus d.plus x ∙ edited_by_word (has set x) (has d.minus x) (has d.plus x)

pub IsSet-applied : (d : Delta) (set : List Element) → IsSet set → IsSet (applied d set)
IsSet-applied d set s = IsSet-edited set d.minus d.plus s

in_after_both : (a b : Says) (was : Bool) → is_in_after (then_says a b) was ≡ is_in_after b (is_in_after a was)
in_after_both a In was = refl
in_after_both a Out was = refl
in_after_both a As_it_was was = refl

pub has-applied_in_turn : (list : List Delta) (set : List Element) (x : Element) → has (applied_in_turn list set) x ≡ is_in_after (composition list x) (has set x)
has-applied_in_turn [] set x = refl
has-applied_in_turn (d ∷ later) set x =
    has-applied_in_turn later (applied d set) x
    ∙ ap (is_in_after (composition later x)) (decides_each_element d set x)
    ∙ sym (in_after_both (says d x) (composition later x) (has set x))

pub in_turn-append : (xs ys : List Delta) (set : List Element) → applied_in_turn (xs ++ ys) set ≡ applied_in_turn ys (applied_in_turn xs set)
in_turn-append [] ys set = refl
in_turn-append (d ∷ xs) ys set = in_turn-append xs ys (applied d set)

pub IsSet-applied_in_turn : (list : List Delta) (set : List Element) → IsSet set → IsSet (applied_in_turn list set)
IsSet-applied_in_turn [] set s = s
IsSet-applied_in_turn (d ∷ later) set s =
    IsSet-applied_in_turn later (applied d set) (IsSet-applied d set s)

pub applies_each_in_turn : AppliesEachInTurn
applies_each_in_turn d list set composes s =
    same_members (applied d set) (applied_in_turn list set) (IsSet-applied d set s) (IsSet-applied_in_turn list set s)
    (λ x.
    decides_each_element d set x
    ∙ ap (λ w. is_in_after w (has set x)) (composes x)
    ∙ sym (has-applied_in_turn list set x))

pub applies_one_after_the_other : AppliesOneAfterTheOther
applies_one_after_the_other d first later set composes s =
    applies_each_in_turn d (first ∷ later ∷ []) set composes s

between_leads : (a b : Bool) → edited a (a && not b) (b && not a) ≡ b
between_leads true true = refl
between_leads true false = refl
between_leads false true = refl
between_leads false false = refl

pub between_leads_on : BetweenLeadsOn
between_leads_on a b s t =
    same_members (applied (between a b) a) b (IsSet-applied (between a b) a s) t
    (λ x.
    let minus = has-without_all a b x in
    let plus = has-without_all b a x in
    has-edited a (without_all a b) (without_all b a) x
    ∙ (λ i. edited (has a x) (minus i) (plus i))
    ∙ between_leads (has a x) (has b x))

-- the exact delta reversed is the exact delta the other way
pub reversed_leads_back : ReversedLeadsBack
reversed_leads_back a b s t = between_leads_on b a t s
