-- The graph of a slot after one delta and then another.
use Rattle.std.proofs.Common.{◌≡◌, Bool, true, false, cond, ◌||◌, ◌&&◌, List, [], ◌∷◌, ◌++◌, Option, Some, None, refl, sym, ap, ◌∙◌}
use Rattle.std.specs.Option.{option_map}
use Rattle.std.proofs.lemmas.List.Folds.{list_any-append}
use Rattle.std.proofs.Math.Bool.{or-false}
use Rattle.dg_graph.specs.declared.element.Element.{Element}
use Rattle.dg_graph.specs.declared.element.Columns.{Columns}
use Rattle.dg_graph.specs.Elements.{IsSet, has, same, asks, column_of, shown}
use Rattle.dg_graph.specs.Composition.{Delta, Says, In, Out, As_it_was, says, then_says, applied}
use Rattle.dg_graph.proofs.Sets.{same_members, has-filter, IsSet-filter}
use Rattle.dg_delta.specs.Deltas.{is_in_after}
use Rattle.dg_delta.proofs.Deltas.{decides_each_element, IsSet-applied}
use Rattle.dg_pool.specs.Graphs.{SlotGraph}
use Rattle.dg_pool.specs.Sweeps.{members_as}
use Rattle.dg_pool.specs.Changes.{graph_after, names, one_sided}

pub has-after : (d : Delta) (members : List Element) (cols : Columns) (x : Element) → has (shown (applied d members) cols) x ≡ (asks cols (column_of x) && is_in_after (says d x) (has members x))
has-after d members cols x =
    has-filter (λ y. asks cols (column_of y)) (applied d members) x ∙ ap (λ t. asks cols (column_of x) && t) (decides_each_element d members x)

pub IsSet-after : (d : Delta) (members : List Element) (cols : Columns) → IsSet members → IsSet (shown (applied d members) cols)
IsSet-after d members cols s = IsSet-filter (λ y. asks cols (column_of y)) (applied d members) (IsSet-applied d members s)

-- a delta that changes nothing of a set in the columns
pub after_same : (d : Delta) (members : List Element) (cols : Columns) → IsSet members → ((x : Element) → has members x ≡ true → asks cols (column_of x) ≡ true) → ((x : Element) → is_in_after (says d x) (has members x) ≡ has members x) → shown (applied d members) cols ≡ members
after_same d members cols s asked same_as =
    same_members (shown (applied d members) cols) members (IsSet-after d members cols s) s
    (λ x. has-after d members cols x ∙ ap (λ t. asks cols (column_of x) && t) (same_as x) ∙ both (asks cols (column_of x)) (has members x) (asked x))
  where
    both : (a b : Bool) → (b ≡ true → a ≡ true) → (a && b) ≡ b
    both true b f = refl
    both false true f = f refl
    both false false f = refl

once : (a : Bool) (w : Says) (t : Bool) → (a && is_in_after w (a && t)) ≡ (a && is_in_after w t)
once true w t = refl
once false w t = refl

-- a set that is cut to the columns first
pub after_shown : (d : Delta) (members : List Element) (cols : Columns) → IsSet members → shown (applied d (shown members cols)) cols ≡ shown (applied d members) cols
after_shown d members cols s =
    same_members (shown (applied d (shown members cols)) cols) (shown (applied d members) cols)
    (IsSet-after d (shown members cols) cols (IsSet-filter (λ y. asks cols (column_of y)) members s)) (IsSet-after d members cols s)
    (λ x.
    has-after d (shown members cols) cols x
    ∙ ap (λ t. asks cols (column_of x) && is_in_after (says d x) t) (has-filter (λ y. asks cols (column_of y)) members x)
    ∙ once (asks cols (column_of x)) (says d x) (has members x)
    ∙ sym (has-after d members cols x))

-- a delta that does what one and then another does
pub record IsThen (first later both : Delta) : Type 0 where
  pub said : (x : Element) → then_says (says first x) (says later x) ≡ says both x
  pub named : (x : Element) → (names first x || names later x) ≡ names both x

module _ (first later both : Delta) (is_then : IsThen first later both) where
  -- a later word decides
  then_after : (a b : Says) (was : Bool) → is_in_after b (is_in_after a was) ≡ is_in_after (then_says a b) was
  then_after a In was = refl
  then_after a Out was = refl
  then_after a As_it_was was = refl

  members_then : (members : List Element) (cols : Columns) → IsSet members → shown (applied later (shown (applied first members) cols)) cols ≡ shown (applied both members) cols
  members_then members cols s =
      same_members (shown (applied later (shown (applied first members) cols)) cols) (shown (applied both members) cols)
      (IsSet-after later (shown (applied first members) cols) cols (IsSet-after first members cols s)) (IsSet-after both members cols s)
      (λ x.
      has-after later (shown (applied first members) cols) cols x
      ∙ ap (λ t. asks cols (column_of x) && is_in_after (says later x) t) (has-after first members cols x)
      ∙ once (asks cols (column_of x)) (says later x) (is_in_after (says first x) (has members x))
      ∙ ap (λ t. asks cols (column_of x) && t) (then_after (says first x) (says later x) (has members x) ∙ ap (λ w. is_in_after w (has members x)) (is_then.said x))
      ∙ sym (has-after both members cols x))

  pub graph_then : (o : Option SlotGraph) → IsSet (members_as o) → option_map (graph_after later) (option_map (graph_after first) o) ≡ option_map (graph_after both) o
  graph_then None s = refl
  graph_then (Some g) s = ap (λ m. Some (record { base = g.base; cols = g.cols; members = m })) (members_then g.members g.cols s)

-- ---- deltas of one side

push_in : (a b : Bool) → then_says (cond a In As_it_was) (cond b In As_it_was) ≡ cond (a || b) In As_it_was
push_in true true = refl
push_in true false = refl
push_in false true = refl
push_in false false = refl

push_out : (a b : Bool) → then_says (cond a Out As_it_was) (cond b Out As_it_was) ≡ cond (a || b) Out As_it_was
push_out true true = refl
push_out true false = refl
push_out false true = refl
push_out false false = refl

-- with one element more
pub more_sided : (own : Bool) (xs all : List Element) (y : Element) → all ≡ xs ++ y ∷ [] → IsThen (one_sided own xs) (one_sided own (y ∷ [])) (one_sided own all)
more_sided true xs all y more = record {
  said = λ x. push_in (has xs x) (has (y ∷ []) x) ∙ ap (λ t. cond t In As_it_was) (sym (ap (λ l. has l x) more ∙ list_any-append (same x) xs (y ∷ [])));
  named = λ x. sym (ap (λ l. has l x) more ∙ list_any-append (same x) xs (y ∷ []));
}
more_sided false xs all y more = record {
  said = λ x. push_out (has xs x) (has (y ∷ []) x) ∙ ap (λ t. cond t Out As_it_was) (sym (ap (λ l. has l x) more ∙ list_any-append (same x) xs (y ∷ [])));
  named = λ x.
      (λ i. or-false (has xs x) i || or-false (has (y ∷ []) x) i)
      ∙ sym (or-false (has all x) ∙ ap (λ l. has l x) more ∙ list_any-append (same x) xs (y ∷ []));
}

-- a delta takes out, and then puts in
pub both_sides : (d : Delta) → IsThen (one_sided false d.minus) (one_sided true d.plus) d
both_sides d = record {
  said = λ x. out_in (has d.minus x) (has d.plus x);
  named = λ x. ap (λ t. t || has d.plus x) (or-false (has d.minus x));
}
  where
    out_in : (m p : Bool) → then_says (cond m Out As_it_was) (cond p In As_it_was) ≡ cond p In (cond m Out As_it_was)
    out_in true true = refl
    out_in true false = refl
    out_in false true = refl
    out_in false false = refl

-- what one of them does to an element
pub sided_has : (own : Bool) (x y : Element) (was : Bool) → is_in_after (says (one_sided own (x ∷ [])) y) was ≡ cond (same y x) own was
sided_has true x y was = at (same y x)
  where
    at : (t : Bool) → is_in_after (cond (t || false) In As_it_was) was ≡ cond t true was
    at true = refl
    at false = refl
sided_has false x y was = at (same y x)
  where
    at : (t : Bool) → is_in_after (cond (t || false) Out As_it_was) was ≡ cond t false was
    at true = refl
    at false = refl

-- no element changes nothing
pub no_side : (own : Bool) (x : Element) (was : Bool) → is_in_after (says (one_sided own []) x) was ≡ was
no_side true x was = refl
no_side false x was = refl

pub sided_names : (own : Bool) (x : Element) → has (x ∷ []) x ≡ true → names (one_sided own (x ∷ [])) x ≡ true
sided_names true x e = e
sided_names false x e = or-false (has (x ∷ []) x) ∙ e
