-- The set of what comes in, in the asked columns: what was put in, one after another, and the names of it.
use Rattle.std.proofs.Common.{◌≡◌, ℕ, ◌<◌, ◌||◌, ◌&&◌, Bool, true, false, cond, List as ListOf, [], ◌∷◌, ◌++◌, Option, Some, None, filter, refl, sym, ap, ◌∙◌, subst}
use Rattle.std.specs.Prelude.{IfSome, nat_eq}
use Rattle.std.specs.Option.{option_eq, option_map, option_or, option_to_list}
use Rattle.std.proofs.lemmas.Bool.{false≢true}
use Rattle.std.proofs.lemmas.List.Concat.{flat_map-append}
use Rattle.std.proofs.lemmas.List.Elements.{All-append, All-head, All-tail}
use Rattle.dg_added.specs.Additions.{added_between, lies_within, put_by}
use Rattle.dg_added.specs.PutIn.{one_put_within, put_within}
use Rattle.dg_added.proofs.PutIn.{added_is}
use Rattle.dg_graph.specs.Effect.{moved}
use Rattle.dg_graph.specs.Elements.{asks, column_of, has, put, same, shown, with_one}
use Rattle.dg_graph.specs.Sets.{unioned}
use Rattle.dg_graph.specs.declared.element.Columns.{Columns}
use Rattle.dg_graph.specs.declared.element.Element.{Element}
use Rattle.dg_graph.specs.declared.element.Element.TheVariants as element
use Rattle.dg_graph.specs.declared.event.Body.{Body}
use Rattle.dg_graph.specs.declared.event.Body.TheVariants as body
use Rattle.dg_graph.specs.declared.event.Event.{Event}
use Rattle.dg_graph.proofs.Sets.{IsSet-filter, IsSet-unioned, element_exact, has-filter, has-put, has-unioned, same_members}
use Rattle.dg_records.specs.EventNames.{BodyHasNamesThere, EventNamesAreThere}
use Rattle.dg_retrieval.specs.NamesThere.{HasNamesThere, NamesAreThere}

-- a part of a list, as a set, is that part of the set
pub part_of_set : (p : Element → Bool) (xs : ListOf Element) → unioned [] (filter p xs) ≡ filter p (unioned [] xs)
part_of_set p xs =
    same_members (unioned [] (filter p xs)) (filter p (unioned [] xs)) (IsSet-unioned [] (filter p xs) tt) (IsSet-filter p (unioned [] xs) (IsSet-unioned [] xs tt))
    (λ q. has-unioned [] (filter p xs) q ∙ has-filter p xs q ∙ ap (λ b. p q && b) (sym (has-unioned [] xs q)) ∙ sym (has-filter p (unioned [] xs) q))

-- what was put in of the events of the lists, and then of the recent ones
pub added_shown : (from until : ℕ) (cols : Columns) (events recent : ListOf Event) (old put all left : ListOf Element) → old ≡ [] → put ≡ old ++ put_within from until events → all ≡ put ++ put_within from until recent
    → left ≡ filter (λ x. asks cols (column_of x)) all → unioned [] left ≡ shown (added_between from until (events ++ recent)) cols
added_shown from until cols events recent old put all left none one two kept =
    ap (unioned []) (kept ∙ ap (filter (λ x. asks cols (column_of x))) (two ∙ ap (λ l. l ++ put_within from until recent) (one ∙ ap (λ l. l ++ put_within from until events) none)
    ∙ sym (flat_map-append (λ e. option_to_list (one_put_within from until e)) events recent)))
    ∙ part_of_set (λ x. asks cols (column_of x)) (put_within from until (events ++ recent))
    ∙ ap (filter (λ x. asks cols (column_of x))) (added_is from until (events ++ recent))

-- ---- names

moved_named : (names : ℕ) (make : ℕ → Element) (new old : Option ℕ) → ((n : ℕ) → n < names → HasNamesThere names (make n)) → IfSome new (λ n. n < names) → IfSome (option_or (moved make new old) None) (HasNamesThere names)
moved_named names make new old f h = by (option_eq nat_eq new old) new h
  where
    by : (b : Bool) (new : Option ℕ) → IfSome new (λ n. n < names) → IfSome (option_or (cond b None (option_map make new)) None) (HasNamesThere names)
    by true new h = tt
    by false None h = tt
    by false (Some n) h = f n h

put_named : (names : ℕ) (b : Body) → BodyHasNamesThere names b → IfSome (put_by b) (HasNamesThere names)
put_named names (body.NodeAdded id) h = tt
put_named names (body.NodeRemoved id) h = tt
put_named names (body.EdgeAdded directed id src dst) h = tt
put_named names (body.EdgeRemoved directed id src dst) h = tt
put_named names (body.NodeAttr key id old new) h = moved_named names (element.NodeAttr id key) new old (λ n lt. (h.0, lt)) h.2
put_named names (body.EdgeAttr key id old new) h = moved_named names (element.EdgeAttr id key) new old (λ n lt. (h.0, lt)) h.2
put_named names (body.Message src dst value) h = h

one_named : (names : ℕ) (set : ListOf Element) (o : Option Element) → IfSome o (HasNamesThere names) → NamesAreThere names set → NamesAreThere names (with_one set o)
one_named names set None h all = all
one_named names set (Some y) h all = λ x e. by x (same x y) refl (sym (has-put y set x) ∙ e)
  where
    by : (x : Element) (b : Bool) → same x y ≡ b → (same x y || has set x) ≡ true → HasNamesThere names x
    by x true is e = subst (HasNamesThere names) (sym (element_exact x y is)) h
    by x false is e = all x (sym (ap (λ b. b || has set x) is) ∙ e)

pub added_named : (names from until : ℕ) (events : ListOf Event) → EventNamesAreThere names events → NamesAreThere names (added_between from until events)
added_named names from until [] h = λ x e. absurd (false≢true e)
added_named names from until (e ∷ events) h =
    one_named names (added_between from until events) (one_put_within from until e) (by (lies_within from until e) (put_named names e.body (All-head (λ (e : Event). BodyHasNamesThere names e.body) e events h)))
    (added_named names from until events (All-tail (λ (e : Event). BodyHasNamesThere names e.body) e events h))
  where
    by : (b : Bool) → IfSome (put_by e.body) (HasNamesThere names) → IfSome (cond b (put_by e.body) None) (HasNamesThere names)
    by true h = h
    by false h = tt

-- a part of a set has names that are there too
pub shown_named : (names : ℕ) (cols : Columns) (set : ListOf Element) → NamesAreThere names set → NamesAreThere names (shown set cols)
shown_named names cols set all = λ x e. all x (right (asks cols (column_of x)) (has set x) (sym (has-filter (λ x. asks cols (column_of x)) set x) ∙ e))
  where
    right : (a b : Bool) → (a && b) ≡ true → b ≡ true
    right true b e = e
    right false b e = absurd (false≢true e)

pub set_named : (names from until : ℕ) (cols : Columns) (events recent : ListOf Event) (set : ListOf Element) → set ≡ shown (added_between from until (events ++ recent)) cols → EventNamesAreThere names events → EventNamesAreThere names recent → NamesAreThere names set
set_named names from until cols events recent set is h more =
    subst (NamesAreThere names) (sym is)
    (shown_named names cols (added_between from until (events ++ recent)) (added_named names from until (events ++ recent) (All-append (λ (e : Event). BodyHasNamesThere names e.body) events recent h more)))
