-- What events put in, one after another, is the set of what they add.
use Rattle.std.proofs.Common.{◌≡◌, ℕ, List, [], ◌∷◌, ◌++◌, Option, Some, None, refl, ap, ◌∙◌}
use Rattle.std.specs.Option.{option_to_list}
use Rattle.dg_graph.specs.declared.element.Element.{Element}
use Rattle.dg_graph.specs.declared.event.Event.{Event}
use Rattle.dg_graph.specs.Elements.{with_one}
use Rattle.dg_graph.specs.Sets.{unioned}
use Rattle.dg_added.specs.PutIn.{one_put_within, put_within}
use Rattle.dg_added.specs.Additions.{added_between}

first_put : (o : Option Element) (xs : List Element) → unioned [] (option_to_list o ++ xs) ≡ with_one (unioned [] xs) o
first_put None xs = refl
first_put (Some x) xs = refl

pub added_is : (from until : ℕ) (events : List Event) → unioned [] (put_within from until events) ≡ added_between from until events
added_is from until [] = refl
added_is from until (e ∷ events) =
    first_put (one_put_within from until e) (put_within from until events)
    ∙ ap (λ set. with_one set (one_put_within from until e)) (added_is from until events)
