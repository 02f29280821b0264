-- Deltas one behind another: what stands in front of a height, and what behind it.
--     joined_associates, joined_nothing      it does not matter which two of three are put behind one another first, and nothing adds nothing
--     lower_joined, upper_joined      the deltas below the one on top, and the one on top
--     lower_below, upper_lower      the deltas below the two on top, and the first of these two
use Rattle.std.proofs.Common.{◌≡◌, length, append_assoc, refl, ap, ◌∙◌}
use Rattle.std.proofs.lemmas.List.{append-nil, take_at, drop_at}
use Rattle.dg_graph.specs.Composition.{Delta, nothing}
use Rattle.dg_delta.specs.Deltas.{joined}
use Rattle.dg_delta.specs.Stacks.{height_of, lower, upper}

pub joined_associates : (a b c : Delta) → joined (joined a b) c ≡ joined a (joined b c)
joined_associates a b c = λ i. record {
  minus = append_assoc a.minus b.minus c.minus i;
  plus = append_assoc a.plus b.plus c.plus i;
}

pub joined_nothing : (d : Delta) → joined d nothing ≡ d
joined_nothing d = λ i. record { minus = append-nil d.minus i; plus = append-nil d.plus i }

pub lower_joined : (c d : Delta) → lower (height_of c) (joined c d) ≡ c
lower_joined c d = λ i. record {
  minus = take_at c.minus d.minus (length c.minus) refl i;
  plus = take_at c.plus d.plus (length c.plus) refl i;
}

pub upper_joined : (c d : Delta) → upper (height_of c) (joined c d) ≡ d
upper_joined c d = λ i. record {
  minus = drop_at c.minus d.minus (length c.minus) refl i;
  plus = drop_at c.plus d.plus (length c.plus) refl i;
}

pub lower_below : (c a b : Delta) → lower (height_of c) (joined (joined c a) b) ≡ c
lower_below c a b =
    ap (lower (height_of c)) (joined_associates c a b) ∙ lower_joined c (joined a b)

pub upper_lower : (c a b : Delta) → upper (height_of c) (lower (height_of (joined c a)) (joined (joined c a) b)) ≡ a
upper_lower c a b = ap (upper (height_of c)) (lower_joined (joined c a) b) ∙ upper_joined c a
