-- A set that stands in the middle of other items, changed where it stands.
--     closed      what is left of a part, once the gap in it is closed
--     before_part, part_itself      what stands in front of a part, and the part itself
use Rattle.std.proofs.Common.{◌≡◌, ℕ, ◌+◌, ◌-◌, ◌≤◌, List, ◌++◌, length, take, drop, append_assoc, sym, ap, ◌∙◌, arith}
use Rattle.std.proofs.lemmas.List.{take-take, take_at, take-append-le, length-take-le, length-drop, drop-drop, drop_at, drop-append-le}
use Rattle.std.proofs.lemmas.Slice.{between_is}
use borrow.Rule.Slice.PartMut.{put_mid, post_of, take_put}
use Rattle.dg_graph.specs.declared.element.Element.{Element}
use Rattle.dg_set.proofs.SetReplacements.{few_and_more}

-- the part from `start` to `stop` has been written, and what stands in it from `j` on has been moved down to `i`
module _ (cells part moved : List Element) (start many stop i j : ℕ) (within : start ≤ length cells) (whole : stop ≡ start + length part) (down : i ≤ j) (in_part : j ≤ length part) where
  abbrev written : List Element
  written = put_mid start many cells part

  abbrev rest : List Element
  rest = post_of start many cells

  from_start : drop start written ≡ part ++ rest
  from_start = drop_at (take start cells) (part ++ rest) start (length-take-le start cells within)

  front : take (start + i) written ≡ take start cells ++ take i part
  front =
      let is : start + i - start ≡ i = omega arith in
      sym (few_and_more written start (start + i) (omega arith))
      ∙ (λ t. take_put start many cells part within t ++ take (is t) (from_start t))
      ∙ ap (λ l. take start cells ++ l) (take-append-le i part rest (omega arith))

  back : take (stop - (start + j)) (drop (start + j) written) ≡ drop j part
  back =
      ap (take (stop - (start + j))) (sym (drop-drop j start written) ∙ ap (drop j) from_start ∙ drop-append-le j part rest in_part)
      ∙ take_at (drop j part) rest (stop - (start + j)) (omega (arith, length-drop j part))

  pub closed : take (start + i + (stop - (start + j))) moved ≡ take (start + i) written ++ take (stop - (start + j)) (drop (start + j) written) → take (stop - (j - i)) moved ≡ take start cells ++ (take i part ++ drop j part)
  closed was =
      let is : stop - (j - i) ≡ start + i + (stop - (start + j)) = omega arith in
      ap (λ n. take n moved) is
      ∙ was
      ∙ (λ t. front t ++ back t)
      ∙ append_assoc (take start cells) (take i part) (drop j part)

-- the items as far as `stop` are those of `cells` as far as `start`, and then the part
module _ (cells part now : List Element) (start stop : ℕ) (order : start ≤ stop) (within : start ≤ length cells) (as_far : take stop now ≡ take start cells ++ part) where
  pub before_part : take start now ≡ take start cells
  before_part =
      sym (take-take start stop now order)
      ∙ ap (take start) as_far
      ∙ take_at (take start cells) part start (length-take-le start cells within)

  pub part_itself : take (stop - start) (drop start now) ≡ part
  part_itself =
      between_is now start stop
      ∙ ap (drop start) as_far
      ∙ drop_at (take start cells) part start (length-take-le start cells within)
