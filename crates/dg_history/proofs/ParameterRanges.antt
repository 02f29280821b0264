-- The ranges of the parameters of an index.
use Rattle.std.proofs.Common.{◌≡◌, ℕ, ◌<◌, ◌≤◌, true, nat_le, arith}
use Rattle.std.proofs.lemmas.Bool.{and_parts, leb-true}
use Rattle.dg_history.specs.declared.params.TheConstants.{LEAF_MIN, LEAF_MAX, ARITY_MIN, ARITY_MAX}
use Rattle.dg_history.specs.History.{are_parameters}

-- the leaf list size and the arity are in their ranges
pub record InRange (l k : ℕ) : Type 0 where
  pub list_some : 0 < l
  pub list_two : 2 ≤ l
  pub list_most : l ≤ 65536
  pub arity_some : 0 < k
  pub arity_two : 2 ≤ k
  pub arity_most : k ≤ 64

pub in_range : (l k : ℕ) → are_parameters l k ≡ true → InRange l k
in_range l k h =
    let a = and_parts (nat_le LEAF_MIN l) _ h in
    let b = and_parts (nat_le l LEAF_MAX) _ a.1 in
    let c = and_parts (nat_le ARITY_MIN k) (nat_le k ARITY_MAX) b.1 in
    let least = leb-true LEAF_MIN l a.0 in
    let wide = leb-true ARITY_MIN k c.0 in
    record {
      list_some = omega (arith, least);
      list_two = least;
      list_most = leb-true l LEAF_MAX b.0;
      arity_some = omega (arith, wide);
      arity_two = wide;
      arity_most = leb-true k ARITY_MAX c.1;
    }
