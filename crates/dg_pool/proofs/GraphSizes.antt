-- How many elements a graph of the pool has.
use Rattle.std.proofs.Common.{arith, ◌≡◌, ℕ, suc, ◌+◌, Bool, true, false, cond, ◌||◌, ◌&&◌, List, [], ◌∷◌, Option, Some, None, length, refl, sym, ap, ◌∙◌, ◌⊎◌, inl, inr}
use Rattle.std.specs.declared.cmp.Ordering.TheVariants.{Less, Equal, Greater}
use Rattle.std.specs.Ordering.{is_eq}
use Rattle.std.specs.List.{count_by}
use Rattle.std.proofs.lemmas.Bool.{true≢false}
use Rattle.std.proofs.lemmas.List.Sums.{sum_by-cons}
use Rattle.dg_graph.specs.declared.element.Element.{Element}
use Rattle.dg_graph.specs.Elements.{has, put, with_one, same, element_cmp}
use Rattle.dg_graph.proofs.Sets.{put_by, element_exact, same_members}
use Rattle.dg_cells.specs.Rows.{Row, cell_at, CellsAreApart, Lacks}
use Rattle.dg_pool.specs.Graphs.{picked, PoolState, AreSlots}
use Rattle.dg_pool.specs.Sweeps.{passes_test, is_needed, union_of}
use Rattle.dg_pool.proofs.SweepUnions.{union_decides, union_lacks, IsSet-union_of}
use Rattle.dg_pool.proofs.GraphInvariant.{row_or_none}
use Rattle.dg_pool.proofs.GraphSets.{picked_lacks, gives, picked_set, picked_decides, picked_nothing}

right : (a b : Bool) → (a || b) ≡ false → b ≡ false
right true b e = cc
right false b e = e

left : (a b : Bool) → (a || b) ≡ false → a ≡ false
left true b e = cc
left false b e = refl

pub length-put : (x : Element) (set : List Element) → has set x ≡ false → length (put x set) ≡ suc (length set)
length-put x [] e = refl
length-put x (y ∷ set) e =
    elim (element_cmp x y) as (λ o. element_cmp x y ≡ o → length (put_by o x y set) ≡ suc (suc (length set))) [
      | Less ↦ λ p. refl
      | Equal ↦ λ p. absurd (true≢false (sym (ap is_eq p) ∙ left (same x y) (has set x) e))
      | Greater ↦ λ p. ap suc (length-put x set (right (same x y) (has set x) e))
    ] refl

apart_tail : (o : Option Row) (rows : List (Option Row)) → CellsAreApart (o ∷ rows) → CellsAreApart rows
apart_tail o rows apart i j r q e f same = let tied = apart (suc i) (suc j) r q e f same in omega arith

alone : (test : Row → Bool) (r : Row) (rows : List (Option Row)) → CellsAreApart (Some r ∷ rows) → has (picked test rows) r.element ≡ false
alone test r rows apart = picked_lacks test rows r.element (λ n. at n (cell_at rows n) refl)
  where
    at : (n : ℕ) (o : Option Row) → cell_at rows n ≡ o → gives test r.element (cell_at rows n) ≡ false
    at n None e = ap (gives test r.element) e
    at n (Some q) e = ap (gives test r.element) e ∙ by (test q) (same r.element q.element) refl
      where
        by : (t s : Bool) → same r.element q.element ≡ s → (t && s) ≡ false
        by false s f = refl
        by true false f = refl
        by true true f = let tied = apart 0 (suc n) r q refl e (element_exact r.element q.element f) in absurd (omega arith)

pub length-picked : (test : Row → Bool) (rows : List (Option Row)) → CellsAreApart rows → length (picked test rows) ≡ count_by (passes_test test) rows
length-picked test [] apart = refl
length-picked test (None ∷ rows) apart =
    length-picked test rows (apart_tail None rows apart)
length-picked test (Some r ∷ rows) apart =
    at (test r) (length-picked test rows (apart_tail (Some r) rows apart)) ∙ sym (sum_by-cons (λ (o : Option Row). cond (passes_test test o) 1 0) (Some r) rows)
  where
    at : (t : Bool) → length (picked test rows) ≡ count_by (passes_test test) rows → length (with_one (picked test rows) (cond t (Some r.element) None)) ≡ cond t 1 0 + count_by (passes_test test) rows
    at true e = let more = length-put r.element (picked test rows) (alone test r rows apart) in omega arith
    at false e = omega arith

-- the union is what the needed cells give
pub union_is : (p : PoolState) → AreSlots p.slots → CellsAreApart p.rows → union_of p ≡ picked (is_needed p.slots) p.rows
union_is p fit apart =
    same_members (union_of p) (picked (is_needed p.slots) p.rows) (IsSet-union_of p) (picked_set (is_needed p.slots) p.rows) (λ x. at x (row_or_none p.rows x))
  where
    at : (x : Element) → ((n : ℕ) × (r : Row) × (cell_at p.rows n ≡ Some r) × (r.element ≡ x)) ⊎ Lacks p.rows x → has (union_of p) x ≡ has (picked (is_needed p.slots) p.rows) x
    at x (inl f) =
        ap (has (union_of p)) (sym f.3) ∙ union_decides p fit apart f.0 f.1 f.2
        ∙ sym (picked_decides (is_needed p.slots) p.rows x f.0 f.1 apart f.2 f.3)
    at x (inr lacks) = union_lacks p x lacks ∙ sym (picked_nothing (is_needed p.slots) p.rows x lacks)
