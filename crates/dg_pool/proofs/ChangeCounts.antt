-- The counts of slots that change together at one element.
use Rattle.std.proofs.Common.{arith, ◌≡◌, ℕ, ◌+◌, ◌<◌, ◌≤◌, Bool, true, false, cond, not, ◌||◌, ◌&&◌, List, Option, Some, length, filter, refl, sym, ap, ◌∙◌, subst, ◌⊎◌, inl, inr}
use mathlib.Core.Bool.{beq}
use Rattle.std.proofs.lemmas.Bool.{true≢false}
use Rattle.std.proofs.lemmas.List.Sums.{length-filter, count_by-le-length}
use Rattle.dg_graph.specs.declared.element.Element.{Element}
use Rattle.dg_graph.specs.Elements.{IsSet, has, same, put, take_out}
use Rattle.dg_graph.proofs.Sets.{same_members, has-filter, IsSet-filter, IsSet-put, has-put, IsSet-take_out, has-take_out, element_exact}
use Rattle.dg_cells.specs.Rows.{Row, cell_at, CellsAreApart, Lacks}
use Rattle.dg_query.specs.declared.answers.Counts.{Counts}
use Rattle.dg_query.specs.Queries.{counts_of}
use Rattle.dg_pool.specs.Graphs.{picked}
use Rattle.dg_pool.specs.Counts.{kind_count, one_more, one_less}
use Rattle.dg_pool.specs.Changes.{recounted, CanRecount}
use Rattle.dg_pool.proofs.GraphSets.{picked_set, picked_decides, picked_nothing}
use Rattle.dg_pool.proofs.GraphInvariant.{row_or_none}
use Rattle.dg_pool.proofs.GraphCounts.{counts-put, counts-take_out, kind-one_more, kind-most, kind-least, picked_most}

-- ---- of one slot

pub recount_moved : (had on : Bool) (x : Element) (c : Counts) → not (beq had on) ≡ true → cond on (one_more c x) (one_less c x) ≡ recounted had on x c
recount_moved true true x c e = cc
recount_moved true false x c e = refl
recount_moved false true x c e = refl
recount_moved false false x c e = cc

pub recount_stays : (had on : Bool) (x : Element) (c : Counts) → not (beq had on) ≡ false → c ≡ recounted had on x c
recount_stays true true x c e = refl
recount_stays true false x c e = cc
recount_stays false true x c e = cc
recount_stays false false x c e = refl

pub moved_more : (had on : Bool) (x : Element) (c : Counts) → CanRecount had on x c → not (beq had on) ≡ true → on ≡ true → kind_count c x + 1 < 18446744073709551616
moved_more true true x c f e g = cc
moved_more true false x c f e g = cc
moved_more false true x c f e g = f.more refl refl
moved_more false false x c f e g = cc

pub moved_less : (had on : Bool) (x : Element) (c : Counts) → CanRecount had on x c → not (beq had on) ≡ true → on ≡ false → 1 ≤ kind_count c x
moved_less true true x c f e g = cc
moved_less true false x c f e g = f.less refl refl
moved_less false true x c f e g = cc
moved_less false false x c f e g = cc

-- ---- the counts of a set that has the element then, or lacks it

module _ (x : Element) (old new : List Element) (old_set : IsSet old) (new_set : IsSet new) where
  pub recounted_set : (had on : Bool) → has old x ≡ had → ((y : Element) → has new y ≡ cond (same y x) on (has old y)) → recounted had on x (counts_of old) ≡ counts_of new
  recounted_set true true e f = ap counts_of (sym (same_members new old new_set old_set (λ y. f y ∙ by y (same y x) refl)))
    where
      by : (y : Element) (t : Bool) → same y x ≡ t → cond t true (has old y) ≡ has old y
      by y true k = sym (ap (has old) (element_exact y x k) ∙ e)
      by y false k = refl
  recounted_set true false e f =
      sym (counts-take_out x old old_set e)
      ∙ ap counts_of (sym (same_members new (take_out x old) new_set (IsSet-take_out x old old_set) (λ y. f y ∙ by (same y x) (has old y) ∙ sym (has-take_out x old y))))
    where
      by : (t h : Bool) → cond t false h ≡ (not t && h)
      by true h = refl
      by false h = refl
  recounted_set false true e f =
      sym (counts-put x old e)
      ∙ ap counts_of (sym (same_members new (put x old) new_set (IsSet-put x old old_set) (λ y. f y ∙ by (same y x) (has old y) ∙ sym (has-put x old y))))
    where
      by : (t h : Bool) → cond t true h ≡ (t || h)
      by true h = refl
      by false h = refl
  recounted_set false false e f = ap counts_of (sym (same_members new old new_set old_set (λ y. f y ∙ by y (same y x) refl)))
    where
      by : (y : Element) (t : Bool) → same y x ≡ t → cond t false (has old y) ≡ has old y
      by y true k = sym (ap (has old) (element_exact y x k) ∙ e)
      by y false k = refl

-- ---- no graph has more elements than there are cells

-- a set whose elements all have cells has no more of them than there are cells
most_cells : (elements : List Element) (rows : List (Option Row)) → IsSet elements → ((x : Element) → has elements x ≡ true → has (picked (λ (r : Row). true) rows) x ≡ true) → length elements ≤ length rows
most_cells elements rows s inside =
    let all = picked (λ (r : Row). true) rows in
    let is : elements ≡ filter (λ x. has elements x) all =
    same_members elements (filter (λ x. has elements x) all) s (IsSet-filter (λ x. has elements x) all (picked_set (λ (r : Row). true) rows))
    (λ x. both (has elements x) (has all x) (inside x) ∙ sym (has-filter (λ y. has elements y) all x)) in
    let a = ap length is in
    let b = length-filter (λ x. has elements x) all in
    let c = count_by-le-length (λ x. has elements x) all in
    let e = picked_most (λ (r : Row). true) rows in
    omega arith
  where
    both : (a b : Bool) → (a ≡ true → b ≡ true) → a ≡ (a && b)
    both true b f = sym (f refl)
    both false b f = refl

-- the counts of the graph that a test picks can be kept when the element of a cell comes or goes
module _ (test : Row → Bool) (rows : List (Option Row)) (n : ℕ) (r : Row) (apart : CellsAreApart rows) (there : cell_at rows n ≡ Some r) where
  had : has (picked test rows) r.element ≡ test r
  had = picked_decides test rows r.element n r apart there refl

  inside : (y : Element) → has (put r.element (picked test rows)) y ≡ true → has (picked (λ (z : Row). true) rows) y ≡ true
  inside y e = at (row_or_none rows y)
    where
      at : ((m : ℕ) × (q : Row) × (cell_at rows m ≡ Some q) × (q.element ≡ y)) ⊎ Lacks rows y → has (picked (λ (z : Row). true) rows) y ≡ true
      at (inl f) = picked_decides (λ (z : Row). true) rows y f.0 f.1 apart f.2 f.3
      at (inr lacks) =
          absurd (true≢false (sym e ∙ has-put r.element (picked test rows) y ∙ (λ i. lacks n r there i || picked_nothing test rows y lacks i)))

  pub can_recount : (counts : Counts) (on : Bool) → length rows < 18446744073709551616 → counts ≡ counts_of (picked test rows) → CanRecount (test r) on r.element counts
  can_recount counts on room is = record {
    more = λ lacks _.
        let x = r.element in
        let members = picked test rows in
        let count : kind_count (counts_of (put x members)) x ≡ kind_count counts x + 1 =
        ap (λ z. kind_count z x) (counts-put x members (had ∙ lacks)) ∙ kind-one_more (counts_of members) x ∙ ap (λ z. kind_count z x + 1) (sym is) in
        let most = kind-most (put x members) x in
        let cells = most_cells (put x members) rows (IsSet-put x members (picked_set test rows)) inside in
        omega arith;
    less = λ there_it _. subst (λ z. 1 ≤ kind_count z r.element) (sym is) (kind-least r.element (picked test rows) (picked_set test rows) (had ∙ there_it));
  }
