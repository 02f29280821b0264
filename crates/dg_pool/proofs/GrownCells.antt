-- New cells, which have no bit.
use Rattle.std.proofs.Common.{◌*◌, ◌≡◌, ℕ, ◌+◌, Bool, true, false, cond, ◌||◌, ◌&&◌, List, Option, Some, None, refl, sym, ap, ◌∙◌, subst}
use Rattle.dg_graph.specs.declared.element.Element.{Element}
use Rattle.dg_graph.specs.declared.element.Columns.{Columns}
use Rattle.dg_graph.specs.Elements.{asks, column_of}
use Rattle.dg_graph.specs.Composition.{Delta}
use Rattle.dg_delta.specs.Deltas.{is_in_after}
use Rattle.dg_cells.specs.Rows.{Row, cell_at, is_current, pair, CellsAreApart, HasCell, CellsGrow, IsBare}
use Rattle.dg_query.specs.declared.answers.Counts.{Counts}
use Rattle.dg_pool.specs.declared.slots.Base.{Base}
use Rattle.dg_pool.specs.declared.slots.Base.TheVariants as base
use Rattle.dg_pool.specs.declared.slots.SlotState.{SlotState}
use Rattle.dg_pool.specs.declared.slots.SlotState.TheVariants as state
use Rattle.dg_pool.specs.Graphs.{PoolState, SameGraphs, IsClean, slot_at, pair_at, pair_says, in_base, in_slot, given, picked, graph_as}
use Rattle.dg_pool.specs.Counts.{IsCountedPool}
use Rattle.dg_pool.specs.Changes.{NamesNew, names}
use Rattle.dg_pool.proofs.GraphSets.{picked_alike}
use Rattle.dg_pool.proofs.CountPreservation.{counted_still}

pub grows_then : (a b c : List (Option Row)) → CellsGrow a b → CellsGrow b c → CellsGrow a c
grows_then a b c f g = record {
  kept = λ n r e. g.kept n r (f.kept n r e);
  bare = λ n r e h. at n r e h (cell_at b n) refl;
}
  where
    at : (n : ℕ) (r : Row) → cell_at a n ≡ None → cell_at c n ≡ Some r → (o : Option Row) → cell_at b n ≡ o → IsBare r
    at n r e h None k = g.bare n r k h
    at n r e h (Some q) k =
        let one : Some q ≡ Some r = sym (g.kept n q k) ∙ h in
        let tied : q ≡ r = cc in
        subst IsBare tied (f.bare n q e k)

pub has_grown : (a b : List (Option Row)) → CellsGrow a b → (x : Element) → HasCell a x → HasCell b x
has_grown a b g x h = (h.0, record { row = h.1.row; there = g.kept h.0 h.1.row h.1.there; element = h.1.element })

-- ---- the graphs

bare_pair : (r : Row) → IsBare r → (s : ℕ) → pair s r ≡ (false, false)
bare_pair r bare s = let a = bare (2 * s) in let b = bare (2 * s + 1) in λ i. (a i, b i)

bare_slot : (r : Row) → IsBare r → (s : ℕ) (b : Base) (cols : Columns) → in_slot s b cols r ≡ false
bare_slot r bare s b cols = ap (λ p. asks cols (column_of r.element) && is_in_after (pair_says p) (in_base b r)) (bare_pair r bare s) ∙ at (asks cols (column_of r.element)) (in_base b r) (by b)
  where
    by : (b : Base) → in_base b r ≡ false
    by base.Nothing = refl
    by base.Now = bare 0
    by (base.Slot o) = ap (λ p. is_in_after (pair_says p) false) (bare_pair r bare o.0)

    at : (a t : Bool) → t ≡ false → (a && t) ≡ false
    at true t e = e
    at false t e = refl

grown_given : (test : Row → Bool) → ((r : Row) → IsBare r → test r ≡ false) → (old new : List (Option Row)) → CellsGrow old new → (n : ℕ) → given test (cell_at new n) ≡ given test (cell_at old n)
grown_given test none old new g n = at (cell_at old n) refl (cell_at new n) refl
  where
    at : (o : Option Row) → cell_at old n ≡ o → (q : Option Row) → cell_at new n ≡ q → given test (cell_at new n) ≡ given test (cell_at old n)
    at (Some r) e q f = ap (given test) (g.kept n r e ∙ sym e)
    at None e None f = ap (given test) (f ∙ sym e)
    at None e (Some q) f = ap (given test) f ∙ ap (λ t. cond t (Some q.element) None) (none q (g.bare n q e f)) ∙ sym (ap (given test) e)

pub grown_now : (old new : List (Option Row)) → CellsGrow old new → picked is_current new ≡ picked is_current old
grown_now old new g = picked_alike is_current new old (grown_given is_current (λ r bare. bare 0) old new g)

pub grown_seen : (old new : List (Option Row)) → CellsGrow old new → (s : ℕ) (slot : SlotState) → graph_as new s slot ≡ graph_as old s slot
grown_seen old new g s state.Free = refl
grown_seen old new g s (state.Released swept) = refl
grown_seen old new g s (state.Live b cols) =
    ap (λ m. Some (record { base = b; cols = cols; members = m })) (picked_alike (in_slot s b cols) new old (grown_given (in_slot s b cols) (λ r bare. bare_slot r bare s b cols) old new g))

-- ---- the bits

pub grown_pairs : (old new : List (Option Row)) → CellsGrow old new → (s n : ℕ) → pair_at s (cell_at new n) ≡ pair_at s (cell_at old n)
grown_pairs old new g s n = at (cell_at old n) refl (cell_at new n) refl
  where
    at : (o : Option Row) → cell_at old n ≡ o → (q : Option Row) → cell_at new n ≡ q → pair_at s (cell_at new n) ≡ pair_at s (cell_at old n)
    at (Some r) e q f = ap (pair_at s) (g.kept n r e ∙ sym e)
    at None e None f = ap (pair_at s) (f ∙ sym e)
    at None e (Some q) f = ap (pair_at s) f ∙ bare_pair q (g.bare n q e f) s ∙ sym (ap (pair_at s) e)

-- explicit bits of cells that grew first
pub grown_names : (d : Delta) (old grown new : List (Option Row)) → CellsGrow old grown → NamesNew d grown new → NamesNew d old new
grown_names d old grown new g named s n r one e h = ap (λ (p : Bool × Bool). p.0 || names d r.element) (sym (grown_pairs old grown g s n)) ∙ named s n r one e h

grown_clean : (old new : List (Option Row)) → CellsGrow old new → (sweep_index s : ℕ) (slot : SlotState) → IsClean old sweep_index s slot → IsClean new sweep_index s slot
grown_clean old new g sweep_index s state.Free k = λ n. grown_pairs old new g s n ∙ k n
grown_clean old new g sweep_index s (state.Released true) k = λ n h. grown_pairs old new g s n ∙ k n h
grown_clean old new g sweep_index s (state.Released false) k = tt
grown_clean old new g sweep_index s (state.Live b cols) k = tt

-- ---- the pool

module _ (p : PoolState) (new : List (Option Row)) (g : CellsGrow p.rows new) where
  abbrev grown : PoolState
  grown = record { rows = new; slots = p.slots; sweep_index = p.sweep_index }

  pub grown_graphs : SameGraphs p grown
  grown_graphs = record { now = grown_now p.rows new g; slots = λ s. grown_seen p.rows new g s (slot_at p.slots s) }

  pub grown_pool : (counts : List Counts) → CellsAreApart new → IsCountedPool p counts → IsCountedPool grown counts
  grown_pool counts apart k = record {
    pool = record {
      slots = k.pool.slots;
      apart = apart;
      clean = λ s h. grown_clean p.rows new g p.sweep_index s (slot_at p.slots s) (k.pool.clean s h);
    };
    counted = counted_still p grown counts grown_graphs k.counted;
  }
