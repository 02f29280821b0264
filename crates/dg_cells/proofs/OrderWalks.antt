-- What the walk that gives rising elements their cells has done so far.
use Rattle.dg_cells.proofs.OrderEdits.{listed_written}
use Rattle.std.proofs.Common.{arith, ◌≡◌, ℕ, ◌+◌, ◌-◌, ◌<◌, ◌≤◌, ◌++◌, ◌∷◌, [], Bool, true, false, cond, List, Option, Some, None, take, drop, length, get_or, refl, sym, ap, ◌∙◌, subst, ◌⊎◌, inl, inr}
use Rattle.std.proofs.lemmas.Bool.{cases_eq}
use Rattle.std.proofs.lemmas.List.{get_or_default}
use Rattle.dg_graph.specs.declared.element.Element.{Element}
use Rattle.dg_graph.specs.Elements.{before, IsSet}
use Rattle.dg_graph.specs.Sets.{unioned}
use Rattle.dg_cells.specs.Rows.{Row, cell_at, CellsAreApart, CellsGrow, AreAmong, IsBare}
use Rattle.dg_cells.specs.Order.{cell_element, elements_in, AreCells, AreNoted, IsListed, IsLower, Puts, is_noted, is_index_before}
use Rattle.dg_cells.proofs.Orders.{length-elements_in, element_there, before_there, rises_at}
use Rattle.dg_cells.proofs.RowGrowth.{grows_then, among_more, among_wider}
use Rattle.dg_cells.proofs.OrderMerges.{keeps_grown, past_step, puts_grows, puts_fresh, noted_more, at_in, merged_there, apart_absent, live_absent, merged_absent, past_absent}

-- j of the items have their cells, and the numbers before i are copied
pub record Walked (old : List (Option Row)) (order : List ℕ) (items : List Element) (j : ℕ) (rows : List (Option Row)) (out taken : List ℕ) (i : ℕ) : Type 0 where
  pub merged : elements_in rows out ++ unioned (drop i (elements_in old order)) (drop j items) ≡ unioned (elements_in old order) items
  pub live : AreCells rows out
  pub grows : CellsGrow old rows
  pub apart : CellsAreApart rows
  pub among : AreAmong old rows (take j items)
  pub noted : AreNoted old rows taken
  pub within : i ≤ length order
  pub past : (k : ℕ) (d : Element) → k < i → (m : ℕ) (e : Element) → j ≤ m → m < length items → before (get_or (elements_in old order) k d) (get_or items m e) ≡ true

-- the numbers before a position are of elements that are before all items from j on
pub record Passed (old : List (Option Row)) (order : List ℕ) (items : List Element) (j near : ℕ) : Type 0 where
  pub within : near ≤ length order
  pub past : (k : ℕ) (d : Element) → k < near → (m : ℕ) (e : Element) → j ≤ m → m < length items → before (get_or (elements_in old order) k d) (get_or items m e) ≡ true

pub passed_low : (old mid : List (Option Row)) (order : List ℕ) (items : List Element) (j near : ℕ) (d : Element) → AreCells old order → CellsGrow old mid → j < length items → Passed old order items j near → 0 < near → is_index_before mid order (get_or items j d) (near - 1) ≡ true
passed_low old mid order items j near d live grows j_in p h =
    let within = p.within in
    let y = get_or (elements_in old order) (near - 1) d in
    before_there (cell_at mid (get_or order (near - 1) 0)) y (get_or items j d)
    (keeps_grown old mid grows (get_or order (near - 1) 0) y (element_there old order (near - 1) d live (omega arith)))
    ∙ p.past (near - 1) d (omega arith) j d (omega arith) j_in

pub walked_as : (old : List (Option Row)) (order : List ℕ) (items : List Element) (j : ℕ) (rows rows2 : List (Option Row)) (out out2 taken taken2 : List ℕ) (i i2 : ℕ) → rows2 ≡ rows → out2 ≡ out → taken2 ≡ taken → i2 ≡ i → Walked old order items j rows out taken i → Walked old order items j rows2 out2 taken2 i2
walked_as old order items j rows rows2 out out2 taken taken2 i i2 e f g h w =
    subst (λ (r : List (Option Row)). Walked old order items j r out2 taken2 i2) (sym e)
    (subst (λ (o : List ℕ). Walked old order items j rows o taken2 i2) (sym f)
    (subst (λ (t : List ℕ). Walked old order items j rows out t i2) (sym g)
    (subst (λ (n : ℕ). Walked old order items j rows out taken n) (sym h) w)))

module _ (old mid : List (Option Row)) (order out taken : List ℕ) (items : List Element) (i j at : ℕ) (d : Element) (listed : IsListed old order) (items_set : IsSet items) (j_in : j < length items)
    (w : Walked old order items j mid out taken i) (position : IsLower (get_or items j d) (elements_in old order) at) where
  -- an item that has a cell
  pub walked_there : at < length order → cell_element (cell_at mid (get_or order at 0)) ≡ Some (get_or items j d) → Walked old order items (j + 1) mid out taken i
  walked_there h e = record {
    merged = merged_there old mid order out items i j at d listed items_set j_in w.within w.grows w.apart w.among w.live w.past w.merged position h e;
    live = w.live;
    grows = w.grows;
    apart = w.apart;
    among = among_wider old mid items j d j_in w.among;
    noted = w.noted;
    within = w.within;
    past = λ k q g m z l n. w.past k q g m z (omega arith) n;
  }

  -- an item that gets one
  pub walked_absent : (new : List (Option Row)) (more noted : List ℕ) (n : ℕ) (r : Row) → r.element ≡ get_or items j d → Puts mid new n r → IsBare r → (at < length order → cell_element (cell_at mid (get_or order at 0)) ≡ Some (get_or items j d) → ⊥) → more ≡ (out ++ take (at - i) (drop i order)) ++ n ∷ [] → noted ≡ taken ++ n ∷ [] → Walked old order items (j + 1) new more noted at
  walked_absent new more noted n r is puts bare is_not out_is taken_is = record {
    merged = merged_absent old mid order out items i j at d listed items_set j_in w.within w.grows w.apart w.among w.live w.past w.merged position new n r is puts bare is_not more out_is;
    live = live_absent old mid order out items i j at d listed items_set j_in w.within w.grows w.apart w.among w.live w.past w.merged position new n r is puts bare is_not more out_is;
    grows = grows_then old mid new w.grows (puts_grows mid new n r puts bare);
    apart = apart_absent old mid order out items i j at d listed items_set j_in w.within w.grows w.apart w.among w.live w.past w.merged position new n r is puts bare is_not;
    among = among_more old mid new items j d j_in (puts_grows mid new n r puts bare) w.among (λ m q e f. puts_fresh mid new n r puts m q e f ∙ is);
    noted = noted_more old mid new taken noted n r w.grows w.noted puts taken_is;
    within = at_in old mid order out items i j at d listed items_set j_in w.within w.grows w.apart w.among w.live w.past w.merged position;
    past = past_absent old mid order out items i j at d listed items_set j_in w.within w.grows w.apart w.among w.live w.past w.merged position new n r is puts bare is_not;
  }

  -- the position behind an item that has a cell
  pub passed_there : at < length order → cell_element (cell_at mid (get_or order at 0)) ≡ Some (get_or items j d) → Passed old order items (j + 1) (at + 1)
  passed_there h e = record {
    within = omega arith;
    past = λ k z l m g low n. by k z l m g low n (cases_eq k at);
  }
    where
      len : length (elements_in old order) ≡ length order
      len = length-elements_in old order listed.in_order.live

      is : get_or (elements_in old order) at d ≡ get_or items j d
      is =
          let both : Some (get_or (elements_in old order) at d) ≡ Some (get_or items j d) =
          sym (keeps_grown old mid w.grows (get_or order at 0) (get_or (elements_in old order) at d) (element_there old order at d listed.in_order.live h)) ∙ e in
          cc

      by : (k : ℕ) (z : Element) → k < at + 1 → (m : ℕ) (g : Element) → j + 1 ≤ m → m < length items → ((k ≡ at) ⊎ (k ≡ at → ⊥)) → before (get_or (elements_in old order) k z) (get_or items m g) ≡ true
      by k z l m g low n (inl f) =
          let inside : at < length (elements_in old order) = let e = len in omega arith in
          ap (λ y. before y (get_or items m g)) (ap (λ q. get_or (elements_in old order) q z) f ∙ get_or_default (elements_in old order) at z d inside ∙ is ∙ get_or_default items j d g j_in)
          ∙ rises_at items j m g items_set (omega arith) n
      by k z l m g low n (inr f) = past_step (elements_in old order) items i at j d listed.in_order.rises items_set j_in position w.past k z (omega arith) m g low n

-- ---- cells that came are vacated again

module _ (old mid new : List (Option Row)) (taken : List ℕ) (grows : CellsGrow old mid) (noted : AreNoted old mid taken) (vacated : (n : ℕ) → cell_at new n ≡ cond (is_noted taken n) None (cell_at mid n)) where
  pub as_before : (n : ℕ) → cell_at new n ≡ cell_at old n
  as_before n = vacated n ∙ by (is_noted taken n) refl (cell_at mid n) refl (cell_at old n) refl
    where
      by : (t : Bool) → is_noted taken n ≡ t → (m : Option Row) → cell_at mid n ≡ m → (o : Option Row) → cell_at old n ≡ o → cond (is_noted taken n) None (cell_at mid n) ≡ cell_at old n
      by true e m f o g = ap (λ b. cond b None (cell_at mid n)) e ∙ sym (noted.vacant n e)
      by false e None f None g = ap (λ b. cond b None (cell_at mid n)) e ∙ f ∙ sym g
      by false e (Some q) f None g = let no : false ≡ true = sym e ∙ noted.came n q g f in cc
      by false e m f (Some q) g = ap (λ b. cond b None (cell_at mid n)) e ∙ grows.kept n q g ∙ sym g

  pub listed_back : (order : List ℕ) → IsListed old order → IsListed new order
  listed_back order listed =
      listed_written old new order
      (λ n x e. ap cell_element (as_before n) ∙ e)
      (λ n x e. sym (ap cell_element (as_before n)) ∙ e)
      (λ i j r q e f g. listed.apart i j r q (sym (as_before i) ∙ e) (sym (as_before j) ∙ f) g)
      listed
