-- The planners that are kept while a handle comes or goes.
use Rattle.std.proofs.Common.{◌≡◌, ℕ, Bool, true, false, ◌==◌, List, [], ◌∷◌, ◌++◌, Option, Some, None, Result, Ok, Err, if◌then◌else◌, refl, sym, ◌∙◌, ap, subst}
use Rattle.std.specs.Prelude.{OnErr, OnOk, is_some}
use Rattle.std.proofs.lemmas.Bool.{false≢true}
use Rattle.std.proofs.lemmas.List.Elements.{All-nil, All-same}
use Rattle.dg_ask.proofs.HeldIndexHandles.{kept_same}
use Rattle.dg_ask.specs.KeptPlanner.{IsGraphOver, IsKeptFor}
use Rattle.dg_graph.specs.declared.element.Columns.{Columns}
use Rattle.dg_handles.specs.Handles.{HandlesState}
use Rattle.dg_history.specs.declared.node.NodeId.{NodeId}
use Rattle.dg_index.specs.OpenedIndex.{Opening}
use Rattle.dg_machine.specs.declared.stands.Stands.{Stands}
use Rattle.dg_machine.specs.MachineState.{base_node, stands_at, without_handle}
use Rattle.dg_machine.specs.Planning.{base_if, bases_in, includes, usable}
use Rattle.dg_planner.specs.Whole.{PlannerGraph}
use Rattle.dg_session.specs.Session.{is_of_node}

none_usable : (cols : Columns) (e : ℕ × Stands) → is_of_node e.1 ≡ false → usable cols e ≡ []
none_usable cols e other = by (base_node e.1.what) other
  where
    by : (o : Option NodeId) → is_some o ≡ false → base_if (includes e.1.cols cols) e.0 o ≡ []
    by None none = refl
    by (Some node) none = absurd (false≢true (sym none))

-- with a handle of no node the same handles can serve
bases_with : (cols : Columns) (table : List (ℕ × Stands)) (e : ℕ × Stands) → is_of_node e.1 ≡ false → bases_in cols (table ++ e ∷ []) ≡ bases_in cols table
bases_with cols [] e other = ap (λ (xs : List (ℕ × NodeId)). xs ++ []) (none_usable cols e other)
bases_with cols (x ∷ table) e other = ap (λ (xs : List (ℕ × NodeId)). usable cols x ++ xs) (bases_with cols table e other)

-- and without one
bases_without : (cols : Columns) (handle : ℕ) (table : List (ℕ × Stands)) (s : Stands) → stands_at handle table ≡ Some s → is_of_node s ≡ false
    → bases_in cols (without_handle handle table) ≡ bases_in cols table
bases_without cols handle [] s is other = refl
bases_without cols handle (e ∷ table) s is other = by (e.0 == handle) (λ r. bases_without cols handle table s r other) is
  where
    same_kind : Some e.1 ≡ Some s → is_of_node e.1 ≡ is_of_node s
    same_kind k = let one : e.1 ≡ s = cc in ap is_of_node one

    by : (here : Bool) → (stands_at handle table ≡ Some s → bases_in cols (without_handle handle table) ≡ bases_in cols table)
        → (if here then Some e.1 else stands_at handle table) ≡ Some s
        → bases_in cols (if here then table else e ∷ without_handle handle table) ≡ usable cols e ++ bases_in cols table
    by true rest e_is = ap (λ (xs : List (ℕ × NodeId)). xs ++ bases_in cols table) (sym (none_usable cols e (same_kind e_is ∙ other)))
    by false rest e_is = ap (λ (xs : List (ℕ × NodeId)). usable cols e ++ xs) (rest e_is)

module _ (index : Option Opening) (s : Stands) (kept left : List (Columns × PlannerGraph)) (base : is_of_node s ≡ true → left ≡ []) (other : is_of_node s ≡ false → left ≡ kept) where
  -- planners that are forgotten with a base are kept for a table that a handle of no node would not change for them
  kept_over : (old new : List (ℕ × Stands)) → (is_of_node s ≡ false → (cols : Columns) → bases_in cols new ≡ bases_in cols old) → IsKeptFor index old kept → IsKeptFor index new left
  kept_over old new same h = by (is_of_node s) refl
    where
      by : (b : Bool) → is_of_node s ≡ b → IsKeptFor index new left
      by true e = All-same (IsGraphOver index new) left [] (base e) (All-nil (IsGraphOver index new))
      by false e = subst (IsKeptFor index new) (sym (other e)) (kept_same index old new kept (same e) h)

  -- so they are once the handle is there, or memory lacked for it
  pub kept_with : {A E : Type 0} (r : Result A E) (old new : HandlesState) → OnOk r (new.table ≡ old.table ++ (old.next, s) ∷ []) → OnErr r (new ≡ old)
      → IsKeptFor index old.table kept → IsKeptFor index new.table left
  kept_with (Ok x) old new added same h = kept_over old.table new.table (λ e cols. ap (bases_in cols) added ∙ bases_with cols old.table (old.next, s) e) h
  kept_with (Err x) old new added same h = kept_over old.table new.table (λ e cols. ap (λ (t : HandlesState). bases_in cols t.table) same) h

  -- and without it
  pub kept_without : (handle : ℕ) (table : List (ℕ × Stands)) → stands_at handle table ≡ Some s → IsKeptFor index table kept → IsKeptFor index (without_handle handle table) left
  kept_without handle table is h = kept_over table (without_handle handle table) (λ e cols. bases_without cols handle table s is e) h
