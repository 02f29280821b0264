-- The handles that hold bases are those that the table says to hold them, since the numbers of handles rise.
use Rattle.std.proofs.Common.{arith, ◌≡◌, ℕ, ◌+◌, ◌≤◌, Bool, true, false, cond, eqb, List, [], ◌∷◌, ◌++◌, Option, Some, None, All, map, refl, ap, ◌∙◌, subst}
use Rattle.std.specs.List.{AllByRecursion}
use Rattle.std.proofs.lemmas.Bool.{eq-eqb, eqb-true, ne_eqb}
use Rattle.std.proofs.lemmas.List.Elements.{All-from_recursion}
use Rattle.dg_graph.specs.declared.element.Columns.{Columns}
use Rattle.dg_handles.specs.declared.entries.Entry.{Entry}
use Rattle.dg_handles.specs.Handles.{HoldsNode, RiseWithin}
use Rattle.dg_handles.proofs.HandleEntries.{Entries, handles_in}
use Rattle.dg_handles.proofs.HandleAdditions.{entry_of, numbers_are}
use Rattle.dg_history.specs.declared.node.NodeId.{NodeId}
use Rattle.dg_machine.specs.declared.stands.Stands.{Stands}
use Rattle.dg_machine.specs.declared.stands.Shown.{Shown}
use Rattle.dg_machine.specs.declared.stands.Shown.TheVariants.{Overlay, Base, Selected}
use Rattle.dg_machine.specs.MachineState.{base_node, stands_at}
use Rattle.dg_machine.specs.Planning.{base_if, bases_in, includes}

-- a live handle has none of the numbers below
entry_low : (low high handle : ℕ) (table : Entries) (e : Stands) → RiseWithin low high (handles_in table) → stands_at handle table ≡ Some e → low ≤ handle
entry_low low high handle [] e rises is = cc
entry_low low high handle (entry ∷ table) e rises is = at (eqb entry.0 handle) refl (entry_low (entry.0 + 1) high handle table e rises.1) is
  where
    at : (b : Bool) → eqb entry.0 handle ≡ b → (stands_at handle table ≡ Some e → entry.0 + 1 ≤ handle) → cond b (Some entry.1) (stands_at handle table) ≡ Some e → low ≤ handle
    at true same rest found = let it = eqb-true entry.0 handle same in omega (arith, it, rises.0)
    at false same rest found = let above = rest found in omega (arith, above, rises.0)

-- what a table holds behind an entry with a lower number, it holds with that entry
module _ (cols : Columns) (high : ℕ) (entry : ℕ × Stands) (table : Entries) (rises : RiseWithin (entry.0 + 1) high (handles_in table)) where
  behind : (b : ℕ × NodeId) → HoldsNode table cols b → HoldsNode (entry ∷ table) cols b
  behind b holds =
      let low = entry_low (entry.0 + 1) high b.0 table (record { what = Base b.1; cols = holds.0 }) rises holds.1 in
      let differ : entry.0 ≡ b.0 → ⊥ = λ same. absurd (omega (arith, low, same)) in
      (holds.0, ap (λ t. cond t (Some entry.1) (stands_at b.0 table)) (ne_eqb entry.0 b.0 differ) ∙ holds.1, holds.2)

  all_behind : (bases : List (ℕ × NodeId)) → AllByRecursion (HoldsNode table cols) bases → AllByRecursion (HoldsNode (entry ∷ table) cols) bases
  all_behind [] all = tt
  all_behind (b ∷ bases) all = (behind b all.0, all_behind bases all.1)

-- what has a node is the base of it
is_base : (what : Shown) (node : NodeId) → base_node what ≡ Some node → what ≡ Base node
is_base (Overlay t on) node is = cc
is_base (Base v) node is = cc
is_base (Selected what) node is = cc

bases_held : (cols : Columns) (low high : ℕ) (table : Entries) → RiseWithin low high (handles_in table) → AllByRecursion (HoldsNode table cols) (bases_in cols table)
bases_held cols low high [] rises = tt
bases_held cols low high ((n, s) ∷ table) rises =
    at (base_node s.what) (includes s.cols cols) (is_base s.what) refl (all_behind cols high (n, s) table rises.1 (bases_in cols table) (bases_held cols (n + 1) high table rises.1))
  where
    at : (o : Option NodeId) (b : Bool) → ((node : NodeId) → o ≡ Some node → s.what ≡ Base node) → includes s.cols cols ≡ b → AllByRecursion (HoldsNode ((n, s) ∷ table) cols) (bases_in cols table)
        → AllByRecursion (HoldsNode ((n, s) ∷ table) cols) (base_if b n o ++ bases_in cols table)
    at None b held is rest = rest
    at (Some node) false held is rest = rest
    at (Some node) true held is rest =
        ((s.cols, ap (λ t. cond t (Some s) (stands_at n table)) (eq-eqb n n refl) ∙ (λ i. Some (record { what = held node refl i; cols = s.cols })), is), rest)

pub bases_in_entries : (cols : Columns) (high : ℕ) (entries : List Entry) → RiseWithin 0 high (map (λ (e : Entry). e.handle) entries) → All (HoldsNode (map entry_of entries) cols) (bases_in cols (map entry_of entries))
bases_in_entries cols high entries rises =
    let table : Entries = map entry_of entries in
    All-from_recursion (HoldsNode table cols) (bases_in cols table) (bases_held cols 0 high table (subst (RiseWithin 0 high) (numbers_are entries) rises))
