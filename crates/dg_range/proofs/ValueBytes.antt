-- The bytes of the columns of node attributes of lists: how many they are at the most, and those of a history.
use Rattle.std.proofs.Common.{◌≡◌, ℕ, ◌+◌, ◌≤◌, true, false, List as ListOf, [], ◌∷◌, Option, Some, None, map, refl, sym, ap, ◌∙◌, arith}
use Rattle.std.specs.List.{sum, sum_by}
use Rattle.std.specs.Map.{lookup}
use Rattle.std.proofs.lemmas.List.Sums.{sum-map, sum_by-cons}
use Rattle.dg_catalogue.specs.Entries.{column_length_in}
use Rattle.dg_graph.specs.declared.element.Column.{Column}
use Rattle.dg_graph.specs.declared.element.Column.TheVariants.{NodeAttr}
use Rattle.dg_graph.specs.declared.element.Columns.{Columns}
use Rattle.dg_history.specs.declared.node.Key.TheVariants as key
use Rattle.dg_history.specs.Keys.{same_key}
use Rattle.dg_index.specs.declared.entry.Entry.{Entry}
use Rattle.dg_index.specs.Hierarchy.{numbers}
use Rattle.dg_index.specs.IndexGrowth.{columns_in}
use Rattle.dg_index.specs.OpenedIndex.{Opening, entry_or_none}
use Rattle.dg_index.proofs.IndexRecordColumns.{Each}
use Rattle.dg_range.specs.ColumnRuns.{bytes_along}
use Rattle.dg_heard.specs.ListColumns.{bytes_at}
use Rattle.dg_range.specs.ListValues.{node_columns}
use Rattle.dg_range.specs.Weights.{bytes_if, list_bytes}
use Rattle.dg_range.proofs.Weights.{lists_within}

abbrev of_nodes : Columns
of_nodes = record { nodes_attr = true; edges_attr = false; transient = false }

-- they are among the asked columns
one_under : (o : Opening) (i : ℕ) → bytes_at o i NodeAttr ≤ list_bytes o of_nodes i
one_under o i = by (lookup (same_key (key.List i)) o.records)
  where
    by : (e : Option Entry) → column_length_in (entry_or_none e) NodeAttr ≤ bytes_if of_nodes e
    by None = omega arith
    by (Some e) = omega arith

all_under : (o : Opening) (lists : ListOf ℕ) → bytes_along o (node_columns lists) ≤ sum_by (list_bytes o of_nodes) lists
all_under o [] = omega arith
all_under o (i ∷ lists) =
    let a = sum_by-cons (λ (p : ℕ × Column). bytes_at o p.0 p.1) (i, NodeAttr) (node_columns lists) in
    let b = sum_by-cons (list_bytes o of_nodes) i lists in
    let c = one_under o i in
    let d = all_under o lists in
    omega arith

pub values_within : (o : Opening) (first n : ℕ) → bytes_along o (node_columns (numbers first n)) ≤ columns_in o.records
values_within o first n = let a = all_under o (numbers first n) in let b = lists_within o of_nodes first n in omega arith

-- the first list of those that are left, and the others
pub value_bytes_next : (o : Opening) (rest left : ListOf ℕ) (i : ℕ) → rest ≡ i ∷ left → bytes_along o (node_columns rest) ≡ bytes_at o i NodeAttr + bytes_along o (node_columns left)
value_bytes_next o rest left i next = ap (λ l. bytes_along o (node_columns l)) next ∙ sum_by-cons (λ (p : ℕ × Column). bytes_at o p.0 p.1) (i, NodeAttr) (node_columns left)

-- lists that each have so many bytes
pub bytes_summed : (o : Opening) (long : ℕ → ℕ) (lists : ListOf ℕ) → Each (λ i. bytes_at o i NodeAttr ≡ long i) lists → bytes_along o (node_columns lists) ≡ sum (map long lists)
bytes_summed o long [] all = refl
bytes_summed o long (i ∷ lists) all =
    let a = sum_by-cons (λ (p : ℕ × Column). bytes_at o p.0 p.1) (i, NodeAttr) (node_columns lists) in
    let b : sum (map long (i ∷ lists)) ≡ long i + sum (map long lists) = sum-map long (i ∷ lists) ∙ sum_by-cons long i lists ∙ ap (λ n. long i + n) (sum_map_back long lists) in
    let c = all.0 in
    let d = bytes_summed o long lists all.1 in
    omega arith
  where
    sum_map_back : (f : ℕ → ℕ) (xs : ListOf ℕ) → sum_by f xs ≡ sum (map f xs)
    sum_map_back f xs = sym (sum-map f xs)
