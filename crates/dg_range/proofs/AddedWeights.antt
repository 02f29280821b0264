-- The weight of lists is the bytes of their asked columns.
use Rattle.std.proofs.Common.{◌≡◌, ℕ, Bool, true, false, List as ListOf, [], ◌∷◌, Option, Some, None, map, filter, refl, arith}
use Rattle.std.specs.List.{sum_by}
use Rattle.std.specs.Map.{lookup}
use Rattle.std.proofs.lemmas.List.Sums.{sum_by-append, sum_by-cons}
use Rattle.dg_catalogue.specs.Entries.{column_length_in}
use Rattle.dg_graph.specs.Elements.{asks}
use Rattle.dg_graph.specs.declared.element.Column.{Column}
use Rattle.dg_graph.specs.declared.element.Column.TheVariants.{Structure, NodeAttr, EdgeAttr, Transient}
use Rattle.dg_graph.specs.declared.element.Columns.{Columns}
use Rattle.dg_history.specs.declared.node.Key.TheVariants as key
use Rattle.dg_heard.specs.ListColumns.{bytes_at}
use Rattle.dg_history.specs.Keys.{same_key}
use Rattle.dg_index.specs.declared.entry.Entry.{Entry}
use Rattle.dg_index.specs.OpenedIndex.{Opening, entry_or_none}
use Rattle.dg_range.specs.Added.{asked_columns, list_columns}
use Rattle.dg_range.specs.ColumnRuns.{bytes_along}
use Rattle.dg_range.specs.Weights.{bytes_if, list_bytes}

-- of one list
one_list : (o : Opening) (cols : Columns) (i : ℕ) → bytes_along o (list_columns cols i) ≡ list_bytes o cols i
one_list o cols i =
    by (lookup (same_key (key.List i)) o.records) cols.nodes_attr cols.edges_attr cols.transient (λ c. refl)
  where
    by : (e : Option Entry) (x y z : Bool) → ((c : Column) → bytes_at o i c ≡ column_length_in (entry_or_none e) c)
        → bytes_along o (map (λ (c : Column). (i, c)) (filter (asks (record { nodes_attr = x; edges_attr = y; transient = z })) (Structure ∷ NodeAttr ∷ EdgeAttr ∷ Transient ∷ [])))
        ≡ bytes_if (record { nodes_attr = x; edges_attr = y; transient = z }) e
    by None true true true f = omega (arith, f Structure, f NodeAttr, f EdgeAttr, f Transient)
    by None true true false f = omega (arith, f Structure, f NodeAttr, f EdgeAttr, f Transient)
    by None true false true f = omega (arith, f Structure, f NodeAttr, f EdgeAttr, f Transient)
    by None true false false f = omega (arith, f Structure, f NodeAttr, f EdgeAttr, f Transient)
    by None false true true f = omega (arith, f Structure, f NodeAttr, f EdgeAttr, f Transient)
    by None false true false f = omega (arith, f Structure, f NodeAttr, f EdgeAttr, f Transient)
    by None false false true f = omega (arith, f Structure, f NodeAttr, f EdgeAttr, f Transient)
    by None false false false f = omega (arith, f Structure, f NodeAttr, f EdgeAttr, f Transient)
    by (Some e) true true true f = omega (arith, f Structure, f NodeAttr, f EdgeAttr, f Transient)
    by (Some e) true true false f = omega (arith, f Structure, f NodeAttr, f EdgeAttr, f Transient)
    by (Some e) true false true f = omega (arith, f Structure, f NodeAttr, f EdgeAttr, f Transient)
    by (Some e) true false false f = omega (arith, f Structure, f NodeAttr, f EdgeAttr, f Transient)
    by (Some e) false true true f = omega (arith, f Structure, f NodeAttr, f EdgeAttr, f Transient)
    by (Some e) false true false f = omega (arith, f Structure, f NodeAttr, f EdgeAttr, f Transient)
    by (Some e) false false true f = omega (arith, f Structure, f NodeAttr, f EdgeAttr, f Transient)
    by (Some e) false false false f = omega (arith, f Structure, f NodeAttr, f EdgeAttr, f Transient)

pub lists_weigh : (o : Opening) (cols : Columns) (lists : ListOf ℕ) → sum_by (list_bytes o cols) lists ≡ bytes_along o (asked_columns cols lists)
lists_weigh o cols [] = refl
lists_weigh o cols (i ∷ lists) =
    omega (arith, sum_by-cons (list_bytes o cols) i lists, one_list o cols i, lists_weigh o cols lists, sum_by-append (λ (p : ℕ × Column). bytes_at o p.0 p.1) (list_columns cols i) (asked_columns cols lists))
