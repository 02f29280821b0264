use Rattle.std.proofs.Common.{◌≡◌, ◌-◌, ◌≤◌, ℕ, List, length, None, Ok}
use Rattle.dg_graph.specs.declared.element.Element.{Element}
use Rattle.dg_graph.specs.ColumnGrammar.{elements_at}
use Rattle.dg_columns.proofs.sound_elements.end_here.Given as goal

abbrev pub invariant-loop : goal.invariant-loop
invariant-loop l = record {
  goes_on : (p : List Element × ℕ) → elements_at (l.count - l.counter) l.col l.name_count l.bytes l.others l.offset l.last ≡ Ok p → (list : List Element) × (elements_at l.count l.col l.name_count l.bytes l.others l.start None ≡ Ok (list, p.1));
  within : l.offset ≤ length l.bytes;
}
