use Rattle.std.proofs.Common.{◌≡◌, ℕ, ◌<◌, [], Vec, Global, get_or, length}
use Rattle.dg_graph.specs.declared.element.Element.{Element}
use Rattle.dg_messages.proofs.told.empty_lists.Given as goal

abbrev pub invariant-loop : goal.invariant-loop
invariant-loop l = record {
  count : length l.lists.items ≡ l.index;
  empty : (k : ℕ) (d : Vec Element Global) → k < l.index → (get_or l.lists.items k d).items ≡ [];
}
