use Rattle.std.proofs.Common.{◌≡◌, ℕ, ◌<◌, ◌≤◌, ◌++◌, Vec, Global, get_or, length}
use Rattle.dg_graph.specs.declared.element.Element.{Element}
use Rattle.dg_messages.specs.Collected.{messages_at}
use Rattle.dg_messages.proofs.collected.push_all.Given as goal

abbrev pub invariant-loop-n : goal.invariant-loop-n
invariant-loop-n l = record {
  added : (k : ℕ) (d : Vec Element Global) → k < l.n → (get_or l.lists k d).items ≡ (get_or l.initial.lists k d).items ++ messages_at (get_or l.times k 0) l.events;
  kept : (k : ℕ) (d : Vec Element Global) → l.n ≤ k → get_or l.lists k d ≡ get_or l.initial.lists k d;
  long : length l.lists ≡ length l.initial.lists;
}
