-- What an event moves a value to is a number below a bound, where the event's values are.
use Rattle.std.proofs.Common.{ℕ, ◌<◌, Bool, true, false, cond, Option, Some, None, nat_eq}
use Rattle.std.specs.Prelude.{IfSome}
use Rattle.std.specs.Option.{option_eq, option_map}
use Rattle.dg_graph.specs.declared.element.Element.{Element}
use Rattle.dg_graph.specs.Effect.{moved}

pub moved_value : (bound : ℕ) (P : Element → Type 0) (make : ℕ → Element) (value other : Option ℕ) → ((n : ℕ) → n < bound → P (make n)) → IfSome value (λ n. n < bound) → IfSome (moved make value other) P
moved_value bound P make value other made h = by (option_eq nat_eq value other) value h
  where
    by : (b : Bool) (v : Option ℕ) → IfSome v (λ n. n < bound) → IfSome (cond b None (option_map make v)) P
    by true v k = tt
    by false None k = tt
    by false (Some n) k = made n k
