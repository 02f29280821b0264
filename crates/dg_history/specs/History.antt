-- The history of a graph: the parameters of its index, the form of its file, and its batches.
use Rattle.std.specs.Prelude.{ℕ, ◌+◌, Bool, true, false, not, ◌&&◌, List, [], ◌∷◌, ◌++◌, Option, Some, None, length, nat_le, take}
use Rattle.std.specs.List.{flat_map}
use Rattle.dg_graph.specs.declared.event.Event.{Event}
use Rattle.dg_graph.specs.declared.function.Function.{Function}
use Rattle.dg_graph.specs.declared.function.Function.TheVariants as function
use Rattle.dg_graph.specs.declared.limits.TheConstants.{SKEW_MAX}
use Rattle.dg_history.specs.declared.form.Form.{Form}
use Rattle.dg_history.specs.declared.form.Form.TheVariants as form
use Rattle.dg_history.specs.declared.params.Params.{Params}
use Rattle.dg_history.specs.declared.params.TheConstants.{LEAF_MIN, LEAF_MAX, ARITY_MIN, ARITY_MAX}

-- the leaf list size and the arity are in their ranges
abbrev pub are_parameters : ℕ → ℕ → Bool
are_parameters l k = nat_le LEAF_MIN l && (nat_le l LEAF_MAX && (nat_le ARITY_MIN k && nat_le k ARITY_MAX))

-- the share of a skewed function is in its range
abbrev pub is_function : Function → Bool
is_function function.Intersection = true
is_function function.Union = true
is_function function.Balanced = true
is_function (function.Skewed r) = nat_le r SKEW_MAX

abbrev pub is_skewed : Function → Bool
is_skewed function.Intersection = false
is_skewed function.Union = false
is_skewed function.Balanced = false
is_skewed (function.Skewed r) = true

-- the file goes on in the second form
abbrev pub is_wide : Form → Bool
is_wide form.One = false
is_wide (form.Upgraded b) = true
is_wide form.Two = true

-- A form of so many batches: an upgrade stands behind some of them, and a skewed function has the second form alone.
abbrev pub is_form : Form → Function → ℕ → Bool
is_form form.One f n = not (is_skewed f)
is_form (form.Upgraded b) f n = not (is_skewed f) && nat_le b n
is_form form.Two f n = true

-- A batch has the texts of the names that it brings, which are numbered on from those before it,
-- and its events.
pub record Batch : Type 0 where
  pub names : List (List ℕ)
  pub events : List Event

pub record History : Type 0 where
  pub params : Params
  pub form : Form
  pub batches : List Batch

-- the history that has this form, these parameters and no event
abbrev pub empty_history : Form → Params → History
empty_history form params = record { params = params; form = form; batches = [] }

-- the history with one more batch
abbrev pub with_batch : History → Batch → History
with_batch z b = record { params = z.params; form = z.form; batches = z.batches ++ b ∷ [] }

-- the history, upgraded behind all its batches
abbrev pub with_upgrade : History → History
with_upgrade z = record { params = z.params; form = form.Upgraded (length z.batches); batches = z.batches }

-- the batches whose segments are in the first form
abbrev pub narrow_batches : Form → List Batch → List Batch
narrow_batches form.One batches = batches
narrow_batches (form.Upgraded b) batches = take b batches
narrow_batches form.Two batches = []

-- all names, in the order of their numbers
abbrev pub names_of : History → List (List ℕ)
names_of z = flat_map (λ (b : Batch). b.names) z.batches

-- all events, in their order
abbrev pub events_of : History → List Event
events_of z = flat_map (λ (b : Batch). b.events) z.batches

-- the first time of some events, or 0
abbrev pub first_time_of : List Event → ℕ
first_time_of [] = 0
first_time_of (e ∷ events) = e.time

abbrev pub last_time_from : ℕ → List Event → ℕ
last_time_from last [] = last
last_time_from last (e ∷ events) = last_time_from e.time events

-- the first and the last time, where there is an event
abbrev pub span_of : List Event → Option (ℕ × ℕ)
span_of [] = None
span_of (e ∷ events) = Some (e.time, last_time_from e.time events)

-- the instant lies between the first and the last time
abbrev pub in_range : Option (ℕ × ℕ) → ℕ → Bool
in_range None t = false
in_range (Some ends) t = nat_le ends.0 t && nat_le t ends.1

-- the earliest time that the next batch may begin with
abbrev pub earliest_next : Option (ℕ × ℕ) → ℕ
earliest_next None = 0
earliest_next (Some ends) = ends.1 + 1
