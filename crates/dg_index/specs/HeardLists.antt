-- The lists that may have messages of an instant, and what their columns weigh.
use Rattle.std.specs.Prelude.{ℕ, Bool, ◌&&◌, List, filter, length, map, nat_le, sum}
use Rattle.std.specs.List.{list_any}
use Rattle.dg_graph.specs.declared.element.Column.TheVariants as column
use Rattle.dg_graph.specs.declared.event.Event.{Event}
use Rattle.dg_history.specs.declared.node.Key.TheVariants as key
use Rattle.dg_history.specs.declared.params.Params.{Params}
use Rattle.dg_history.specs.History.{History, events_of, first_time_of, last_time_from}
use Rattle.dg_index.specs.Hierarchy.{leaves, numbers}
use Rattle.dg_index.specs.IndexRecords.{closed_list, column_in}

-- the instant lies between the times of the list
abbrev pub lies_in_list : Params → List Event → ℕ → ℕ → Bool
lies_in_list p events i t = nat_le (first_time_of (closed_list p events i)) t && nat_le t (last_time_from 0 (closed_list p events i))

-- the numbers of the lists between whose times one of the instants lies
abbrev pub heard : History → List ℕ → List ℕ
heard z times = filter (λ i. list_any (lies_in_list z.params (events_of z) i) times) (numbers 0 (leaves z.params (length (events_of z))))

-- the bytes of their columns of messages, each column once
abbrev pub heard_length : History → List ℕ → ℕ
heard_length z times = sum (map (λ i. length (column_in z (key.List i) column.Transient)) (heard z times))
