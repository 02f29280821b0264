-- The messages of instants, by what an index keeps: which lists may have one, the bytes of their columns, and what these
-- spell.
use Rattle.std.specs.Prelude.{ℕ, ◌+◌, Bool, false, ◌&&◌, List as ListOf, [], ◌∷◌, ◌++◌, Option, Some, None, Result, Ok, Err, filter, map, nat_le, nat_lt, sum}
use Rattle.std.specs.List.{list_any}
use Rattle.dg_catalogue.specs.Entries.{column_length_in}
use Rattle.dg_graph.specs.declared.element.Column.TheVariants.{Transient}
use Rattle.dg_graph.specs.declared.event.Event.{Event}
use Rattle.dg_heard.specs.ListColumns.{events_at}
use Rattle.dg_history.specs.declared.node.Key.TheVariants.{List}
use Rattle.dg_index.specs.declared.entry.Ends.{Ends}
use Rattle.dg_index.specs.Hierarchy.{leaves, numbers}
use Rattle.dg_index.specs.OpenedIndex.{Opening, entry_at, event_total}

-- the instant is one of these or between them
abbrev pub lies_between : ℕ → Option Ends → Bool
lies_between t None = false
lies_between t (Some e) = nat_le e.first t && nat_le t e.last

-- there are instants, and the last of them is before this one
abbrev pub end_before : ℕ → Option Ends → Bool
end_before t None = false
end_before t (Some e) = nat_lt e.last t

-- one of the instants lies between the times of the list
abbrev pub is_heard : Opening → ListOf ℕ → ℕ → Bool
is_heard o times i = list_any (λ t. lies_between t (entry_at o (List i)).ends) times

-- how many lists the index keeps
abbrev pub list_total : Opening → ℕ
list_total o = leaves o.params (event_total o.batches)

-- the numbers of the lists between whose times one of the instants lies
abbrev pub heard_over : Opening → ListOf ℕ → ListOf ℕ
heard_over o times = filter (is_heard o times) (numbers 0 (list_total o))

-- the bytes of their columns of messages, each column once
abbrev pub heard_bytes : Opening → ListOf ℕ → ℕ
heard_bytes o times = sum (map (λ i. column_length_in (entry_at o (List i)) Transient) (heard_over o times))

-- the weights of single retrievals, each with what is heard of its instant
abbrev pub with_heard_bytes : Opening → ListOf ℕ → ListOf ℕ → ListOf ℕ
with_heard_bytes o [] singles = []
with_heard_bytes o (t ∷ times) [] = []
with_heard_bytes o (t ∷ times) (single ∷ singles) = (single + heard_bytes o (t ∷ [])) ∷ with_heard_bytes o times singles

-- ---- what they spell

-- what the column of messages of a list is read as in an image, with so many names
abbrev pub messages_in : ℕ → ListOf ℕ → Opening → ℕ → Result (ListOf Event) ℕ
messages_in names image o i = events_at names image o i Transient

-- the first events and then the others, unless either has damage
abbrev pub and_others : ListOf Event → Result (ListOf Event) ℕ → Result (ListOf Event) ℕ
and_others events (Err i) = Err i
and_others events (Ok others) = Ok (events ++ others)

abbrev pub before_others : Result (ListOf Event) ℕ → Result (ListOf Event) ℕ → Result (ListOf Event) ℕ
before_others (Err i) others = Err i
before_others (Ok events) others = and_others events others

-- the events of these lists' columns, one behind another; or the number of the first list whose column is in no spelling
abbrev pub messages_along : ℕ → ListOf ℕ → Opening → ListOf ℕ → Result (ListOf Event) ℕ
messages_along names image o [] = Ok []
messages_along names image o (i ∷ lists) = before_others (messages_in names image o i) (messages_along names image o lists)

-- the same of the lists that are heard for these instants
abbrev pub heard_events : ℕ → ListOf ℕ → Opening → ListOf ℕ → Result (ListOf Event) ℕ
heard_events names image o times = messages_along names image o (heard_over o times)
