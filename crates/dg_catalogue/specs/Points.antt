-- The point of an instant: the node from which the graph as of the instant is reached, by what a catalogue holds.
use Rattle.std.specs.Prelude.{◌≡◌, ℕ, zero, suc, ◌+◌, ◌≤◌, ◌<◌, ◌==◌, max, Bool, true, false, cond, ◌&&◌, List, [], ◌∷◌, Option, Some, None, is_some, nat_le}
use Rattle.std.specs.Map.{keys_of}
use Rattle.dg_history.specs.declared.node.Key.{Key}
use Rattle.dg_history.specs.declared.node.Key.TheVariants as key
use Rattle.dg_history.specs.declared.node.NodeId.{NodeId}
use Rattle.dg_history.specs.declared.node.NodeId.TheVariants as node
use Rattle.dg_index.specs.declared.entry.Ends.{Ends}
use Rattle.dg_catalogue.specs.Entries.{Holdings}
use Rattle.dg_catalogue.specs.Held.{ends_of}

-- The lists that are held have the numbers from 0 on. The first instant of none is before that of an earlier one, nor before
-- the last of an earlier one; and none ends before it begins.
pub record ListsRise (c : Holdings) : Type 0 where
  pub held : (i j : ℕ) → i ≤ j → is_some (ends_of c j) ≡ true → is_some (ends_of c i) ≡ true
  pub rise : (i j : ℕ) (earlier later : Ends) → i ≤ j → ends_of c i ≡ Some earlier → ends_of c j ≡ Some later → earlier.first ≤ later.first
  pub apart : (i j : ℕ) (earlier later : Ends) → i < j → ends_of c i ≡ Some earlier → ends_of c j ≡ Some later → earlier.last ≤ later.first
  pub within : (i : ℕ) (ends : Ends) → ends_of c i ≡ Some ends → ends.first ≤ ends.last

-- there are instants, and the first of them is not later than t
abbrev pub begin_by : ℕ → Option Ends → Bool
begin_by t None = false
begin_by t (Some ends) = nat_le ends.first t

-- there are instants, and the last of them is not later than t
abbrev pub end_by : ℕ → Option Ends → Bool
end_by t None = false
end_by t (Some ends) = nat_le ends.last t

-- the list is held, and has begun by the instant t
abbrev pub has_begun : Holdings → ℕ → ℕ → Bool
has_begun c t list = begin_by t (ends_of c list)

-- one more than the number of a list that has begun, and 0 for any other key
abbrev pub after_begun : Holdings → ℕ → Key → ℕ
after_begun c t (key.List list) = cond (has_begun c t list) (list + 1) 0
after_begun c t (key.Piece segment) = 0
after_begun c t (key.Top h) = 0
after_begun c t (key.Down h child) = 0

-- one more than the greatest number of a list among these keys that has begun, and 0 where none has
abbrev pub after_all_begun : Holdings → ℕ → List Key → ℕ
after_all_begun c t [] = 0
after_all_begun c t (k ∷ keys) = max (after_begun c t k) (after_all_begun c t keys)

-- the same of all that are held
abbrev pub begun_by : Holdings → ℕ → ℕ
begun_by c t = after_all_begun c t (keys_of c.entries)

-- The node for an instant before the recent events, where so many lists have begun: the last of them, or the
-- leaf behind it where it has ended.
abbrev pub point_in_lists : Holdings → ℕ → ℕ → NodeId
point_in_lists c t zero = node.Root
point_in_lists c t (suc i) = cond (end_by t (ends_of c i)) (node.Leaf (i + 1)) (node.List i)

-- an event has come by the instant t, where the first of these events is at this instant
abbrev pub has_come : ℕ → Option ℕ → Bool
has_come t None = false
has_come t (Some first) = nat_le first t

-- The point of an instant, where the first recent event is at the instant `recent`: none out of range, and
-- otherwise the first that applies of Now, where it is the last instant; Recent, where a recent event has
-- come; and the node in the lists.
abbrev pub point_in : Holdings → Option Ends → ℕ → Option ℕ → Option NodeId
point_in c None t recent = None
point_in c (Some span) t recent =
    cond (nat_le span.first t && nat_le t span.last)
    (Some (cond (t == span.last) node.Now (cond (has_come t recent) node.Recent (point_in_lists c t (begun_by c t)))))
    None

abbrev pub point_of : Holdings → ℕ → Option ℕ → Option NodeId
point_of c t recent = point_in c c.span t recent
