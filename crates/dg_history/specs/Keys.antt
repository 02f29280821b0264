-- The keys of the records of an index.
use Rattle.std.specs.Prelude.{ℕ, Bool, true, false, ◌==◌, ◌&&◌, [], ◌∷◌, List as ListOf}
use Rattle.std.specs.declared.cmp.Ordering.{Ordering}
use Rattle.std.specs.Ordering.{nat_cmp}
use Rattle.std.specs.Cmp.Lexicographic.{slice_cmp}
use Rattle.dg_history.specs.declared.node.Key.{Key}
use Rattle.dg_history.specs.declared.node.Key.TheVariants.{List, Piece, Top, Down}

-- a key as numbers: its kind, and then its own
abbrev pub spelled_key : Key → ListOf ℕ
spelled_key (List n) = 0 ∷ n ∷ []
spelled_key (Piece s) = 1 ∷ s ∷ []
spelled_key (Top h) = 2 ∷ h ∷ []
spelled_key (Down h c) = 3 ∷ h ∷ c ∷ []

-- the order of keys: lists first, then pieces, tops and downs, each by their numbers
abbrev pub key_cmp : Key → Key → Ordering
key_cmp x y = slice_cmp nat_cmp (spelled_key x) (spelled_key y)

-- both name one record
abbrev pub same_key : Key → Key → Bool
same_key (List m) (List n) = m == n
same_key (Piece m) (Piece n) = m == n
same_key (Top m) (Top n) = m == n
same_key (Down m c) (Down n d) = m == n && c == d
same_key _ _ = false

-- the key names a list of events
abbrev pub is_list : Key → Bool
is_list (List n) = true
is_list (Piece s) = false
is_list (Top h) = false
is_list (Down h c) = false
