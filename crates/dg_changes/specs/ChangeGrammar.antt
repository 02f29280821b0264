-- The grammar of changes: which line of a batch is which change.
use Rattle.std.specs.Prelude.{ℕ, Bool, true, false, List, [], ◌∷◌, Option, Some, None, if◌then◌else◌, codes, option_and_then}
use Rattle.std.specs.Option.{option_map}
use Rattle.dg_graph.specs.declared.event.Change.{Change}
use Rattle.dg_graph.specs.declared.event.What.{What}
use Rattle.dg_graph.specs.declared.event.What.TheVariants.{AddNode, RemoveNode, AddEdge, RemoveEdge, SetNode, UnsetNode, SetEdge, UnsetEdge, Message}
use Rattle.dg_graph.specs.declared.limits.TheConstants.{TIME_MAX}
use Rattle.dg_text.specs.Lines.{ScriptLine, Text, Long}
use Rattle.std.specs.List.{join_with_byte}
use Rattle.dg_text.specs.Names.{added, number_in, is_key, is_name}
use Rattle.dg_text.specs.Verbs.{Verb, verb, is_word, read_by, one, two_words, four_words}
use Rattle.dg_text.specs.Words.{words, number}

abbrev pub time_of : List ℕ → Option ℕ
time_of word = number 0 TIME_MAX word

-- an id of a node or an edge, or a seed
abbrev pub id_of : List ℕ → Option ℕ
id_of word = number 0 18446744073709551615 word

-- `dir` or `undir`: whether an edge is directed
abbrev pub direction_of : List ℕ → Option Bool
direction_of word = if is_word word (codes "dir") then Some true else (if is_word word (codes "undir") then Some false else None)

-- What a line of a batch asks for, with the texts of keys and values: a change of nodes and edges, or a
-- value of a key at a node or an edge, set or taken away; or a message with its value.
pub data WhatByText : Type 0 where
  Plain : What → WhatByText
  Sets_node : ℕ → List ℕ → List ℕ → WhatByText
  Unsets_node : ℕ → List ℕ → WhatByText
  Sets_edge : ℕ → List ℕ → List ℕ → WhatByText
  Unsets_edge : ℕ → List ℕ → WhatByText
  Sends : ℕ → ℕ → List ℕ → WhatByText

-- a line of a batch: an instant, and what it asks for
pub record ChangeByText : Type 0 where
  pub time : ℕ
  pub asked : WhatByText

-- `ID`
abbrev pub one_id : (ℕ → What) → List (List ℕ) → Option WhatByText
one_id make words = one id_of (λ n. Plain (make n)) words

-- `ID SRC DST dir` or `ID SRC DST undir`
abbrev pub new_edge : List (List ℕ) → Option WhatByText
new_edge words = four_words id_of id_of id_of direction_of (λ n a b d. Plain (AddEdge d n a b)) words

abbrev pub key_text_of : List ℕ → Option (List ℕ)
key_text_of word = if is_key word then Some word else None

abbrev pub value_text_of : List ℕ → Option (List ℕ)
value_text_of text = if is_name text then Some text else None

-- `ID KEY VALUE`, where VALUE is the rest of the line: words with a space between each two
abbrev pub setting_of : (ℕ → List ℕ → List ℕ → WhatByText) → List (List ℕ) → Option WhatByText
setting_of make (id ∷ key ∷ word ∷ more) =
    option_and_then (λ n. option_and_then (λ k.
    option_map (λ v. make n k v) (value_text_of (join_with_byte 32 (word ∷ more)))) (key_text_of key)) (id_of id)
setting_of make rest = None

-- `ID KEY`
abbrev pub unset_of : (ℕ → List ℕ → WhatByText) → List (List ℕ) → Option WhatByText
unset_of make words = two_words id_of key_text_of (λ n k. make n k) words

-- `SRC DST VALUE`, where VALUE is the rest of the line
abbrev pub sending_of : List (List ℕ) → Option WhatByText
sending_of (src ∷ dst ∷ word ∷ more) =
    option_and_then (λ a. option_and_then (λ b.
    option_map (λ v. Sends a b v) (value_text_of (join_with_byte 32 (word ∷ more)))) (id_of dst)) (id_of src)
sending_of rest = None

-- the kinds of change, by the word after the instant
abbrev pub change_verbs : List (Verb WhatByText)
change_verbs =
    verb (codes "+node") (one_id (λ n. AddNode n))
    ∷ verb (codes "-node") (one_id (λ n. RemoveNode n))
    ∷ verb (codes "+edge") new_edge
    ∷ verb (codes "-edge") (one_id (λ n. RemoveEdge n))
    ∷ verb (codes "nset") (setting_of (λ n k v. Sets_node n k v))
    ∷ verb (codes "ndel") (unset_of (λ n k. Unsets_node n k))
    ∷ verb (codes "eset") (setting_of (λ n k v. Sets_edge n k v))
    ∷ verb (codes "edel") (unset_of (λ n k. Unsets_edge n k))
    ∷ verb (codes "msg") sending_of
    ∷ []

-- what the words after the instant ask for
abbrev pub what_by_text_of : List (List ℕ) → Option WhatByText
what_by_text_of words = read_by change_verbs words

abbrev pub change_by_text_of_words : List (List ℕ) → Option ChangeByText
change_by_text_of_words [] = None
change_by_text_of_words (time ∷ rest) =
    option_and_then (λ t. option_map (λ a. record { time = t; asked = a }) (what_by_text_of rest)) (time_of time)

-- what the line of a batch asks for
abbrev pub change_by_text_of : List ℕ → Option ChangeByText
change_by_text_of line = change_by_text_of_words (words line)

-- a line of more bytes than a line may have is no change
abbrev pub change_by_text_in : ScriptLine → Option ChangeByText
change_by_text_in (Text line) = change_by_text_of line
change_by_text_in Long = None

-- the change by the numbers of its texts, in a list that has them
abbrev pub what_in : List (List ℕ) → WhatByText → What
what_in names (Plain w) = w
what_in names (Sets_node id key value) = SetNode id (number_in names key) (number_in names value)
what_in names (Unsets_node id key) = UnsetNode id (number_in names key)
what_in names (Sets_edge id key value) = SetEdge id (number_in names key) (number_in names value)
what_in names (Unsets_edge id key) = UnsetEdge id (number_in names key)
what_in names (Sends src dst value) = Message src dst (number_in names value)

-- the list of names with the texts of the change: its key before its value
abbrev pub named : List (List ℕ) → WhatByText → List (List ℕ)
named names (Plain w) = names
named names (Sets_node id key value) = added (added names key) value
named names (Unsets_node id key) = added names key
named names (Sets_edge id key value) = added (added names key) value
named names (Unsets_edge id key) = added names key
named names (Sends src dst value) = added names value

abbrev pub change_with : List (List ℕ) → ChangeByText → Change
change_with names change = record { time = change.time; what = what_in (named names change.asked) change.asked }
