-- What the changes ask for, by their texts.
use Rattle.std.specs.Prelude.{ℕ, List, ◌∷◌, Option, Some, None, codes, decimal}
use Rattle.dg_text.specs.Names.{added}
use Rattle.dg_changes.specs.ChangeGrammar.{WhatByText, Plain, Sets_node, Unsets_node, Sets_edge, Unsets_edge, Sends}
use Rattle.dg_workload.specs.declared.request.Key.{Key}
use Rattle.dg_workload.specs.declared.request.Key.TheVariants as key
use Rattle.dg_workload.specs.declared.request.Request.{Request}
use Rattle.dg_workload.specs.declared.request.Request.TheVariants as request

-- the text of a key
abbrev pub key_text : Key → List ℕ
key_text key.Kind = codes "kind"
key_text key.Weight = codes "w"
key_text key.Name = codes "name"

-- the letter before the number in a value of a key
abbrev pub letter_of : Key → Option ℕ
letter_of key.Kind = Some 118
letter_of key.Weight = None
letter_of key.Name = Some 110

-- these bytes, with the letter before them where there is one
abbrev pub with_letter : Option ℕ → List ℕ → List ℕ
with_letter (Some letter) bytes = letter ∷ bytes
with_letter None bytes = bytes

-- the text of a value of a key
abbrev pub value_text : Key → ℕ → List ℕ
value_text key number = with_letter (letter_of key) (decimal number)

-- what is asked for, with the texts of its key and its value
abbrev pub request_by_text : Request → WhatByText
request_by_text (request.Plain what) = Plain what
request_by_text (request.SetNode id key number) = Sets_node id (key_text key) (value_text key number)
request_by_text (request.UnsetNode id key) = Unsets_node id (key_text key)
request_by_text (request.SetEdge id key number) = Sets_edge id (key_text key) (value_text key number)
request_by_text (request.UnsetEdge id key) = Unsets_edge id (key_text key)

-- the list of names with the key of what is asked for
abbrev pub with_request_key : List (List ℕ) → WhatByText → List (List ℕ)
with_request_key names (Plain what) = names
with_request_key names (Sets_node id key value) = added names key
with_request_key names (Unsets_node id key) = added names key
with_request_key names (Sets_edge id key value) = added names key
with_request_key names (Unsets_edge id key) = added names key
with_request_key names (Sends src dst value) = names
