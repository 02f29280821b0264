-- The changes that the lines of a batch ask for, by their texts.
use Rattle.std.specs.Prelude.{ℕ, List}
use Rattle.dg_text.specs.Names.{added}
use Rattle.dg_changes.specs.ChangeGrammar.{WhatByText, Plain, Sets_node, Unsets_node, Sets_edge, Unsets_edge, Sends, ChangeByText}
use Rattle.dg_line.specs.declared.text_change.TextWhat.{TextWhat}
use Rattle.dg_line.specs.declared.text_change.TextWhat.TheVariants as what
use Rattle.dg_line.specs.declared.text_change.TextChange.{TextChange}

-- what is asked for, with the texts in place of borrowed bytes
abbrev pub what_by_text : TextWhat → WhatByText
what_by_text (what.Plain w) = Plain w
what_by_text (what.SetNode a) = Sets_node a.id a.key.now a.value.now
what_by_text (what.UnsetNode k) = Unsets_node k.id k.key.now
what_by_text (what.SetEdge a) = Sets_edge a.id a.key.now a.value.now
what_by_text (what.UnsetEdge k) = Unsets_edge k.id k.key.now
what_by_text (what.Send m) = Sends m.src m.dst m.value.now

-- a change, with the texts in place of borrowed bytes
abbrev pub change_by_text : TextChange → ChangeByText
change_by_text change = record { time = change.time; asked = what_by_text change.what }

-- the list of names with the key of what is asked for
abbrev pub with_key : List (List ℕ) → WhatByText → List (List ℕ)
with_key names (Plain w) = names
with_key names (Sets_node id key value) = added names key
with_key names (Unsets_node id key) = added names key
with_key names (Sets_edge id key value) = added names key
with_key names (Unsets_edge id key) = added names key
with_key names (Sends src dst value) = names
