-- The script that makes a history: a command for its parameters, and one for each batch with a line for each event.
use Rattle.std.specs.Prelude.{ℕ, List, [], ◌∷◌, ◌++◌, Some, None, if◌then◌else◌, codes, decimal, length, map}
use Rattle.std.specs.List.{flat_map, join_with_byte}
use Rattle.dg_graph.specs.declared.event.Body.{Body}
use Rattle.dg_graph.specs.declared.event.Body.TheVariants as body
use Rattle.dg_graph.specs.declared.event.Event.{Event}
use Rattle.dg_graph.specs.declared.function.Function.{Function}
use Rattle.dg_graph.specs.declared.function.Function.TheVariants.{Intersection, Union, Balanced, Skewed}
use Rattle.dg_text.specs.Names.{name_text}
use Rattle.dg_history.specs.declared.params.Params.{Params}
use Rattle.dg_history.specs.History.{Batch, History, names_of}

-- The words of the change that comes to this, behind its instant. The text of a value is the last, and may have spaces.
abbrev pub change_words : List (List ℕ) → Body → List (List ℕ)
change_words names (body.NodeAdded id) = codes "+node" ∷ decimal id ∷ []
change_words names (body.NodeRemoved id) = codes "-node" ∷ decimal id ∷ []
change_words names (body.EdgeAdded directed id src dst) =
    codes "+edge" ∷ decimal id ∷ decimal src ∷ decimal dst ∷ (if directed then codes "dir" else codes "undir") ∷ []
change_words names (body.EdgeRemoved directed id src dst) = codes "-edge" ∷ decimal id ∷ []
change_words names (body.NodeAttr key id old (Some value)) = codes "nset" ∷ decimal id ∷ name_text names key ∷ name_text names value ∷ []
change_words names (body.NodeAttr key id old None) = codes "ndel" ∷ decimal id ∷ name_text names key ∷ []
change_words names (body.EdgeAttr key id old (Some value)) = codes "eset" ∷ decimal id ∷ name_text names key ∷ name_text names value ∷ []
change_words names (body.EdgeAttr key id old None) = codes "edel" ∷ decimal id ∷ name_text names key ∷ []
change_words names (body.Message src dst value) = codes "msg" ∷ decimal src ∷ decimal dst ∷ name_text names value ∷ []

-- the line of the change that comes to the event
abbrev pub event_line : List (List ℕ) → Event → List ℕ
event_line names e = join_with_byte 32 (decimal e.time ∷ change_words names e.body)

abbrev pub function_words : Function → List (List ℕ)
function_words Intersection = codes "intersection" ∷ []
function_words Union = codes "union" ∷ []
function_words Balanced = codes "balanced" ∷ []
function_words (Skewed r) = codes "skewed" ∷ decimal r ∷ []

-- the command that makes an index of these parameters
abbrev pub create_line : Params → List ℕ
create_line p = join_with_byte 32 (codes "create" ∷ decimal p.l ∷ decimal p.k ∷ function_words p.function)

-- `load N` or `append N`
abbrev pub batch_command : List ℕ → ℕ → List ℕ
batch_command verb count = join_with_byte 32 (verb ∷ decimal count ∷ [])

-- the command of the batch, and the lines that follow it
abbrev pub batch_lines : List ℕ → List (List ℕ) → Batch → List (List ℕ)
batch_lines verb names b = batch_command verb (length b.events) ∷ map (event_line names) b.events

-- the lines of the batches behind the first
abbrev pub appended_lines : List (List ℕ) → List Batch → List (List ℕ)
appended_lines names batches = flat_map (batch_lines (codes "append") names) batches

-- the first batch is loaded, and the others are appended
abbrev pub batches_lines : List (List ℕ) → List Batch → List (List ℕ)
batches_lines names [] = []
batches_lines names (b ∷ batches) = batch_lines (codes "load") names b ++ appended_lines names batches

abbrev pub history_lines : History → List (List ℕ)
history_lines z = create_line z.params ∷ batches_lines (names_of z) z.batches

-- the lines as a text, each with a line feed behind it
abbrev pub text_of_lines : List (List ℕ) → List ℕ
text_of_lines lines = flat_map (λ (line : List ℕ). line ++ 10 ∷ []) lines

-- the script that makes the history
abbrev pub script_of : History → List ℕ
script_of z = text_of_lines (history_lines z)
