-- The text of a reply.
use Rattle.std.specs.Prelude.{ℕ, List, [], ◌∷◌, ◌++◌, Some, None, if◌then◌else◌, codes, decimal}
use Rattle.std.specs.List.{flat_map, join_with_byte}
use Rattle.dg_graph.specs.declared.element.Column.{Column}
use Rattle.dg_graph.specs.declared.element.Column.TheVariants as column
use Rattle.dg_graph.specs.declared.element.Element.{Element}
use Rattle.dg_graph.specs.declared.element.Element.TheVariants.{Node, Edge, NodeAttr, EdgeAttr, Message}
use Rattle.dg_machine.specs.declared.reply.Head.{Head}
use Rattle.dg_machine.specs.declared.reply.Head.TheVariants as head
use Rattle.dg_machine.specs.declared.reply.Refusal.{Refusal}
use Rattle.dg_machine.specs.declared.reply.Refusal.TheVariants as refusal
use Rattle.dg_machine.specs.declared.reply.BodyLine.{BodyLine}
use Rattle.dg_machine.specs.declared.reply.BodyLine.TheVariants as line
use Rattle.dg_machine.specs.declared.reply.Reply.{Reply}
use Rattle.dg_machine.specs.declared.reply.Reply.TheVariants as replied
use Rattle.dg_machine.specs.QueryTable.{query_words}
use Rattle.dg_text.specs.Names.{name_text}
use Rattle.dg_graph.specs.declared.function.Function.{Function}
use Rattle.dg_graph.specs.declared.function.Function.TheVariants.{Intersection, Union, Balanced, Skewed}
use Rattle.dg_history.specs.declared.node.Key.{Key}
use Rattle.dg_history.specs.declared.node.Key.TheVariants as key
use Rattle.dg_history.specs.declared.node.NodeId.{NodeId}
use Rattle.dg_history.specs.declared.node.NodeId.TheVariants as node
use Rattle.dg_query.specs.declared.answers.Side.{Side}
use Rattle.dg_query.specs.declared.answers.Side.TheVariants as side
use Rattle.dg_plan.specs.declared.certificate.Verdict.{Verdict}
use Rattle.dg_index.specs.declared.per_column.PerColumn.{PerColumn}
use Rattle.dg_sound.specs.declared.soundness.Soundness.{Soundness}
use Rattle.dg_sound.specs.declared.soundness.Soundness.TheVariants.{Sound, Unsound}
use Rattle.dg_plan.specs.declared.certificate.Verdict.TheVariants as verdict

-- the words of an element's line
abbrev pub element_words : List (List ℕ) → Element → List (List ℕ)
element_words names (Node id) = codes "node" ∷ decimal id ∷ []
element_words names (Edge directed id src dst) =
    codes "edge" ∷ decimal id ∷ decimal src ∷ decimal dst ∷ (if directed then codes "dir" else codes "undir") ∷ []
element_words names (NodeAttr id key value) = codes "nattr" ∷ decimal id ∷ name_text names key ∷ name_text names value ∷ []
element_words names (EdgeAttr id key value) = codes "eattr" ∷ decimal id ∷ name_text names key ∷ name_text names value ∷ []
element_words names (Message src dst value) = codes "msg" ∷ decimal src ∷ decimal dst ∷ name_text names value ∷ []

-- the words of a node
abbrev pub node_words : NodeId → List (List ℕ)
node_words node.Root = codes "root" ∷ []
node_words node.Now = codes "now" ∷ []
node_words node.Recent = codes "recent" ∷ []
node_words (node.Leaf j) = codes "leaf" ∷ decimal j ∷ []
node_words (node.List i) = codes "list" ∷ decimal i ∷ []
node_words (node.Inner h j) = codes "inner" ∷ decimal h ∷ decimal j ∷ []

-- the words of a record's key
abbrev pub key_words : Key → List (List ℕ)
key_words (key.List i) = codes "list" ∷ decimal i ∷ []
key_words (key.Piece s) = codes "piece" ∷ decimal s ∷ []
key_words (key.Top h) = codes "top" ∷ decimal h ∷ []
key_words (key.Down h c) = codes "down" ∷ decimal h ∷ decimal c ∷ []

-- the letter of a column
abbrev pub column_word : Column → List ℕ
column_word column.Structure = codes "s"
column_word column.NodeAttr = codes "n"
column_word column.EdgeAttr = codes "e"
column_word column.Transient = codes "t"

-- the words of a differential function
abbrev pub function_words : Function → List (List ℕ)
function_words Intersection = codes "intersection" ∷ []
function_words Union = codes "union" ∷ []
function_words Balanced = codes "balanced" ∷ []
function_words (Skewed r) = codes "skewed" ∷ decimal r ∷ []

-- the words of what is said of a certificate
abbrev pub verdict_words : Verdict → List (List ℕ)
verdict_words verdict.Valid = codes "valid" ∷ []
verdict_words (verdict.Line i) = codes "line" ∷ decimal i ∷ []
verdict_words (verdict.Step i) = codes "step" ∷ decimal i ∷ []
verdict_words (verdict.Potential at) = codes "potential" ∷ node_words at
verdict_words verdict.NotTight = codes "not-tight" ∷ []

-- the words of what is said of the file
abbrev pub soundness_words : Soundness → List (List ℕ)
soundness_words (Sound records) = codes "sound" ∷ decimal records ∷ []
soundness_words (Unsound k col) = codes "unsound" ∷ (key_words k ++ column_word col ∷ [])

-- the word of the side of a node on which an edge lies
abbrev pub side_word : Side → List ℕ
side_word side.Out = codes "out"
side_word side.Inward = codes "in"
side_word side.Both = codes "both"

-- the bytes of each column of a record
abbrev pub length_words : PerColumn ℕ → List (List ℕ)
length_words lengths =
    decimal lengths.structure ∷ decimal lengths.node_attrs ∷ decimal lengths.edge_attrs ∷ decimal lengths.transient ∷ []

-- the words of a body line
abbrev pub body_words : List (List ℕ) → BodyLine → List (List ℕ)
body_words names (line.Element x) = element_words names x
body_words names (line.Attribute v) = codes "attr" ∷ name_text names v.key ∷ name_text names v.value ∷ []
body_words names (line.Neighbour n) = side_word n.side ∷ decimal n.edge ∷ decimal n.node ∷ []
body_words names (line.Handle handle t single) = codes "handle" ∷ decimal handle ∷ decimal t ∷ decimal single ∷ []
body_words names (line.Step edge into weight) = codes "step" ∷ decimal edge ∷ (node_words into ++ decimal weight ∷ [])
body_words names (line.Potential at value) = codes "potential" ∷ (node_words at ++ decimal value ∷ [])
body_words names (line.Sizes k lengths) = codes "record" ∷ (key_words k ++ length_words lengths)

-- the number and the name of a refusal, and what it keeps
abbrev pub refusal_words : Refusal → List (List ℕ)
refusal_words (refusal.Syntax column) = codes "1" ∷ codes "syntax" ∷ decimal column ∷ []
refusal_words refusal.NoIndex = codes "2" ∷ codes "no-index" ∷ []
refusal_words refusal.IndexExists = codes "3" ∷ codes "index-exists" ∷ []
refusal_words refusal.Parameters = codes "4" ∷ codes "parameters" ∷ []
refusal_words (refusal.ShortBatch read asked) = codes "5" ∷ codes "short-batch" ∷ decimal read ∷ decimal asked ∷ []
refusal_words (refusal.BadChange number reason) = codes "6" ∷ codes "bad-change" ∷ decimal number ∷ decimal reason ∷ []
refusal_words (refusal.OutOfRange None) = codes "7" ∷ codes "out-of-range" ∷ codes "empty" ∷ []
refusal_words (refusal.OutOfRange (Some ends)) = codes "7" ∷ codes "out-of-range" ∷ decimal ends.0 ∷ decimal ends.1 ∷ []
refusal_words (refusal.UnknownHandle handle) = codes "8" ∷ codes "unknown-handle" ∷ decimal handle ∷ []
refusal_words (refusal.PoolFull live asked) = codes "9" ∷ codes "pool-full" ∷ decimal live ∷ decimal asked ∷ []
refusal_words (refusal.InUse handle) = codes "10" ∷ codes "in-use" ∷ decimal handle ∷ []
refusal_words refusal.UnknownNode = codes "11" ∷ codes "unknown-node" ∷ []
refusal_words (refusal.HistoryFull held asked) = codes "12" ∷ codes "history-full" ∷ decimal held ∷ decimal asked ∷ []
refusal_words (refusal.FileFull needed limit) = codes "13" ∷ codes "file-full" ∷ decimal needed ∷ decimal limit ∷ []
refusal_words refusal.StoreRead = codes "14" ∷ codes "store-read" ∷ []
refusal_words (refusal.Damaged k col) = codes "15" ∷ codes "damaged" ∷ (key_words k ++ column_word col ∷ [])
refusal_words refusal.OutOfMemory = codes "16" ∷ codes "out-of-memory" ∷ []
refusal_words (refusal.NotAnOverlay handle) = codes "17" ∷ codes "not-an-overlay" ∷ decimal handle ∷ []
refusal_words refusal.LineLong = codes "18" ∷ codes "line-long" ∷ []
refusal_words refusal.HandlesSpent = codes "19" ∷ codes "handles-spent" ∷ []
refusal_words refusal.AlreadyLoaded = codes "20" ∷ codes "already-loaded" ∷ []
refusal_words refusal.NewFormat = codes "21" ∷ codes "new-format" ∷ []
refusal_words refusal.OldFormat = codes "22" ∷ codes "old-format" ∷ []
refusal_words refusal.UnknownKey = codes "23" ∷ codes "unknown-key" ∷ []
refusal_words refusal.NotIndexed = codes "24" ∷ codes "not-indexed" ∷ []
refusal_words refusal.AlreadyIndexed = codes "25" ∷ codes "already-indexed" ∷ []
refusal_words refusal.IndexesFull = codes "26" ∷ codes "indexes-full" ∷ []

-- the words of the first line of an answer
abbrev pub head_words : Head → List (List ℕ)
head_words head.Created = codes "ok" ∷ codes "create" ∷ []
head_words head.Upgraded = codes "ok" ∷ codes "upgrade" ∷ []
head_words (head.Loaded events total last) = codes "ok" ∷ codes "load" ∷ decimal events ∷ decimal total ∷ decimal last ∷ []
head_words (head.Appended events total last) = codes "ok" ∷ codes "append" ∷ decimal events ∷ decimal total ∷ decimal last ∷ []
head_words (head.At handle weight) = codes "ok" ∷ codes "at" ∷ decimal handle ∷ decimal weight ∷ []
head_words (head.Several weight sum) = codes "ok" ∷ codes "several" ∷ decimal weight ∷ decimal sum ∷ []
head_words (head.Materialised handle weight) = codes "ok" ∷ codes "materialise" ∷ decimal handle ∷ decimal weight ∷ []
head_words (head.Asked handle told) = codes "ok" ∷ query_words handle told
head_words (head.Released handle) = codes "ok" ∷ codes "release" ∷ decimal handle ∷ []
head_words head.Cleaned = codes "ok" ∷ codes "clean" ∷ []
head_words (head.CleanedAll cells) = codes "ok" ∷ codes "clean" ∷ codes "all" ∷ decimal cells ∷ []
head_words (head.Pool live size) = codes "ok" ∷ codes "pool" ∷ decimal live ∷ decimal size ∷ []
head_words (head.Plan weight steps) = codes "ok" ∷ codes "plan" ∷ decimal weight ∷ decimal steps ∷ []
head_words (head.Certified v) = codes "ok" ∷ codes "certify" ∷ verdict_words v
head_words (head.Verified s) = codes "ok" ∷ codes "verify" ∷ soundness_words s
head_words (head.Generated events last nodes edges) =
    codes "ok" ∷ codes "workload" ∷ decimal events ∷ decimal last ∷ decimal nodes ∷ decimal edges ∷ []
head_words (head.Tree l k function events leaves records) =
    codes "ok" ∷ codes "tree" ∷ decimal l ∷ decimal k ∷ (function_words function ++ decimal events ∷ decimal leaves ∷ decimal records ∷ [])
head_words (head.Chosen handle weight) = codes "ok" ∷ codes "expression" ∷ decimal handle ∷ decimal weight ∷ []
head_words (head.Added handle weight) = codes "ok" ∷ codes "interval" ∷ decimal handle ∷ decimal weight ∷ []
head_words (head.Indexed spans weight) = codes "ok" ∷ codes "index" ∷ decimal spans ∷ decimal weight ∷ []
head_words (head.Found lines) = codes "ok" ∷ codes "find" ∷ decimal lines ∷ []

-- words with a space between each two, and a line feed
abbrev pub text_line : List (List ℕ) → List ℕ
text_line ws = join_with_byte 32 ws ++ 10 ∷ []

abbrev pub body_text : List (List ℕ) → List BodyLine → List ℕ
body_text names lines = flat_map (λ l. text_line (body_words names l)) lines

-- the first line, the lines of the body, and `end`
abbrev pub text : List (List ℕ) → Reply → List ℕ
text names (replied.Refused r) = text_line (codes "refused" ∷ refusal_words r) ++ text_line (codes "end" ∷ [])
text names (replied.Answered h body) = text_line (head_words h) ++ body_text names body ++ text_line (codes "end" ∷ [])
