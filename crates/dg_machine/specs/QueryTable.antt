-- The queries of a handle. For each: its verb and the words behind the handle, what it needs, what is told of a set,
-- and the words of the first line. A new query is a row of each.
use Rattle.std.specs.Prelude.{ℕ, Bool, true, false, List, [], ◌∷◌, if◌then◌else◌, codes, decimal, length, map}
use Rattle.dg_changes.specs.ChangeGrammar.{id_of}
use Rattle.dg_graph.specs.declared.element.Columns.{Columns}
use Rattle.dg_graph.specs.declared.element.Element.{Element}
use Rattle.dg_graph.specs.declared.element.Element.TheVariants as element
use Rattle.dg_graph.specs.Elements.{has}
use Rattle.dg_machine.specs.declared.query.Query.{Query}
use Rattle.dg_machine.specs.declared.query.Query.TheVariants as query
use Rattle.dg_machine.specs.declared.query.QueryHead.{QueryHead}
use Rattle.dg_machine.specs.declared.query.QueryHead.TheVariants as told
use Rattle.dg_machine.specs.declared.reply.BodyLine.{BodyLine}
use Rattle.dg_machine.specs.declared.reply.BodyLine.TheVariants as line
use Rattle.dg_query.specs.Queries.{counts_of, degree_of, neighbours_of, values_of}
use Rattle.dg_text.specs.Verbs.{Verb, verb, none_more, one}

-- the queries, by their verb: the words behind the number of the handle
abbrev pub query_verbs : List (Verb Query)
query_verbs =
    verb (codes "list") (none_more query.List)
    ∷ verb (codes "counts") (none_more query.Counts)
    ∷ verb (codes "node") (one id_of (λ id. query.Node id))
    ∷ verb (codes "neighbours") (one id_of (λ id. query.Neighbours id))
    ∷ []

-- the query is of the nodes of a graph as of an instant
abbrev pub is_of_nodes : Query → Bool
is_of_nodes (query.Node id) = true
is_of_nodes (query.Neighbours id) = true
is_of_nodes q = false

-- the answer to the query takes memory
abbrev pub takes_memory : Query → Bool
takes_memory query.Counts = false
takes_memory q = true

-- what is told of a set: the first line, behind the handle, and the lines of the body
pub record Told : Type 0 where
  pub head : QueryHead
  pub body : List BodyLine

-- the node of the set, with a line for each attribute; or that it is not in the set
abbrev pub node_told : ℕ → List Element → Told
node_told id set =
    if has set (element.Node id)
    then record { head = told.NodeThere id (degree_of set id); body = map (λ v. line.Attribute v) (values_of set id) }
    else record { head = told.NodeAbsent id; body = [] }

-- what is told of this set, which has these columns: messages are counted where the columns have them
abbrev pub told_of : Query → Columns → List Element → Told
told_of query.List cols set = record { head = told.List (length set); body = map (λ x. line.Element x) set }
told_of query.Counts cols set = record { head = told.Counts (counts_of set) cols.transient; body = [] }
told_of (query.Node id) cols set = node_told id set
told_of (query.Neighbours id) cols set = record {
  head = told.Neighbours id (length (neighbours_of set id));
  body = map (λ n. line.Neighbour n) (neighbours_of set id);
}

-- the words of the first line of an answer about this handle
abbrev pub query_words : ℕ → QueryHead → List (List ℕ)
query_words handle (told.List lines) = codes "list" ∷ decimal handle ∷ decimal lines ∷ []
query_words handle (told.Counts c with_messages) =
    codes "counts" ∷ decimal handle ∷ decimal c.nodes ∷ decimal c.edges ∷ decimal c.node_attrs ∷ decimal c.edge_attrs
    ∷ (if with_messages then decimal c.messages ∷ [] else [])
query_words handle (told.NodeThere id degree) = codes "node" ∷ decimal handle ∷ decimal id ∷ codes "yes" ∷ decimal degree ∷ []
query_words handle (told.NodeAbsent id) = codes "node" ∷ decimal handle ∷ decimal id ∷ codes "no" ∷ []
query_words handle (told.Neighbours id lines) = codes "neighbours" ∷ decimal handle ∷ decimal id ∷ decimal lines ∷ []
