-- The names in the answer to each query are there, where those of the graph are.
use Rattle.std.proofs.Common.{◌≡◌, ℕ, Bool, true, false, List, [], ◌∷◌, Option, Some, None, if◌then◌else◌, map, refl}
use Rattle.std.specs.Prelude.{◌||◌, ◌==◌, IfSome}
use Rattle.std.specs.List.{All, cons_option}
use Rattle.std.proofs.lemmas.List.Elements.{All-cons, All-nil}
use Rattle.dg_graph.proofs.Sets.{has_first}
use Rattle.dg_graph.specs.Elements.{has, same}
use Rattle.dg_graph.specs.declared.element.Columns.{Columns}
use Rattle.dg_graph.specs.declared.element.Element.{Element}
use Rattle.dg_graph.specs.declared.element.Element.TheVariants as element
use Rattle.dg_machine.specs.Answer.{asked, query_reply}
use Rattle.dg_machine.specs.QueryTable.{Told}
use Rattle.dg_machine.specs.declared.query.Query.{Query}
use Rattle.dg_machine.specs.declared.query.Query.TheVariants as query
use Rattle.dg_machine.specs.declared.query.QueryHead.TheVariants as told
use Rattle.dg_machine.specs.declared.reply.BodyLine.{BodyLine}
use Rattle.dg_machine.specs.declared.reply.BodyLine.TheVariants as line
use Rattle.dg_query.specs.Queries.{degree_of, neighbours_of, value_at, values_of}
use Rattle.dg_query.specs.declared.answers.KeyValue.{KeyValue}
use Rattle.dg_retrieval.specs.NamesThere.{HasNamesThere, NamesAreThere}
use Rattle.dg_ask.specs.ReplyNames.{LineNamesAreThere, ReplyNamesAreThere}

module _ (n : ℕ) where
  -- lines that are each made so that they have none
  pub made_names : {A : Type 0} (make : A → BodyLine) → ((x : A) → LineNamesAreThere n (make x)) → (xs : List A) → All (LineNamesAreThere n) (map make xs)
  made_names make each [] = All-nil (LineNamesAreThere n)
  made_names make each (x ∷ xs) = All-cons (LineNamesAreThere n) (make x) (map make xs) (each x) (made_names make each xs)

  or_true : (a b : Bool) → b ≡ true → (a || b) ≡ true
  or_true true b h = refl
  or_true false b h = h

  element_names : (set : List Element) → NamesAreThere n set → All (LineNamesAreThere n) (map (λ x. line.Element x) set)
  element_names [] there = All-nil (LineNamesAreThere n)
  element_names (x ∷ set) there =
      All-cons (LineNamesAreThere n) (line.Element x) (map (λ x. line.Element x) set) (there x (has_first x set)) (element_names set (λ y among. there y (or_true (same y x) (has set y) among)))

  value_names : (id : ℕ) (x : Element) → HasNamesThere n x → IfSome (value_at id x) (λ v. LineNamesAreThere n (line.Attribute v))
  value_names id (element.Node i) h = tt
  value_names id (element.Edge directed i src dst) h = tt
  value_names id (element.EdgeAttr i key value) h = tt
  value_names id (element.Message src dst value) h = tt
  value_names id (element.NodeAttr i key value) h = by (i == id)
    where
      by : (b : Bool) → IfSome (if b then Some (let v : KeyValue = record { key = key; value = value } in v) else None) (λ v. LineNamesAreThere n (line.Attribute v))
      by true = h
      by false = tt

  attribute_names : (id : ℕ) (set : List Element) → NamesAreThere n set → All (LineNamesAreThere n) (map (λ v. line.Attribute v) (values_of set id))
  attribute_names id [] there = All-nil (LineNamesAreThere n)
  attribute_names id (x ∷ set) there =
      by (value_at id x) (value_names id x (there x (has_first x set))) (attribute_names id set (λ y among. there y (or_true (same y x) (has set y) among)))
    where
      by : (o : Option KeyValue) → IfSome o (λ v. LineNamesAreThere n (line.Attribute v)) → All (LineNamesAreThere n) (map (λ v. line.Attribute v) (values_of set id))
          → All (LineNamesAreThere n) (map (λ v. line.Attribute v) (cons_option o (values_of set id)))
      by None h rest = rest
      by (Some v) h rest = All-cons (LineNamesAreThere n) (line.Attribute v) (map (λ v. line.Attribute v) (values_of set id)) h rest

  node_names : (handle id : ℕ) (cols : Columns) (set : List Element) → NamesAreThere n set → ReplyNamesAreThere n (query_reply (query.Node id) handle cols set)
  node_names handle id cols set there = by (has set (element.Node id))
    where
      at : Told
      at = record { head = told.NodeThere id (degree_of set id); body = map (λ v. line.Attribute v) (values_of set id) }

      absent : Told
      absent = record { head = told.NodeAbsent id; body = [] }

      by : (b : Bool) → ReplyNamesAreThere n (asked handle (if b then at else absent))
      by true = attribute_names id set there
      by false = All-nil (LineNamesAreThere n)

  pub told_names : (q : Query) (handle : ℕ) (cols : Columns) (set : List Element) → NamesAreThere n set → ReplyNamesAreThere n (query_reply q handle cols set)
  told_names query.List handle cols set there = element_names set there
  told_names query.Counts handle cols set there = All-nil (LineNamesAreThere n)
  told_names (query.Node id) handle cols set there = node_names handle id cols set there
  told_names (query.Neighbours id) handle cols set there = made_names (λ x. line.Neighbour x) (λ x. tt) (neighbours_of set id)
