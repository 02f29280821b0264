-- Turns go on with a batch, and those of a list stand in its column of node attributes.
use Rattle.std.proofs.Common.{◌≡◌, ℕ, ◌+◌, Bool, true, false, cond, List, [], ◌∷◌, ◌++◌, Option, Some, None, filter, nat_eq, refl, sym, ap, ◌∙◌}
use Rattle.std.proofs.lemmas.List.Concat.{flat_map-append}
use Rattle.std.proofs.lemmas.List.Sums.{sum_by-append}
use Rattle.std.specs.Option.{option_eq, option_map, option_to_list}
use Rattle.dg_graph.specs.declared.element.Element.TheVariants as element
use Rattle.dg_graph.specs.declared.event.Body.{Body}
use Rattle.dg_graph.specs.declared.event.Body.TheVariants as body
use Rattle.dg_graph.specs.declared.event.Event.{Event}
use Rattle.dg_graph.specs.Effect.{moved}
use Rattle.dg_aux.specs.declared.turns.Turn.{Turn}
use Rattle.dg_aux.specs.Turns.{AreAlike, additions, is_about, says, says_from, turn_of, turns_by, turns_of}
use Rattle.dg_aux.specs.TurnLaws.{BatchesKeepValues, ColumnsHaveTurns, is_in_column}

says_then : (b : Bool) (xs ys : List Turn) (v i t : ℕ) → says_from b (xs ++ ys) v i t ≡ says_from (says_from b xs v i t) ys v i t
says_then b [] ys v i t = refl
says_then b (m ∷ xs) ys v i t = says_then (cond (is_about v i t m) m.comes b) xs ys v i t

pub batches_keep : BatchesKeepValues
batches_keep key events more turns h =
    let new = turns_of key more in
    let joined = flat_map-append (λ (e : Event). turns_by key e) events more in
    let bring : Turn → ℕ = λ m. cond m.comes 1 0 in
    record {
      says = λ v i t.
          says_then false turns new v i t
          ∙ ap (λ b. says_from b new v i t) (h.says v i t)
          ∙ sym (says_then false (turns_of key events) new v i t)
          ∙ ap (λ l. says l v i t) (sym joined);
      additions =
          sum_by-append bring turns new
          ∙ ap (λ n. n + additions new) h.additions
          ∙ sym (sum_by-append bring (turns_of key events) new)
          ∙ ap additions (sym joined);
    }

-- ---- a column

edge_none : (key : ℕ) (comes : Bool) (t id k : ℕ) (a b : Option ℕ) → turn_of key comes t (moved (element.EdgeAttr id k) a b) ≡ None
edge_none key comes t id k a b =
    elim (option_eq nat_eq a b) as (λ s. turn_of key comes t (cond s None (option_map (element.EdgeAttr id k) a)) ≡ None) [
      | true ↦ refl
      | false ↦ by a
    ]
  where
    by : (a : Option ℕ) → turn_of key comes t (option_map (element.EdgeAttr id k) a) ≡ None
    by None = refl
    by (Some n) = refl

one_more : (key t : ℕ) (b : Body) (events : List Event) → turns_of key (filter is_in_column events) ≡ turns_of key events
    → turns_of key (filter is_in_column (record { time = t; body = b } ∷ events)) ≡ turns_by key (record { time = t; body = b }) ++ turns_of key events
one_more key t (body.NodeAdded id) events h = h
one_more key t (body.NodeRemoved id) events h = h
one_more key t (body.EdgeAdded directed id src dst) events h = h
one_more key t (body.EdgeRemoved directed id src dst) events h = h
one_more key t (body.NodeAttr k id old new) events h = ap (λ l. turns_by key (record { time = t; body = body.NodeAttr k id old new }) ++ l) h
one_more key t (body.EdgeAttr k id old new) events h =
    h
    ∙ sym (λ j. (option_to_list (edge_none key false t id k old new j) ++ option_to_list (edge_none key true t id k new old j)) ++ turns_of key events)
one_more key t (body.Message src dst value) events h = h

pub columns_have : ColumnsHaveTurns
columns_have key [] = refl
columns_have key (e ∷ events) = one_more key e.time e.body events (columns_have key events)
