-- The events of a legal history are changes, one after another, and can be spelled.
use Rattle.std.proofs.Common.{◌≡◌, ℕ, true, ◌||◌, List, [], ◌∷◌, length, is_some, nat_eq, arith}
use Rattle.std.specs.Option.{option_eq}
use Rattle.std.specs.List.{All}
use Rattle.std.proofs.lemmas.Bool.{and_parts}
use Rattle.std.proofs.lemmas.List.Elements.{All-head, All-tail}
use Rattle.dg_columns.specs.Ranges.{EventsFit, BodyFits}
use Rattle.dg_graph.specs.declared.element.Element.{Element}
use Rattle.dg_graph.specs.declared.event.Body.{Body}
use Rattle.dg_graph.specs.declared.event.Body.TheVariants as body
use Rattle.dg_graph.specs.declared.event.Event.{Event}
use Rattle.dg_graph.specs.Completion.{has_node, edge_of, node_value, edge_value, is_change_of, is_value_change}
use Rattle.dg_graph.specs.Effect.{forwards}
use Rattle.dg_graph.specs.MadeByChanges.{AreMadeByChanges}
use Rattle.dg_graph.proofs.Completions.{empty_graph}
use Rattle.dg_history.specs.History.{events_of, names_of}
use Rattle.dg_history.specs.LegalHistory.{FitsBody, FitsEvent}
use Rattle.dg_history.specs.EventTimes.{RisesFrom}
use Rattle.dg_history.proofs.EventTimes.{no_fall}
use Rattle.dg_history.proofs.LegalHistories.{all_fit, events_made, events_rise}
use Rattle.dg_history.proofs.ParameterRanges.{in_range}
use Rattle.dg_net.proofs.NetLaws.{changes_are_exact}
use Rattle.dg_fold.specs.HistoryTrees.{LegalIsIndexed}

body_fits : (n : ℕ) (set : List Element) (b : Body) → FitsBody n b → is_change_of set b ≡ true → BodyFits n b
body_fits n set (body.NodeAdded id) h c = h
body_fits n set (body.NodeRemoved id) h c = h
body_fits n set (body.EdgeAdded directed id src dst) h c = h
body_fits n set (body.EdgeRemoved directed id src dst) h c = h
body_fits n set (body.NodeAttr key id old new) h c =
    let change = (and_parts (has_node set id) (is_value_change (node_value set id key) old new) c).1 in
    record { id_fits = h.0; key_fits = h.1; old_fits = h.2; new_fits = h.3; some = (and_parts (option_eq nat_eq old (node_value set id key)) (is_some old || is_some new) change).1 }
body_fits n set (body.EdgeAttr key id old new) h c =
    let change = (and_parts (is_some (edge_of set id)) (is_value_change (edge_value set id key) old new) c).1 in
    record { id_fits = h.0; key_fits = h.1; old_fits = h.2; new_fits = h.3; some = (and_parts (option_eq nat_eq old (edge_value set id key)) (is_some old || is_some new) change).1 }
body_fits n set (body.Message src dst value) h c = h

made_fit : (n t : ℕ) (set : List Element) (events : List Event) → RisesFrom t events → AreMadeByChanges set events → All (FitsEvent n) events → EventsFit n t events
made_fit n t set [] rises made fit = tt
made_fit n t set (e ∷ events) rises made fit =
    let here : FitsEvent n e = All-head (FitsEvent n) e events fit in (
      record { not_before = rises.0; not_after = here.0; fits = body_fits n set e.body here.1 made.0 },
      made_fit n e.time (forwards set e) events rises.1 made.1 (All-tail (FitsEvent n) e events fit),
    )

pub legal_is_indexed : LegalIsIndexed
legal_is_indexed z legal =
    let n = length (names_of z) in
    let rises = events_rise z legal in
    let made = events_made z legal in
    let range = in_range z.params.l z.params.k legal.parameters in
    let wide = range.arity_two in
    let few_names = legal.few_names in (
      record {
        names_fit = omega (arith, few_names);
        lists = range.list_some;
        short = range.list_most;
        arity = omega (arith, wide);
        few = legal.few;
        fits = made_fit n 0 [] (events_of z) rises made (all_fit (names_of z) [] z.batches legal.batches);
        changes = changes_are_exact [] (events_of z) empty_graph made;
      },
      no_fall 0 (events_of z) rises,
    )
