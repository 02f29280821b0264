-- Changes of a set, where a list of events is cut in two.
--     changes_front, changes_behind      so many of the changes, and those after them
--     changes_cut      the changes of one list and then of another
use Rattle.std.proofs.Common.{◌≡◌, ℕ, zero, suc, List, [], ◌∷◌, ◌++◌, take, drop, refl}
use Rattle.dg_graph.specs.declared.element.Element.{Element}
use Rattle.dg_graph.specs.declared.event.Event.{Event}
use Rattle.dg_graph.specs.Effect.{forwards}
use Rattle.dg_graph.specs.ExactEvents.{AreChangesOf}
use Rattle.dg_graph.specs.Replay.{replay_from}

-- the first so many
pub changes_front : (set : List Element) (i : ℕ) (events : List Event) → AreChangesOf set events → AreChangesOf set (take i events)
changes_front set zero events changes = tt
changes_front set (suc i) [] changes = tt
changes_front set (suc i) (e ∷ events) changes = (changes.0, changes_front (forwards set e) i events changes.1)

-- and those behind them
pub changes_behind : (set : List Element) (i : ℕ) (events : List Event) → AreChangesOf set events → AreChangesOf (replay_from set (take i events)) (drop i events)
changes_behind set zero events changes = changes
changes_behind set (suc i) [] changes = changes
changes_behind set (suc i) (e ∷ events) changes = changes_behind (forwards set e) i events changes.1

pub changes_cut : (set : List Element) (xs ys : List Event) → AreChangesOf set (xs ++ ys) → AreChangesOf set xs × AreChangesOf (replay_from set xs) ys
changes_cut set [] ys changes = (tt, changes)
changes_cut set (e ∷ xs) ys changes =
    let cut = changes_cut (forwards set e) xs ys changes.1 in
    ((changes.0, cut.0), cut.1)
