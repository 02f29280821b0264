-- The events that are read of the index of a session.
use Rattle.std.proofs.Common.{◌≡◌, ℕ, List, Option, Some, None, sym, ap, subst, ◌∙◌, arith}
use Rattle.std.specs.Prelude.{IfSome}
use Rattle.dg_graph.specs.declared.event.Event.{Event}
use Rattle.dg_history.specs.History.{History, events_of}
use Rattle.dg_index.specs.ImageOfHistory.{StandsAs}
use Rattle.dg_machine.specs.MachineState.{MachineState, history_in}
use Rattle.dg_partition.proofs.PartLegality.{uncrowded}
use Rattle.dg_session.specs.Parts.{Parts}
use Rattle.dg_session.specs.Session.{StandsFor}
use Rattle.dg_splitting.specs.WholeHistory.{AreApart, IsFirstCrowded, MayStand}
use Rattle.dg_splitting.proofs.OutLists.{at_told}
use Rattle.dg_splitting.proofs.PartEvents.{none_crowded}

apart_of : (index : Option History) (image : List ℕ) → StandsAs index image → AreApart (events_of (history_in index))
apart_of None image h = λ t. omega arith
apart_of (Some z) image h = uncrowded z h.legal

-- none of the events of an index is crowded, over an image for which the session stands
pub never_crowded : (p : Parts) (told : Option (List ℕ)) (events slice : List Event) (number : ℕ)
    → IfSome told (λ image. (m : MachineState) → StandsFor p image m → events ≡ events_of (history_in m.index)) → slice ≡ events → IsFirstCrowded slice number → MayStand p told → ⊥
never_crowded p told events slice number own is crowd may =
    let m : MachineState = may.2.0 in
    let all = at_told told (λ image. (m : MachineState) → StandsFor p image m → events ≡ events_of (history_in m.index)) own may.0 may.1 m may.2.1 in
    none_crowded slice number (subst AreApart (sym (is ∙ all)) (apart_of m.index may.0 may.2.1.image_stands)) crowd.crowded
