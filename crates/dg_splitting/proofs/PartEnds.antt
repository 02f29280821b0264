-- How a part is written, and why it is not.
use Rattle.std.proofs.Common.{◌≡◌, ◌⊎◌, inl, inr, ℕ, zero, suc, Bool, true, false, ◌&&◌, ◌++◌, List, [], ◌∷◌, Option, Some, None, length, refl, sym, ap, subst, ◌∙◌, nat_le}
use Rattle.std.specs.Prelude.{IfSome, is_some, not, slice_get}
use Rattle.std.proofs.lemmas.Bool.{and_parts}
use Rattle.dg_disk.specs.Calls.{Fails}
use Rattle.dg_disk.specs.declared.disk.Disk.{Ghosts}
use Rattle.dg_file.specs.Images.{BothTold}
use Rattle.dg_graph.specs.declared.event.Event.{Event}
use Rattle.dg_history.specs.declared.params.Params.{Params}
use Rattle.dg_history.specs.History.{History}
use Rattle.dg_history.specs.LegalHistory.{IsLegal}
use Rattle.dg_index.specs.ImageOfHistory.{IsImageOf}
use Rattle.dg_index.specs.OpenedIndex.{may_be_named}
use Rattle.dg_part_files.specs.declared.fault.PartFault.{PartFault}
use Rattle.dg_part_files.specs.declared.fault.PartFault.TheVariants as part_fault
use Rattle.dg_part_files.specs.PartFaults.{IsNoName, LeavesPart, StopsWriting}
use Rattle.dg_part_files.specs.WrittenParts.{HasRoom, written}
use Rattle.dg_partition.specs.Owners.{events_of_part}
use Rattle.dg_splitting.specs.declared.status.SplitStatus.{SplitStatus}
use Rattle.dg_splitting.specs.declared.status.SplitStatus.TheVariants as status
use Rattle.dg_splitting.specs.Endings.{of_part}
use Rattle.dg_splitting.specs.Ends.{IsLeft, StandsWithin, StopsPart}
use Rattle.dg_splitting.specs.WholeHistory.{AreApart, AreWhole}
use Rattle.dg_splitting.proofs.PartEvents.{none_crowded, part_is_whole}
use Rattle.dg_text.specs.Names.{are_new, is_name, number_of}

-- ---- names

-- each of them may be a name
name_is : (before texts : List (List ℕ)) (n : ℕ) (text : List ℕ) → are_new before texts ≡ true → slice_get texts n ≡ Some text → is_name text ≡ true
name_is before [] n text new there = absurd cc
name_is before (x ∷ texts) zero text new there =
    let same : x ≡ text = let e : Some x ≡ Some text = there in cc in
    ap is_name (sym same) ∙ (and_parts (is_name x) _ new).0
name_is before (x ∷ texts) (suc n) text new there =
    let rest = and_parts (is_name x) _ new in
    let more = and_parts (not (is_some (number_of before x))) _ rest.1 in
    name_is (before ++ x ∷ []) texts n text more.1 there

no_bad_name : (names : List (List ℕ)) (number : ℕ) → may_be_named [] names ≡ true → IsNoName names number → ⊥
no_bad_name names number named bad =
    let new = and_parts (are_new [] names) _ named in
    let is : is_name bad.text ≡ true = name_is [] names number bad.text new.0 bad.there in
    let other : is_name bad.text ≡ false = bad.barred in
    let e : true ≡ false = sym is ∙ other in
    cc

-- ---- images

none_there : {X : Type 0} (told : Option X) → IfSome told (λ x. ⊥) → told ≡ None
none_there None h = refl
none_there (Some x) h = absurd h

none_before : {X : Type 0} (old new : Option X) → is_some new ≡ is_some old → new ≡ None → old ≡ None
none_before None new same none = refl
none_before (Some x) new same none = absurd (let e : false ≡ true = sym (ap is_some none) ∙ same in cc)

-- ---- why

module _ {D : Type 0} (g : Ghosts D) (limit part : ℕ) (params : Params) (names : List (List ℕ)) (events : List Event) where
  pub stops_part : (f : PartFault) (old new : D) → AreApart events → StopsWriting limit (written params names events) names events (g.image new) f → (f ≡ part_fault.Disk → Fails g old new)
      → is_some (g.image new) ≡ is_some (g.image old) → StopsPart g limit part names (written params names events) (of_part part f) old new
  stops_part (part_fault.Name number) old new apart why cause told = λ named legal. absurd (no_bad_name names number named why)
  stops_part (part_fault.Crowded event) old new apart why cause told = absurd (none_crowded events event apart why.0)
  stops_part (part_fault.Full needed) old new apart why cause told = (refl, why.0, why.1)
  stops_part (part_fault.Damaged key col) old new apart why cause told =
      λ named legal. none_before (g.image old) (g.image new) told (none_there (g.image new) (why legal))
  stops_part part_fault.Disk old new apart why cause told = cause refl
  stops_part part_fault.Memory old new apart why cause told = tt

-- ---- what is left

left_part : (z : History) (part : ℕ) (f : PartFault) (before after : List ℕ) → LeavesPart z f before after → IsLeft z (of_part part f) part part before after
left_part z part f before after (inl blank) = inl blank
left_part z part f before after (inr (inl front)) = inr (inl front)
left_part z part f before after (inr (inr h)) = inr (inr (ap (of_part part) h.0, refl, h.1))

pub front_part : (z : History) (part : ℕ) (f : PartFault) (old new : Option (List ℕ)) → BothTold old new (LeavesPart z f) → BothTold old new (IsLeft z (of_part part f) part part)
front_part z part f None new h = tt
front_part z part f (Some before) None h = tt
front_part z part f (Some before) (Some after) h = left_part z part f before after h

-- ---- a part, by its events

-- the events of the part may be written
pub events_may : (names : List (List ℕ)) (parts part : ℕ) (events own slice : List Event) → AreWhole names events → own ≡ events_of_part parts part events → slice ≡ own → AreWhole names slice
events_may names parts part events own slice whole is same = subst (AreWhole names) (sym (same ∙ is)) (part_is_whole parts part names events whole)

-- it stands in its out, and has room
pub stands_part : (limit : ℕ) (params : Params) (names : List (List ℕ)) (slice own : List Event) (told : Option (List ℕ)) → slice ≡ own
    → (IsLegal (written params names slice) → IfSome told (IsImageOf (written params names slice))) → (IsLegal (written params names slice) → IfSome told (λ _. HasRoom limit (written params names slice)))
    → IsLegal (written params names own) → IfSome told (StandsWithin limit (written params names own))
stands_part limit params names slice own told same image room legal =
    subst (λ (es : List Event). IsLegal (written params names es) → IfSome told (StandsWithin limit (written params names es))) same (by told image room) legal
  where
    by : (told : Option (List ℕ)) → (IsLegal (written params names slice) → IfSome told (IsImageOf (written params names slice)))
        → (IsLegal (written params names slice) → IfSome told (λ _. HasRoom limit (written params names slice))) → IsLegal (written params names slice) → IfSome told (StandsWithin limit (written params names slice))
    by None image room legal = tt
    by (Some x) image room legal = (image legal, room legal)

module _ {D : Type 0} (g : Ghosts D) (limit part : ℕ) (params : Params) (names : List (List ℕ)) (slice own : List Event) (same : slice ≡ own) (f : PartFault) (s : SplitStatus) (is : s ≡ of_part part f) (old new : D) where
  pub part_stops : AreApart slice → StopsWriting limit (written params names slice) names slice (g.image new) f → (f ≡ part_fault.Disk → Fails g old new)
      → is_some (g.image new) ≡ is_some (g.image old) → StopsPart g limit part names (written params names own) s old new
  part_stops apart why cause told =
      subst (λ (t : SplitStatus). StopsPart g limit part names (written params names own) t old new) (sym is)
      (subst (λ (es : List Event). StopsPart g limit part names (written params names es) (of_part part f) old new) same (stops_part g limit part params names slice f old new apart why cause told))

  pub part_front : (IsLegal (written params names slice) → BothTold (g.image old) (g.image new) (LeavesPart (written params names slice) f))
      → IsLegal (written params names own) → BothTold (g.image old) (g.image new) (IsLeft (written params names own) s part part)
  part_front front legal =
      subst (λ (t : SplitStatus). BothTold (g.image old) (g.image new) (IsLeft (written params names own) t part part)) (sym is)
      (subst (λ (es : List Event). IsLegal (written params names es) → BothTold (g.image old) (g.image new) (IsLeft (written params names es) (of_part part f) part part)) same
      (λ legal. front_part (written params names slice) part f (g.image old) (g.image new) (front legal)) legal)
