-- A part is written whole: its index is made, and all batches are added.
--     begun_at      no batch is written of a new index
--     stops_part      why a batch is not added, as why the part is not written
--     left_part      and what is left of the disk
--     whole_stands, whole_fits      the image behind the last batch
--     on_ok, if_err      what follows from a result
use Rattle.std.proofs.Common.{◌≡◌, inl, inr, ℕ, zero, suc, ◌-◌, ◌*◌, List, [], Option, Some, None, Result, Ok, Err, drop, length, refl, sym, subst, ◌∙◌, arith}
use Rattle.std.specs.Prelude.{IfErr, IfSome, OnOk}
use Rattle.std.proofs.lemmas.Bool.{false≢true}
use Rattle.std.proofs.lemmas.List.Elements.{All-nil}
use Rattle.dg_append.specs.declared.live.Live.{Live}
use Rattle.dg_append.specs.Overlays.{IsOverlayOf, pool_in}
use Rattle.dg_current.specs.Now.{NowState}
use Rattle.dg_disk.specs.declared.disk.Disk.{Ghosts}
use Rattle.dg_file.specs.Images.{BothTold}
use Rattle.dg_graph.specs.declared.event.Event.{Event}
use Rattle.dg_history.specs.declared.form.Form.TheVariants as form
use Rattle.dg_history.specs.declared.params.Params.{Params}
use Rattle.dg_history.specs.History.{History, empty_history}
use Rattle.dg_history.specs.LegalHistory.{IsLegal}
use Rattle.dg_index.specs.Hierarchy.{leaves}
use Rattle.dg_index.specs.ImageOfHistory.{IsImageOf}
use Rattle.dg_index.specs.OpenedIndex.{Opening, opened_of, opening}
use Rattle.dg_part_files.specs.declared.fault.PartFault.{PartFault}
use Rattle.dg_part_files.specs.declared.fault.PartFault.TheVariants as fault
use Rattle.dg_part_files.specs.PartFaults.{LeavesPart, StopsPart, StopsWriting}
use Rattle.dg_part_files.specs.WrittenParts.{HasRoom, IsAt, IsFrontOf, IsGoodPart, front_of, written}
use Rattle.dg_part_files.proofs.CutSteps.{all_cut, first_cut, follow_parts}
use Rattle.dg_stored.specs.StoredHistory.{IsSoundHistory, index_opening}

-- ---- a new index

-- the history without a batch
abbrev none_of : Params → History
none_of params = empty_history form.Two params

abbrev new_index : Params → Opening
new_index params = (opened_of (none_of params)).index

no_recent : (n : ℕ) → ◌≡◌ {A = List Event} [] (drop n [])
no_recent zero = refl
no_recent (suc n) = refl

new_sound : (params : Params) → IsSoundHistory (Some (new_index params)) [] (record { graph = []; pending = [] }) []
new_sound params = record {
  pending = refl;
  counted = (refl, let e : 0 ≡ 0 - leaves params 0 * params.l = omega arith in e);
  values = λ x h. absurd (false≢true h);
  named = λ x h. absurd (false≢true h);
  recent_named = All-nil _;
  fit = All-nil _;
  goes_on = λ t le. record { rises = tt; last = omega arith };
}

pub begun_at : (limit : ℕ) (params : Params) (names : List (List ℕ)) (events : List Event) → IsGoodPart params names events → (l : Live) (image : Option (List ℕ))
    → index_opening l.history.index ≡ Some (new_index params) → l.history.names ≡ names → l.history.now.graph ≡ [] → l.history.now.pending ≡ [] → l.history.recent.items ≡ [] → pool_in l.pool ≡ None
    → IfSome image (λ image. opening image ≡ Ok (opened_of (none_of params))) → IfSome image (IsImageOf (none_of params))
    → IsAt limit params names events 0 l image
begun_at limit params names events good l image there names_are graph pending recent pool opened stands = record {
  index = new_index params;
  count = 0;
  there = there;
  names_are = names_are;
  graph_is = graph;
  sound = subst (λ (x : NowState × List Event). IsSoundHistory (Some (new_index params)) [] x.0 x.1)
      (let e : (record { graph = []; pending = [] }, []) ≡ (l.history.now, l.history.recent.items) = λ i. (record { graph = sym graph i; pending = sym pending i }, sym recent i) in e)
      (new_sound params);
  pool = subst (IsOverlayOf l.history.now.graph) (sym pool) tt;
  params_are = refl;
  form_is = refl;
  counted = refl;
  earliest = refl;
  recent_are = recent ∙ no_recent (leaves params 0 * params.l);
  cuts = first_cut names events (follow_parts names [] 0 events good.follow).1;
  held = opened;
  stands = λ legal. stands;
  fits = λ legal. in_room image;
}
  where
    in_room : (o : Option (List ℕ)) → IfSome o (λ _. HasRoom limit (front_of (written params names events) 0))
    in_room None = tt
    in_room (Some x) = λ some. absurd (omega (arith, some))

-- ---- why it is not written

pub stops_part : {D : Type 0} (g : Ghosts D) (z : History) (old new : D) (limit : ℕ) (names : List (List ℕ)) (events : List Event) (why : PartFault) → StopsPart g limit z events old new why → StopsWriting limit z names events (g.image new) why
stops_part g z old new limit names events (fault.Name number) h = absurd h.reason
stops_part g z old new limit names events (fault.Crowded number) h = h.reason
stops_part g z old new limit names events (fault.Full needed) h = h.reason
stops_part g z old new limit names events (fault.Damaged key col) h = h.reason
stops_part g z old new limit names events fault.Disk h = tt
stops_part g z old new limit names events fault.Memory h = tt

-- ---- what is left

pub left_part : (z : History) (why : PartFault) (old new : Option (List ℕ)) → IfSome new (IsFrontOf z) → BothTold old new (LeavesPart z why)
left_part z why None new front = tt
left_part z why (Some x) None front = tt
left_part z why (Some x) (Some y) front = inr (inl front)

-- ---- behind all events

module _ (limit : ℕ) (params : Params) (names : List (List ℕ)) (events : List Event) (l : Live) (image : Option (List ℕ)) (a : IsAt limit params names events (length events) l image) where
  whole : front_of (written params names events) a.count ≡ written params names events
  whole = λ i. record { params = params; form = form.Two; batches = all_cut names events a.count a.cuts i }

  pub whole_stands : IsLegal (written params names events) → IfSome image (IsImageOf (written params names events))
  whole_stands legal = subst (λ (z : History). IfSome image (IsImageOf z)) whole (a.stands legal)

  pub whole_fits : IsLegal (written params names events) → IfSome image (λ _. HasRoom limit (written params names events))
  whole_fits legal = subst (λ (z : History). IfSome image (λ _. HasRoom limit z)) whole (a.fits legal)

-- ---- what follows from a result

pub on_ok : {A E P Q : Type 0} (r : Result A E) → OnOk r P → (P → Q) → OnOk r Q
on_ok (Ok x) h f = f h
on_ok (Err e) h f = tt

pub if_err : {A E : Type 0} {P Q : E → Type 0} (r : Result A E) → IfErr r P → ((e : E) → P e → Q e) → IfErr r Q
if_err (Ok x) h f = tt
if_err (Err e) h f = f e h
