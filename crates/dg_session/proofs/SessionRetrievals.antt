-- What a retrieval gives of the state that a session stands for, and how its answer is a step of the machine.
use Rattle.std.proofs.Common.{◌≡◌, inl, inr, ⊎_elim, ℕ, suc, ◌+◌, ◌≤◌, Bool, true, false, not, List, [], ◌∷◌, ◌++◌, Option, Some, None, Err, length, map, refl, sym, ◌∙◌, ap, subst, arith, append_assoc}
use Rattle.std.specs.Prelude.{IfSome, is_some, ◌||◌}
use Rattle.std.specs.List.{All, Contains, list_any}
use Rattle.std.proofs.lemmas.Bool.{false≢true, not-false}
use Rattle.std.proofs.lemmas.List.{append-nil}
use Rattle.std.proofs.lemmas.List.Elements.{All-cons, All-head, All-nil, All-tail}
use Rattle.dg_fold.specs.BytesRead.{Takes, TakesAtMost}
use Rattle.dg_graph.specs.declared.element.Column.{Column}
use Rattle.dg_graph.specs.declared.element.Columns.{Columns}
use Rattle.dg_graph.specs.declared.element.Element.{Element}
use Rattle.dg_graph.specs.declared.event.Event.{Event}
use Rattle.dg_text.specs.Lines.{ScriptLine}
use Rattle.dg_handles.specs.Handles.{numbered, overlays_on}
use Rattle.dg_history.specs.declared.node.Key.{Key}
use Rattle.dg_history.specs.declared.node.NodeId.{NodeId}
use Rattle.dg_history.specs.History.{History, events_of, in_range, span_of}
use Rattle.dg_index.specs.OpenedIndex.{Opening, event_total}
use Rattle.dg_machine.specs.declared.command.Command.{Command}
use Rattle.dg_machine.specs.declared.limits.TheConstants.{HANDLE_MAX, LIVE_HANDLES_MAX}
use Rattle.dg_machine.specs.declared.reply.Refusal.{Refusal}
use Rattle.dg_machine.specs.declared.reply.Refusal.TheVariants as refusal
use Rattle.dg_machine.specs.declared.reply.Reply.{Reply}
use Rattle.dg_machine.specs.declared.reply.Reply.TheVariants as replied
use Rattle.dg_machine.specs.declared.stands.Stands.{Stands}
use Rattle.dg_machine.specs.declared.stands.Shown.TheVariants.{Overlay}
use Rattle.dg_machine.specs.Answer.{Answered, IsPlannedBy, accepted, is_refusal, overlays, weight_told, with_handle, with_handles}
use Rattle.dg_machine.specs.MachineState.{MachineState, elements, history_in}
use Rattle.dg_machine.specs.Needs.{needs, refused}
use Rattle.dg_machine.specs.Planning.{IsPlanned, Planned, point_for, points_for}
use Rattle.dg_plan.specs.InstantPoint.{point}
use Rattle.dg_file.specs.Index.{IndexState}
use Rattle.dg_records.specs.declared.fault.RecordFault.{RecordFault}
use Rattle.dg_records.specs.declared.fault.RecordFault.TheVariants as retrieval_fault
use Rattle.dg_retrieval.specs.KeptGraph.{kept_nodes}
use Rattle.dg_retrieval.specs.Retrieval.{ArePoints, IsNoDamage, IsOver}
use Rattle.dg_session.proofs.ReplyNames.{names_stay}
use Rattle.dg_session.proofs.PlanStep.{point_here, point_is}
use Rattle.dg_ask.proofs.PointNodes.{IsSoundIndex, point_there}
use Rattle.dg_session.proofs.PartStates.{events_there, handle_taken, instants_are, miss, is_of, one_told, passes, refused_is}
use Rattle.dg_session.proofs.SessionSteps.{AcceptedBehindReads, accepted_is, accepted_steps, failing_accepted, lacking_denies}
use Rattle.dg_batch.specs.Halt.{retrieval_halt}
use Rattle.dg_session.specs.contracts.session.Session.{the_view}
use Rattle.dg_session.specs.declared.session.Session.TheInside.{Inside}
use Rattle.dg_ask.specs.HeldIndex.{point_over, points_over, span_held}
use Rattle.dg_ask.specs.ReplyNames.{ReplyNamesAreThere}
use Rattle.dg_session.specs.Decided.{Fits}
use Rattle.dg_session.specs.Parts.{Parts}
use Rattle.dg_session.specs.BatchReads.{is_early}
use Rattle.dg_session.specs.Reads.{IsRetrieved, Reads, ReadsAsTold, ReadsBy, ReadsIn, with_new_handles}
use Rattle.dg_stored.specs.StoredHistory.{IsHeldBy, index_opening}
use Rattle.dg_session.proofs.Needed.{has_needed}
use Rattle.dg_session.specs.Session.{Accepts, ComesTo, Moves, StandsFor, WhereBothTold, is_reached, refused_by, retrieval_needs}

-- ---- what is not refused

-- the instant does not lie between these
abbrev pub is_out : Option (ℕ × ℕ) → ℕ → Bool
is_out span t = not (in_range span t)

-- what a retrieval that is not refused finds: an index, instants that are in its history, and room for the handles
pub retrieval_free : (p : Parts) (times : List ℕ) (n : ℕ) → 1 ≤ n → refused_by p 0 (retrieval_needs times n) ≡ None
    → (is_some p.index ≡ true) × (list_any (is_out (span_held p.index)) times ≡ false) × (length p.table + n ≤ LIVE_HANDLES_MAX)
    × (p.next + n ≤ HANDLE_MAX + 1)
retrieval_free p times n some none =
    let has = has_needed p 0 (retrieval_needs times n) none in
    (has.index refl, has.instants, has.room some, has.numbers some)

-- where it is not refused for so many handles, it is not for none
pub without_handles : (p : Parts) (times : List ℕ) (n : ℕ) → refused_by p 0 (retrieval_needs times n) ≡ None → refused_by p 0 (retrieval_needs times 0) ≡ None
without_handles p times n none =
    let a = passes (not (is_some p.index)) refusal.NoIndex _ none in
    let b = passes (list_any (is_out (span_held p.index)) times) (refusal.OutOfRange (span_held p.index)) _ a.1 in
    miss (not (is_some p.index)) refusal.NoIndex _ a.0 ∙ miss (list_any (is_out (span_held p.index)) times) (refusal.OutOfRange (span_held p.index)) _ b.0

pub there_is : (i : Option Opening) → is_some i ≡ true → (o : Opening) × (i ≡ Some o)
there_is None h = absurd (false≢true h)
there_is (Some o) h = (o, refl)

-- ---- the instants

or_left : (a b : Bool) → (a || b) ≡ false → a ≡ false
or_left true b h = sym (sym h)
or_left false b h = refl

or_right : (a b : Bool) → (a || b) ≡ false → b ≡ false
or_right true b h = absurd (false≢true (sym h))
or_right false b h = h

-- what holds of each instant that is not out holds of all of them
pub each_in : {A : Type 0} (out : ℕ → Bool) (P : A → Type 0) (f : ℕ → A) (times : List ℕ) → ((t : ℕ) → out t ≡ false → P (f t)) → list_any out times ≡ false → All P (map f times)
each_in out P f [] each h = All-nil P
each_in out P f (t ∷ times) each h =
    All-cons P (f t) (map f times) (each t (or_left (out t) (list_any out times) h)) (each_in out P f times each (or_right (out t) (list_any out times) h))

-- and what is equal at each of them is equal
each_same : {A : Type 0} (out : ℕ → Bool) (f g : ℕ → A) (times : List ℕ) → ((t : ℕ) → out t ≡ false → f t ≡ g t) → list_any out times ≡ false → map f times ≡ map g times
each_same out f g [] each h = refl
each_same out f g (t ∷ times) each h =
    λ i. each t (or_left (out t) (list_any out times) h) i ∷ each_same out f g times each (or_right (out t) (list_any out times) h) i

-- the points of instants that are in the history are nodes of the graph
pub points_there : (o : Opening) (recent : List Event) (cols : Columns) (times : List ℕ) → IsSoundIndex o → list_any (is_out (span_held (Some o))) times ≡ false
    → All (Contains (kept_nodes o (event_total o.batches) cols)) (points_over o recent times)
points_there o recent cols times sound =
    each_in (is_out (span_held (Some o))) (Contains (kept_nodes o (event_total o.batches) cols)) (point_over o recent) times
    (λ t h. point_there o recent t cols sound (not-false (in_range (span_held (Some o)) t) h))

-- a retrieval that is not refused is of instants that are between those that the index tells
pub instants_inside : (p : Parts) (o : Opening) (times : List ℕ) → p.index ≡ Some o → refused_by p 0 (retrieval_needs times 0) ≡ None
    → list_any (is_out (span_held (Some o))) times ≡ false
instants_inside p o times there none =
    ap (λ (i : Option Opening). list_any (is_out (span_held i)) times) (sym there) ∙ (has_needed p 0 (retrieval_needs times 0) none).instants

-- ---- the state that the session stands for

module _ (p : Parts) (o : Opening) (image : List ℕ) (m : MachineState) (there : p.index ≡ Some o) (s : StandsFor p image m) where
  abbrev pub z_of : History
  z_of = (is_of p o image m there s).0

  pub points_are : (times : List ℕ) → list_any (is_out (span_held (Some o))) times ≡ false → points_over o p.recent times ≡ points_for m times
  points_are times =
      each_same (is_out (span_held (Some o))) (point_over o p.recent) (point_for m) times
      (λ t h. point_is p o image m there s t (not-false (in_range (span_held (Some o)) t) h))

  -- the image stands for its history, and what is in memory is of that history
  pub is_over : IsOver z_of image o (length p.names) p.graph p.recent
  is_over = record {
    stands = (is_of p o image m there s).1.stands;
    opened = (is_of p o image m there s).1.opened;
    names = ap length (is_of p o image m there s).1.names;
    now = (is_of p o image m there s).1.graph;
    recent = (is_of p o image m there s).1.recent;
  }

  pub at_points : (times : List ℕ) → list_any (is_out (span_held (Some o))) times ≡ false → ArePoints z_of (points_over o p.recent times) times
  at_points times =
      each_same (is_out (span_held (Some o))) (point_over o p.recent) (point z_of.params (events_of z_of)) times
      (λ t h. point_here p o image m there s t (not-false (in_range (span_held (Some o)) t) h))

-- ---- new handles

pub handles_taken : (p q : Parts) (image : List ℕ) (m : MachineState) (all : List Stands) → StandsFor p image m → is_some p.index ≡ true
    → All (λ (x : Stands). is_reached (history_in m.index) x ≡ true) all → q ≡ with_new_handles p all (map (elements (history_in m.index)) all)
    → StandsFor q image (with_handles m all)
handles_taken p q image m [] s there reached is = subst (λ (x : Parts). StandsFor x image m) (sym (is ∙ same)) s
  where
    no_more : p.next + 0 ≡ p.next
    no_more = omega arith

    same : with_new_handles p [] [] ≡ p
    same = λ i. record p { table = append-nil p.table i; graphs = append-nil p.graphs i; next = no_more i }
handles_taken p q image m (x ∷ all) s there reached is =
    handles_taken one q image (with_handle m x) all
    (handle_taken p one image m x graph s there (All-head reaches x all reached) refl refl)
    there (All-tail reaches x all reached) (is ∙ same)
  where
    reaches : Stands → Type 0
    reaches y = is_reached (history_in m.index) y ≡ true

    graph : List Element
    graph = elements (history_in m.index) x

    one : Parts
    one = record p { table = p.table ++ (p.next, x) ∷ []; graphs = p.graphs ++ graph ∷ []; next = p.next + 1 }

    more : List (List Element)
    more = map (elements (history_in m.index)) all

    count : p.next + suc (length all) ≡ p.next + 1 + length all
    count = omega arith

    same : with_new_handles p (x ∷ all) (graph ∷ more) ≡ with_new_handles one all more
    same = λ i. record p {
      table = sym (append_assoc p.table ((p.next, x) ∷ []) (numbered (p.next + 1) all)) i;
      graphs = sym (append_assoc p.graphs (graph ∷ []) more) i;
      next = count i;
    }

-- the instants of a retrieval that is not refused are in the history
pub instants_reached : (p : Parts) (image : List ℕ) (m : MachineState) (times : List ℕ) (bases : List (Option ℕ)) (cols : Columns) → StandsFor p image m → list_any (is_out (span_held p.index)) times ≡ false
    → All (λ (x : Stands). is_reached (history_in m.index) x ≡ true) (overlays_on cols times bases)
instants_reached p image m [] bases cols s h = All-nil (λ (x : Stands). is_reached (history_in m.index) x ≡ true)
instants_reached p image m (t ∷ times) [] cols s h = All-nil (λ (x : Stands). is_reached (history_in m.index) x ≡ true)
instants_reached p image m (t ∷ times) (b ∷ bases) cols s h =
    All-cons (λ (x : Stands). is_reached (history_in m.index) x ≡ true) (record { what = Overlay t b; cols = cols }) (overlays_on cols times bases)
    (ap (λ (es : List Event). in_range (span_of es) t) (events_there m.index) ∙ ap (λ (ends : Option (ℕ × ℕ)). in_range ends t) (sym (instants_are p image m s))
    ∙ not-false (in_range (span_held p.index) t) (or_left (is_out (span_held p.index) t) (list_any (is_out (span_held p.index)) times) h))
    (instants_reached p image m times bases cols s (or_right (is_out (span_held p.index) t) (list_any (is_out (span_held p.index)) times) h))

-- the overlays on the bases that a function gives for the points of the instants
pub overlays_same : (cols : Columns) (point : ℕ → NodeId) (base : NodeId → Option ℕ) (times : List ℕ)
    → overlays_on cols times (map base (map point times)) ≡ overlays cols (λ t. base (point t)) times
overlays_same cols point base [] = refl
overlays_same cols point base (t ∷ times) = λ i. record { what = Overlay t (base (point t)); cols = cols } ∷ overlays_same cols point base times i

-- the state that the session stands for with the new handles
pub handles_stand : (p q : Parts) (x y : List ℕ) (m : MachineState) (times : List ℕ) (cols : Columns) (weight : ℕ) (singles : List ℕ) (bases : List (Option ℕ)) (graphs : List (List Element))
    → StandsFor p x m → x ≡ y → 1 ≤ length times → refused_by p 0 (retrieval_needs times (length times)) ≡ None → IsRetrieved m times cols weight singles bases graphs
    → q ≡ with_new_handles p (overlays_on cols times bases) graphs → StandsFor q y (with_handles m (overlays_on cols times bases))
handles_stand p q x y m times cols weight singles bases graphs s same some none r is =
    let free = retrieval_free p times (length times) some none in
    handles_taken p q y m (overlays_on cols times bases) (subst (λ image. StandsFor p image m) same s) free.0 (instants_reached p x m times bases cols s free.1)
    (is ∙ ap (λ gs. with_new_handles p (overlays_on cols times bases) gs) r.listed)

-- ---- the step

-- a reply of a command that is not refused, by what is planned for it in the state, and the state that the session then stands for
pub moved_with : (c : Command) (old new : Parts) (before after : Option (List ℕ)) (reply : Reply) → refused_by old 0 (needs c) ≡ None
    → ((m : MachineState) (x y : List ℕ) → before ≡ Some x → after ≡ Some y → StandsFor old x m
    → (plan : Planned) × (k : MachineState) × IsPlanned m c plan × (accepted m c [] plan ≡ record { reply = reply; state = k }) × StandsFor new y k)
    → WhereBothTold before after (λ x y. Moves c [] old x new y reply)
moved_with c old new before after reply none step x y a b m s =
    let free : refused m c [] ≡ None = sym (refused_is old x m c [] s) ∙ none in
    let k = step m x y a b s in
    (k.1, accepted_steps m c [] k.0 (record { reply = reply; state = k.1 }) free k.2 (accepted_is m c [] k.0 (record { reply = reply; state = k.1 }) free k.3), k.4)

-- a retrieval that gives new handles
pub retrieval_accepted : (c : Command) (p q : Parts) (before after : Option (List ℕ)) (new : List Stands) (graphs : List (List Element)) (reply : Reply)
    → WhereBothTold before after (λ x y. Moves c [] p x q y reply) → is_refusal reply ≡ false → refused_by p 0 (needs c) ≡ None → Fits c reply
    → after ≡ before → q ≡ with_new_handles p new graphs → ReplyNamesAreThere (length q.names) reply → Accepts c [] p before q after reply
retrieval_accepted c p q before after new graphs reply moves accepts free fits same is named = record {
  moves = moves;
  accepted = accepts;
  free = free;
  fits = fits;
  held = λ h. subst (λ (x : Parts). IfSome after (λ image. IsHeldBy x.index x.names image)) (sym is) (subst (λ (o : Option (List ℕ)). IfSome o (λ image. IsHeldBy p.index p.names image)) (sym same) h);
  no_index = λ h. (ap (λ (x : Parts). x.index) (sym is) ∙ h, same);
  quiet = λ h. same;
  named = named;
  keeps_names = names_stay p.names q.names (ap (λ (x : Parts). x.names) is);
}

no_damage : (key : Key) (col : Column) → IsNoDamage (retrieval_fault.Damaged key col) → ⊥
no_damage key col h = ⊎_elim (λ (e : retrieval_fault.Damaged key col ≡ retrieval_fault.Disk). absurd cc) (λ (e : retrieval_fault.Damaged key col ≡ retrieval_fault.Memory). absurd cc) h

-- a retrieval that fails is refused by a failed read or by want of memory, since an image of a history is not damaged
pub retrieval_failed : (c : Command) (p q : Parts) (before after : Option (List ℕ)) (f : RecordFault) → (needs c).memory ≡ true → (needs c).reads ≡ true → AcceptedBehindReads c [] → refused_by p 0 (needs c) ≡ None
    → q ≡ p → after ≡ before → IfSome before (λ image. (m : MachineState) → StandsFor p image m → IsNoDamage f) → ComesTo c [] p before q after (Err (retrieval_halt f))
retrieval_failed c p q before after retrieval_fault.Disk memory reads behind none same same_image never = failing_accepted c [] p q before after same same_image reads none behind
retrieval_failed c p q before after retrieval_fault.Memory memory reads behind none same same_image never = lacking_denies c [] p q before after same same_image memory none
retrieval_failed c p q before after (retrieval_fault.Damaged key col) memory reads behind none same same_image never = record {
  moves = λ x y a b m s. absurd (no_damage key col (one_told before (λ image. (k : MachineState) → StandsFor p image k → IsNoDamage (retrieval_fault.Damaged key col)) x never a m s));
  as_before = record { same = same; same_image = same_image };
  reads = λ h. (reads, none);
  decided = inr (inl (reads, none));
}

-- ---- the bytes read

pub if_some : {A : Type 0} (o : Option A) (P Q : A → Type 0) → ((x : A) → P x → Q x) → IfSome o P → IfSome o Q
if_some None P Q f h = tt
if_some (Some x) P Q f h = f x h

pub every_some : {A : Type 0} (o : Option A) (P : A → Type 0) → ((x : A) → P x) → IfSome o P
every_some None P f = tt
every_some (Some x) P f = f x

-- one that is refused before has read nothing
pub reads_unasked : (c : Command) (p : Parts) (image : Option (List ℕ)) (r : Refusal) (at : ℕ) → ((m : MachineState) (got : List ScriptLine) → ReadsBy m c got (replied.Refused r) at at)
    → Reads c p image (replied.Refused r) at at
reads_unasked c p image r at each = record {
  told = λ e. every_some image (λ bytes. (m : MachineState) → StandsFor p bytes m → (got : List ScriptLine) → ReadsBy m c got (replied.Refused r) at at) (λ bytes m s got. each m got);
  early = λ e. refl;
  nothing = λ e. refl;
}

-- one that is answered has read exactly what its reply tells
pub reads_exactly : (c : Command) (p : Parts) (image : Option (List ℕ)) (reply : Reply) (before after : ℕ) → (needs c).reads ≡ true → is_early reply ≡ false
    → ((m : MachineState) (got : List ScriptLine) → Takes (weight_told reply) before after → ReadsBy m c got reply before after)
    → IfSome image (λ bytes. (m : MachineState) → StandsFor p bytes m → Takes (weight_told reply) before after) → Reads c p image reply before after
reads_exactly c p image reply before after reads late as_told takes = record {
  told = λ e. if_some image (λ bytes. (m : MachineState) → StandsFor p bytes m → Takes (weight_told reply) before after) _ (λ bytes t m s got. as_told m got (t m s)) takes;
  early = λ e. absurd (false≢true (sym late ∙ e));
  nothing = λ e. absurd (false≢true (sym e ∙ reads));
}

-- a command that reads and fails has read at most what its answer would tell
pub reads_failed : (c : Command) (p : Parts) (image : Option (List ℕ)) (reply : Reply) (before after : ℕ) → (needs c).reads ≡ true → is_refusal reply ≡ true → is_early reply ≡ false
    → ((m : MachineState) (got : List ScriptLine) → ReadsAsTold (is_refusal reply) m c got reply before after → ReadsBy m c got reply before after)
    → ((got : List ScriptLine) → refused_by p (length got) (needs c) ≡ None)
    → IfSome image (λ bytes. (m : MachineState) → StandsFor p bytes m → (got : List ScriptLine) (plan : Planned) → IsPlanned m c plan → TakesAtMost (weight_told (accepted m c got plan).reply) before after)
    → Reads c p image reply before after
reads_failed c p image reply before after reads refuses late as_told none most = record {
  told = λ e. if_some image (λ x. (m : MachineState) → StandsFor p x m → (got : List ScriptLine) (plan : Planned) → IsPlanned m c plan → TakesAtMost (weight_told (accepted m c got plan).reply) before after) _
      (λ x t m s got.
      let free : refused m c got ≡ None = sym (refused_is p x m c got s) ∙ none got in
      as_told m got
      (subst (λ b. ReadsAsTold b m c got reply before after) (sym refuses)
      (λ plan planned.
      subst (λ (a : Answered). TakesAtMost (weight_told a.reply) before after) (sym (accepted_is m c got plan (accepted m c got plan) free refl))
      (t m s got plan (subst (λ (o : Option Refusal). IsPlannedBy o m c plan) free planned))))) most;
  early = λ e. absurd (false≢true (sym late ∙ e));
  nothing = λ e. absurd (false≢true (sym e ∙ reads));
}

-- whatever the fault is
pub reads_failing : (c : Command) (p : Parts) (image : Option (List ℕ)) (f : RecordFault) (before after : ℕ) → ((reply : Reply) → is_refusal reply ≡ true → is_early reply ≡ false → Reads c p image reply before after)
    → ReadsIn c p image (Err (retrieval_halt f)) before after
reads_failing c p image retrieval_fault.Disk before after each = each (replied.Refused refusal.StoreRead) refl refl
reads_failing c p image retrieval_fault.Memory before after each = each (replied.Refused refusal.OutOfMemory) refl refl
reads_failing c p image (retrieval_fault.Damaged key col) before after each = each (replied.Refused (refusal.Damaged key col)) refl refl

-- ---- a retrieval over what the session has in memory

-- the index, the number of names and the recent events are the session's
pub record IsSession (p : Parts) (o : Opening) (names : ℕ) (recent : List Event) : Type 0 where
  pub there : p.index ≡ Some o
  pub count : names ≡ length p.names
  pub all : recent ≡ p.recent

pub is_session : (p : Parts) (s : Inside) (index : IndexState) (names : ℕ) (recent : List Event) → (the_view s).parts ≡ p → s.held.live.history.index ≡ Some index
    → names ≡ length s.held.live.history.names → recent ≡ s.held.live.history.recent.items → IsSession p index.opening names recent
is_session p s index names recent view there count all = record {
  there = sym (ap (λ (x : Parts). x.index) view) ∙ ap index_opening there;
  count = count ∙ ap (λ (x : Parts). length x.names) view;
  all = all ∙ ap (λ (x : Parts). x.recent) view;
}
