-- Which reply tells of a damage, which damage it is, and where there is none.
use Rattle.std.proofs.Common.{◌≡◌, inl, inr, ℕ, Bool, true, false, List, [], ◌∷◌, Option, Some, None, Result, Ok, Err, length, refl, sym, ◌∙◌, ap, subst}
use Rattle.std.specs.Prelude.{◌||◌, IfSome, IsErr, OnOk, if◌then◌else◌, is_some}
use Rattle.std.proofs.lemmas.Bool.{false≢true, false_from_ne_true}
use Rattle.std.proofs.lemmas.Option.{IfSome_then}
use Rattle.dg_fold.specs.Parts.{fault_named}
use Rattle.dg_graph.specs.declared.element.Column.{Column}
use Rattle.dg_graph.specs.declared.element.Column.TheVariants.{Transient}
use Rattle.dg_graph.specs.declared.element.Columns.{Columns}
use Rattle.dg_graph.specs.declared.event.Event.{Event}
use Rattle.dg_text.specs.Lines.{ScriptLine}
use Rattle.dg_index.specs.OpenedIndex.{Opening, event_total}
use Rattle.dg_machine.specs.declared.command.Command.{Command}
use Rattle.dg_machine.specs.declared.command.Command.TheVariants as command
use Rattle.dg_machine.specs.declared.reply.Refusal.{Refusal}
use Rattle.dg_machine.specs.declared.reply.Reply.{Reply}
use Rattle.dg_machine.specs.declared.reply.Reply.TheVariants as replied
use Rattle.dg_machine.specs.Answer.{is_refusal, refusal_of}
use Rattle.dg_machine.specs.Needs.{needs}
use Rattle.dg_machine.specs.Run.{is_failed_read}
use Rattle.dg_messages.specs.Calls.{AreHeard}
use Rattle.dg_range.specs.ColumnRuns.{TellsColumnDamage, events_along}
use Rattle.dg_range.specs.ListValues.{TellsValueDamage, values_along}
use Rattle.dg_records.specs.declared.fault.RecordFault.{RecordFault}
use Rattle.dg_records.specs.declared.fault.RecordFault.TheVariants as fault
use Rattle.dg_retrieval.specs.declared.retrieval.Retrieved.{Retrieved}
use Rattle.dg_history.specs.declared.node.Key.{Key}
use Rattle.dg_history.specs.declared.node.NodeId.{NodeId}
use Rattle.dg_machine.specs.Planning.{bases_in}
use Rattle.dg_plan.specs.declared.edge.Edge.{Edge}
use Rattle.dg_retrieval.specs.KeptGraph.{kept_edges}
use Rattle.dg_retrieval.specs.Calls.{TellsDamage as TellsTreeDamage}
use Rattle.dg_retrieval.specs.NodeSets.{IsUndamaged}
use Rattle.dg_session.proofs.SessionRetrievals.{IsSession}
use Rattle.dg_batch.specs.declared.halt.Halt.{Halt}
use Rattle.dg_batch.specs.declared.halt.Halt.TheVariants as halt
use Rattle.dg_session.specs.Damage.{DamageIn, DamageIs, IsMetBy, Lists, MeetAlong, MeetsNone, MeetsOver, Reading, ReadsFor, Reads_along, Tells, Tree, damage_told, graph_readings, messages_for, reads_for}
use Rattle.dg_batch.specs.Halt.{retrieval_halt}
use Rattle.dg_session.specs.Parts.{Parts}
use Rattle.dg_session.specs.Retrievals.{TellsLeadDamage}
use Rattle.dg_ask.specs.HeldIndex.{points_over}
use Rattle.dg_session.specs.Session.{Accepts, ComesTo, Denies, damage_of, is_of_read}

-- ---- no damage

none_told : {A : Type 0} (failed : Bool) (o : Option A) (P : A → Type 0) → (failed || is_some o) ≡ false → IfSome o P
none_told true o P e = absurd (false≢true (sym e))
none_told false None P e = tt
none_told false (Some d) P e = absurd (false≢true (sym e))

-- a refusal that tells of no read tells of no damage
pub tells_no_damage : (c : Command) (p : Parts) (image : Option (List ℕ)) (r : Refusal) → is_of_read r ≡ false → DamageIs c p image (replied.Refused r)
tells_no_damage c p image r e = none_told (is_failed_read r) (damage_of r) (λ d. IsMetBy (reads_for c) p image d.0 d.1) e

none_refused : (o : Option Refusal) (P : Key × Column → Type 0) → is_some o ≡ false → IfSome (damage_told o) P
none_refused None P e = tt
none_refused (Some r) P e = absurd (false≢true (sym e))

-- nor does a reply that is no refusal
pub accepted_tells_none : (c : Command) (p : Parts) (image : Option (List ℕ)) (reply : Reply) → is_refusal reply ≡ false → DamageIs c p image reply
accepted_tells_none c p image reply e = none_refused (refusal_of reply) (λ d. IsMetBy (reads_for c) p image d.0 d.1) e

come_to_none : (c : Command) (got : List ScriptLine) (p : Parts) (before : Option (List ℕ)) (q : Parts) (after : Option (List ℕ)) (r : Result Reply Halt) → (needs c).reads ≡ false
    → ComesTo c got p before q after r → DamageIn c p before r
come_to_none c got p before q after (Ok reply) no_reads comes =
    let a : Accepts c got p before q after reply = comes in accepted_tells_none c p before reply a.accepted
come_to_none c got p before q after (Err (halt.Refusal r)) no_reads comes =
    let d : Denies c got p before q after r = comes in
    tells_no_damage c p before r (false_from_ne_true (is_of_read r) (λ e. let may = d.reads e in false≢true (sym no_reads ∙ may.0)))
come_to_none c got p before q after (Err (halt.Stop s)) no_reads comes = tt

-- a command that reads no records is not refused for damage
pub never_for_damage : (c x : Command) (got : List ScriptLine) (p : Parts) (before : Option (List ℕ)) (q : Parts) (after : Option (List ℕ)) (r : Result Reply Halt) → c ≡ x → (needs x).reads ≡ false
    → ComesTo x got p before q after r → DamageIn c p before r
never_for_damage c x got p before q after r is no_reads comes =
    subst (λ y. DamageIn y p before r) (sym is) (come_to_none x got p before q after r no_reads comes)

-- ---- a damage

-- what is told of readings in an image holds over what the session has in memory
pub damage_over : {A : Type 0} {Lower : List ℕ → Type 0} (reads : Parts → Opening → List Reading) (p : Parts) (o : Opening) (told : Option (List ℕ)) (names : ℕ) (r : Result A RecordFault) → p.index ≡ Some o
    → names ≡ length p.names → IfSome told Lower → ((bytes : List ℕ) → Lower bytes → Tells (MeetAlong (reads p o) names o bytes) r) → Tells (MeetsOver reads p told) r
damage_over {A = B} reads p o told names r there count damage tells = by r (subst (λ n. IfSome told (λ bytes. Tells (MeetAlong (reads p o) n o bytes) r)) count (IfSome_then told damage tells))
  where
    by : (r : Result B RecordFault) → IfSome told (λ bytes. Tells (MeetAlong (reads p o) (length p.names) o bytes) r) → Tells (MeetsOver reads p told) r
    by (Ok x) d = (o, there, d)
    by (Err fault.Disk) d = tt
    by (Err fault.Memory) d = tt
    by (Err (fault.Damaged key col)) d = (o, there, d)

-- a tree
pub tree_tells : {A : Type 0} (names : ℕ) (edges : List Edge) (o : Opening) (cols : Columns) (nodes : List NodeId) (bytes : List ℕ) (r : Result A RecordFault)
    → TellsTreeDamage names edges o cols nodes bytes r → Tells (MeetAlong (Tree edges cols nodes ∷ []) names o bytes) r
tree_tells names edges o cols nodes bytes (Ok x) d = (d, tt)
tree_tells names edges o cols nodes bytes (Err fault.Disk) d = tt
tree_tells names edges o cols nodes bytes (Err fault.Memory) d = tt
tree_tells names edges o cols nodes bytes (Err (fault.Damaged key col)) d = inl d

-- a tree, and then the messages, where they are asked for
module _ (names : ℕ) (edges : List Edge) (o : Opening) (nodes : List NodeId) (times : List ℕ) (cols : Columns) (bytes : List ℕ) where
  abbrev along : Bool → List Reading
  along asked = Tree edges cols nodes ∷ (if asked then Lists (messages_for times) ∷ [] else [])

  none_along : (asked : Bool) → IsUndamaged names edges o cols nodes bytes → (asked ≡ true → AreHeard names bytes o times) → MeetAlong (along asked) names o bytes None
  none_along true whole heard = let h = heard refl in (whole, ((h.0, ap (fault_named _) h.1), tt))
  none_along false whole heard = (whole, tt)

  pub lead_tells : {A : Type 0} (r : Result A RecordFault) → TellsLeadDamage names edges o nodes times cols bytes r → Tells (MeetAlong (along cols.transient) names o bytes) r
  lead_tells (Ok x) d = none_along cols.transient d.0 d.1
  lead_tells (Err fault.Disk) d = tt
  lead_tells (Err fault.Memory) d = tt
  lead_tells (Err (fault.Damaged key col)) (inl d) = inl d
  lead_tells (Err (fault.Damaged key col)) (inr (asked, whole, (i, heard, k_is, col_is))) =
      subst (λ b. MeetAlong (along b) names o bytes (Some (key, col))) (sym asked) (inr (whole, inl ((i, Transient), ap (fault_named _) heard, k_is, col_is)))

-- columns of lists
pub columns_tell : {A : Type 0} (names : ℕ) (o : Opening) (ps : List (ℕ × Column)) (bytes : List ℕ) (r : Result A RecordFault)
    → TellsColumnDamage names o ps bytes r → Tells (MeetAlong (Lists (λ names bytes o. events_along names bytes o ps) ∷ []) names o bytes) r
columns_tell names o ps bytes (Ok x) d = (d, tt)
columns_tell names o ps bytes (Err fault.Disk) d = tt
columns_tell names o ps bytes (Err fault.Memory) d = tt
columns_tell names o ps bytes (Err (fault.Damaged key col)) d = inl d

pub values_tell : {A : Type 0} (names : ℕ) (o : Opening) (bytes : List ℕ) (r : Result A RecordFault) → TellsValueDamage names o bytes r → Tells (MeetAlong (Lists values_along ∷ []) names o bytes) r
values_tell names o bytes (Ok x) d = (d, tt)
values_tell names o bytes (Err fault.Disk) d = tt
values_tell names o bytes (Err fault.Memory) d = tt
values_tell names o bytes (Err (fault.Damaged key col)) d = inl d

-- the fault of a retrieval over what the session has in memory
pub graph_damage_over : (p : Parts) (o : Opening) (times : List ℕ) (cols : Columns) (told : Option (List ℕ)) (names : ℕ) (recent : List Event) (r : Result Retrieved RecordFault)
    → IsSession p o names recent → (edges : List Edge) → edges ≡ kept_edges o (event_total o.batches) cols (bases_in cols p.table)
    → IfSome told (λ image. TellsLeadDamage names edges o (points_over o recent times) times cols image r) → Tells (MeetsOver (graph_readings times cols) p told) r
graph_damage_over p o times cols told names recent r is edges edges_is damage =
    damage_over (graph_readings times cols) p o told names r is.there is.count damage
    (λ bytes d. subst (λ (x : List Edge × List Event). Tells (MeetAlong (along names x.0 o (points_over o x.1 times) times cols bytes cols.transient) names o bytes) r)
    (let e : (edges, recent) ≡ (kept_edges o (event_total o.batches) cols (bases_in cols p.table), p.recent) = λ i. (edges_is i, is.all i) in e)
    (lead_tells names edges o (points_over o recent times) times cols bytes r d))

-- what the command that reads so comes to by the fault, whatever it would have read
pub damage_in : (c : Command) (reads : Parts → Opening → List Reading) (p : Parts) (image : Option (List ℕ)) (f : RecordFault) → reads_for c ≡ Reads_along reads
    → (let r : Result (Unit {0}) RecordFault = Err f in Tells (MeetsOver reads p image) r) → DamageIn c p image (Err (retrieval_halt f))
damage_in c reads p image fault.Disk is damage = tt
damage_in c reads p image fault.Memory is damage = tt
damage_in c reads p image (fault.Damaged key col) is damage = subst (λ (x : ReadsFor). IsMetBy x p image key col) (sym is) damage

-- ---- what is read, and is not damaged

-- a command that reads no records
pub reads_undamaged : (c : Command) (p : Parts) (image : Option (List ℕ)) → (needs c).reads ≡ false → MeetsNone (reads_for c) p image
reads_undamaged (command.Create l k function) p image e = tt
reads_undamaged (command.CreateSkewed l k r) p image e = tt
reads_undamaged command.Upgrade p image e = tt
reads_undamaged (command.Load count) p image e = absurd (false≢true (sym e))
reads_undamaged (command.Append count) p image e = absurd (false≢true (sym e))
reads_undamaged (command.At t cols) p image e = absurd (false≢true (sym e))
reads_undamaged (command.Several cols times count) p image e = absurd (false≢true (sym e))
reads_undamaged (command.Materialise node cols) p image e = absurd (false≢true (sym e))
reads_undamaged (command.Select what cols) p image e = absurd (false≢true (sym e))
reads_undamaged (command.Index key) p image e = absurd (false≢true (sym e))
reads_undamaged (command.Find t key value) p image e = tt
reads_undamaged (command.Ask handle q) p image e = tt
reads_undamaged (command.Release handle) p image e = tt
reads_undamaged (command.Clean cells) p image e = tt
reads_undamaged command.CleanAll p image e = tt
reads_undamaged command.Pool p image e = tt
reads_undamaged (command.Plan t cols) p image e = tt
reads_undamaged (command.Certify t cols count) p image e = tt
reads_undamaged command.Verify p image e = tt
reads_undamaged command.Tree p image e = tt
reads_undamaged (command.Workload seed count) p image e = absurd (false≢true (sym e))

-- the command that reads nothing that may be damaged
pub met_nothing : {A E : Type 0} (c : Command) (p : Parts) (image : Option (List ℕ)) (r : Result A E) → MeetsNone (reads_for c) p image → OnOk r (MeetsNone (reads_for c) p image)
met_nothing c p image (Ok x) none = none
met_nothing c p image (Err e) none = tt

-- one that is refused or stopped owes nothing of it
pub none_met : {A E : Type 0} (r : Result A E) (P : Type 0) → IsErr r → OnOk r P
none_met (Ok x) P h = cc
none_met (Err e) P h = tt
