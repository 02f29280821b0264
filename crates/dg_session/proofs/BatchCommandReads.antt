-- Which bytes a command that adds a batch has read, and which damage it tells of.
use Rattle.std.proofs.Common.{◌≡◌, inl, inr, ℕ, Bool, true, false, List, [], ◌∷◌, Option, Some, None, Result, Ok, Err, if◌then◌else◌, length, map, nat_lt, refl, sym, ◌∙◌, ap, subst, arith}
use Rattle.std.specs.Prelude.{IfSome}
use Rattle.std.specs.List.{sum}
use Rattle.std.proofs.lemmas.Bool.{false≢true}
use Rattle.std.proofs.lemmas.Option.{IfSome_then}
use Rattle.dg_append.specs.AddedBatches.{AddsBatch, FailsBatch, IsOverHistory, MeetsDamage, MeetsNoDamage, ReadsNothing, TakesBatch}
use Rattle.dg_append.specs.Fronts.{ComeTo, IsFront, lines}
use Rattle.dg_append.specs.OlderChildSteps.{IsNamedDamage}
use Rattle.dg_append.specs.OlderGroups.{AreUndamaged, in_groups, older_children}
use Rattle.dg_append.specs.declared.batch.AddedBatch.{AddedBatch}
use Rattle.dg_append.specs.declared.fault.BatchFault.{BatchFault}
use Rattle.dg_append.specs.declared.fault.BatchFault.TheVariants as fault
use Rattle.dg_append.specs.declared.front.Front.{Front}
use Rattle.dg_append.specs.declared.front.Front.TheVariants.{Whole, Form, Unkept}
use Rattle.dg_fold.specs.BytesRead.{TakesAtMost}
use Rattle.dg_graph.specs.declared.element.Column.{Column}
use Rattle.dg_graph.specs.CompletedChanges.{completed}
use Rattle.dg_graph.specs.declared.element.Element.{Element}
use Rattle.dg_graph.specs.declared.event.Event.{Event}
use Rattle.dg_text.specs.Lines.{ScriptLine}
use Rattle.dg_history.specs.declared.node.Key.{Key}
use Rattle.dg_history.specs.declared.node.NodeId.{NodeId}
use Rattle.dg_history.specs.declared.node.NodeId.TheVariants.{Root}
use Rattle.dg_history.specs.History.{History}
use Rattle.dg_index.specs.OpenedIndex.{Opening, earliest_in}
use Rattle.dg_machine.specs.declared.reply.Refusal.{Refusal}
use Rattle.dg_machine.specs.declared.reply.Refusal.TheVariants as refusal
use Rattle.dg_machine.specs.declared.reply.Reply.TheVariants as replied
use Rattle.dg_machine.specs.declared.reply.Reply.{Reply}
use Rattle.dg_machine.specs.MachineState.{MachineState}
use Rattle.dg_machine.specs.Needs.{needs}
use Rattle.dg_machine.specs.Planning.{record_edges_in}
use Rattle.dg_machine.specs.Answer.{headed}
use Rattle.dg_plan.specs.declared.edge.Edge.{Edge}
use Rattle.dg_plan.specs.HistoryGraph.{all_columns}
use Rattle.dg_plan.specs.IndexGraph.{arcs_of}
use Rattle.dg_plan.specs.Walks.{AreSingles}
use Rattle.dg_retrieval.specs.KeptGraph.{record_edges}
use Rattle.dg_session.proofs.BatchCommandForms.{Lines_of, Origin, Seed, adding, head_over, reads_records}
use Rattle.dg_session.proofs.BatchCommandStep.{IsAsked, many_changes, of_here, opening_there, over, refused_first}
use Rattle.dg_session.proofs.DamageStep.{tells_no_damage}
use Rattle.dg_session.proofs.PlanStep.{older_are, records_edges_are}
use Rattle.dg_session.proofs.SessionRetrievals.{every_some, if_some}
use Rattle.dg_session.proofs.PartStates.{is_of}
use Rattle.dg_session.proofs.SessionSteps.{refused_not_read}
use Rattle.dg_session.specs.BatchCommand.{Bars, barred, command_with}
use Rattle.dg_batch.specs.BatchLines.{IsBarred, ReadsBatch, first_refusal}
use Rattle.dg_session.specs.Damage.{Batch_of, DamageIn, DamageIs, MeetAlong, MeetsNone, NamesBatchDamage, Tree, reads_for}
use Rattle.dg_session.specs.declared.batch_command.BatchCommand.{BatchCommand}
use Rattle.dg_session.specs.declared.batch_command.BatchCommand.TheVariants.{Load, Append}
use Rattle.dg_append.specs.declared.batch.Batch.{Batch}
use Rattle.dg_append.specs.declared.live.Live.{Live}
use Rattle.dg_batch.specs.declared.halt.Halt.{Halt}
use Rattle.dg_batch.specs.declared.halt.Halt.TheVariants as halt
use Rattle.dg_batch.specs.declared.stop.Stop.TheVariants as stop
use Rattle.dg_batch.specs.Halt.{batch_halt}
use Rattle.dg_session.specs.Parts.{Parts}
use Rattle.dg_session.specs.BatchReads.{is_early, older_for}
use Rattle.dg_session.specs.Reads.{Reads, ReadsBy, ReadsIn, ReadsOlder, ReadsToWrite}
use Rattle.dg_session.specs.Session.{StandsFor, is_of_read}
use Rattle.dg_stored.specs.declared.stored_history.StoredHistory.{StoredHistory}
use Rattle.dg_stored.specs.StoredHistory.{index_opening}

-- ---- the bytes read

-- over an image that stands for a state no more was read than the older children
abbrev pub ReadsNoMore : Parts → Option (List ℕ) → ℕ → ℕ → ℕ → Type 0
ReadsNoMore p image count before after = IfSome image (λ bytes. (m : MachineState) → StandsFor p bytes m → ReadsOlder m count before after)

read_by : (from : Origin) (m : MachineState) (count : ℕ) (got : List ScriptLine) (reply : Reply) (before after : ℕ) → ReadsOlder m count before after → ReadsBy m (adding from count) got reply before after
read_by (Lines_of Load) m count got reply before after reads = reads
read_by (Lines_of Append) m count got reply before after reads = reads
read_by (Seed seed) m count got reply before after reads = reads

batch_reads : (from : Origin) (count : ℕ) (p : Parts) (image : Option (List ℕ)) (reply : Reply) (before after : ℕ) → ReadsNoMore p image count before after → (is_early reply ≡ true → after ≡ before)
    → Reads (adding from count) p image reply before after
batch_reads from count p image reply before after older early = record {
  told = λ reads. if_some image (λ bytes. (m : MachineState) → StandsFor p bytes m → ReadsOlder m count before after)
      (λ bytes. (m : MachineState) → StandsFor p bytes m → (got : List ScriptLine) → ReadsBy m (adding from count) got reply before after)
      (λ bytes f m s got. read_by from m count got reply before after (f m s)) older;
  early = early;
  nothing = λ e. absurd (false≢true (sym e ∙ reads_records from count));
}

nothing_read : (p : Parts) (image : Option (List ℕ)) (count before after : ℕ) → after ≡ before → ReadsNoMore p image count before after
nothing_read p image count before after same =
    every_some image (λ bytes. (m : MachineState) → StandsFor p bytes m → ReadsOlder m count before after)
    (λ bytes m s singles are. let most : TakesAtMost (sum singles) before before = omega arith in subst (TakesAtMost (sum singles) before) (sym same) most)

-- where the file could not be written, no more than the older children was read
stopped_reads : (from : Origin) (count : ℕ) (p : Parts) (image : Option (List ℕ)) (before after : ℕ) → ReadsNoMore p image count before after → ReadsToWrite (adding from count) p image before after
stopped_reads (Lines_of Load) count p image before after older = record { older = older; nothing = λ e. absurd (false≢true (sym e)) }
stopped_reads (Lines_of Append) count p image before after older = record { older = older; nothing = λ e. absurd (false≢true (sym e)) }
stopped_reads (Seed seed) count p image before after older = record { older = older; nothing = λ e. absurd (false≢true (sym e)) }

-- there is no batch to be completed, and nothing was read
pub unread_reads : (from : Origin) (count : ℕ) (p : Parts) (image : Option (List ℕ)) (h : Halt) (taken : ℕ) → ReadsIn (adding from count) p image (Err h) taken taken
unread_reads from count p image (halt.Refusal r) taken = batch_reads from count p image (replied.Refused r) taken taken (nothing_read p image count taken taken refl) (λ e. refl)
unread_reads from count p image (halt.Stop stop.Read) taken = refl
unread_reads from count p image (halt.Stop stop.Limit) taken = refl
unread_reads from count p image (halt.Stop stop.Store) taken = stopped_reads from count p image taken taken (nothing_read p image count taken taken refl)

pub failed_reads : (from : Origin) (count : ℕ) (p : Parts) (image : Option (List ℕ)) (f : BatchFault) (before after : ℕ) → ReadsNoMore p image count before after → ReadsNothing f before after
    → ReadsIn (adding from count) p image (Err (batch_halt f)) before after
failed_reads from count p image (fault.BadChange line reason) before after older none = batch_reads from count p image _ before after older (λ e. none)
failed_reads from count p image fault.OldFormat before after older none = batch_reads from count p image _ before after older (λ e. none)
failed_reads from count p image (fault.FileFull n most) before after older none = batch_reads from count p image _ before after older (λ e. absurd (false≢true e))
failed_reads from count p image (fault.Damaged key col) before after older none = batch_reads from count p image _ before after older (λ e. absurd (false≢true e))
failed_reads from count p image fault.Read before after older none = batch_reads from count p image _ before after older (λ e. absurd (false≢true e))
failed_reads from count p image fault.Memory before after older none = batch_reads from count p image _ before after older (λ e. absurd (false≢true e))
failed_reads from count p image fault.Store before after older none = stopped_reads from count p image before after older

pub added_reads : (from : Origin) (count : ℕ) (p : Parts) (image : Option (List ℕ)) (graph : List Element) (events total last before after : ℕ) → ReadsNoMore p image count before after
    → Reads (adding from count) p image (headed (head_over from graph events total last)) before after
added_reads from count p image graph events total last before after older =
    batch_reads from count p image (headed (head_over from graph events total last)) before after older (λ e. absurd (false≢true e))

-- ---- why nothing is told of a read

-- the lines are no batch to be completed
barred_no_read : (which : BatchCommand) (count : ℕ) (p : Parts) (names grown : List (List ℕ)) (taken : List ScriptLine → Type 0) (bar : Option Refusal) (r : Refusal)
    → Bars (barred which p count) bar → IsBarred count bar taken names grown r → is_of_read r ≡ false
barred_no_read which count p names grown taken bar r (inl bar_is) b =
    refused_not_read p (length b.got) (needs (command_with which count)) r
    (refused_first which p count (length b.got) ∙ ap (first_refusal (length b.got) count) (sym bar_is) ∙ b.refused)
barred_no_read which count p names grown taken bar r (inr lacks) b =
    by (nat_lt (length b.got) count) (ap (first_refusal (length b.got) count) (sym lacks.1) ∙ b.refused)
  where
    same_some : (a : Refusal) → (let x : Option Refusal = Some a in x) ≡ Some r → a ≡ r
    same_some a e = cc

    by : (short : Bool) → (if short then Some (refusal.ShortBatch (length b.got) count) else Some refusal.OutOfMemory) ≡ Some r → is_of_read r ≡ false
    by true e = ap is_of_read (sym (same_some (refusal.ShortBatch (length b.got) count) e))
    by false e = ap is_of_read (sym (same_some refusal.OutOfMemory e))

pub unread_damage : (which : BatchCommand) (count : ℕ) (p : Parts) (names grown : List (List ℕ)) (taken : List ScriptLine → Type 0) (cut : Type 0) (bar : Option Refusal) (image : Option (List ℕ)) (h : Halt)
    → Bars (barred which p count) bar → ReadsBatch count bar taken cut names grown (Err h) → DamageIn (command_with which count) p image (Err h)
unread_damage which count p names grown taken cut bar image (halt.Refusal r) bar_is b =
    tells_no_damage (command_with which count) p image r (barred_no_read which count p names grown taken bar r bar_is b)
unread_damage which count p names grown taken cut bar image (halt.Stop s) bar_is b = tt

pub unread_is_no_read : (which : BatchCommand) (count : ℕ) (p : Parts) (names grown : List (List ℕ)) (taken : List ScriptLine → Type 0) (cut : Type 0) (bar : Option Refusal) (h : Halt)
    → Bars (barred which p count) bar → ReadsBatch count bar taken cut names grown (Err h) → h ≡ halt.Refusal refusal.StoreRead → ⊥
unread_is_no_read which count p names grown taken cut bar (halt.Refusal r) bar_is b is =
    let e : r ≡ refusal.StoreRead = cc in
    false≢true (sym (barred_no_read which count p names grown taken bar r bar_is b) ∙ ap is_of_read e)
unread_is_no_read which count p names grown taken cut bar (halt.Stop s) bar_is b is = cc

-- the refusal of a failed read comes from a failed read
pub read_fault : (f : BatchFault) → batch_halt f ≡ halt.Refusal refusal.StoreRead → f ≡ fault.Read
read_fault (fault.BadChange line reason) e = absurd cc
read_fault fault.OldFormat e = absurd cc
read_fault (fault.FileFull n most) e = absurd cc
read_fault (fault.Damaged key col) e = absurd cc
read_fault fault.Read e = refl
read_fault fault.Memory e = absurd cc
read_fault fault.Store e = absurd cc

names_it : (from : Origin) (count : ℕ) (p : Parts) (image : Option (List ℕ)) (key : Key) (col : Column) → NamesBatchDamage p image count key col → DamageIs (adding from count) p image (replied.Refused (refusal.Damaged key col))
names_it (Lines_of Load) count p image key col d = d
names_it (Lines_of Append) count p image key col d = d
names_it (Seed seed) count p image key col d = d

-- the trees of groups of nodes are whole, one after another
sets_whole : (names : ℕ) (o : Opening) (bytes : List ℕ) (gs : List (List NodeId)) → AreUndamaged names o bytes gs → MeetAlong (map (Tree (record_edges o) all_columns) gs) names o bytes None
sets_whole names o bytes [] whole = tt
sets_whole names o bytes (g ∷ gs) whole = (whole.0, sets_whole names o bytes gs whole.1)

module _ (from : Origin) (got : List ScriptLine) (p : Parts) (count limit : ℕ) (l : Live) (b : Batch) (a : IsAsked from got p count limit l b) where
  abbrev c : StoredHistory
  c = l.history

  abbrev o : Opening
  o = a.free.index

  there : p.index ≡ Some o
  there = a.free.there

  here : index_opening c.index ≡ Some o
  here = opening_there from got p count limit l b a

  -- what is said of the changes that are kept holds of all that is asked for
  pub reads_no_more : (told : Option (List ℕ)) (r : Result AddedBatch BatchFault) (before after : ℕ) → IfSome (index_opening c.index) (λ o. TakesBatch o b c told r before after) → ReadsNoMore p told count before after
  reads_no_more told r before after takes = by b.front refl
    where
      takes_here : TakesBatch o b c told r before after
      takes_here = of_here (index_opening c.index) o (λ o. TakesBatch o b c told r before after) here takes

      singles_are : (m : MachineState) (image : List ℕ) (singles : List ℕ) → b.front ≡ Whole → StandsFor p image m → AreSingles (arcs_of (record_edges_in m all_columns)) (Root ∷ []) (older_for m count) singles
          → AreSingles (arcs_of (record_edges o)) (Root ∷ []) (older_children o (length b.changes.items)) singles
      singles_are m image singles whole s are =
          let many : length b.changes.items ≡ count = many_changes from got p count limit l b a whole in
          let nodes : older_for m count ≡ older_children o (length b.changes.items) = sym (older_are p o image m there s count) ∙ ap (older_children o) (sym many) in
          subst (λ (es : List Edge). AreSingles (arcs_of es) (Root ∷ []) (older_children o (length b.changes.items)) singles) (sym (records_edges_are p o image m there s))
          (subst (λ (ns : List NodeId). AreSingles (arcs_of (record_edges_in m all_columns)) (Root ∷ []) ns singles) nodes are)

      by_whole : b.front ≡ Whole → ReadsNoMore p told count before after
      by_whole whole =
          if_some told
          (λ image. (z : History) → IsOverHistory z image o b.known c → (singles : List ℕ) → AreSingles (arcs_of (record_edges o)) (Root ∷ []) (older_children o (length b.changes.items)) singles → TakesAtMost (sum singles) before after)
          (λ image. (m : MachineState) → StandsFor p image m → ReadsOlder m count before after)
          (λ image t m s singles are.
          let found = is_of p o image m there s in
          t found.0 (over from got p count limit l b a image m found.0 found.1) singles (singles_are m image singles whole s are))
          takes_here.older

      by : (x : Front) → b.front ≡ x → ReadsNoMore p told count before after
      by Whole is = by_whole is
      by Form is = nothing_read p told count before after (takes_here.unkept (λ w. let e : Form ≡ Whole = sym is ∙ w in cc))
      by Unkept is = nothing_read p told count before after (takes_here.unkept (λ w. let e : Unkept ≡ Whole = sym is ∙ w in cc))

  -- a batch that is refused for a change has read nothing
  pub refused_reads : (told : Option (List ℕ)) (f : BatchFault) (before after : ℕ) → IfSome (index_opening c.index) (λ o. TakesBatch o b c told (Err f) before after) → ReadsNothing f before after
  refused_reads told f before after takes = (of_here (index_opening c.index) o (λ o. TakesBatch o b c told (Err f) before after) here takes).refused

  -- ---- damage

  -- the changes come to these events
  comes_to : (events : List Event) → b.front ≡ Whole → ComeTo o c.now.graph b (Ok events) → completed 1 (earliest_in 0 o.batches) c.now.graph (lines b.changes.items) ≡ Ok events
  comes_to events whole come = come (lines b.changes.items) (subst (λ (x : Front). IsFront x b.changes.items (lines b.changes.items)) (sym whole) refl)

  meets : (told : Option (List ℕ)) (key : Key) (col : Column) → MeetsDamage o b c told key col → NamesBatchDamage p told count key col
  meets told key col d = (
    o,
    there,
    b.changes.items,
    many_changes from got p count limit l b a d.whole,
    d.events,
    ap (λ (set : List Element). completed 1 (earliest_in 0 o.batches) set (lines b.changes.items)) (sym a.graph) ∙ comes_to d.events d.whole d.come,
    subst (λ (n : ℕ). IfSome told (λ image. IsNamedDamage n image o p.recent d.events p.graph key col)) a.known_is
        (subst (λ (recent : List Event). IfSome told (λ image. IsNamedDamage b.known image o recent d.events p.graph key col)) a.recent
        (subst (λ (graph : List Element). IfSome told (λ image. IsNamedDamage b.known image o c.recent.items d.events graph key col)) a.graph d.damage)),
  )

  pub failed_damage : (told after : Option (List ℕ)) (f : BatchFault) → IfSome (index_opening c.index) (λ o. FailsBatch o limit b c told after f) → DamageIn (adding from count) p told (Err (batch_halt f))
  failed_damage told after (fault.Damaged key col) fails =
      names_it from count p told key col
      (meets told key col (of_here (index_opening c.index) o (λ o. FailsBatch o limit b c told after (fault.Damaged key col)) here fails).1)
  failed_damage told after (fault.BadChange line reason) fails = tt
  failed_damage told after fault.OldFormat fails = tt
  failed_damage told after (fault.FileFull n most) fails = tt
  failed_damage told after fault.Read fails = tt
  failed_damage told after fault.Memory fails = tt
  failed_damage told after fault.Store fails = tt

  -- where the batch was added, what was read for it met no damage
  pub added_undamaged : (told after : Option (List ℕ)) (new : Live) (x : AddedBatch) → IfSome (index_opening c.index) (λ o. AddsBatch o limit b l new told after x) → MeetsNone (Batch_of count) p told
  added_undamaged told after new x adds =
      let d : AddsBatch o limit b l new told after x = of_here (index_opening c.index) o (λ o. AddsBatch o limit b l new told after x) here adds in
      let many : length b.changes.items ≡ count = many_changes from got p count limit l b a d.comes.whole in
      let whole : MeetsNoDamage told o (length p.names) count = subst (λ (n : ℕ). MeetsNoDamage told o n count) a.known_is (subst (λ (n : ℕ). MeetsNoDamage told o b.known n) many d.whole) in
      (o, there, IfSome_then told whole (λ bytes. sets_whole (length p.names) o bytes (in_groups (older_children o count))))

-- what a command that adds a batch reads records for
pub reads_of : (which : BatchCommand) (count : ℕ) → reads_for (command_with which count) ≡ Batch_of count
reads_of Load count = refl
reads_of Append count = refl
