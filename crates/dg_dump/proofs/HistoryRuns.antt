-- The machine over the script that makes a history comes to the history.
use Rattle.std.proofs.Common.{◌+◌, ◌≤◌, ◌*◌, length-append, ◌≡◌, ℕ, ◌<◌, ◌^◌, true, List, [], ◌∷◌, ◌++◌, length, map, Some, None, refl, sym, ap, subst, ◌∙◌, append_assoc, append-nil, arith, codes}
use Rattle.std.specs.List.{All}
use Rattle.std.proofs.lemmas.Bool.{leb-true}
use Rattle.std.proofs.lemmas.List.{length-map, map-append}
use Rattle.std.proofs.lemmas.List.Concat.{flat_map-append}
use Rattle.std.proofs.lemmas.List.Elements.{All-append, All-cons, All-nil}
use Rattle.dg_graph.specs.declared.event.Event.{Event}
use Rattle.dg_graph.specs.declared.function.Function.{Function}
use Rattle.dg_graph.specs.declared.function.Function.TheVariants.{Intersection, Union, Balanced, Skewed}
use Rattle.dg_graph.specs.declared.limits.TheConstants.{SKEW_MAX}
use Rattle.dg_text.specs.Lines.{ScriptLine, Text}
use Rattle.dg_text.specs.Names.{are_new}
use Rattle.dg_history.specs.declared.params.Params.{Params}
use Rattle.dg_history.specs.History.{Batch, History, are_parameters, is_function, names_of}
use Rattle.dg_history.specs.LegalHistory.{IsLegal, AreLegalAfter, IsLegalBatch}
use Rattle.dg_history.proofs.LegalHistories.{events_among, names_among}
use Rattle.dg_history.proofs.ParameterRanges.{in_range}
use Rattle.dg_machine.specs.declared.limits.Limits.{Limits}
use Rattle.dg_machine.specs.MachineState.{machine_at}
use Rattle.dg_machine.specs.Run.{Run}
use Rattle.dg_machine.specs.Script.{entries_of}
use Rattle.dg_dump.specs.DumpLaws.{HaveRoom, ScriptsAreShort, ScriptsMakeHistories, in_second_form}
use Rattle.dg_dump.specs.NamesOfLines.{AreOfLines}
use Rattle.dg_dump.specs.ScriptOfHistory.{appended_lines, batch_command, batch_lines, batches_lines, create_line, event_line, history_lines}
use Rattle.dg_dump.proofs.BatchRuns.{Goes, appends, creates, front_of, goes_nowhere, loads}
use Rattle.dg_dump.proofs.BatchesBack.{batch_back}
use Rattle.dg_dump.proofs.ScriptLines.{IsLine, batch_command_line, create_is_line, events_are_lines, skewed_is_line, text_lines, text_short}

-- lines of a script
abbrev texts : List (List ℕ) → List ScriptLine
texts lines = map (λ t. Text t) lines

texts_both : (a b : List (List ℕ)) → texts (a ++ b) ≡ texts a ++ texts b
texts_both a b = map-append (λ t. Text t) a b

events_more : (done : List Batch) (b : Batch) → events_among (done ++ b ∷ []) ≡ events_among done ++ b.events
events_more done b = flat_map-append (λ (b : Batch). b.events) done (b ∷ []) ∙ ap (λ l. events_among done ++ l) (append-nil b.events)

pub names_more : (done : List Batch) (b : Batch) → names_among (done ++ b ∷ []) ≡ names_among done ++ b.names
names_more done b = flat_map-append (λ (b : Batch). b.names) done (b ∷ []) ∙ ap (λ l. names_among done ++ l) (append-nil b.names)

module _ (limits : Limits) (params : Params) (names : List (List ℕ)) (new : are_new [] names ≡ true) where
  -- what is known of the batches that are left behind those that are done
  pub record Left (done batches : List Batch) : Type 0 where
    pub legal : AreLegalAfter names (events_among done) batches
    pub brought : AreOfLines names (names_among done) batches
    pub room : HaveRoom limits (front_of params done) batches
    pub all : names ≡ names_among done ++ names_among batches

  next : (done : List Batch) (b : Batch) (batches : List Batch) → Left done (b ∷ batches) → Left (done ++ b ∷ []) batches
  next done b batches l = record {
    legal = subst (λ before. AreLegalAfter names before batches) (sym (events_more done b)) l.legal.1;
    brought = subst (λ before. AreOfLines names before batches) (sym (names_more done b)) l.brought.1;
    room = l.room.3;
    all = l.all ∙ sym (append_assoc (names_among done) b.names (names_among batches)) ∙ ap (λ (ns : List (List ℕ)). ns ++ names_among batches) (sym (names_more done b));
  }

  appended : (done batches : List Batch) → Left done batches
      → Goes (machine_at limits (Some (front_of params done))) (texts (appended_lines names batches)) (machine_at limits (Some (front_of params (done ++ batches))))
  appended done [] l =
      subst (λ bs. Goes (machine_at limits (Some (front_of params done))) [] (machine_at limits (Some (front_of params bs)))) (sym (append-nil done)) (goes_nowhere (machine_at limits (Some (front_of params done))))
  appended done (b ∷ batches) l =
      let got = texts (map (event_line names) b.events) in
      let few : length got ≡ length b.events = length-map (map (event_line names) b.events) (λ t. Text t) ∙ length-map b.events (event_line names) in
      let end = machine_at limits (Some (front_of params (done ++ b ∷ batches))) in
      let more = subst (λ bs. Goes (machine_at limits (Some (front_of params (done ++ b ∷ [])))) (texts (appended_lines names batches)) (machine_at limits (Some (front_of params bs))))
      (append_assoc done (b ∷ []) batches) (appended (done ++ b ∷ []) batches (next done b batches l)) in
      let comes = batch_back names new (front_of params done) b l.legal.0 l.brought.0 (names_among batches, l.all ∙ sym (append_assoc (names_among done) b.names (names_among batches))) in
      subst (λ ls. Goes (machine_at limits (Some (front_of params done))) (Text (batch_command (codes "append") (length b.events)) ∷ ls) end)
      (sym (texts_both (map (event_line names) b.events) (appended_lines names batches)))
      (appends limits params done b got few l.legal.0.some l.room.0 l.room.1 l.room.2 comes l.legal.0.few (texts (appended_lines names batches)) end more)

  pub all_batches : (batches : List Batch) → Left [] batches
      → Goes (machine_at limits (Some (front_of params []))) (texts (batches_lines names batches)) (machine_at limits (Some (front_of params batches)))
  all_batches [] l = goes_nowhere (machine_at limits (Some (front_of params [])))
  all_batches (b ∷ batches) l =
      let got = texts (map (event_line names) b.events) in
      let few : length got ≡ length b.events = length-map (map (event_line names) b.events) (λ t. Text t) ∙ length-map b.events (event_line names) in
      let end = machine_at limits (Some (front_of params (b ∷ batches))) in
      let more = appended (b ∷ []) batches (next [] b batches l) in
      let comes = batch_back names new (front_of params []) b l.legal.0 l.brought.0 (names_among batches, l.all) in
      subst (λ ls. Goes (machine_at limits (Some (front_of params []))) (Text (batch_command (codes "load") (length b.events)) ∷ ls) end)
      (sym (texts_both (map (event_line names) b.events) (appended_lines names batches)))
      (loads limits params [] b got few l.legal.0.some l.room.0 l.room.1 l.room.2 comes l.legal.0.few (texts (appended_lines names batches)) end refl more)

-- the lines are lines of a script
module _ (names : List (List ℕ)) (new : are_new [] names ≡ true) where
  one_batch : (verb : List ℕ) (before : List Event) (b : Batch) → All IsLine (batch_command verb (length b.events) ∷ []) → IsLegalBatch names before b → All IsLine (batch_lines verb names b)
  one_batch verb before b head l = All-append IsLine (batch_command verb (length b.events) ∷ []) (map (event_line names) b.events) head (events_are_lines names new b.events l.fits l.keys)

  command_line : (verb : List ℕ) → ((n : ℕ) → n < 2 ^ 64 → IsLine (batch_command verb n)) → (before : List Event) (b : Batch) → IsLegalBatch names before b → All IsLine (batch_command verb (length b.events) ∷ [])
  command_line verb is before b l = All-cons IsLine (batch_command verb (length b.events)) [] (is (length b.events) (let m = l.few in omega arith)) (All-nil IsLine)

  append_lines : (before : List Event) (batches : List Batch) → AreLegalAfter names before batches → All IsLine (appended_lines names batches)
  append_lines before [] l = All-nil IsLine
  append_lines before (b ∷ batches) l =
      All-append IsLine (batch_lines (codes "append") names b) (appended_lines names batches)
      (one_batch (codes "append") before b (command_line (codes "append") (λ n small. batch_command_line (codes "append") n refl (omega arith) small) before b l.0) l.0)
      (append_lines (before ++ b.events) batches l.1)

  pub batches_are_lines : (batches : List Batch) → AreLegalAfter names [] batches → All IsLine (batches_lines names batches)
  batches_are_lines [] l = All-nil IsLine
  batches_are_lines (b ∷ batches) l =
      All-append IsLine (batch_lines (codes "load") names b) (appended_lines names batches)
      (one_batch (codes "load") [] b (command_line (codes "load") (λ n small. batch_command_line (codes "load") n refl (omega arith) small) [] b l.0) l.0)
      (append_lines b.events batches l.1)

pub create_line_is : (l k : ℕ) (f : Function) → are_parameters l k ≡ true → is_function f ≡ true → IsLine (create_line (record { l = l; k = k; function = f }))
create_line_is l k f right is = by f is
  where
    low : l < 2 ^ 64
    low = let m = (in_range l k right).list_most in omega arith

    high : k < 2 ^ 64
    high = let m = (in_range l k right).arity_most in omega arith

    by : (f : Function) → is_function f ≡ true → IsLine (create_line (record { l = l; k = k; function = f }))
    by Intersection is = create_is_line l k (codes "intersection") low high refl (omega arith)
    by Union is = create_is_line l k (codes "union") low high refl (omega arith)
    by Balanced is = create_is_line l k (codes "balanced") low high refl (omega arith)
    by (Skewed r) is = skewed_is_line l k r low high (let m = leb-true r SKEW_MAX is in omega arith)

-- ---- how long the script is

few_lines : (names : List (List ℕ)) (verb : List ℕ) (b : Batch) (rest : List (List ℕ)) (more : ℕ) → 1 ≤ length b.events → length rest ≤ 2 * more
    → length (batch_lines verb names b ++ rest) ≤ 2 * (length b.events + more)
few_lines names verb b rest more some few =
    let a = length-append (batch_lines verb names b) rest in
    let c = length-map b.events (event_line names) in
    omega arith

few_appended : (names : List (List ℕ)) (before : List Event) (batches : List Batch) → AreLegalAfter names before batches
    → length (appended_lines names batches) ≤ 2 * length (events_among batches)
few_appended names before [] l = omega arith
few_appended names before (b ∷ batches) l =
    let here = few_lines names (codes "append") b (appended_lines names batches) (length (events_among batches)) l.0.some (few_appended names (before ++ b.events) batches l.1) in
    let a = length-append b.events (events_among batches) in
    omega arith

few_all : (names : List (List ℕ)) (batches : List Batch) → AreLegalAfter names [] batches → length (batches_lines names batches) ≤ 2 * length (events_among batches)
few_all names [] l = omega arith
few_all names (b ∷ batches) l =
    let here = few_lines names (codes "load") b (appended_lines names batches) (length (events_among batches)) l.0.some (few_appended names b.events batches l.1) in
    let a = length-append b.events (events_among batches) in
    omega arith

-- the lines of the script of a legal history
history_is_lines : (z : History) → IsLegal z → All IsLine (history_lines z)
history_is_lines z legal =
    All-cons IsLine (create_line z.params) (batches_lines (names_of z) z.batches) (create_line_is z.params.l z.params.k z.params.function legal.parameters legal.function)
    (batches_are_lines (names_of z) legal.names z.batches legal.batches)

pub scripts_are_short : ScriptsAreShort
scripts_are_short z legal =
    let text = text_short (history_lines z) (history_is_lines z legal) in
    let lines = few_all (names_of z) z.batches legal.batches in
    let few = legal.few in
    omega arith

-- ---- the run

pub scripts_make_histories : ScriptsMakeHistories
scripts_make_histories limits z legal brought room =
    let names = names_of z in
    let left : Left limits z.params names legal.names [] z.batches = record { legal = legal.batches; brought = brought; room = room; all = refl } in
    let batches = all_batches limits z.params names legal.names z.batches left in
    let goes = creates limits z.params.l z.params.k legal.parameters z.params.function (texts (batches_lines names z.batches)) (machine_at limits (Some (in_second_form z))) legal.function batches in
    let cut = text_lines (history_lines z) (history_is_lines z legal) in (
      goes.answers,
      record {
        run = subst (λ ls. Run (machine_at limits None) (entries_of ls) goes.answers) (sym cut) goes.run;
        ok = goes.ok;
        ends = goes.ends;
      },
    )
