-- The answer to `index`.
use Rattle.std.proofs.Common.{◌≡◌, inl, inr, ℕ, true, false, List, [], ◌∷◌, ◌++◌, Option, Some, None, Result, Ok, Err, length, refl, sym, ◌∙◌, ap, subst}
use Rattle.std.specs.Prelude.{IfOk, IfSome, is_some}
use Rattle.std.proofs.lemmas.List.{map-append}
use Rattle.dg_aux.specs.Turns.{AuxState, ValuesSaid, additions, said_by, said_over, says, turns_of}
use Rattle.dg_aux.specs.TurnLaws.{TurnsAddAsEvents}
use Rattle.dg_aux.specs.Values.{additions_of}
use Rattle.dg_fold.specs.BytesRead.{Takes, TakesAtMost}
use Rattle.dg_graph.specs.declared.element.Column.{Column}
use Rattle.dg_graph.specs.declared.event.Event.{Event}
use Rattle.dg_history.specs.History.{History, events_of, names_of}
use Rattle.dg_index.specs.ImageOfHistory.{StandsAs}
use Rattle.dg_index.specs.OpenedIndex.{Opening, opened_of}
use Rattle.dg_machine.specs.declared.command.Command.{Command}
use Rattle.dg_machine.specs.declared.command.Command.TheVariants as command
use Rattle.dg_machine.specs.declared.reply.Head.TheVariants as head
use Rattle.dg_machine.specs.declared.reply.Reply.{Reply}
use Rattle.dg_machine.specs.declared.texts.KeyText.{KeyText}
use Rattle.dg_machine.specs.Answer.{accepted, headed, is_refusal, weight_told}
use Rattle.dg_machine.specs.MachineState.{MachineState, history_in, names_in}
use Rattle.dg_machine.specs.Planning.{IsPlanned, Planned, no_plan}
use Rattle.dg_machine.specs.ValueIndex.{key_text, node_attrs_length}
use Rattle.dg_range.specs.ColumnRuns.{TakesColumns, bytes_along}
use Rattle.dg_range.specs.ListValues.{IsFirstValueDamage, SaysValuesOf, TellsValueDamage, all_node_columns, values_along}
use Rattle.dg_range.specs.ValueLaw.{HasValuesOf, ImagesHaveValues}
use Rattle.dg_records.specs.declared.fault.RecordFault.{RecordFault}
use Rattle.dg_records.specs.declared.fault.RecordFault.TheVariants as fault
use Rattle.dg_retrieval.specs.Retrieval.{IsNoDamage}
use Rattle.dg_session.proofs.IndexesSaid.{alike_says}
use Rattle.dg_session.proofs.PartStates.{IsOf, are_of, is_of, kept, one_image, one_told, stands}
use Rattle.dg_session.proofs.ReplyNames.{head_names, names_stay}
use Rattle.dg_session.proofs.SessionRetrievals.{IsSession, if_some, moved_with, reads_failed, z_of}
use Rattle.dg_session.specs.BatchReads.{is_early}
use Rattle.dg_session.specs.Decided.{Fits}
use Rattle.dg_session.specs.Parts.{Parts}
use Rattle.dg_session.specs.Reads.{IndexesFor, Reads, with_new_index}
use Rattle.dg_session.proofs.Needed.{has_needed}
use Rattle.dg_session.specs.Session.{Accepts, HoldsImage, StandsFor, index_needs, refused_by}
use Rattle.dg_session.specs.ValuesSaid.{kept_of, said_of}
use Rattle.dg_text.specs.Lines.{ScriptLine}
use Rattle.dg_text.specs.Names.{number_in, number_of, number_or}

-- where nothing refuses it, there is an index
pub index_there : (p : Parts) (text : List ℕ) → refused_by p 0 (index_needs text) ≡ None → is_some p.index ≡ true
index_there p text none = (has_needed p 0 (index_needs text) none).index refl

-- ---- the answer

module _ (p : Parts) (k : KeyText) (key : ℕ) (named : number_of p.names (key_text k) ≡ Some key) (free : refused_by p 0 (index_needs (key_text k)) ≡ None) where
  -- the machine has the same number
  number_is : (image : List ℕ) (m : MachineState) → StandsFor p image m → number_in (names_in m.index) (key_text k) ≡ key
  number_is image m s =
      ap (λ (ns : List (List ℕ)). number_in ns (key_text k)) (sym (are_of m.index p s.kept).names_are) ∙ ap (λ (o : Option ℕ). number_or o (length p.names)) named

  pub index_answers : TurnsAddAsEvents → (q : Parts) (before after : Option (List ℕ)) (weight spans : ℕ) (aux : AuxState) (reply : Reply) → after ≡ before
      → ((image : List ℕ) (m : MachineState) → StandsFor p image m → weight ≡ node_attrs_length (history_in m.index))
      → IfSome before (λ image. (m : MachineState) → StandsFor p image m → said_by aux ≡ said_over (events_of (history_in m.index)) key)
      → spans ≡ additions aux.turns → q ≡ with_new_index p (kept_of aux) → reply ≡ headed (head.Indexed spans weight) → Accepts (command.Index k) [] p before q after reply
  index_answers law q before after weight spans aux reply same weighs got spans_are is reply_is = record {
    moves =
        moved_with (command.Index k) p q before after reply free
        (λ m x y a b s.
        let events : List Event = events_of (history_in m.index) in
        let said : said_by aux ≡ said_over events key = one_told before (λ image. (j : MachineState) → StandsFor p image j → said_by aux ≡ said_over (events_of (history_in j.index)) key) x got a m s in
        let next : MachineState = record m { indexes = m.indexes ++ key ∷ [] } in
        let many : spans ≡ additions_of key events = spans_are ∙ ap (λ (v : ValuesSaid). v.additions) said ∙ law key events in
        let number = number_is x m s in (
          no_plan,
          next,
          refl,
          (λ i. record {
            reply = (ap (λ n. headed (head.Indexed (additions_of n events) (node_attrs_length (history_in m.index)))) number
                ∙ (λ j. headed (head.Indexed (sym many j) (sym (weighs x m s) j))) ∙ sym reply_is) i;
            state = record m { indexes = m.indexes ++ number i ∷ [] };
          }),
          stands q y next (p.indexes ++ kept_of aux ∷ [])
              (is ∙ (λ i. record (kept p x m s i) { indexes = p.indexes ++ kept_of aux ∷ [] }))
              (map-append said_of p.indexes (kept_of aux ∷ []) ∙ (λ i. s.indexes i ++ said i ∷ []) ∙ sym (map-append (said_over events) m.indexes (key ∷ [])))
              (subst (λ image. StandsAs m.index image) (one_image before after x y same a b) s.image_stands) s.reached s.no_handles,
        ));
    accepted = ap is_refusal reply_is;
    free = free;
    fits = subst (Fits (command.Index k)) (sym reply_is) tt;
    held = λ h. subst (λ (x : Parts). HoldsImage x after) (sym is) (subst (HoldsImage p) (sym same) h);
    no_index = λ h. (ap (λ (x : Parts). x.index) (sym is) ∙ h, same);
    quiet = λ h. same;
    named = head_names (length q.names) (head.Indexed spans weight) reply reply_is;
    keeps_names = names_stay p.names q.names (ap (λ (x : Parts). x.names) is);
  }

-- where it fails, the bytes read are at most what its reply would tell
pub index_fails : (p : Parts) (k : KeyText) → refused_by p 0 (index_needs (key_text k)) ≡ None → (image : Option (List ℕ)) (reply : Reply) (before after : ℕ) → is_refusal reply ≡ true → is_early reply ≡ false
    → IfSome image (λ bytes. (m : MachineState) → StandsFor p bytes m → TakesAtMost (node_attrs_length (history_in m.index)) before after)
    → Reads (command.Index k) p image reply before after
index_fails p k free image reply before after refuses late most =
    let c : Command = command.Index k in
    reads_failed c p image reply before after refl refuses late (λ m got reads. reads) (λ got. free)
    (if_some image (λ bytes. (m : MachineState) → StandsFor p bytes m → TakesAtMost (node_attrs_length (history_in m.index)) before after)
    (λ bytes. (m : MachineState) → StandsFor p bytes m → (got : List ScriptLine) (plan : Planned) → IsPlanned m c plan → TakesAtMost (weight_told (accepted m c got plan).reply) before after)
    (λ x f m s got plan planned. f m s) most)

-- ---- what the columns of the index weigh, and what is read of them

module _ (law : ImagesHaveValues) (p : Parts) (o : Opening) (there : p.index ≡ Some o) where
  pub bytes_are : (image : List ℕ) (m : MachineState) → StandsFor p image m → bytes_along o (all_node_columns o) ≡ node_attrs_length (history_in m.index)
  bytes_are image m s =
      let z : History = z_of p o image m there s in
      let is : IsOf p o image m z = (is_of p o image m there s).1 in
      ap (λ (x : Opening). bytes_along x (all_node_columns x)) is.opened
      ∙ (law z image is.stands).bytes
      ∙ sym (ap (λ (i : Option History). node_attrs_length (history_in i)) is.index)

  module _ (names : ℕ) (recent : List Event) (is : IsSession p o names recent) (before after : ℕ) where
    -- what is said of the key is what the history says
    said_so : (image : List ℕ) (m : MachineState) → StandsFor p image m → (key : ℕ) (aux : AuxState) → aux.key ≡ key → SaysValuesOf names image o recent aux
        → said_by aux ≡ said_over (events_of (history_in m.index)) key
    said_so image m s key aux key_is read =
        let z : History = z_of p o image m there s in
        let of : IsOf p o image m z = (is_of p o image m there s).1 in
        let has : HasValuesOf z image = law z image of.stands in
        let here : values_along (length (names_of z)) image (opened_of z).index ≡ Ok read.0 =
        (λ i. values_along (sym (is.count ∙ ap length of.names) i) image (sym of.opened i)) ∙ read.1 in
        let events : has.events ≡ read.0 = same_ok has.events read.0 (sym has.read ∙ here) in
        let turns : turns_of aux.key (read.0 ++ recent) ≡ turns_of aux.key (events_of z) =
        (λ i. turns_of aux.key (sym events i ++ (is.all ∙ of.recent) i)) ∙ has.turns aux.key in
        alike_says aux.key (turns_of aux.key (read.0 ++ recent)) aux.turns read.2
        ∙ (λ i. let v : ValuesSaid = record { key = aux.key; says = says (turns i); additions = additions (turns i) } in v)
        ∙ ap (said_over (events_of z)) key_is
        ∙ sym (ap (λ (i : Option History). said_over (events_of (history_in i)) key) of.index)
      where
        same_ok : (a b : List Event) → (let x : Result (List Event) (ℕ × Column) = Ok a in x) ≡ Ok b → a ≡ b
        same_ok a b e = cc

    never : (image : List ℕ) (m : MachineState) → StandsFor p image m → (f : RecordFault) → IsFirstValueDamage names image o f → IsNoDamage f
    never image m s fault.Disk first = inl refl
    never image m s fault.Memory first = inr refl
    never image m s (fault.Damaged k col) first =
        let z : History = z_of p o image m there s in
        let of : IsOf p o image m z = (is_of p o image m there s).1 in
        let has : HasValuesOf z image = law z image of.stands in
        let here : values_along names image o ≡ Ok has.events = (λ i. values_along ((is.count ∙ ap length of.names) i) image (of.opened i)) ∙ has.read in
        absurd (differ has.events first.0 (sym here ∙ first.1))
      where
        differ : (a : List Event) (b : ℕ × Column) → (let x : Result (List Event) (ℕ × Column) = Ok a in x) ≡ Err b → ⊥
        differ a b e = cc

    -- what is read over the index is what the machine indexes
    pub indexes_for : (key : ℕ) (told : Option (List ℕ)) (r : Result AuxState RecordFault) → IfOk r (λ aux. aux.key ≡ key) → IfOk r (λ aux. IfSome told (λ image. SaysValuesOf names image o recent aux))
        → IfSome told (λ image. TakesColumns o (all_node_columns o) before after r)
        → IfSome told (λ image. TellsValueDamage names o image r)
        → IfSome told (λ image. (m : MachineState) → StandsFor p image m → IndexesFor m key before after r)
    indexes_for key None r of_key says_so takes damage = tt
    indexes_for key (Some image) (Ok aux) of_key says_so takes damage = λ m s. record {
      said = said_so image m s key aux of_key says_so;
      takes = subst (λ n. Takes n before after) (bytes_are image m s) takes.takes;
      most = subst (λ n. TakesAtMost n before after) (bytes_are image m s) takes.most;
      never = tt;
    }
    indexes_for key (Some image) (Err f) of_key says_so takes damage = λ m s. record {
      said = tt;
      takes = tt;
      most = subst (λ n. TakesAtMost n before after) (bytes_are image m s) takes.most;
      never = never image m s f damage;
    }

-- ---- by what is read, where the image is told

module _ (p : Parts) (key : ℕ) (told : Option (List ℕ)) (before after : ℕ) where
  abbrev pub ForIndex : Result AuxState RecordFault → Type 0
  ForIndex r = IfSome told (λ image. (m : MachineState) → StandsFor p image m → IndexesFor m key before after r)

  pub index_said_of : (aux : AuxState) → ForIndex (Ok aux) → IfSome told (λ image. (m : MachineState) → StandsFor p image m → said_by aux ≡ said_over (events_of (history_in m.index)) key)
  index_said_of aux over = if_some told (λ image. (m : MachineState) → StandsFor p image m → IndexesFor m key before after (Ok aux)) _ (λ image f m s. (f m s).said) over

  pub index_taken_of : (aux : AuxState) (weight : ℕ) → ((image : List ℕ) (m : MachineState) → StandsFor p image m → weight ≡ node_attrs_length (history_in m.index))
      → ForIndex (Ok aux) → IfSome told (λ image. (m : MachineState) → StandsFor p image m → Takes weight before after)
  index_taken_of aux weight weighs over =
      if_some told (λ image. (m : MachineState) → StandsFor p image m → IndexesFor m key before after (Ok aux)) _ (λ image f m s. subst (λ n. Takes n before after) (sym (weighs image m s)) (f m s).takes) over

  pub index_most_of : (r : Result AuxState RecordFault) → ForIndex r → IfSome told (λ image. (m : MachineState) → StandsFor p image m → TakesAtMost (node_attrs_length (history_in m.index)) before after)
  index_most_of r over = if_some told (λ image. (m : MachineState) → StandsFor p image m → IndexesFor m key before after r) _ (λ image f m s. (f m s).most) over

  pub index_never_of : (f : RecordFault) → ForIndex (Err f) → IfSome told (λ image. (m : MachineState) → StandsFor p image m → IsNoDamage f)
  index_never_of f over = if_some told (λ image. (m : MachineState) → StandsFor p image m → IndexesFor m key before after (Err f)) _ (λ image h m s. (h m s).never) over
