-- The answer to the making of an index.
use Rattle.std.proofs.Common.{◌≡◌, inl, inr, ℕ, zero, suc, ◌*◌, true, false, List, [], Option, Some, None, Ok, Err, drop, length, map, nat_le, refl, sym, ◌∙◌, ap, subst}
use Rattle.std.specs.Prelude.{IfSome, is_some}
use Rattle.std.proofs.lemmas.Bool.{and_parts, false≢true}
use Rattle.dg_file.specs.declared.fault.CreateFault.{CreateFault}
use Rattle.dg_file.specs.declared.fault.CreateFault.TheVariants as fault
use Rattle.dg_file.specs.Images.{IsMadeInPart}
use Rattle.dg_graph.specs.declared.element.Element.{Element}
use Rattle.dg_graph.specs.declared.event.Event.{Event}
use Rattle.dg_graph.specs.declared.limits.TheConstants.{SKEW_MAX}
use Rattle.dg_history.specs.declared.form.Form.TheVariants as form
use Rattle.dg_history.specs.declared.params.Params.{Params}
use Rattle.dg_aux.specs.Turns.{said_over}
use Rattle.dg_history.specs.History.{History, are_parameters, empty_history, events_of}
use Rattle.dg_index.specs.ImageOfHistory.{IsImageOf, StandsAs}
use Rattle.dg_index.specs.OpenedIndex.{Opening, opened_of, opening}
use Rattle.dg_machine.specs.declared.reply.Head.TheVariants as head
use Rattle.dg_machine.specs.declared.reply.Reply.{Reply}
use Rattle.dg_machine.specs.Answer.{accepted, answer, headed, is_refusal}
use Rattle.dg_machine.specs.CutImage.{IsAcceptedWrite, IsCut, As_before, As_after, First_byte, makes_index}
use Rattle.dg_machine.specs.MachineState.{MachineState, history_in}
use Rattle.dg_machine.specs.Needs.{Needs, is_writing, needs, nothing_more, refused}
use Rattle.dg_machine.specs.Planning.{IsPlanned, no_plan}
use Rattle.dg_machine.specs.Run.{Step}
use Rattle.dg_machine.specs.Script.{Asked}
use Rattle.dg_index.specs.Hierarchy.{leaves}
use Rattle.dg_index.specs.IndexRecords.{recent_of}
use Rattle.dg_session.proofs.ReplyNames.{head_names, names_stay}
use Rattle.dg_session.proofs.PartStates.{AreOf, are_of, both_told, graph_in, no_graphs, no_handle_reached, no_index, one_told, opening_of, recent_in, refused_is, stands}
use Rattle.dg_session.proofs.SessionSteps.{accepted_is, accepted_steps, is_accepted, lacking_denies, moved}
use Rattle.dg_batch.specs.Halt.{creation_halt}
use Rattle.dg_session.specs.CreationCommand.{making, params_asked, share_asked}
use Rattle.dg_session.specs.Decided.{Fits, IsHeadOf}
use Rattle.dg_session.specs.declared.creation_command.AskedFunction.{AskedFunction}
use Rattle.dg_session.specs.declared.creation_command.AskedFunction.TheVariants.{Named, Share}
use Rattle.dg_session.specs.Parts.{Parts}
use Rattle.dg_stored.specs.StoredHistory.{AreCounted, IsHeldBy}
use Rattle.dg_session.proofs.Needed.{has_needed}
use Rattle.dg_session.specs.Session.{Accepts, ComesTo, CutsOff, StandsFor, refused_by}

-- it needs no index yet, and parameters in their ranges
abbrev creation_needs : ℕ → ℕ → ℕ → Needs
creation_needs l k share = record nothing_more { parameters = Some (l, k, share); writes = true }

needs_are : (l k : ℕ) (asked : AskedFunction) → needs (making l k asked) ≡ creation_needs l k (share_asked asked)
needs_are l k (Named f) = refl
needs_are l k (Share r) = refl

pub reads_no_record : (l k : ℕ) (asked : AskedFunction) → (needs (making l k asked)).reads ≡ false
reads_no_record l k asked = ap (λ (n : Needs). n.reads) (needs_are l k asked)

takes_memory : (l k : ℕ) (asked : AskedFunction) → (needs (making l k asked)).memory ≡ true
takes_memory l k asked = ap (λ (n : Needs). n.memory) (needs_are l k asked)

writes : (l k : ℕ) (asked : AskedFunction) → is_writing (making l k asked) ≡ true
writes l k asked = ap (λ (n : Needs). n.writes) (needs_are l k asked)

makes : (l k : ℕ) (asked : AskedFunction) → makes_index (making l k asked) ≡ true
makes l k (Named f) = refl
makes l k (Share r) = refl

unplanned : (l k : ℕ) (asked : AskedFunction) (m : MachineState) → IsPlanned m (making l k asked) no_plan
unplanned l k (Named f) m = refl
unplanned l k (Share r) m = refl

fits_head : (l k : ℕ) (asked : AskedFunction) → IsHeadOf (making l k asked) head.Created
fits_head l k (Named f) = tt
fits_head l k (Share r) = tt

-- what is refused of it is refused of the share that it says
pub asked_refused : (p : Parts) (l k : ℕ) (asked : AskedFunction) (share : ℕ) → share ≡ share_asked asked → refused_by p 0 (needs (making l k asked)) ≡ refused_by p 0 (creation_needs l k share)
asked_refused p l k asked share is = ap (refused_by p 0) (needs_are l k asked) ∙ ap (λ n. refused_by p 0 (creation_needs l k n)) (sym is)

-- what is found where it is not refused: no index, and parameters in their ranges
pub creation_free : (p : Parts) (l k : ℕ) (asked : AskedFunction) → refused_by p 0 (needs (making l k asked)) ≡ None
    → (is_some p.index ≡ false) × (are_parameters l k ≡ true) × (nat_le (share_asked asked) SKEW_MAX ≡ true)
creation_free p l k asked none =
    let asks : ℕ × ℕ × ℕ = (l, k, share_asked asked) in
    let has = has_needed p 0 (needs (making l k asked)) none in
    let is : (needs (making l k asked)).parameters ≡ Some asks = ap (λ (n : Needs). n.parameters) (needs_are l k asked) in
    let both = and_parts (are_parameters l k) (nat_le (share_asked asked) SKEW_MAX) (has.parameters asks is) in
    (has.no_index asks is, both.0, both.1)

pub none_there : (p : Parts) (image : List ℕ) (m : MachineState) (l k : ℕ) (asked : AskedFunction) → StandsFor p image m → refused_by p 0 (needs (making l k asked)) ≡ None → m.index ≡ None
none_there p image m l k asked s none = no_index m.index (ap is_some (sym (are_of m.index p s.kept).index_is) ∙ (creation_free p l k asked none).0)

-- the history of the new index
abbrev pub made_with : Params → History
made_with params = empty_history form.Two params

-- the state with the new index
abbrev pub made_in : MachineState → Params → MachineState
made_in m params = record m { index = Some (made_with params) }

pub free_of : (p : Parts) (image : List ℕ) (m : MachineState) (l k : ℕ) (asked : AskedFunction) → StandsFor p image m → refused_by p 0 (needs (making l k asked)) ≡ None → refused m (making l k asked) [] ≡ None
free_of p image m l k asked s none = sym (refused_is p image m (making l k asked) [] s) ∙ none

no_recent : (n : ℕ) → ◌≡◌ {A = List Event} [] (drop n [])
no_recent zero = refl
no_recent (suc n) = refl

module _ (l k : ℕ) (asked : AskedFunction) (params : Params) (params_are : params ≡ params_asked l k asked) where
  made_as : (m : MachineState) → accepted m (making l k asked) [] no_plan ≡ record { reply = headed head.Created; state = made_in m params }
  made_as m = by asked params_are
    where
      by : (x : AskedFunction) → params ≡ params_asked l k x → accepted m (making l k x) [] no_plan ≡ record { reply = headed head.Created; state = made_in m params }
      by (Named f) is = λ i. record { reply = headed head.Created; state = made_in m (sym is i) }
      by (Share r) is = λ i. record { reply = headed head.Created; state = made_in m (sym is i) }

  answer_is : (p : Parts) (image : List ℕ) (m : MachineState) → StandsFor p image m → refused_by p 0 (needs (making l k asked)) ≡ None
      → answer m (making l k asked) [] no_plan ≡ record { reply = headed head.Created; state = made_in m params }
  answer_is p image m s none =
      accepted_is m (making l k asked) [] no_plan (record { reply = headed head.Created; state = made_in m params }) (free_of p image m l k asked s none) (made_as m)

  -- the machine makes it
  pub making_steps : (p : Parts) (image : List ℕ) (m : MachineState) → StandsFor p image m → refused_by p 0 (needs (making l k asked)) ≡ None
      → Step m (Asked (making l k asked) []) (headed head.Created) (made_in m params)
  making_steps p image m s none =
      accepted_steps m (making l k asked) [] no_plan (record { reply = headed head.Created; state = made_in m params }) (free_of p image m l k asked s none) (unplanned l k asked m)
      (answer_is p image m s none)

  pub create_answers : (p q : Parts) (before after : Option (List ℕ)) (o : Opening) (reply : Reply) → refused_by p 0 (needs (making l k asked)) ≡ None
      → IfSome after (λ image. IsImageOf (made_with params) image) → IfSome after (λ image. opening image ≡ Ok (opened_of (made_with params)))
      → o ≡ opening_of (made_with params) → p.names ≡ [] → q ≡ record p { index = Some o } → reply ≡ headed head.Created
      → Accepts (making l k asked) [] p before q after reply
  create_answers p q before after o reply none made opened o_is no_names is reply_is = record {
    moves =
        moved (making l k asked) [] p q before after reply (unplanned l k asked) none
        (λ m x y a b s free.
        let gone : m.index ≡ None = none_there p x m l k asked s none in
        let handles : m.table ≡ [] = s.no_handles gone in
        let kept : AreOf m.index p = are_of m.index p s.kept in
        let names : p.names ≡ [] = no_names in
        let graph : p.graph ≡ [] = kept.graph_is ∙ ap graph_in gone in
        let recent : p.recent ≡ recent_of params [] = kept.recent_are ∙ ap recent_in gone ∙ no_recent (leaves params 0 * params.l) in (
          made_in m params,
          made_as m ∙ (λ i. record { reply = sym reply_is i; state = made_in m params }),
          stands q y (made_in m params) p.indexes
              (is
              ∙ (λ i. record { limits = s.limits i; index = Some (o_is i); names = names i; graph = graph i; recent = recent i; table = s.table i; graphs = (s.graphs ∙ no_graphs m (made_in m params) handles handles) i; next = s.next i; indexes = p.indexes }))
              (s.indexes ∙ ap (λ (i : Option History). map (said_over (events_of (history_in i))) m.indexes) gone)
              (one_told after (λ image. IsImageOf (made_with params) image) y made b)
              (no_handle_reached (made_in m params) handles) (λ e. cc),
        ));
    accepted = ap is_refusal reply_is;
    free = none;
    fits = subst (Fits (making l k asked)) (sym reply_is) (fits_head l k asked);
    held = λ h.
        subst (λ (x : Parts). IfSome after (λ image. IsHeldBy x.index x.names image)) (sym is)
        (subst (λ (x : Opening). IfSome after (λ image. opening image ≡ Ok (record { index = x; names = p.names }))) (sym o_is)
        (subst (λ (ns : List (List ℕ)). IfSome after (λ image. opening image ≡ Ok (record { index = opening_of (made_with params); names = ns }))) (sym no_names) opened));
    no_index = λ h. absurd (let e : Some o ≡ None = ap (λ (x : Parts). x.index) (sym is) ∙ h in cc);
    quiet = λ h. absurd (false≢true (sym h ∙ writes l k asked));
    named = head_names (length q.names) head.Created reply reply_is;
    keeps_names = names_stay p.names q.names (ap (λ (x : Parts). x.names) is);
  }

  -- the disk failed
  pub create_cuts : (p : Parts) (before after : List ℕ) → refused_by p 0 (needs (making l k asked)) ≡ None → IsMadeInPart form.Two params before after
      → CutsOff (making l k asked) [] p before after
  create_cuts p before after none part m s = by_part part
    where
      gone : m.index ≡ None
      gone = none_there p before m l k asked s none

      allowed : IsAcceptedWrite m (Asked (making l k asked) [])
      allowed = is_accepted m (making l k asked) [] (record { reply = headed head.Created; state = made_in m params }) (writes l k asked) (answer_is p before m s none) refl

      by_part : IsMadeInPart form.Two params before after → IsCut m (Asked (making l k asked) []) before after
      by_part (inl blank) = As_before allowed (subst (λ (i : Option History). StandsAs i after) (sym gone) blank)
      by_part (inr (inl made)) = As_after allowed (headed head.Created) (made_in m params) (making_steps p before m s none) made
      by_part (inr (inr byte)) = First_byte allowed (making l k asked) (makes l k asked) refl gone byte.0 byte.1 byte.2

  pub create_fails : (p q : Parts) (before after : Option (List ℕ)) (f : CreateFault) → refused_by p 0 (needs (making l k asked)) ≡ None → q ≡ p
      → (f ≡ fault.Memory → after ≡ before) → (f ≡ fault.Disk → IfSome before (λ x. IfSome after (λ y. IsMadeInPart form.Two params x y)))
      → ComesTo (making l k asked) [] p before q after (Err (creation_halt f))
  create_fails p q before after fault.Memory none same memory part = lacking_denies (making l k asked) [] p q before after same (memory refl) (takes_memory l k asked) none
  create_fails p q before after fault.Disk none same memory part = (
    writes l k asked,
    none,
    λ x y a b. create_cuts p x y none (both_told before after (λ x y. IsMadeInPart form.Two params x y) (part refl) x y a b),
  )

-- without an index there are no names
pub no_names : (index : Option Opening) (names : List (List ℕ)) (graph : List Element) (recent : List Event) → AreCounted index names graph recent → is_some index ≡ false → names ≡ []
no_names None names graph recent counted none = counted.0
no_names (Some o) names graph recent counted none = cc
