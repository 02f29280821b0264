-- The answer to an upgrade of the file.
use Rattle.std.proofs.Common.{◌≡◌, ◌⊎◌, inl, inr, ℕ, ◌<◌, ◌≤◌, Bool, true, false, List, [], Option, Some, None, Result, Ok, Err, length, map, nat_lt, refl, sym, ◌∙◌, ap, subst, arith, if◌then◌else◌}
use Rattle.std.specs.Prelude.{IfSome, is_some}
use Rattle.std.specs.List.{All}
use Rattle.std.proofs.lemmas.Bool.{false≢true}
use borrow.Author.Tests.{lt-ltb, le-ltb}
use Rattle.dg_aux.specs.Turns.{said_over}
use Rattle.dg_batch.specs.Held.{graphs_held}
use Rattle.dg_batch.specs.declared.held.Held.{Held}
use Rattle.dg_disk.specs.declared.disk.Disk.{Ghosts}
use Rattle.dg_file.specs.declared.fault.CommitFault.{CommitFault}
use Rattle.dg_file.specs.declared.fault.CommitFault.TheVariants as fault
use Rattle.dg_file.specs.Calls.{Upgrades}
use Rattle.dg_file.specs.Images.{GainsMarker, GainsUpgrade, GainsUpgradeOrNot}
use Rattle.dg_history.specs.declared.form.Form.{Form}
use Rattle.dg_history.specs.declared.form.Form.TheVariants as form
use Rattle.dg_history.specs.History.{History, events_of, is_wide, with_upgrade}
use Rattle.dg_index.proofs.OpenedIndexGrowth.{opened_upgraded, used_is}
use Rattle.dg_index.specs.FileOfHistory.{size}
use Rattle.dg_index.specs.ImageOfHistory.{IsImageOf, StandsAs}
use Rattle.dg_index.specs.IndexGrowth.{index_upgraded, needed_for_marker}
use Rattle.dg_index.specs.OpenedIndex.{Opened, Opening}
use Rattle.dg_machine.specs.declared.command.Command.TheVariants as command
use Rattle.dg_machine.specs.declared.limits.Limits.{Limits}
use Rattle.dg_machine.specs.declared.reply.Head.TheVariants as head
use Rattle.dg_machine.specs.declared.reply.Refusal.TheVariants as refusal
use Rattle.dg_machine.specs.declared.reply.Reply.{Reply}
use Rattle.dg_machine.specs.declared.reply.Reply.TheVariants as replied
use Rattle.dg_machine.specs.declared.stands.Stands.{Stands}
use Rattle.dg_machine.specs.Answer.{Answered, answer, headed, is_refusal, refuse, upgrading}
use Rattle.dg_machine.specs.CutImage.{IsAcceptedWrite, IsCut, As_before, As_after}
use Rattle.dg_machine.specs.MachineState.{MachineState, elements, history_in}
use Rattle.dg_machine.specs.Needs.{needs, refused}
use Rattle.dg_machine.specs.Planning.{no_plan}
use Rattle.dg_machine.specs.Run.{Step}
use Rattle.dg_machine.specs.Script.{Asked}
use Rattle.dg_session.proofs.PartStates.{IsOf, both_told, is_of, opening_of, refused_is, stands}
use Rattle.dg_session.proofs.ReplyNames.{head_names, names_stay}
use Rattle.dg_session.proofs.SessionSteps.{accepted_is, accepted_steps, denied_at, is_accepted}
use Rattle.dg_session.specs.Decided.{Fits}
use Rattle.dg_session.specs.Parts.{Parts}
use Rattle.dg_session.proofs.Needed.{has_needed}
use Rattle.dg_session.specs.Session.{Accepts, ComesTo, CutsOff, Denies, HoldsImage, StandsFor, is_reached, is_wide_held, refused_by}
use Rattle.dg_session.specs.Upgrade.{MarksHeld, upgrade_halt}
use Rattle.dg_session.specs.ValuesSaid.{IndexKept}
use Rattle.dg_sound_files.proofs.OpenedIndexRecords.{form_is}
use Rattle.dg_stored.specs.StoredHistory.{IsHeldBy, index_opening}

-- what a session keeps within these limits
abbrev pub held_parts : Limits → List IndexKept → Held → Parts
held_parts limits kept h = record {
  limits = limits;
  index = index_opening h.live.history.index;
  names = h.live.history.names;
  graph = h.live.history.now.graph;
  recent = h.live.history.recent.items;
  table = h.handles.table;
  graphs = graphs_held h;
  next = h.handles.next;
  indexes = kept;
}

-- ---- where nothing refuses it

-- there is an index, and its file is in the first form
pub record IsFree (p : Parts) : Type 0 where
  pub index : Opening
  pub there : p.index ≡ Some index
  pub narrow : is_wide index.form ≡ false

pub upgrade_free : (p : Parts) → refused_by p 0 (needs command.Upgrade) ≡ None → IsFree p
upgrade_free p none =
    let has = has_needed p 0 (needs command.Upgrade) none in
    by p.index refl (has.index refl) (has.narrow refl)
  where
    by : (i : Option Opening) → p.index ≡ i → is_some i ≡ true → is_wide_held i ≡ false → IsFree p
    by None is some narrow = absurd (false≢true some)
    by (Some o) is some narrow = record { index = o; there = is; narrow = narrow }

first_form : (f : Form) → is_wide f ≡ false → f ≡ form.One
first_form form.One e = refl
first_form (form.Upgraded b) e = absurd (false≢true (sym e))
first_form form.Two e = absurd (false≢true (sym e))

-- ---- the history, upgraded

-- the bytes that the marker needs are those of the upgraded file
size_is : (z : History) → z.form ≡ form.One → needed_for_marker (opening_of z) ≡ size (with_upgrade z)
size_is z one = ap (λ (x : Opened). x.index.used) (sym (opened_upgraded z one)) ∙ used_is (with_upgrade z)

-- the answer, by its test
abbrev by_room : MachineState → History → Bool → Answered
by_room m z full =
    if full then refuse m (refusal.FileFull (size (with_upgrade z)) m.limits.file_bytes)
    else record { reply = headed head.Upgraded; state = record m { index = Some (with_upgrade z) } }

module _ (p : Parts) (limit : ℕ) (limit_is : limit ≡ p.limits.file_bytes) (none : refused_by p 0 (needs command.Upgrade) ≡ None) (free : IsFree p) where
  abbrev o : Opening
  o = free.index

  -- ---- from a state that the session stands for

  module _ (image : List ℕ) (m : MachineState) (s : StandsFor p image m) where
    abbrev z : History
    z = (is_of p o image m free.there s).0

    abbrev h : IsOf p o image m z
    h = (is_of p o image m free.there s).1

    one : z.form ≡ form.One
    one = first_form z.form (ap is_wide (sym (form_is z h.stands.legal)) ∙ ap (λ (x : Opening). is_wide x.form) (sym h.opened) ∙ free.narrow)

    needed : needed_for_marker o ≡ size (with_upgrade z)
    needed = ap needed_for_marker h.opened ∙ size_is z one

    limits : limit ≡ m.limits.file_bytes
    limits = limit_is ∙ ap (λ (x : Limits). x.file_bytes) s.limits

    unrefused : refused m command.Upgrade [] ≡ None
    unrefused = sym (refused_is p image m command.Upgrade [] s) ∙ none

    answer_as : (full : Bool) → nat_lt m.limits.file_bytes (size (with_upgrade z)) ≡ full → answer m command.Upgrade [] no_plan ≡ by_room m z full
    answer_as full is =
        accepted_is m command.Upgrade [] no_plan (by_room m z full) unrefused
        (ap (λ (i : Option History). upgrading m (history_in i)) h.index ∙ ap (by_room m z) is)

    steps_as : (x : Answered) → answer m command.Upgrade [] no_plan ≡ x → Step m (Asked command.Upgrade []) x.reply x.state
    steps_as x is = accepted_steps m command.Upgrade [] no_plan x unrefused refl is

    -- the state with the upgraded history
    abbrev pub upgraded_in : MachineState
    upgraded_in = record m { index = Some (with_upgrade z) }

    answer_fits : needed_for_marker o ≤ limit → answer m command.Upgrade [] no_plan ≡ record { reply = headed head.Upgraded; state = upgraded_in }
    answer_fits fits = answer_as false (le-ltb m.limits.file_bytes (size (with_upgrade z)) (omega (arith, fits, needed, limits)))

    pub upgrade_steps : needed_for_marker o ≤ limit → Step m (Asked command.Upgrade []) (headed head.Upgraded) upgraded_in
    upgrade_steps fits = steps_as (record { reply = headed head.Upgraded; state = upgraded_in }) (answer_fits fits)

    -- the file has too little room
    full_steps : limit < needed_for_marker o → Step m (Asked command.Upgrade []) (replied.Refused (refusal.FileFull (needed_for_marker o) limit)) m
    full_steps over =
        steps_as (refuse m (refusal.FileFull (needed_for_marker o) limit))
        (answer_as true (lt-ltb m.limits.file_bytes (size (with_upgrade z)) (omega (arith, over, needed, limits)))
        ∙ (λ i. refuse m (refusal.FileFull (sym needed i) (sym limits i))))

    allowed : needed_for_marker o ≤ limit → IsAcceptedWrite m (Asked command.Upgrade [])
    allowed fits = is_accepted m command.Upgrade [] (record { reply = headed head.Upgraded; state = upgraded_in }) refl (answer_fits fits) refl

    -- an image of the history or of the upgraded one, as the machine goes
    pub left_as : (left : List ℕ) (P : Type 0) → GainsUpgradeOrNot image left → (StandsAs m.index left → P) → (StandsAs upgraded_in.index left → P) → P
    left_as left P gains before after = by (gains z h.stands one)
      where
        by : IsImageOf z left ⊎ IsImageOf (with_upgrade z) left → P
        by (inl same) = before (subst (λ (i : Option History). StandsAs i left) (sym h.index) same)
        by (inr more) = after more

    pub cut_as : (left : List ℕ) → needed_for_marker o ≤ limit → GainsUpgradeOrNot image left → IsCut m (Asked command.Upgrade []) image left
    cut_as left fits gains =
        left_as left (IsCut m (Asked command.Upgrade []) image left) gains (λ same. As_before (allowed fits) same) (λ more. As_after (allowed fits) (headed head.Upgraded) upgraded_in (upgrade_steps fits) more)

    -- the session with the upgraded index stands for the state with the upgraded history
    pub stands_upgraded : (q : Parts) (after : List ℕ) → q ≡ record p { index = Some (index_upgraded o) } → GainsUpgrade image after → StandsFor q after upgraded_in
    stands_upgraded q after is gains =
        let index : Some (index_upgraded o) ≡ Some (opening_of (with_upgrade z)) =
        (λ i. Some (index_upgraded (h.opened i))) ∙ ap (λ (x : Opened). Some x.index) (sym (opened_upgraded z one)) in
        let graphs : p.graphs ≡ map (λ (e : ℕ × Stands). elements (with_upgrade z) e.1) m.table =
        s.graphs ∙ ap (λ (i : Option History). map (λ (e : ℕ × Stands). elements (history_in i) e.1) m.table) h.index in
        let reached : All (λ (e : ℕ × Stands). is_reached z e.1 ≡ true) m.table =
        subst (λ (i : Option History). All (λ (e : ℕ × Stands). is_reached (history_in i) e.1 ≡ true) m.table) h.index s.reached in
        stands q after upgraded_in p.indexes
        (is ∙ (λ i. record { limits = s.limits i; index = index i; names = h.names i; graph = h.graph i; recent = h.recent i; table = s.table i; graphs = graphs i; next = s.next i; indexes = p.indexes }))
        (s.indexes ∙ ap (λ (i : Option History). map (said_over (events_of (history_in i))) m.indexes) h.index)
        (gains z h.stands one) reached (λ e. cc)

  -- ---- what the command comes to

  -- the image is held by the upgraded index
  still_held : (before after : Option (List ℕ)) → is_some after ≡ is_some before → IfSome before (λ x. IfSome after (λ y. GainsMarker o (index_upgraded o) x y))
      → IfSome before (λ x. IsHeldBy (Some o) p.names x) → IfSome after (λ y. IsHeldBy (Some (index_upgraded o)) p.names y)
  still_held before None told gains h = tt
  still_held None (Some y) told gains h = absurd (false≢true (sym told))
  still_held (Some x) (Some y) told gains h = gains p.names h

  pub upgrade_answers : (q : Parts) (before after : Option (List ℕ)) (reply : Reply) → is_some after ≡ is_some before → needed_for_marker o ≤ limit
      → IfSome before (λ x. IfSome after (λ y. GainsMarker o (index_upgraded o) x y)) → IfSome before (λ x. IfSome after (λ y. GainsUpgrade x y))
      → q ≡ record p { index = Some (index_upgraded o) } → reply ≡ headed head.Upgraded → Accepts command.Upgrade [] p before q after reply
  upgrade_answers q before after reply told fits opened gained is reply_is = record {
    moves = λ x y a b m s.
        let k : MachineState = upgraded_in x m s in (
          k,
          subst (λ (r : Reply). Step m (Asked command.Upgrade []) r k) (sym reply_is) (upgrade_steps x m s fits),
          stands_upgraded x m s q y is (both_told before after GainsUpgrade gained x y a b),
        );
    accepted = ap is_refusal reply_is;
    free = none;
    fits = subst (Fits command.Upgrade) (sym reply_is) tt;
    held = λ holds.
        subst (λ (x : Parts). HoldsImage x after) (sym is)
        (still_held before after told opened (subst (λ (i : Option Opening). IfSome before (λ x. IsHeldBy i p.names x)) free.there holds));
    no_index = λ gone. absurd (let e : Some (index_upgraded o) ≡ None = ap (λ (x : Parts). x.index) (sym is) ∙ gone in cc);
    quiet = λ e. absurd (false≢true (sym e));
    named = head_names (length q.names) head.Upgraded reply reply_is;
    keeps_names = names_stay p.names q.names (ap (λ (x : Parts). x.names) is);
  }

  pub upgrade_fills : (q : Parts) (before after : Option (List ℕ)) (n : ℕ) → q ≡ p → after ≡ before → n ≡ needed_for_marker o → limit < n → Denies command.Upgrade [] p before q after (refusal.FileFull n limit)
  upgrade_fills q before after n same same_image is over =
      subst (λ (k : ℕ). Denies command.Upgrade [] p before q after (refusal.FileFull k limit)) (sym is)
      (denied_at command.Upgrade [] p q before after (refusal.FileFull (needed_for_marker o) limit) same same_image
      (λ m image at s. full_steps image m s (omega (arith, over, is))) (λ e. absurd (false≢true e)) (inr (inl (refl, none))))

  -- the disk failed
  pub upgrade_cuts : (before after : List ℕ) → needed_for_marker o ≤ limit → GainsUpgradeOrNot before after → CutsOff command.Upgrade [] p before after
  upgrade_cuts before after fits gains m s = cut_as before m s after fits gains

  -- ---- by what the call below comes to

  module _ {D : Type 0} (g : Ghosts D) (A : Type 0) (limits_held : Limits) (indexes : List IndexKept) (old new : Held) (before after : D) (view : held_parts limits_held indexes old ≡ p) where
    -- what it says, where the index is this and it comes to this
    pub marked_here : (r x : Result A CommitFault) → IfSome (index_opening old.live.history.index) (λ (i : Opening). MarksHeld g limit i old new before after r) → r ≡ x → MarksHeld g limit o old new before after x
    marked_here r x marks is =
        let there : index_opening old.live.history.index ≡ Some o = ap (λ (y : Parts). y.index) view ∙ free.there in
        subst (λ (y : Result A CommitFault). MarksHeld g limit o old new before after y) is
        (subst (λ (k : Option Opening). IfSome k (λ (i : Opening). MarksHeld g limit i old new before after r)) there marks)

    pub upgrade_marked : (x : A) → MarksHeld g limit o old new before after (Ok x) → is_some (g.image after) ≡ is_some (g.image before) → (reply : Reply) → reply ≡ headed head.Upgraded
        → Accepts command.Upgrade [] p (g.image before) (held_parts limits_held indexes new) (g.image after) reply
    upgrade_marked x marks told reply is =
        let u : Upgrades g limit o marks.0.opening before after = marks.2 in
        upgrade_answers (held_parts limits_held indexes new) (g.image before) (g.image after) reply told u.fits
        (subst (λ (n : Opening). IfSome (g.image before) (λ x. IfSome (g.image after) (λ y. GainsMarker o n x y))) u.index u.opened) u.gained
        (ap (held_parts limits_held indexes) marks.1 ∙ (λ i. record (view i) { index = Some (u.index i) })) is

    pub upgrade_fails : (f : CommitFault) → MarksHeld {A = A} g limit o old new before after (Err f)
        → ComesTo command.Upgrade [] p (g.image before) (held_parts limits_held indexes new) (g.image after) (Err (upgrade_halt limit f))
    upgrade_fails (fault.FileFull n) marks =
        upgrade_fills (held_parts limits_held indexes new) (g.image before) (g.image after) n (ap (held_parts limits_held indexes) marks.0 ∙ view) (ap (λ (d : D). g.image d) marks.3) marks.1 marks.2
    upgrade_fails fault.Disk marks = (
      refl,
      none,
      λ x y a b. upgrade_cuts x y marks.fits (both_told (g.image before) (g.image after) GainsUpgradeOrNot marks.part x y a b),
    )
