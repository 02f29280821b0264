-- The refusals part by part, and what a command has that is not refused.
use Rattle.std.proofs.Common.{◌≡◌, ℕ, ◌+◌, ◌≤◌, Bool, true, false, not, List, [], ◌∷◌, ◌++◌, Option, Some, None, length, refl, sym, ◌∙◌, ap, arith, nat_le, nat_lt}
use Rattle.std.specs.Prelude.{◌&&◌, is_some}
use Rattle.std.proofs.lemmas.Bool.{not-false}
use Rattle.std.proofs.lemmas.Option.{none-some}
use borrow.Author.Tests.{lt-ltb, ltb-false}
use Rattle.dg_ask.specs.HeldIndex.{events_held, has_node_held, span_held}
use Rattle.dg_graph.specs.declared.limits.TheConstants.{SKEW_MAX}
use Rattle.dg_history.specs.declared.node.NodeId.{NodeId}
use Rattle.dg_history.specs.History.{are_parameters}
use Rattle.dg_machine.specs.declared.limits.TheConstants.{HANDLE_MAX, INDEXES_MAX, LIVE_HANDLES_MAX}
use Rattle.dg_machine.specs.declared.reply.Refusal.{Refusal}
use Rattle.dg_machine.specs.declared.reply.Refusal.TheVariants as refusal
use Rattle.dg_machine.specs.MachineState.{dependent_on, stands_at}
use Rattle.dg_machine.specs.Needs.{Needs, earliest, is_out_of_range, is_set, of, when}
use Rattle.dg_session.proofs.PartStates.{last_passes, passes}
use Rattle.dg_session.specs.NeedsParts.{of_handle, of_history, of_index, of_lines, of_names, of_room}
use Rattle.dg_session.specs.Parts.{Parts}
use Rattle.dg_session.specs.Session.{is_indexed_by, is_too_full, is_wide_held, refused_by}
use Rattle.dg_text.specs.Names.{number_of}

-- the first of the two, where there is one
abbrev pub first : Option Refusal → Option Refusal → Option Refusal
first None second = second
first (Some r) second = Some r

-- the last piece of a part, and what is behind the part
last : (a rest : List Refusal) → earliest (a ++ rest) ≡ first (earliest (a ++ [])) (earliest rest)
last [] rest = refl
last (r ∷ a) rest = refl

-- a piece before others of its part
before : (a xs ys : List Refusal) (second : Option Refusal) → earliest xs ≡ first (earliest ys) second → earliest (a ++ xs) ≡ first (earliest (a ++ ys)) second
before [] xs ys second e = e
before (r ∷ a) xs ys second e = refl

-- a part does not refuse, or does
pub goes_on : (a b x : Option Refusal) → x ≡ a → x ≡ None → first a b ≡ b
goes_on a b x is none = ap (λ o. first o b) (sym is ∙ none)

pub stops : (a b x : Option Refusal) (r : Refusal) → x ≡ a → x ≡ Some r → first a b ≡ Some r
stops a b x r is some = ap (λ o. first o b) (sym is ∙ some)

module _ (p : Parts) (read : ℕ) (n : Needs) where
  -- what is refused is refused by the first part that refuses
  pub by_parts : refused_by p read n
      ≡ first (refused_by p read (of_lines n)) (first (refused_by p 0 (of_index n)) (first (refused_by p 0 (of_history n)) (first (refused_by p 0 (of_handle n)) (first (refused_by p 0 (of_names n)) (refused_by p 0 (of_room n))))))
  by_parts =
      last (of n.lines (λ count. when (nat_lt read count) (refusal.ShortBatch read count))) _
      ∙ ap (first (refused_by p read (of_lines n)))
      (before (when (n.index && not (is_some p.index)) refusal.NoIndex) _ _ _
      (before (of n.parameters (λ x. when (is_some p.index) refusal.IndexExists)) _ _ _
      (before (when (n.first_form && is_wide_held p.index) refusal.NewFormat) _ _ _
      (last (of n.parameters (λ x. when (not (are_parameters x.0 x.1 && nat_le x.2 SKEW_MAX)) refusal.Parameters)) _)))
      ∙ ap (first (refused_by p 0 (of_index n)))
      (before (when (n.unloaded && is_some (span_held p.index)) refusal.AlreadyLoaded) _ _ _
      (before (when (nat_lt 0 n.changes && is_too_full p n.changes) (refusal.HistoryFull (events_held p.index) n.changes)) _ _ _
      (last (when (is_out_of_range (span_held p.index) n.instants n.until) (refusal.OutOfRange (span_held p.index))) _))
      ∙ ap (first (refused_by p 0 (of_history n)))
      (before (of n.handle (λ h. when (not (is_some (stands_at h p.table))) (refusal.UnknownHandle h))) _ _ _
      (before (of n.handle (λ h. when (n.overlay && is_set (stands_at h p.table)) (refusal.NotAnOverlay h))) _ _ _
      (last (of n.unused (λ h. of (dependent_on h p.table) (λ d. refusal.InUse d ∷ []))) _))
      ∙ ap (first (refused_by p 0 (of_handle n)))
      (before (of n.node (λ v. when (not (has_node_held p.index v)) refusal.UnknownNode)) _ _ _
      (before (of n.unindexed (λ key. when (not (is_some (number_of p.names key))) refusal.UnknownKey)) _ _ _
      (before (of n.indexed (λ key. when (not (is_indexed_by p key)) refusal.NotIndexed)) _ _ _
      (before (of n.unindexed (λ key. when (is_indexed_by p key) refusal.AlreadyIndexed)) _ _ _
      (last (of n.unindexed (λ key. when (nat_le INDEXES_MAX (length p.indexes)) refusal.IndexesFull)) _))))))))

-- ---- what is there where nothing is refused

of_passes : {A : Type 0} (x : Option A) (f : A → Bool) (r : A → Refusal) (rest : List Refusal) → earliest (of x (λ a. when (f a) (r a)) ++ rest) ≡ None
    → ((a : A) → x ≡ Some a → f a ≡ false) × (earliest rest ≡ None)
of_passes None f r rest e = (λ a is. absurd (none-some a is), e)
of_passes (Some a) f r rest e =
    let more = passes (f a) (r a) rest e in
    (λ b is. let same : b ≡ a = cc in ap f same ∙ more.0, more.1)

used_passes : (x : Option ℕ) (f : ℕ → Option ℕ) (rest : List Refusal) → earliest (of x (λ h. of (f h) (λ d. refusal.InUse d ∷ [])) ++ rest) ≡ None
    → ((h : ℕ) → x ≡ Some h → f h ≡ None) × (earliest rest ≡ None)
used_passes None f rest e = (λ h is. absurd (none-some h is), e)
used_passes (Some h) f rest e = by (f h) refl e
  where
    by : (d : Option ℕ) → f h ≡ d → earliest (of d (λ u. refusal.InUse u ∷ []) ++ rest) ≡ None → ((g : ℕ) → Some h ≡ Some g → f g ≡ None) × (earliest rest ≡ None)
    by None is e = (λ g same. let one : g ≡ h = cc in ap f one ∙ is, e)
    by (Some u) is e = absurd (none-some (refusal.InUse u) (sym e))

needed_too : (a b : Bool) → a ≡ true → (a && b) ≡ false → b ≡ false
needed_too a b here e = ap (λ x. x && b) (sym here) ∙ e

least : (a : Bool) (most x : ℕ) → a ≡ true → (a && nat_lt most x) ≡ false → x ≤ most
least a most x here e = omega (arith, ltb-false most x (needed_too a (nat_lt most x) here e))

-- what a session has for a command that needs this
pub record HasNeeded (p : Parts) (n : Needs) : Type 0 where
  pub index : n.index ≡ true → is_some p.index ≡ true
  pub no_index : (x : ℕ × ℕ × ℕ) → n.parameters ≡ Some x → is_some p.index ≡ false
  pub narrow : n.first_form ≡ true → is_wide_held p.index ≡ false
  pub parameters : (x : ℕ × ℕ × ℕ) → n.parameters ≡ Some x → (are_parameters x.0 x.1 && nat_le x.2 SKEW_MAX) ≡ true
  pub unloaded : n.unloaded ≡ true → is_some (span_held p.index) ≡ false
  pub changes : 1 ≤ n.changes → is_too_full p n.changes ≡ false
  pub instants : is_out_of_range (span_held p.index) n.instants n.until ≡ false
  pub handle : (h : ℕ) → n.handle ≡ Some h → is_some (stands_at h p.table) ≡ true
  pub unused : (h : ℕ) → n.unused ≡ Some h → dependent_on h p.table ≡ None
  pub node : (v : NodeId) → n.node ≡ Some v → has_node_held p.index v ≡ true
  pub name : (key : List ℕ) → n.unindexed ≡ Some key → is_some (number_of p.names key) ≡ true
  pub indexed : (key : List ℕ) → n.indexed ≡ Some key → is_indexed_by p key ≡ true
  pub room : 1 ≤ n.handles → length p.table + n.handles ≤ LIVE_HANDLES_MAX
  pub numbers : 1 ≤ n.handles → p.next + n.handles ≤ HANDLE_MAX + 1

pub has_needed : (p : Parts) (read : ℕ) (n : Needs) → refused_by p read n ≡ None → HasNeeded p n
has_needed p read n free =
    let lines = of_passes n.lines (λ count. nat_lt read count) (λ count. refusal.ShortBatch read count) _ free in
    let index = passes (n.index && not (is_some p.index)) refusal.NoIndex _ lines.1 in
    let no_index = of_passes n.parameters (λ x. is_some p.index) (λ x. refusal.IndexExists) _ index.1 in
    let form = passes (n.first_form && is_wide_held p.index) refusal.NewFormat _ no_index.1 in
    let parameters = of_passes n.parameters (λ x. not (are_parameters x.0 x.1 && nat_le x.2 SKEW_MAX)) (λ x. refusal.Parameters) _ form.1 in
    let unloaded = passes (n.unloaded && is_some (span_held p.index)) refusal.AlreadyLoaded _ parameters.1 in
    let changes = passes (nat_lt 0 n.changes && is_too_full p n.changes) (refusal.HistoryFull (events_held p.index) n.changes) _ unloaded.1 in
    let instants = passes (is_out_of_range (span_held p.index) n.instants n.until) (refusal.OutOfRange (span_held p.index)) _ changes.1 in
    let handle = of_passes n.handle (λ h. not (is_some (stands_at h p.table))) (λ h. refusal.UnknownHandle h) _ instants.1 in
    let overlay = of_passes n.handle (λ h. n.overlay && is_set (stands_at h p.table)) (λ h. refusal.NotAnOverlay h) _ handle.1 in
    let unused = used_passes n.unused (λ h. dependent_on h p.table) _ overlay.1 in
    let node = of_passes n.node (λ v. not (has_node_held p.index v)) (λ v. refusal.UnknownNode) _ unused.1 in
    let name = of_passes n.unindexed (λ key. not (is_some (number_of p.names key))) (λ key. refusal.UnknownKey) _ node.1 in
    let indexed = of_passes n.indexed (λ key. not (is_indexed_by p key)) (λ key. refusal.NotIndexed) _ name.1 in
    let unindexed = of_passes n.unindexed (λ key. is_indexed_by p key) (λ key. refusal.AlreadyIndexed) _ indexed.1 in
    let full = of_passes n.unindexed (λ key. nat_le INDEXES_MAX (length p.indexes)) (λ key. refusal.IndexesFull) _ unindexed.1 in
    let room = passes (nat_lt 0 n.handles && nat_lt LIVE_HANDLES_MAX (length p.table + n.handles)) (refusal.PoolFull (length p.table) n.handles) _ full.1 in
    let numbers = last_passes (nat_lt 0 n.handles && nat_lt (HANDLE_MAX + 1) (p.next + n.handles)) refusal.HandlesSpent room.1 in
    record {
      index = λ e. not-false (is_some p.index) (needed_too n.index (not (is_some p.index)) e index.0);
      no_index = no_index.0;
      narrow = λ e. needed_too n.first_form (is_wide_held p.index) e form.0;
      parameters = λ x is. not-false (are_parameters x.0 x.1 && nat_le x.2 SKEW_MAX) (parameters.0 x is);
      unloaded = λ e. needed_too n.unloaded (is_some (span_held p.index)) e unloaded.0;
      changes = λ some. needed_too (nat_lt 0 n.changes) (is_too_full p n.changes) (lt-ltb 0 n.changes some) changes.0;
      instants = instants.0;
      handle = λ h is. not-false (is_some (stands_at h p.table)) (handle.0 h is);
      unused = unused.0;
      node = λ v is. not-false (has_node_held p.index v) (node.0 v is);
      name = λ key is. not-false (is_some (number_of p.names key)) (name.0 key is);
      indexed = λ key is. not-false (is_indexed_by p key) (indexed.0 key is);
      room = λ some. least (nat_lt 0 n.handles) LIVE_HANDLES_MAX (length p.table + n.handles) (lt-ltb 0 n.handles some) room.0;
      numbers = λ some. least (nat_lt 0 n.handles) (HANDLE_MAX + 1) (p.next + n.handles) (lt-ltb 0 n.handles some) numbers;
    }
