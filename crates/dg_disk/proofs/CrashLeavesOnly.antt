-- How a run of calls of a disk goes on, for a crash at any moment of it.
use Rattle.std.proofs.Common.{◌≡◌, ◌≤◌, inl, inr, subst, sym, ⊎_elim, ℕ, List, length, arith}
use Rattle.std.proofs.Math.Nat.{le_refl}
use Rattle.dg_disk.specs.Crash.{LeavesNoMore, LeavesOnly, LeavesTorn, Passes, Torn, TornBehind}
use Rattle.dg_disk.specs.Image.{PartWritten}
use Rattle.dg_disk.proofs.CrashTorn.{torn_is_part, torn_is_behind, none_written, behind_itself, behind_both}

-- A sync adds no moment at which a crash may leave more: what it may leave now counts as left before.
pub since_sync : (first last : ℕ) (old_since new_since : ℕ → List ℕ → Type 0) (old_leaves leaves : List ℕ → Type 0) → Passes first last old_since new_since leaves → LeavesNoMore old_leaves leaves
    → ((t : ℕ) (c : List ℕ) → t ≤ first → old_leaves c → old_since t c) → (t : ℕ) (c : List ℕ) → t ≤ first → new_since t c → old_since t c
since_sync first last old_since new_since old_leaves leaves time less counts t c le left =
    ⊎_elim (λ was. was) (λ now. counts t c le (less c now)) (time.either t c le left)

module _ {D : Type 0} (moment : D → ℕ) (left_since : D → ℕ → List ℕ → Type 0) where
  -- before the first call
  pub starts : (old : D) (P : List ℕ → Type 0) → ((c : List ℕ) → left_since old (moment old) c → P c) → LeavesOnly moment left_since old old P
  starts old P has = record { later = le_refl (moment old); within = has; since = λ t c le left. inl left }

  -- one run, and then another
  pub joins : (old mid new : D) (P : List ℕ → Type 0) → LeavesOnly moment left_since old mid P → LeavesOnly moment left_since mid new P → LeavesOnly moment left_since old new P
  joins old mid new P first second = record {
    later = omega (arith, first.later, second.later);
    within = λ c left. ⊎_elim (first.within c) (λ has. has) (second.since (moment old) c first.later left);
    since = λ t c le left. ⊎_elim (first.since t c le) (λ has. inr has) (second.since t c (omega (arith, le, first.later)) left);
  }

  -- one call more, after which a crash leaves bytes that have P
  pub goes_on : (old mid new : D) (P leaves : List ℕ → Type 0) → LeavesOnly moment left_since old mid P → Passes (moment mid) (moment new) (left_since mid) (left_since new) leaves
      → ((c : List ℕ) → leaves c → P c) → LeavesOnly moment left_since old new P
  goes_on old mid new P leaves run time has = record {
    later = omega (arith, run.later, time.later);
    within = λ c left. ⊎_elim (run.within c) (has c) (time.either (moment old) c run.later left);
    since = λ t c le left. ⊎_elim (run.since t c le) (λ now. inr (has c now)) (time.either t c (omega (arith, le, run.later)) left);
  }

  -- what has P has Q
  pub widens : (old new : D) (P Q : List ℕ → Type 0) → ((c : List ℕ) → P c → Q c) → LeavesOnly moment left_since old new P → LeavesOnly moment left_since old new Q
  widens old new P Q to run = record {
    later = run.later;
    within = λ c left. to c (run.within c left);
    since = λ t c le left. ⊎_elim (λ was. inl was) (λ has. inr (to c has)) (run.since t c le left);
  }

  -- calls that add no moment at which a crash may leave more, as reads and syncs
  pub keeps_on : (old mid new : D) (P : List ℕ → Type 0) → LeavesOnly moment left_since old mid P → moment mid ≤ moment new
      → ((t : ℕ) (c : List ℕ) → t ≤ moment mid → left_since new t c → left_since mid t c) → LeavesOnly moment left_since old new P
  keeps_on old mid new P run later same = record {
    later = omega (arith, run.later, later);
    within = λ c left. run.within c (same (moment old) c run.later left);
    since = λ t c le left. run.since t c le (same t c (omega (arith, le, run.later)) left);
  }

  -- nothing was called yet, and a crash leaves these bytes and no others
  pub starts_at : (may_leave : D → List ℕ → Type 0) → ((disk : D) (c : List ℕ) → left_since disk (moment disk) c → may_leave disk c)
      → (old : D) (bytes : List ℕ) (P : List ℕ → Type 0) → P bytes → ((c : List ℕ) → may_leave old c → c ≡ bytes) → LeavesOnly moment left_since old old P
  starts_at may_leave only old bytes P has whole = starts old P (λ c left. subst P (sym (whole c (only old c left))) has)

  -- one write over a disk of which a crash leaves these bytes and no others
  pub writes_part : (may_leave : D → List ℕ → Type 0) → ((disk : D) (c : List ℕ) → left_since disk (moment disk) c → may_leave disk c)
      → (old new : D) (bytes : List ℕ) (offset len : ℕ) → offset ≤ length bytes → ((c : List ℕ) → may_leave old c → c ≡ bytes)
      → LeavesTorn offset len (may_leave old) (may_leave new) → Passes (moment old) (moment new) (left_since old) (left_since new) (may_leave new)
      → LeavesOnly moment left_since old new (PartWritten offset len bytes)
  writes_part may_leave only old new bytes offset len fits whole crash time =
      goes_on old old new (PartWritten offset len bytes) (may_leave new) (starts_at may_leave only old bytes (PartWritten offset len bytes) (none_written offset len bytes) whole) time
      (λ c left. let torn = crash c left in torn_is_part offset len bytes c fits (subst (λ d. Torn offset len d c) (whole torn.0 torn.1) torn.2))

  -- no write
  pub nothing_behind : (may_leave : D → List ℕ → Type 0) → ((disk : D) (c : List ℕ) → left_since disk (moment disk) c → may_leave disk c)
      → (old : D) (offset : ℕ) → LeavesOnly moment left_since old old (TornBehind offset (may_leave old))
  nothing_behind may_leave only old offset = starts old (TornBehind offset (may_leave old)) (λ c left. (c, only old c left, behind_itself offset c))

  -- one write from the offset on, over any disk
  pub writes_behind : (may_leave : D → List ℕ → Type 0) → ((disk : D) (c : List ℕ) → left_since disk (moment disk) c → may_leave disk c)
      → (old new : D) (offset len : ℕ) → LeavesTorn offset len (may_leave old) (may_leave new) → Passes (moment old) (moment new) (left_since old) (left_since new) (may_leave new)
      → LeavesOnly moment left_since old new (TornBehind offset (may_leave old))
  writes_behind may_leave only old new offset len crash time =
      goes_on old old new (TornBehind offset (may_leave old)) (may_leave new) (nothing_behind may_leave only old offset) time
      (λ c left. let torn = crash c left in (torn.0, torn.1, torn_is_behind offset len torn.0 c torn.2))

  -- writes from one offset on, and then from a later one on
  pub behind_then : (may_leave : D → List ℕ → Type 0) → ((disk : D) (t : ℕ) (c : List ℕ) → t ≤ moment disk → may_leave disk c → left_since disk t c)
      → (old mid new : D) (p q : ℕ) → p ≤ q → LeavesOnly moment left_since old mid (TornBehind p (may_leave old)) → LeavesOnly moment left_since mid new (TornBehind q (may_leave mid))
      → LeavesOnly moment left_since old new (TornBehind p (may_leave old))
  behind_then may_leave counts old mid new p q le first second =
      joins old mid new (TornBehind p (may_leave old)) first (widens mid new (TornBehind q (may_leave mid)) (TornBehind p (may_leave old)) more second)
    where
      more : (c : List ℕ) → TornBehind q (may_leave mid) c → TornBehind p (may_leave old) c
      more c behind =
          let was = first.within behind.0 (counts mid (moment old) behind.0 first.later behind.1) in
          (was.0, was.1, behind_both p q was.0 behind.0 c le was.2 behind.2)
