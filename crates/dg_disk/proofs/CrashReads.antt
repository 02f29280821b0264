-- How a run of calls goes on that begins with calls that read.
use Rattle.std.proofs.Common.{◌≡◌, inl, inr, ⊎_elim, ℕ, List, Option, IfSome, Some, None, subst, sym, arith}
use Rattle.dg_disk.specs.Crash.{LeavesOnly}
use Rattle.dg_disk.specs.Frame.{OnlyReads}
use Rattle.dg_disk.proofs.CrashTold.{told_keeps, told_starts}

module _ {D : Type 0} (image : D → Option (List ℕ)) (faults write_faults cached : D → ℕ) (may_leave : D → List ℕ → Type 0) (moment : D → ℕ) (left_since : D → ℕ → List ℕ → Type 0) (old mid : D) (reads : OnlyReads image faults write_faults cached may_leave moment left_since old mid) where
  -- calls that read, and no other
  pub told_reads : ((disk : D) (c : List ℕ) → left_since disk (moment disk) c → may_leave disk c)
      → (F : List ℕ → Type 0) (P : List ℕ → List ℕ → Type 0) → ((a : List ℕ) → F a → P a a) → IfSome (image old) F
      → IfSome (image old) (λ a. ((c : List ℕ) → may_leave old c → c ≡ a) → LeavesOnly moment left_since old mid (P a))
  told_reads only F P has f =
      told_keeps moment left_since may_leave (image old) old old mid P (told_starts moment left_since may_leave only (image old) old F P has f) (omega (arith, reads.same_moment)) (λ t c le left. reads.since t c left)

  -- calls that read, and then a run
  pub reads_first : (new : D) (P : List ℕ → List ℕ → Type 0)
      → IfSome (image mid) (λ b. ((c : List ℕ) → may_leave mid c → c ≡ b) → LeavesOnly moment left_since mid new (P b))
      → IfSome (image old) (λ a. ((c : List ℕ) → may_leave old c → c ≡ a) → LeavesOnly moment left_since old new (P a))
  reads_first new P run =
      by (image old) (subst (λ (o : Option (List ℕ)). IfSome o (λ b. ((c : List ℕ) → may_leave mid c → c ≡ b) → LeavesOnly moment left_since mid new (P b))) reads.same_image run)
    where
      by : (x : Option (List ℕ)) → IfSome x (λ b. ((c : List ℕ) → may_leave mid c → c ≡ b) → LeavesOnly moment left_since mid new (P b))
          → IfSome x (λ a. ((c : List ℕ) → may_leave old c → c ≡ a) → LeavesOnly moment left_since old new (P a))
      by None run = tt
      by (Some a) run = λ whole.
          let r : LeavesOnly moment left_since mid new (P a) = run (λ c may. whole c (reads.leaves c may)) in
          record {
            later = omega (arith, reads.same_moment, r.later);
            within = λ c left. r.within c (subst (λ t. left_since new t c) (sym reads.same_moment) left);
            since = λ t c le left. ⊎_elim (λ was. inl (reads.since t c was)) (λ has. inr has) (r.since t c (omega (arith, le, reads.same_moment)) left);
          }
