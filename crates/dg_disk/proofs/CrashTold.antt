-- How a run of calls goes on that begins over a settled image: the facts of it hold where the image is told.
use Rattle.std.proofs.Common.{◌≡◌, ◌≤◌, ℕ, List, Option, IfSome, Some, None, subst, sym}
use Rattle.dg_disk.specs.Crash.{IsSettled, LeavesOnly, LeavesTorn, Passes}
use Rattle.dg_disk.specs.Image.{HasOffset, PartWritten}
use Rattle.dg_disk.proofs.CrashLeavesOnly.{keeps_on, starts_at, widens, writes_part}

-- what is settled stays so where the image is as it was and a crash leaves no more
pub settled_on : (x y : Option (List ℕ)) (leaves less : List ℕ → Type 0) → y ≡ x → ((c : List ℕ) → less c → leaves c) → IsSettled x leaves → IsSettled y less
settled_on x y leaves less same fewer settled =
    subst (λ (o : Option (List ℕ)). IsSettled o less) (sym same) (by x settled)
  where
    by : (x : Option (List ℕ)) → IsSettled x leaves → IsSettled x less
    by None settled = tt
    by (Some a) settled = λ c left. settled c (fewer c left)

module _ {D : Type 0} (moment : D → ℕ) (left_since : D → ℕ → List ℕ → Type 0) (may_leave : D → List ℕ → Type 0) where
  -- no call
  pub told_starts : ((disk : D) (c : List ℕ) → left_since disk (moment disk) c → may_leave disk c)
      → (x : Option (List ℕ)) (old : D) (F : List ℕ → Type 0) (P : List ℕ → List ℕ → Type 0) → ((a : List ℕ) → F a → P a a) → IfSome x F
      → IfSome x (λ a. ((c : List ℕ) → may_leave old c → c ≡ a) → LeavesOnly moment left_since old old (P a))
  told_starts only None old F P has f = tt
  told_starts only (Some a) old F P has f = λ whole. starts_at moment left_since may_leave only old a (P a) (has a f) whole

  -- one write
  pub told_write : ((disk : D) (c : List ℕ) → left_since disk (moment disk) c → may_leave disk c)
      → (x : Option (List ℕ)) (old new : D) (offset len : ℕ) → HasOffset x offset → LeavesTorn offset len (may_leave old) (may_leave new)
      → Passes (moment old) (moment new) (left_since old) (left_since new) (may_leave new)
      → IfSome x (λ a. ((c : List ℕ) → may_leave old c → c ≡ a) → LeavesOnly moment left_since old new (PartWritten offset len a))
  told_write only None old new offset len fits crash time = tt
  told_write only (Some a) old new offset len fits crash time = λ whole. writes_part moment left_since may_leave only old new a offset len fits whole crash time

  -- calls that add nothing which a crash may leave
  pub told_keeps : (x : Option (List ℕ)) (old mid new : D) (P : List ℕ → List ℕ → Type 0)
      → IfSome x (λ a. ((c : List ℕ) → may_leave old c → c ≡ a) → LeavesOnly moment left_since old mid (P a)) → moment mid ≤ moment new
      → ((t : ℕ) (c : List ℕ) → t ≤ moment mid → left_since new t c → left_since mid t c)
      → IfSome x (λ a. ((c : List ℕ) → may_leave old c → c ≡ a) → LeavesOnly moment left_since old new (P a))
  told_keeps None old mid new P run later same = tt
  told_keeps (Some a) old mid new P run later same = λ whole. keeps_on moment left_since old mid new (P a) (run whole) later same

  -- what has P has Q, where a fact holds of the image
  pub told_widens : (x : Option (List ℕ)) (old new : D) (F : List ℕ → Type 0) (P Q : List ℕ → List ℕ → Type 0) → ((a c : List ℕ) → F a → P a c → Q a c) → IfSome x F
      → IfSome x (λ a. ((c : List ℕ) → may_leave old c → c ≡ a) → LeavesOnly moment left_since old new (P a))
      → IfSome x (λ a. ((c : List ℕ) → may_leave old c → c ≡ a) → LeavesOnly moment left_since old new (Q a))
  told_widens None old new F P Q to f run = tt
  told_widens (Some a) old new F P Q to f run = λ whole. widens moment left_since old new (P a) (Q a) (λ c has. to a c f has) (run whole)
