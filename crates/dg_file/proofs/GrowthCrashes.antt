-- What a crash leaves of a run of writes that begins over a settled image.
use Rattle.std.proofs.Common.{◌≡◌, ℕ, ◌-◌, ◌≤◌, inl, List, [], ◌∷◌, ◌++◌, length, take, Option, IfSome, Some, None, sym, subst, ap, ◌∙◌, arith}
use Rattle.dg_disk.specs.Crash.{IsSettled, LeavesOnly, TornBehind}
use Rattle.dg_disk.specs.Image.{HasOffset, PartWritten}
use Rattle.dg_disk.proofs.CrashLeavesOnly.{joins, widens}
use Rattle.dg_file.specs.Growth.{Moved, KeepsFront, Grown, GatedOrNot}
use Rattle.dg_file.proofs.GrowthMoves.{gate_part}

-- the write of a gate that a crash cut short
pub gate_torn : (used : ℕ) (text a b c : List ℕ) → 1 ≤ used → Grown used (text ++ 0 ∷ []) a b → PartWritten (used - 1) 1 b c → GatedOrNot used text a c
gate_torn used text a b c some grown part =
    subst (GatedOrNot used text a) (sym part.2) (gate_part used text a b part.0 some part.1 grown)

-- writes behind the front that a crash cut short
front_kept : (used : ℕ) (leaves : List ℕ → Type 0) (a c : List ℕ) → used ≤ length a → ((d : List ℕ) → leaves d → d ≡ a) → TornBehind used leaves c → KeepsFront used a c
front_kept used leaves a c fits whole torn =
    let is = whole torn.0 torn.1 in
    record {
      same = torn.2.same ∙ ap (take used) is;
      reach = omega (arith, fits, torn.2.kept, ap length is);
    }

module _ {D : Type 0} (moment : D → ℕ) (left_since : D → ℕ → List ℕ → Type 0) (may_leave : D → List ℕ → Type 0) where
  -- writes behind the front
  pub told_behind : (x : Option (List ℕ)) (old new : D) (used : ℕ) (text : List ℕ) → HasOffset x used → LeavesOnly moment left_since old new (TornBehind used (may_leave old))
      → IfSome x (λ a. ((c : List ℕ) → may_leave old c → c ≡ a) → LeavesOnly moment left_since old new (GatedOrNot used text a))
  told_behind None old new used text fits run = tt
  told_behind (Some a) old new used text fits run =
      λ whole. widens moment left_since old new (TornBehind used (may_leave old)) (GatedOrNot used text a) (λ c torn. inl (front_kept used (may_leave old) a c fits whole torn)) run

  -- a run that ends over a settled image, and then another
  pub told_then : (x y : Option (List ℕ)) (old mid new : D) (F P Q : List ℕ → List ℕ → Type 0) → ((a b c : List ℕ) → F a b → P b c → Q a c) → Moved x y F
      → IfSome x (λ a. ((c : List ℕ) → may_leave old c → c ≡ a) → LeavesOnly moment left_since old mid (Q a)) → IsSettled y (may_leave mid)
      → IfSome y (λ b. ((c : List ℕ) → may_leave mid c → c ≡ b) → LeavesOnly moment left_since mid new (P b))
      → IfSome x (λ a. ((c : List ℕ) → may_leave old c → c ≡ a) → LeavesOnly moment left_since old new (Q a))
  told_then None None old mid new F P Q f moved first settled second = tt
  told_then None (Some b) old mid new F P Q f moved first settled second = tt
  told_then (Some a) None old mid new F P Q f moved first settled second = absurd moved
  told_then (Some a) (Some b) old mid new F P Q f moved first settled second =
      λ whole. joins moment left_since old mid new (Q a) (first whole) (widens moment left_since mid new (P b) (Q a) (λ c has. f a b c moved has) (second settled))
