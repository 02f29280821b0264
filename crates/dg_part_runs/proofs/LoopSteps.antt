-- The steps of the loops over sessions and disks.
use Rattle.std.proofs.Common.{arith, ◌≡◌, ℕ, zero, suc, ◌+◌, ◌<◌, ◌≤◌, List, [], ◌∷◌, ◌++◌, Option, Some, Result, Ok, Err, IsErr, IfSome, length, take, get_or, set, refl, sym, ap, subst}
use Rattle.std.proofs.Math.ListN.{length-map}
use Rattle.std.specs.Prelude.{slice_get}
use Rattle.std.specs.Result.{IsErrAnd}
use Rattle.dg_disk.specs.declared.disk.Disk.{Ghosts}
use Rattle.dg_gather.specs.declared.gathered.Gathered.{Gathered}
use Rattle.dg_graph.specs.declared.element.Columns.{Columns}
use Rattle.dg_machine.specs.declared.limits.Limits.{Limits}
use Rattle.dg_records.specs.declared.fault.RecordFault.{RecordFault}
use Rattle.dg_session.specs.SessionState.{SessionState}
use Rattle.dg_part_runs.specs.Disks.{ReadsAll, SyncsAll, images_of}
use Rattle.dg_part_runs.specs.HeldParts.{AreGathered, AreParts, GathersPart, IsPart}
use Rattle.dg_part_runs.specs.PartStarts.{MayBegin}
use Rattle.dg_part_runs.specs.StartedParts.{AreStarted, IsStarted}
use Rattle.dg_part_runs.proofs.GatheredParts.{gathered_more}
use Rattle.dg_part_runs.proofs.PartBegins.{may_begin}
use Rattle.dg_part_runs.proofs.ZippedLists.{get_there, take_more, zip_at, zip_length, zip_more}

-- what a `?` hands out
pub handed_out : {A E : Type 0} (r : Result A E) (x : E) (P : Result A E → Type 0) → IsErr r × IsErrAnd r (λ y. y ≡ x) → P (Err x) → P r
handed_out (Ok a) x P h p = cc
handed_out (Err e) x P h p = subst (λ y. P (Err y)) (sym h.1) p

pub set_same : {A : Type 0} (xs : List A) (i : ℕ) (d x : A) → x ≡ get_or xs i d → set xs i x ≡ xs
set_same [] i d x is = refl
set_same (y ∷ xs) zero d x is = ap (λ v. v ∷ xs) is
set_same (y ∷ xs) (suc i) d x is = ap (λ l. y ∷ l) (set_same xs i d x is)

pub take_all : {A : Type 0} (xs : List A) (n : ℕ) → length xs ≤ n → take n xs ≡ xs
take_all [] zero le = refl
take_all [] (suc n) le = refl
take_all (x ∷ xs) zero le = absurd (omega (arith, le))
take_all (x ∷ xs) (suc n) le = ap (λ l. x ∷ l) (take_all xs n (omega (arith, le)))

before : (limits : Limits) (sessions : List SessionState) (told : List (Option (List ℕ))) (i : ℕ) → AreStarted limits sessions (take i told)
    → (k : ℕ) (x : Option (List ℕ)) → k < i → slice_get told k ≡ Some x → IfSome x MayBegin
before limits sessions told zero all k x lt at = absurd (omega (arith, lt))
before limits sessions [] (suc i) all k x lt at = absurd (cc)
before limits [] (o ∷ told) (suc i) all k x lt at = absurd all
before limits (s ∷ sessions) (o ∷ told) (suc i) all zero x lt at = let same : o ≡ x = cc in subst (λ v. IfSome v MayBegin) same (may_begin s o all.0.began)
before limits (s ∷ sessions) (o ∷ told) (suc i) all (suc k) x lt at = before limits sessions told i all.1 k x (omega (arith, lt)) at

module _ {D : Type 0} (d : Ghosts D) where
  -- what is told of a disk that was only read since
  pub image_at : (old now : List D) (i : ℕ) (e : D) → ReadsAll d old now → i < length now → get_or (images_of d old) i (d.image e) ≡ d.image (get_or now i e)
  image_at [] [] i e all in_list = absurd (omega (arith, in_list))
  image_at [] (b ∷ now) i e all in_list = absurd all
  image_at (a ∷ old) [] i e all in_list = absurd all
  image_at (a ∷ old) (b ∷ now) zero e all in_list = sym all.0.same_image
  image_at (a ∷ old) (b ∷ now) (suc i) e all in_list = image_at old now i e all.1 (omega (arith, in_list))

  pub synced_image_at : (old now : List D) (i : ℕ) (e : D) → SyncsAll d old now → i < length now → get_or (images_of d old) i (d.image e) ≡ d.image (get_or now i e)
  synced_image_at [] [] i e all in_list = absurd (omega (arith, in_list))
  synced_image_at [] (b ∷ now) i e all in_list = absurd all
  synced_image_at (a ∷ old) [] i e all in_list = absurd all
  synced_image_at (a ∷ old) (b ∷ now) zero e all in_list = sym all.0.same_image
  synced_image_at (a ∷ old) (b ∷ now) (suc i) e all in_list = synced_image_at old now i e all.1 (omega (arith, in_list))

  pub part_at : (limits : Limits) (sessions : List SessionState) (old now : List D) (i : ℕ) (s : SessionState) (e : D) → AreParts limits sessions (images_of d old) → ReadsAll d old now
      → i < length sessions → i < length now → IsPart limits (get_or sessions i s) (d.image (get_or now i e))
  part_at limits sessions old now i s e parts reads in_sessions in_disks =
      subst (λ (o : Option (List ℕ)). IsPart limits (get_or sessions i s) o) (image_at old now i e reads in_disks)
      (zip_at (IsPart limits) sessions (images_of d old) i s (d.image e) parts in_sessions)

  -- what was gathered of a disk that was only read since, as of the disk at the start
  pub gathers_old : (limits : Limits) (t : ℕ) (cols : Columns) (s : SessionState) (old now : List D) (i : ℕ) (e : D) (r : Result Gathered RecordFault) → ReadsAll d old now → i < length now
      → GathersPart limits s (d.image (get_or now i e)) t cols r → GathersPart limits s (get_or (images_of d old) i (d.image e)) t cols r
  gathers_old limits t cols s old now i e r reads in_disks gathers = subst (λ (o : Option (List ℕ)). GathersPart limits s o t cols r) (sym (image_at old now i e reads in_disks)) gathers

  pub gathered_step : (limits : Limits) (t : ℕ) (cols : Columns) (sessions : List SessionState) (old now : List D) (i : ℕ) (s : SessionState) (e : D) (gathered later : List Gathered) (g : Gathered)
      → ReadsAll d old now → i < length sessions → i < length now → length now ≡ length old
      → AreGathered limits t cols (take i sessions) (take i (images_of d old)) gathered → GathersPart limits (get_or sessions i s) (d.image (get_or now i e)) t cols (Ok g)
      → later ≡ gathered ++ g ∷ [] → AreGathered limits t cols (take (i + 1) sessions) (take (i + 1) (images_of d old)) later
  gathered_step limits t cols sessions old now i s e gathered later g reads in_sessions in_disks same all one is =
      let in_told : i < length (images_of d old) = omega (arith, in_disks, same, length-map old d.image) in
      subst (λ (l : List Gathered). AreGathered limits t cols (take (i + 1) sessions) (take (i + 1) (images_of d old)) l) (sym is)
      (subst (λ (l : List (Option (List ℕ))). AreGathered limits t cols (take (i + 1) sessions) l (gathered ++ g ∷ [])) (sym (take_more (images_of d old) i (d.image e) in_told))
      (subst (λ (l : List SessionState). AreGathered limits t cols l (take i (images_of d old) ++ get_or (images_of d old) i (d.image e) ∷ []) (gathered ++ g ∷ [])) (sym (take_more sessions i s in_sessions))
      (gathered_more limits t cols (take i sessions) (take i (images_of d old)) gathered (get_or sessions i s) (get_or (images_of d old) i (d.image e)) g all
      (gathers_old limits t cols (get_or sessions i s) old now i e (Ok g) reads in_disks one))))

  -- one more session was started
  pub started_step : (limits : Limits) (sessions later : List SessionState) (old : List D) (i : ℕ) (e : D) (s : SessionState) → AreStarted limits sessions (take i (images_of d old)) → i < length old
      → IsStarted limits s (get_or (images_of d old) i (d.image e)) → later ≡ sessions ++ s ∷ [] → AreStarted limits later (take (i + 1) (images_of d old))
  started_step limits sessions later old i e s all in_disks one is =
      let in_told : i < length (images_of d old) = omega (arith, in_disks, length-map old d.image) in
      subst (λ (l : List SessionState). AreStarted limits l (take (i + 1) (images_of d old))) (sym is)
      (subst (λ (l : List (Option (List ℕ))). AreStarted limits (sessions ++ s ∷ []) l) (sym (take_more (images_of d old) i (d.image e) in_told))
      (zip_more (IsStarted limits) sessions (take i (images_of d old)) s (get_or (images_of d old) i (d.image e)) all one))

  -- each part before this one begins
  pub begin_before : (limits : Limits) (sessions : List SessionState) (old : List D) (i : ℕ) → AreStarted limits sessions (take i (images_of d old))
      → (k : ℕ) (x : Option (List ℕ)) → k < i → slice_get (images_of d old) k ≡ Some x → IfSome x MayBegin
  begin_before limits sessions old i all = before limits sessions (images_of d old) i all

  pub told_there : (old : List D) (i : ℕ) (e : D) → i < length old → slice_get (images_of d old) i ≡ Some (get_or (images_of d old) i (d.image e))
  told_there old i e in_disks = get_there (images_of d old) i (d.image e) (let l : i < length (images_of d old) = omega (arith, in_disks, length-map old d.image) in l)

  pub as_many : (limits : Limits) (sessions : List SessionState) (disks : List D) → AreParts limits sessions (images_of d disks) → length disks ≡ length sessions
  as_many limits sessions disks parts = let e : length sessions ≡ length (images_of d disks) = zip_length (IsPart limits) sessions (images_of d disks) parts in
      let f : length (images_of d disks) ≡ length disks = length-map disks d.image in omega (arith, e, f)
