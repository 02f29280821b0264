-- Calls over several disks, one behind another, and the counts that they keep.
use Rattle.std.proofs.Common.{arith, ◌≡◌, ℕ, zero, suc, ◌+◌, ◌<◌, ◌≤◌, inl, inr, List, [], ◌∷◌, length, get_or, set, refl, ◌∙◌}
use Rattle.std.specs.Prelude.{min}
use Rattle.dg_disk.proofs.FrameLemmas.{reads_none, reads_then, syncs_then_reads}
use Rattle.dg_disk.specs.Calls.{Fails, ReadsDisk, SyncsDisk}
use Rattle.dg_disk.specs.Counts.{Rose}
use Rattle.dg_disk.specs.declared.disk.Disk.{Ghosts}
use Rattle.dg_part_runs.specs.Disks.{ReadsAll, RoseBy, SomeRose, SyncsAll, faults_of, images_of}

module _ {D : Type 0} (d : Ghosts D) where
  syncs_none : (a : D) → SyncsDisk d a a
  syncs_none a = record {
    same_image = refl;
    counted = omega arith;
    writes_counted = omega arith;
    cache_counted = omega arith;
    later = omega arith;
    leaves = λ c may. may;
    since = λ t c le left. left;
  }

  syncs_then : (a b c : D) → SyncsDisk d a b → SyncsDisk d b c → SyncsDisk d a c
  syncs_then a b c one two = record {
    same_image = two.same_image ∙ one.same_image;
    counted = omega (arith, one.counted, two.counted);
    writes_counted = omega (arith, one.writes_counted, two.writes_counted);
    cache_counted = omega (arith, one.cache_counted, two.cache_counted);
    later = omega (arith, one.later, two.later);
    leaves = λ c may. one.leaves c (two.leaves c may);
    since = λ t c le left. one.since t c le (two.since t c (omega (arith, le, one.later)) left);
  }

  -- ---- reads

  pub reads_all_none : (disks : List D) → ReadsAll d disks disks
  reads_all_none [] = tt
  reads_all_none (x ∷ disks) = (reads_none, reads_all_none disks)

  pub reads_all_then : (old mid new : List D) → ReadsAll d old mid → ReadsAll d mid new → ReadsAll d old new
  reads_all_then [] [] [] one two = tt
  reads_all_then (x ∷ old) (y ∷ mid) (z ∷ new) one two = (reads_then one.0 two.0, reads_all_then old mid new one.1 two.1)
  reads_all_then (x ∷ old) (y ∷ mid) [] one two = absurd two
  reads_all_then (x ∷ old) [] new one two = absurd one
  reads_all_then [] (y ∷ mid) new one two = absurd one
  reads_all_then [] [] (z ∷ new) one two = absurd two

  -- one more of them is read
  pub reads_one : (old now : List D) (i : ℕ) (y e : D) → ReadsAll d old now → i < length now → ReadsDisk d (get_or now i e) y → ReadsAll d old (set now i y)
  reads_one [] [] i y e all in_list one = absurd (omega (arith, in_list))
  reads_one [] (b ∷ now) i y e all in_list one = absurd all
  reads_one (a ∷ old) [] i y e all in_list one = absurd all
  reads_one (a ∷ old) (b ∷ now) zero y e all in_list one = (reads_then all.0 one, all.1)
  reads_one (a ∷ old) (b ∷ now) (suc i) y e all in_list one = (all.0, reads_one old now i y e all.1 (omega (arith, in_list)) one)

  pub same_images : (old new : List D) → ReadsAll d old new → images_of d new ≡ images_of d old
  same_images [] [] all = refl
  same_images [] (b ∷ new) all = absurd all
  same_images (a ∷ old) [] all = absurd all
  same_images (a ∷ old) (b ∷ new) all = let one = all.0.same_image in let more = same_images old new all.1 in λ i. one i ∷ more i

  -- ---- syncs

  pub syncs_all_none : (disks : List D) → SyncsAll d disks disks
  syncs_all_none [] = tt
  syncs_all_none (x ∷ disks) = (syncs_none x, syncs_all_none disks)

  pub syncs_one : (old now : List D) (i : ℕ) (y e : D) → SyncsAll d old now → i < length now → SyncsDisk d (get_or now i e) y → SyncsAll d old (set now i y)
  syncs_one [] [] i y e all in_list one = absurd (omega (arith, in_list))
  syncs_one [] (b ∷ now) i y e all in_list one = absurd all
  syncs_one (a ∷ old) [] i y e all in_list one = absurd all
  syncs_one (a ∷ old) (b ∷ now) zero y e all in_list one = (syncs_then a b y all.0 one, all.1)
  syncs_one (a ∷ old) (b ∷ now) (suc i) y e all in_list one = (all.0, syncs_one old now i y e all.1 (omega (arith, in_list)) one)

  pub syncs_all_then_reads : (old mid new : List D) → SyncsAll d old mid → ReadsAll d mid new → SyncsAll d old new
  syncs_all_then_reads [] [] [] one two = tt
  syncs_all_then_reads (x ∷ old) (y ∷ mid) (z ∷ new) one two = (syncs_then_reads one.0 two.0, syncs_all_then_reads old mid new one.1 two.1)
  syncs_all_then_reads (x ∷ old) (y ∷ mid) [] one two = absurd two
  syncs_all_then_reads (x ∷ old) [] new one two = absurd one
  syncs_all_then_reads [] (y ∷ mid) new one two = absurd one
  syncs_all_then_reads [] [] (z ∷ new) one two = absurd two

  pub same_synced_images : (old new : List D) → SyncsAll d old new → images_of d new ≡ images_of d old
  same_synced_images [] [] all = refl
  same_synced_images [] (b ∷ new) all = absurd all
  same_synced_images (a ∷ old) [] all = absurd all
  same_synced_images (a ∷ old) (b ∷ new) all = let one = all.0.same_image in let more = same_synced_images old new all.1 in λ i. one i ∷ more i

  -- ---- one of the counts rose

  rose_past : (a b c : ℕ) → a ≤ b → Rose b c → Rose a c
  rose_past a b c le rose = omega (arith, le, rose)

  pub fails_one : (old now : List D) (i : ℕ) (y e : D) → ReadsAll d old now → i < length now → Fails d (get_or now i e) y → SomeRose (faults_of d old) (faults_of d (set now i y))
  fails_one [] [] i y e all in_list one = absurd (omega (arith, in_list))
  fails_one [] (b ∷ now) i y e all in_list one = absurd all
  fails_one (a ∷ old) [] i y e all in_list one = absurd all
  fails_one (a ∷ old) (b ∷ now) zero y e all in_list one = inl (rose_past (d.faults a) (d.faults b) (d.faults y) all.0.counted one)
  fails_one (a ∷ old) (b ∷ now) (suc i) y e all in_list one = inr (fails_one old now i y e all.1 (omega (arith, in_list)) one)

  pub fails_synced : (old now : List D) (i : ℕ) (y e : D) → SyncsAll d old now → i < length now → Fails d (get_or now i e) y → SomeRose (faults_of d old) (faults_of d (set now i y))
  fails_synced [] [] i y e all in_list one = absurd (omega (arith, in_list))
  fails_synced [] (b ∷ now) i y e all in_list one = absurd all
  fails_synced (a ∷ old) [] i y e all in_list one = absurd all
  fails_synced (a ∷ old) (b ∷ now) zero y e all in_list one = inl (rose_past (d.faults a) (d.faults b) (d.faults y) all.0.counted one)
  fails_synced (a ∷ old) (b ∷ now) (suc i) y e all in_list one = inr (fails_synced old now i y e all.1 (omega (arith, in_list)) one)

  -- ---- how often they rose

  pub rose_never : (old new : List D) → ReadsAll d old new → RoseBy 0 (faults_of d old) (faults_of d new)
  rose_never [] [] all = refl
  rose_never [] (b ∷ new) all = absurd all
  rose_never (a ∷ old) [] all = absurd all
  rose_never (a ∷ old) (b ∷ new) all =
      let le : d.faults a ≤ d.faults b = all.0.counted in
      (0, 0, refl, (let e : min (d.faults a + 0) 18446744073709551615 ≤ d.faults b = omega (arith, le) in e), rose_never old new all.1)

  pub rose_synced : (old new : List D) → SyncsAll d old new → RoseBy 0 (faults_of d old) (faults_of d new)
  rose_synced [] [] all = refl
  rose_synced [] (b ∷ new) all = absurd all
  rose_synced (a ∷ old) [] all = absurd all
  rose_synced (a ∷ old) (b ∷ new) all =
      let le : d.faults a ≤ d.faults b = all.0.counted in
      (0, 0, refl, (let e : min (d.faults a + 0) 18446744073709551615 ≤ d.faults b = omega (arith, le) in e), rose_synced old new all.1)

  pub rose_once : (old new : List D) → ReadsAll d old new → SomeRose (faults_of d old) (faults_of d new) → RoseBy 1 (faults_of d old) (faults_of d new)
  rose_once [] [] all rose = absurd rose
  rose_once [] (b ∷ new) all rose = absurd all
  rose_once (a ∷ old) [] all rose = absurd all
  rose_once (a ∷ old) (b ∷ new) all (inl here) = (1, 0, refl, here, rose_never old new all.1)
  rose_once (a ∷ old) (b ∷ new) all (inr more) =
      let le : d.faults a ≤ d.faults b = all.0.counted in
      (0, 1, refl, (let e : min (d.faults a + 0) 18446744073709551615 ≤ d.faults b = omega (arith, le) in e), rose_once old new all.1 more)

pub rose_then : (m n k : ℕ) (old mid new : List ℕ) → k ≡ m + n → RoseBy m old mid → RoseBy n mid new → RoseBy k old new
rose_then m n k [] [] [] is one two = is ∙ (let e : m + n ≡ 0 = omega (arith, one, two) in e)
rose_then m n k (a ∷ old) (b ∷ mid) (c ∷ new) is (h1, m1, s1, r1, more1) (h2, m2, s2, r2, more2) = (
  h1 + h2,
  m1 + m2,
  (let e : k ≡ h1 + h2 + (m1 + m2) = omega (arith, is, s1, s2) in e),
  (let e : min (a + (h1 + h2)) 18446744073709551615 ≤ c = omega (arith, r1, r2) in e),
  rose_then m1 m2 (m1 + m2) old mid new refl more1 more2,
)
rose_then m n k (a ∷ old) (b ∷ mid) [] is one two = absurd two
rose_then m n k (a ∷ old) [] new is one two = absurd one
rose_then m n k [] (b ∷ mid) new is one two = absurd one
rose_then m n k [] [] (c ∷ new) is one two = absurd two
