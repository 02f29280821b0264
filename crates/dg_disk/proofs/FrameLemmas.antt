-- Calls one behind another, as one call: none, reads behind reads, reads behind syncs, writes behind reads. And what calls
-- that only read are besides: calls that use the disk, which leave on the device what is there.
use Rattle.std.proofs.Common.{ℕ, List, Option, refl, ap, ◌∙◌, arith}
use Rattle.std.specs.Prelude.{is_some}
use Rattle.dg_disk.proofs.CrashTold.{settled_on}
use Rattle.dg_disk.specs.Crash.{IsSettled}
use Rattle.dg_disk.specs.Frame.{GoesOn, OnlyReads, OnlyWrites, ReadsAndSyncs}

module _ {D : Type 0} {image : D → Option (List ℕ)} {faults write_faults cached : D → ℕ} {may_leave : D → List ℕ → Type 0} {moment : D → ℕ} {left_since : D → ℕ → List ℕ → Type 0} where
  -- no call
  pub reads_none : {a : D} → OnlyReads image faults write_faults cached may_leave moment left_since a a
  reads_none = record {
    same_image = refl;
    counted = omega arith;
    no_write_failed = refl;
    cache_counted = omega arith;
    same_moment = refl;
    leaves = λ c may. may;
    left = λ c may. may;
    since = λ t c left. left;
  }

  -- one call behind another
  pub reads_then : {a b c : D} → OnlyReads image faults write_faults cached may_leave moment left_since a b → OnlyReads image faults write_faults cached may_leave moment left_since b c
      → OnlyReads image faults write_faults cached may_leave moment left_since a c
  reads_then one two = record {
    same_image = two.same_image ∙ one.same_image;
    counted = omega (arith, one.counted, two.counted);
    no_write_failed = two.no_write_failed ∙ one.no_write_failed;
    cache_counted = omega (arith, one.cache_counted, two.cache_counted);
    same_moment = two.same_moment ∙ one.same_moment;
    leaves = λ c may. one.leaves c (two.leaves c may);
    left = λ c may. two.left c (one.left c may);
    since = λ t c left. one.since t c (two.since t c left);
  }

  -- calls that read, behind calls that sync
  pub syncs_then_reads : {a b c : D} → ReadsAndSyncs image faults write_faults cached may_leave moment left_since a b → OnlyReads image faults write_faults cached may_leave moment left_since b c
      → ReadsAndSyncs image faults write_faults cached may_leave moment left_since a c
  syncs_then_reads one two = record {
    same_image = two.same_image ∙ one.same_image;
    counted = omega (arith, one.counted, two.counted);
    writes_counted = omega (arith, one.writes_counted, two.no_write_failed);
    cache_counted = omega (arith, one.cache_counted, two.cache_counted);
    later = omega (arith, one.later, two.same_moment);
    leaves = λ c may. one.leaves c (two.leaves c may);
    since = λ t c le left. one.since t c le (two.since t c left);
  }

  -- calls that write, behind calls that read
  pub reads_then_writes : {taken : D → ℕ} {a b c : D} → OnlyReads image faults write_faults cached may_leave moment left_since a b → OnlyWrites image faults write_faults taken cached b c → GoesOn image faults write_faults cached a c
  reads_then_writes one two = record {
    told = two.told ∙ ap (λ (x : Option (List ℕ)). is_some x) one.same_image;
    counted = omega (arith, one.counted, two.counted);
    writes_counted = omega (arith, one.no_write_failed, two.writes_counted);
    cache_counted = omega (arith, one.cache_counted, two.cache_counted);
  }

  -- calls that read use the disk
  pub reads_use : {a b : D} → OnlyReads image faults write_faults cached may_leave moment left_since a b → GoesOn image faults write_faults cached a b
  reads_use reads = record {
    told = ap (λ (x : Option (List ℕ)). is_some x) reads.same_image;
    counted = reads.counted;
    writes_counted = omega (arith, reads.no_write_failed);
    cache_counted = reads.cache_counted;
  }

  -- what is on the device stays there under calls that read
  pub reads_stay : (a b : D) → OnlyReads image faults write_faults cached may_leave moment left_since a b → IsSettled (image a) (may_leave a) → IsSettled (image b) (may_leave b)
  reads_stay a b reads settled = settled_on (image a) (image b) (may_leave a) (may_leave b) reads.same_image reads.leaves settled
