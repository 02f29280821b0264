use Rattle.std.proofs.Common.{◌≡◌, ℕ, ◌≤◌, ◌-◌, length}
use Rattle.std.specs.Prelude.{IfSome}
use Rattle.dg_disk.specs.Calls.{ReadsDisk}
use Rattle.dg_disk.specs.Counts.{raised_by}
use Rattle.dg_disk.specs.Image.{IsLengthOf}
use Rattle.dg_history.specs.declared.limits.TheConstants.{FILE_BYTES_MAX}
use Rattle.dg_file.specs.Headers.{IsOpenedSoFar}
use Rattle.dg_index.specs.IndexGrowth.{name_total}
use Rattle.dg_file.specs.Index.{opening_bytes}
use Rattle.dg_file.proofs.index.Index.read_segments.Given as goal

abbrev pub invariant-loop-gate : goal.invariant-loop-gate
invariant-loop-gate g l = record {
  so_far : IfSome (g.D.Disk.image l.fn.disk) (λ image. IsOpenedSoFar image l.self.opening l.names l.gate);
  frame : ReadsDisk g.D.Disk l.fn.disk l.disk;
  len : IsLengthOf (g.D.Disk.image l.fn.disk) l.len;
  within : l.self.opening.used ≤ l.len;
  most : l.self.opening.used ≤ FILE_BYTES_MAX;
  counted_names : length l.names ≡ name_total l.self.opening.batches;
  taken : (t : ℕ) → g.D.Disk.taken l.fn.disk ≡ raised_by (opening_bytes l.fn.self.opening) t → g.D.Disk.taken l.disk ≡ raised_by (opening_bytes l.self.opening) t;
}

abbrev pub decreases-loop-gate : goal.decreases-loop-gate
decreases-loop-gate g l = FILE_BYTES_MAX - l.self.opening.used
