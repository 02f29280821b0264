use Rattle.std.proofs.Common.{◌≡◌, ℕ, ◌+◌, ◌≤◌, Some, Result, Ok, Err, inl, refl, sym, ap, subst, arith}
use Rattle.dg_disk.proofs.CrashTold.{told_starts, told_widens}
use Rattle.dg_history.specs.declared.limits.TheConstants.{FILE_BYTES_MAX}
use Rattle.dg_index.specs.FileOfHistory.{marker}
use Rattle.dg_index.specs.IndexGrowth.{index_upgraded, needed_for_marker}
use Rattle.dg_index.specs.OpenedIndex.{Opening}
use Rattle.dg_file.specs.declared.fault.CommitFault.{CommitFault}
use Rattle.dg_file.specs.declared.fault.CommitFault.TheVariants.{FileFull, Disk}
use Rattle.dg_file.specs.Growth.{GatedOrNot}
use Rattle.dg_file.specs.Images.{BothTold, GainsMarker, GainsUpgradeOrNot, IsOpenedAs}
use Rattle.dg_file.specs.Index.{IndexState}
use Rattle.dg_file.proofs.ImageUpgrades.{added_marker, added_or_not, added_upgrade, offset_there}
use Rattle.dg_file.proofs.TidyWrites.{marker_tidy}
use Rattle.dg_file.proofs.index.Index.upgrade.Goals as goal

full_bytes : ℕ → Result (Unit {0}) CommitFault → ℕ
full_bytes n (Ok x) = n
full_bytes n (Err (FileFull m)) = m
full_bytes n (Err Disk) = n

pub returns-then-limit-needed-clause-full : goal.returns-then-limit-needed-clause-full
unfolding full_bytes
returns-then-limit-needed-clause-full g c = λ n e.
    let used : c.self.inside.used ≡ c.args.self.now.opening.used = ap (λ (v : IndexState). v.opening.used) c.self.view_is in
    let same : c.self.inside.used + 25 ≡ n = ap (full_bytes n) e in
    record { needed = omega (arith, same, used); over = omega (arith, same, c.if-limit-needed.true); index = refl; disk = refl }

pub append_marker-requires-clause-offset : goal.append_marker-requires-clause-offset
append_marker-requires-clause-offset g c =
    offset_there (g.D.Disk.image c.args.disk.now) c.args.self.now.opening c.self.inside.used (ap (λ (v : IndexState). v.opening.used) c.self.view_is) c.requires.image

pub returns-in_err-append_marker-clause-part : goal.returns-in_err-append_marker-clause-part
returns-in_err-append_marker-clause-part g c = λ _.
    let o : Opening = c.args.self.now.opening in
    let used : c.self.inside.used ≡ o.used = ap (λ (v : IndexState). v.opening.used) c.self.view_is in
    let fits : needed_for_marker o ≤ c.args.limit = omega (arith, used, c.if-limit-needed.false) in
    record {
      part = added_or_not (g.D.Disk.image c.args.disk.now) (g.D.Disk.image c.append_marker.new.disk) o c.self.inside.used used (omega (arith, fits, c.requires.limit)) c.requires.image c.in_err-append_marker.ensures.part;
      fits = fits;
      cause = c.in_err-append_marker.ensures.cause;
    }

pub returns-clause-done : goal.returns-clause-done
returns-clause-done g c =
    let x = g.D.Disk.image c.args.disk.now in
    let y = g.D.Disk.image c.append_marker.new.disk in
    let o : Opening = c.args.self.now.opening in
    let used : c.self.inside.used ≡ o.used = ap (λ (v : IndexState). v.opening.used) c.self.view_is in
    let fits : needed_for_marker o ≤ c.args.limit = omega (arith, used, c.if-limit-needed.false) in
    let within : needed_for_marker o ≤ FILE_BYTES_MAX = omega (arith, fits, c.requires.limit) in
    let new : c.note_marker.new.self.opening ≡ index_upgraded o = c.note_marker.ensures.marked in
    let opened : BothTold x y (GainsMarker o (index_upgraded o)) = added_marker x y o c.self.inside.used used within c.requires.image c.requires.narrow (omega (arith, used, c.self.invariant.bytes)) c.in_ok-append_marker.ensures.written in
    record {
      index = new;
      opened = subst (λ (n : Opening). BothTold x y (GainsMarker o n)) (sym new) opened;
      exact = marker_tidy x y o (index_upgraded o) c.self.inside.used marker used (omega (arith, c.self.invariant.bytes)) (omega (arith, used)) c.requires.image opened c.in_ok-append_marker.ensures.exact;
      gained = added_upgrade x y o c.self.inside.used used within c.requires.image c.in_ok-append_marker.ensures.written;
      fits = fits;
      settled = c.in_ok-append_marker.ensures.settled;
    }

pub returns-then-limit-needed-clause-crash : goal.returns-then-limit-needed-clause-crash
returns-then-limit-needed-clause-crash g c =
    told_starts g.D.Disk.moment g.D.Disk.left_since g.D.Disk.may_leave g.met.D.Disk.only_now (g.D.Disk.image c.args.disk.now) c.args.disk.now (λ image. IsOpenedAs image c.args.self.now.opening) GainsUpgradeOrNot (λ a opened z h one. inl h) c.requires.image

pub returns-in_err-append_marker-clause-crash : goal.returns-in_err-append_marker-clause-crash
returns-in_err-append_marker-clause-crash g c =
    let o : Opening = c.args.self.now.opening in
    let used : c.self.inside.used ≡ o.used = ap (λ (v : IndexState). v.opening.used) c.self.view_is in
    let within : needed_for_marker o ≤ FILE_BYTES_MAX = omega (arith, used, c.if-limit-needed.false, c.requires.limit) in
    told_widens g.D.Disk.moment g.D.Disk.left_since g.D.Disk.may_leave (g.D.Disk.image c.args.disk.now) c.args.disk.now c.append_marker.new.disk (λ image. IsOpenedAs image o) (GatedOrNot c.self.inside.used marker) GainsUpgradeOrNot
    (λ a e opened gate. added_or_not (Some a) (Some e) o c.self.inside.used used within opened gate) c.requires.image c.append_marker.ensures.crash

pub returns-clause-crash : goal.returns-clause-crash
returns-clause-crash g c =
    let o : Opening = c.args.self.now.opening in
    let used : c.self.inside.used ≡ o.used = ap (λ (v : IndexState). v.opening.used) c.self.view_is in
    let within : needed_for_marker o ≤ FILE_BYTES_MAX = omega (arith, used, c.if-limit-needed.false, c.requires.limit) in
    told_widens g.D.Disk.moment g.D.Disk.left_since g.D.Disk.may_leave (g.D.Disk.image c.args.disk.now) c.args.disk.now c.append_marker.new.disk (λ image. IsOpenedAs image o) (GatedOrNot c.self.inside.used marker) GainsUpgradeOrNot
    (λ a e opened gate. added_or_not (Some a) (Some e) o c.self.inside.used used within opened gate) c.requires.image c.append_marker.ensures.crash
