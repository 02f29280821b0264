use Rattle.std.proofs.Common.{◌-◌, ◌+◌, ◌≤◌, ◌++◌, ◌∷◌, ℕ, List, [], length, inl, sym, subst}
use Rattle.dg_disk.specs.Image.{PartWritten}
use Rattle.dg_disk.proofs.CrashTold.{told_widens}
use Rattle.std.proofs.lemmas.Result.{on_ok_weaker, on_err_weaker}
use Rattle.dg_index.specs.FileOfHistory.{marker}
use Rattle.dg_file.specs.Growth.{EndsBy, Moved, Grown, KeepsFront, GatedOrNot}
use Rattle.dg_file.proofs.GrowthMoves.{gate_left, gate_opened, moved_put, put_grows, put_keeps}
use Rattle.dg_file.proofs.GrowthCrashes.{gate_torn, told_then}
use Rattle.dg_file.proofs.TidyWrites.{just_opened, put_ends}
use Rattle.dg_file.proofs.append.append_marker.Goals as goal

-- the write of a marker that a crash cut short
marker_torn : (used : ℕ) (a c : List ℕ) → used ≤ length a → PartWritten used 25 a c → GatedOrNot used marker a c
marker_torn used a c le part = inl (subst (KeepsFront used a) (sym part.2) (put_keeps used part.0 a le))

pub returns-in_err-put_down-clause-crash : goal.returns-in_err-put_down-clause-crash
returns-in_err-put_down-clause-crash g c =
    let used : ℕ = c.args.used in
    told_widens g.D.Disk.moment g.D.Disk.left_since g.D.Disk.may_leave (g.D.Disk.image c.args.disk.now) c.args.disk.now c.put_down.new.disk (λ a. used ≤ length a) (PartWritten used 25) (GatedOrNot used marker)
    (λ a e le part. marker_torn used a e le part) c.requires.offset c.put_down.ensures.crash

pub returns-clause-written : goal.returns-clause-written
returns-clause-written g c =
    let used : ℕ = c.args.used in
    let grown : Moved (g.D.Disk.image c.args.disk.now) (g.D.Disk.image c.put_down.new.disk) (Grown used (marker ++ 0 ∷ [])) =
    moved_put _ _ used (marker ++ 0 ∷ []) (λ a. used ≤ length a) (Grown used (marker ++ 0 ∷ [])) (λ a le. put_grows used (marker ++ 0 ∷ []) a le) c.requires.offset c.in_ok-put_down.ensures.written in
    on_ok_weaker c.put_down-2.result (gate_opened _ _ _ used 1 marker c.requires.some grown) c.put_down-2.ensures.written

pub returns-clause-part : goal.returns-clause-part
returns-clause-part g c =
    let used : ℕ = c.args.used in
    let grown : Moved (g.D.Disk.image c.args.disk.now) (g.D.Disk.image c.put_down.new.disk) (Grown used (marker ++ 0 ∷ [])) =
    moved_put _ _ used (marker ++ 0 ∷ []) (λ a. used ≤ length a) (Grown used (marker ++ 0 ∷ [])) (λ a le. put_grows used (marker ++ 0 ∷ []) a le) c.requires.offset c.in_ok-put_down.ensures.written in
    on_err_weaker c.put_down-2.result (gate_left _ _ _ used marker c.requires.some grown) c.put_down-2.ensures.part

pub returns-clause-crash : goal.returns-clause-crash
returns-clause-crash g c =
    let used : ℕ = c.args.used in
    let grown : Moved (g.D.Disk.image c.args.disk.now) (g.D.Disk.image c.put_down.new.disk) (Grown used (marker ++ 0 ∷ [])) =
    moved_put _ _ used (marker ++ 0 ∷ []) (λ a. used ≤ length a) (Grown used (marker ++ 0 ∷ [])) (λ a le. put_grows used (marker ++ 0 ∷ []) a le) c.requires.offset c.in_ok-put_down.ensures.written in
    told_then g.D.Disk.moment g.D.Disk.left_since g.D.Disk.may_leave (g.D.Disk.image c.args.disk.now) (g.D.Disk.image c.put_down.new.disk) c.args.disk.now c.put_down.new.disk c.put_down-2.new.disk
    (Grown used (marker ++ 0 ∷ [])) (PartWritten (used - 1) 1) (GatedOrNot used marker) (λ a b e grown part. gate_torn used marker a b e c.requires.some grown part) grown
    (told_widens g.D.Disk.moment g.D.Disk.left_since g.D.Disk.may_leave (g.D.Disk.image c.args.disk.now) c.args.disk.now c.put_down.new.disk (λ a. used ≤ length a) (PartWritten used 25) (GatedOrNot used marker)
    (λ a e le part. marker_torn used a e le part) c.requires.offset c.put_down.ensures.crash) c.in_ok-put_down.ensures.settled c.put_down-2.ensures.crash

pub returns-clause-exact : goal.returns-clause-exact
returns-clause-exact g c =
    let used : ℕ = c.args.used in
    let grown : Moved (g.D.Disk.image c.args.disk.now) (g.D.Disk.image c.put_down.new.disk) (Grown used (marker ++ 0 ∷ [])) =
    moved_put _ _ used (marker ++ 0 ∷ []) (λ a. used ≤ length a) (Grown used (marker ++ 0 ∷ [])) (λ a le. put_grows used (marker ++ 0 ∷ []) a le) c.requires.offset c.in_ok-put_down.ensures.written in
    let ends : Moved (g.D.Disk.image c.args.disk.now) (g.D.Disk.image c.put_down.new.disk) (EndsBy used (length marker + 1)) =
    moved_put _ _ used (marker ++ 0 ∷ []) (λ a. used ≤ length a) (EndsBy used (length marker + 1)) (λ a le. put_ends used (marker ++ 0 ∷ []) a le) c.requires.offset c.in_ok-put_down.ensures.written in
    on_ok_weaker c.put_down-2.result (just_opened _ _ _ used 1 marker c.requires.some grown ends) c.put_down-2.ensures.written
