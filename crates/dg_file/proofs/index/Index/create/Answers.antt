use Rattle.std.proofs.Common.{◌≡◌, ◌++◌, ◌∷◌, [], Ok, inl, true}
use Rattle.dg_disk.proofs.CrashTold.{told_starts}
use Rattle.dg_history.specs.History.{empty_history}
use Rattle.dg_index.specs.FileOfHistory.{file}
use Rattle.dg_index.specs.ImageOfHistory.{IsImageOf, is_blank}
use Rattle.dg_index.specs.OpenedIndex.{opening, opened_of}
use Rattle.dg_file.specs.Images.{IsMadeInPart}
use Rattle.dg_index.proofs.OpenedIndexHistories.{images_are_opened}
use Rattle.dg_file.proofs.GrowthMoves.{moved_after, moved_both}
use Rattle.dg_file.proofs.index.Index.create.Goals as goal

pub returns-clause-opened : goal.returns-clause-opened
returns-clause-opened g c =
    moved_after _ _ (λ before after. IsImageOf (empty_history c.args.form c.args.params) after) (λ image. opening image ≡ Ok (opened_of (empty_history c.args.form c.args.params))) (λ a b h. images_are_opened (empty_history c.args.form c.args.params) b h) c.in_ok-write_header.ensures.image

pub returns-clause-image : goal.returns-clause-image
returns-clause-image g c =
    moved_after _ _ (λ before after. IsImageOf (empty_history c.args.form c.args.params) after) (λ image. IsImageOf (empty_history c.args.form c.args.params) image) (λ a b h. h) c.in_ok-write_header.ensures.image

pub returns-in_err-write_header-clause-part : goal.returns-in_err-write_header-clause-part
returns-in_err-write_header-clause-part g c = λ _. moved_both _ _ (IsMadeInPart c.args.form c.args.params) c.in_err-write_header.ensures.part

pub returns-in_err-reserve-clause-crash : goal.returns-in_err-reserve-clause-crash
returns-in_err-reserve-clause-crash g c =
    told_starts g.D.Disk.moment g.D.Disk.left_since g.D.Disk.may_leave g.met.D.Disk.only_now (g.D.Disk.image c.args.disk.now) c.args.disk.now (λ a. is_blank a ≡ true) (IsMadeInPart c.args.form c.args.params) (λ a blank. inl blank) c.requires.blank

pub returns-clause-exact : goal.returns-clause-exact
returns-clause-exact g c =
    moved_after _ _ (λ before after. after ≡ file (empty_history c.args.form c.args.params) ++ 0 ∷ []) (λ image. image ≡ file (empty_history c.args.form c.args.params) ++ 0 ∷ []) (λ a b is. is) c.in_ok-write_header.ensures.exact
