use Rattle.std.proofs.Common.{List, ℕ, ◌++◌, length, ap, ◌∙◌, arith, append_assoc}
use Rattle.dg_cuts.specs.WholeEntries.{up_to_feed}
use Rattle.dg_cuts.proofs.WholeEntriesFront.{whole_front}
use Rattle.dg_cuts.proofs.WholeLines.{and_others, whole_lines}
use Rattle.dg_text.specs.Lines.{lines_of}
use Rattle.dg_machine.specs.Script.{entries_of_by}
use Rattle.dg_cuts.proofs.laws.law_whole_entries_are_a_front.Goals as goal

pub returns : goal.returns
returns g read taken left =
    let others = and_others taken in
    let front = up_to_feed taken in
    let whole = whole_front read (length (lines_of front)) (lines_of front) (lines_of (others.0 ++ left)) (omega arith) in (
      whole.0,
      ap (λ (bytes : List ℕ). entries_of_by read (lines_of (bytes ++ left))) others.1 ∙ ap (λ (bytes : List ℕ). entries_of_by read (lines_of bytes)) (append_assoc front others.0 left)
          ∙ ap (entries_of_by read) (whole_lines (length taken) taken (others.0 ++ left) (omega arith)) ∙ whole.1,
    )
