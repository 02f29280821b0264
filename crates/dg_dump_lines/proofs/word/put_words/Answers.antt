use Rattle.std.proofs.Common.{◌+◌, [], ◌∷◌, ◌++◌, map, drop, get_or, refl, sym, ap, ◌∙◌, arith}
use Rattle.std.proofs.lemmas.Slice.{pushed}
use Rattle.dg_dump_lines.specs.declared.word.Word.{Word}
use Rattle.dg_dump_lines.specs.declared.word.Word.TheVariants as word
use Rattle.dg_dump_lines.specs.PutLines.{word_bytes}
use Rattle.dg_dump_lines.proofs.Lines.{ends_line, goes_by, goes_itself, goes_word, line_is_rest, rest_at, rest_of_line, rest_past, two_more}
use Rattle.dg_dump_lines.proofs.word.put_words.Goals as goal

-- the word that a read past the last would give
abbrev no_word : Word
no_word = word.Text (record { ref_ptr = (0, 0); now = [] })

pub loop-word-init : goal.loop-word-init
loop-word-init c =
    let text = c.args.text.now.items in
    let line = map word_bytes c.args.words.now in
    record {
      put = ap (λ between. text ++ rest_of_line between line) c.as_slice-between.ensures ∙ ap (λ bytes. text ++ bytes) (sym (line_is_rest line));
      kept = goes_itself text;
    }

pub returns-in_err-extend_from_slice-clause-kept : goal.returns-in_err-extend_from_slice-clause-kept
returns-in_err-extend_from_slice-clause-kept c = goes_by c.extend_from_slice.result _ _ _ _ c.loop-word.invariant.kept c.extend_from_slice.ensures.items

pub returns-in_err-put_word-clause-kept : goal.returns-in_err-put_word-clause-kept
returns-in_err-put_word-clause-kept c =
    goes_word c.put_word.result _ _ _ _ (goes_by c.extend_from_slice.result _ _ _ _ c.loop-word.invariant.kept c.extend_from_slice.ensures.items)
    c.put_word.ensures.put c.put_word.ensures.err

pub loop-word-preserved : goal.loop-word-preserved
loop-word-preserved c =
    let words = c.args.words.now in
    let i = c.loop-word.word-index in
    let word = word_bytes (get_or words i no_word) in
    let later = rest_of_line (32 ∷ []) (map word_bytes (drop (i + 1) words)) in
    let between = c.loop-word.between.now in
    let here = ap (λ bytes. c.loop-word.text.items ++ bytes) (sym (rest_at between words i no_word (omega arith))) ∙ c.loop-word.invariant.put in
    let mid = pushed between refl c.in_ok-extend_from_slice.was c.extend_from_slice.ensures.items in
    record {
      put =
          ap (λ b. c.put_word.new.text.items ++ rest_of_line b (map word_bytes (drop (i + 1) words))) c.as_slice-between-in-loop-word.ensures
          ∙ two_more _ _ _ between word later _ mid c.in_ok-put_word.ensures.put here;
      kept =
          goes_word c.put_word.result _ _ _ _ (goes_by c.extend_from_slice.result _ _ _ _ c.loop-word.invariant.kept c.extend_from_slice.ensures.items)
          c.put_word.ensures.put c.put_word.ensures.err;
    }

pub returns-clause-put : goal.returns-clause-put
returns-clause-put c =
    let text = c.loop-word.text.items in
    ends_line c.extend_from_slice-2.result text _ _ c.extend_from_slice-2.ensures.items
    (ap (λ bytes. text ++ bytes) (sym (rest_past c.loop-word.between.now c.args.words.now c.loop-word.word-index (omega arith))) ∙ c.loop-word.invariant.put)

pub returns-clause-kept : goal.returns-clause-kept
returns-clause-kept c = goes_by c.extend_from_slice-2.result _ _ _ _ c.loop-word.invariant.kept c.extend_from_slice-2.ensures.items
