use Rattle.std.proofs.Common.{ℕ, ◌+◌, List, [], ◌∷◌, ◌++◌, map, drop, get_or, sym, subst, arith}
use Rattle.std.proofs.lemmas.Result.{on_ok_weaker, on_err_weaker}
use Rattle.dg_machine.specs.ReplyText.{text_line}
use Rattle.dg_reply.specs.declared.reply_buffer.Word.{Word}
use Rattle.dg_reply.specs.declared.reply_buffer.Word.TheVariants as word
use Rattle.dg_reply.specs.Buffered.{word_bytes}
use Rattle.dg_reply.proofs.Buffered.{IsPartlyPut, put_first, put_next, put_fails, put_ends, put_at, put_past, line_is_rest, rest_of_line, on_err}
use Rattle.dg_reply.proofs.reply_buffer.ReplyBuffer.put_line.Goals as goal

-- the word that a read past the last would give
abbrev no_word : Word
no_word = word.Text (record { ref_ptr = (0, 0); now = [] })

pub loop-word-init : goal.loop-word-init
loop-word-init g c =
    let start = g.K.Sink.written c.args.sink.now in
    let held = c.args.self.now in
    let line = map word_bytes c.args.words.now in
    let P : List ℕ → List ℕ → Type 0 = λ whole between. IsPartlyPut start (held ++ whole) start held (rest_of_line between line) in
    record {
      put = subst (λ (between : List ℕ). P (text_line line) between) (sym c.as_slice-between.ensures)
          (subst (λ (whole : List ℕ). P whole []) (sym (line_is_rest line)) (put_first start held (rest_of_line [] line)));
      counted = omega arith;
    }

pub returns-in_err-put-clause-err : goal.returns-in_err-put-clause-err
returns-in_err-put-clause-err g c =
    let words = c.args.words.now in
    let i = c.loop-word.word-index in
    let here = put_at _ _ _ _ _ words i no_word (omega arith) c.loop-word.invariant.put in
    on_err c.from_residual.result (put_fails _ _ _ _ _ c.loop-word.between.now
    (word_bytes (get_or words i no_word) ++ rest_of_line (32 ∷ []) (map word_bytes (drop (i + 1) words))) here c.in_err-put.ensures.err)

pub returns-in_err-put_word-clause-err : goal.returns-in_err-put_word-clause-err
returns-in_err-put_word-clause-err g c =
    let words = c.args.words.now in
    let i = c.loop-word.word-index in
    let word = word_bytes (get_or words i no_word) in
    let later = rest_of_line (32 ∷ []) (map word_bytes (drop (i + 1) words)) in
    let here = put_at _ _ _ _ _ words i no_word (omega arith) c.loop-word.invariant.put in
    let parted = put_next _ _ _ _ _ c.loop-word.between.now (word ++ later) _ here c.in_ok-put.ensures.ok in
    on_err c.from_residual-in_err-put_word.result (put_fails _ _ _ _ _ word later parted c.in_err-put_word.ensures.err)

pub loop-word-preserved : goal.loop-word-preserved
loop-word-preserved g c =
    let words = c.args.words.now in
    let i = c.loop-word.word-index in
    let word = word_bytes (get_or words i no_word) in
    let later = rest_of_line (32 ∷ []) (map word_bytes (drop (i + 1) words)) in
    let here = put_at _ _ _ _ _ words i no_word (omega arith) c.loop-word.invariant.put in
    let parted = put_next _ _ _ _ _ c.loop-word.between.now (word ++ later) _ here c.in_ok-put.ensures.ok in
    let done = put_next _ _ _ _ _ word later _ parted c.in_ok-put_word.ensures.ok in
    record {
      put =
          let P : List ℕ → Type 0 = λ between. IsPartlyPut (g.K.Sink.written c.args.sink.now) (c.args.self.now ++ text_line (map word_bytes words))
          (g.K.Sink.written c.put_word.new.sink) c.put_word.new.self (rest_of_line between (map word_bytes (drop (i + 1) words))) in
          subst P (sym c.as_slice-between-in-loop-word.ensures) done;
      counted = omega (arith, c.in_ok-put.ensures.counted, c.in_ok-put_word.ensures.counted);
    }

pub returns-clause-ok : goal.returns-clause-ok
returns-clause-ok g c =
    let here = put_past _ _ _ _ _ c.as_slice.result.now c.args.words.now c.loop-word.word-index (omega arith) c.as_slice.ensures c.loop-word.invariant.put in
    on_ok_weaker c.put-2.result (λ put. put_ends _ _ _ _ (put_next _ _ _ _ _ c.as_slice.result.now [] _ here put)) c.put-2.ensures.ok

pub returns-clause-err : goal.returns-clause-err
returns-clause-err g c =
    let here = put_past _ _ _ _ _ c.as_slice.result.now c.args.words.now c.loop-word.word-index (omega arith) c.as_slice.ensures c.loop-word.invariant.put in
    on_err_weaker c.put-2.result (λ put. put_fails _ _ _ _ _ c.as_slice.result.now [] here put) c.put-2.ensures.err
