-- The first word of a line, the words behind it, and the verb of a row.
use Rattle.std.proofs.Common.{◌≡◌, ℕ, ◌≤◌, Bool, true, false, cond, List, [], ◌∷◌, length, drop, set, Option, Some, None, option_and_then, sym, ap, ◌∙◌, arith, length-append}
use Rattle.std.specs.Borrow.{Bor}
use Rattle.std.specs.Prelude.{MatchOption}
use Rattle.std.proofs.Math.Seq.{drop-append_seam, drop-length}
use Rattle.dg_grammar.specs.Symbols.{Terminal, One_of}
use Rattle.dg_grammar.proofs.Symbols.{Split, Whole, cut, words_cut}
use Rattle.dg_line.specs.declared.table.End.{End}
use Rattle.dg_line.specs.Table.{end_command, read_row, row_command, zeros}
use Rattle.dg_text.specs.Verbs.{is_word}
use Rattle.dg_text.specs.Words.{words}

first_of : {v w : List ℕ} {us ws : List (List ℕ)} → v ∷ us ≡ w ∷ ws → v ≡ w
first_of same = cc

rest_of : {v w : List ℕ} {us ws : List (List ℕ)} → v ∷ us ≡ w ∷ ws → us ≡ ws
rest_of same = cc

-- the first word is a front of the line
pub first_fits : (line first : List ℕ) (rest : List (List ℕ)) → words line ≡ first ∷ rest → length first ≤ length line
first_fits line first rest e = elim (cut line) [
  | Whole plain is ↦ omega (arith, ap length (first_of (sym is ∙ e)))
  | Split w b parts is ↦ omega (arith, ap length (first_of (sym is ∙ e)), ap length parts, length-append w (32 ∷ b))
]

-- what stands behind it is an empty word and the other words
pub behind_first : (line first : List ℕ) (rest : List (List ℕ)) → words line ≡ first ∷ rest → words (drop (length first) line) ≡ [] ∷ rest
behind_first line first rest e = elim (cut line) [
  | Whole plain is ↦
      let same = sym is ∙ e in
      ap (λ (l : List ℕ). words (drop (length l) line)) (sym (first_of same)) ∙ ap words (drop-length line) ∙ ap (λ (l : List (List ℕ)). [] ∷ l) (rest_of same)
  | Split w b parts is ↦
      let same = sym is ∙ e in
      ap (λ (l : List ℕ). words (drop (length l) line)) (sym (first_of same)) ∙ ap (λ (l : List ℕ). words (drop (length w) l)) parts
      ∙ ap words (drop-append_seam w (32 ∷ b)) ∙ words_cut [] b (λ k d below. absurd (omega arith)) ∙ ap (λ (l : List (List ℕ)). [] ∷ l) (rest_of same)
]

-- the words that are left behind the next one
pub left_behind : (o : Option (Bor (List ℕ))) (old new rest : List (List ℕ)) (w : List ℕ) → MatchOption o (old ≡ []) (λ x. old ≡ x.now ∷ new) → old ≡ w ∷ rest → new ≡ rest
left_behind None old new rest w h e = absurd (let sizes = ap length (sym h ∙ e) in omega arith)
left_behind (Some x) old new rest w h e = rest_of (sym h ∙ e)

-- ---- the verb of a row

-- what a row reads of a line with another verb, or with its own
by_verb : (b : Bool) (verb w : List ℕ) (row : List Terminal) (e : End) (rest : List (List ℕ)) → is_word w verb ≡ b
    → row_command (record { symbols = One_of (verb ∷ []) ∷ row; end = e }) (w ∷ rest)
    ≡ option_and_then (λ (v : ℕ). read_row 1 (set zeros 0 v) row (end_command e) rest) (cond b (Some 0) None)
by_verb b verb w row e rest is = ap (λ (b : Bool). option_and_then (λ (v : ℕ). read_row 1 (set zeros 0 v) row (end_command e) rest) (cond b (Some 0) None)) is

pub other_verb : (verb w : List ℕ) (row : List Terminal) (e : End) (ws rest : List (List ℕ)) → ws ≡ w ∷ rest → is_word w verb ≡ false
    → row_command (record { symbols = One_of (verb ∷ []) ∷ row; end = e }) ws ≡ None
other_verb verb w row e ws rest first is = ap (row_command (record { symbols = One_of (verb ∷ []) ∷ row; end = e })) first ∙ by_verb false verb w row e rest is

pub own_verb : (verb w : List ℕ) (row : List Terminal) (e : End) (ws rest : List (List ℕ)) → ws ≡ w ∷ rest → is_word w verb ≡ true
    → row_command (record { symbols = One_of (verb ∷ []) ∷ row; end = e }) ws ≡ read_row 1 zeros row (end_command e) rest
own_verb verb w row e ws rest first is = ap (row_command (record { symbols = One_of (verb ∷ []) ∷ row; end = e })) first ∙ by_verb true verb w row e rest is
