-- One word of one cell is written in its column.
use Rattle.std.proofs.Common.{◌≡◌, ℕ, ◌<◌, ◌^◌, List, [], ◌∷◌, length, get_or, set, refl, sym, ap, subst, ◌∙◌}
use Rattle.std.specs.Prelude.{Option, Some, None, IsSome}
use Rattle.std.proofs.lemmas.List.{set-get_or}
use Rattle.dg_arena.specs.declared.cell.Cell.{Cell}
use Rattle.dg_arena.specs.declared.columns.Spot.{Spot}
use Rattle.dg_arena.specs.Cells.{WritesWord}
use Rattle.dg_arena.specs.Columns.{words, masked, cell_with, cells_of, RewritesRow}
use Rattle.dg_arena.proofs.Bits.{word_written}
use Rattle.dg_arena.proofs.Options.{holds}
use Rattle.dg_arena.proofs.ColumnCells.{cell_at, cell_set, some_spot}

module _ {X : Type 0} (ss : List (Option (Spot X))) (a b c d : List ℕ) (n : ℕ) (old : List (Option (Cell X))) (view : cells_of ss a b c d ≡ old) (there : IsSome (get_or old n None))
    (in_a : n < length a) (in_b : n < length b) (in_c : n < length c) (in_d : n < length d) (k on off : ℕ) (low : k < 4) (fits : off < 2 ^ 64) where
  abbrev bits : List ℕ
  bits = words a b c d n

  abbrev put : List ℕ
  put = set bits k (masked on off (get_or bits k 0))

  pub word_put : (w x y z : ℕ) → (w ∷ x ∷ y ∷ z ∷ []) ≡ put → RewritesRow old (cells_of ss (set a n w) (set b n x) (set c n y) (set d n z)) n (WritesWord k on off)
  word_put w x y z are = record {
    before = record { row = record { element = s.value; bits = bits }; link = s.link };
    after = record { row = record { element = s.value; bits = put }; link = s.link };
    was = was ∙ ap (λ o. cell_with o bits) spot.1;
    is =
        ap (λ l. cells_of l (set a n w) (set b n x) (set c n y) (set d n z)) (sym same)
        ∙ cell_set ss a b c d n s w x y z in_a in_b in_c in_d
        ∙ ap (λ l. set l n (cell_with (Some s) (w ∷ x ∷ y ∷ z ∷ []))) view
        ∙ ap (λ l. set old n (cell_with (Some s) l)) are;
    link = refl;
    how = record { element = refl; bits = word_written bits k on off low fits };
  }
    where
      was : get_or old n None ≡ cell_with (get_or ss n None) bits
      was = ap (λ l. get_or l n None) (sym view) ∙ cell_at ss a b c d n

      spot : (s : Spot X) × (get_or ss n None ≡ Some s)
      spot = holds (get_or ss n None) (some_spot (get_or ss n None) bits (subst IsSome was there))

      s : Spot X
      s = spot.0

      same : set ss n (Some s) ≡ ss
      same = ap (set ss n) (sym spot.1) ∙ set-get_or ss n None
