-- Records added together, one after another.
use Rattle.std.proofs.Common.{◌≡◌, ℕ, ◌+◌, ◌≤◌, Bool, true, false, cond, ◌||◌, List, [], ◌∷◌, ◌++◌, length, map, Some, None, refl, sym, ap, subst, ◌∙◌, append_assoc, arith}
use Rattle.std.specs.Map.{lookup}
use Rattle.std.proofs.lemmas.List.{map-append}
use Rattle.std.proofs.lemmas.List.Sums.{sum_by-cons, sum_by_push}
use Rattle.dg_history.specs.declared.node.Key.{Key}
use Rattle.dg_history.specs.Keys.{same_key}
use Rattle.dg_catalogue.specs.Entries.{Holdings}
use Rattle.dg_index.specs.declared.entry.Entry.{Entry}
use Rattle.dg_index.specs.declared.entry.Row.{Row}
use Rattle.dg_index.specs.IndexGrowth.{columns_in}
use Rattle.dg_index.specs.IndexKeys.{among, Fresh}
use Rattle.dg_index.specs.OpenedIndex.{laid, total}
use Rattle.dg_catalogue.specs.Additions.{Suits, IsRoomFor}

-- what is held nowhere is not found
pub lacks : (entries : List (Key × Entry)) (k : Key) → among k (map (λ (r : Key × Entry). r.0) entries) ≡ false → lookup (same_key k) entries ≡ None
lacks [] k e = refl
lacks (r ∷ entries) k e = by (same_key k r.0) (lacks entries k) e
  where
    by : (b : Bool) → (among k (map (λ (r : Key × Entry). r.0) entries) ≡ false → lookup (same_key k) entries ≡ None) → (b || among k (map (λ (r : Key × Entry). r.0) entries)) ≡ false → cond b (Some r.1) (lookup (same_key k) entries) ≡ None
    by true more e = absurd cc
    by false more e = more e

pub next_room : (old new : Holdings) (offset : ℕ) (k : Key) (r : Row) (keys : List Key) (rows : List Row) → IsRoomFor old offset (k ∷ keys) (r ∷ rows)
    → new.entries ≡ old.entries ++ (k, record { lengths = r.lengths; offset = offset; ends = r.ends }) ∷ [] → old.spare ≤ new.spare + 1 → IsRoomFor new (offset + total r.lengths) keys rows
next_room old new offset k r keys rows h is spare =
    let sum = sum_by-cons (λ (r : Row). total r.lengths) r rows in
    let one : Key × Entry = (k, record { lengths = r.lengths; offset = offset; ends = r.ends }) in
    record {
      room = omega (arith, h.room, spare);
      fresh = subst (λ (l : List Key). Fresh l keys) (sym (ap (λ (l : List (Key × Entry)). map (λ (r : Key × Entry). r.0) l) is ∙ map-append (λ (r : Key × Entry). r.0) old.entries (one ∷ []))) h.fresh.1;
      in_range = omega (arith, h.in_range, sum);
      bytes = omega (arith, h.bytes, sum, ap columns_in is, sum_by_push (λ (q : Key × Entry). total q.1.lengths) old.entries one);
      suits = h.suits.2;
    }

pub next_laid : (old new : List (Key × Entry)) (offset : ℕ) (k : Key) (r : Row) (keys : List Key) (rows : List Row) (all : List (Key × Entry)) → old ++ laid offset (k ∷ keys) (r ∷ rows) ≡ all
    → new ≡ old ++ (k, record { lengths = r.lengths; offset = offset; ends = r.ends }) ∷ [] → new ++ laid (offset + total r.lengths) keys rows ≡ all
next_laid old new offset k r keys rows all so_far is =
    ap (λ (l : List (Key × Entry)). l ++ laid (offset + total r.lengths) keys rows) is
    ∙ append_assoc old ((k, record { lengths = r.lengths; offset = offset; ends = r.ends }) ∷ []) (laid (offset + total r.lengths) keys rows) ∙ so_far

pub suits_length : (keys : List Key) (rows : List Row) → Suits keys rows → length keys ≡ length rows
suits_length [] [] s = refl
suits_length [] (r ∷ rows) s = absurd s
suits_length (k ∷ keys) [] s = absurd s
suits_length (k ∷ keys) (r ∷ rows) s = omega (arith, suits_length keys rows s.2)
