-- What a call leaves of the cells.
use Rattle.std.proofs.Common.{arith, ◌≡◌, ℕ, ◌+◌, ◌-◌, ◌<◌, ◌≤◌, ◌^◌, ◌⊎◌, inl, inr, List, [], ◌∷◌, ◌++◌, length, set, map, replicate, refl, sym, ap, ◌∙◌, subst, length-append}
use Rattle.std.proofs.lemmas.List.{length-set, map-set, get_or_append_left, length-map, length-replicate}
use Rattle.std.specs.Prelude.{Option, Some, None, IsSome}
use Rattle.dg_arena.specs.declared.row.Row.{Row}
use Rattle.dg_arena.specs.declared.cell.Cell.{Cell}
use Rattle.dg_arena.specs.declared.cell.Link.{Link}
use Rattle.dg_arena.specs.declared.cell.Link.TheVariants.{Live, Last, Next}
use Rattle.dg_arena.specs.Cells.{CellMap, cell_at, Puts, Reuses, shown, rows_of, taken_next, vacant, live_row, place, behind, Stands, IsChain, IsArena}
use Rattle.dg_arena.proofs.Options.{holds, stands_within}
use Rattle.dg_arena.proofs.Vacancies.{same_or_not, below_or_not, set_other, set_same, none_behind, vacant_at_most, vacant_taken, vacant_given, vacant_written, vacant_more, none_vacant, shown_at, shown_length, shown_all, chain_vacant, chain_kept, chain_longer}

abbrev or_else : {Y : Type 0} → Option Y → Y → Y
or_else None d = d
or_else (Some y) d = y

module _ {X : Type 0} where
  abbrev pub live : Row X → Cell X
  live r = record { row = r; link = Live }

  -- a cell with a value was taken before
  pub low_if : (cells : List (Option (Cell X))) (len n : ℕ) (c : Cell X) → ((m : ℕ) → len ≤ m → place cells m ≡ None) → place cells n ≡ Some c → n < len
  low_if cells len n c unfilled at = by (below_or_not n len)
    where
      by : (n < len) ⊎ (len ≤ n) → n < len
      by (inl low) = low
      by (inr past) = let no : None ≡ Some c = sym (unfilled n past) ∙ at in cc

  module _ (cells : List (Option (Cell X))) (n : ℕ) (x : Cell X) (in_cells : n < length cells) where
    abbrev after : List (Option (Cell X))
    after = set cells n (Some x)

    filled_at : (m : ℕ) → m ≡ n → IsSome (place after m)
    filled_at m e = subst IsSome (sym (ap (place after) e ∙ set_same cells n (Some x) in_cells)) refl

    filled_set : (m : ℕ) → IsSome (place cells m) → IsSome (place after m)
    filled_set m there = by (same_or_not m n)
      where
        by : (m ≡ n) ⊎ (m ≡ n → ⊥) → IsSome (place after m)
        by (inl e) = filled_at m e
        by (inr apart) = subst IsSome (sym (set_other cells n m (Some x) apart)) there

    shown_there : (m : ℕ) → m ≡ n → shown (place after m) ≡ shown (Some x)
    shown_there m e = ap shown (ap (place after) e ∙ set_same cells n (Some x) in_cells)

    map_is : map shown after ≡ set (map shown cells) n (shown (Some x))
    map_is = map-set shown cells n (Some x)

  long : (cells : List (Option (Cell X))) → length (map shown cells) ≡ length cells
  long cells = length-map cells shown

  -- a vacant cell is taken off the list
  pub reused : (cells : List (Option (Cell X))) (len n spare : ℕ) (free : Option ℕ) (c : Cell X) (r : Row X) → IsArena cells len free spare → free ≡ Some n → place cells n ≡ Some c → 1 ≤ spare
      → IsArena (set cells n (Some (live r))) len (behind c.link) (spare - 1)
  reused cells len n spare free c r A first at some = go A.chain A.is_chain A.complete
    where
      in_cells : n < length cells
      in_cells = stands_within cells n c at

      low : n < len
      low = low_if cells len n c A.unfilled at

      go : (ns : List ℕ) → IsChain cells free ns → ((m : ℕ) → m < len → shown (place cells m) ≡ None → Stands ns m) → IsArena (set cells n (Some (live r))) len (behind c.link) (spare - 1)
      go [] chain complete = let no : Some n ≡ None = sym first ∙ chain in cc
      go (k ∷ ns) chain complete =
          let is : k ≡ n = ap (λ o. or_else o k) (sym chain.0 ∙ first) in
          let same : chain.2 ≡ c = ap (λ o. or_else o c) (sym chain.3 ∙ ap (place cells) is ∙ at) in
          let none : shown (Some c) ≡ None = ap (λ d. shown (Some d)) (sym same) ∙ chain.4 in
          let fewer = vacant_taken (map shown cells) n r (subst (λ j. n < j) (sym (long cells)) in_cells) (shown_all cells n ∙ ap shown at ∙ none) in
          let sum = ap vacant (map_is cells n (live r) in_cells) in
          let size = length-set cells n (Some (live r)) in
          record {
            chain = ns;
            is_chain = chain_kept cells n (Some (live r)) (behind c.link) ns (subst (λ (d : Cell X). IsChain cells (behind d.link) ns) same chain.5) (λ stands. chain.1 (subst (Stands ns) (sym is) stands));
            complete = λ m down vacancy. rest m down vacancy;
            filled = λ m down. filled_set cells n (live r) in_cells m (A.filled m down);
            unfilled = λ m past. set_other cells n m (Some (live r)) (λ e. absurd (omega (arith, e, low, past))) ∙ A.unfilled m past;
            within = omega (arith, size, A.within);
            few = omega (arith, size, A.few);
            count = omega (arith, fewer, sum, A.count);
          }
        where
          apart : (m : ℕ) → shown (place (set cells n (Some (live r))) m) ≡ None → m ≡ n → ⊥
          apart m vacancy e = let no : Some r ≡ None = sym (shown_there cells n (live r) in_cells m e) ∙ vacancy in cc

          in_rest : (m : ℕ) → (m ≡ n → ⊥) → k ≡ n → Stands (k ∷ ns) m → Stands ns m
          in_rest m other is (inl e) = absurd (other (e ∙ is))
          in_rest m other is (inr stands) = stands

          rest : (m : ℕ) → m < len → shown (place (set cells n (Some (live r))) m) ≡ None → Stands ns m
          rest m down vacancy =
              let other = apart m vacancy in
              in_rest m other (ap (λ o. or_else o k) (sym chain.0 ∙ first)) (complete m down (sym (ap shown (set_other cells n m (Some (live r)) other)) ∙ vacancy))

  -- a live cell is given back
  pub given : (cells : List (Option (Cell X))) (len n spare : ℕ) (free : Option ℕ) (c d : Cell X) (q : Row X) → IsArena cells len free spare → place cells n ≡ Some c → shown (Some c) ≡ Some q → shown (Some d) ≡ None → behind d.link ≡ free
      → IsArena (set cells n (Some d)) len (Some n) (spare + 1)
  given cells len n spare free c d q A at was none next =
      let in_cells = stands_within cells n c at in
      let low = low_if cells len n c A.unfilled at in
      let apart : Stands A.chain n → ⊥ = λ stands. (let no : Some q ≡ None = sym (ap shown at ∙ was) ∙ chain_vacant cells free A.chain A.is_chain n stands in cc) in
      let more = vacant_given (map shown cells) n q (shown_all cells n ∙ ap shown at ∙ was) in
      let sum = ap vacant (map_is cells n d in_cells ∙ ap (set (map shown cells) n) none) in
      let size = length-set cells n (Some d) in
      record {
        chain = n ∷ A.chain;
        is_chain = (refl, apart, d, set_same cells n (Some d) in_cells, none, subst (λ h. IsChain (set cells n (Some d)) h A.chain) (sym next) (chain_kept cells n (Some d) free A.chain A.is_chain apart));
        complete = λ m down vacancy. by m down vacancy (same_or_not m n);
        filled = λ m down. filled_set cells n d in_cells m (A.filled m down);
        unfilled = λ m past. set_other cells n m (Some d) (λ e. absurd (omega (arith, e))) ∙ A.unfilled m past;
        within = omega (arith, size, A.within);
        few = omega (arith, size, A.few);
        count = omega (arith, more, sum, A.count);
      }
    where
      by : (m : ℕ) → m < len → shown (place (set cells n (Some d)) m) ≡ None → (m ≡ n) ⊎ (m ≡ n → ⊥) → Stands (n ∷ A.chain) m
      by m down vacancy (inl e) = inl e
      by m down vacancy (inr other) = inr (A.complete m down (sym (ap shown (set_other cells n m (Some d) other)) ∙ vacancy))

  -- the row of a live cell is written
  pub rewritten : (cells : List (Option (Cell X))) (len n spare : ℕ) (free : Option ℕ) (c : Cell X) (q r : Row X) → IsArena cells len free spare → place cells n ≡ Some c → shown (Some c) ≡ Some q
      → IsArena (set cells n (Some (live r))) len free spare
  rewritten cells len n spare free c q r A at was =
      let in_cells = stands_within cells n c at in
      let low = low_if cells len n c A.unfilled at in
      let apart : Stands A.chain n → ⊥ = λ stands. (let no : Some q ≡ None = sym (ap shown at ∙ was) ∙ chain_vacant cells free A.chain A.is_chain n stands in cc) in
      let same = vacant_written (map shown cells) n q r (shown_all cells n ∙ ap shown at ∙ was) in
      let sum = ap vacant (map_is cells n (live r) in_cells) in
      let size = length-set cells n (Some (live r)) in
      record {
        chain = A.chain;
        is_chain = chain_kept cells n (Some (live r)) free A.chain A.is_chain apart;
        complete = λ m down vacancy. A.complete m down (sym (ap shown (set_other cells n m (Some (live r)) (λ e. (let no : Some r ≡ None = sym (shown_there cells n (live r) in_cells m e) ∙ vacancy in cc)))) ∙ vacancy);
        filled = λ m down. filled_set cells n (live r) in_cells m (A.filled m down);
        unfilled = λ m past. set_other cells n m (Some (live r)) (λ e. absurd (omega (arith, e))) ∙ A.unfilled m past;
        within = omega (arith, size, A.within);
        few = omega (arith, size, A.few);
        count = A.count ∙ sym same ∙ sym sum;
      }

  -- the head of the list is a vacant cell
  pub first_there : (cells : List (Option (Cell X))) (len n spare : ℕ) (free : Option ℕ) → IsArena cells len free spare → free ≡ Some n → (c : Cell X) × (place cells n ≡ Some c) × (shown (Some c) ≡ None)
  first_there cells len n spare free A first = go A.chain A.is_chain
    where
      go : (ns : List ℕ) → IsChain cells free ns → (c : Cell X) × (place cells n ≡ Some c) × (shown (Some c) ≡ None)
      go [] chain = let no : Some n ≡ None = sym first ∙ chain in cc
      go (k ∷ ns) chain =
          let is : k ≡ n = ap (λ o. or_else o k) (sym chain.0 ∙ first) in
          (chain.2, ap (place cells) (sym is) ∙ chain.3, chain.4)

  no_chain : (cells : List (Option (Cell X))) (free : Option ℕ) (ns : List ℕ) (m : ℕ) → IsChain cells free ns → free ≡ None → Stands ns m → ⊥
  no_chain cells free [] m chain none stands = stands
  no_chain cells free (k ∷ ns) m chain none stands = let no : Some k ≡ None = sym chain.0 ∙ none in cc

  -- with no vacant cell on the list there is one that was never taken
  pub has_room : (cells : List (Option (Cell X))) (len spare : ℕ) (free : Option ℕ) → IsArena cells len free spare → free ≡ None → 1 ≤ spare → len < length cells
  has_room cells len spare free A none some = by (below_or_not len (length cells))
    where
      by : (len < length cells) ⊎ (length cells ≤ len) → len < length cells
      by (inl room) = room
      by (inr past) =
          let size = long cells in
          let zero_is = none_vacant (map shown cells) (λ m low vacancy. no_chain cells free A.chain m A.is_chain none (A.complete m (omega (arith, size, low, past)) (sym (shown_all cells m) ∙ vacancy))) in
          absurd (omega (arith, zero_is, A.count, some))

  -- a cell is taken for the first time
  pub extended : (cells : List (Option (Cell X))) (len spare : ℕ) (free : Option ℕ) (r : Row X) → IsArena cells len free spare → free ≡ None → 1 ≤ spare → IsArena (set cells len (Some (live r))) (len + 1) free (spare - 1)
  extended cells len spare free r A none some =
      let fewer = vacant_taken (map shown cells) len r (subst (λ j. len < j) (sym (long cells)) in_cells) (shown_all cells len ∙ ap shown (A.unfilled len (omega arith))) in
      let sum = ap vacant (map_is cells len (live r) in_cells) in
      let size = length-set cells len (Some (live r)) in
      record {
        chain = A.chain;
        is_chain = chain_kept cells len (Some (live r)) free A.chain A.is_chain (no_chain cells free A.chain len A.is_chain none);
        complete = λ m down vacancy. by m down vacancy (below_or_not m len);
        filled = λ m down. full m down (below_or_not m len);
        unfilled = λ m past. set_other cells len m (Some (live r)) (λ e. absurd (omega (arith, e))) ∙ A.unfilled m (omega arith);
        within = omega (arith, size, in_cells);
        few = omega (arith, size, A.few);
        count = omega (arith, fewer, sum, A.count);
      }
    where
      in_cells : len < length cells
      in_cells = has_room cells len spare free A none some

      by : (m : ℕ) → m < len + 1 → shown (place (set cells len (Some (live r))) m) ≡ None → (m < len) ⊎ (len ≤ m) → Stands A.chain m
      by m down vacancy (inl low) = A.complete m low (sym (ap shown (set_other cells len m (Some (live r)) (λ e. absurd (omega (arith, e))))) ∙ vacancy)
      by m down vacancy (inr past) = let no : Some r ≡ None = sym (shown_there cells len (live r) in_cells m (omega arith)) ∙ vacancy in cc

      full : (m : ℕ) → m < len + 1 → (m < len) ⊎ (len ≤ m) → IsSome (place (set cells len (Some (live r))) m)
      full m down (inl low) = filled_set cells len (live r) in_cells m (A.filled m low)
      full m down (inr past) = filled_at cells len (live r) in_cells m (omega arith)

  -- more cells come
  pub grown : (cells : List (Option (Cell X))) (len spare k : ℕ) (free : Option ℕ) → IsArena cells len free spare → length cells + k ≤ 2 ^ 32 → IsArena (cells ++ replicate k None) len free (spare + k)
  grown cells len spare k free A fits =
      let size = length-append cells more in
      let long_more : length more ≡ k = length-replicate k None in
      record {
        chain = A.chain;
        is_chain = chain_longer cells more free A.chain A.is_chain;
        complete = λ m down vacancy. A.complete m down (sym (ap shown (left m (omega (arith, down, A.within)))) ∙ vacancy);
        filled = λ m down. subst IsSome (sym (left m (omega (arith, down, A.within)))) (A.filled m down);
        unfilled = λ m past. by m past (below_or_not m (length cells));
        within = omega (arith, size, A.within);
        few = omega (arith, size, long_more, fits);
        count = omega (arith, vacant_more cells k, A.count);
      }
    where
      more : List (Option (Cell X))
      more = replicate k None

      left : (m : ℕ) → m < length cells → place (cells ++ replicate k None) m ≡ place cells m
      left m low = get_or_append_left cells (replicate k None) None m low

      by : (m : ℕ) → len ≤ m → (m < length cells) ⊎ (length cells ≤ m) → place (cells ++ replicate k None) m ≡ None
      by m past (inl low) = left m low ∙ A.unfilled m past
      by m past (inr high) = none_behind cells k m high

  -- ---- what a contract sees

  -- a cell that is taken
  pub puts : (cells : List (Option (Cell X))) (len len' n : ℕ) (r : Row X) → ((m : ℕ) → len ≤ m → place cells m ≡ None) → ((m : ℕ) → len' ≤ m → place (set cells n (Some (live r))) m ≡ None) → n < length cells → shown (place cells n) ≡ None
      → Puts (rows_of cells len) (rows_of (set cells n (Some (live r))) len') n r
  puts cells len len' n r before now in_cells was = record {
    vacant = shown_at cells len n before ∙ was;
    put = shown_at (set cells n (Some (live r))) len' n now ∙ shown_there cells n (live r) in_cells n refl;
    others = λ m apart. shown_at (set cells n (Some (live r))) len' m now ∙ ap shown (set_other cells n m (Some (live r)) apart) ∙ sym (shown_at cells len m before);
  }

  -- with no vacant cell on the list all cells that are shown are live
  all_live : (cells : List (Option (Cell X))) (len spare : ℕ) (free : Option ℕ) → IsArena cells len free spare → free ≡ None → (n : ℕ) → n < len → IsSome (cell_at (rows_of cells len) n)
  all_live cells len spare free A none n low = by (cell_at (rows_of cells len) n) refl
    where
      by : (o : Option (Row X)) → cell_at (rows_of cells len) n ≡ o → IsSome (cell_at (rows_of cells len) n)
      by None e = absurd (no_chain cells free A.chain n A.is_chain none (A.complete n low (sym (shown_at cells len n A.unfilled) ∙ e)))
      by (Some r) e = subst IsSome (sym e) refl

  -- a cell of the list is used
  pub reuses_first : (rows : List (Option (Row X))) (cells : List (Option (Cell X))) (len : ℕ) → length rows ≡ len → len ≤ length cells → Reuses rows (rows_of cells len)
  reuses_first rows cells len was within =
      let size = shown_length cells len within in
      record { longer = omega (arith, was, size); full = λ more n low. absurd (omega (arith, was, size, more)) }

  -- a cell is used for the first time
  pub reuses_next : (rows : List (Option (Row X))) (cells : List (Option (Cell X))) (len spare : ℕ) (free : Option ℕ) → IsArena cells (len + 1) free spare → free ≡ None → length rows ≡ len → Reuses rows (rows_of cells (len + 1))
  reuses_next rows cells len spare free A none was =
      let size = shown_length cells (len + 1) A.within in
      record { longer = omega (arith, was, size); full = λ more n low. all_live cells (len + 1) spare free A none n (omega (arith, size, low)) }

  -- no more are spare than there are cells
  pub spare_few : (cells : List (Option (Cell X))) (len spare : ℕ) (free : Option ℕ) → IsArena cells len free spare → spare ≤ length cells
  spare_few cells len spare free A = let most = vacant_at_most (map shown cells) in let size = long cells in omega (arith, most, size, A.count)

  -- a cell of the list is not behind all others
  pub first_is_low : (cells : List (Option (Cell X))) (len n spare : ℕ) (free : Option ℕ) → IsArena cells len free spare → free ≡ Some n → n < length (rows_of cells len)
  first_is_low cells len n spare free A first =
      let there = first_there cells len n spare free A first in
      let low = low_if cells len n there.0 A.unfilled there.1 in
      let size = shown_length cells len A.within in
      omega (arith, low, size)

  -- where the cell behind all others is taken next, none of them is vacant
  pub none_is_vacant : (cells : List (Option (Cell X))) (len spare : ℕ) (free : Option ℕ) (old : CellMap X) → IsArena cells len free spare
      → record { items = rows_of cells len; spare = spare; vacancy = taken_next free len } ≡ old → 1 ≤ old.spare → old.vacancy ≡ length old.items → (free ≡ None) × (1 ≤ spare)
  none_is_vacant cells len spare None old A view room behind = (refl, subst (λ k. 1 ≤ k) (sym (ap (λ m. m.spare) view)) room)
  none_is_vacant cells len spare (Some n) old A view room behind =
      let low = first_is_low cells len n spare (Some n) A refl in
      let is : n ≡ length (rows_of cells len) = ap (λ m. m.vacancy) view ∙ behind ∙ sym (ap (λ m. length m.items) view) in
      absurd (omega arith)

  -- a live cell is one with a value
  pub live_cell : (cells : List (Option (Cell X))) (len n : ℕ) (rows : List (Option (Row X))) → ((m : ℕ) → len ≤ m → place cells m ≡ None) → rows_of cells len ≡ rows → IsSome (cell_at rows n)
      → (c : Cell X) × (q : Row X) × (place cells n ≡ Some c) × (shown (Some c) ≡ Some q)
  live_cell cells len n rows unfilled view there = by (place cells n) refl
    where
      is : cell_at rows n ≡ shown (place cells n)
      is = ap (λ l. cell_at l n) (sym view) ∙ shown_at cells len n unfilled

      by : (o : Option (Cell X)) → place cells n ≡ o → (c : Cell X) × (q : Row X) × (place cells n ≡ Some c) × (shown (Some c) ≡ Some q)
      by None e = let no : IsSome {T = Row X} None = subst IsSome (is ∙ ap shown e) there in cc
      by (Some c) e = let q = holds (shown (Some c)) (subst IsSome (is ∙ ap shown e) there) in (c, q.0, e, q.1)

  -- a cell with the link of a live one is live
  pub live_by : (b a : Cell X) (q : Row X) → a.link ≡ b.link → shown (Some b) ≡ Some q → (a ≡ live a.row) × (shown (Some b) ≡ Some b.row)
  live_by b a q same was = by b.link refl
    where
      by : (l : Link) → b.link ≡ l → (a ≡ live a.row) × (shown (Some b) ≡ Some b.row)
      by Live e = ((λ i. record { row = a.row; link = (same ∙ e) i }), ap (λ l. live_row l b.row) e)
      by Last e = let no : None ≡ Some q = sym (ap (λ l. live_row l b.row) e) ∙ was in cc
      by (Next n) e = let no : None ≡ Some q = sym (ap (λ l. live_row l b.row) e) ∙ was in cc
