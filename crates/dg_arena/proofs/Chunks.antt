-- A place of chunks of 1,024, by its number.
use Rattle.std.proofs.Common.{arith, ◌≡◌, ℕ, suc, zero, ◌+◌, ◌-◌, ◌*◌, ◌/◌, ◌%◌, ◌<◌, List, [], ◌∷◌, ◌++◌, length, get_or, set, replicate, refl, sym, ap, ◌∙◌, subst, length-append}
use Rattle.std.specs.List.{All}
use Rattle.std.proofs.lemmas.List.{length-set, get_or_append_left, get_or-append-add, set-append_left, set-append_right, length-replicate, replicate-append-replicate}
use Rattle.std.proofs.lemmas.List.Concat.{flat_map-append, flat_map-cons}
use Rattle.std.proofs.lemmas.List.Elements.{All-append, All-set, All-get_or, All-tail, All-replicate}
use Rattle.std.specs.Prelude.{Option, None, IsSome}
use Rattle.dg_arena.specs.Store.{joined}
use Rattle.dg_arena.proofs.Options.{holds, stands_within}

parts : (n : ℕ) → (n / 1024) * 1024 + n % 1024 ≡ n
parts n = omega arith

pub any_default : {X : Type 0} (l : List X) (n : ℕ) (d e : X) → n < length l → get_or l n d ≡ get_or l n e
any_default [] n d e within = absurd (omega arith)
any_default (x ∷ l) zero d e within = refl
any_default (x ∷ l) (suc n) d e within = any_default l n d e (omega arith)

module _ {X : Type 0} where
  abbrev pub IsFull : List X → Type 0
  IsFull chunk = length chunk ≡ 1024

  abbrev pub chunk_at : List (List X) → ℕ → List X
  chunk_at chunks q = get_or chunks q []

  -- how many places there are
  pub length-joined : (chunks : List (List X)) → All IsFull chunks → length (joined chunks) ≡ length chunks * 1024
  length-joined [] full = omega arith
  length-joined (c ∷ chunks) full =
      let one : length c ≡ 1024 = full 0 c (omega arith) in
      let rest = length-joined chunks (All-tail IsFull c chunks full) in
      let both = length-append c (joined chunks) in
      omega (arith, one, rest, both)

  at_index : (chunks : List (List X)) (q i : ℕ) (d : X) → All IsFull chunks → q < length chunks → i < 1024 → get_or (joined chunks) (q * 1024 + i) d ≡ get_or (chunk_at chunks q) i d
  at_index [] q i d full within fits = absurd (omega arith)
  at_index (c ∷ chunks) zero i d full within fits =
      let one : length c ≡ 1024 = full 0 c (omega arith) in
      let same : 0 * 1024 + i ≡ i = omega arith in
      ap (λ k. get_or (c ++ joined chunks) k d) same ∙ get_or_append_left c (joined chunks) d i (omega (arith, one))
  at_index (c ∷ chunks) (suc q) i d full within fits =
      let one : length c ≡ 1024 = full 0 c (omega arith) in
      let behind : suc q * 1024 + i ≡ length c + (q * 1024 + i) = omega (arith, one) in
      ap (λ k. get_or (c ++ joined chunks) k d) behind ∙ get_or-append-add c (joined chunks) (q * 1024 + i) d
      ∙ at_index chunks q i d (All-tail IsFull c chunks full) (omega arith) fits

  set_at_index : (chunks : List (List X)) (q i : ℕ) (x : X) → All IsFull chunks → q < length chunks → i < 1024
      → joined (set chunks q (set (chunk_at chunks q) i x)) ≡ set (joined chunks) (q * 1024 + i) x
  set_at_index [] q i x full within fits = absurd (omega arith)
  set_at_index (c ∷ chunks) zero i x full within fits =
      let one : length c ≡ 1024 = full 0 c (omega arith) in
      let same : i ≡ 0 * 1024 + i = omega arith in
      sym (set-append_left c (joined chunks) i x (omega (arith, one))) ∙ ap (λ k. set (c ++ joined chunks) k x) same
  set_at_index (c ∷ chunks) (suc q) i x full within fits =
      let one : length c ≡ 1024 = full 0 c (omega arith) in
      let n = suc q * 1024 + i in
      let back : q * 1024 + i ≡ n - 1024 = omega arith in
      ap (λ l. c ++ l) (set_at_index chunks q i x (All-tail IsFull c chunks full) (omega arith) fits ∙ ap (λ k. set (joined chunks) k x) back)
      ∙ sym (set-append_right c (joined chunks) 1024 n x one (omega arith))

  -- the chunk of a place is there
  pub chunk_within : (chunks : List (List X)) (n : ℕ) → All IsFull chunks → n < length (joined chunks) → n / 1024 < length chunks
  chunk_within chunks n full within = omega (arith, length-joined chunks full)

  pub place_at : (chunks : List (List X)) (n : ℕ) (d : X) → All IsFull chunks → n < length (joined chunks) → get_or (joined chunks) n d ≡ get_or (chunk_at chunks (n / 1024)) (n % 1024) d
  place_at chunks n d full within =
      ap (λ k. get_or (joined chunks) k d) (sym (parts n)) ∙ at_index chunks (n / 1024) (n % 1024) d full (chunk_within chunks n full within) (omega arith)

  pub place_set : (chunks : List (List X)) (n : ℕ) (x : X) → All IsFull chunks → n < length (joined chunks)
      → joined (set chunks (n / 1024) (set (chunk_at chunks (n / 1024)) (n % 1024) x)) ≡ set (joined chunks) n x
  place_set chunks n x full within =
      set_at_index chunks (n / 1024) (n % 1024) x full (chunk_within chunks n full within) (omega arith) ∙ ap (λ k. set (joined chunks) k x) (parts n)

  -- a chunk with another value in a place is full
  pub full_set : (chunks : List (List X)) (n : ℕ) (x : X) → All IsFull chunks → n < length (joined chunks) → All IsFull (set chunks (n / 1024) (set (chunk_at chunks (n / 1024)) (n % 1024) x))
  full_set chunks n x full within =
      let chunk = chunk_at chunks (n / 1024) in
      All-set IsFull chunks (n / 1024) (set chunk (n % 1024) x) (length-set chunk (n % 1024) x ∙ All-get_or IsFull chunks (n / 1024) [] (chunk_within chunks n full within) full) full

  -- alike chunks are one long row
  pub joined_alike : (count : ℕ) (x : X) → joined (replicate count (replicate 1024 x)) ≡ replicate (count * 1024) x
  joined_alike zero x = refl
  joined_alike (suc count) x =
      flat_map-cons (λ (l : List X). l) (replicate 1024 x) (replicate count (replicate 1024 x)) ∙ ap (λ l. replicate 1024 x ++ l) (joined_alike count x)
      ∙ replicate-append-replicate 1024 (count * 1024) x ∙ ap (λ k. replicate k x) (omega arith)

  -- more chunks
  pub joined_more : (chunks : List (List X)) (count : ℕ) (x : X) → joined (chunks ++ replicate count (replicate 1024 x)) ≡ joined chunks ++ replicate (count * 1024) x
  joined_more chunks count x = flat_map-append (λ (l : List X). l) chunks (replicate count (replicate 1024 x)) ∙ ap (λ l. joined chunks ++ l) (joined_alike count x)

  pub full_more : (chunks : List (List X)) (count : ℕ) (x : X) → All IsFull chunks → All IsFull (chunks ++ replicate count (replicate 1024 x))
  full_more chunks count x full = All-append IsFull chunks (replicate count (replicate 1024 x)) full (All-replicate IsFull count (replicate 1024 x) (length-replicate 1024 x))

  -- a chunk that was read
  pub chunk_is : (chunks : List (List X)) (n : ℕ) (v : List X) → All IsFull chunks → n < length (joined chunks) → v ≡ get_or chunks (n / 1024) v → v ≡ chunk_at chunks (n / 1024)
  chunk_is chunks n v full within at = at ∙ any_default chunks (n / 1024) v [] (chunk_within chunks n full within)

  pub fits_chunk : (chunks : List (List X)) (n : ℕ) (v : List X) → All IsFull chunks → n < length (joined chunks) → v ≡ get_or chunks (n / 1024) v → n % 1024 < length v
  fits_chunk chunks n v full within at =
      let long : length v ≡ 1024 = ap length (chunk_is chunks n v full within at) ∙ All-get_or IsFull chunks (n / 1024) [] (chunk_within chunks n full within) full in
      omega (arith, long)

  -- a value is written into it
  pub written_is : (chunks : List (List X)) (n : ℕ) (v w : List X) (x : X) → All IsFull chunks → n < length (joined chunks) → v ≡ get_or chunks (n / 1024) v → w ≡ set v (n % 1024) x
      → set chunks (n / 1024) w ≡ set chunks (n / 1024) (set (chunk_at chunks (n / 1024)) (n % 1024) x)
  written_is chunks n v w x full within at is = ap (set chunks (n / 1024)) (is ∙ ap (λ l. set l (n % 1024) x) (chunk_is chunks n v full within at))

module _ {X : Type 0} where
  pub stands_in : (chunks : List (List (Option X))) (cs : List (Option X)) (n : ℕ) → joined chunks ≡ cs → IsSome (get_or cs n None) → n < length (joined chunks)
  stands_in chunks cs n e there = let held = holds (get_or cs n None) there in subst (λ l. n < length l) (sym e) (stands_within cs n held.0 held.1)

  pub read_is : (chunks : List (List (Option X))) (cs : List (Option X)) (n : ℕ) (v : List (Option X)) → joined chunks ≡ cs → All IsFull chunks → n < length (joined chunks) → v ≡ get_or chunks (n / 1024) v
      → get_or cs n None ≡ get_or v (n % 1024) None
  read_is chunks cs n v e full within at =
      ap (λ l. get_or l n None) (sym e) ∙ place_at chunks n None full within ∙ ap (λ l. get_or l (n % 1024) None) (sym (chunk_is chunks n v full within at))
