-- The events of the first list, and those behind it.
use Rattle.std.proofs.Common.{◌≡◌, refl, ℕ, zero, suc, ◌+◌, ◌-◌, ◌*◌, ◌/◌, ◌<◌, ◌≤◌, List, ◌++◌, length, take, drop, min, sym, ap, ◌∙◌, arith, append_assoc, add-mul, div-lt_iff_lt-mul, div-mul-le_self, length-append, length-drop, length-take-le, mul-le-mul_right, take-append-drop}
use Rattle.std.proofs.lemmas.List.{drop_at, drop-drop}
use Rattle.dg_graph.specs.declared.event.Event.{Event}
use Rattle.dg_build.proofs.SpelledRecordSegments.{lists_within}

-- the recent events and those of the batch, cut behind the first list
pub record IsCut (l before : ℕ) (recent events first later : List Event) : Type 0 where
  pub is : first ++ later ≡ recent ++ events
  pub long : length first + length later ≡ length recent + length events
  pub full : 1 ≤ (before + length events) / l - before / l → length first ≡ l

is_cut : (l before cut : ℕ) (recent events first later : List Event) → 1 ≤ l → length recent ≡ before - before / l * l → cut ≡ min (l - length recent) (length events)
    → first ≡ recent ++ take cut events → later ≡ drop cut events → IsCut l before recent events first later
is_cut l before cut recent events first later some many cut_is first_is later_is =
    let few : cut ≤ length events = omega (arith, cut_is) in
    let front : length first ≡ length recent + cut = omega (arith, ap (λ (l : List Event). length l) first_is, length-append recent (take cut events), length-take-le cut events few) in
    record {
      is = (λ i. first_is i ++ later_is i) ∙ append_assoc recent (take cut events) (drop cut events) ∙ ap (λ (l : List Event). recent ++ l) (take-append-drop cut events);
      long = omega (arith, front, ap (λ (l : List Event). length l) later_is, length-drop cut events, few);
      full = λ closes.
          let pos : 0 < l = omega (arith, some) in
          let below : before < (before / l + 1) * l = (div-lt_iff_lt-mul pos).0 (let lt : before / l < before / l + 1 = omega arith in lt) in
          let one : 1 * l ≤ ((before + length events) / l - before / l) * l = mul-le-mul_right l closes in
          omega (arith, front, cut_is, many, below, add-mul (before / l) 1 l, one, lists_within l before (length events) some);
    }

-- fewer events stand behind the last list than one has
pub below_list : (l before many : ℕ) → 1 ≤ l → many ≡ before - before / l * l → many < l
below_list l before many some is =
    let pos : 0 < l = omega (arith, some) in
    let below : before < (before / l + 1) * l = (div-lt_iff_lt-mul pos).0 (let lt : before / l < before / l + 1 = omega arith in lt) in
    omega (arith, is, below, add-mul (before / l) 1 l, some)

-- where the batch closes no list, the recent events stand in front of it as they are
short_cut : (l before : ℕ) (recent events first later : List Event) → 1 ≤ l → length recent ≡ before - before / l * l → length recent + length events < l
    → first ≡ recent → later ≡ events → IsCut l before recent events first later
short_cut l before recent events first later some many short first_is later_is =
    let pos : 0 < l = omega (arith, some) in
    let up : before / l * l ≤ before = div-mul-le_self before l in
    let below : before + length events < (before / l + 1) * l = omega (arith, many, short, up, add-mul (before / l) 1 l) in
    let none : (before + length events) / l < before / l + 1 = (div-lt_iff_lt-mul pos).1 below in
    record {
      is = λ i. first_is i ++ later_is i;
      long = omega (arith, ap (λ (l : List Event). length l) first_is, ap (λ (l : List Event). length l) later_is);
      full = λ closes. absurd (omega (arith, closes, none));
    }

-- either of both
pub is_cut_or_short : (l before cut : ℕ) (recent events first later : List Event) → 1 ≤ l → length recent ≡ before - before / l * l
    → (1 ≤ cut → cut ≡ min (l - length recent) (length events)) → (cut ≡ 0 → length recent + length events < l)
    → (1 ≤ cut → first ≡ recent ++ take cut events) → (cut ≡ 0 → first ≡ recent) → later ≡ drop cut events → IsCut l before recent events first later
is_cut_or_short l before zero recent events first later some many full short first_full first_short later_is =
    short_cut l before recent events first later some many (short refl) (first_short refl) later_is
is_cut_or_short l before (suc cut) recent events first later some many full short first_full first_short later_is =
    let one : 1 ≤ suc cut = omega arith in
    is_cut l before (suc cut) recent events first later some many (full one) (first_full one) later_is

-- the list with this index is within them
pub list_within : (l count i first later : ℕ) → i < count → first ≡ l → count * l ≤ first + later → i * l ≤ later
list_within l count i first later lt full long =
    let up : (i + 1) * l ≤ count * l = mul-le-mul_right l (let e : i + 1 ≤ count = omega (arith, lt) in e) in
    omega (arith, up, add-mul i 1 l, full, long)

-- each but the first is cut from the later events
pub later_list : (l i : ℕ) (first later : List Event) → 1 ≤ i → length first ≡ l → take (i * l - (i - 1) * l) (drop ((i - 1) * l) later) ≡ take l (drop (i * l) (first ++ later))
later_list l i first later some full =
    let e : i * l ≡ l + (i - 1) * l = ap (λ n. n * l) (let z : i ≡ 1 + (i - 1) = omega (arith, some) in z) ∙ add-mul 1 (i - 1) l ∙ (let z : 1 * l + (i - 1) * l ≡ l + (i - 1) * l = omega arith in z) in
    (λ j. take (let w : i * l - (i - 1) * l ≡ l = omega (arith, e) in w j) (drop ((i - 1) * l) (sym (drop_at first later l full) j)))
    ∙ ap (take l) (drop-drop ((i - 1) * l) l (first ++ later) ∙ ap (λ n. drop n (first ++ later)) (sym e))
