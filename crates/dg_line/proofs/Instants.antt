-- The instants of a command of many: how they are read one by one, and the most of them that a line may have.
use Rattle.std.proofs.Common.{◌≡◌, ℕ, zero, suc, ◌+◌, ◌-◌, ◌<◌, ◌≤◌, Bool, true, false, cond, nat_le, is_some, Option, Some, None, List, [], ◌∷◌, ◌++◌, length, take, drop, set, codes, replicate, option_and_then, refl, sym, ap, subst, ◌∙◌, arith, length-append}
use Rattle.std.specs.Option.{option_map}
use Rattle.std.proofs.lemmas.Bool.{leb-true, le-leb, lt-leb, false≢true}
use Rattle.std.proofs.lemmas.Fmt.{decimal_digit}
use Rattle.std.proofs.lemmas.List.{append-nil, append_assoc, drop-drop, drop-replicate, drop-set-lt, length-take-le, take-append-drop, take_more_set}
use Rattle.std.proofs.lemmas.Option.{none-some, same_Some}
use Rattle.dg_graph.specs.declared.element.Columns.{Columns}
use Rattle.dg_graph.specs.declared.limits.TheConstants.{TIME_MAX}
use Rattle.dg_text.specs.Words.{words}
use Rattle.dg_line.specs.Tails.{IsInstantsText}
use Rattle.dg_changes.specs.ChangeGrammar.{time_of}
use Rattle.dg_machine.specs.declared.command.Command.{Command}
use Rattle.dg_machine.specs.declared.command.Command.TheVariants as command
use Rattle.dg_machine.specs.declared.command.TheConstants.{TIMES_MAX}
use Rattle.dg_machine.specs.CommandGrammar.{times_of, several_with}
use Rattle.dg_grammar.specs.Symbols.{Terminal, Number}
use Rattle.dg_grammar.proofs.WordNumbers.{number_within}
use Rattle.dg_grammar.proofs.Symbols.{words_both}
use Rattle.dg_line.proofs.Readers.{AreWordsOf, Is, bound}

-- ---- read one by one

-- the words behind a first one are read as these instants and the instants of the words that are left
pub record AreRead (first : ℕ) (ws : List (List ℕ)) (times : List ℕ) (count : ℕ) (left : List (List ℕ)) : Type 0 where
  pub so_far : option_map (λ (ts : List ℕ). first ∷ ts) (times_of ws) ≡ option_map (λ (ts : List ℕ). take count times ++ ts) (times_of left)
  pub behind : drop count times ≡ replicate (TIMES_MAX - count) 0

-- the command of the instants, where they are read
abbrev pub several_by : Columns → Option (List ℕ) → Option Command
several_by cols o = option_and_then (several_with cols) o

-- with the first one before the others
pub with_first : (cols : Columns) (first : ℕ) (o : Option (List ℕ))
    → option_and_then (λ ts. several_with cols (first ∷ ts)) o ≡ several_by cols (option_map (λ (ts : List ℕ). first ∷ ts) o)
with_first cols first None = refl
with_first cols first (Some ts) = refl

pub read_none : (first : ℕ) (ws : List (List ℕ)) → AreRead first ws (set (replicate TIMES_MAX 0) 0 first) 1 ws
read_none first ws = record { so_far = refl; behind = refl }

push_time : (t : ℕ) (front : List ℕ) (o : Option (List ℕ))
    → option_map (λ (ts : List ℕ). front ++ ts) (option_map (λ (ts : List ℕ). t ∷ ts) o) ≡ option_map (λ (ts : List ℕ). (front ++ t ∷ []) ++ ts) o
push_time t front None = refl
push_time t front (Some ts) = ap (λ (l : List ℕ). Some l) (sym (append_assoc front (t ∷ []) ts))

-- the instants of a word and others
one_more : (left rest : List (List ℕ)) (w : List ℕ) (t : ℕ) → left ≡ w ∷ rest → time_of w ≡ Some t
    → times_of left ≡ option_map (λ (ts : List ℕ). t ∷ ts) (times_of rest)
one_more left rest w t is time = ap times_of is ∙ ap (option_and_then (λ (t : ℕ). option_map (λ (ts : List ℕ). t ∷ ts) (times_of rest))) time

-- a word more
pub read_more : (first : ℕ) (ws : List (List ℕ)) (times : List ℕ) (count : ℕ) (left rest : List (List ℕ)) (w : List ℕ) (t : ℕ)
    → length times ≡ TIMES_MAX → count < TIMES_MAX → left ≡ w ∷ rest → time_of w ≡ Some t
    → AreRead first ws times count left → AreRead first ws (set times count t) (count + 1) rest
read_more first ws times count left rest w t size below is time r = record {
  so_far =
      r.so_far ∙ ap (option_map (λ (ts : List ℕ). take count times ++ ts)) (one_more left rest w t is time) ∙ push_time t (take count times) (times_of rest)
      ∙ ap (λ (front : List ℕ). option_map (λ (ts : List ℕ). front ++ ts) (times_of rest)) (sym (take_more_set times count t (omega arith)));
  behind =
      drop-set-lt (count + 1) times count t (omega arith) ∙ sym (drop-drop 1 count times) ∙ ap (drop 1) r.behind
      ∙ drop-replicate 1 (TIMES_MAX - count) 0 ∙ ap (λ (n : ℕ). replicate n 0) (omega arith);
}

too_many : (cols : Columns) (t : ℕ) (front : List ℕ) (o : Option (List ℕ)) → length front ≡ TIMES_MAX
    → several_by cols (option_map (λ (ts : List ℕ). front ++ ts) (option_map (λ (ts : List ℕ). t ∷ ts) o)) ≡ None
too_many cols t front None size = refl
too_many cols t front (Some ts) size =
    let all = front ++ t ∷ ts in
    ap (λ b. cond b (Some (command.Several cols (all ++ replicate (TIMES_MAX - length all) 0) (length all))) None)
    (lt-leb (length all) TIMES_MAX (omega (arith, length-append front (t ∷ ts))))

-- an instant too many
pub read_past : (cols : Columns) (first : ℕ) (ws : List (List ℕ)) (times : List ℕ) (count : ℕ) (left rest : List (List ℕ)) (w : List ℕ) (t : ℕ)
    → length times ≡ TIMES_MAX → count ≡ TIMES_MAX → left ≡ w ∷ rest → time_of w ≡ Some t → AreRead first ws times count left
    → option_and_then (λ ts. several_with cols (first ∷ ts)) (times_of ws) ≡ None
read_past cols first ws times count left rest w t size past is time r =
    with_first cols first (times_of ws) ∙ ap (several_by cols) r.so_far
    ∙ ap (λ o. several_by cols (option_map (λ (ts : List ℕ). take count times ++ ts) o)) (one_more left rest w t is time)
    ∙ too_many cols t (take count times) (times_of rest) (length-take-le count times (omega arith) ∙ past)

-- a word that is no instant
pub read_other : (cols : Columns) (first : ℕ) (ws : List (List ℕ)) (times : List ℕ) (count : ℕ) (left rest : List (List ℕ)) (w : List ℕ)
    → left ≡ w ∷ rest → time_of w ≡ None → AreRead first ws times count left
    → option_and_then (λ ts. several_with cols (first ∷ ts)) (times_of ws) ≡ None
read_other cols first ws times count left rest w is time r =
    with_first cols first (times_of ws) ∙ ap (several_by cols) r.so_far
    ∙ ap (λ (l : List (List ℕ)). several_by cols (option_map (λ (ts : List ℕ). take count times ++ ts) (times_of l))) is
    ∙ ap (λ (o : Option ℕ). several_by cols (option_map (λ (ts : List ℕ). take count times ++ ts) (option_and_then (λ (t : ℕ). option_map (λ (ts : List ℕ). t ∷ ts) (times_of rest)) o))) time

fits : (cols : Columns) (front times : List ℕ) (count : ℕ) → length front ≡ count → count ≤ TIMES_MAX → front ++ replicate (TIMES_MAX - count) 0 ≡ times
    → several_with cols front ≡ Some (command.Several cols times count)
fits cols front times count size few is =
    ap (λ b. cond b (Some (command.Several cols (front ++ replicate (TIMES_MAX - length front) 0) (length front))) None) (le-leb (length front) TIMES_MAX (omega arith))
    ∙ ap (λ (n : ℕ). Some (command.Several cols (front ++ replicate (TIMES_MAX - n) 0) n)) size ∙ ap (λ (l : List ℕ). Some (command.Several cols l count)) is

-- the last one
pub read_all : (cols : Columns) (first : ℕ) (ws : List (List ℕ)) (times : List ℕ) (count : ℕ) (left : List (List ℕ))
    → length times ≡ TIMES_MAX → count ≤ TIMES_MAX → left ≡ [] → AreRead first ws times count left
    → option_and_then (λ ts. several_with cols (first ∷ ts)) (times_of ws) ≡ Some (command.Several cols times count)
read_all cols first ws times count left size few is r =
    with_first cols first (times_of ws) ∙ ap (several_by cols) r.so_far
    ∙ ap (λ (l : List (List ℕ)). several_by cols (option_map (λ (ts : List ℕ). take count times ++ ts) (times_of l))) is
    ∙ ap (several_with cols) (append-nil (take count times))
    ∙ fits cols (take count times) times count (length-take-le count times (omega arith)) few
    (ap (λ (back : List ℕ). take count times ++ back) (sym r.behind) ∙ take-append-drop count times)

-- ---- the row of words

-- so many words `0`
abbrev pub zeros : ℕ → List (List ℕ)
zeros n = replicate n (codes "0")

-- they behind a line
pub zero_text : ℕ → List ℕ
zero_text zero = []
zero_text (suc n) = 32 ∷ 48 ∷ zero_text n

pub no_zeros : (line : List ℕ) → line ≡ line ++ zero_text 0
unfolding zero_text
no_zeros line = sym (append-nil line)

pub zero_words : (n : ℕ) (line : List ℕ) → words (line ++ zero_text n) ≡ words line ++ zeros n
unfolding zero_text
zero_words zero line = ap words (append-nil line) ∙ sym (append-nil (words line))
zero_words (suc n) line = words_both line (48 ∷ zero_text n) ∙ ap (λ (l : List (List ℕ)). words line ++ l) (zero_words n (48 ∷ []))

abbrev pub instant : Terminal
instant = Number 0 TIME_MAX

zeros_only : (n : ℕ) → AreWordsOf (zeros n) (replicate n instant)
zeros_only zero = tt
zeros_only (suc n) =
    (ap is_some (number_within 0 TIME_MAX 0 (codes "0") (omega arith) (sym (decimal_digit 0 (omega arith))) (omega arith) (omega arith)), zeros_only n)

-- a line of the most instants
pub instants_sample : (line : List ℕ) × IsInstantsText line
instants_sample =
    (48 ∷ zero_text 31, subst (λ (ws : List (List ℕ)). AreWordsOf ws (replicate TIMES_MAX instant)) (sym (zero_words 31 (48 ∷ []))) (zeros_only 32))

-- words that are instants, with words `0` behind them, are so many instants
pub filled : (n : ℕ) (ws : List (List ℕ)) → Is (times_of ws) → length ws ≤ n
    → AreWordsOf (ws ++ zeros (n - length ws)) (replicate n instant)
filled n [] h few = subst (λ (k : ℕ). AreWordsOf (zeros k) (replicate n instant)) (let e : n ≡ n - 0 = omega arith in e) (zeros_only n)
filled zero (w ∷ ws) h few = absurd (omega arith)
filled (suc n) (w ∷ ws) h few =
    let parts = bound (λ (t : ℕ). option_map (λ (ts : List ℕ). t ∷ ts) (times_of ws)) (time_of w) h in (
      parts.0,
      subst (λ (k : ℕ). AreWordsOf (ws ++ zeros k) (replicate n instant)) (let e : n - length ws ≡ suc n - length (w ∷ ws) = omega arith in e)
          (filled n ws (mapped parts.1.0 (times_of ws) parts.1.1) (omega arith)),
    )
  where
    mapped : (t : ℕ) (o : Option (List ℕ)) → Is (option_map (λ (ts : List ℕ). t ∷ ts) o) → Is o
    mapped t None h = h
    mapped t (Some ts) h = refl

some_of : {A : Type 0} (o : Option A) → Is o → (x : A) × (o ≡ Some x)
some_of None h = absurd (false≢true h)
some_of (Some x) h = (x, refl)

-- so many words that are instants are read as so many
read_as : (n : ℕ) (ws : List (List ℕ)) → AreWordsOf ws (replicate n instant)
    → (ts : List ℕ) × (times_of ws ≡ Some ts) × (length ts ≡ n)
read_as zero [] h = ([], refl, refl)
read_as (suc n) [] h = absurd h
read_as zero (w ∷ ws) h = absurd h
read_as (suc n) (w ∷ ws) h =
    let t = some_of (time_of w) h.0 in
    let more = read_as n ws h.1 in
    (t.0 ∷ more.0, one_more (w ∷ ws) ws w t.0 refl t.1 ∙ ap (option_map (λ (ts : List ℕ). t.0 ∷ ts)) more.1, ap suc more.2)

-- instants are as many as their words
as_many : (ws : List (List ℕ)) (ts : List ℕ) → times_of ws ≡ Some ts → length ts ≡ length ws
as_many [] ts e = ap length (sym (same_Some [] ts e))
as_many (w ∷ ws) ts e = by_word (time_of w) (times_of ws) (as_many ws) e
  where
    by_word : (o : Option ℕ) (p : Option (List ℕ)) → ((us : List ℕ) → p ≡ Some us → length us ≡ length ws)
        → option_and_then (λ (t : ℕ). option_map (λ (ts : List ℕ). t ∷ ts) p) o ≡ Some ts → length ts ≡ suc (length ws)
    by_word None p many e = absurd (none-some ts e)
    by_word (Some t) None many e = absurd (none-some ts e)
    by_word (Some t) (Some us) many e = ap length (sym (same_Some (t ∷ us) ts e)) ∙ ap suc (many us refl)

-- they are not too many
pub few_enough : (cols : Columns) (ws : List (List ℕ)) → Is (several_by cols (times_of ws)) → Is (times_of ws) × (length ws ≤ TIMES_MAX)
few_enough cols ws h = by_times (times_of ws) (as_many ws) h
  where
    by_size : (b : Bool) (c : Command) → Is (cond b (Some c) None) → b ≡ true
    by_size true c h = refl
    by_size false c h = h

    by_times : (o : Option (List ℕ)) → ((ts : List ℕ) → o ≡ Some ts → length ts ≡ length ws) → Is (several_by cols o) → Is o × (length ws ≤ TIMES_MAX)
    by_times None many h = absurd (false≢true h)
    by_times (Some ts) many h =
        let few = leb-true (length ts) TIMES_MAX (by_size (nat_le (length ts) TIMES_MAX) (command.Several cols (ts ++ replicate (TIMES_MAX - length ts) 0) (length ts)) h) in
        (refl, omega (arith, many ts refl))

-- the most instants are read
pub given : (c : Columns) (ws : List (List ℕ)) → AreWordsOf ws (replicate TIMES_MAX instant) → Is (several_by c (times_of ws))
given c ws h =
    let told = read_as TIMES_MAX ws h in
    let is = ap (several_by c) told.1 ∙ fits c told.0 (told.0 ++ replicate 0 0) TIMES_MAX told.2 (omega arith) refl in
    ap is_some is
