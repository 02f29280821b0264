-- The script that makes a history is cut into its lines.
use Rattle.std.proofs.Common.{◌≡◌, ℕ, ◌+◌, ◌-◌, ◌*◌, ◌^◌, ◌<◌, ◌≤◌, Bool, true, false, cond, List, [], ◌∷◌, ◌++◌, length, map, take, codes, decimal, Some, None, refl, sym, ap, ◌∙◌, append_assoc, arith, length-append}
use Rattle.std.specs.Prelude.{◌==◌, ◌||◌, if◌then◌else◌, nat_le, nat_lt, slice_index, IsTrue}
use Rattle.std.specs.List.{All, join_with_byte, list_all, list_any, slice_split}
use Rattle.std.specs.Str.Lines.{lines_of_parts, strip_carriage_return}
use Rattle.std.proofs.lemmas.Bool.{and_parts, false≢true, le-leb, leb-true, ne_eqb, not-true}
use Rattle.std.proofs.lemmas.Fmt.{length-decimal-le}
use Rattle.std.proofs.lemmas.List.Elements.{All-append, All-cons, All-head, All-nil, All-tail, All-weaker}
use Rattle.std.proofs.lemmas.List.Splits.{slice_split_at}
use Rattle.std.proofs.lemmas.Option.{slice_get-get_or}
use Rattle.dg_graph.specs.declared.event.Body.{Body}
use Rattle.dg_graph.specs.declared.event.Body.TheVariants as body
use Rattle.dg_graph.specs.declared.event.Event.{Event}
use Rattle.dg_graph.specs.declared.limits.TheConstants.{TIME_MAX}
use Rattle.dg_graph.specs.Completion.{has_key}
use Rattle.dg_text.specs.declared.limits.TheConstants.{KEY_BYTES_MAX, LINE_BYTES_MAX, NAME_BYTES_MAX}
use Rattle.dg_text.specs.Lines.{Long, Text, lines_of, script_line}
use Rattle.dg_text.specs.Names.{are_new, is_key, is_name, name_text}
use Rattle.dg_history.specs.LegalHistory.{FitsBody, FitsEvent}
use Rattle.dg_dump.specs.ScriptOfHistory.{change_words, event_line, text_of_lines}
use Rattle.dg_dump.proofs.LinesBack.{IsWord, above, number_is_word}
use Rattle.dg_dump.proofs.NameNumbers.{new_is_name}

-- ---- lines

-- the byte ends no line
abbrev pub IsPlain : ℕ → Type 0
IsPlain b = (b == 10 || b == 13) ≡ false

-- no byte of the text ends a line, and it is shorter than a line may be
pub record IsLine (text : List ℕ) : Type 0 where
  pub plain : All IsPlain text
  pub short : length text ≤ 1400

no_feed : (b : ℕ) → IsPlain b → (b == 10) ≡ false
no_feed b h = by (b == 10) h
  where
    by : (x : Bool) → (x || b == 13) ≡ false → x ≡ false
    by true e = absurd (false≢true (sym e))
    by false e = refl

no_return : (b : ℕ) → IsPlain b → (b == 13) ≡ false
no_return b h = by (b == 10) h
  where
    by : (x : Bool) → (x || b == 13) ≡ false → (b == 13) ≡ false
    by true e = absurd (false≢true (sym e))
    by false e = e

parts_are_lines : (ts : List (List ℕ)) → All IsLine ts → lines_of_parts (ts ++ [] ∷ []) ≡ ts
parts_are_lines [] are = refl
parts_are_lines (t ∷ ts) are = by ts (All-head IsLine t ts are) (parts_are_lines ts (All-tail IsLine t ts are))
  where
    kept : (x : List ℕ) → All IsPlain x → strip_carriage_return x ≡ x
    kept [] plain = refl
    kept (b ∷ x) plain =
        let last : IsPlain (slice_index (b ∷ x) (length (b ∷ x) - 1)) = plain (length (b ∷ x) - 1) 0 (omega arith) in
        ap (λ c. cond c (take (length (b ∷ x) - 1) (b ∷ x)) (b ∷ x)) (no_return (slice_index (b ∷ x) (length (b ∷ x) - 1)) last)

    by : (us : List (List ℕ)) → IsLine t → lines_of_parts (us ++ [] ∷ []) ≡ us → lines_of_parts (t ∷ (us ++ [] ∷ [])) ≡ t ∷ us
    by [] is rest = λ k. kept t is.plain k ∷ []
    by (u ∷ us) is rest = λ k. kept t is.plain k ∷ rest k

text_parts : (ts : List (List ℕ)) → All IsLine ts → slice_split (λ b. b == 10) (text_of_lines ts) ≡ ts ++ [] ∷ []
text_parts [] are = refl
text_parts (t ∷ ts) are =
    let plain = All-weaker IsPlain (λ b. (b == 10) ≡ false) no_feed t (All-head IsLine t ts are).plain in
    ap (slice_split (λ b. b == 10)) (append_assoc t (10 ∷ []) (text_of_lines ts))
    ∙ slice_split_at (λ b. b == 10) t 10 (text_of_lines ts) plain refl
    ∙ ap (λ l. t ∷ l) (text_parts ts (All-tail IsLine t ts are))

script_lines : (ts : List (List ℕ)) → All IsLine ts → map script_line ts ≡ map (λ t. Text t) ts
script_lines [] are = refl
script_lines (t ∷ ts) are =
    λ k. cond (le-leb (length t) LINE_BYTES_MAX (let h = (All-head IsLine t ts are).short in omega arith) k) (Text t) Long ∷ script_lines ts (All-tail IsLine t ts are) k

-- lines, each with a line feed behind it, are cut into these lines
pub text_lines : (ts : List (List ℕ)) → All IsLine ts → lines_of (text_of_lines ts) ≡ map (λ t. Text t) ts
text_lines ts are = ap (λ parts. map script_line (lines_of_parts parts)) (text_parts ts are) ∙ ap (map script_line) (parts_are_lines ts are) ∙ script_lines ts are

-- ---- words and a text behind them

-- words of no more bytes than a key may have
abbrev AreShort : List (List ℕ) → Type 0
AreShort [] = Unit {0}
AreShort (w ∷ ws) = (IsWord w × (length w ≤ 64)) × AreShort ws

plain_word : (w : List ℕ) → IsWord w → All IsPlain w
plain_word w h = All-weaker (λ (b : ℕ). 32 < b) IsPlain high w h
  where
    high : (b : ℕ) → 32 < b → IsPlain b
    high b above = λ i. ne_eqb b 10 (λ e. omega arith) i || ne_eqb b 13 (λ e. omega arith) i

plain_name : (text : List ℕ) → list_any (λ b. b == 10 || b == 13) text ≡ false → All IsPlain text
plain_name [] e = All-nil IsPlain
plain_name (b ∷ text) e = All-cons IsPlain b text (here (b == 10 || b == 13) e) (plain_name text (later (b == 10 || b == 13) e))
  where
    here : (x : Bool) → (x || list_any (λ b. b == 10 || b == 13) text) ≡ false → x ≡ false
    here true e = absurd (false≢true (sym e))
    here false e = refl

    later : (x : Bool) → (x || list_any (λ b. b == 10 || b == 13) text) ≡ false → list_any (λ b. b == 10 || b == 13) text ≡ false
    later true e = absurd (false≢true (sym e))
    later false e = e

joined_plain : (ws : List (List ℕ)) (text : List ℕ) → AreShort ws → All IsPlain text → All IsPlain (join_with_byte 32 (ws ++ text ∷ []))
joined_plain [] text h plain = plain
joined_plain (w ∷ []) text h plain = All-append IsPlain w (32 ∷ text) (plain_word w h.0.0) (All-cons IsPlain 32 text refl plain)
joined_plain (w ∷ v ∷ ws) text h plain =
    let more = join_with_byte 32 (v ∷ ws ++ text ∷ []) in
    All-append IsPlain w (32 ∷ more) (plain_word w h.0.0) (All-cons IsPlain 32 more refl (joined_plain (v ∷ ws) text h.1 plain))

joined_short : (ws : List (List ℕ)) (text : List ℕ) → AreShort ws → length (join_with_byte 32 (ws ++ text ∷ [])) ≤ 65 * length ws + length text
joined_short [] text h = omega arith
joined_short (w ∷ []) text h = let a = h.0.1 in let b = length-append w (32 ∷ text) in omega arith
joined_short (w ∷ v ∷ ws) text h =
    let a = h.0.1 in
    let b = joined_short (v ∷ ws) text h.1 in
    let c = length-append w (32 ∷ join_with_byte 32 (v ∷ ws ++ text ∷ [])) in
    omega arith

-- a few words and a text that may be a name
joined_line : (ws : List (List ℕ)) (text : List ℕ) → AreShort ws → length ws ≤ 5 → All IsPlain text → length text ≤ 1024 → IsLine (join_with_byte 32 (ws ++ text ∷ []))
joined_line ws text h few plain short =
    record { plain = joined_plain ws text h plain; short = (let a = joined_short ws text h in omega arith) }

number_short : (n : ℕ) → n < 2 ^ 64 → IsWord (decimal n) × (length (decimal n) ≤ 64)
number_short n small = (number_is_word n small, (let a = length-decimal-le 20 n (omega arith) (omega arith) small in omega arith))

short_name : (text : List ℕ) → is_name text ≡ true → (All IsPlain text) × (length text ≤ 1024)
short_name text is =
    let parts = and_parts (nat_le (length text) NAME_BYTES_MAX) _ is in
    (plain_name text (not-true (list_any (λ b. b == 10 || b == 13) text) parts.1), (let a = leb-true (length text) NAME_BYTES_MAX parts.0 in omega arith))

short_key : (key : List ℕ) → is_key key ≡ true → IsWord key × (length key ≤ 64)
short_key key is =
    let parts = and_parts (nat_le 1 (length key)) _ is in
    let more = and_parts (nat_le (length key) KEY_BYTES_MAX) (list_all (λ b. nat_lt 32 b) key) parts.1 in
    (above key more.1, (let a = leb-true (length key) KEY_BYTES_MAX more.0 in omega arith))

-- a line whose last word is a number, or a key
word_line : (ws : List (List ℕ)) (last : List ℕ) → AreShort ws → length ws ≤ 5 → IsWord last × (length last ≤ 64) → IsLine (join_with_byte 32 (ws ++ last ∷ []))
word_line ws last h few is = joined_line ws last h few (plain_word last is.0) (let a = is.1 in omega arith)

verb_short : (verb : List ℕ) → list_all (λ b. nat_lt 32 b) verb ≡ true → length verb ≤ 12 → IsWord verb × (length verb ≤ 64)
verb_short verb is short = (above verb is, omega arith)

-- ---- the lines of a script

pub batch_command_line : (verb : List ℕ) (count : ℕ) → list_all (λ b. nat_lt 32 b) verb ≡ true → length verb ≤ 12 → count < 2 ^ 64 → IsLine (join_with_byte 32 (verb ∷ decimal count ∷ []))
batch_command_line verb count is short small = word_line (verb ∷ []) (decimal count) (verb_short verb is short, tt) (omega arith) (number_short count small)

name_at : (names : List (List ℕ)) (n : ℕ) → are_new [] names ≡ true → n < length names → is_name (name_text names n) ≡ true
name_at names n new within = new_is_name [] names new n (name_text names n) (slice_get-get_or names n [] within)

module _ (time : ℕ) (in_time : time ≤ TIME_MAX) (names : List (List ℕ)) (new : are_new [] names ≡ true) where
  time_short : IsWord (decimal time) × (length (decimal time) ≤ 64)
  time_short = number_short time (omega arith)

  id_line : (verb : List ℕ) (id : ℕ) → list_all (λ b. nat_lt 32 b) verb ≡ true → length verb ≤ 12 → id < 2 ^ 64 → IsLine (join_with_byte 32 (decimal time ∷ verb ∷ decimal id ∷ []))
  id_line verb id is short small = word_line (decimal time ∷ verb ∷ []) (decimal id) (time_short, (verb_short verb is short, tt)) (omega arith) (number_short id small)

  setting_line : (verb : List ℕ) (id : ℕ) (key value : List ℕ) → list_all (λ b. nat_lt 32 b) verb ≡ true → length verb ≤ 12 → id < 2 ^ 64 → is_key key ≡ true → is_name value ≡ true
      → IsLine (join_with_byte 32 (decimal time ∷ verb ∷ decimal id ∷ key ∷ value ∷ []))
  setting_line verb id key value is short small k v =
      joined_line (decimal time ∷ verb ∷ decimal id ∷ key ∷ []) value (time_short, (verb_short verb is short, (number_short id small, (short_key key k, tt)))) (omega arith)
      (short_name value v).0 (short_name value v).1

  unset_line : (verb : List ℕ) (id : ℕ) (key : List ℕ) → list_all (λ b. nat_lt 32 b) verb ≡ true → length verb ≤ 12 → id < 2 ^ 64 → is_key key ≡ true
      → IsLine (join_with_byte 32 (decimal time ∷ verb ∷ decimal id ∷ key ∷ []))
  unset_line verb id key is short small k =
      word_line (decimal time ∷ verb ∷ decimal id ∷ []) key (time_short, (verb_short verb is short, (number_short id small, tt))) (omega arith) (short_key key k)

  direction_line : (directed : Bool) → IsWord (if directed then codes "dir" else codes "undir") × (length (if directed then codes "dir" else codes "undir") ≤ 64)
  direction_line true = verb_short (codes "dir") refl (omega arith)
  direction_line false = verb_short (codes "undir") refl (omega arith)

  change_line : (b : Body) → FitsBody (length names) b → IsTrue (has_key names b) → IsLine (join_with_byte 32 (decimal time ∷ change_words names b))
  change_line (body.NodeAdded id) fits key = id_line (codes "+node") id refl (omega arith) fits
  change_line (body.NodeRemoved id) fits key = id_line (codes "-node") id refl (omega arith) fits
  change_line (body.EdgeAdded directed id src dst) fits key =
      word_line (decimal time ∷ codes "+edge" ∷ decimal id ∷ decimal src ∷ decimal dst ∷ []) (if directed then codes "dir" else codes "undir")
      (time_short, (verb_short (codes "+edge") refl (omega arith), (number_short id fits.0, (number_short src fits.1, (number_short dst fits.2, tt))))) (omega arith) (direction_line directed)
  change_line (body.EdgeRemoved directed id src dst) fits key = id_line (codes "-edge") id refl (omega arith) fits.0
  change_line (body.NodeAttr k id old (Some v)) fits key =
      setting_line (codes "nset") id (name_text names k) (name_text names v) refl (omega arith) fits.0 key (name_at names v new fits.3)
  change_line (body.NodeAttr k id old None) fits key = unset_line (codes "ndel") id (name_text names k) refl (omega arith) fits.0 key
  change_line (body.EdgeAttr k id old (Some v)) fits key =
      setting_line (codes "eset") id (name_text names k) (name_text names v) refl (omega arith) fits.0 key (name_at names v new fits.3)
  change_line (body.EdgeAttr k id old None) fits key = unset_line (codes "edel") id (name_text names k) refl (omega arith) fits.0 key
  change_line (body.Message src dst v) fits key =
      joined_line (decimal time ∷ codes "msg" ∷ decimal src ∷ decimal dst ∷ []) (name_text names v)
      (time_short, (verb_short (codes "msg") refl (omega arith), (number_short src fits.0, (number_short dst fits.1, tt)))) (omega arith)
      (short_name (name_text names v) (name_at names v new fits.2)).0 (short_name (name_text names v) (name_at names v new fits.2)).1

pub event_is_line : (names : List (List ℕ)) (new : are_new [] names ≡ true) (e : Event) → FitsEvent (length names) e → IsTrue (has_key names e.body) → IsLine (event_line names e)
event_is_line names new e fits key = change_line e.time fits.0 names new e.body fits.1 key

pub events_are_lines : (names : List (List ℕ)) (new : are_new [] names ≡ true) (events : List Event) → All (FitsEvent (length names)) events
    → All (λ (e : Event). IsTrue (has_key names e.body)) events → All IsLine (map (event_line names) events)
events_are_lines names new [] fits keys = All-nil IsLine
events_are_lines names new (e ∷ events) fits keys =
    All-cons IsLine (event_line names e) (map (event_line names) events)
    (event_is_line names new e (All-head (FitsEvent (length names)) e events fits) (All-head (λ (e : Event). IsTrue (has_key names e.body)) e events keys))
    (events_are_lines names new events (All-tail (FitsEvent (length names)) e events fits) (All-tail (λ (e : Event). IsTrue (has_key names e.body)) e events keys))

-- the words of a command that makes an index, the last of which is a function or a share
pub create_is_line : (l k : ℕ) (last : List ℕ) → l < 2 ^ 64 → k < 2 ^ 64 → list_all (λ b. nat_lt 32 b) last ≡ true → length last ≤ 12
    → IsLine (join_with_byte 32 (codes "create" ∷ decimal l ∷ decimal k ∷ last ∷ []))
create_is_line l k last a b is short =
    word_line (codes "create" ∷ decimal l ∷ decimal k ∷ []) last (verb_short (codes "create") refl (omega arith), (number_short l a, (number_short k b, tt))) (omega arith) (verb_short last is short)

pub skewed_is_line : (l k r : ℕ) → l < 2 ^ 64 → k < 2 ^ 64 → r < 2 ^ 64 → IsLine (join_with_byte 32 (codes "create" ∷ decimal l ∷ decimal k ∷ codes "skewed" ∷ decimal r ∷ []))
skewed_is_line l k r a b c =
    word_line (codes "create" ∷ decimal l ∷ decimal k ∷ codes "skewed" ∷ []) (decimal r)
    (verb_short (codes "create") refl (omega arith), (number_short l a, (number_short k b, (verb_short (codes "skewed") refl (omega arith), tt)))) (omega arith) (number_short r c)

-- ---- how long a script is

pub text_short : (ts : List (List ℕ)) → All IsLine ts → length (text_of_lines ts) ≤ 1401 * length ts
text_short [] are = omega arith
text_short (t ∷ ts) are =
    let here = (All-head IsLine t ts are).short in
    let rest = text_short ts (All-tail IsLine t ts are) in
    let a = length-append (t ++ 10 ∷ []) (text_of_lines ts) in
    let b = length-append t (10 ∷ []) in
    omega arith
