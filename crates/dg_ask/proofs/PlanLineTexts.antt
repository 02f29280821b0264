-- The text of a plan line reads back as the line, and the text of several is cut into these lines.
use Rattle.std.proofs.Common.{◌≡◌, ℕ, ◌+◌, ◌-◌, ◌*◌, ◌^◌, ◌<◌, ◌≤◌, Bool, true, false, cond, List as ListOf, [], ◌∷◌, ◌++◌, length, map, take, codes, decimal, Some, None, refl, ap, ◌∙◌, append_assoc, arith, length-append}
use Rattle.std.specs.Prelude.{◌==◌, ◌&&◌, if◌then◌else◌, nat_le, nat_lt, option_and_then, slice_index}
use Rattle.std.specs.List.{All, flat_map, join_with_byte, list_all, slice_split}
use Rattle.std.specs.Str.{bytes_eq}
use Rattle.std.specs.Str.Lines.{lines_of_parts, strip_carriage_return}
use Rattle.std.specs.Str.Parse.{digits_value}
use Rattle.std.proofs.lemmas.Bool.{false≢true, le-leb, ltb-true, ne_eqb}
use Rattle.std.proofs.lemmas.Fmt.{decimal_is_IsNumeral, length-decimal-le}
use Rattle.std.proofs.lemmas.List.{get_or_default}
use Rattle.std.proofs.lemmas.List.Elements.{All-append, All-cons, All-head, All-nil, All-tail, All-weaker}
use Rattle.std.proofs.lemmas.List.Splits.{slice_split_at, slice_split_none}
use Rattle.std.proofs.lemmas.Slice.Eq.{bytes_eq-Decides}
use Rattle.std.proofs.lemmas.Str.Parse.{digit_at}
use Rattle.dg_graph.specs.declared.limits.TheConstants.{TIME_MAX}
use Rattle.dg_text.specs.declared.limits.TheConstants.{LINE_BYTES_MAX}
use Rattle.dg_text.specs.Lines.{Long, Text, lines_of, script_line}
use Rattle.dg_text.specs.Verbs.{none_more, one, read_by}
use Rattle.dg_text.specs.Words.{number, words}
use Rattle.dg_history.specs.declared.node.NodeId.{NodeId}
use Rattle.dg_history.specs.declared.node.NodeId.TheVariants.{Root, Now, Recent, Leaf, List, Inner}
use Rattle.dg_changes.specs.ChangeGrammar.{time_of}
use Rattle.dg_machine.specs.declared.reply.BodyLine.{BodyLine}
use Rattle.dg_machine.specs.declared.reply.BodyLine.TheVariants as line
use Rattle.dg_machine.specs.CommandGrammar.{n32_of, node_verbs, plan_line_of, plan_verbs}
use Rattle.dg_machine.specs.ReplyText.{body_words, node_words}
use Rattle.dg_plan.specs.declared.certificate.PlanLine.TheVariants as plan_line

-- ---- numbers

-- the text of a number is read as the number
number_back : (n high : ℕ) → n ≤ high → high < 2 ^ 64 → number 0 high (decimal n) ≡ Some n
number_back n high within small =
    let value : digits_value 10 (decimal n) ≡ n = (decimal_is_IsNumeral n (omega arith)).1 in
    ap (λ k. if bytes_eq (decimal k) (decimal n) && (nat_le 0 k && nat_le k high) then Some k else None) value
    ∙ (λ i. if (bytes_eq-Decides (decimal n) (decimal n)).1 refl i && (le-leb 0 n (omega arith) i && le-leb n high within i) then Some n else None)

-- ---- words

-- each byte of the word is above a space, and it has 20 at the most
abbrev IsWord : ListOf ℕ → Type 0
IsWord word = All (λ b. 32 < b) word × (length word ≤ 20)

abbrev AreWords : ListOf (ListOf ℕ) → Type 0
AreWords [] = Unit {0}
AreWords (w ∷ ws) = IsWord w × AreWords ws

above : (word : ListOf ℕ) → list_all (λ b. nat_lt 32 b) word ≡ true → All (λ b. 32 < b) word
above [] all = All-nil (λ (b : ℕ). 32 < b)
above (b ∷ word) all = by (nat_lt 32 b) refl all (above word)
  where
    by : (c : Bool) → nat_lt 32 b ≡ c → (c && list_all (λ b. nat_lt 32 b) word) ≡ true → (list_all (λ b. nat_lt 32 b) word ≡ true → All (λ b. 32 < b) word) → All (λ b. 32 < b) (b ∷ word)
    by true is all rest = All-cons (λ (b : ℕ). 32 < b) b word (ltb-true 32 b is) (rest all)
    by false is all rest = absurd (false≢true all)

number_is_word : (n : ℕ) → n < 10 ^ 20 → n < 2 ^ 64 → IsWord (decimal n)
number_is_word n short small = (
  λ i d within. (
      let range = digit_at (decimal n) i (decimal_is_IsNumeral n small).0.1 within in
      let same = get_or_default (decimal n) i d 0 within in
      omega arith),
  length-decimal-le 20 n (omega arith) short small,
)

small_number : (n : ℕ) → n < 2 ^ 64 → IsWord (decimal n)
small_number n small = number_is_word n (omega arith) small

unspaced : (word : ListOf ℕ) → All (λ b. 32 < b) word → All (λ b. (b == 32) ≡ false) word
unspaced word h = All-weaker (λ (b : ℕ). 32 < b) (λ b. (b == 32) ≡ false) (λ b high. ne_eqb b 32 (λ e. omega arith)) word h

-- words with a space between each two are read as the words
words_back : (w : ListOf ℕ) (ws : ListOf (ListOf ℕ)) → IsWord w → AreWords ws → words (join_with_byte 32 (w ∷ ws)) ≡ w ∷ ws
words_back w [] h hs = slice_split_none (λ b. b == 32) w (unspaced w h.0)
words_back w (v ∷ ws) h hs = slice_split_at (λ b. b == 32) w 32 (join_with_byte 32 (v ∷ ws)) (unspaced w h.0) refl ∙ ap (λ l. w ∷ l) (words_back v ws hs.0 hs.1)

-- the bytes of a line are no control characters, and no more than a line may have
pub record IsLine (text : ListOf ℕ) : Type 0 where
  pub plain : All (λ b. 31 < b) text
  pub short : length text ≤ LINE_BYTES_MAX

plain_word : (w : ListOf ℕ) → IsWord w → All (λ b. 31 < b) w
plain_word w h = All-weaker (λ (b : ℕ). 32 < b) (λ b. 31 < b) (λ b high. omega arith) w h.0

words_plain : (w : ListOf ℕ) (ws : ListOf (ListOf ℕ)) → IsWord w → AreWords ws → All (λ b. 31 < b) (join_with_byte 32 (w ∷ ws))
words_plain w [] h hs = plain_word w h
words_plain w (v ∷ ws) h hs =
    All-append (λ (b : ℕ). 31 < b) w (32 ∷ join_with_byte 32 (v ∷ ws)) (plain_word w h) (All-cons (λ (b : ℕ). 31 < b) 32 (join_with_byte 32 (v ∷ ws)) (omega arith) (words_plain v ws hs.0 hs.1))

words_short : (w : ListOf ℕ) (ws : ListOf (ListOf ℕ)) → IsWord w → AreWords ws → length (join_with_byte 32 (w ∷ ws)) ≤ 21 * length ws + 20
words_short w [] h hs = let a = h.1 in omega arith
words_short w (v ∷ ws) h hs =
    let a = h.1 in
    let b = words_short v ws hs.0 hs.1 in
    let c = length-append w (32 ∷ join_with_byte 32 (v ∷ ws)) in
    omega arith

words_are_line : (w : ListOf ℕ) (ws : ListOf (ListOf ℕ)) → IsWord w → AreWords ws → length ws ≤ 5 → IsLine (join_with_byte 32 (w ∷ ws))
words_are_line w ws h hs few = record { plain = words_plain w ws h hs; short = (let a = words_short w ws h hs in omega arith) }

-- ---- nodes

-- the numbers of the node have 32 bits
abbrev pub IsWritable : NodeId → Type 0
IsWritable Root = Unit {0}
IsWritable Now = Unit {0}
IsWritable Recent = Unit {0}
IsWritable (Leaf j) = j < 2 ^ 32
IsWritable (List i) = i < 2 ^ 32
IsWritable (Inner h j) = (h < 2 ^ 32) × (j < 2 ^ 32)

n32_back : (n : ℕ) → n < 2 ^ 32 → n32_of (decimal n) ≡ Some n
n32_back n small = number_back n 4294967295 (omega arith) (omega arith)

time_back : (n : ℕ) → n ≤ TIME_MAX → time_of (decimal n) ≡ Some n
time_back n within = number_back n TIME_MAX within (omega arith)

last_back : {A : Type 0} (make : ℕ → A) (n : ℕ) → n ≤ TIME_MAX → one time_of make (decimal n ∷ []) ≡ Some (make n)
last_back make n within = ap (option_and_then (λ v. none_more (make v) [])) (time_back n within)

-- a node and a number behind it
node_back : {A : Type 0} (make : NodeId → ℕ → A) (v : NodeId) (n : ℕ) → IsWritable v → n ≤ TIME_MAX → read_by (node_verbs make) (node_words v ++ decimal n ∷ []) ≡ Some (make v n)
node_back make Root n small within = last_back (make Root) n within
node_back make Now n small within = last_back (make Now) n within
node_back make Recent n small within = last_back (make Recent) n within
node_back make (Leaf j) n small within = ap (option_and_then (λ k. one time_of (make (Leaf k)) (decimal n ∷ []))) (n32_back j small) ∙ last_back (make (Leaf j)) n within
node_back make (List i) n small within = ap (option_and_then (λ k. one time_of (make (List k)) (decimal n ∷ []))) (n32_back i small) ∙ last_back (make (List i)) n within
node_back make (Inner h j) n small within =
    ap (option_and_then (λ g. option_and_then (λ k. one time_of (make (Inner g k)) (decimal n ∷ [])) (n32_of (decimal j)))) (n32_back h small.0)
    ∙ ap (option_and_then (λ k. one time_of (make (Inner h k)) (decimal n ∷ []))) (n32_back j small.1) ∙ last_back (make (Inner h j)) n within

node_are_words : (v : NodeId) (n : ℕ) → IsWritable v → n ≤ TIME_MAX → AreWords (node_words v ++ decimal n ∷ [])
node_are_words Root n small within = ((above (codes "root") refl, omega arith), (small_number n (omega arith), tt))
node_are_words Now n small within = ((above (codes "now") refl, omega arith), (small_number n (omega arith), tt))
node_are_words Recent n small within = ((above (codes "recent") refl, omega arith), (small_number n (omega arith), tt))
node_are_words (Leaf j) n small within = ((above (codes "leaf") refl, omega arith), (small_number j (omega arith), (small_number n (omega arith), tt)))
node_are_words (List i) n small within = ((above (codes "list") refl, omega arith), (small_number i (omega arith), (small_number n (omega arith), tt)))
node_are_words (Inner h j) n small within =
    let a = small.0 in
    let b = small.1 in
    ((above (codes "inner") refl, omega arith), (small_number h (omega arith), (small_number j (omega arith), (small_number n (omega arith), tt))))

few_words : (v : NodeId) (n : ℕ) → length (node_words v ++ decimal n ∷ []) ≤ 4
few_words Root n = omega arith
few_words Now n = omega arith
few_words Recent n = omega arith
few_words (Leaf j) n = omega arith
few_words (List i) n = omega arith
few_words (Inner h j) n = omega arith

-- ---- lines

-- the line of a body, without its line feed
abbrev pub line_text : ListOf (ListOf ℕ) → BodyLine → ListOf ℕ
line_text names l = join_with_byte 32 (body_words names l)

step_word : IsWord (codes "step")
step_word = (above (codes "step") refl, omega arith)

potential_word : IsWord (codes "potential")
potential_word = (above (codes "potential") refl, omega arith)

pub step_back : (names : ListOf (ListOf ℕ)) (i : ℕ) (v : NodeId) (weight : ℕ) → i < 2 ^ 32 → IsWritable v → weight ≤ TIME_MAX → plan_line_of (line_text names (line.Step i v weight)) ≡ Some (plan_line.Step i v weight)
step_back names i v weight small writable within =
    ap (read_by plan_verbs) (words_back (codes "step") (decimal i ∷ (node_words v ++ decimal weight ∷ [])) step_word (small_number i (omega arith), node_are_words v weight writable within))
    ∙ ap (option_and_then (λ e. read_by (node_verbs (λ n w. plan_line.Step e n w)) (node_words v ++ decimal weight ∷ []))) (n32_back i small)
    ∙ node_back (λ n w. plan_line.Step i n w) v weight writable within

pub potential_back : (names : ListOf (ListOf ℕ)) (v : NodeId) (value : ℕ) → IsWritable v → value ≤ TIME_MAX → plan_line_of (line_text names (line.Potential v value)) ≡ Some (plan_line.Potential v value)
potential_back names v value writable within =
    ap (read_by plan_verbs) (words_back (codes "potential") (node_words v ++ decimal value ∷ []) potential_word (node_are_words v value writable within)) ∙ node_back (λ n w. plan_line.Potential n w) v value writable within

pub step_is_line : (names : ListOf (ListOf ℕ)) (i : ℕ) (v : NodeId) (weight : ℕ) → i < 2 ^ 32 → IsWritable v → weight ≤ TIME_MAX → IsLine (line_text names (line.Step i v weight))
step_is_line names i v weight small writable within =
    words_are_line (codes "step") (decimal i ∷ (node_words v ++ decimal weight ∷ [])) step_word (small_number i (omega arith), node_are_words v weight writable within) (let f = few_words v weight in omega arith)

pub potential_is_line : (names : ListOf (ListOf ℕ)) (v : NodeId) (value : ℕ) → IsWritable v → value ≤ TIME_MAX → IsLine (line_text names (line.Potential v value))
potential_is_line names v value writable within =
    words_are_line (codes "potential") (node_words v ++ decimal value ∷ []) potential_word (node_are_words v value writable within) (let f = few_words v value in omega arith)

-- ---- the lines of a text

parts_are_lines : (ts : ListOf (ListOf ℕ)) → All IsLine ts → lines_of_parts (ts ++ [] ∷ []) ≡ ts
parts_are_lines [] are = refl
parts_are_lines (t ∷ ts) are = by ts (All-head IsLine t ts are) (parts_are_lines ts (All-tail IsLine t ts are))
  where
    kept : (x : ListOf ℕ) → All (λ b. 31 < b) x → strip_carriage_return x ≡ x
    kept [] plain = refl
    kept (b ∷ x) plain =
        let high : 31 < slice_index (b ∷ x) (length (b ∷ x) - 1) = plain (length (b ∷ x) - 1) 0 (omega arith) in
        ap (λ c. cond c (take (length (b ∷ x) - 1) (b ∷ x)) (b ∷ x)) (ne_eqb (slice_index (b ∷ x) (length (b ∷ x) - 1)) 13 (λ e. omega arith))

    by : (us : ListOf (ListOf ℕ)) → IsLine t → lines_of_parts (us ++ [] ∷ []) ≡ us → lines_of_parts (t ∷ (us ++ [] ∷ [])) ≡ t ∷ us
    by [] is rest = λ k. kept t is.plain k ∷ []
    by (u ∷ us) is rest = λ k. kept t is.plain k ∷ rest k

text_parts : (ts : ListOf (ListOf ℕ)) → All IsLine ts → slice_split (λ b. b == 10) (flat_map (λ t. t ++ 10 ∷ []) ts) ≡ ts ++ [] ∷ []
text_parts [] are = refl
text_parts (t ∷ ts) are =
    let plain = All-weaker (λ (b : ℕ). 31 < b) (λ b. (b == 10) ≡ false) (λ b high. ne_eqb b 10 (λ e. omega arith)) t (All-head IsLine t ts are).plain in
    ap (slice_split (λ b. b == 10)) (append_assoc t (10 ∷ []) (flat_map (λ t. t ++ 10 ∷ []) ts))
    ∙ slice_split_at (λ b. b == 10) t 10 (flat_map (λ t. t ++ 10 ∷ []) ts) plain refl
    ∙ ap (λ l. t ∷ l) (text_parts ts (All-tail IsLine t ts are))

script_lines : (ts : ListOf (ListOf ℕ)) → All IsLine ts → map script_line ts ≡ map (λ t. Text t) ts
script_lines [] are = refl
script_lines (t ∷ ts) are =
    λ k. cond (le-leb (length t) LINE_BYTES_MAX (All-head IsLine t ts are).short k) (Text t) Long ∷ script_lines ts (All-tail IsLine t ts are) k

-- texts, each with a line feed behind it, are cut into these texts
pub texts_are_lines : (ts : ListOf (ListOf ℕ)) → All IsLine ts → lines_of (flat_map (λ t. t ++ 10 ∷ []) ts) ≡ map (λ t. Text t) ts
texts_are_lines ts are = ap (λ parts. map script_line (lines_of_parts parts)) (text_parts ts are) ∙ ap (map script_line) (parts_are_lines ts are) ∙ script_lines ts are
