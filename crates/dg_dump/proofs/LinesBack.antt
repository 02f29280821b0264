-- The line of an event reads back as what the event's change says.
use Rattle.std.proofs.Common.{◌≡◌, ℕ, ◌^◌, ◌<◌, ◌≤◌, Bool, true, false, List, [], ◌∷◌, ◌++◌, length, codes, decimal, Some, None, refl, ap, ◌∙◌, arith}
use Rattle.std.specs.Prelude.{◌==◌, ◌&&◌, if◌then◌else◌, nat_le, nat_lt, option_and_then, IsTrue}
use Rattle.std.specs.List.{All, join_with_byte, list_all}
use Rattle.std.specs.Option.{option_map}
use Rattle.std.specs.Str.{bytes_eq}
use Rattle.std.specs.Str.Parse.{digits_value}
use Rattle.std.proofs.lemmas.Bool.{and_parts, le-leb, ltb-true, ne_eqb}
use Rattle.std.proofs.lemmas.Fmt.{decimal_is_IsNumeral}
use Rattle.std.proofs.lemmas.List.{get_or_default}
use Rattle.std.proofs.lemmas.List.Elements.{All-cons, All-nil, All-weaker}
use Rattle.std.proofs.lemmas.List.Splits.{join_with_byte-slice_split, length-slice_split, slice_split_at, slice_split_none}
use Rattle.std.proofs.lemmas.Option.{slice_get-get_or}
use Rattle.std.proofs.lemmas.Slice.Eq.{bytes_eq-Decides}
use Rattle.std.proofs.lemmas.Str.Parse.{digit_at}
use Rattle.dg_graph.specs.declared.event.Body.{Body}
use Rattle.dg_graph.specs.declared.event.Body.TheVariants as body
use Rattle.dg_graph.specs.declared.event.What.{What}
use Rattle.dg_graph.specs.declared.event.What.TheVariants as what
use Rattle.dg_graph.specs.declared.limits.TheConstants.{TIME_MAX}
use Rattle.dg_graph.specs.Completion.{has_key}
use Rattle.dg_text.specs.Names.{are_new, is_key, is_name, name_text}
use Rattle.dg_text.specs.Verbs.{none_more}
use Rattle.dg_text.specs.Words.{number, words}
use Rattle.dg_changes.specs.ChangeGrammar.{WhatByText, Plain, Sets_node, Unsets_node, Sets_edge, Unsets_edge, Sends, change_by_text_of, change_by_text_of_words, direction_of, id_of, key_text_of, new_edge, one_id, sending_of, setting_of, time_of, unset_of, value_text_of, what_by_text_of}
use Rattle.dg_history.specs.LegalHistory.{FitsBody}
use Rattle.dg_dump.specs.DumpLaws.{LinesReadBack}
use Rattle.dg_dump.specs.NamesOfLines.{asked_by}
use Rattle.dg_dump.specs.ScriptOfHistory.{change_words}
use Rattle.dg_dump.proofs.NameNumbers.{new_is_name}

-- ---- numbers

-- the text of a number is read as the number
pub number_back : (n low high : ℕ) → low ≤ n → n ≤ high → high < 2 ^ 64 → number low high (decimal n) ≡ Some n
number_back n low high above within small =
    let value : digits_value 10 (decimal n) ≡ n = (decimal_is_IsNumeral n (omega arith)).1 in
    ap (λ k. if bytes_eq (decimal k) (decimal n) && (nat_le low k && nat_le k high) then Some k else None) value
    ∙ (λ i. if (bytes_eq-Decides (decimal n) (decimal n)).1 refl i && (le-leb low n above i && le-leb n high within i) then Some n else None)

id_back : (n : ℕ) → n < 2 ^ 64 → id_of (decimal n) ≡ Some n
id_back n small = number_back n 0 18446744073709551615 (omega arith) (omega arith) (omega arith)

time_back : (n : ℕ) → n ≤ TIME_MAX → time_of (decimal n) ≡ Some n
time_back n within = number_back n 0 TIME_MAX (omega arith) within (omega arith)

-- ---- words

-- each byte of the word is above a space
abbrev pub IsWord : List ℕ → Type 0
IsWord word = All (λ b. 32 < b) word

abbrev pub AreWords : List (List ℕ) → Type 0
AreWords [] = Unit {0}
AreWords (w ∷ ws) = IsWord w × AreWords ws

pub above : (word : List ℕ) → list_all (λ b. nat_lt 32 b) word ≡ true → IsWord word
above [] all = All-nil (λ (b : ℕ). 32 < b)
above (b ∷ word) all =
    let parts = and_parts (nat_lt 32 b) (list_all (λ b. nat_lt 32 b) word) all in
    All-cons (λ (b : ℕ). 32 < b) b word (ltb-true 32 b parts.0) (above word parts.1)

pub number_is_word : (n : ℕ) → n < 2 ^ 64 → IsWord (decimal n)
number_is_word n small =
    λ i d within.
    (let range = digit_at (decimal n) i (decimal_is_IsNumeral n small).0.1 within in
    let same = get_or_default (decimal n) i d 0 within in
    omega arith)

unspaced : (word : List ℕ) → IsWord word → All (λ b. (b == 32) ≡ false) word
unspaced word h = All-weaker (λ (b : ℕ). 32 < b) (λ b. (b == 32) ≡ false) (λ b high. ne_eqb b 32 (λ e. omega arith)) word h

-- Words, and a text behind them, are read as the words and those of the text.
pub words_back : (ws : List (List ℕ)) (text : List ℕ) → AreWords ws → words (join_with_byte 32 (ws ++ text ∷ [])) ≡ ws ++ words text
words_back [] text h = refl
words_back (w ∷ []) text h = slice_split_at (λ b. b == 32) w 32 text (unspaced w h.0) refl
words_back (w ∷ v ∷ ws) text h =
    slice_split_at (λ b. b == 32) w 32 (join_with_byte 32 (v ∷ ws ++ text ∷ [])) (unspaced w h.0) refl ∙ ap (λ l. w ∷ l) (words_back (v ∷ ws) text h.1)

-- the last may be a word
pub word_back : (ws : List (List ℕ)) (last : List ℕ) → AreWords ws → IsWord last → words (join_with_byte 32 (ws ++ last ∷ [])) ≡ ws ++ last ∷ []
word_back ws last h is = words_back ws last h ∙ ap (λ l. ws ++ l) (slice_split_none (λ b. b == 32) last (unspaced last is))

-- ---- keys and values

key_is_word : (key : List ℕ) → is_key key ≡ true → IsWord key
key_is_word key is = above key (and_parts _ (list_all (λ b. nat_lt 32 b) key) (and_parts _ _ is).1).1

key_back : (key : List ℕ) → is_key key ≡ true → key_text_of key ≡ Some key
key_back key is = ap (λ b. if b then Some key else None) is

value_back : (text : List ℕ) → is_name text ≡ true → value_text_of text ≡ Some text
value_back text is = ap (λ b. if b then Some text else None) is

-- a line's words from its third on are those of the value, of which there is one at least
setting_back : (make : ℕ → List ℕ → List ℕ → WhatByText) (id : ℕ) (key value : List ℕ) → id < 2 ^ 64 → is_key key ≡ true → is_name value ≡ true
    → setting_of make (decimal id ∷ key ∷ words value) ≡ Some (make id key value)
setting_back make id key value small is name = by (words value) (let some = length-slice_split (λ b. b == 32) value in omega arith) (join_with_byte-slice_split 32 value)
  where
    by : (parts : List (List ℕ)) → 1 ≤ length parts → join_with_byte 32 parts ≡ value → setting_of make (decimal id ∷ key ∷ parts) ≡ Some (make id key value)
    by [] some e = absurd (omega arith)
    by (word ∷ more) some e =
        ap (λ t. option_and_then (λ n. option_and_then (λ k. option_map (λ v. make n k v) (value_text_of t)) (key_text_of key)) (id_of (decimal id))) e
        ∙ (λ i. option_and_then (λ n. option_and_then (λ k. option_map (λ v. make n k v) (value_back value name i)) (key_back key is i)) (id_back id small i))

sending_back : (src dst : ℕ) (value : List ℕ) → src < 2 ^ 64 → dst < 2 ^ 64 → is_name value ≡ true
    → sending_of (decimal src ∷ decimal dst ∷ words value) ≡ Some (Sends src dst value)
sending_back src dst value a b name = by (words value) (let some = length-slice_split (λ b. b == 32) value in omega arith) (join_with_byte-slice_split 32 value)
  where
    by : (parts : List (List ℕ)) → 1 ≤ length parts → join_with_byte 32 parts ≡ value → sending_of (decimal src ∷ decimal dst ∷ parts) ≡ Some (Sends src dst value)
    by [] some e = absurd (omega arith)
    by (word ∷ more) some e =
        ap (λ t. option_and_then (λ a. option_and_then (λ b. option_map (λ v. Sends a b v) (value_text_of t)) (id_of (decimal dst))) (id_of (decimal src))) e
        ∙ (λ i. option_and_then (λ a. option_and_then (λ b. option_map (λ v. Sends a b v) (value_back value name i)) (id_back dst b i)) (id_back src a i))

unset_back : (make : ℕ → List ℕ → WhatByText) (id : ℕ) (key : List ℕ) → id < 2 ^ 64 → is_key key ≡ true → unset_of make (decimal id ∷ key ∷ []) ≡ Some (make id key)
unset_back make id key small is = λ i. option_and_then (λ n. option_and_then (λ k. none_more (make n k) []) (key_back key is i)) (id_back id small i)

one_back : (make : ℕ → What) (id : ℕ) → id < 2 ^ 64 → one_id make (decimal id ∷ []) ≡ Some (Plain (make id))
one_back make id small = ap (option_and_then (λ n. none_more (Plain (make n)) [])) (id_back id small)

abbrev direction_word : Bool → List ℕ
direction_word directed = if directed then codes "dir" else codes "undir"

direction_back : (directed : Bool) → direction_of (direction_word directed) ≡ Some directed
direction_back true = refl
direction_back false = refl

direction_is_word : (directed : Bool) → IsWord (direction_word directed)
direction_is_word true = above (codes "dir") refl
direction_is_word false = above (codes "undir") refl

edge_back : (directed : Bool) (id src dst : ℕ) → id < 2 ^ 64 → src < 2 ^ 64 → dst < 2 ^ 64
    → new_edge (decimal id ∷ decimal src ∷ decimal dst ∷ direction_word directed ∷ []) ≡ Some (Plain (what.AddEdge directed id src dst))
edge_back directed id src dst a b c =
    λ i. option_and_then (λ n. option_and_then (λ s. option_and_then (λ d. option_and_then (λ w. none_more (Plain (what.AddEdge w n s d)) []) (direction_back directed i)) (id_back dst c i)) (id_back src b i)) (id_back id a i)

-- ---- lines

name_at : (names : List (List ℕ)) (n : ℕ) → are_new [] names ≡ true → n < length names → is_name (name_text names n) ≡ true
name_at names n new within = new_is_name [] names new n (name_text names n) (slice_get-get_or names n [] within)

-- the words of a change, read from the line behind an instant
module _ (time : ℕ) (in_time : time ≤ TIME_MAX) where
  time_word : IsWord (decimal time)
  time_word = number_is_word time (omega arith)

  said : (pieces : List (List ℕ)) (ws : List (List ℕ)) (asked : WhatByText) → words (join_with_byte 32 (decimal time ∷ pieces)) ≡ decimal time ∷ ws
      → what_by_text_of ws ≡ Some asked → change_by_text_of (join_with_byte 32 (decimal time ∷ pieces)) ≡ Some (record { time = time; asked = asked })
  said pieces ws asked is reads =
      ap change_by_text_of_words is
      ∙ (λ i. option_and_then (λ t. option_map (λ a. record { time = t; asked = a }) (reads i)) (time_back time in_time i))

  one_id_said : (verb : List ℕ) (id : ℕ) (make : ℕ → What) → IsWord verb → id < 2 ^ 64
      → (what_by_text_of (verb ∷ decimal id ∷ []) ≡ one_id make (decimal id ∷ []))
      → change_by_text_of (join_with_byte 32 (decimal time ∷ verb ∷ decimal id ∷ [])) ≡ Some (record { time = time; asked = Plain (make id) })
  one_id_said verb id make w small table =
      said (verb ∷ decimal id ∷ []) (verb ∷ decimal id ∷ []) (Plain (make id)) (word_back (decimal time ∷ verb ∷ []) (decimal id) (time_word, (w, tt)) (number_is_word id small))
      (table ∙ one_back make id small)

  setting_said : (verb : List ℕ) (id : ℕ) (key value : List ℕ) (make : ℕ → List ℕ → List ℕ → WhatByText) → IsWord verb → id < 2 ^ 64 → is_key key ≡ true → is_name value ≡ true
      → (what_by_text_of (verb ∷ decimal id ∷ key ∷ words value) ≡ setting_of make (decimal id ∷ key ∷ words value))
      → change_by_text_of (join_with_byte 32 (decimal time ∷ verb ∷ decimal id ∷ key ∷ value ∷ [])) ≡ Some (record { time = time; asked = make id key value })
  setting_said verb id key value make w small is name table =
      said (verb ∷ decimal id ∷ key ∷ value ∷ []) (verb ∷ decimal id ∷ key ∷ words value) (make id key value)
      (words_back (decimal time ∷ verb ∷ decimal id ∷ key ∷ []) value (time_word, (w, (number_is_word id small, (key_is_word key is, tt)))))
      (table ∙ setting_back make id key value small is name)

  unset_said : (verb : List ℕ) (id : ℕ) (key : List ℕ) (make : ℕ → List ℕ → WhatByText) → IsWord verb → id < 2 ^ 64 → is_key key ≡ true
      → (what_by_text_of (verb ∷ decimal id ∷ key ∷ []) ≡ unset_of make (decimal id ∷ key ∷ []))
      → change_by_text_of (join_with_byte 32 (decimal time ∷ verb ∷ decimal id ∷ key ∷ [])) ≡ Some (record { time = time; asked = make id key })
  unset_said verb id key make w small is table =
      said (verb ∷ decimal id ∷ key ∷ []) (verb ∷ decimal id ∷ key ∷ []) (make id key)
      (word_back (decimal time ∷ verb ∷ decimal id ∷ []) key (time_word, (w, (number_is_word id small, tt))) (key_is_word key is))
      (table ∙ unset_back make id key small is)

  body_back : (names : List (List ℕ)) (b : Body) → are_new [] names ≡ true → FitsBody (length names) b → IsTrue (has_key names b)
      → change_by_text_of (join_with_byte 32 (decimal time ∷ change_words names b)) ≡ Some (record { time = time; asked = asked_by names b })
  body_back names (body.NodeAdded id) new fits key = one_id_said (codes "+node") id (λ n. what.AddNode n) (above (codes "+node") refl) fits refl
  body_back names (body.NodeRemoved id) new fits key = one_id_said (codes "-node") id (λ n. what.RemoveNode n) (above (codes "-node") refl) fits refl
  body_back names (body.EdgeAdded directed id src dst) new fits key =
      said (codes "+edge" ∷ decimal id ∷ decimal src ∷ decimal dst ∷ direction_word directed ∷ []) (codes "+edge" ∷ decimal id ∷ decimal src ∷ decimal dst ∷ direction_word directed ∷ []) (Plain (what.AddEdge directed id src dst))
      (word_back (decimal time ∷ codes "+edge" ∷ decimal id ∷ decimal src ∷ decimal dst ∷ []) (direction_word directed)
      (time_word, (above (codes "+edge") refl, (number_is_word id fits.0, (number_is_word src fits.1, (number_is_word dst fits.2, tt))))) (direction_is_word directed))
      (edge_back directed id src dst fits.0 fits.1 fits.2)
  body_back names (body.EdgeRemoved directed id src dst) new fits key = one_id_said (codes "-edge") id (λ n. what.RemoveEdge n) (above (codes "-edge") refl) fits.0 refl
  body_back names (body.NodeAttr k id old (Some v)) new fits key =
      setting_said (codes "nset") id (name_text names k) (name_text names v) (λ n k v. Sets_node n k v) (above (codes "nset") refl) fits.0 key (name_at names v new fits.3) refl
  body_back names (body.NodeAttr k id old None) new fits key =
      unset_said (codes "ndel") id (name_text names k) (λ n k. Unsets_node n k) (above (codes "ndel") refl) fits.0 key refl
  body_back names (body.EdgeAttr k id old (Some v)) new fits key =
      setting_said (codes "eset") id (name_text names k) (name_text names v) (λ n k v. Sets_edge n k v) (above (codes "eset") refl) fits.0 key (name_at names v new fits.3) refl
  body_back names (body.EdgeAttr k id old None) new fits key =
      unset_said (codes "edel") id (name_text names k) (λ n k. Unsets_edge n k) (above (codes "edel") refl) fits.0 key refl
  body_back names (body.Message src dst v) new fits key =
      let value = name_text names v in
      said (codes "msg" ∷ decimal src ∷ decimal dst ∷ value ∷ []) (codes "msg" ∷ decimal src ∷ decimal dst ∷ words value) (Sends src dst value)
      (words_back (decimal time ∷ codes "msg" ∷ decimal src ∷ decimal dst ∷ []) value
      (time_word, (above (codes "msg") refl, (number_is_word src fits.0, (number_is_word dst fits.1, tt)))))
      (sending_back src dst value fits.0 fits.1 (name_at names v new fits.2))

pub lines_read_back : LinesReadBack
lines_read_back names e new fits key = body_back e.time fits.0 names e.body new fits.1 key
