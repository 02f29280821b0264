-- What the matches of the written form have: a value for the index, a flag that is true or false, and a number that is
-- not above the most.
use Rattle.std.proofs.Common.{◌≡◌, ◌∙◌, ◌⊎◌, ◌<◌, ◌≤◌, ◌||◌, ℕ, zero, suc, Bool, true, false, true≢false, not, List, [], ◌∷◌, map, length, codes, Option, Some, None, IfSome, is_some, refl, sym, ap, subst, inl, inr, arith, eq-eqb, eqb-true, nat_eq}
use Rattle.std.specs.Prelude.{option_map, option_and_then, if◌then◌else◌, slice_get, slice_index, slice_index_or, All}
use Rattle.std.specs.List.{list_all}
use Rattle.std.specs.Str.{bytes_eq}
use Rattle.std.specs.Borrow.{Bor}
use Rattle.std.proofs.lemmas.Slice.Eq.{bytes_eq-Decides}
use Rattle.clap.specs.Words.{Accepts, App, HasMatchesOf, IsParsedFrom, IsPlain, IsPlainArg, IsUnsignedIn, Rule, Text, app_of, args_of, first_of, first_value, found_of, groups_of, is_simple, matched_of, matches_of, one_of, one_text, parser_of, read_as, reading_of, rows_of, rule_of}
use Rattle.clap.specs.Built.{IsAuto}
use Rattle.clap.specs.Facts.{Entry, EntryPasses, PassesArg, ValuesPass, least_values, parser_of_value, unwrap_or_range}
use Rattle.clap.specs.Simple.{IsSimple, is_ready, is_ready_leaf}
use Rattle.clap.specs.Walk.{is_empty, is_free_arg, is_simple_arg}
use Rattle.clap.specs.declared.builder.arg.Arg.{Arg}
use Rattle.clap.specs.declared.builder.command.Command.{Command}
use Rattle.clap.specs.declared.builder.range.ValueRange.{ValueRange}
use Rattle.clap.specs.declared.builder.value_parser.Reading.{Reading}
use Rattle.clap.specs.declared.builder.value_parser.Reading.TheVariants.{AsWritten}
use Rattle.clap.specs.declared.builder.value_parser.ValueParser.{ValueParser}
use Rattle.clap.specs.declared.builder.value_parser.ValueParser.TheVariants as vp
use Rattle.clap.specs.declared.parser.matches.ArgMatches.{ArgMatches}
use Rattle.clap.specs.declared.parser.matches.MatchedArg.{MatchedArg}
use Rattle.clap.proofs.CallerLemmas.{entry_by_id, required_has_value, same_rules_by_id}
use Rattle.clap.proofs.SimpleLemmas.{ready_simple}
use Rattle.clap.proofs.WalkLemmas.{both, first_value-rows, one_text-rows}
use Rattle.dg_words.specs.Parsed.{Finds, FlagReadsAs, NumberReadsAs}
use Rattle.dg_words.specs.WrittenForm.{cache_max, cache_of, cache_rule, checked_rule, form, index_of, index_rule, is_checked, is_true, number_of}

-- ---- tests

distinct : (a b : ℕ) → nat_eq a b ≡ false → a ≡ b → ⊥
distinct a b other same = true≢false (sym (eq-eqb a b same) ∙ other)

empty_is : {X : Type 0} (xs : List X) → is_empty xs ≡ true → xs ≡ []
empty_is [] e = refl
empty_is (x ∷ xs) e =
    let bad : suc (length xs) ≡ 0 = eqb-true (suc (length xs)) 0 e in
    absurd (omega arith)

none_is : {X : Type 0} (o : Option X) → not (is_some o) ≡ true → o ≡ None
none_is None e = refl
none_is (Some x) e = cc

off : (b : Bool) → not b ≡ true → b ≡ false
off true e = cc
off false e = refl

one_is : (a b : Bool) → (a || b) ≡ true → (a ≡ true) ⊎ (b ≡ true)
one_is true b e = inl refl
one_is false b e = inr e

-- ---- the three arguments

-- the arguments of a command of the written form
record Args (c : Command) : Type 0 where
  pub index : Arg
  pub flag : Arg
  pub cache : Arg
  pub are : args_of c ≡ index ∷ flag ∷ cache ∷ []
  pub index_is : rule_of index ≡ index_rule
  pub flag_is : rule_of flag ≡ checked_rule
  pub cache_is : rule_of cache ≡ cache_rule

three_of : (xs : List Arg) → map rule_of xs ≡ index_rule ∷ checked_rule ∷ cache_rule ∷ []
    → (a : Arg) × (b : Arg) × (z : Arg) × (xs ≡ a ∷ b ∷ z ∷ []) × (rule_of a ≡ index_rule) × (rule_of b ≡ checked_rule) × (rule_of z ≡ cache_rule)
three_of [] e = absurd (distinct 0 3 refl (ap length e))
three_of (a ∷ []) e = absurd (distinct 1 3 refl (ap length e))
three_of (a ∷ b ∷ []) e = absurd (distinct 2 3 refl (ap length e))
three_of (a ∷ b ∷ z ∷ []) e =
    (a, b, z, refl, ap (λ rs. slice_index_or rs 0 index_rule) e, ap (λ rs. slice_index_or rs 1 index_rule) e, ap (λ rs. slice_index_or rs 2 index_rule) e)
three_of (a ∷ b ∷ z ∷ x ∷ xs) e =
    let bad : suc (suc (suc (suc (length (map rule_of xs))))) ≡ 3 = ap length e in
    absurd (omega arith)

args : (c : Command) → app_of c ≡ form → Args c
args c e =
    let three = three_of (args_of c) (ap (λ (a : App). a.top.rules) e) in
    record {
      index = three.0;
      flag = three.1;
      cache = three.2;
      are = three.3;
      index_is = three.4;
      flag_is = three.5;
      cache_is = three.6;
    }

index_id : (c : Command) (s : Args c) → s.index.id.now ≡ codes "INDEX"
index_id c s = ap (λ (r : Rule). r.id) s.index_is

flag_id : (c : Command) (s : Args c) → s.flag.id.now ≡ codes "checked"
flag_id c s = ap (λ (r : Rule). r.id) s.flag_is

cache_id : (c : Command) (s : Args c) → s.cache.id.now ≡ codes "cache"
cache_id c s = ap (λ (r : Rule). r.id) s.cache_is

-- an argument that is simple and free excludes nothing, and its value is not cut
plain : (a : Arg) → is_simple_arg a ≡ true → is_free_arg a ≡ true → IsPlainArg a × (a.val_delim ≡ None)
plain a simple free =
    let s1 = both (is_empty a.overrides.items) _ simple in
    let s2 = both (is_empty a.default_vals_ifs.items) _ s1.1 in
    let s3 = both (is_empty a.groups.items) _ s2.1 in
    let s4 = both (not (is_some a.val_delim)) _ s3.1 in
    let f1 = both (not a.exclusive) _ free in
    let f2 = both (is_empty a.conflicts.items) _ f1.1 in
    ((off a.exclusive f1.0, empty_is a.conflicts.items f2.0, empty_is a.overrides.items s1.0, empty_is a.groups.items s3.0), none_is a.val_delim s4.0)

plain_three : (a b z : Arg) → IsPlainArg a → IsPlainArg b → IsPlainArg z → All IsPlainArg (a ∷ b ∷ z ∷ [])
plain_three a b z p q r zero d lt = p
plain_three a b z p q r (suc zero) d lt = q
plain_three a b z p q r (suc (suc zero)) d lt = r
plain_three a b z p q r (suc (suc (suc k))) d lt = absurd (omega arith)

plain_rule : (a : Arg) (r : Rule) → rule_of a ≡ r → r.is_simple ≡ true → r.is_free ≡ true → IsPlainArg a × (a.val_delim ≡ None)
plain_rule a r is simple free = plain a (ap (λ (x : Rule). x.is_simple) is ∙ simple) (ap (λ (x : Rule). x.is_free) is ∙ free)

simple_form : (c : Command) → app_of c ≡ form → IsSimple c
simple_form c e = ready_simple c (ap (λ (a : App). is_ready a.top) e) (ap (λ (a : App). list_all is_ready_leaf a.subs) e)

plain_form : (c : Command) → app_of c ≡ form → Args c → IsPlain c
plain_form c e s = (
  subst (All IsPlainArg) (sym s.are) (plain_three s.index s.flag s.cache (plain_rule s.index index_rule s.index_is refl refl).0 (plain_rule s.flag checked_rule s.flag_is refl refl).0 (plain_rule s.cache cache_rule s.cache_is refl refl).0),
  (simple_form c e).groups,
)

-- ---- the ids differ

head : List ℕ → ℕ
head t = slice_index t 0

-- the place of the argument of this id
abbrev place : Text → ℕ
place id = if bytes_eq id (codes "INDEX") then 0 else if bytes_eq id (codes "checked") then 1 else 2

abbrev id_at : List Arg → ℕ → Arg → Text
id_at xs k d = (slice_index_or xs k d).id.now

abbrev arguments : (c : Command) → Args c → List Arg
arguments c s = s.index ∷ s.flag ∷ s.cache ∷ []

place_is : (c : Command) (s : Args c) (k : ℕ) (d : Arg) → k < 3 → place (id_at (arguments c s) k d) ≡ k
place_is c s zero d lt = ap place (index_id c s)
place_is c s (suc zero) d lt = ap place (flag_id c s)
place_is c s (suc (suc zero)) d lt = ap place (cache_id c s)
place_is c s (suc (suc (suc k))) d lt = absurd (omega arith)

one_place : (x y : Text) (j k : ℕ) → place x ≡ j → place y ≡ k → bytes_eq x y ≡ true → j ≡ k
one_place x y j k at there same =
    let equal : x ≡ y = (bytes_eq-Decides x y).0 same in
    sym at ∙ ap place equal ∙ there

unique : (c : Command) (s : Args c) (k : ℕ) (d : Arg) → k < 3
    → (j : ℕ) (e : Arg) → j < length (args_of c) → bytes_eq (id_at (args_of c) j e) (id_at (args_of c) k d) ≡ true → j ≡ k
unique c s k d lt =
    subst (λ (ys : List Arg). (j : ℕ) (e : Arg) → j < length ys → bytes_eq (id_at ys j e) (id_at ys k d) ≡ true → j ≡ k)
    (sym s.are)
    (λ j e low same. one_place (id_at (arguments c s) j e) (id_at (arguments c s) k d) j k (place_is c s j e low) (place_is c s k d lt) same)

-- the id is neither that of help nor that of the version
own : (a : Arg) (id : Text) → a.id.now ≡ id → nat_eq (head id) 104 ≡ false → nat_eq (head id) 118 ≡ false → IsAuto a → ⊥
unfolding head
own a id is help version (inl h) = distinct (head id) 104 help (ap head (sym is ∙ h))
own a id is help version (inr h) = distinct (head id) 118 version (ap head (sym is ∙ h))

-- ---- the index

index_there : (c : Command) (m : ArgMatches) → app_of c ≡ form → Args c → IsParsedFrom c m → is_some (first_value (found_of m) (codes "INDEX")) ≡ true
unfolding head
index_there c m e s p =
    let a = s.index in
    let at : slice_index_or (args_of c) 0 a ≡ a = ap (λ (xs : List Arg). slice_index_or xs 0 a) s.are in
    let id : (slice_index_or (args_of c) 0 a).id.now ≡ codes "INDEX" = ap (λ (x : Arg). x.id.now) at ∙ index_id c s in
    let none : a.num_vals ≡ None = ap (λ (r : Rule). r.range) s.index_is in
    let one : least_values (slice_index_or (args_of c) 0 a) ≡ 1 =
    ap (λ (x : Arg). least_values x) at ∙ ap (λ (o : Option ValueRange). (unwrap_or_range o).start_inclusive) none in
    subst (λ (t : Text). is_some (first_value (found_of m) t) ≡ true) id
    (required_has_value c m p (plain_form c e s) (simple_form c e).globals (ap (λ (x : App). x.top.subcommand_negates_reqs) e)
    0 a (subst (λ (xs : List Arg). 0 < length xs) (sym s.are) (omega arith))
    (ap (λ (x : Arg). x.required) at ∙ ap (λ (r : Rule). r.required) s.index_is)
    (ap (λ (x : Arg). x.action) at ∙ ap (λ (r : Rule). r.action) s.index_is)
    (ap (λ (x : Arg). x.val_delim) at ∙ (plain_rule a index_rule s.index_is refl refl).1)
    (subst (λ (n : ℕ). 1 ≤ n) (sym one) (omega arith))
    (unique c s 0 a (omega arith))
    (λ empty. distinct 73 0 refl (ap head (sym id ∙ empty)))
    (own (slice_index_or (args_of c) 0 a) (codes "INDEX") id refl refl))

-- ---- an argument with a parser

-- the argument of this id, whose values are of this parser and read as they are written
record Takes (c : Command) (id : Text) (q : ValueParser) : Type 0 where
  pub place : ℕ
  pub arg : Arg
  pub low : place < length (args_of c)
  pub id_is : (slice_index_or (args_of c) place arg).id.now ≡ id
  pub parser : (slice_index_or (args_of c) place arg).value_parser ≡ Some q
  pub alone : (j : ℕ) (e : Arg) → j < length (args_of c) → bytes_eq (id_at (args_of c) j e) (id_at (args_of c) place arg) ≡ true → j ≡ place
  pub own : IsAuto (slice_index_or (args_of c) place arg) → ⊥
  pub named : id ≡ [] → ⊥
  pub as_written : reading_of q ≡ AsWritten

-- an argument of the built command with this id takes what this one takes
taken_parser : (c : Command) (m : ArgMatches) (id : Text) (q : ValueParser) → Takes c id q → (p : IsParsedFrom c m) (j : ℕ) (x : Arg) → j < length (args_of p.built)
    → slice_index_or (args_of p.built) j x ≡ x → bytes_eq x.id.now id ≡ true → parser_of x ≡ q
taken_parser c m id q t p j x high at same =
    let rules = same_rules_by_id c m p t.place t.arg t.low t.alone t.own j x high at (subst (λ (u : Text). bytes_eq x.id.now u ≡ true) (sym t.id_is) same) in
    ap parser_of_value (rules.parser q t.parser)

-- what the parser accepts has this property
abbrev Gives : ValueParser → (Text → Type 0) → Type 0
Gives q P = (ignores : Bool) (text : Text) → Accepts ignores q text → P text

abbrev IsEntryOf : (Text → Type 0) → MatchedArg → Type 0
IsEntryOf P x = (x.reading ≡ AsWritten) × All (λ v. P v.now) x.vals.items

taken_value : (c : Command) (m : ArgMatches) (id : Text) (q : ValueParser) (P : Text → Type 0) → Takes c id q → Gives q P → (p : IsParsedFrom c m)
    → (own_id text : Text) → own_id ≡ id → PassesArg p.built own_id text → P text
taken_value c m id q P t gives p own_id text key pass =
    let is = taken_parser c m id q t p pass.0 pass.1 pass.2 pass.3 (subst (λ (u : Text). bytes_eq pass.1.id.now u ≡ true) key pass.4.0) in
    gives pass.1.ignore_case text (subst (λ (w : ValueParser). Accepts pass.1.ignore_case w text) is pass.4.1)

taken_entry : (c : Command) (m : ArgMatches) (id : Text) (q : ValueParser) (P : Text → Type 0) → Takes c id q → Gives q P → (p : IsParsedFrom c m)
    → groups_of p.built ≡ [] → (e : Entry) → e.0.now ≡ id → EntryPasses p.built e → IsEntryOf P e.1
taken_entry c m id q P t gives p none e key pass =
    let no_groups : length (groups_of p.built) ≡ 0 = ap length none in
    let no_group : e.1.is_group ≡ true → ⊥ = λ g. elim (pass.3 g) [
      | inl empty ↦ t.named (sym key ∙ empty)
      | inr has ↦ omega arith
    ] in
    let reading : e.1.reading ≡ AsWritten = elim pass.4 [
      | inl g ↦ absurd (no_group g)
      | inr h ↦ sym h.4.1 ∙ (ap reading_of (taken_parser c m id q t p h.0 h.1 h.2 h.3 (subst (λ (u : Text). bytes_eq h.1.id.now u ≡ true) key h.4.0)) ∙ t.as_written)
    ] in
    let values : All (λ v. P v.now) e.1.vals.items = elim pass.0 [
      | inl g ↦ absurd (no_group g)
      | inr vals ↦ λ k d lt. taken_value c m id q P t gives p e.0.now (slice_index_or e.1.vals.items k d).now key (vals k d lt)
    ] in
    (reading, values)

first_text : (P : Text → Type 0) (how : Reading) (vs : List (Bor Text)) → how ≡ AsWritten → All (λ v. P v.now) vs → IfSome (option_map (λ s. read_as how s.now) (slice_get vs 0)) P
first_text P how [] is all = tt
first_text P how (v ∷ vs) is all = subst (λ (h : Reading). P (read_as h v.now)) (sym is) (all 0 v (omega arith))

abbrev text_of : Option MatchedArg → Option Text
text_of = option_and_then (λ a. option_map (λ s. read_as a.reading s.now) (slice_get a.vals.items 0))

-- the text that is given to the argument, where one is, has what each text has that its parser accepts
taken_text : (c : Command) (m : ArgMatches) (id : Text) (q : ValueParser) (P : Text → Type 0) → Takes c id q → Gives q P → (p : IsParsedFrom c m)
    → groups_of p.built ≡ [] → ValuesPass p.built (found_of m) → IfSome (one_text (found_of m) id) P
taken_text c m id q P t gives p none values = go (matched_of (found_of m) id) refl
  where
    entry_of : (x : MatchedArg) → ((e : Entry) × (e.1 ≡ x) × (bytes_eq e.0.now id ≡ true) × EntryPasses p.built e) → IsEntryOf P x
    entry_of x got = subst (IsEntryOf P) got.1 (taken_entry c m id q P t gives p none got.0 ((bytes_eq-Decides got.0.0.now id).0 got.2) got.3)

    go : (o : Option MatchedArg) → matched_of (found_of m) id ≡ o → IfSome (one_text (found_of m) id) P
    go None e = subst (λ (o : Option MatchedArg). IfSome (text_of o) P) (sym e) tt
    go (Some x) e =
        let entry = entry_of x (entry_by_id (EntryPasses p.built) (found_of m).entries.items id x values e) in
        subst (λ (o : Option MatchedArg). IfSome (text_of o) P) (sym e) (first_text P x.reading x.vals.items entry.0 entry.1)

-- ---- the flag

abbrev IsFlagText : Text → Type 0
IsFlagText text = (text ≡ codes "true") ⊎ (text ≡ codes "false")

flag_text : Gives vp.Bool IsFlagText
flag_text ignores text read = elim (one_is (bytes_eq text (codes "true")) (bytes_eq text (codes "false")) read) [
  | inl h ↦ inl ((bytes_eq-Decides text (codes "true")).0 h)
  | inr h ↦ inr ((bytes_eq-Decides text (codes "false")).0 h)
]

flag_takes : (c : Command) → Args c → Takes c (codes "checked") vp.Bool
unfolding head
flag_takes c s =
    let b = s.flag in
    let here : slice_index_or (args_of c) 1 b ≡ b = ap (λ (xs : List Arg). slice_index_or xs 1 b) s.are in
    let id : (slice_index_or (args_of c) 1 b).id.now ≡ codes "checked" = ap (λ (y : Arg). y.id.now) here ∙ flag_id c s in
    record {
      place = 1;
      arg = b;
      low = subst (λ (xs : List Arg). 1 < length xs) (sym s.are) (omega arith);
      id_is = id;
      parser = ap (λ (y : Arg). y.value_parser) here ∙ ap (λ (r : Rule). r.parser) s.flag_is;
      alone = unique c s 1 b (omega arith);
      own = own (slice_index_or (args_of c) 1 b) (codes "checked") id refl refl;
      named = λ empty. distinct 99 0 refl (ap head empty);
      as_written = refl;
    }

reads_as : (o : Option Text) → IfSome o IsFlagText → FlagReadsAs o (is_true o)
reads_as None h = refl
reads_as (Some t) (inl h) = inl (h, ap (λ (u : Text). bytes_eq u (codes "true")) h)
reads_as (Some t) (inr h) = inr (h, ap (λ (u : Text). bytes_eq u (codes "true")) h)

-- ---- the option

abbrev IsCacheText : Text → Type 0
IsCacheText = IsUnsignedIn 0 cache_max

cache_text : Gives (vp.Unsigned 0 cache_max) IsCacheText
cache_text ignores text read = read

cache_takes : (c : Command) → Args c → Takes c (codes "cache") (vp.Unsigned 0 cache_max)
unfolding head
cache_takes c s =
    let b = s.cache in
    let here : slice_index_or (args_of c) 2 b ≡ b = ap (λ (xs : List Arg). slice_index_or xs 2 b) s.are in
    let id : (slice_index_or (args_of c) 2 b).id.now ≡ codes "cache" = ap (λ (y : Arg). y.id.now) here ∙ cache_id c s in
    record {
      place = 2;
      arg = b;
      low = subst (λ (xs : List Arg). 2 < length xs) (sym s.are) (omega arith);
      id_is = id;
      parser = ap (λ (y : Arg). y.value_parser) here ∙ ap (λ (r : Rule). r.parser) s.cache_is;
      alone = unique c s 2 b (omega arith);
      own = own (slice_index_or (args_of c) 2 b) (codes "cache") id refl refl;
      named = λ empty. distinct 99 0 refl (ap head empty);
      as_written = refl;
    }

number_reads : (o : Option Text) → IfSome o IsCacheText → NumberReadsAs o (number_of o)
number_reads None h = refl
number_reads (Some t) h = (h, refl)

-- ---- the matches

pub finds : (c : Command) (m : ArgMatches) (words : List Text) → app_of c ≡ form → IsParsedFrom c m → HasMatchesOf (app_of c) words m → Finds words m
unfolding cache_of index_of is_checked
finds c m words e p h =
    let s = args c e in
    let parsed = p.parsed (p.from.globals ∙ (simple_form c e).globals) in
    let rows : rows_of (found_of m) ≡ matches_of form words = (h (ap is_simple e)).0 ∙ ap (λ (a : App). matches_of a words) e in
    let index : first_value (found_of m) (codes "INDEX") ≡ index_of words = first_value-rows (found_of m) (codes "INDEX") ∙ ap (first_of (codes "INDEX")) rows in
    let flag : one_text (found_of m) (codes "checked") ≡ one_of (codes "checked") (matches_of form words) =
    one_text-rows (found_of m) (codes "checked") ∙ ap (one_of (codes "checked")) rows in
    let cache : one_text (found_of m) (codes "cache") ≡ one_of (codes "cache") (matches_of form words) =
    one_text-rows (found_of m) (codes "cache") ∙ ap (one_of (codes "cache")) rows in
    let no_groups = (p.from.plain (plain_form c e s)).1 in
    record {
      index = index;
      has_index = subst (λ (o : Option Text). is_some o ≡ true) index (index_there c m e s p);
      flag = subst (λ (o : Option Text). FlagReadsAs (one_text (found_of m) (codes "checked")) (is_true o)) flag
          (reads_as (one_text (found_of m) (codes "checked")) (taken_text c m (codes "checked") vp.Bool IsFlagText (flag_takes c s) flag_text p no_groups parsed.values));
      cache = subst (λ (o : Option Text). NumberReadsAs (one_text (found_of m) (codes "cache")) (number_of o)) cache
          (number_reads (one_text (found_of m) (codes "cache")) (taken_text c m (codes "cache") (vp.Unsigned 0 cache_max) IsCacheText (cache_takes c s) cache_text p no_groups parsed.values));
    }
