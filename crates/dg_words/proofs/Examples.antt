-- Which words are of the written form, and what they come to.
use Rattle.std.proofs.Common.{◌≡◌, true, false, [], ◌∷◌, Some, codes, refl}
use Rattle.std.specs.Prelude.{⊤}
use Rattle.clap.proofs.OnLiterals.{clap_on_literals}
use Rattle.clap.specs.Words.{is_simple_and_free}
use Rattle.dg_words.specs.WrittenForm.{cache_of, form, index_of, is_checked, is_written_form}

-- what each row unfolds
unfoldable on_literals : ⊤
unfolding clap_on_literals is_written_form index_of is_checked cache_of
on_literals = tt

-- clap's statements of the faults and the matches of a command are of commands such as this
form_is_simple : is_simple_and_free form ≡ true
form_is_simple = refl

-- ---- the index alone

no_word : is_written_form [] ≡ false
unfolding on_literals
no_word = refl

one_word : is_written_form (codes "x" ∷ []) ≡ true
unfolding on_literals
one_word = refl

one_word_index : index_of (codes "x" ∷ []) ≡ Some (codes "x")
unfolding on_literals
one_word_index = refl

one_word_unchecked : is_checked (codes "x" ∷ []) ≡ false
unfolding on_literals
one_word_unchecked = refl

two_words : is_written_form (codes "x" ∷ codes "y" ∷ []) ≡ false
unfolding on_literals
two_words = refl

empty_word : is_written_form ([] ∷ []) ≡ true
unfolding on_literals
empty_word = refl

empty_word_index : index_of ([] ∷ []) ≡ Some []
unfolding on_literals
empty_word_index = refl

-- ---- a word that begins with a hyphen

unknown_flag : is_written_form (codes "-x" ∷ []) ≡ false
unfolding on_literals
unknown_flag = refl

after_hyphens : is_written_form (codes "--" ∷ codes "-x" ∷ []) ≡ true
unfolding on_literals
after_hyphens = refl

after_hyphens_index : index_of (codes "--" ∷ codes "-x" ∷ []) ≡ Some (codes "-x")
unfolding on_literals
after_hyphens_index = refl

hyphen : is_written_form (codes "-" ∷ []) ≡ true
unfolding on_literals
hyphen = refl

hyphen_index : index_of (codes "-" ∷ []) ≡ Some (codes "-")
unfolding on_literals
hyphen_index = refl

-- ---- the flag

flag_first : is_written_form (codes "--checked" ∷ codes "x" ∷ []) ≡ true
unfolding on_literals
flag_first = refl

flag_first_checked : is_checked (codes "--checked" ∷ codes "x" ∷ []) ≡ true
unfolding on_literals
flag_first_checked = refl

flag_first_index : index_of (codes "--checked" ∷ codes "x" ∷ []) ≡ Some (codes "x")
unfolding on_literals
flag_first_index = refl

flag_last : is_written_form (codes "x" ∷ codes "--checked" ∷ []) ≡ true
unfolding on_literals
flag_last = refl

flag_last_checked : is_checked (codes "x" ∷ codes "--checked" ∷ []) ≡ true
unfolding on_literals
flag_last_checked = refl

flag_last_index : index_of (codes "x" ∷ codes "--checked" ∷ []) ≡ Some (codes "x")
unfolding on_literals
flag_last_index = refl

flag_alone : is_written_form (codes "--checked" ∷ []) ≡ false
unfolding on_literals
flag_alone = refl

flag_twice : is_written_form (codes "--checked" ∷ codes "--checked" ∷ codes "x" ∷ []) ≡ false
unfolding on_literals
flag_twice = refl

flag_with_value : is_written_form (codes "--checked=yes" ∷ codes "x" ∷ []) ≡ false
unfolding on_literals
flag_with_value = refl

flag_cut_short : is_written_form (codes "--che" ∷ codes "x" ∷ []) ≡ false
unfolding on_literals
flag_cut_short = refl

flag_after_hyphens : is_checked (codes "--" ∷ codes "--checked" ∷ []) ≡ false
unfolding on_literals
flag_after_hyphens = refl

flag_after_hyphens_index : index_of (codes "--" ∷ codes "--checked" ∷ []) ≡ Some (codes "--checked")
unfolding on_literals
flag_after_hyphens_index = refl

-- ---- help and version

help : is_written_form (codes "--help" ∷ codes "x" ∷ []) ≡ false
unfolding on_literals
help = refl

short_help : is_written_form (codes "-h" ∷ []) ≡ false
unfolding on_literals
short_help = refl

version : is_written_form (codes "--version" ∷ []) ≡ false
unfolding on_literals
version = refl

help_word : index_of (codes "help" ∷ []) ≡ Some (codes "help")
unfolding on_literals
help_word = refl

-- ---- the option

no_cache : cache_of (codes "x" ∷ []) ≡ 0
unfolding on_literals
no_cache = refl

cache_first : is_written_form (codes "--cache" ∷ codes "5" ∷ codes "x" ∷ []) ≡ true
unfolding on_literals
cache_first = refl

cache_first_number : cache_of (codes "--cache" ∷ codes "5" ∷ codes "x" ∷ []) ≡ 5
unfolding on_literals
cache_first_number = refl

cache_first_index : index_of (codes "--cache" ∷ codes "5" ∷ codes "x" ∷ []) ≡ Some (codes "x")
unfolding on_literals
cache_first_index = refl

cache_last : is_written_form (codes "x" ∷ codes "--cache" ∷ codes "5" ∷ []) ≡ true
unfolding on_literals
cache_last = refl

cache_last_number : cache_of (codes "x" ∷ codes "--cache" ∷ codes "5" ∷ []) ≡ 5
unfolding on_literals
cache_last_number = refl

cache_last_index : index_of (codes "x" ∷ codes "--cache" ∷ codes "5" ∷ []) ≡ Some (codes "x")
unfolding on_literals
cache_last_index = refl

cache_joined : is_written_form (codes "--cache=5" ∷ codes "x" ∷ []) ≡ true
unfolding on_literals
cache_joined = refl

cache_joined_number : cache_of (codes "--cache=5" ∷ codes "x" ∷ []) ≡ 5
unfolding on_literals
cache_joined_number = refl

cache_joined_index : index_of (codes "--cache=5" ∷ codes "x" ∷ []) ≡ Some (codes "x")
unfolding on_literals
cache_joined_index = refl

cache_zero : is_written_form (codes "--cache" ∷ codes "0" ∷ codes "x" ∷ []) ≡ true
unfolding on_literals
cache_zero = refl

cache_zero_number : cache_of (codes "--cache" ∷ codes "0" ∷ codes "x" ∷ []) ≡ 0
unfolding on_literals
cache_zero_number = refl

cache_zero_index : index_of (codes "--cache" ∷ codes "0" ∷ codes "x" ∷ []) ≡ Some (codes "x")
unfolding on_literals
cache_zero_index = refl

cache_most : is_written_form (codes "--cache" ∷ codes "65536" ∷ codes "x" ∷ []) ≡ true
unfolding on_literals
cache_most = refl

cache_most_number : cache_of (codes "--cache" ∷ codes "65536" ∷ codes "x" ∷ []) ≡ 65536
unfolding on_literals
cache_most_number = refl

cache_most_index : index_of (codes "--cache" ∷ codes "65536" ∷ codes "x" ∷ []) ≡ Some (codes "x")
unfolding on_literals
cache_most_index = refl

cache_after_flag : is_written_form (codes "--checked" ∷ codes "--cache" ∷ codes "5" ∷ codes "x" ∷ []) ≡ true
unfolding on_literals
cache_after_flag = refl

cache_after_flag_number : cache_of (codes "--checked" ∷ codes "--cache" ∷ codes "5" ∷ codes "x" ∷ []) ≡ 5
unfolding on_literals
cache_after_flag_number = refl

cache_after_flag_checked : is_checked (codes "--checked" ∷ codes "--cache" ∷ codes "5" ∷ codes "x" ∷ []) ≡ true
unfolding on_literals
cache_after_flag_checked = refl

cache_after_flag_index : index_of (codes "--checked" ∷ codes "--cache" ∷ codes "5" ∷ codes "x" ∷ []) ≡ Some (codes "x")
unfolding on_literals
cache_after_flag_index = refl

cache_before_flag : is_written_form (codes "--cache" ∷ codes "5" ∷ codes "--checked" ∷ codes "x" ∷ []) ≡ true
unfolding on_literals
cache_before_flag = refl

cache_before_flag_number : cache_of (codes "--cache" ∷ codes "5" ∷ codes "--checked" ∷ codes "x" ∷ []) ≡ 5
unfolding on_literals
cache_before_flag_number = refl

cache_before_flag_checked : is_checked (codes "--cache" ∷ codes "5" ∷ codes "--checked" ∷ codes "x" ∷ []) ≡ true
unfolding on_literals
cache_before_flag_checked = refl

cache_before_flag_index : index_of (codes "--cache" ∷ codes "5" ∷ codes "--checked" ∷ codes "x" ∷ []) ≡ Some (codes "x")
unfolding on_literals
cache_before_flag_index = refl

cache_joined_after_flag : is_written_form (codes "--checked" ∷ codes "x" ∷ codes "--cache=5" ∷ []) ≡ true
unfolding on_literals
cache_joined_after_flag = refl

cache_joined_after_flag_number : cache_of (codes "--checked" ∷ codes "x" ∷ codes "--cache=5" ∷ []) ≡ 5
unfolding on_literals
cache_joined_after_flag_number = refl

cache_joined_after_flag_checked : is_checked (codes "--checked" ∷ codes "x" ∷ codes "--cache=5" ∷ []) ≡ true
unfolding on_literals
cache_joined_after_flag_checked = refl

cache_joined_after_flag_index : index_of (codes "--checked" ∷ codes "x" ∷ codes "--cache=5" ∷ []) ≡ Some (codes "x")
unfolding on_literals
cache_joined_after_flag_index = refl

cache_last_before_flag : is_written_form (codes "x" ∷ codes "--cache" ∷ codes "5" ∷ codes "--checked" ∷ []) ≡ true
unfolding on_literals
cache_last_before_flag = refl

cache_last_before_flag_number : cache_of (codes "x" ∷ codes "--cache" ∷ codes "5" ∷ codes "--checked" ∷ []) ≡ 5
unfolding on_literals
cache_last_before_flag_number = refl

cache_last_before_flag_checked : is_checked (codes "x" ∷ codes "--cache" ∷ codes "5" ∷ codes "--checked" ∷ []) ≡ true
unfolding on_literals
cache_last_before_flag_checked = refl

cache_last_before_flag_index : index_of (codes "x" ∷ codes "--cache" ∷ codes "5" ∷ codes "--checked" ∷ []) ≡ Some (codes "x")
unfolding on_literals
cache_last_before_flag_index = refl

cache_after_hyphens : is_written_form (codes "--" ∷ codes "--cache" ∷ []) ≡ true
unfolding on_literals
cache_after_hyphens = refl

cache_after_hyphens_index : index_of (codes "--" ∷ codes "--cache" ∷ []) ≡ Some (codes "--cache")
unfolding on_literals
cache_after_hyphens_index = refl

cache_after_hyphens_number : cache_of (codes "--" ∷ codes "--cache" ∷ []) ≡ 0
unfolding on_literals
cache_after_hyphens_number = refl

-- ---- words with the option that are not of the form

cache_without_number : is_written_form (codes "--cache" ∷ codes "x" ∷ []) ≡ false
unfolding on_literals
cache_without_number = refl

cache_at_the_end : is_written_form (codes "x" ∷ codes "--cache" ∷ []) ≡ false
unfolding on_literals
cache_at_the_end = refl

cache_then_flag : is_written_form (codes "--cache" ∷ codes "--checked" ∷ codes "x" ∷ []) ≡ false
unfolding on_literals
cache_then_flag = refl

cache_too_great : is_written_form (codes "--cache" ∷ codes "65537" ∷ codes "x" ∷ []) ≡ false
unfolding on_literals
cache_too_great = refl

cache_far_too_great : is_written_form (codes "--cache" ∷ codes "18446744073709551616" ∷ codes "x" ∷ []) ≡ false
unfolding on_literals
cache_far_too_great = refl

cache_below_zero : is_written_form (codes "--cache" ∷ codes "-1" ∷ codes "x" ∷ []) ≡ false
unfolding on_literals
cache_below_zero = refl

cache_below_zero_joined : is_written_form (codes "--cache=-1" ∷ codes "x" ∷ []) ≡ false
unfolding on_literals
cache_below_zero_joined = refl

cache_empty : is_written_form (codes "--cache=" ∷ codes "x" ∷ []) ≡ false
unfolding on_literals
cache_empty = refl

cache_twice : is_written_form (codes "--cache" ∷ codes "1" ∷ codes "--cache" ∷ codes "2" ∷ codes "x" ∷ []) ≡ false
unfolding on_literals
cache_twice = refl

cache_cut_short : is_written_form (codes "--cac" ∷ codes "1" ∷ codes "x" ∷ []) ≡ false
unfolding on_literals
cache_cut_short = refl

cache_word : is_written_form (codes "--cache" ∷ codes "x" ∷ codes "y" ∷ []) ≡ false
unfolding on_literals
cache_word = refl

cache_digits_and_more : is_written_form (codes "--cache" ∷ codes "5k" ∷ codes "x" ∷ []) ≡ false
unfolding on_literals
cache_digits_and_more = refl

-- ---- numbers that are written otherwise than the program writes them

cache_leading_zero : is_written_form (codes "--cache" ∷ codes "05" ∷ codes "x" ∷ []) ≡ true
unfolding on_literals
cache_leading_zero = refl

cache_leading_zero_number : cache_of (codes "--cache" ∷ codes "05" ∷ codes "x" ∷ []) ≡ 5
unfolding on_literals
cache_leading_zero_number = refl

cache_plus : is_written_form (codes "--cache" ∷ codes "+5" ∷ codes "x" ∷ []) ≡ true
unfolding on_literals
cache_plus = refl

cache_plus_number : cache_of (codes "--cache" ∷ codes "+5" ∷ codes "x" ∷ []) ≡ 5
unfolding on_literals
cache_plus_number = refl
