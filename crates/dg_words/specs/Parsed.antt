-- What the matches of a parse tell of the words that were parsed.
use Rattle.std.specs.Prelude.{◌≡◌, ◌⊎◌, ℕ, Bool, true, false, List, Option, Some, None, IsSome, codes}
use Rattle.clap.specs.Words.{IsUnsignedIn, Text, first_value, found_of, one_text}
use Rattle.clap.specs.declared.parser.matches.ArgMatches.{ArgMatches}
use Rattle.dg_words.specs.WrittenForm.{cache_max, cache_of, index_of, is_checked, number_of}

-- the flag's text, where it has one, reads as this answer
abbrev pub FlagReadsAs : Option Text → Bool → Type 0
FlagReadsAs None answer = answer ≡ false
FlagReadsAs (Some text) answer = ((text ≡ codes "true") × (answer ≡ true)) ⊎ ((text ≡ codes "false") × (answer ≡ false))

-- the option's text, where it has one, is of a number up to the most, and this is the number
abbrev pub NumberReadsAs : Option Text → ℕ → Type 0
NumberReadsAs None n = n ≡ 0
NumberReadsAs (Some text) n = IsUnsignedIn 0 cache_max text × (n ≡ number_of (Some text))

-- the matches have the index, and flag and option read as the words say
pub record Finds (words : List Text) (m : ArgMatches) : Type 0 where
  pub index : first_value (found_of m) (codes "INDEX") ≡ index_of words
  pub has_index : IsSome (index_of words)
  pub flag : FlagReadsAs (one_text (found_of m) (codes "checked")) (is_checked words)
  pub cache : NumberReadsAs (one_text (found_of m) (codes "cache")) (cache_of words)
