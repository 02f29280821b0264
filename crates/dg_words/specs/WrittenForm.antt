-- The written form of a command line, `deltagraph [--cache N] [--checked] INDEX`, by clap's own meaning of a command.
use Rattle.std.specs.Prelude.{◌==◌, ℕ, Bool, true, false, List, Option, Some, codes, length}
use Rattle.std.specs.Option.{option_map_or}
use Rattle.std.specs.Str.{bytes_eq}
use Rattle.std.specs.Str.Parse.{digits_value, without_leading_plus}
use Rattle.clap.specs.Words.{App, Rule, Text, fault_of, first_of, matches_of, new_app, new_rule, one_of, with_rule}
use Rattle.clap.specs.declared.builder.action.ArgAction.TheVariants.{Set, SetTrue}
use Rattle.clap.specs.declared.builder.value_parser.ValueParser.TheVariants as parser

-- `INDEX`, one word that has to be there
abbrev pub index_rule : Rule
index_rule = record (new_rule (codes "INDEX")) { required = true; action = Some Set }

-- `--checked`, which takes no value
abbrev pub checked_rule : Rule
checked_rule = record (new_rule (codes "checked")) {
  long = Some (codes "checked");
  action = Some SetTrue;
  parser = Some parser.Bool;
}

-- the most that `--cache` takes
abbrev pub cache_max : ℕ
cache_max = 65536

-- `--cache`, which takes a number up to the most
abbrev pub cache_rule : Rule
cache_rule = record (new_rule (codes "cache")) {
  long = Some (codes "cache");
  action = Some Set;
  parser = Some (parser.Unsigned 0 cache_max);
}

-- the program, whose words begin after its name, with neither help nor version
abbrev pub bare_program : App
bare_program = record (new_app (codes "deltagraph")) {
  top = record (new_app (codes "deltagraph")).top {
    no_binary_name = true;
    disable_help_flag = true;
    disable_version_flag = true;
  };
}

-- `deltagraph [--cache N] [--checked] INDEX`
abbrev pub form : App
form = with_rule (with_rule (with_rule bare_program index_rule) checked_rule) cache_rule

-- clap finds no fault with the words after the program's name
unfoldable pub is_written_form : List Text → Bool
is_written_form words = length (fault_of form words) == 0

-- the word that is the index
unfoldable pub index_of : List Text → Option Text
index_of words = first_of (codes "INDEX") (matches_of form words)

-- the text of a flag says that it was met
abbrev pub is_true : Option Text → Bool
is_true text = option_map_or (λ t. bytes_eq t (codes "true")) text false

-- the words set the flag `--checked`
unfoldable pub is_checked : List Text → Bool
is_checked words = is_true (one_of (codes "checked") (matches_of form words))

-- the number that a text of digits says, and 0 where there is none
abbrev pub number_of : Option Text → ℕ
number_of text = option_map_or (λ t. digits_value 10 (without_leading_plus t)) text 0

-- the number that is given to `--cache`, and 0 where none is
unfoldable pub cache_of : List Text → ℕ
cache_of words = number_of (one_of (codes "cache") (matches_of form words))
