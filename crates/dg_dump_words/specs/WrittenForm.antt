-- The written form of a command line, `[--checked] [--from T] [--until T] INDEX`, with the options in any order.
use Rattle.std.specs.Prelude.{◌==◌, ℕ, Bool, true, false, List, [], ◌∷◌, Option, Some, None, bytes_eq, codes, if◌then◌else◌, is_some, option_and_then, string_bytes}
use Rattle.dg_dump_words.specs.declared.Options.{Options}
use Rattle.dg_dump_words.specs.declared.Words.{Words}
use Rattle.dg_graph.specs.declared.limits.TheConstants.{TIME_MAX}
use Rattle.dg_text.specs.Words.{number}

-- what a command line says: the name of the index file, and the options
pub record Said : Type 0 where
  pub index : List ℕ
  pub options : Options

abbrev pub said_of : Words → Said
said_of w = record { index = string_bytes w.index; options = w.options }

-- no option is given
abbrev pub no_options : Options
no_options = record { checked = false; from = None; until = None }

abbrev pub is_flag : List ℕ → Bool
is_flag w = bytes_eq w (codes "--checked")

-- the word begins with a hyphen
abbrev pub is_hyphened : List ℕ → Bool
is_hyphened [] = false
is_hyphened (b ∷ word) = b == 45

-- the index of this name, behind these options; a word that begins with a hyphen names none
abbrev pub index_said : Options → List ℕ → Option Said
index_said o w = if is_hyphened w then None else Some (record { index = w; options = o })

-- one option more, which is not given yet
abbrev pub with_checked : Options → Option Options
with_checked o = if o.checked then None else Some (record { checked = true; from = o.from; until = o.until })

abbrev pub with_from : Options → ℕ → Option Options
with_from o t = if is_some o.from then None else Some (record { checked = o.checked; from = Some t; until = o.until })

abbrev pub with_until : Options → ℕ → Option Options
with_until o t = if is_some o.until then None else Some (record { checked = o.checked; from = o.from; until = Some t })

-- one bound more: its word, and the word of its instant
abbrev pub with_bound : Options → List ℕ → List ℕ → Option Options
with_bound o v w =
    if bytes_eq v (codes "--from") then option_and_then (with_from o) (number 0 TIME_MAX w)
    else if bytes_eq v (codes "--until") then option_and_then (with_until o) (number 0 TIME_MAX w)
    else None

-- what the words say behind these options
abbrev pub words_behind : Options → List (List ℕ) → Option Said
words_behind o [] = None
words_behind o (w ∷ []) = index_said o w
words_behind o (v ∷ w ∷ more) =
    if is_flag v then option_and_then (λ p. words_behind p (w ∷ more)) (with_checked o)
    else option_and_then (λ p. words_behind p more) (with_bound o v w)

-- what the words after the program's name say
abbrev pub words_said : List (List ℕ) → Option Said
words_said words = words_behind no_options words
