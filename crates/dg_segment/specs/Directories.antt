-- The two lengths in front of a directory, and what the bytes of a directory say behind an index.
use Rattle.std.specs.Prelude.{◌≡◌, ℕ, ◌+◌, ◌≤◌, Bool, true, ◌&&◌, not, List, [], ◌∷◌, ◌++◌, Option, Some, is_some, nat_le, length, take, drop, IfSome, option_and_then, ◌==◌}
use Rattle.dg_text.specs.declared.limits.TheConstants.{NAMES_MAX}
use Rattle.dg_text.specs.Names.{number_of, is_name, are_new}
use Rattle.dg_history.specs.declared.limits.TheConstants.{FILE_BYTES_MAX}
use Rattle.dg_index.specs.ImageText.{eight_at, name_at, names_at}
use Rattle.dg_index.specs.OpenedIndex.{Opening, Opened, Directory, directory_in, earliest_in, event_total, first_in, if_it_may, keys_next, last_list, may_be_listed, may_follow, may_stand, rows_in}
use Rattle.dg_catalogue.specs.Additions.{bytes_of_rows, Suits}
use Rattle.dg_segment.specs.declared.found.FoundDirectory.{FoundDirectory}
use Rattle.dg_segment.specs.declared.lengths.Lengths.{Lengths}

-- the two lengths at the offset
abbrev pub segment_lengths_at : List ℕ → ℕ → Lengths
segment_lengths_at image at = record { directory = eight_at image at; columns = eight_at image (at + 8) }

-- the offset of the gate behind the segment
abbrev pub gate_after : ℕ → Lengths → ℕ
gate_after at l = at + 16 + l.directory + l.columns

-- the segment and the gate behind it are within so many bytes, and within the bytes of a file
abbrev pub fit_in : ℕ → ℕ → Lengths → Bool
fit_in at len l =
    nat_le (at + 16) len && (nat_le (gate_after at l + 1) len && nat_le (gate_after at l + 1) FILE_BYTES_MAX)

-- the lengths of a marker
abbrev pub are_marking : Lengths → Bool
are_marking l = l.directory == 8 && l.columns == 0

-- the text may be a name, and is not in the list
abbrev pub is_fresh : List (List ℕ) → List ℕ → Bool
is_fresh names text = is_name text && not (is_some (number_of names text))

-- the list gained the name at the offset, which ends before the other offset and is a new one
pub record TakesName (bytes : List ℕ) (at : ℕ) (old new : List (List ℕ)) (end : ℕ) : Type 0 where
  pub text : List ℕ
  pub read : name_at bytes at ≡ Some (text, end)
  pub fresh : is_fresh old text ≡ true
  pub gained : new ≡ old ++ text ∷ []

-- the list gained so many names of a directory, which end before the offset and are new ones
pub record TakesNames (bytes : List ℕ) (count : ℕ) (old new : List (List ℕ)) (end : ℕ) : Type 0 where
  pub names : List (List ℕ)
  pub read : names_at count bytes 28 ≡ Some (names, end)
  pub fresh : are_new old names ≡ true
  pub gained : new ≡ old ++ names

-- the directory in these bytes, where it may stand behind what is opened so far, before so many bytes of columns
abbrev pub directory_due : Opened → ℕ → List ℕ → Option Directory
directory_due x columns bytes = option_and_then (λ d. if_it_may (may_stand x columns d) d) (directory_in x.index bytes)

-- The list gained the names of the directory in these bytes, which may stand behind the index; this is found in
-- it, a row for each key, and with it the batch may be noted.
pub record TakesDirectory (o : Opening) (columns : ℕ) (bytes : List ℕ) (old new : List (List ℕ)) (f : FoundDirectory) : Type 0 where
  pub directory : Directory
  pub due : directory_due (record { index = o; names = old }) columns bytes ≡ Some directory
  pub batch : f.batch ≡ directory.batch
  pub rows : f.rows.items ≡ rows_in directory
  pub keys : f.keys.items ≡ keys_next o f.batch.events
  pub gained : new ≡ old ++ directory.names
  pub suits : Suits f.keys.items f.rows.items
  pub measured : bytes_of_rows f.rows.items ≡ columns
  pub follows : may_follow (event_total o.batches) (earliest_in 0 o.batches) f.batch ≡ true
  pub listed : may_be_listed (last_list (first_in f.batch.ends.first o.batches) o.records) f.batch.ends.last f.rows.items ≡ true
  pub counted : length new ≡ length old + f.batch.names
  pub few : length new ≤ NAMES_MAX
  pub long : 60 ≤ length bytes

-- the directory behind the index in the image, behind these two lengths, is taken: this is found in it
pub record FindsDirectory (image : Option (List ℕ)) (o : Opening) (l : Lengths) (old new : List (List ℕ)) (f : FoundDirectory) : Type 0 where
  pub bytes : List ℕ
  pub there : IfSome image (λ image. bytes ≡ take l.directory (drop (o.used + 16) image))
  pub len : length bytes ≡ l.directory
  pub taken : TakesDirectory o l.columns bytes old new f
