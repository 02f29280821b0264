-- Worked examples, computed by the definition: bytes that were taken, and the entries that stand whole in them.
use Rattle.std.specs.Prelude.{◌≡◌, [], ◌∷◌, codes, refl}
use Rattle.std.specs.Fmt.{digits}
use Rattle.dg_cuts.specs.WholeEntries.{whole_entries}
use Rattle.dg_text.specs.Lines.{Text}
use Rattle.dg_machine.specs.declared.command.Command.TheVariants as command
use Rattle.dg_machine.specs.Script.{Asked, No_command}

-- no byte, and a line without its line feed
nothing : whole_entries [] ≡ []
nothing = refl

part_of_a_line : whole_entries (codes "pool") ≡ []
part_of_a_line = refl

-- the last line is not whole
one_of_two : whole_entries (codes "pool\ntree") ≡ Asked command.Pool [] ∷ []
one_of_two = refl

both : whole_entries (codes "pool\r\ntree\n") ≡ Asked command.Pool [] ∷ Asked command.Tree [] ∷ []
both = refl

-- lines that are skipped, and one that is in no command
others : whole_entries (codes "# a\n\nno\npool\n") ≡ No_command (codes "no") ∷ Asked command.Pool [] ∷ []
others = refl

-- a command that wants two lines stands whole with both, and with fewer it does not
short_batch : whole_entries (codes "pool\nload 2\n10 +node 1\n") ≡ Asked command.Pool [] ∷ []
unfolding digits
short_batch = refl

cut_batch : whole_entries (codes "load 2\n10 +node 1\n20 +node 2") ≡ []
unfolding digits
cut_batch = refl

whole_batch : whole_entries (codes "load 2\n10 +node 1\n20 +node 2\npo") ≡ Asked (command.Load 2) (Text (codes "10 +node 1") ∷ Text (codes "20 +node 2") ∷ []) ∷ []
unfolding digits
whole_batch = refl
