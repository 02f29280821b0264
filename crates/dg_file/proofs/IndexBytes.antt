-- An opening takes no more bytes than the image has, however far it came with a segment (each lemma is for an end
-- at one of its reads), and what several reads, one behind another, leave as it was.
use Rattle.std.proofs.Common.{◌≡◌, ℕ, ◌+◌, ◌-◌, ◌≤◌, refl, arith}
use Rattle.dg_disk.specs.Counts.{raised_by, Rose}
use Rattle.dg_index.specs.OpenedIndex.{Opening}
use Rattle.dg_file.specs.Images.{taken_after}
use Rattle.dg_file.specs.Index.{opening_bytes}
use Rattle.dg_file.proofs.ImageParts.{taken_bound}

start_most : (o : Opening) (t start : ℕ) → start ≡ raised_by (opening_bytes o) t → start ≤ t + o.used
start_most o t start s = omega (arith, s)

-- at the lengths
pub lengths_most : (o : Opening) (offset len t start one : ℕ) → offset ≡ o.used → o.used ≤ len → one ≤ start + (len - offset) → start ≡ raised_by (opening_bytes o) t → one ≤ t + len
lengths_most o offset len t start one same within one_most s =
    let most = start_most o t start s in
    room o.used offset len t start one same within one_most most
  where
    room : (used offset len t start one : ℕ) → offset ≡ used → used ≤ len → one ≤ start + (len - offset) → start ≤ t + used → one ≤ t + len
    room used offset len t start one same within one_most most = omega arith

most : (used offset directory columns len t start one two three : ℕ) → offset ≡ used → offset + 17 + directory + columns ≤ len → start ≤ t + used → one ≤ start + 16 → two ≤ one + directory → three ≤ two + 1 → three ≤ t + len
most used offset directory columns len t start one two three same fits s o w h = omega arith

raised_most : (n count new : ℕ) → new ≡ raised_by n count → new ≤ count + n
raised_most n count new is = omega (arith, is)

pub after_most : (n count new : ℕ) → new ≡ taken_after n count → new ≤ count + n
after_most n count new is = omega (arith, is, taken_bound n count)

same_most : (n count new : ℕ) → new ≡ count → new ≤ count + n
same_most n count new is = omega (arith, is)

-- at the directory
pub directory_most : (o : Opening) (offset directory columns len t start one two : ℕ) → offset ≡ o.used → offset + 17 + directory + columns ≤ len → one ≡ raised_by 16 start → two ≤ one + directory → start ≡ raised_by (opening_bytes o) t → two ≤ t + len
directory_most o offset directory columns len t start one two same fits l d s =
    most o.used offset directory columns len t start one two two same fits (start_most o t start s) (raised_most 16 start one l) d (same_most 1 two two refl)

-- at the gate, which did not come
pub gate_most : (o : Opening) (offset directory columns len t start one two three : ℕ) → offset ≡ o.used → offset + 17 + directory + columns ≤ len → one ≡ raised_by 16 start → two ≡ taken_after directory one → three ≡ two → start ≡ raised_by (opening_bytes o) t → three ≤ t + len
gate_most o offset directory columns len t start one two three same fits l d g s =
    most o.used offset directory columns len t start one two three same fits (start_most o t start s) (raised_most 16 start one l) (after_most directory one two d) (same_most 1 two three g)

-- behind the gate
pub behind_most : (o : Opening) (offset directory columns len t start one two three : ℕ) → offset ≡ o.used → offset + 17 + directory + columns ≤ len → one ≡ raised_by 16 start → two ≡ taken_after directory one → three ≡ raised_by 1 two → start ≡ raised_by (opening_bytes o) t → three ≤ t + len
behind_most o offset directory columns len t start one two three same fits l d g s =
    most o.used offset directory columns len t start one two three same fits (start_most o t start s) (raised_most 16 start one l) (after_most directory one two d) (raised_most 1 two three g)

-- the bytes of a segment that were read, at its directory, at its gate and behind it
pub found_reads : (directory start one two : ℕ) → one ≡ raised_by 16 start → two ≤ one + directory → two ≤ start + (17 + directory)
found_reads directory start one two l d = omega (arith, raised_most 16 start one l, d)

pub gate_reads : (directory start one two three : ℕ) → one ≡ raised_by 16 start → two ≡ taken_after directory one → three ≡ two → three ≤ start + (17 + directory)
gate_reads directory start one two three l d g = omega (arith, raised_most 16 start one l, after_most directory one two d, g)

pub behind_reads : (directory start one two three : ℕ) → one ≡ raised_by 16 start → two ≡ taken_after directory one → three ≡ raised_by 1 two → three ≤ start + (17 + directory)
behind_reads directory start one two three l d g = omega (arith, raised_most 16 start one l, after_most directory one two d, raised_most 1 two three g)

-- a count that rose behind two others that did not fall
pub rose_after : (a b c d : ℕ) → a ≤ b → b ≤ c → Rose c d → Rose a d
rose_after a b c d one two rose = omega (arith, rose)
