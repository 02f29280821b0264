-- What the images of parts come to as the beginning of a run.
use Rattle.std.specs.Prelude.{◌≡◌, ◌≢◌, ℕ, ◌<◌, Bool, false, List, [], ◌∷◌, Option, Some, Ok, Err, if◌then◌else◌, is_some, map, slice_get, true}
use Rattle.std.specs.List.{AllZip}
use Rattle.dg_ask.specs.HeldIndex.{span_held}
use Rattle.dg_index.specs.ImageOfHistory.{is_blank}
use Rattle.dg_index.specs.OpenedIndex.{Opened, opening}
use Rattle.dg_part_runs.specs.declared.status.PartsStatus.{PartsStatus}
use Rattle.dg_part_runs.specs.declared.status.PartsStatus.TheVariants as status
use Rattle.dg_session.specs.SessionStart.{Begins}
use Rattle.dg_start.specs.SessionStart.{Started}

-- the image begins, without a check
abbrev pub MayBegin : List ℕ → Type 0
MayBegin image = (started : Option Started) × Begins false image (Ok started)

-- the image is opened as this index with these names
abbrev pub IsOpenedAs : List ℕ → Opened → Type 0
IsOpenedAs image x = opening image ≡ Ok x

-- the image is that of an index
abbrev pub HasIndex : List ℕ → Type 0
HasIndex image = (x : Opened) × IsOpenedAs image x

-- the history that is opened has an event
abbrev pub has_event : Opened → Bool
has_event x = is_some (span_held (Some x.index))

-- the names of the first of them that has an event; none where none has one
abbrev pub names_among : List Opened → List (List ℕ)
names_among [] = []
names_among (x ∷ parts) = if has_event x then x.names else names_among parts

-- the part has no event, or it has these names
abbrev pub Agrees : List (List ℕ) → Opened → Type 0
Agrees names x = has_event x ≡ true → x.names ≡ names

-- the part has an event, and other names
abbrev pub Differs : List (List ℕ) → Opened → Type 0
Differs names x = (has_event x ≡ true) × (x.names ≢ names)

-- the fact holds of each of them
abbrev pub Each : {A : Type 0} → (A → Type 0) → List A → Type 0
Each {A} Q all = (k : ℕ) (x : A) → slice_get all k ≡ Some x → Q x

-- the fact holds of the one of this number, and the other fact of each before it
pub record IsFirstTo {A : Type 0} (P Q : A → Type 0) (all : List A) (n : ℕ) : Type 0 where
  pub one : A
  pub there : slice_get all n ≡ Some one
  pub is : P one
  pub before : (k : ℕ) (x : A) → k < n → slice_get all k ≡ Some x → Q x

-- Why no run begins over parts with these images, or what holds of them where it does. In this order: each begins; each has
-- an index; and those that have an event have the names of the first that has one. Of a failure of a disk and of want of memory
-- nothing is said.
abbrev pub StartsSo : List (List ℕ) → PartsStatus → Type 0
StartsSo images (status.Refused part fault) = IsFirstTo (λ image. Begins false image (Err fault)) MayBegin images part
StartsSo images (status.NoIndex part) = Each MayBegin images × IsFirstTo (λ image. is_blank image ≡ true) HasIndex images part
StartsSo images (status.Mismatch part) =
    Each MayBegin images
    × ((opened : List Opened) × AllZip IsOpenedAs images opened × IsFirstTo (Differs (names_among opened)) (Agrees (names_among opened)) opened part)
StartsSo images status.DiskFault = Unit {0}
StartsSo images status.NoMemory = Unit {0}
StartsSo images s =
    Each MayBegin images × ((opened : List Opened) × AllZip IsOpenedAs images opened × Each (Agrees (names_among opened)) opened)

-- the disks tell these images
abbrev pub AreTold : List (Option (List ℕ)) → List (List ℕ) → Type 0
AreTold told images = told ≡ map (λ image. Some image) images
