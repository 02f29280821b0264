-- How a run over parts begins, or why it does not, by the images of the parts.
use Rattle.std.proofs.Common.{◌≡◌, ℕ, zero, suc, ◌<◌, ◌⊎◌, inl, inr, true, false, List, [], ◌∷◌, Option, Some, None, Ok, Err, IfSome, map, refl, sym, ap, ◌∙◌, subst}
use Rattle.std.specs.Prelude.{if◌then◌else◌, is_some, slice_get}
use Rattle.std.specs.List.{AllZip}
use Rattle.dg_ask.specs.HeldIndex.{span_held}
use Rattle.dg_history.specs.History.{History}
use Rattle.dg_index.specs.ImageOfHistory.{StandsAs, is_blank}
use Rattle.dg_index.specs.OpenedIndex.{Opened, Opening, opening}
use Rattle.dg_machine.specs.declared.limits.Limits.{Limits}
use Rattle.dg_session.specs.declared.session_fault.SessionFault.{SessionFault}
use Rattle.dg_session.specs.declared.session_fault.SessionFault.TheVariants as fault
use Rattle.dg_session.specs.Session.{HoldsImage, StandsFor}
use Rattle.dg_session.specs.SessionStart.{Begins, IsNew, RefusesSession}
use Rattle.dg_session.specs.SessionState.{SessionState}
use Rattle.dg_start.specs.declared.fault.StartFault.TheVariants as start_fault
use Rattle.dg_start.specs.SessionStart.{started_with}
use Rattle.dg_machine.specs.MachineState.{machine_at}
use Rattle.dg_stored.specs.StoredHistory.{IsHeldBy}
use Rattle.dg_part_runs.specs.declared.sessions.PartSessions.{PartSessions}
use Rattle.dg_part_runs.specs.declared.status.PartsStatus.{PartsStatus}
use Rattle.dg_part_runs.specs.declared.status.PartsStatus.TheVariants as status
use Rattle.dg_part_runs.specs.HeldParts.{AreParts, AreStanding, IsPart, names_kept, span_kept}
use Rattle.dg_part_runs.specs.PartDamage.{BeginsWith}
use Rattle.dg_part_runs.specs.PartsServed.{AreImagesOf, TellsHistory}
use Rattle.dg_part_runs.specs.PartsStatuses.{ending_at}
use Rattle.dg_part_runs.specs.PartStarts.{Agrees, AreTold, Differs, Each, HasIndex, IsFirstTo, IsOpenedAs, MayBegin, StartsSo, has_event, names_among}
use Rattle.dg_part_runs.specs.StartedParts.{AgreesKept, AreBegun, AreNotBegun, AreStarted, DiffersKept, IsRefused, IsStarted, KeepsIndex, LacksIndex, StopsAt}
use Rattle.dg_part_runs.proofs.ZippedLists.{zip_as}

-- ---- lists

pub first_as : {A : Type 0} (P Q R S : A → Type 0) → ((x : A) → P x → R x) → ((x : A) → Q x → S x) → (all : List A) (n : ℕ) → IsFirstTo P Q all n → IsFirstTo R S all n
first_as P Q R S f g all n first =
    record { one = first.one; there = first.there; is = f first.one first.is; before = λ k x lt at. g x (first.before k x lt at) }

get_map : {A B : Type 0} (f : A → B) (xs : List A) (n : ℕ) (x : A) → slice_get xs n ≡ Some x → slice_get (map f xs) n ≡ Some (f x)
get_map f [] n x at = absurd (cc)
get_map f (y ∷ xs) zero x at = let same : y ≡ x = cc in ap (λ v. Some (f v)) same
get_map f (y ∷ xs) (suc n) x at = get_map f xs n x at

get_mapped : {A B : Type 0} (f : A → B) (xs : List A) (n : ℕ) (y : B) → slice_get (map f xs) n ≡ Some y → (x : A) × (slice_get xs n ≡ Some x) × (y ≡ f x)
get_mapped f [] n y at = absurd (cc)
get_mapped f (x ∷ xs) zero y at = (x, refl, (let same : y ≡ f x = cc in same))
get_mapped f (x ∷ xs) (suc n) y at = get_mapped f xs n y at

-- what the first of the told images is, the first of the images is
first_told : (P Q : List ℕ → Type 0) (images : List (List ℕ)) (n : ℕ) → IsFirstTo (λ o. IfSome o P) (λ o. IfSome o Q) (map (λ image. Some image) images) n → IsFirstTo P Q images n
first_told P Q images n first =
    let at = get_mapped (λ (image : List ℕ). Some image) images n first.one first.there in
    record {
      one = at.0;
      there = at.1;
      is = subst (λ o. IfSome o P) at.2 first.is;
      before = λ k x lt there. first.before k (Some x) lt (get_map (λ (image : List ℕ). Some image) images k x there);
    }

zip_get : {A B : Type 0} (R : A → B → Type 0) (xs : List A) (ys : List B) (n : ℕ) (x : A) → AllZip R xs ys → slice_get xs n ≡ Some x → (y : B) × (slice_get ys n ≡ Some y) × R x y
zip_get R [] [] n x all at = absurd (cc)
zip_get R [] (b ∷ ys) n x all at = absurd all
zip_get R (a ∷ xs) [] n x all at = absurd all
zip_get R (a ∷ xs) (b ∷ ys) zero x all at = let same : a ≡ x = cc in (b, refl, subst (λ v. R v b) same all.0)
zip_get R (a ∷ xs) (b ∷ ys) (suc n) x all at = zip_get R xs ys n x all.1 at

zip_got : {A B : Type 0} (R : A → B → Type 0) (xs : List A) (ys : List B) (n : ℕ) (y : B) → AllZip R xs ys → slice_get ys n ≡ Some y → (x : A) × (slice_get xs n ≡ Some x) × R x y
zip_got R [] [] n y all at = absurd (cc)
zip_got R [] (b ∷ ys) n y all at = absurd all
zip_got R (a ∷ xs) [] n y all at = absurd all
zip_got R (a ∷ xs) (b ∷ ys) zero y all at = let same : b ≡ y = cc in (a, refl, subst (λ v. R a v) same all.0)
zip_got R (a ∷ xs) (b ∷ ys) (suc n) y all at = zip_got R xs ys n y all.1 at

-- what is said of the first in one list, said of the one beside it
first_beside : {A B : Type 0} (T : A → B → Type 0) (P Q : A → Type 0) (R S : B → Type 0) → ((x : A) (y : B) → T x y → P x → R y) → ((x : A) (y : B) → T x y → Q x → S y)
    → (xs : List A) (ys : List B) (n : ℕ) → AllZip T xs ys → IsFirstTo P Q xs n → IsFirstTo R S ys n
first_beside T P Q R S f g xs ys n all first =
    let at = zip_get T xs ys n first.one all first.there in
    record {
      one = at.0;
      there = at.1;
      is = f first.one at.0 at.2 first.is;
      before = λ k y lt there. let other = zip_got T xs ys k y all there in g other.0 y other.2 (first.before k other.0 lt other.1);
    }

each_beside : {A B : Type 0} (T : A → B → Type 0) (Q : A → Type 0) (S : B → Type 0) → ((x : A) (y : B) → T x y → Q x → S y) → (xs : List A) (ys : List B) → AllZip T xs ys → Each Q xs → Each S ys
each_beside T Q S g xs ys all each = λ k y there. let other = zip_got T xs ys k y all there in g other.0 y other.2 (each k other.0 other.1)

-- ---- one part does not begin

-- the fault is neither the disk's nor memory's
stops_refused : (told : List (Option (List ℕ))) (part : ℕ) (f : SessionFault) (one : Option (List ℕ)) → slice_get told part ≡ Some one
    → ((k : ℕ) (x : Option (List ℕ)) → k < part → slice_get told k ≡ Some x → IfSome x MayBegin) → IfSome one (λ image. Begins false image (Err f))
    → IfSome one (λ image. (index : Option History) → StandsAs index image → ⊥) → StopsAt told (status.Refused part f)
stops_refused told part f one there before why never = record {
  one = one;
  there = there;
  is = record { why = why; never = λ z tells. subst (λ o. IfSome o (λ image. (index : Option History) → StandsAs index image → ⊥)) tells.1 never (Some z) tells.2 };
  before = before;
}

if_some_to : (P Q : List ℕ → Type 0) → ((x : List ℕ) → P x → Q x) → (o : Option (List ℕ)) → IfSome o P → IfSome o Q
if_some_to P Q f (Some x) is = f x is
if_some_to P Q f None is = tt

abbrev pub NeverFor : SessionFault → List ℕ → Type 0
NeverFor f image = (index : Option History) → StandsAs index image → (f ≡ fault.Start start_fault.Disk) ⊎ (f ≡ fault.Start start_fault.Memory)

neither : (f : SessionFault) → ((f ≡ fault.Start start_fault.Disk) ⊎ (f ≡ fault.Start start_fault.Memory) → ⊥) → (one : Option (List ℕ)) → IfSome one (NeverFor f)
    → IfSome one (λ image. (index : Option History) → StandsAs index image → ⊥)
neither f other one never = if_some_to (NeverFor f) (λ image. (index : Option History) → StandsAs index image → ⊥) (λ image is index stands. other (is index stands)) one never

pub stops_at : (told : List (Option (List ℕ))) (part : ℕ) (f : SessionFault) (one : Option (List ℕ)) → slice_get told part ≡ Some one
    → ((k : ℕ) (x : Option (List ℕ)) → k < part → slice_get told k ≡ Some x → IfSome x MayBegin) → IfSome one (λ image. RefusesSession false f image)
    → IfSome one (NeverFor f) → StopsAt told (ending_at part f)
stops_at told part (fault.Start start_fault.Disk) one there before why never = tt
stops_at told part (fault.Start start_fault.Memory) one there before why never = tt
stops_at told part (fault.Start start_fault.Foreign) one there before why never =
    stops_refused told part (fault.Start start_fault.Foreign) one there before why (neither (fault.Start start_fault.Foreign) other one never)
  where
    other : (fault.Start start_fault.Foreign ≡ fault.Start start_fault.Disk) ⊎ (fault.Start start_fault.Foreign ≡ fault.Start start_fault.Memory) → ⊥
    other (inl is) = absurd (cc)
    other (inr is) = absurd (cc)
stops_at told part (fault.Start (start_fault.Damaged offset)) one there before why never =
    stops_refused told part (fault.Start (start_fault.Damaged offset)) one there before why (neither (fault.Start (start_fault.Damaged offset)) other one never)
  where
    other : (fault.Start (start_fault.Damaged offset) ≡ fault.Start start_fault.Disk) ⊎ (fault.Start (start_fault.Damaged offset) ≡ fault.Start start_fault.Memory) → ⊥
    other (inl is) = absurd (cc)
    other (inr is) = absurd (cc)
stops_at told part (fault.Start (start_fault.BadRecord key col)) one there before why never =
    stops_refused told part (fault.Start (start_fault.BadRecord key col)) one there before why (neither (fault.Start (start_fault.BadRecord key col)) other one never)
  where
    other : (fault.Start (start_fault.BadRecord key col) ≡ fault.Start start_fault.Disk) ⊎ (fault.Start (start_fault.BadRecord key col) ≡ fault.Start start_fault.Memory) → ⊥
    other (inl is) = absurd (cc)
    other (inr is) = absurd (cc)
stops_at told part (fault.Start start_fault.NotGraph) one there before why never =
    stops_refused told part (fault.Start start_fault.NotGraph) one there before why (neither (fault.Start start_fault.NotGraph) other one never)
  where
    other : (fault.Start start_fault.NotGraph ≡ fault.Start start_fault.Disk) ⊎ (fault.Start start_fault.NotGraph ≡ fault.Start start_fault.Memory) → ⊥
    other (inl is) = absurd (cc)
    other (inr is) = absurd (cc)
stops_at told part (fault.Start (start_fault.BadRecent number)) one there before why never =
    stops_refused told part (fault.Start (start_fault.BadRecent number)) one there before why (neither (fault.Start (start_fault.BadRecent number)) other one never)
  where
    other : (fault.Start (start_fault.BadRecent number) ≡ fault.Start start_fault.Disk) ⊎ (fault.Start (start_fault.BadRecent number) ≡ fault.Start start_fault.Memory) → ⊥
    other (inl is) = absurd (cc)
    other (inr is) = absurd (cc)
stops_at told part (fault.Unsound key col) one there before why never =
    stops_refused told part (fault.Unsound key col) one there before why (neither (fault.Unsound key col) other one never)
  where
    other : (fault.Unsound key col ≡ fault.Start start_fault.Disk) ⊎ (fault.Unsound key col ≡ fault.Start start_fault.Memory) → ⊥
    other (inl is) = absurd (cc)
    other (inr is) = absurd (cc)

-- a told list of images, as it is
starts_refused : (told : List (Option (List ℕ))) (part : ℕ) (f : SessionFault) → StopsAt told (status.Refused part f) → (images : List (List ℕ)) → AreTold told images → StartsSo images (status.Refused part f)
starts_refused told part f first images is =
    first_told (λ image. Begins false image (Err f)) MayBegin images part
    (subst (λ (l : List (Option (List ℕ))). IsFirstTo (λ o. IfSome o (λ image. Begins false image (Err f))) (λ o. IfSome o MayBegin) l part) is
    (first_as (IsRefused f) (λ o. IfSome o MayBegin) (λ o. IfSome o (λ image. Begins false image (Err f))) (λ o. IfSome o MayBegin) (λ o r. r.why) (λ o r. r) told part first))

pub stops_begun : (told : List (Option (List ℕ))) (s : PartsStatus) → StopsAt told s → AreNotBegun told s
stops_begun told (status.Refused part f) stops = record {
  unbegun = refl;
  starts = starts_refused told part f stops;
  never_refused = λ zs images p g is. let at = zip_get TellsHistory told zs part stops.one images stops.there in stops.is.never at.0 at.2;
  never_blank = λ zs images p is. absurd (cc);
}
stops_begun told status.DiskFault stops = record { unbegun = refl; starts = λ images is. tt; never_refused = λ zs images p g is. absurd (cc); never_blank = λ zs images p is. absurd (cc) }
stops_begun told status.NoMemory stops = record { unbegun = refl; starts = λ images is. tt; never_refused = λ zs images p g is. absurd (cc); never_blank = λ zs images p is. absurd (cc) }
stops_begun told status.Done stops = absurd stops
stops_begun told status.SourceFault stops = absurd stops
stops_begun told status.SinkFault stops = absurd stops
stops_begun told status.ScriptLimit stops = absurd stops
stops_begun told (status.NoIndex part) stops = absurd stops
stops_begun told (status.Mismatch part) stops = absurd stops

-- ---- all parts begin

-- over an image that a session was begun over, one may begin
pub may_begin : (s : SessionState) (told : Option (List ℕ)) → IfSome told (BeginsWith s) → IfSome told MayBegin
may_begin s told began = if_some_to (BeginsWith s) MayBegin (λ image is. (started_with s.parts.index s.parts.names s.parts.graph s.parts.recent, is)) told began

module _ (limits : Limits) (sessions : List SessionState) (told : List (Option (List ℕ))) (started : AreStarted limits sessions told) where
  pub are_parts : AreParts limits sessions told
  are_parts = zip_as (IsStarted limits) (IsPart limits) (λ s o is. is.part) sessions told started

  all_begin : (images : List (List ℕ)) → AreTold told images → Each MayBegin images
  all_begin images is = λ k image there.
      let at = zip_got (IsStarted limits) sessions told k (Some image) started (ap (λ (l : List (Option (List ℕ))). slice_get l k) is ∙ get_map (λ (x : List ℕ). Some x) images k image there) in
      may_begin at.0 (Some image) at.2.began

-- the session and what its image is opened as
record Opens (s : SessionState) (x : Opened) : Type 0 where
  index : s.parts.index ≡ Some x.index
  names : x.names ≡ s.parts.names

opens_one : (s : SessionState) → KeepsIndex s → (x : Opened) × Opens s x
opens_one s keeps = by s.parts.index refl keeps
  where
    by : (index : Option Opening) → s.parts.index ≡ index → is_some index ≡ true → (x : Opened) × Opens s x
    by None at some = absurd (cc)
    by (Some o) at some = (record { index = o; names = s.parts.names }, record { index = at; names = refl })

opens_all : (sessions : List SessionState) → Each KeepsIndex sessions → (opened : List Opened) × AllZip Opens sessions opened
opens_all [] each = ([], tt)
opens_all (s ∷ sessions) each =
    let one = opens_one s (each 0 s refl) in
    let more = opens_all sessions (λ k x there. each (suc k) x there) in
    (one.0 ∷ more.0, (one.1, more.1))

event_same : (s : SessionState) (x : Opened) → Opens s x → is_some (span_kept s) ≡ has_event x
event_same s x o = ap (λ (index : Option Opening). is_some (span_held index)) o.index

names_opened : (sessions : List SessionState) (opened : List Opened) → AllZip Opens sessions opened → names_kept [] sessions ≡ names_among opened
names_opened [] [] all = refl
names_opened [] (x ∷ opened) all = absurd all
names_opened (s ∷ sessions) [] all = absurd all
names_opened (s ∷ sessions) (x ∷ opened) all =
    let event = event_same s x all.0 in
    let names = sym all.0.names in
    let more = names_opened sessions opened all.1 in
    λ i. if event i then names i else more i

opened_images : (limits : Limits) (sessions : List SessionState) (images : List (List ℕ)) (opened : List Opened) → AreStarted limits sessions (map (λ image. Some image) images) → AllZip Opens sessions opened → AllZip IsOpenedAs images opened
opened_images limits [] [] [] started all = tt
opened_images limits [] [] (x ∷ opened) started all = absurd all
opened_images limits [] (image ∷ images) opened started all = absurd started
opened_images limits (s ∷ sessions) [] opened started all = absurd started
opened_images limits (s ∷ sessions) (image ∷ images) [] started all = absurd all
opened_images limits (s ∷ sessions) (image ∷ images) (x ∷ opened) started all =
    (one, opened_images limits sessions images opened started.1 all.1)
  where
    one : opening image ≡ Ok x
    one =
        let held : IsHeldBy (Some x.index) s.parts.names image = subst (λ (index : Option Opening). IsHeldBy index s.parts.names image) all.0.index started.0.part.holds in
        let names = sym all.0.names in
        held ∙ (λ i. Ok (record { index = x.index; names = names i }))

module _ (limits : Limits) (sessions : List SessionState) (told : List (Option (List ℕ))) (started : AreStarted limits sessions told) where
  told_so : (images : List (List ℕ)) → AreTold told images → AreStarted limits sessions (map (λ image. Some image) images)
  told_so images is = subst (λ (l : List (Option (List ℕ))). AreStarted limits sessions l) is started

  -- a part lacks an index
  pub starts_blank : (part : ℕ) → IsFirstTo LacksIndex KeepsIndex sessions part → AreNotBegun told (status.NoIndex part)
  starts_blank part first = record {
    unbegun = refl;
    starts = λ images is. (
      all_begin limits sessions told started images is,
      first_told (λ image. is_blank image ≡ true) HasIndex images part
          (first_beside (IsStarted limits) LacksIndex KeepsIndex (λ o. IfSome o (λ image. is_blank image ≡ true)) (λ o. IfSome o HasIndex) blank there sessions (map (λ image. Some image) images) part
          (told_so images is) first),
    );
    never_refused = λ zs images p g is. absurd (cc);
    never_blank = λ zs images p is.
        let at = zip_get (IsStarted limits) sessions told part first.one started first.there in
        let z = zip_get TellsHistory told zs part at.0 images at.1 in
        let stands = at.2.stands z.0 z.2 in
        absurd (let f = sym first.is ∙ stands.2.kept.index_is in cc);
  }
    where
      blank : (s : SessionState) (o : Option (List ℕ)) → IsStarted limits s o → LacksIndex s → IfSome o (λ image. is_blank image ≡ true)
      blank s None is lacks = tt
      blank s (Some image) is lacks = subst (λ (index : Option Opening). IsHeldBy index s.parts.names image) lacks is.part.holds

      there : (s : SessionState) (o : Option (List ℕ)) → IsStarted limits s o → KeepsIndex s → IfSome o HasIndex
      there s None is keeps = tt
      there s (Some image) is keeps =
          let one = opens_one s keeps in
          (record { index = one.0.index; names = s.parts.names }, subst (λ (index : Option Opening). IsHeldBy index s.parts.names image) one.1.index is.part.holds)

  module _ (each : Each KeepsIndex sessions) where
    -- the names of a part are others
    pub starts_other : (part : ℕ) → IsFirstTo (DiffersKept (names_kept [] sessions)) (AgreesKept (names_kept [] sessions)) sessions part → AreNotBegun told (status.Mismatch part)
    starts_other part first = record {
      unbegun = refl;
      starts = λ images is.
          let opened = opens_all sessions each in (
            all_begin limits sessions told started images is,
            (
              opened.0,
              opened_images limits sessions images opened.0 (told_so images is) opened.1,
              first_beside Opens (DiffersKept (names_kept [] sessions)) (AgreesKept (names_kept [] sessions)) (Differs (names_among opened.0)) (Agrees (names_among opened.0))
                  (λ s x o differs. (sym (event_same s x o) ∙ differs.0, λ same. differs.1 (sym o.names ∙ same ∙ sym (names_opened sessions opened.0 opened.1))))
                  (λ s x o agrees has. o.names ∙ agrees (event_same s x o ∙ has) ∙ names_opened sessions opened.0 opened.1)
                  sessions opened.0 part opened.1 first,
            ),
          );
      never_refused = λ zs images p g is. absurd (cc);
      never_blank = λ zs images p is. absurd (cc);
    }

    -- the parts begin
    pub starts_done : Each (AgreesKept (names_kept [] sessions)) sessions → (images : List (List ℕ)) → AreTold told images → StartsSo images status.Done
    starts_done agree = λ images is.
        let opened = opens_all sessions each in (
          all_begin limits sessions told started images is,
          (
            opened.0,
            opened_images limits sessions images opened.0 (told_so images is) opened.1,
            each_beside Opens (AgreesKept (names_kept [] sessions)) (Agrees (names_among opened.0))
                (λ s x o agrees has. o.names ∙ agrees (event_same s x o ∙ has) ∙ names_opened sessions opened.0 opened.1) sessions opened.0 opened.1 agree,
          ),
        )

-- the sessions stand for the histories of the images
pub standing : (limits : Limits) (sessions : List SessionState) (told : List (Option (List ℕ))) (zs : List History) → AreStarted limits sessions told → AreImagesOf told zs → AreStanding limits sessions told zs
standing limits [] [] [] started images = tt
standing limits [] [] (z ∷ zs) started images = absurd images
standing limits [] (o ∷ told) zs started images = absurd started
standing limits (s ∷ sessions) [] zs started images = absurd started
standing limits (s ∷ sessions) (o ∷ told) [] started images = absurd images
standing limits (s ∷ sessions) (o ∷ told) (z ∷ zs) started images = (started.0.stands z images.0, standing limits sessions told zs started.1 images.1)

-- ---- one part more

pub started_one : (limits : Limits) (s : SessionState) (told : Option (List ℕ)) → IsNew limits s.parts → HoldsImage s.parts told → IfSome told (BeginsWith s)
    → IfSome told (λ image. (index : Option History) → StandsAs index image → StandsFor s.parts image (machine_at limits index)) → IsStarted limits s told
started_one limits s told new holds began stands = record {
  part = record { new = new; holds = holds };
  began = began;
  stands = λ z tells. (
    tells.0,
    tells.1,
    subst (λ o. IfSome o (λ image. (index : Option History) → StandsAs index image → StandsFor s.parts image (machine_at limits index))) tells.1 stands (Some z) tells.2,
  );
}

pub disk_ending : (part : ℕ) (f : SessionFault) → ending_at part f ≡ status.DiskFault → f ≡ fault.Start start_fault.Disk
disk_ending part (fault.Start start_fault.Disk) is = refl
disk_ending part (fault.Start start_fault.Foreign) is = absurd (cc)
disk_ending part (fault.Start (start_fault.Damaged offset)) is = absurd (cc)
disk_ending part (fault.Start (start_fault.BadRecord key col)) is = absurd (cc)
disk_ending part (fault.Start start_fault.NotGraph) is = absurd (cc)
disk_ending part (fault.Start (start_fault.BadRecent number)) is = absurd (cc)
disk_ending part (fault.Start start_fault.Memory) is = absurd (cc)
disk_ending part (fault.Unsound key col) is = absurd (cc)

-- ---- the start, by what it has seen

module _ (limits : Limits) (sessions seen : List SessionState) (told : List (Option (List ℕ))) (none : List (List ℕ)) (is_seen : seen ≡ sessions) (is_none : none ≡ []) (started : AreStarted limits sessions told) where
  pub blank_seen : (part : ℕ) → IsFirstTo LacksIndex KeepsIndex seen part → AreNotBegun told (status.NoIndex part)
  blank_seen part first = starts_blank limits sessions told started part (subst (λ (l : List SessionState). IsFirstTo LacksIndex KeepsIndex l part) is_seen first)

  each_kept : Each KeepsIndex seen → Each KeepsIndex sessions
  each_kept each = subst (λ (l : List SessionState). Each KeepsIndex l) is_seen each

  module _ (other : List SessionState) (is_other : other ≡ sessions) (each : Each KeepsIndex seen) where
    pub other_seen : (part : ℕ) → IsFirstTo (DiffersKept (names_kept none other)) (AgreesKept (names_kept none other)) other part → AreNotBegun told (status.Mismatch part)
    other_seen part first =
        starts_other limits sessions told started (each_kept each) part
        (subst (λ (l : List SessionState). IsFirstTo (DiffersKept (names_kept [] l)) (AgreesKept (names_kept [] l)) l part) is_other
        (subst (λ (n : List (List ℕ)). IsFirstTo (DiffersKept (names_kept n other)) (AgreesKept (names_kept n other)) other part) is_none first))

    pub begun_seen : (m : PartSessions) → m.sessions.items ≡ sessions → m.handles.sets ≡ [] → m.handles.next ≡ limits.first_handle → m.nameless ≡ none
        → Each (AgreesKept (names_kept none other)) other → AreBegun limits told m
    begun_seen m same sets next nameless agree = record {
      started = subst (λ (l : List SessionState). AreStarted limits l told) (sym same) started;
      starts = starts_done limits sessions told started (each_kept each)
          (subst (λ (l : List SessionState). Each (AgreesKept (names_kept [] l)) l) is_other
          (subst (λ (n : List (List ℕ)). Each (AgreesKept (names_kept n other)) other) is_none agree));
      sets = sets;
      next = next;
      nameless = nameless ∙ is_none;
    }
