-- What a session that is checked begins with, or why it does not begin.
use Rattle.std.proofs.Common.{◌≡◌, ◌⊎◌, inl, inr, ℕ, Bool, true, false, List, Option, Some, None, Result, Ok, Err, cond, sym, ◌∙◌, ap, subst}
use Rattle.std.specs.Prelude.{IfErr, IfOk, IfSome, OnOk}
use Rattle.dg_columns.specs.ColumnLaws.{AreBytes}
use Rattle.dg_graph.specs.declared.element.Column.{Column}
use Rattle.dg_history.specs.declared.node.Key.{Key}
use Rattle.dg_history.specs.History.{History}
use Rattle.dg_index.specs.FileLaws.{ImagesAreOpened}
use Rattle.dg_index.specs.ImageOfHistory.{StandsAs, is_blank}
use Rattle.dg_index.specs.ImageText.{header_in}
use Rattle.dg_index.specs.OpenedIndex.{No_index, Opened, Opening, Unopened, opened_by, opened_of, opening}
use Rattle.dg_machine.specs.declared.limits.Limits.{Limits}
use Rattle.dg_machine.specs.MachineState.{machine_at}
use Rattle.dg_session.specs.declared.session_fault.SessionFault.{SessionFault}
use Rattle.dg_session.specs.declared.session_fault.SessionFault.TheVariants as fault
use Rattle.dg_session.specs.Parts.{Parts}
use Rattle.dg_session.specs.Session.{StandsFor}
use Rattle.dg_session.specs.SessionState.{SessionState}
use Rattle.dg_session.specs.SessionStart.{Begins, FailsCheck, IsNew, IsSoundImage, IsStanding, IsUnsoundImage, RefusesSession}
use Rattle.dg_sound.specs.declared.soundness.Soundness.TheVariants.{Sound, Unsound}
use Rattle.dg_sound.specs.Soundness.{soundness_of}
use Rattle.dg_sound_files.specs.SoundFiles.{SoundFilesStand, StandingFilesAreSound}
use Rattle.dg_start.specs.declared.fault.StartFault.{StartFault}
use Rattle.dg_start.specs.declared.fault.StartFault.TheVariants as start_fault
use Rattle.dg_start.specs.SessionStart.{RefusesStart, Started, Starts, StartsAreDetermined, started_with}
use Rattle.dg_stored.specs.StoredHistory.{IsHeldBy}

-- the fact holds of the image, where it is told, since another does
pub told_so : (told : Option (List ℕ)) (P Q : List ℕ → Type 0) → ((image : List ℕ) → P image → Q image) → IfSome told P → IfSome told Q
told_so None P Q each h = tt
told_so (Some image) P Q each h = each image h

-- ---- an image comes to one beginning

-- an image is opened as one index
one_opened : (image : List ℕ) (x y : Opened) → opening image ≡ Ok x → opening image ≡ Ok y → x ≡ y
one_opened image x y a b = let same : ◌≡◌ {A = Result Opened Unopened} (Ok x) (Ok y) = sym a ∙ b in cc

-- no image is sound and unsound
not_both : (image : List ℕ) (key : Key) (col : Column) → IsSoundImage image → IsUnsoundImage image key col → ⊥
not_both image key col sound unsound =
    let found = sound unsound.0 unsound.1 in
    let same : Sound found.0 ≡ Unsound key col = sym found.1 ∙ unsound.2 in cc

-- an image is unsound in one index
one_damage : (image : List ℕ) (k l : Key) (c d : Column) → IsUnsoundImage image k c → IsUnsoundImage image l d → Unsound k c ≡ Unsound l d
one_damage image k l c d a b = sym a.2 ∙ ap (soundness_of image) (one_opened image a.0 b.0 a.1 b.1) ∙ b.2

pub begins_determined : StartsAreDetermined → (checked : Bool) (image : List ℕ) (a b : Result (Option Started) SessionFault) → Begins checked image a → Begins checked image b → a ≡ b
begins_determined law checked image (Ok s) (Ok t) a b =
    let same : ◌≡◌ {A = Result (Option Started) StartFault} (Ok s) (Ok t) = law image (Ok s) (Ok t) a.0 b.0 in cc
begins_determined law checked image (Ok s) (Err (fault.Start g)) a b =
    let same : ◌≡◌ {A = Result (Option Started) StartFault} (Ok s) (Err g) = law image (Ok s) (Err g) a.0 b in cc
begins_determined law checked image (Ok s) (Err (fault.Unsound l d)) a b = absurd (not_both image l d (a.1 b.2) b.3)
begins_determined law checked image (Err (fault.Start f)) (Ok t) a b =
    let same : ◌≡◌ {A = Result (Option Started) StartFault} (Err f) (Ok t) = law image (Err f) (Ok t) a b.0 in cc
begins_determined law checked image (Err (fault.Start f)) (Err (fault.Start g)) a b =
    let same : ◌≡◌ {A = Result (Option Started) StartFault} (Err f) (Err g) = law image (Err f) (Err g) a b in cc
begins_determined law checked image (Err (fault.Start f)) (Err (fault.Unsound l d)) a b =
    let same : ◌≡◌ {A = Result (Option Started) StartFault} (Err f) (Ok b.0) = law image (Err f) (Ok b.0) a b.1 in cc
begins_determined law checked image (Err (fault.Unsound k c)) (Ok t) a b = absurd (not_both image k c (b.1 a.2) a.3)
begins_determined law checked image (Err (fault.Unsound k c)) (Err (fault.Start g)) a b =
    let same : ◌≡◌ {A = Result (Option Started) StartFault} (Ok a.0) (Err g) = law image (Ok a.0) (Err g) a.1 b in cc
begins_determined law checked image (Err (fault.Unsound k c)) (Err (fault.Unsound l d)) a b =
    let same : Unsound k c ≡ Unsound l d = one_damage image k l c d a.3 b.3 in cc

-- where there is no index, nothing is opened
not_opened : (image : List ℕ) (x : Opened) → is_blank image ≡ true → opening image ≡ Ok x → ⊥
not_opened image x blank e =
    let none : opening image ≡ Err No_index = ap (λ b. cond b (Err No_index) (opened_by image (header_in image))) blank in
    let same : ◌≡◌ {A = Result Opened Unopened} (Err No_index) (Ok x) = sym none ∙ e in cc

-- ---- the beginning

-- what the session that keeps this started with
abbrev pub started_of : Parts → Option Started
started_of p = started_with p.index p.names p.graph p.recent

-- it is not checked
pub begins_unchecked : (checked : Bool) (p : Parts) (told : Option (List ℕ)) → checked ≡ false → IfSome told (λ image. Starts image (Ok (started_of p)))
    → IfSome told (λ image. Begins checked image (Ok (started_of p)))
begins_unchecked checked p told is starts =
    told_so told (λ image. Starts image (Ok (started_of p))) (λ image. Begins checked image (Ok (started_of p))) (λ image h. (h, λ e. absurd (let bad : true ≡ false = sym e ∙ is in cc))) starts

-- it is checked, and found sound
pub begins_sound : (checked : Bool) (p q : Parts) (told mid : Option (List ℕ)) → q ≡ p → mid ≡ told → IfSome told (λ image. Starts image (Ok (started_of p))) → IfSome mid IsSoundImage
    → IfSome told (λ image. Begins checked image (Ok (started_of q)))
begins_sound checked p q None mid same image starts sound = tt
begins_sound checked p q (Some x) mid same image starts sound =
    let whole : IsSoundImage x = subst (λ (o : Option (List ℕ)). IfSome o IsSoundImage) image sound in
    (subst (λ (s : Parts). Starts x (Ok (started_of s))) (sym same) starts, λ e. whole)

standing : SoundFilesStand → (index : Option Opening) (names : List (List ℕ)) (image : List ℕ) → IsHeldBy index names image → IsSoundImage image → AreBytes image → IsStanding image
standing law None names image held sound bytes = (None, held)
standing law (Some o) names image held sound bytes =
    let x : Opened = record { index = o; names = names } in
    let n = sound x held in
    let z = law image x n.0 bytes held n.1 in (Some z.0, z.2)

-- what is checked and found sound stands for a history, or for none
pub stands_checked : SoundFilesStand → (p : Parts) (told mid : Option (List ℕ)) → mid ≡ told → IfSome mid (λ image. IsHeldBy p.index p.names image) → IfSome mid IsSoundImage
    → IfSome told (λ image. AreBytes image → IsStanding image)
stands_checked law p told None same held sound = subst (λ (o : Option (List ℕ)). IfSome o (λ image. AreBytes image → IsStanding image)) same tt
stands_checked law p told (Some x) same held sound =
    subst (λ (o : Option (List ℕ)). IfSome o (λ image. AreBytes image → IsStanding image)) same (λ bytes. standing law p.index p.names x held sound bytes)

-- the same session still stands for its state
pub stands_still : (limits : Limits) (p q : Parts) (told : Option (List ℕ)) → q ≡ p
    → IfSome told (λ image. (index : Option History) → StandsAs index image → StandsFor p image (machine_at limits index))
    → IfSome told (λ image. (index : Option History) → StandsAs index image → StandsFor q image (machine_at limits index))
stands_still limits p q told same h = subst (λ (s : Parts). IfSome told (λ image. (index : Option History) → StandsAs index image → StandsFor s image (machine_at limits index))) (sym same) h

-- its file is held still
pub held_still : (p q : Parts) (mid after : Option (List ℕ)) → q ≡ p → after ≡ mid → IfSome mid (λ image. IsHeldBy p.index p.names image) → IfSome after (λ image. IsHeldBy q.index q.names image)
held_still p q mid after same image h =
    subst (λ (s : Parts). IfSome after (λ x. IsHeldBy s.index s.names x)) (sym same) (subst (λ (o : Option (List ℕ)). IfSome o (λ x. IsHeldBy p.index p.names x)) (sym image) h)

-- ---- no beginning

-- the disk failed, or memory lacked
abbrev pub IsNoFault : SessionFault → Type 0
IsNoFault f = (f ≡ fault.Start start_fault.Disk) ⊎ (f ≡ fault.Start start_fault.Memory)

no_fault : (f : StartFault) → (f ≡ start_fault.Disk) ⊎ (f ≡ start_fault.Memory) → IsNoFault (fault.Start f)
no_fault f (inl e) = inl (ap (λ x. fault.Start x) e)
no_fault f (inr e) = inr (ap (λ x. fault.Start x) e)

-- a file that is not started from begins no session
pub never_started : (f : StartFault) (told : Option (List ℕ)) → IfSome told (λ image. (index : Option History) → StandsAs index image → (f ≡ start_fault.Disk) ⊎ (f ≡ start_fault.Memory))
    → IfSome told (λ image. (index : Option History) → StandsAs index image → IsNoFault (fault.Start f))
never_started f told never =
    told_so told (λ image. (index : Option History) → StandsAs index image → (f ≡ start_fault.Disk) ⊎ (f ≡ start_fault.Memory))
    (λ image. (index : Option History) → StandsAs index image → IsNoFault (fault.Start f)) (λ image none index stands. no_fault f (none index stands)) never

refuses_so : (checked : Bool) (s : Option Started) (f : SessionFault) (image : List ℕ) → checked ≡ true → Starts image (Ok s) → FailsCheck f image → RefusesSession checked f image
refuses_so checked s (fault.Start f) image is starts (inl e) = subst (λ (x : StartFault). RefusesStart x image) (sym e) tt
refuses_so checked s (fault.Start f) image is starts (inr e) = subst (λ (x : StartFault). RefusesStart x image) (sym e) tt
refuses_so checked s (fault.Unsound key col) image is starts unsound = (s, starts, is, unsound)

-- a file that fails its check begins no session
pub refused_checked : (checked : Bool) (s : Option Started) (f : SessionFault) (told mid : Option (List ℕ)) → checked ≡ true → mid ≡ told → IfSome told (λ image. Starts image (Ok s))
    → IfSome mid (λ image. FailsCheck f image) → IfSome told (λ image. RefusesSession checked f image)
refused_checked checked s f None mid is same starts fails = tt
refused_checked checked s f (Some x) mid is same starts fails =
    refuses_so checked s f x is starts (subst (λ (o : Option (List ℕ)). IfSome o (λ image. FailsCheck f image)) same fails)

-- what stands is not unsound
never_unsound : ImagesAreOpened → StandingFilesAreSound → (image : List ℕ) (index : Option History) (key : Key) (col : Column) → StandsAs index image → IsUnsoundImage image key col → ⊥
never_unsound opened law image None key col stands unsound = not_opened image unsound.0 stands unsound.1
never_unsound opened law image (Some z) key col stands unsound =
    let sound = (law z image stands).1 in
    not_both image key col (λ x e. (_, ap (soundness_of image) (one_opened image x (opened_of z) e (opened z image stands)) ∙ sound)) unsound

never_fails : ImagesAreOpened → StandingFilesAreSound → (f : SessionFault) (image : List ℕ) (index : Option History) → StandsAs index image → FailsCheck f image → IsNoFault f
never_fails opened law (fault.Start f) image index stands fails = no_fault f fails
never_fails opened law (fault.Unsound key col) image index stands unsound = absurd (never_unsound opened law image index key col stands unsound)

-- a file that stands for a history, or for none, passes its check, unless the disk fails or memory lacks
pub never_checked : ImagesAreOpened → StandingFilesAreSound → (f : SessionFault) (told mid : Option (List ℕ)) → mid ≡ told → IfSome mid (λ image. FailsCheck f image)
    → IfSome told (λ image. (index : Option History) → StandsAs index image → IsNoFault f)
never_checked opened law f told mid same fails =
    told_so told (λ image. FailsCheck f image) (λ image. (index : Option History) → StandsAs index image → IsNoFault f) (λ image h index stands. never_fails opened law f image index stands h)
    (subst (λ (o : Option (List ℕ)). IfSome o (λ image. FailsCheck f image)) same fails)

-- ---- what a session comes to that is checked

pub checked_begins : (checked : Bool) (s : SessionState) (r : Result SessionState SessionFault) (told mid : Option (List ℕ)) → IfOk r (λ q. q ≡ s) → mid ≡ told
    → IfSome told (λ image. Starts image (Ok (started_of s.parts))) → OnOk r (IfSome mid IsSoundImage) → IfOk r (λ q. IfSome told (λ image. Begins checked image (Ok (started_of q.parts))))
checked_begins checked s (Ok q) told mid same image starts sound = begins_sound checked s.parts q.parts told mid (ap (λ (x : SessionState). x.parts) same) image starts sound
checked_begins checked s (Err f) told mid same image starts sound = tt

pub checked_new : (limits : Limits) (s : SessionState) (r : Result SessionState SessionFault) (mid after : Option (List ℕ)) → IfOk r (λ q. q ≡ s) → after ≡ mid
    → IsNew limits s.parts → IfSome mid (λ image. IsHeldBy s.parts.index s.parts.names image) → IfOk r (λ q. IsNew limits q.parts × IfSome after (λ image. IsHeldBy q.parts.index q.parts.names image))
checked_new limits s (Ok q) mid after same image new held =
    (subst (λ (x : SessionState). IsNew limits x.parts) (sym same) new, held_still s.parts q.parts mid after (ap (λ (x : SessionState). x.parts) same) image held)
checked_new limits s (Err f) mid after same image new held = tt

pub checked_stands : (limits : Limits) (s : SessionState) (r : Result SessionState SessionFault) (told : Option (List ℕ)) → IfOk r (λ q. q ≡ s)
    → IfSome told (λ image. (index : Option History) → StandsAs index image → StandsFor s.parts image (machine_at limits index))
    → IfOk r (λ q. IfSome told (λ image. (index : Option History) → StandsAs index image → StandsFor q.parts image (machine_at limits index)))
checked_stands limits s (Ok q) told same stands = stands_still limits s.parts q.parts told (ap (λ (x : SessionState). x.parts) same) stands
checked_stands limits s (Err f) told same stands = tt

pub checked_standing : (P : Type 0) → SoundFilesStand → (s : SessionState) (r : Result SessionState SessionFault) (told mid : Option (List ℕ)) → mid ≡ told → IfSome mid (λ image. IsHeldBy s.parts.index s.parts.names image)
    → OnOk r (IfSome mid IsSoundImage) → OnOk r (P → IfSome told (λ image. AreBytes image → IsStanding image))
checked_standing P law s (Ok q) told mid image held sound = λ p. stands_checked law s.parts told mid image held sound
checked_standing P law s (Err f) told mid image held sound = tt

pub checked_refused : (checked : Bool) (s : SessionState) (r : Result SessionState SessionFault) (told mid : Option (List ℕ)) → checked ≡ true → mid ≡ told → IfSome told (λ image. Starts image (Ok (started_of s.parts)))
    → IfErr r (λ f. IfSome mid (λ image. FailsCheck f image)) → IfErr r (λ f. IfSome told (λ image. RefusesSession checked f image))
checked_refused checked s (Ok q) told mid is same starts fails = tt
checked_refused checked s (Err f) told mid is same starts fails = refused_checked checked (started_of s.parts) f told mid is same starts fails

pub checked_never : ImagesAreOpened → StandingFilesAreSound → (r : Result SessionState SessionFault) (told mid : Option (List ℕ)) → mid ≡ told → IfErr r (λ f. IfSome mid (λ image. FailsCheck f image))
    → IfErr r (λ f. IfSome told (λ image. (index : Option History) → StandsAs index image → IsNoFault f))
checked_never opened law (Ok q) told mid same fails = tt
checked_never opened law (Err f) told mid same fails = never_checked opened law f told mid same fails
