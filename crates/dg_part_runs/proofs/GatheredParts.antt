-- What is gathered of parts, where their sessions stand for histories.
use Rattle.std.proofs.Common.{arith, ◌≡◌, ℕ, zero, suc, ◌<◌, true, false, List, [], ◌∷◌, ◌++◌, Option, Some, None, Result, Ok, Err, IfOk, IfSome, length, map, get_or, refl, sym, ap, ◌∙◌, subst}
use Rattle.std.specs.Prelude.{◌||◌, is_some, not, sum}
use Rattle.std.specs.List.{AllZip, list_any}
use Rattle.dg_ask.specs.HeldIndex.{span_held}
use Rattle.dg_gather.specs.declared.gathered.Gathered.{Gathered}
use Rattle.dg_gather.specs.Gathered.{shown_by}
use Rattle.dg_graph.specs.declared.element.Columns.{Columns}
use Rattle.dg_graph.specs.declared.element.Element.{Element}
use Rattle.dg_graph.specs.DifferentialFunction.{all_of}
use Rattle.dg_history.specs.History.{History, events_of, in_range}
use Rattle.dg_history.proofs.LegalHistories.{events_rise}
use Rattle.dg_index.specs.OpenedIndex.{Opening}
use Rattle.dg_machine.specs.declared.limits.Limits.{Limits}
use Rattle.dg_machine.specs.declared.reply.Refusal.TheVariants as refusal
use Rattle.dg_machine.specs.MachineState.{MachineState, machine_at}
use Rattle.dg_partition.specs.PartRanges.{shown_within}
use Rattle.dg_records.specs.declared.fault.RecordFault.{RecordFault}
use Rattle.dg_retrieval.specs.Retrieval.{IsNoDamage}
use Rattle.dg_session.proofs.PartStates.{instants_are, miss}
use Rattle.dg_session.specs.Gathering.{GathersFor}
use Rattle.dg_session.specs.Parts.{Parts}
use Rattle.dg_session.specs.Session.{StandsFor, refused_by, retrieval_needs}
use Rattle.dg_session.specs.SessionState.{SessionState}
use Rattle.dg_part_runs.specs.HeldParts.{AreGathered, AreStanding, GathersPart, NeverDamaged, ReadsParts, StandsForPart, span_kept}
use Rattle.dg_part_runs.specs.PartsMachine.{WeighsAt, WeighsWithin}
use Rattle.dg_part_runs.specs.PartTimes.{ends_of, time_within}
use Rattle.dg_part_runs.proofs.Ranges.{shown_by_time, within_by_time}

-- ---- one part

pub if_ok_to : {A E : Type 0} (P Q : A → Type 0) → ((x : A) → P x → Q x) → (r : Result A E) → IfOk r P → IfOk r Q
if_ok_to P Q f (Ok x) is = f x is
if_ok_to P Q f (Err e) is = tt

-- what an index in range is asked for is not refused, where no handle is asked for
pub free_at : (p : Parts) (t : ℕ) → is_some p.index ≡ true → in_range (span_held p.index) t ≡ true → refused_by p 0 (retrieval_needs (t ∷ []) 0) ≡ None
free_at p t there inside =
    miss (not (is_some p.index)) refusal.NoIndex _ (ap (λ b. not b) there)
    ∙ miss (list_any (λ t. not (in_range (span_held p.index) t)) (t ∷ [])) (refusal.OutOfRange (span_held p.index)) _ (out inside)
  where
    out : in_range (span_held p.index) t ≡ true → list_any (λ t. not (in_range (span_held p.index) t)) (t ∷ []) ≡ false
    out is = ap (λ b. not b || false) is

-- a part that has an instant for this one has an index
pub index_there : (p : Parts) (t s : ℕ) → time_within (span_held p.index) t ≡ Some s → is_some p.index ≡ true
index_there p t s is = by p.index is
  where
    by : (index : Option Opening) → time_within (span_held index) t ≡ Some s → is_some index ≡ true
    by None is = absurd (cc)
    by (Some o) is = refl

module _ (limits : Limits) (session : SessionState) (told : Option (List ℕ)) (t : ℕ) (cols : Columns) where
  span_stands : (z : History) (image : List ℕ) → StandsFor session.parts image (machine_at limits (Some z)) → span_kept session ≡ ends_of z
  span_stands z image stands = instants_are session.parts image (machine_at limits (Some z)) stands

  time_is : (time : Option ℕ) → time_within (span_kept session) t ≡ time → (z : History) → StandsForPart limits session told z → time_within (ends_of z) t ≡ time
  time_is time is z (image, at, stands) = ap (λ (ends : Option (ℕ × ℕ)). time_within ends t) (sym (span_stands z image stands)) ∙ is

  shown_is : (time : Option ℕ) → time_within (span_kept session) t ≡ time → (z : History) → StandsForPart limits session told z
      → shown_by_time (events_of z) cols time ≡ shown_within (events_of z) t cols
  shown_is time is z stands =
      sym (ap (shown_by_time (events_of z) cols) (time_is time is z stands))
      ∙ sym (within_by_time cols t (events_of z) (events_rise z stands.2.image_stands.legal))

  -- a part that is asked for an instant of its own
  pub gathers_at : (s before after : ℕ) (r : Result Gathered RecordFault) → time_within (span_kept session) t ≡ Some s
      → IfSome told (λ image. (m : MachineState) → StandsFor session.parts image m → GathersFor m s cols before after r) → GathersPart limits session told t cols r
  gathers_at s before after r is over = record {
    shown = λ z stands. if_ok_to _ _ (λ g same. same ∙ shown_is (Some s) is z stands) r (over_z z stands).shown;
    weighs = λ z stands. if_ok_to _ _ (λ g weighs. subst (λ time. WeighsAt limits cols z time g.weight) (sym (time_is (Some s) is z stands)) weighs) r (over_z z stands).weighs;
    never = λ z stands. (over_z z stands).never;
  }
    where
      over_z : (z : History) → StandsForPart limits session told z → GathersFor (machine_at limits (Some z)) s cols before after r
      over_z z (image, at, stands) =
          subst (λ o. IfSome o (λ image. (m : MachineState) → StandsFor session.parts image m → GathersFor m s cols before after r)) at over (machine_at limits (Some z)) stands

  -- a part that is not asked
  pub gathers_nothing : (g : Gathered) → time_within (span_kept session) t ≡ None → shown_by g ≡ [] → g.weight ≡ 0 → GathersPart limits session told t cols (Ok g)
  gathers_nothing g is none zero_weight = record {
    shown = λ z stands. none ∙ shown_is None is z stands;
    weighs = λ z stands. subst (λ time. WeighsAt limits cols z time g.weight) (sym (time_is None is z stands)) zero_weight;
    never = λ z stands. tt;
  }

-- ---- all of them

pub standing_at : (limits : Limits) (sessions : List SessionState) (told : List (Option (List ℕ))) (zs : List History) (i : ℕ) (d : SessionState) (e : Option (List ℕ)) → AreStanding limits sessions told zs
    → i < length sessions → (z : History) × StandsForPart limits (get_or sessions i d) (get_or told i e) z
standing_at limits [] told zs i d e all in_list = absurd (omega (arith, in_list))
standing_at limits (s ∷ sessions) [] zs i d e all in_list = absurd all
standing_at limits (s ∷ sessions) (o ∷ told) [] i d e all in_list = absurd all
standing_at limits (s ∷ sessions) (o ∷ told) (z ∷ zs) zero d e all in_list = (z, all.0)
standing_at limits (s ∷ sessions) (o ∷ told) (z ∷ zs) (suc i) d e all in_list = standing_at limits sessions told zs i d e all.1 (omega (arith, in_list))

pub never_by_one : (A : Type 0) (limits : Limits) (sessions : List SessionState) (told : List (Option (List ℕ))) (i : ℕ) (d : SessionState) (e : Option (List ℕ)) (t : ℕ) (cols : Columns) (f : RecordFault)
    → i < length sessions → GathersPart limits (get_or sessions i d) (get_or told i e) t cols (Err f) → NeverDamaged {A = A} limits sessions told (Err f)
never_by_one A limits sessions told i d e t cols f in_list one = λ zs all. let at = standing_at limits sessions told zs i d e all in_list in one.never at.0 at.1

pub gathered_more : (limits : Limits) (t : ℕ) (cols : Columns) (sessions : List SessionState) (told : List (Option (List ℕ))) (gathered : List Gathered) (s : SessionState) (o : Option (List ℕ)) (g : Gathered)
    → AreGathered limits t cols sessions told gathered → GathersPart limits s o t cols (Ok g) → AreGathered limits t cols (sessions ++ s ∷ []) (told ++ o ∷ []) (gathered ++ g ∷ [])
gathered_more limits t cols [] [] [] s o g all one = (one, tt)
gathered_more limits t cols [] [] (h ∷ gathered) s o g all one = absurd all
gathered_more limits t cols [] (p ∷ told) gathered s o g all one = absurd all
gathered_more limits t cols (a ∷ sessions) [] gathered s o g all one = absurd all
gathered_more limits t cols (a ∷ sessions) (p ∷ told) [] s o g all one = absurd all
gathered_more limits t cols (a ∷ sessions) (p ∷ told) (h ∷ gathered) s o g all one = (all.0, gathered_more limits t cols sessions told gathered s o g all.1 one)

gathered_shown : (limits : Limits) (t : ℕ) (cols : Columns) (sessions : List SessionState) (told : List (Option (List ℕ))) (gathered : List Gathered) (zs : List History)
    → AreGathered limits t cols sessions told gathered → AreStanding limits sessions told zs → map shown_by gathered ≡ map (λ z. shown_within (events_of z) t cols) zs
gathered_shown limits t cols [] [] [] [] all stand = refl
gathered_shown limits t cols [] [] [] (z ∷ zs) all stand = absurd stand
gathered_shown limits t cols [] [] (h ∷ gathered) zs all stand = absurd all
gathered_shown limits t cols [] (p ∷ told) gathered zs all stand = absurd all
gathered_shown limits t cols (a ∷ sessions) [] gathered zs all stand = absurd all
gathered_shown limits t cols (a ∷ sessions) (p ∷ told) [] zs all stand = absurd all
gathered_shown limits t cols (a ∷ sessions) (p ∷ told) (h ∷ gathered) [] all stand = absurd stand
gathered_shown limits t cols (a ∷ sessions) (p ∷ told) (h ∷ gathered) (z ∷ zs) all stand =
    let one : shown_by h ≡ shown_within (events_of z) t cols = all.0.shown z stand.0 in
    let more = gathered_shown limits t cols sessions told gathered zs all.1 stand.1 in
    λ i. one i ∷ more i

gathered_weigh : (limits : Limits) (t : ℕ) (cols : Columns) (sessions : List SessionState) (told : List (Option (List ℕ))) (gathered : List Gathered) (zs : List History)
    → AreGathered limits t cols sessions told gathered → AreStanding limits sessions told zs → AllZip (WeighsWithin limits t cols) zs (map (λ (g : Gathered). g.weight) gathered)
gathered_weigh limits t cols [] [] [] [] all stand = tt
gathered_weigh limits t cols [] [] [] (z ∷ zs) all stand = absurd stand
gathered_weigh limits t cols [] [] (h ∷ gathered) zs all stand = absurd all
gathered_weigh limits t cols [] (p ∷ told) gathered zs all stand = absurd all
gathered_weigh limits t cols (a ∷ sessions) [] gathered zs all stand = absurd all
gathered_weigh limits t cols (a ∷ sessions) (p ∷ told) [] zs all stand = absurd all
gathered_weigh limits t cols (a ∷ sessions) (p ∷ told) (h ∷ gathered) [] all stand = absurd stand
gathered_weigh limits t cols (a ∷ sessions) (p ∷ told) (h ∷ gathered) (z ∷ zs) all stand =
    (all.0.weighs z stand.0, gathered_weigh limits t cols sessions told gathered zs all.1 stand.1)

-- the set that is composed of what was gathered, with the sum of the weights
pub reads_so : (limits : Limits) (t : ℕ) (cols : Columns) (sessions : List SessionState) (told : List (Option (List ℕ))) (gathered : List Gathered) (set : List Element) (weight : ℕ)
    → AreGathered limits t cols sessions told gathered → set ≡ all_of (map shown_by gathered) → weight ≡ sum (map (λ (g : Gathered). g.weight) gathered)
    → ReadsParts limits sessions told t cols (Ok (set, weight))
reads_so limits t cols sessions told gathered set weight all set_is weight_is = record {
  shown = λ zs stand. set_is ∙ ap all_of (gathered_shown limits t cols sessions told gathered zs all stand);
  weighs = λ zs stand. (map (λ (g : Gathered). g.weight) gathered, gathered_weigh limits t cols sessions told gathered zs all stand, weight_is);
  never = λ zs stand. tt;
}

pub reads_not : (limits : Limits) (t : ℕ) (cols : Columns) (sessions : List SessionState) (told : List (Option (List ℕ))) (f : RecordFault)
    → ((zs : List History) → AreStanding limits sessions told zs → IsNoDamage f) → ReadsParts limits sessions told t cols (Err f)
reads_not limits t cols sessions told f never = record { shown = λ zs stand. tt; weighs = λ zs stand. tt; never = never }

-- ---- the range

pub ends_same : (limits : Limits) (sessions : List SessionState) (told : List (Option (List ℕ))) (zs : List History) → AreStanding limits sessions told zs → map span_kept sessions ≡ map ends_of zs
ends_same limits [] [] [] all = refl
ends_same limits [] [] (z ∷ zs) all = absurd all
ends_same limits [] (o ∷ told) zs all = absurd all
ends_same limits (s ∷ sessions) [] zs all = absurd all
ends_same limits (s ∷ sessions) (o ∷ told) [] all = absurd all
ends_same limits (s ∷ sessions) (o ∷ told) (z ∷ zs) all =
    let one : span_kept s ≡ ends_of z = instants_are s.parts all.0.0 (machine_at limits (Some z)) all.0.2 in
    let more = ends_same limits sessions told zs all.1 in
    λ i. one i ∷ more i
