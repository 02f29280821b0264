-- What becomes of a batch whose segment is made and put into the file.
use Rattle.std.proofs.Common.{◌≡◌, ◌∙◌, ℕ, true, List, Option, Some, None, Result, Ok, Err, refl, ap, sym, subst}
use Rattle.std.specs.Prelude.{IfErr, IfSome, IsErr, IsErrAnd}
use Rattle.std.proofs.lemmas.Bool.{false≢true}
use Rattle.dg_append.specs.BatchSegments.{MakesSegment, StopsSegment}
use Rattle.dg_append.specs.KeptBatches.{IndexStays, KeepsBatch, StopsBatch, StopsKeeping}
use Rattle.dg_append.specs.declared.fault.BatchFault.{BatchFault}
use Rattle.dg_append.specs.declared.fault.BatchFault.TheVariants as fault
use Rattle.dg_append.specs.declared.next_batch.NextBatch.{NextBatch}
use Rattle.dg_disk.specs.Calls.{ReadsDisk}
use Rattle.dg_disk.specs.declared.disk.Disk.{Ghosts}
use Rattle.dg_file.specs.Calls.{CommitsSegment}
use Rattle.dg_file.specs.Images.{BothTold, Fits, GainsBatch, GainsBatchOrNot, GainsSegment, IsOpenedAs}
use Rattle.dg_file.specs.TidyImages.{StaysTidy}
use Rattle.dg_graph.specs.declared.element.Element.{Element}
use Rattle.dg_index.specs.FileOfHistory.{Segment}
use Rattle.dg_index.specs.OpenedIndex.{Opening, may_be_named}
use Rattle.dg_stored.specs.StoredHistory.{IsHeldBy}

pub err_is : {A E : Type 0} (r : Result A E) (x : E) (P : E → Type 0) → IsErr r × IsErrAnd r (λ y. y ≡ x) → P x → IfErr r P
err_is (Ok a) x P h p = tt
err_is (Err e) x P h p = subst P (sym h.1) p

pub err_as : {A E : Type 0} (r : Result A E) (x : E) (P : Result A E → Type 0) → IsErr r × IsErrAnd r (λ y. y ≡ x) → P (Err x) → P r
err_as (Ok a) x P h p = absurd (false≢true h.0)
err_as (Err e) x P h p = subst (λ y. P (Err y)) (sym h.1) p

-- ---- why a batch is not put into the file

-- the segment was not made
pub stops_made : (limit : ℕ) (o : Opening) (next : NextBatch) (graph : List Element) (before after : Option (List ℕ)) (f : BatchFault)
    → after ≡ before → StopsSegment before o next graph f → StopsBatch limit o next graph before after f
stops_made limit o next graph before after (fault.BadChange line reason) same stops = absurd stops
stops_made limit o next graph before after fault.OldFormat same stops = absurd stops
stops_made limit o next graph before after (fault.FileFull needed most) same stops = absurd stops
stops_made limit o next graph before after (fault.Damaged key col) same stops = (same, stops)
stops_made limit o next graph before after fault.Read same stops = same
stops_made limit o next graph before after fault.Memory same stops = same
stops_made limit o next graph before after fault.Store same stops = absurd stops

-- the index is what it was, where the segment was not made
pub made_stays : (f : BatchFault) (o : Opening) → IndexStays f o o
made_stays (fault.BadChange line reason) o = refl
made_stays fault.OldFormat o = refl
made_stays (fault.FileFull needed most) o = refl
made_stays (fault.Damaged key col) o = refl
made_stays fault.Read o = refl
made_stays fault.Memory o = refl
made_stays fault.Store o = tt

-- The segment is made behind an index that is as it was, by calls that read, and then it is not kept, or kept.
module _ {D : Type 0} (g : Ghosts D) (limit : ℕ) (o new : Opening) (next : NextBatch) (graph : List Element) (s : Segment) (before middle after : D) (reads : ReadsDisk g before middle) (made : MakesSegment (g.image before) o next graph s) where
  pub stops_kept : (f : BatchFault) → StopsKeeping g limit o s new middle after f → StopsBatch limit o next graph (g.image before) (g.image after) f
  stops_kept (fault.BadChange line reason) stops = absurd stops
  stops_kept fault.OldFormat stops = absurd stops
  stops_kept (fault.FileFull needed most) stops = (ap g.image stops.4 ∙ reads.same_image, stops.1, record { segment = s; built = made.built; needed_is = stops.0; over = stops.2 })
  stops_kept (fault.Damaged key col) stops = absurd stops
  stops_kept fault.Read stops = absurd stops
  stops_kept fault.Memory stops = ap g.image stops.1 ∙ reads.same_image
  stops_kept fault.Store stops = record {
    segment = s;
    built = made.built;
    gains = subst (λ (x : Option (List ℕ)). BothTold x (g.image after) (GainsBatchOrNot s)) reads.same_image stops.part;
    fits = stops.fits;
  }

  pub stays_kept : (f : BatchFault) → StopsKeeping g limit o s new middle after f → IndexStays f o new
  stays_kept (fault.BadChange line reason) stops = absurd stops
  stays_kept fault.OldFormat stops = absurd stops
  stays_kept (fault.FileFull needed most) stops = stops.3
  stays_kept (fault.Damaged key col) stops = absurd stops
  stays_kept fault.Read stops = absurd stops
  stays_kept fault.Memory stops = stops.0
  stays_kept fault.Store stops = tt

  pub keeps_batch : CommitsSegment g limit o s new middle after → KeepsBatch g limit o new next graph before after
  keeps_batch kept = record {
    segment = s;
    made = made;
    kept = record {
      index = kept.index;
      opened = subst (λ (x : Option (List ℕ)). BothTold x (g.image after) (GainsSegment o s new)) reads.same_image kept.opened;
      gained = subst (λ (x : Option (List ℕ)). BothTold x (g.image after) (GainsBatch s)) reads.same_image kept.gained;
      exact = subst (λ (x : Option (List ℕ)). StaysTidy x (g.image after)) reads.same_image kept.exact;
      fits = kept.fits;
      settled = kept.settled;
    };
  }

-- ---- the image before the batch

pub opened_as : (told : Option (List ℕ)) (o : Opening) (names : List (List ℕ)) → IfSome told (IsHeldBy (Some o) names) → IfSome told (λ image. IsOpenedAs image o)
opened_as None o names held = tt
opened_as (Some image) o names held = (names, held)

pub fits_here : (before middle : Option (List ℕ)) (o : Opening) (names new : List (List ℕ)) (s : Segment) → middle ≡ before → IfSome before (IsHeldBy (Some o) names)
    → may_be_named names new ≡ true → s.names ≡ new → IfSome middle (λ image. Fits image o s)
fits_here before middle o names new s same held named are =
    subst (λ (told : Option (List ℕ)). IfSome told (λ image. Fits image o s)) (sym same) (by before held)
  where
    by : (told : Option (List ℕ)) → IfSome told (IsHeldBy (Some o) names) → IfSome told (λ image. Fits image o s)
    by None h = tt
    by (Some image) h = (names, h, subst (λ (n : List (List ℕ)). may_be_named names n ≡ true) (sym are) named)
