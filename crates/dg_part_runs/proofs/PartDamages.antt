-- The damage that is met of parts, and which of it is named.
use Rattle.std.proofs.Common.{arith, ◌≡◌, ℕ, zero, suc, ◌+◌, ◌<◌, ◌⊎◌, inl, inr, List, [], ◌∷◌, ◌++◌, Option, Some, None, Result, Ok, Err, IfSome, length, take, get_or, sym, subst}
use Rattle.std.proofs.Math.ListN.{length-map}
use Rattle.std.specs.List.{AllZip}
use Rattle.dg_disk.specs.declared.disk.Disk.{Ghosts}
use Rattle.dg_graph.specs.declared.element.Column.{Column}
use Rattle.dg_graph.specs.declared.element.Columns.{Columns}
use Rattle.dg_history.specs.declared.node.Key.{Key}
use Rattle.dg_machine.specs.declared.command.Command.{Command}
use Rattle.dg_machine.specs.declared.limits.Limits.{Limits}
use Rattle.dg_machine.specs.declared.reply.Refusal.{Refusal}
use Rattle.dg_machine.specs.declared.reply.Reply.TheVariants as replied
use Rattle.dg_records.specs.declared.fault.RecordFault.{RecordFault}
use Rattle.dg_records.specs.declared.fault.RecordFault.TheVariants as fault
use Rattle.dg_session.specs.Damage.{IsMetBy, MeetsNone, MeetsOver, Tells, damage_told, graph_readings}
use Rattle.dg_session.specs.SessionState.{SessionState}
use Rattle.dg_part_runs.specs.Disks.{ReadsAll, images_of}
use Rattle.dg_part_runs.specs.HeldParts.{span_kept}
use Rattle.dg_part_runs.specs.PartDamage.{AreWhole, FirstZip, IsBegunOver, IsFirstFor, IsWhole, NamesFirst, NamesMet, TellsDamage, TellsMet, reads_at}
use Rattle.dg_part_runs.specs.PartTimes.{time_within}
use Rattle.dg_part_runs.specs.StartedParts.{AreStarted, IsStarted}
use Rattle.dg_part_runs.proofs.LoopSteps.{image_at}
use Rattle.dg_part_runs.proofs.ZippedLists.{take_more, zip_as, zip_more}

-- ---- the first of two lists

-- of two parts the second is named only where the first is whole
two_parts : {A B : Type 0} (P Q : A → B → Type 0) (a c : A) (b d : B) → FirstZip P Q (a ∷ c ∷ []) (b ∷ d ∷ []) → P a b ⊎ (Q a b × P c d)
two_parts P Q a c b d (inl one) = inl one
two_parts P Q a c b d (inr (whole, inl two)) = inr (whole, two)
two_parts P Q a c b d (inr (whole, inr none)) = absurd none.1

-- the second fact holds of all before one of which the first does
first_at : {A B : Type 0} (P Q : A → B → Type 0) (xs : List A) (ys : List B) (i : ℕ) (d : A) (e : B) → AllZip Q (take i xs) (take i ys) → i < length xs → i < length ys
    → P (get_or xs i d) (get_or ys i e) → FirstZip P Q xs ys
first_at P Q [] ys i d e all in_xs in_ys one = absurd (omega (arith, in_xs))
first_at P Q (x ∷ xs) [] i d e all in_xs in_ys one = absurd (omega (arith, in_ys))
first_at P Q (x ∷ xs) (y ∷ ys) zero d e all in_xs in_ys one = inl one
first_at P Q (x ∷ xs) (y ∷ ys) (suc i) d e all in_xs in_ys one = inr (all.0, first_at P Q xs ys i d e all.1 (omega (arith, in_xs)) (omega (arith, in_ys)) one)

-- ---- one part

module _ (t : ℕ) (cols : Columns) (s : SessionState) (told : Option (List ℕ)) where
  -- a part that is asked for an instant of its own
  pub met_at : {A : Type 0} (time : ℕ) (r : Result A RecordFault) → time_within (span_kept s) t ≡ Some time → Tells (MeetsOver (graph_readings (time ∷ []) cols) s.parts told) r → TellsMet t cols s told r
  met_at time (Ok g) is tells = subst (λ (o : Option ℕ). MeetsNone (reads_at o cols) s.parts told) (sym is) tells
  met_at time (Err fault.Disk) is tells = tt
  met_at time (Err fault.Memory) is tells = tt
  met_at time (Err (fault.Damaged key col)) is tells = subst (λ (o : Option ℕ). IsMetBy (reads_at o cols) s.parts told key col) (sym is) tells

  -- a part that is not asked
  pub met_nothing : time_within (span_kept s) t ≡ None → IsWhole t cols s told
  met_nothing is = subst (λ (o : Option ℕ). MeetsNone (reads_at o cols) s.parts told) (sym is) tt

-- ---- all of them

pub first_by_one : (t : ℕ) (cols : Columns) (sessions : List SessionState) (told : List (Option (List ℕ))) (i : ℕ) (d : SessionState) (e : Option (List ℕ)) (f : RecordFault)
    → AreWhole t cols (take i sessions) (take i told) → i < length sessions → i < length told → NamesMet t cols (get_or sessions i d) (get_or told i e) f → NamesFirst t cols sessions told f
first_by_one t cols sessions told i d e fault.Disk all in_sessions in_told one = tt
first_by_one t cols sessions told i d e fault.Memory all in_sessions in_told one = tt
first_by_one t cols sessions told i d e (fault.Damaged key col) all in_sessions in_told one = first_at _ (IsWhole t cols) sessions told i d e all in_sessions in_told one

module _ {D : Type 0} (d : Ghosts D) (t : ℕ) (cols : Columns) (sessions : List SessionState) (old now : List D) (i : ℕ) (s : SessionState) (e : D)
    (reads : ReadsAll d old now) (in_sessions : i < length sessions) (in_disks : i < length now) (same : length now ≡ length old) where
  in_told : i < length (images_of d old)
  in_told = omega (arith, in_disks, same, length-map old d.image)

  image_is : d.image (get_or now i e) ≡ get_or (images_of d old) i (d.image e)
  image_is = sym (image_at d old now i e reads in_disks)

  -- one more part met none
  pub whole_step : AreWhole t cols (take i sessions) (take i (images_of d old)) → IsWhole t cols (get_or sessions i s) (d.image (get_or now i e))
      → AreWhole t cols (take (i + 1) sessions) (take (i + 1) (images_of d old))
  whole_step all one =
      subst (λ (l : List (Option (List ℕ))). AreWhole t cols (take (i + 1) sessions) l) (sym (take_more (images_of d old) i (d.image e) in_told))
      (subst (λ (l : List SessionState). AreWhole t cols l (take i (images_of d old) ++ get_or (images_of d old) i (d.image e) ∷ [])) (sym (take_more sessions i s in_sessions))
      (zip_more (IsWhole t cols) (take i sessions) (take i (images_of d old)) (get_or sessions i s) (get_or (images_of d old) i (d.image e)) all
      (subst (λ (o : Option (List ℕ)). IsWhole t cols (get_or sessions i s) o) image_is one)))

  -- a part met one
  pub first_step : (f : RecordFault) → AreWhole t cols (take i sessions) (take i (images_of d old)) → NamesMet t cols (get_or sessions i s) (d.image (get_or now i e)) f
      → NamesFirst t cols sessions (images_of d old) f
  first_step f all one =
      first_by_one t cols sessions (images_of d old) i s (d.image e) f all in_sessions in_told (subst (λ (o : Option (List ℕ)). NamesMet t cols (get_or sessions i s) o f) image_is one)

-- ---- replies

-- a refusal that tells of no damage
pub tells_none : (c : Command) (sessions : List SessionState) (told : List (Option (List ℕ))) (r : Refusal) → damage_told (Some r) ≡ None → TellsDamage c sessions told (replied.Refused r)
tells_none c sessions told r none = record {
  damaged = subst (λ (o : Option (Key × Column)). IfSome o (IsFirstFor c sessions told)) (sym none) tt;
  whole = λ no. absurd (cc);
}

-- ---- what was started

begun_over : (limits : Limits) (s : SessionState) (told : Option (List ℕ)) → IsStarted limits s told → IsBegunOver limits s told
begun_over limits s told is = record { new = is.part.new; began = is.began }

pub are_begun : (limits : Limits) (sessions : List SessionState) (told : List (Option (List ℕ))) → AreStarted limits sessions told → AllZip (IsBegunOver limits) sessions told
are_begun limits sessions told all = zip_as (IsStarted limits) (IsBegunOver limits) (begun_over limits) sessions told all
