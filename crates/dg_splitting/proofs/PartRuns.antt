-- The parts, one after another.
--     IsWritten      a part stands in its out
--     all_hold, all_used, all_settled      what holds of all outs, where each part is written
--     stops_at, leaves_at, used_at      and where one is not
use Rattle.std.proofs.Common.{◌≡◌, ◌⊎◌, inl, inr, ℕ, ◌+◌, ◌<◌, ◌≤◌, true, List, Option, Some, None, length, take, refl, sym, ap, subst, ◌∙◌, arith}
use Rattle.std.specs.Prelude.{IfSome, slice_get}
use Rattle.std.proofs.Math.ListN.{set}
use Rattle.std.proofs.lemmas.List.{get_or-set_same, length-set, take_all}
use Rattle.std.proofs.lemmas.Option.{same_Some, slice_get-get_or, slice_get_within}
use Rattle.dg_disk.specs.Calls.{Fails, IsOnDevice, UsesDisk}
use Rattle.dg_disk.specs.declared.disk.Disk.{Ghosts}
use Rattle.dg_file.specs.Images.{BothTold}
use Rattle.dg_graph.specs.declared.event.Event.{Event}
use Rattle.dg_history.specs.declared.params.Params.{Params}
use Rattle.dg_history.specs.History.{Batch, History}
use Rattle.dg_history.specs.LegalHistory.{IsLegal}
use Rattle.dg_index.specs.ImageOfHistory.{IsImageOf, is_blank}
use Rattle.dg_part_files.specs.PartFaults.{IsFullAt}
use Rattle.dg_part_files.specs.WrittenParts.{IsFrontOf}
use Rattle.dg_splitting.specs.declared.status.SplitStatus.{SplitStatus}
use Rattle.dg_splitting.specs.declared.status.SplitStatus.TheVariants as status
use Rattle.dg_splitting.specs.Ends.{IsLeft, StandsWithin, StopsPart}
use Rattle.dg_splitting.specs.Outs.{AreOnDevice, AreUsed, EachPair}
use Rattle.dg_splitting.specs.WholeHistory.{written_part}
use Rattle.dg_splitting.specs.Written.{HoldParts, LeavesParts, StopsParts}
use Rattle.dg_splitting.proofs.OutLists.{IsUpTo, all_up_to, at_told, each_step, each_told, other_there}

-- an image of the whole is one of its first batches, which are all
pub whole_front : (z : History) (image : List ℕ) → IsImageOf z image → IsFrontOf z image
whole_front z image h =
    let all : take (length z.batches) z.batches ≡ z.batches = take_all (length z.batches) z.batches (omega arith) in
    (length z.batches, subst (λ (l : List Batch). IsImageOf (record { params = z.params; form = z.form; batches = l }) image) (sym all) h)

module _ {D : Type 0} (g : Ghosts D) (limit : ℕ) (params : Params) (names : List (List ℕ)) (events : List Event) (parts : ℕ) where
  abbrev pub part : ℕ → History
  part number = written_part params names events parts number

  -- the part of this number stands in its out, on the device
  pub record IsWritten (number : ℕ) (old new : D) : Type 0 where
    pub used : UsesDisk g old new
    pub settled : IsOnDevice g new
    pub holds : IsLegal (part number) → IfSome (g.image new) (StandsWithin limit (part number))

  -- no call uses the disk
  uses_none : (a : D) → UsesDisk g a a
  uses_none a = record { told = refl; counted = omega arith; writes_counted = omega arith; cache_counted = omega arith }

  module _ (outs left : List D) (whole : length outs ≡ parts) (long : length left ≡ length outs) (n : ℕ) (u : IsUpTo IsWritten outs left n) (all : parts ≤ n) where
    -- the out as it was
    written_at : (number : ℕ) (new : D) → slice_get left number ≡ Some new → (old : D) × IsWritten number old new
    written_at number new there =
        let old = other_there left outs number new (sym long) there in
        (old.0, all_up_to IsWritten outs left n u (omega (arith, whole, all)) number old.0 new old.1 there)

    pub all_hold : HoldParts g limit params names events left
    all_hold number new there =
        subst (λ n. IsLegal (written_part params names events n number) → IfSome (g.image new) (StandsWithin limit (written_part params names events n number))) (sym whole ∙ sym long)
        (written_at number new there).1.holds

    pub all_settled : AreOnDevice g left
    all_settled number new there = (written_at number new there).1.settled

    pub all_used : AreUsed g outs left
    all_used number old new at there = (all_up_to IsWritten outs left n u (omega (arith, whole, all)) number old new at there).used

  -- ---- a part is not written

  module _ (outs left : List D) (n : ℕ) (old new : D) (whole : length outs ≡ parts) (u : IsUpTo IsWritten outs left n) (within : n < length left) (was : slice_get outs n ≡ Some old) where
    now : slice_get (set left n new) n ≡ Some new
    now =
        let lt : n < length (set left n new) = omega (arith, within, length-set left n new) in
        slice_get-get_or (set left n new) n new lt ∙ ap (λ (x : D). Some x) (get_or-set_same left n new new within)

    pub used_at : UsesDisk g old new → AreUsed g outs (set left n new)
    used_at used = each_step IsWritten (λ number a b. UsesDisk g a b) outs left n old new u within was (λ number a b w. w.used) used (λ number a later at. uses_none a)

    full_at : (needed : ℕ) → (IsLegal (part n) → IfSome (g.image new) (IsFullAt limit (part n) needed)) → IsLegal (written_part params names events (length outs) n) → (out : D) → slice_get (set left n new) n ≡ Some out
        → IfSome (g.image out) (IsFullAt limit (written_part params names events (length outs) n) needed)
    full_at needed full legal out there =
        subst (λ (x : D). IfSome (g.image x) (IsFullAt limit (written_part params names events (length outs) n) needed)) (same_Some new out (sym now ∙ there))
        (subst (λ m. IsLegal (written_part params names events m n) → IfSome (g.image new) (IsFullAt limit (written_part params names events m n) needed)) (sym whole) full legal)

    pub stops_at : (s : SplitStatus) → StopsPart g limit n names (part n) s old new → StopsParts g limit params names events s outs (set left n new)
    stops_at status.Done stops = absurd stops
    stops_at status.DiskFault stops = record { number = n; old = old; new = new; was = was; there = now; failed = stops }
    stops_at status.NoMemory stops = tt
    stops_at (status.Refused why) stops =
        λ may. record { number = n; out = old; there = was; untold = stops may.named (subst (λ m. IsLegal (written_part params names events m n)) whole (may.legal n)) }
    stops_at (status.Exists other) stops = absurd stops
    stops_at status.NoIndex stops = absurd stops
    stops_at (status.Full other needed) stops =
        subst (λ k. StopsParts g limit params names events (status.Full k needed) outs (set left n new)) (sym stops.0)
        (record { within = slice_get_within outs n old was; more = stops.1; full = full_at needed stops.2 })

    -- what is left of an out, by its number
    abbrev Leaves : SplitStatus → ℕ → D → D → Type 0
    Leaves s number a b = IsLegal (part number) → BothTold (g.image a) (g.image b) (λ before after. is_blank before ≡ true → IsLeft (part number) s n number before after)

    leaves_written : (s : SplitStatus) (number : ℕ) (a b : D) → IsWritten number a b → Leaves s number a b
    leaves_written s number a b w legal =
        each_told (g.image a) (λ before. IfSome (g.image b) (λ after. is_blank before ≡ true → IsLeft (part number) s n number before after))
        (λ before is. each_told (g.image b) (λ after. is_blank before ≡ true → IsLeft (part number) s n number before after)
        (λ after there none. inr (inl (whole_front (part number) after (at_told (g.image b) (StandsWithin limit (part number)) (w.holds legal) after there).0))))

    leaves_here : (s : SplitStatus) → (IsLegal (part n) → BothTold (g.image old) (g.image new) (IsLeft (part n) s n n)) → Leaves s n old new
    leaves_here s front legal = by (g.image old) (g.image new) (front legal)
      where
        by : (x y : Option (List ℕ)) → BothTold x y (IsLeft (part n) s n n) → BothTold x y (λ before after. is_blank before ≡ true → IsLeft (part n) s n n before after)
        by None y h = tt
        by (Some before) None h = tt
        by (Some before) (Some after) h = λ none. h

    leaves_blank : (s : SplitStatus) (number : ℕ) (a : D) → Leaves s number a a
    leaves_blank s number a legal = by (g.image a)
      where
        by : (x : Option (List ℕ)) → BothTold x x (λ before after. is_blank before ≡ true → IsLeft (part number) s n number before after)
        by None = tt
        by (Some before) = λ none. inl none

    pub leaves_at : (s : SplitStatus) → (IsLegal (part n) → BothTold (g.image old) (g.image new) (IsLeft (part n) s n n)) → LeavesParts g params names events s outs (set left n new)
    leaves_at s front = (
      n,
      subst (λ m. EachPair (λ number a b. IsLegal (written_part params names events m number)
          → BothTold (g.image a) (g.image b) (λ before after. is_blank before ≡ true → IsLeft (written_part params names events m number) s n number before after)) outs (set left n new)) (sym whole)
          (each_step IsWritten (Leaves s) outs left n old new u within was (leaves_written s) (leaves_here s front) (λ number a later at. leaves_blank s number a)),
    )
