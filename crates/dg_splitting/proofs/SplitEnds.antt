-- What a split comes to, by the step at which it ends.
--     syncs_none, asked_used, used_then      what is left of the disks
--     HasBegun      what is known of a session that has begun
--     no_session, no_params, not_asked, not_read, not_written      it ends there
--     all_written      all parts are written
use Rattle.std.proofs.Common.{◌≡◌, ◌⊎◌, inl, inr, ℕ, ◌<◌, ◌≤◌, Bool, true, false, ◌&&◌, List, [], Option, Some, None, Ok, Err, length, refl, sym, ap, subst, ◌∙◌, arith, nat_le}
use Rattle.std.specs.Prelude.{IfSome, is_some, slice_get}
use Rattle.std.proofs.lemmas.Bool.{and_from, le-leb}
use Rattle.std.proofs.lemmas.Option.{same_Some}
use Rattle.dg_columns.specs.ColumnLaws.{AreBytes}
use Rattle.dg_disk.specs.Calls.{Fails, SyncsDisk, UsesDisk}
use Rattle.dg_disk.specs.Counts.{Rose}
use Rattle.dg_disk.specs.declared.disk.Disk.{Ghosts}
use Rattle.dg_file.specs.Images.{BothTold}
use Rattle.dg_file.proofs.ImageParts.{opened_blank}
use Rattle.dg_graph.specs.declared.event.Event.{Event}
use Rattle.dg_history.specs.declared.params.Params.{Params}
use Rattle.dg_history.specs.History.{History, are_parameters, events_of, is_function, names_of}
use Rattle.dg_history.specs.LegalHistory.{IsLegal}
use Rattle.dg_index.specs.ImageOfHistory.{IsImageOf, StandsAs, is_blank}
use Rattle.dg_index.specs.OpenedIndex.{Opened, Opening, may_be_named, opened_of, opening}
use Rattle.dg_machine.specs.declared.limits.Limits.{Limits}
use Rattle.dg_machine.specs.MachineState.{MachineState, history_in, machine_at}
use Rattle.dg_part_files.specs.PartFaults.{IsFullAt}
use Rattle.dg_partition.specs.HistoryParts.{part_of}
use Rattle.dg_partition.specs.PartLaws.{PartsAreLegal}
use Rattle.dg_retrieval.proofs.KeptGraphWeights.{opened_params}
use Rattle.dg_session.specs.declared.session_fault.SessionFault.{SessionFault}
use Rattle.dg_session.specs.declared.session_fault.SessionFault.TheVariants.{Start, Unsound}
use Rattle.dg_session.specs.Parts.{Parts}
use Rattle.dg_session.specs.Session.{HoldsImage, StandsFor}
use Rattle.dg_session.specs.SessionStart.{IsStanding, RefusesSession}
use Rattle.dg_splitting.specs.declared.status.SplitStatus.{SplitStatus}
use Rattle.dg_splitting.specs.declared.status.SplitStatus.TheVariants as status
use Rattle.dg_splitting.specs.Endings.{of_start}
use Rattle.dg_splitting.specs.Ends.{IsLeft, LacksParams, StandsWithin, StopsAsking, StopsReading}
use Rattle.dg_splitting.specs.Outs.{AreAsked, AreBlank, AreOnDevice, AreUsed, IsBlank, OneFails, OneIsUntold}
use Rattle.dg_splitting.specs.Splits.{AreParts, EndsAs, HasIndex, LeavesFronts, Refuses, RefusesStart, Splits}
use Rattle.dg_splitting.specs.WholeHistory.{AreWhole, IsWhole, MayStand, written_part}
use Rattle.dg_splitting.specs.Written.{HoldParts, LeavesParts, MayBeParts, StopsParts}
use Rattle.dg_splitting.proofs.OutLists.{at_told, each_new, each_same, each_then, each_told, other_there}
use Rattle.dg_splitting.proofs.PartRuns.{whole_front}
use Rattle.dg_start.specs.declared.fault.StartFault.TheVariants as fault
use Rattle.dg_stored.specs.StoredHistory.{IsHeldBy}
use Rattle.dg_text.specs.declared.limits.TheConstants.{NAMES_MAX}
use Rattle.dg_text.specs.Names.{are_new}

-- ---- what is left of the disks

module _ {D : Type 0} (g : Ghosts D) where
  pub syncs_none : (a : D) → SyncsDisk g a a
  syncs_none a = record {
    same_image = refl;
    counted = omega arith;
    writes_counted = omega arith;
    cache_counted = omega arith;
    later = omega arith;
    leaves = λ c may. may;
    since = λ t c le left. left;
  }

  syncs_use : (a b : D) → SyncsDisk g a b → UsesDisk g a b
  syncs_use a b s = record {
    told = ap (λ (x : Option (List ℕ)). is_some x) s.same_image;
    counted = s.counted;
    writes_counted = s.writes_counted;
    cache_counted = s.cache_counted;
  }

  syncs_then_use : (a b c : D) → SyncsDisk g a b → UsesDisk g b c → UsesDisk g a c
  syncs_then_use a b c one two = record {
    told = two.told ∙ ap (λ (x : Option (List ℕ)). is_some x) one.same_image;
    counted = omega (arith, one.counted, two.counted);
    writes_counted = omega (arith, one.writes_counted, two.writes_counted);
    cache_counted = omega (arith, one.cache_counted, two.cache_counted);
  }

  pub asked_none : (outs : List D) → AreAsked g outs outs
  asked_none outs = each_same (λ number old new. SyncsDisk g old new) outs (λ number a at. syncs_none a)

  pub asked_used : (outs left : List D) → AreAsked g outs left → AreUsed g outs left
  asked_used outs left asked number old new at there = syncs_use old new (asked number old new at there)

  pub used_then : (outs mid left : List D) → length mid ≡ length outs → AreAsked g outs mid → AreUsed g mid left → AreUsed g outs left
  used_then outs mid left long asked used =
      each_then (λ number a b. SyncsDisk g a b) (λ number a b. UsesDisk g a b) (λ number a b. UsesDisk g a b) outs mid left long asked used
      (λ number a b c there one two. syncs_then_use a b c one two)

  rose_on : (a b c : ℕ) → a ≤ b → Rose b c → Rose a c
  rose_on a b c le h = omega (arith, le, h)

  -- ---- images

  one_image : (a b : D) (x y : List ℕ) → g.image b ≡ g.image a → g.image a ≡ Some x → g.image b ≡ Some y → x ≡ y
  one_image a b x y same is there = same_Some x y (sym is ∙ sym same ∙ there)

  -- the outs were only asked, so that a blank one is blank
  fronts_asked : (z : History) (s : SplitStatus) (outs left : List D) → AreAsked g outs left → LeavesFronts g z s outs left
  fronts_asked z s outs left asked = (
    0,
    λ number old new at there. each_told (g.image old) (λ before. IfSome (g.image new) (λ after. is_blank before ≡ true → IsLeft (part_of z number (length outs)) s 0 number before after))
        (λ before is. each_told (g.image new) (λ after. is_blank before ≡ true → IsLeft (part_of z number (length outs)) s 0 number before after)
        (λ after is_now blank. inl (subst (λ (x : List ℕ). is_blank x ≡ true) (one_image old new before after (asked number old new at there).same_image is is_now) blank))),
  )

  all_fronts : (limit : ℕ) (s : SplitStatus) (old : D) (outs left : List D) → AreAsked g outs left
      → IfSome (g.image old) (λ image. (z : History) → IsImageOf z image → LeavesFronts g z s outs left)
  all_fronts limit s old outs left asked =
      each_told (g.image old) (λ image. (z : History) → IsImageOf z image → LeavesFronts g z s outs left) (λ image is z h. fronts_asked z s outs left asked)

  -- ---- no session begins

  module _ (limit : ℕ) (old new : D) (outs : List D) (f : SessionFault) (refused : IfSome (g.image old) (λ image. RefusesSession true f image))
      (never : IfSome (g.image old) (λ image. (index : Option History) → StandsAs index image → (f ≡ Start fault.Disk) ⊎ (f ≡ Start fault.Memory))) where
    refuses : ((image : List ℕ) → RefusesSession true f image → RefusesStart f image) → (f ≡ Start fault.Disk → ⊥) → (f ≡ Start fault.Memory → ⊥)
        → IfSome (g.image old) (λ image. Refuses g f image outs outs)
    refuses start no_disk no_memory =
        each_told (g.image old) (λ image. Refuses g f image outs outs) (λ image is. record {
          when = inl (start image (at_told (g.image old) (λ image. RefusesSession true f image) refused image is), refl);
          never = λ standing. absurd (by (at_told (g.image old) (λ image. (index : Option History) → StandsAs index image → (f ≡ Start fault.Disk) ⊎ (f ≡ Start fault.Memory)) never image is standing.0 standing.1));
        })
      where
        by : (f ≡ Start fault.Disk) ⊎ (f ≡ Start fault.Memory) → ⊥
        by (inl h) = no_disk h
        by (inr h) = no_memory h

  start_ends : (limit : ℕ) (f : SessionFault) (old new : D) (outs : List D) → IfSome (g.image old) (λ image. RefusesSession true f image)
      → IfSome (g.image old) (λ image. (index : Option History) → StandsAs index image → (f ≡ Start fault.Disk) ⊎ (f ≡ Start fault.Memory)) → (f ≡ Start fault.Disk → Fails g old new)
      → Splits g limit (of_start f) old new outs outs
  start_ends limit (Start fault.Disk) old new outs refused never cause =
      record { ends = inl (cause refl); untouched = inr (asked_none outs); fronts = all_fronts limit status.DiskFault old outs outs (asked_none outs) }
  start_ends limit (Start fault.Memory) old new outs refused never cause =
      record { ends = tt; untouched = inr (asked_none outs); fronts = all_fronts limit status.NoMemory old outs outs (asked_none outs) }
  start_ends limit (Start fault.Foreign) old new outs refused never cause = record {
    ends = refuses limit old new outs (Start fault.Foreign) refused never (λ image h. h) (λ e. cc) (λ e. cc);
    untouched = inr (asked_none outs);
    fronts = all_fronts limit (status.Refused (Start fault.Foreign)) old outs outs (asked_none outs);
  }
  start_ends limit (Start (fault.Damaged offset)) old new outs refused never cause = record {
    ends = refuses limit old new outs (Start (fault.Damaged offset)) refused never (λ image h. h) (λ e. cc) (λ e. cc);
    untouched = inr (asked_none outs);
    fronts = all_fronts limit (status.Refused (Start (fault.Damaged offset))) old outs outs (asked_none outs);
  }
  start_ends limit (Start (fault.BadRecord key col)) old new outs refused never cause = record {
    ends = refuses limit old new outs (Start (fault.BadRecord key col)) refused never (λ image h. h) (λ e. cc) (λ e. cc);
    untouched = inr (asked_none outs);
    fronts = all_fronts limit (status.Refused (Start (fault.BadRecord key col))) old outs outs (asked_none outs);
  }
  start_ends limit (Start fault.NotGraph) old new outs refused never cause = record {
    ends = refuses limit old new outs (Start fault.NotGraph) refused never (λ image h. h) (λ e. cc) (λ e. cc);
    untouched = inr (asked_none outs);
    fronts = all_fronts limit (status.Refused (Start fault.NotGraph)) old outs outs (asked_none outs);
  }
  start_ends limit (Start (fault.BadRecent number)) old new outs refused never cause = record {
    ends = refuses limit old new outs (Start (fault.BadRecent number)) refused never (λ image h. h) (λ e. cc) (λ e. cc);
    untouched = inr (asked_none outs);
    fronts = all_fronts limit (status.Refused (Start (fault.BadRecent number))) old outs outs (asked_none outs);
  }
  start_ends limit (Unsound key col) old new outs refused never cause = record {
    ends = refuses limit old new outs (Unsound key col) refused never (λ image h. h) (λ e. cc) (λ e. cc);
    untouched = inr (asked_none outs);
    fronts = all_fronts limit (status.Refused (Unsound key col)) old outs outs (asked_none outs);
  }

  pub no_session : (limit : ℕ) (f : SessionFault) (s : SplitStatus) (old new : D) (outs : List D) → IfSome (g.image old) (λ image. RefusesSession true f image)
      → IfSome (g.image old) (λ image. (index : Option History) → StandsAs index image → (f ≡ Start fault.Disk) ⊎ (f ≡ Start fault.Memory)) → (f ≡ Start fault.Disk → Fails g old new)
      → s ≡ of_start f → Splits g limit s old new outs outs
  no_session limit f s old new outs refused never cause is =
      subst (λ (s : SplitStatus). Splits g limit s old new outs outs) (sym is) (start_ends limit f old new outs refused never cause)

  -- ---- a session has begun

  -- the session over the image, which was checked
  pub record IsChecked (limits : Limits) (old mid : D) (p : Parts) : Type 0 where
    pub syncs : SyncsDisk g old mid
    pub held : HoldsImage p (g.image mid)
    pub stands : IfSome (g.image old) (λ image. (index : Option History) → StandsAs index image → StandsFor p image (machine_at limits index))
    pub checked : IfSome (g.image old) (λ image. AreBytes image → IsStanding image)

  module _ (limits : Limits) (limit : ℕ) (old mid : D) (p : Parts) (b : IsChecked limits old mid p) where
    held_at : (image : List ℕ) → g.image old ≡ Some image → IsHeldBy p.index p.names image
    held_at image is = at_told (g.image mid) (IsHeldBy p.index p.names) b.held image (b.syncs.same_image ∙ is)

    -- it has no index
    pub no_index : (new : D) (outs : List D) → p.index ≡ None → Splits g limit status.NoIndex old new outs outs
    no_index new outs none = record {
      ends = record {
        blank = each_told (g.image old) (λ image. is_blank image ≡ true) (λ image is. subst (λ (o : Option Opening). IsHeldBy o p.names image) none (held_at image is));
        same = refl;
      };
      untouched = inr (asked_none outs);
      fronts = all_fronts limit status.NoIndex old outs outs (asked_none outs);
    }

    module _ (o : Opening) (there : p.index ≡ Some o) where
      opened_at : (image : List ℕ) → g.image old ≡ Some image → opening image ≡ Ok (record { index = o; names = p.names })
      opened_at image is = subst (λ (i : Option Opening). IsHeldBy i p.names image) there (held_at image is)

      not_blank : (image : List ℕ) (x : Opened) → opening image ≡ Ok x → is_blank image ≡ false
      not_blank image x is = by (is_blank image) refl
        where
          by : (v : Bool) → is_blank image ≡ v → is_blank image ≡ false
          by true e = absurd (let h = sym (opened_blank image e) ∙ is in cc)
          by false e = e

      pub has_index : HasIndex g old
      has_index = each_told (g.image old) (λ image. is_blank image ≡ false) (λ image is. not_blank image (record { index = o; names = p.names }) (opened_at image is))

      -- an image that stands, stands for a history
      history_at : (image : List ℕ) → g.image old ≡ Some image → IsStanding image → (z : History) × IsImageOf z image
      history_at image is standing = by standing.0 standing.1
        where
          by : (index : Option History) → StandsAs index image → (z : History) × IsImageOf z image
          by None blank = absurd (let e : true ≡ false = sym blank ∙ not_blank image (record { index = o; names = p.names }) (opened_at image is) in cc)
          by (Some z) h = (z, h)

      bytes_stand : (image : List ℕ) → g.image old ≡ Some image → AreBytes image → IsStanding image
      bytes_stand image is = at_told (g.image old) (λ image. AreBytes image → IsStanding image) b.checked image is

      stands_at : (image : List ℕ) → g.image old ≡ Some image → (z : History) → IsImageOf z image → StandsFor p image (machine_at limits (Some z))
      stands_at image is z h =
          at_told (g.image old) (λ image. (index : Option History) → StandsAs index image → StandsFor p image (machine_at limits index)) b.stands image is (Some z) h

      params_at : (image : List ℕ) → g.image old ≡ Some image → (z : History) → IsImageOf z image → o.params ≡ z.params
      params_at image is z h =
          let e : o ≡ (opened_of z).index = same_Some o (opened_of z).index (sym there ∙ (stands_at image is z h).kept.index_is) in
          ap (λ (x : Opening). x.params) e ∙ opened_params z

      -- ---- it is refused behind the start

      -- whatever the image is, it stands for nothing
      refuses_wrong : (why : SessionFault) (outs left : List D) → ((image : List ℕ) → g.image old ≡ Some image → (z : History) → IsImageOf z image → ⊥)
          → IfSome (g.image old) (λ image. Refuses g why image outs left)
      refuses_wrong why outs left wrong =
          each_told (g.image old) (λ image. Refuses g why image outs left) (λ image is. record {
            when = inr (λ bytes. absurd (let h = history_at image is (bytes_stand image is bytes) in wrong image is h.0 h.1));
            never = λ standing. absurd (let h = history_at image is standing in wrong image is h.0 h.1);
          })

      -- its parameters are not in their ranges
      pub bad_params : (new : D) (outs : List D) (why : SessionFault) → (are_parameters o.params.l o.params.k && is_function o.params.function) ≡ false
          → Splits g limit (status.Refused why) old new outs outs
      bad_params new outs why bad = record {
        ends = refuses_wrong why outs outs (λ image is z h.
            let same = params_at image is z h in
            let right : (are_parameters o.params.l o.params.k && is_function o.params.function) ≡ true =
            ap (λ (q : Params). are_parameters q.l q.k && is_function q.function) same
            ∙ and_from (are_parameters z.params.l z.params.k) _ h.legal.parameters h.legal.function in
            let e : true ≡ false = sym right ∙ bad in
            cc);
        untouched = inr (asked_none outs);
        fronts = all_fronts limit (status.Refused why) old outs outs (asked_none outs);
      }

      -- ---- the outs are not all blank

      pub not_asked : (s : SplitStatus) (new : D) (outs left : List D) → AreAsked g outs left → StopsAsking g s outs left → Splits g limit s old new outs left
      not_asked status.Done new outs left asked stops = absurd stops
      not_asked status.DiskFault new outs left asked stops =
          record { ends = inr stops; untouched = inr asked; fronts = all_fronts limit status.DiskFault old outs left asked }
      not_asked status.NoMemory new outs left asked stops =
          record { ends = tt; untouched = inr asked; fronts = all_fronts limit status.NoMemory old outs left asked }
      not_asked (status.Refused why) new outs left asked stops = absurd stops
      not_asked (status.Exists number) new outs left asked stops =
          record { ends = record { index = has_index; first = stops; asked = asked }; untouched = inr asked; fronts = all_fronts limit (status.Exists number) old outs left asked }
      not_asked status.NoIndex new outs left asked stops = absurd stops
      not_asked (status.Full number needed) new outs left asked stops = absurd stops

      -- ---- the events are not read

      may_stand : (image : List ℕ) → g.image old ≡ Some image → (z : History) → IsImageOf z image → MayStand p (g.image mid)
      may_stand image is z h = (image, b.syncs.same_image ∙ is, (machine_at limits (Some z), stands_at image is z h))

      pub not_read : (s : SplitStatus) (new : D) (outs left : List D) → AreAsked g outs left → StopsReading g (MayStand p (g.image mid)) s mid new → Splits g limit s old new outs left
      not_read status.Done new outs left asked stops = absurd stops
      not_read status.DiskFault new outs left asked stops =
          record { ends = inl (rose_on (g.faults old) (g.faults mid) (g.faults new) b.syncs.counted stops); untouched = inr asked; fronts = all_fronts limit status.DiskFault old outs left asked }
      not_read status.NoMemory new outs left asked stops =
          record { ends = tt; untouched = inr asked; fronts = all_fronts limit status.NoMemory old outs left asked }
      not_read (status.Refused why) new outs left asked stops = record {
        ends = refuses_wrong why outs left (λ image is z h. stops (may_stand image is z h));
        untouched = inr asked;
        fronts = all_fronts limit (status.Refused why) old outs left asked;
      }
      not_read (status.Exists number) new outs left asked stops = absurd stops
      not_read status.NoIndex new outs left asked stops = absurd stops
      not_read (status.Full number needed) new outs left asked stops = absurd stops

      -- ---- the parts are written

      module _ (events : List Event) (own : IfSome (g.image mid) (λ image. (m : MachineState) → StandsFor p image m → events ≡ events_of (history_in m.index)))
          (law : PartsAreLegal) (outs asked_outs left : List D) (long : length asked_outs ≡ length outs) (asked : AreAsked g outs asked_outs) (blank : AreBlank g outs) where
        events_at : (image : List ℕ) → g.image old ≡ Some image → (z : History) → IsImageOf z image → events ≡ events_of z
        events_at image is z h =
            at_told (g.image mid) (λ image. (m : MachineState) → StandsFor p image m → events ≡ events_of (history_in m.index)) own image (b.syncs.same_image ∙ is)
            (machine_at limits (Some z)) (stands_at image is z h)

        part_is : (image : List ℕ) → g.image old ≡ Some image → (z : History) → IsImageOf z image → (parts number : ℕ)
            → written_part o.params p.names events parts number ≡ part_of z number parts
        part_is image is z h parts number =
            let a : o.params ≡ z.params = params_at image is z h in
            let n : p.names ≡ names_of z = (stands_at image is z h).kept.names_are in
            let e : events ≡ events_of z = events_at image is z h in
            λ i. written_part (a i) (n i) (e i) parts number

        part_legal : (image : List ℕ) → g.image old ≡ Some image → (z : History) → IsImageOf z image → (parts number : ℕ) → IsLegal (written_part o.params p.names events parts number)
        part_legal image is z h parts number = subst IsLegal (sym (part_is image is z h parts number)) (law z h.legal number parts)

        may_be_parts : (image : List ℕ) → g.image old ≡ Some image → (z : History) → IsImageOf z image → (parts : ℕ) → MayBeParts o.params p.names events parts
        may_be_parts image is z h parts =
            let n : p.names ≡ names_of z = (stands_at image is z h).kept.names_are in
            record {
              named = ap (may_be_named []) n ∙ and_from (are_new [] (names_of z)) _ h.legal.names (le-leb _ NAMES_MAX (omega (arith, h.legal.few_names)));
              legal = part_legal image is z h parts;
            }

        -- ---- all of them

        pub all_written : (new : D) → length left ≡ length outs → HoldParts g limit o.params p.names events left → AreOnDevice g left → Splits g limit status.Done old new outs left
        all_written new all holds settled = record {
          ends = record {
            index = has_index;
            blank = blank;
            parts = each_told (g.image old) (λ image. (z : History) → IsImageOf z image → (number : ℕ) (out : D) → slice_get left number ≡ Some out → IfSome (g.image out) (StandsWithin limit (part_of z number (length left))))
                (λ image is z h number out at. stands image is z h number out at);
            settled = settled;
          };
          untouched = inl blank;
          fronts = each_told (g.image old) (λ image. (z : History) → IsImageOf z image → LeavesFronts g z status.Done outs left) (λ image is z h. (0, fronts image is z h));
        }
          where
            stands : (image : List ℕ) → g.image old ≡ Some image → (z : History) → IsImageOf z image → (number : ℕ) (out : D) → slice_get left number ≡ Some out
                → IfSome (g.image out) (StandsWithin limit (part_of z number (length left)))
            stands image is z h number out at =
                subst (λ (x : History). IfSome (g.image out) (StandsWithin limit x)) (part_is image is z h (length left) number)
                (holds number out at (part_legal image is z h (length left) number))

            fronts : (image : List ℕ) → g.image old ≡ Some image → (z : History) → IsImageOf z image → (number : ℕ) (before now : D) → slice_get outs number ≡ Some before → slice_get left number ≡ Some now
                → BothTold (g.image before) (g.image now) (λ x y. is_blank x ≡ true → IsLeft (part_of z number (length outs)) status.Done 0 number x y)
            fronts image is z h number before now at there =
                each_told (g.image before) (λ x. IfSome (g.image now) (λ y. is_blank x ≡ true → IsLeft (part_of z number (length outs)) status.Done 0 number x y))
                (λ x is_x. each_told (g.image now) (λ y. is_blank x ≡ true → IsLeft (part_of z number (length outs)) status.Done 0 number x y)
                (λ y is_y none. inr (inl (whole_front (part_of z number (length outs)) y
                (subst (λ n. IsImageOf (part_of z number n) y) all (at_told (g.image now) (StandsWithin limit (part_of z number (length left))) (stands image is z h number now there) y is_y).0)))))

        -- ---- not all of them

        untold_before : OneIsUntold g asked_outs → OneIsUntold g outs
        untold_before u =
            let a = other_there asked_outs outs u.number u.out (sym long) u.there in
            record { number = u.number; out = a.0; there = a.1; untold = sym (asked u.number a.0 u.out a.1 u.there).same_image ∙ u.untold }

        fails_before : OneFails g asked_outs left → OneFails g outs left
        fails_before f =
            let a = other_there asked_outs outs f.number f.old (sym long) f.was in
            record {
              number = f.number;
              old = a.0;
              new = f.new;
              was = a.1;
              there = f.there;
              failed = rose_on (g.faults a.0) (g.faults f.old) (g.faults f.new) (asked f.number a.0 f.old a.1 f.was).counted f.failed;
            }

        left_before : (s : SplitStatus) → LeavesParts g o.params p.names events s asked_outs left → IfSome (g.image old) (λ image. (z : History) → IsImageOf z image → LeavesFronts g z s outs left)
        left_before s leaves =
            each_told (g.image old) (λ image. (z : History) → IsImageOf z image → LeavesFronts g z s outs left) (λ image is z h. (
              leaves.0,
              each_then (λ number a c. SyncsDisk g a c)
                  (λ number a c. IsLegal (written_part o.params p.names events (length asked_outs) number)
                  → BothTold (g.image a) (g.image c) (λ x y. is_blank x ≡ true → IsLeft (written_part o.params p.names events (length asked_outs) number) s leaves.0 number x y))
                  (λ number a c. BothTold (g.image a) (g.image c) (λ x y. is_blank x ≡ true → IsLeft (part_of z number (length outs)) s leaves.0 number x y))
                  outs asked_outs left long asked leaves.1
                  (λ number a m c at one two.
                  let same : written_part o.params p.names events (length asked_outs) number ≡ part_of z number (length outs) =
                  part_is image is z h (length asked_outs) number ∙ ap (part_of z number) long in
                  subst (λ (told : Option (List ℕ)). BothTold told (g.image c) (λ x y. is_blank x ≡ true → IsLeft (part_of z number (length outs)) s leaves.0 number x y)) one.same_image
                  (subst (λ (w : History). BothTold (g.image m) (g.image c) (λ x y. is_blank x ≡ true → IsLeft w s leaves.0 number x y)) same
                  (two (part_legal image is z h (length asked_outs) number)))),
            ))

        pub not_written : (s : SplitStatus) (new : D) → StopsParts g limit o.params p.names events s asked_outs left → LeavesParts g o.params p.names events s asked_outs left
            → Splits g limit s old new outs left
        not_written status.Done new stops leaves = absurd stops
        not_written status.DiskFault new stops leaves = record { ends = inr (fails_before stops); untouched = inl blank; fronts = left_before status.DiskFault leaves }
        not_written status.NoMemory new stops leaves = record { ends = tt; untouched = inl blank; fronts = left_before status.NoMemory leaves }
        not_written (status.Refused why) new stops leaves = record {
          ends = each_told (g.image old) (λ image. Refuses g why image outs left) (λ image is. record {
            when = inr (λ bytes. let h = history_at image is (bytes_stand image is bytes) in
                record { history = h; blank = blank; untold = untold_before (stops (may_be_parts image is h.0 h.1 (length asked_outs))) });
            never = λ standing. let h = history_at image is standing in untold_before (stops (may_be_parts image is h.0 h.1 (length asked_outs)));
          });
          untouched = inl blank;
          fronts = left_before (status.Refused why) leaves;
        }
        not_written (status.Exists number) new stops leaves = absurd stops
        not_written status.NoIndex new stops leaves = absurd stops
        not_written (status.Full number needed) new stops leaves = record {
          ends = record {
            index = has_index;
            blank = blank;
            within = omega (arith, stops.within, long);
            more = stops.more;
            full = each_told (g.image old) (λ image. (z : History) → IsImageOf z image → (out : D) → slice_get left number ≡ Some out → IfSome (g.image out) (IsFullAt limit (part_of z number (length outs)) needed))
                (λ image is z h out at.
                let same : written_part o.params p.names events (length asked_outs) number ≡ part_of z number (length outs) =
                part_is image is z h (length asked_outs) number ∙ ap (part_of z number) long in
                subst (λ (w : History). IfSome (g.image out) (IsFullAt limit w needed)) same (stops.full (part_legal image is z h (length asked_outs) number) out at));
          };
          untouched = inl blank;
          fronts = left_before (status.Full number needed) leaves;
        }

  -- ---- behind a call that only syncs

  ends_behind : (limit : ℕ) (s : SplitStatus) (old mid new : D) (outs left : List D) → SyncsDisk g old mid → EndsAs g limit s mid new outs left → EndsAs g limit s old new outs left
  ends_behind limit status.Done old mid new outs left sync h = record {
    index = subst (λ (t : Option (List ℕ)). IfSome t (λ image. is_blank image ≡ false)) sync.same_image h.index;
    blank = h.blank;
    parts = subst (λ (t : Option (List ℕ)). IfSome t (λ image. (z : History) → IsImageOf z image → AreParts g limit z left)) sync.same_image h.parts;
    settled = h.settled;
  }
  ends_behind limit status.DiskFault old mid new outs left sync h = by h
    where
      by : Fails g mid new ⊎ OneFails g outs left → Fails g old new ⊎ OneFails g outs left
      by (inl fails) = inl (rose_on (g.faults old) (g.faults mid) (g.faults new) sync.counted fails)
      by (inr fails) = inr fails
  ends_behind limit status.NoMemory old mid new outs left sync h = tt
  ends_behind limit (status.Refused why) old mid new outs left sync h = subst (λ (t : Option (List ℕ)). IfSome t (λ image. Refuses g why image outs left)) sync.same_image h
  ends_behind limit (status.Exists number) old mid new outs left sync h = record {
    index = subst (λ (t : Option (List ℕ)). IfSome t (λ image. is_blank image ≡ false)) sync.same_image h.index;
    first = h.first;
    asked = h.asked;
  }
  ends_behind limit status.NoIndex old mid new outs left sync h = record {
    blank = subst (λ (t : Option (List ℕ)). IfSome t (λ image. is_blank image ≡ true)) sync.same_image h.blank;
    same = h.same;
  }
  ends_behind limit (status.Full number needed) old mid new outs left sync h = record {
    index = subst (λ (t : Option (List ℕ)). IfSome t (λ image. is_blank image ≡ false)) sync.same_image h.index;
    blank = h.blank;
    within = h.within;
    more = h.more;
    full = subst (λ (t : Option (List ℕ)). IfSome t (λ image. (z : History) → IsImageOf z image → (out : D) → slice_get left number ≡ Some out
        → IfSome (g.image out) (IsFullAt limit (part_of z number (length outs)) needed))) sync.same_image h.full;
  }

  pub behind : (limit : ℕ) (s : SplitStatus) (old mid new : D) (outs left : List D) → SyncsDisk g old mid → Splits g limit s mid new outs left → Splits g limit s old new outs left
  behind limit s old mid new outs left sync h = record {
    ends = ends_behind limit s old mid new outs left sync h.ends;
    untouched = h.untouched;
    fronts = subst (λ (t : Option (List ℕ)). IfSome t (λ image. (z : History) → IsImageOf z image → LeavesFronts g z s outs left)) sync.same_image h.fronts;
  }

  -- ---- by the calls of a split

  -- there is no index, or its parameters are not in their ranges
  pub no_params : (limits : Limits) (limit : ℕ) (old mid : D) (p : Parts) → IsChecked limits old mid p → (s : SplitStatus) (new : D) (outs : List D) → LacksParams p.index s → Splits g limit s old new outs outs
  no_params limits limit old mid p b status.Done new outs h = absurd h
  no_params limits limit old mid p b status.DiskFault new outs h = absurd h
  no_params limits limit old mid p b status.NoMemory new outs h = absurd h
  no_params limits limit old mid p b (status.Refused why) new outs h = bad_params limits limit old mid p b h.0 h.1 new outs why h.2
  no_params limits limit old mid p b (status.Exists number) new outs h = absurd h
  no_params limits limit old mid p b status.NoIndex new outs h = no_index limits limit old mid p b new outs h
  no_params limits limit old mid p b (status.Full number needed) new outs h = absurd h

  -- the outs that were asked are blank
  pub blank_on : (outs left : List D) → length left ≡ length outs → AreAsked g outs left → AreBlank g outs → AreBlank g left
  blank_on outs left long asked blank =
      each_new (λ number a b. SyncsDisk g a b) (λ number a. IsBlank g a) (λ number a. IsBlank g a) outs left long asked blank
      (λ number a b sync none. subst (λ (t : Option (List ℕ)). IfSome t (λ image. is_blank image ≡ true)) (sym sync.same_image) none)

  -- what is told of the same parameters, names and events
  module _ (params same_params : Params) (params_are : params ≡ same_params) (names same_names : List (List ℕ)) (names_are : names ≡ same_names) (events same_events : List Event) (events_are : events ≡ same_events) where
    pub hold_same : (limit : ℕ) (left : List D) → HoldParts g limit params names events left → HoldParts g limit same_params same_names same_events left
    hold_same limit left h =
        subst (λ (q : Params). HoldParts g limit q same_names same_events left) params_are
        (subst (λ (n : List (List ℕ)). HoldParts g limit params n same_events left) names_are (subst (λ (e : List Event). HoldParts g limit params names e left) events_are h))

    pub stop_same : (limit : ℕ) (s : SplitStatus) (outs left : List D) → StopsParts g limit params names events s outs left → StopsParts g limit same_params same_names same_events s outs left
    stop_same limit s outs left h =
        subst (λ (q : Params). StopsParts g limit q same_names same_events s outs left) params_are
        (subst (λ (n : List (List ℕ)). StopsParts g limit params n same_events s outs left) names_are (subst (λ (e : List Event). StopsParts g limit params names e s outs left) events_are h))

    pub leave_same : (s : SplitStatus) (outs left : List D) → LeavesParts g params names events s outs left → LeavesParts g same_params same_names same_events s outs left
    leave_same s outs left h =
        subst (λ (q : Params). LeavesParts g q same_names same_events s outs left) params_are
        (subst (λ (n : List (List ℕ)). LeavesParts g params n same_events s outs left) names_are (subst (λ (e : List Event). LeavesParts g params names e s outs left) events_are h))

-- what was read is the whole of what is written
pub whole_of : (params : Params) (names same_names : List (List ℕ)) (events slice : List Event) → (are_parameters params.l params.k ≡ true) × (is_function params.function ≡ true) → AreWhole same_names events
    → names ≡ same_names → slice ≡ events → IsWhole params names slice
whole_of params names same_names events slice ranges whole names_are slice_is = record {
  parameters = ranges.0;
  function = ranges.1;
  are_whole = subst (λ (n : List (List ℕ)). AreWhole n slice) (sym names_are) (subst (AreWhole same_names) (sym slice_is) whole);
}
