-- How the calls end that do not put all of a text.
use Rattle.std.proofs.Common.{◌≡◌, ◌⊎◌, inl, inr, ℕ, ◌+◌, ◌≤◌, List, [], ◌∷◌, ◌++◌, Option, Some, Result, Ok, Err, length, length-append, take, false, refl, sym, ap, ◌∙◌, subst, min, arith}
use Rattle.std.specs.Prelude.{IsErrOf}
use Rattle.std.proofs.lemmas.List.{take_at}
use Rattle.dg_disk.specs.declared.disk.Disk as disk
use Rattle.dg_disk.specs.Calls.{Fails, ReadsDisk}
use Rattle.dg_disk.specs.Counts.{Rose}
use Rattle.dg_dumping.specs.declared.status.DumpFault.{DumpFault}
use Rattle.dg_dumping.specs.declared.status.DumpFault.TheVariants as dump_fault
use Rattle.dg_dumping.specs.declared.status.DumpStatus.{DumpStatus}
use Rattle.dg_dumping.specs.declared.status.DumpStatus.TheVariants as status
use Rattle.dg_dumping.specs.Dumped.{FallsShort, GainsPart, GainsSpan, IsBadRecord, Stops, is_refusal}
use Rattle.dg_dumping.specs.Endings.{of_record}
use Rattle.dg_dumping.specs.PutText.{HasPut, PutFails}
use Rattle.dg_graph.specs.declared.event.Event.{Event}
use Rattle.dg_index.specs.OpenedIndex.{Opened}
use Rattle.dg_io.specs.declared.sink.Sink as sink
use Rattle.dg_io.specs.Calls.{FailsToPut}
use Rattle.dg_io.specs.Told.{CountRose, GrowsByPart, grown}
use Rattle.dg_io.proofs.ToldLemmas.{grown_nothing}
use Rattle.dg_records.specs.declared.fault.RecordFault.{RecordFault}
use Rattle.dg_records.specs.declared.fault.RecordFault.TheVariants as fault
use Rattle.dg_spans.specs.Stretches.{IsOutside}
use Rattle.dg_start.specs.EventSources.{WhereTold}
use Rattle.dg_start.specs.Faults.{start_fault_of}
use Rattle.dg_start.specs.RecentEvents.{Source, events_in_source}
use Rattle.dg_start.specs.Refusals.{IsReason}

-- ---- what is written

-- a record is not read for the disk or for want of memory
pub gains_record : (f : RecordFault) (before after : Option (List ℕ)) (due : List ℕ) → IsOutside f → GrowsByPart before due after → GainsPart (of_record f) before due after
gains_record fault.Disk before after due h part = part
gains_record (fault.Damaged key col) before after due h part = absurd h
gains_record fault.Memory before after due h part = part

-- the text is not put for a write or for want of memory
pub gains_put : {K : Type 0} (g : sink.Ghosts K) (old now : K) (all : List ℕ) (s : DumpStatus) → PutFails g old all s now → GainsPart s (g.written old) all (g.written now)
gains_put g old now all s f = by f.cause
  where
    by : ((s ≡ status.SinkFault) × FailsToPut g old now) ⊎ (s ≡ status.NoMemory) → GainsPart s (g.written old) all (g.written now)
    by (inl h) = subst (λ (t : DumpStatus). GainsPart t (g.written old) all (g.written now)) (sym h.0) f.part
    by (inr h) = subst (λ (t : DumpStatus). GainsPart t (g.written old) all (g.written now)) (sym h) f.part

-- ---- what is written of the changes of a span

-- nothing falls short of each text
pub none_short : (before : Option (List ℕ)) (due : List ℕ) → FallsShort before due before
none_short before [] = inr (refl, refl)
none_short before (b ∷ due) = inl (0, omega arith, sym (grown_nothing before))

-- what is put falls short where some is held, or nothing is written
pub put_short : {K : Type 0} (g : sink.Ghosts K) (old now : K) (all held left : List ℕ) → HasPut g old all now held left → (1 ≤ length held) ⊎ (now ≡ old)
    → FallsShort (g.written old) all (g.written now)
put_short g old now all held left h (inl some) =
    inl (
      length h.sent,
      omega (arith, some, ap length h.split, length-append h.sent (held ++ left), length-append held left),
      h.written ∙ ap (grown (g.written old)) (sym (ap (take (length h.sent)) (sym h.split) ∙ take_at h.sent (held ++ left) (length h.sent) refl)),
    )
put_short g old now all held left h (inr is) = subst (λ k. FallsShort (g.written old) all (g.written k)) (sym is) (none_short (g.written old) all)

-- a record is not read for the disk or for want of memory
pub span_record : (f : RecordFault) (before after : Option (List ℕ)) (due : List ℕ) → IsOutside f → FallsShort before due after → GainsSpan (of_record f) before due after
span_record fault.Disk before after due h short = short
span_record (fault.Damaged key col) before after due h short = absurd h
span_record fault.Memory before after due h short = short

-- the text is not put for a write or for want of memory
pub span_put : {K : Type 0} (g : sink.Ghosts K) (old now : K) (all : List ℕ) (s : DumpStatus) → PutFails g old all s now → GainsSpan s (g.written old) all (g.written now)
span_put g old now all s f = by f.cause
  where
    by : ((s ≡ status.SinkFault) × FailsToPut g old now) ⊎ (s ≡ status.NoMemory) → GainsSpan s (g.written old) all (g.written now)
    by (inl h) = subst (λ (t : DumpStatus). GainsSpan t (g.written old) all (g.written now)) (sym h.0) f.part
    by (inr h) = subst (λ (t : DumpStatus). GainsSpan t (g.written old) all (g.written now)) (sym h) (inl f.part)

-- ---- why

module _ {D K : Type 0} (d : disk.Ghosts D) (k : sink.Ghosts K) (x : Opened) where
  -- memory lacked
  pub stops_memory : (s : DumpStatus) (old_disk now_disk : D) (old now : K) → s ≡ status.NoMemory → Stops d k x s old_disk now_disk old now
  stops_memory s old_disk now_disk old now is = subst (λ (t : DumpStatus). Stops d k x t old_disk now_disk old now) (sym is) (record {
    done = λ e. cc;
    sink = λ e. absurd cc;
    disk = λ e. absurd cc;
    refused = λ f e. absurd cc;
    bad_record = λ f e. absurd cc;
    no_index = λ e. cc;
  })

  -- a write failed
  pub stops_sink : (s : DumpStatus) (old_disk now_disk : D) (old now : K) → s ≡ status.SinkFault → FailsToPut k old now → Stops d k x s old_disk now_disk old now
  stops_sink s old_disk now_disk old now is fails = subst (λ (t : DumpStatus). Stops d k x t old_disk now_disk old now) (sym is) (record {
    done = λ e. cc;
    sink = λ e. fails;
    disk = λ e. absurd cc;
    refused = λ f e. absurd cc;
    bad_record = λ f e. absurd cc;
    no_index = λ e. cc;
  })

  pub stops_put : (s : DumpStatus) (old_disk now_disk : D) (old now : K) (all : List ℕ) → PutFails k old all s now → Stops d k x s old_disk now_disk old now
  stops_put s old_disk now_disk old now all f = by f.cause
    where
      by : ((s ≡ status.SinkFault) × FailsToPut k old now) ⊎ (s ≡ status.NoMemory) → Stops d k x s old_disk now_disk old now
      by (inl h) = stops_sink s old_disk now_disk old now h.0 h.1
      by (inr h) = stops_memory s old_disk now_disk old now h

  -- a record is not read
  pub stops_record : (f : RecordFault) (s : Source) (old_disk now_disk : D) (old now : K) → (f ≡ fault.Disk → Fails d old_disk now_disk)
      → WhereTold (d.image old_disk) (λ image. IsReason (start_fault_of f) (events_in_source image (length x.names) x.index s))
      → Stops d k x (of_record f) old_disk now_disk old now
  stops_record fault.Disk s old_disk now_disk old now cause why = record {
    done = λ e. cc;
    sink = λ e. absurd cc;
    disk = λ e. cause refl;
    refused = λ f e. absurd cc;
    bad_record = λ f e. absurd cc;
    no_index = λ e. cc;
  }
  stops_record (fault.Damaged key col) s old_disk now_disk old now cause why = record {
    done = λ e. cc;
    sink = λ e. absurd cc;
    disk = λ e. absurd cc;
    refused = λ f e image is. subst (λ (f : DumpFault). IsBadRecord f image x) (same f e) (s, why image is);
    bad_record = λ f e. subst (λ (f : DumpFault). is_refusal f ≡ false) (same f e) refl;
    no_index = λ e. cc;
  }
    where
      same : (f : DumpFault) → status.Refused (dump_fault.BadRecord key col) ≡ status.Refused f → dump_fault.BadRecord key col ≡ f
      same f e = cc
  stops_record fault.Memory s old_disk now_disk old now cause why = stops_memory status.NoMemory old_disk now_disk old now refl

  -- a later call stops
  pub stops_later : (s : DumpStatus) (old_disk mid_disk now_disk : D) (old mid now : K) → d.image mid_disk ≡ d.image old_disk → d.faults old_disk ≤ d.faults mid_disk → k.faults old ≤ k.faults mid
      → Stops d k x s mid_disk now_disk mid now → Stops d k x s old_disk now_disk old now
  stops_later s old_disk mid_disk now_disk old mid now image disk_on sink_on h = record {
    done = h.done;
    sink = λ e. sink_rose (k.faults old) (k.faults mid) (k.faults now) sink_on (h.sink e);
    disk = λ e. disk_rose (d.faults old_disk) (d.faults mid_disk) (d.faults now_disk) disk_on (h.disk e);
    refused = λ f e there is. h.refused f e there (image ∙ is);
    bad_record = h.bad_record;
    no_index = h.no_index;
  }
    where
      sink_rose : (a b c : ℕ) → a ≤ b → CountRose b c → CountRose a c
      sink_rose a b c le h = omega (arith, le, h)

      disk_rose : (a b c : ℕ) → a ≤ b → Rose b c → Rose a c
      disk_rose a b c le h = omega (arith, le, h)

-- a later part of all gains so, behind what was put
pub gains_behind : (s : DumpStatus) (old mid now : Option (List ℕ)) (all piece : List ℕ) → (GrowsByPart mid piece now → GrowsByPart old all now)
    → GainsPart s mid piece now → GainsPart s old all now
gains_behind status.Done old mid now all piece f h = h
gains_behind status.SinkFault old mid now all piece f h = f h
gains_behind status.DiskFault old mid now all piece f h = f h
gains_behind status.NoMemory old mid now all piece f h = f h
gains_behind (status.Refused fault) old mid now all piece f h = h
gains_behind status.NoIndex old mid now all piece f h = h
