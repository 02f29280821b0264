-- The events that are read of the file of a history are those of the history.
use Rattle.std.proofs.Common.{◌≡◌, inl, inr, ℕ, List, Option, Some, None, Result, Ok, Err, refl, sym, ◌∙◌, ap, subst}
use Rattle.std.specs.Prelude.{IfErr, IfOk, IfSome}
use Rattle.std.specs.Global.{Vec}
use Rattle.dg_graph.specs.declared.event.Event.{Event}
use Rattle.dg_history.specs.declared.node.Key.{Key}
use Rattle.dg_graph.specs.declared.element.Column.{Column}
use Rattle.dg_history.specs.History.{History, events_of}
use Rattle.dg_index.specs.OpenedIndex.{Opening}
use Rattle.dg_machine.specs.MachineState.{MachineState, history_in}
use Rattle.dg_records.specs.declared.fault.RecordFault.{RecordFault}
use Rattle.dg_records.specs.declared.fault.RecordFault.TheVariants as fault
use Rattle.dg_retrieval.specs.Retrieval.{IsNoDamage}
use Rattle.dg_session.proofs.PartStates.{IsOf, is_of}
use Rattle.dg_session.proofs.VerifiedStep.{kept_opened, opened_is}
use Rattle.dg_session.specs.Parts.{Parts}
use Rattle.dg_session.specs.Session.{StandsFor}
use Rattle.dg_sound.specs.OwnEvents.{own_events}
use Rattle.dg_sound_files.specs.SoundFiles.{StandingFilesAreSound}
use Rattle.dg_start.specs.EventSources.{WhereTold}
use Rattle.dg_verify.specs.Faults.{IsFirstWrong}

-- what the call says of the own events of the file, by the index and the names that the session keeps
abbrev pub own_of : Parts → Opening → List ℕ → Result (List Event) (Key × Column)
own_of p o image = own_events image (kept_opened p o)

module _ (law : StandingFilesAreSound) (p : Parts) (o : Opening) (there : p.index ≡ Some o) where
  own_are : (image : List ℕ) (m : MachineState) → StandsFor p image m → own_of p o image ≡ Ok (events_of (history_in m.index))
  own_are image m s =
      let found = is_of p o image m there s in
      let z : History = found.0 in
      let h : IsOf p o image m z = found.1 in
      ap (own_events image) (opened_is p o image m z h) ∙ (law z image h.stands).2 ∙ ap (λ (i : Option History). Ok (events_of (history_in i))) (sym h.index)

  pub events_read : (told : Option (List ℕ)) (r : Result (Vec Event) RecordFault) → IfOk r (λ events. WhereTold told (λ image. own_of p o image ≡ Ok events.items))
      → IfSome told (λ image. (m : MachineState) → StandsFor p image m → IfOk r (λ events. events.items ≡ events_of (history_in m.index)))
  events_read None r own = tt
  events_read (Some image) (Err f) own = λ m s. tt
  events_read (Some image) (Ok events) own = λ m s. same (sym (own image refl) ∙ own_are image m s)
    where
      same : {xs ys : List Event} → (let a : Result (List Event) (Key × Column) = Ok xs in a) ≡ Ok ys → xs ≡ ys
      same e = cc

  pub never_damaged : (told : Option (List ℕ)) (r : Result (Vec Event) RecordFault) → IfErr r (λ f. WhereTold told (λ image. IsFirstWrong f (own_of p o image)))
      → IfSome told (λ image. (m : MachineState) → StandsFor p image m → IfErr r IsNoDamage)
  never_damaged None r wrong = tt
  never_damaged (Some image) (Ok events) wrong = λ m s. tt
  never_damaged (Some image) (Err fault.Disk) wrong = λ m s. inl refl
  never_damaged (Some image) (Err fault.Memory) wrong = λ m s. inr refl
  never_damaged (Some image) (Err (fault.Damaged k col)) wrong = λ m s. absurd (apart (sym (wrong image refl) ∙ own_are image m s))
    where
      apart : {k : Key × Column} {xs : List Event} → (let a : Result (List Event) (Key × Column) = Err k in a) ≡ Ok xs → ⊥
      apart e = cc

  pub first_wrong : (told : Option (List ℕ)) (r : Result (Vec Event) RecordFault) → IfErr r (λ f. WhereTold told (λ image. IsFirstWrong f (own_of p o image)))
      → IfErr r (λ f. (x : Opening) → p.index ≡ Some x → IfSome told (λ image. IsFirstWrong f (own_of p x image)))
  first_wrong told (Ok events) wrong = tt
  first_wrong told (Err f) wrong = λ x is. subst (λ (y : Opening). IfSome told (λ image. IsFirstWrong f (own_of p y image))) (same_index (sym there ∙ is)) (seen told wrong)
    where
      same_index : {a b : Opening} → Some a ≡ Some b → a ≡ b
      same_index e = cc

      seen : (told : Option (List ℕ)) → WhereTold told (λ image. IsFirstWrong f (own_of p o image)) → IfSome told (λ image. IsFirstWrong f (own_of p o image))
      seen None h = tt
      seen (Some image) h = h image refl
