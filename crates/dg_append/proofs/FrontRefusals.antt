-- What a batch comes to whose first lines have changes, and then a line that is no change.
use Rattle.std.proofs.Common.{◌≡◌, ℕ, suc, ◌+◌, List, [], ◌∷◌, ◌++◌, Option, None, Result, Ok, Err, length, refl, ◌∙◌, ap, sym, subst, arith}
use Rattle.dg_graph.specs.declared.element.Element.{Element}
use Rattle.dg_graph.specs.declared.event.Change.{Change}
use Rattle.dg_graph.specs.declared.event.Event.{Event}
use Rattle.dg_graph.specs.declared.event.TheConstants.{REASON_FORM}
use Rattle.dg_graph.specs.CompletedChanges.{completed, event_of, go_on, on_value}
use Rattle.dg_graph.specs.Effect.{forwards}
use Rattle.dg_current.specs.declared.fault.PrepareFault.{PrepareFault}
use Rattle.dg_current.specs.declared.fault.PrepareFault.TheVariants.{BadChange, Memory}
use Rattle.dg_current.specs.Now.{FaultOf}
use Rattle.dg_append.specs.declared.front.Front.{Front}
use Rattle.dg_append.specs.declared.front.Front.TheVariants.{Whole, Form, Unkept}
use Rattle.dg_append.specs.Fronts.{IsFront, lines}

-- what the changes come to, or the line after them as one that is no change
abbrev pub then_other : ℕ → Result (List Event) (ℕ × ℕ) → Result (List Event) (ℕ × ℕ)
then_other n (Err fault) = Err fault
then_other n (Ok events) = Err (n, REASON_FORM)

then_one : (n : ℕ) (e : Event) (r : Result (List Event) (ℕ × ℕ))
    → on_value (λ (es : List Event). e ∷ es) (then_other n r) ≡ then_other n (on_value (λ (es : List Event). e ∷ es) r)
then_one n e (Err fault) = refl
then_one n e (Ok events) = refl

pub completed_other : (n earliest : ℕ) (set : List Element) (changes : List Change) (rest : List (Option Change))
    → completed n earliest set (lines changes ++ None ∷ rest) ≡ then_other (n + length changes) (completed n earliest set (lines changes))
completed_other n earliest set [] rest =
    let number : n ≡ n + 0 = omega arith in ap (λ (k : ℕ). let r : Result (List Event) (ℕ × ℕ) = Err (k, REASON_FORM) in r) number
completed_other n earliest set (c ∷ changes) rest =
    by_event (event_of earliest set c) (λ e. completed_other (n + 1) e.time (forwards set e) changes rest)
  where
    by_event : (r : Result Event ℕ)
        → ((e : Event) → completed (n + 1) e.time (forwards set e) (lines changes ++ None ∷ rest)
        ≡ then_other ((n + 1) + length changes) (completed (n + 1) e.time (forwards set e) (lines changes)))
        → go_on n (λ e. completed (n + 1) e.time (forwards set e) (lines changes ++ None ∷ rest)) r
        ≡ then_other (n + suc (length changes)) (go_on n (λ e. completed (n + 1) e.time (forwards set e) (lines changes)) r)
    by_event (Err reason) more = refl
    by_event (Ok e) more =
        let number : (n + 1) + length changes ≡ n + suc (length changes) = omega arith in
        ap (on_value (λ (es : List Event). e ∷ es)) (more e)
        ∙ then_one ((n + 1) + length changes) e (completed (n + 1) e.time (forwards set e) (lines changes))
        ∙ ap (λ (k : ℕ). then_other k (on_value (λ (es : List Event). e ∷ es) (completed (n + 1) e.time (forwards set e) (lines changes)))) number

-- no change comes to no event
pub none_completed : (n earliest : ℕ) (set : List Element) (changes : List Change) → length changes ≡ 0 → completed n earliest set (lines changes) ≡ Ok []
none_completed n earliest set [] h = refl
none_completed n earliest set (c ∷ changes) h = absurd (omega (arith, h))

-- the changes are refused, and so are the lines
pub front_fault : (earliest : ℕ) (set : List Element) (changes : List Change) (rest : List (Option Change)) (fault : PrepareFault)
    → FaultOf (completed 1 earliest set (lines changes)) fault → FaultOf (completed 1 earliest set (lines changes ++ None ∷ rest)) fault
front_fault earliest set changes rest (BadChange line reason) bad = completed_other 1 earliest set changes rest ∙ ap (then_other (1 + length changes)) bad
front_fault earliest set changes rest Memory bad = tt

-- the changes come to events, and the line after them is refused
pub other_refused : (earliest : ℕ) (set : List Element) (changes : List Change) (rest : List (Option Change)) (events : List Event) (many : ℕ)
    → completed 1 earliest set (lines changes) ≡ Ok events → many ≡ length changes
    → completed 1 earliest set (lines changes ++ None ∷ rest) ≡ Err (many + 1, REASON_FORM)
other_refused earliest set changes rest events many done counted =
    let number : 1 + length changes ≡ many + 1 = omega (arith, counted) in
    completed_other 1 earliest set changes rest ∙ ap (then_other (1 + length changes)) done
    ∙ ap (λ (k : ℕ). let r : Result (List Event) (ℕ × ℕ) = Err (k, REASON_FORM) in r) number

-- the lines begin with the changes, and then a line that is no change
pub form_refused : (front : Front) (earliest : ℕ) (set : List Element) (changes : List Change) (fault : PrepareFault) → front ≡ Form
    → ((rest : List (Option Change)) → FaultOf (completed 1 earliest set (lines changes ++ None ∷ rest)) fault)
    → (all : List (Option Change)) → IsFront front changes all → FaultOf (completed 1 earliest set all) fault
form_refused Whole earliest set changes fault is bad all h = cc
form_refused Form earliest set changes fault is bad all h =
    subst (λ (cs : List (Option Change)). FaultOf (completed 1 earliest set cs) fault) (sym h.1) (bad h.0)
form_refused Unkept earliest set changes fault is bad all h = cc
