-- The answer to a release.
use Rattle.std.proofs.Common.{◌≡◌, ℕ, Bool, true, false, ◌==◌, List, [], ◌∷◌, Option, None, if◌then◌else◌, map, length, refl, sym, ◌∙◌, ap, subst}
use Rattle.std.specs.Prelude.{IfSome}
use Rattle.std.specs.List.{All}
use Rattle.std.proofs.lemmas.List.Elements.{All-cons, All-head, All-tail}
use Rattle.dg_graph.specs.declared.element.Element.{Element}
use Rattle.dg_handles.specs.Handles.{graphs_without}
use Rattle.dg_history.specs.History.{History}
use Rattle.dg_machine.specs.declared.command.Command.TheVariants as command
use Rattle.dg_machine.specs.declared.reply.Head.TheVariants as head
use Rattle.dg_machine.specs.declared.reply.Reply.{Reply}
use Rattle.dg_machine.specs.declared.stands.Stands.{Stands}
use Rattle.dg_machine.specs.Answer.{Answered, headed, is_refusal}
use Rattle.dg_machine.specs.MachineState.{MachineState, elements, history_in, without_handle}
use Rattle.dg_machine.specs.Needs.{needs}
use Rattle.dg_session.proofs.ReplyNames.{head_names, names_stay}
use Rattle.dg_session.proofs.PartStates.{kept, one_image, parts_of, stands}
use Rattle.dg_session.proofs.SessionSteps.{moved}
use Rattle.dg_session.specs.Decided.{Fits}
use Rattle.dg_session.specs.Parts.{Parts}
use Rattle.dg_session.specs.Session.{Accepts, StandsFor, is_reached, refused_by}
use Rattle.dg_stored.specs.StoredHistory.{IsHeldBy}

-- what holds of all handles holds of those without one
pub all_without : (P : ℕ × Stands → Type 0) (handle : ℕ) (table : List (ℕ × Stands)) → All P table → All P (without_handle handle table)
all_without P handle [] h = h
all_without P handle (e ∷ table) h = by (e.0 == handle) (all_without P handle table (All-tail P e table h))
  where
    by : (here : Bool) → All P (without_handle handle table) → All P (if here then table else e ∷ without_handle handle table)
    by true rest = All-tail P e table h
    by false rest = All-cons P e (without_handle handle table) (All-head P e table h) rest

-- ---- what is left

-- the graphs of the handles without one are theirs
graphs_left : (z : History) (handle : ℕ) (table : List (ℕ × Stands))
    → graphs_without handle table (map (λ (e : ℕ × Stands). elements z e.1) table) ≡ map (λ (e : ℕ × Stands). elements z e.1) (without_handle handle table)
graphs_left z handle [] = refl
graphs_left z handle (e ∷ table) = by (e.0 == handle) (graphs_left z handle table)
  where
    all : List (List Element)
    all = map (λ (e : ℕ × Stands). elements z e.1) table

    by : (here : Bool) → graphs_without handle table all ≡ map (λ (e : ℕ × Stands). elements z e.1) (without_handle handle table)
        → (if here then all else elements z e.1 ∷ graphs_without handle table all) ≡ map (λ (e : ℕ × Stands). elements z e.1) (if here then table else e ∷ without_handle handle table)
    by true rest = refl
    by false rest = λ i. elements z e.1 ∷ rest i

-- what a session keeps without the handle
abbrev pub parts_without : ℕ → Parts → Parts
parts_without handle p = record p { table = without_handle handle p.table; graphs = graphs_without handle p.table p.graphs }

-- the state without the handle
abbrev state_without : ℕ → MachineState → MachineState
state_without handle m = record m { table = without_handle handle m.table }

stands_without : (p q : Parts) (image : List ℕ) (m : MachineState) (handle : ℕ) → StandsFor p image m → q ≡ parts_without handle p → StandsFor q image (state_without handle m)
stands_without p q image m handle s is =
    stands q image (state_without handle m) p.indexes
    (is ∙ ap (parts_without handle) (kept p image m s)
    ∙ (λ i. let x : Parts = record (parts_of m p.indexes) { table = without_handle handle m.table; graphs = graphs_left (history_in m.index) handle m.table i } in x))
    s.indexes s.image_stands
    (all_without (λ (e : ℕ × Stands). is_reached (history_in m.index) e.1 ≡ true) handle m.table s.reached)
    (λ none. ap (without_handle handle) (s.no_handles none))

pub release_answers : (p q : Parts) (handle : ℕ) (image : Option (List ℕ)) (reply : Reply) → refused_by p 0 (needs (command.Release handle)) ≡ None → q ≡ parts_without handle p → reply ≡ headed (head.Released handle) → Accepts (command.Release handle) [] p image q image reply
release_answers p q handle image reply free is reply_is = record {
  moves =
      moved (command.Release handle) [] p q image image reply (λ m. refl) free
      (λ m x y a b s none. (
        state_without handle m,
        (λ i. let r : Answered = record { reply = sym reply_is i; state = state_without handle m } in r),
        stands_without p q y m handle (subst (λ z. StandsFor p z m) (one_image image image x y refl a b) s) is,
      ));
  accepted = ap is_refusal reply_is;
  free = free;
  fits = subst (Fits (command.Release handle)) (sym reply_is) refl;
  held = λ h. subst (λ (x : Parts). IfSome image (λ bytes. IsHeldBy x.index x.names bytes)) (sym is) h;
  no_index = λ h. (ap (λ (x : Parts). x.index) (sym is) ∙ h, refl);
  quiet = λ h. refl;
  named = head_names (length q.names) (head.Released handle) reply reply_is;
  keeps_names = names_stay p.names q.names (ap (λ (x : Parts). x.names) is);
}
