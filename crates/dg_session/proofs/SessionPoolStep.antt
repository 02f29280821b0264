-- The answers of commands that clean the pool, or tell its size.
use Rattle.std.proofs.Common.{◌≡◌, ℕ, false, List, [], ◌∷◌, Option, None, Some, length, refl, sym, ◌∙◌, ap, subst}
use Rattle.std.specs.Prelude.{IfSome, MatchOption}
use Rattle.dg_append.specs.Overlays.{SameOverlay}
use Rattle.dg_handles.specs.Handles.{IsSweptWhole}
use Rattle.dg_machine.specs.declared.command.Command.{Command}
use Rattle.dg_machine.specs.declared.command.Command.TheVariants as command
use Rattle.dg_machine.specs.declared.reply.Head.TheVariants as head
use Rattle.dg_machine.specs.declared.reply.Reply.{Reply}
use Rattle.dg_machine.specs.Answer.{accepted, headed, is_refusal, say}
use Rattle.dg_machine.specs.MachineState.{MachineState, elements_held, union_of_sets}
use Rattle.dg_machine.specs.Needs.{needs}
use Rattle.dg_machine.specs.Planning.{no_plan}
use Rattle.dg_pool.specs.Graphs.{PoolState}
use Rattle.dg_pool.specs.Sweeps.{cells_of}
use Rattle.dg_session.proofs.ReplyNames.{head_names, names_stay}
use Rattle.dg_session.proofs.PartStates.{kept, one_image, stands_on}
use Rattle.dg_session.proofs.SessionSteps.{IsUnplanned, moved}
use Rattle.dg_session.specs.Decided.{Fits}
use Rattle.dg_session.specs.Parts.{Parts}
use Rattle.dg_session.specs.Session.{Accepts, StandsFor, refused_by}
use Rattle.dg_session.specs.Sweeps.{All_cells, IsNoSweep, No_cell, Some_cells, Sweep, SweepsOverlay, SweepsPool}
use Rattle.dg_stored.specs.StoredHistory.{IsHeldBy}
use Rattle.dg_ask.specs.ReplyNames.{ReplyNamesAreThere}

-- a command that needs nothing and changes nothing that the machine knows
stays : (c : Command) (p q : Parts) (image : Option (List ℕ)) (reply : Reply) → IsUnplanned c → refused_by p 0 (needs c) ≡ None → q ≡ p
    → ((m : MachineState) (x : List ℕ) → StandsFor p x m → accepted m c [] no_plan ≡ say m reply) → is_refusal reply ≡ false → Fits c reply → ReplyNamesAreThere (length q.names) reply → Accepts c [] p image q image reply
stays c p q image reply unplanned free same due accepts fits named = record {
  moves =
      moved c [] p q image image reply unplanned free
      (λ m x y a b s none. (m, due m x s, stands_on p q x y m same (one_image image image x y refl a b) s));
  accepted = accepts;
  free = free;
  fits = fits;
  held = λ h. subst (λ (x : Parts). IfSome image (λ bytes. IsHeldBy x.index x.names bytes)) (sym same) h;
  no_index = λ h. (ap (λ (x : Parts). x.index) (sym same) ∙ h, refl);
  quiet = λ h. refl;
  named = named;
  keeps_names = names_stay p.names q.names (ap (λ (x : Parts). x.names) same);
}

-- the elements that the current graph and the handles have together are those of the machine's
held_are : (p : Parts) (x : List ℕ) (m : MachineState) → StandsFor p x m → union_of_sets (p.graph ∷ p.graphs) ≡ elements_held m
held_are p x m s = ap (λ (y : Parts). union_of_sets (y.graph ∷ y.graphs)) (kept p x m s)

pub clean_answers : (p q : Parts) (cells : ℕ) (image : Option (List ℕ)) (reply : Reply) → q ≡ p → reply ≡ headed head.Cleaned → Accepts (command.Clean cells) [] p image q image reply
clean_answers p q cells image reply same is =
    stays (command.Clean cells) p q image reply (λ m. refl) refl same (λ m x s. ap (say m) (sym is)) (ap is_refusal is) (subst (Fits (command.Clean cells)) (sym is) tt) (head_names (length q.names) head.Cleaned reply is)

pub clean_all_answers : (p q : Parts) (cells : ℕ) (image : Option (List ℕ)) (reply : Reply) → q ≡ p → cells ≡ length (union_of_sets (p.graph ∷ p.graphs)) → reply ≡ headed (head.CleanedAll cells)
    → Accepts command.CleanAll [] p image q image reply
clean_all_answers p q cells image reply same size is =
    stays command.CleanAll p q image reply (λ m. refl) refl same
    (λ m x s. ap (λ n. say m (headed (head.CleanedAll n))) (ap length (sym (held_are p x m s)) ∙ sym size) ∙ ap (say m) (sym is)) (ap is_refusal is)
    (subst (Fits command.CleanAll) (sym is) tt) (head_names (length q.names) (head.CleanedAll cells) reply is)

pub pool_answers : (p : Parts) (live size : ℕ) (image : Option (List ℕ)) (reply : Reply) → live ≡ length p.table → size ≡ length (union_of_sets (p.graph ∷ p.graphs))
    → reply ≡ headed (head.Pool live size) → Accepts command.Pool [] p image p image reply
pool_answers p live size image reply live_is size_is is =
    stays command.Pool p p image reply (λ m. refl) refl refl
    (λ m x s.
    (λ i. say m (headed (head.Pool (length (sym s.table i)) (length (sym (held_are p x m s) i)))))
    ∙ (λ i. say m (headed (head.Pool (sym live_is i) (sym size_is i)))) ∙ ap (say m) (sym is)) (ap is_refusal is)
    (subst (Fits command.Pool) (sym is) tt) (head_names (length p.names) (head.Pool live size) reply is)

-- ---- what is swept

-- a whole sweep, of which the reply tells the cells that are left
pub whole_sweep : (old new : Option PoolState) (graph cells : ℕ) (reply : Reply) → SameOverlay old new → IfSome new IsSweptWhole → MatchOption new (cells ≡ graph) (λ p. cells ≡ length (cells_of p))
    → reply ≡ headed (head.CleanedAll cells) → SweepsPool command.CleanAll old new reply
whole_sweep None None graph cells reply same swept many is = refl
whole_sweep None (Some new) graph cells reply same swept many is = absurd same
whole_sweep (Some old) None graph cells reply same swept many is = absurd same
whole_sweep (Some old) (Some new) graph cells reply same swept many is = (swept, is ∙ ap (λ n. headed (head.CleanedAll n)) many)

-- a command that sweeps nothing owes nothing of it
pub nothing_swept : (s : Sweep) (old new : Option PoolState) (reply : Reply) → IsNoSweep s → SweepsOverlay s old new reply
nothing_swept (Some_cells cells) old new reply none = absurd none
nothing_swept All_cells old new reply none = absurd none
nothing_swept No_cell old new reply none = tt
