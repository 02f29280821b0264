-- A reply tells the index of the state that the machine goes to with it.
use Rattle.std.proofs.Common.{◌≡◌, ℕ, Bool, true, false, List, [], ◌∷◌, Option, None, Some, Result, Ok, Err, refl, sym, ◌∙◌, ap}
use Rattle.std.specs.Prelude.{◌&&◌, if◌then◌else◌, nat_lt, not, take}
use Rattle.std.specs.List.{flat_map}
use Rattle.std.proofs.lemmas.Bool.{false≢true}
use Rattle.dg_text.specs.Lines.{ScriptLine}
use Rattle.dg_changes.specs.Batch.{batch_of}
use Rattle.dg_changes.specs.GeneratedChanges.{batch_of_changes, generated}
use Rattle.dg_history.specs.History.{Batch, History, is_wide, with_batch, with_upgrade}
use Rattle.dg_history.specs.LegalHistory.{are_silent}
use Rattle.dg_index.specs.FileOfHistory.{size}
use Rattle.dg_machine.specs.declared.command.Command.{Command}
use Rattle.dg_machine.specs.declared.command.Command.TheVariants as command
use Rattle.dg_machine.specs.declared.reply.Head.{Head}
use Rattle.dg_machine.specs.declared.reply.Head.TheVariants as head
use Rattle.dg_machine.specs.declared.reply.Refusal.{Refusal}
use Rattle.dg_machine.specs.declared.reply.Refusal.TheVariants as refusal
use Rattle.dg_machine.specs.declared.reply.Reply.{Reply}
use Rattle.dg_machine.specs.declared.stands.Stands.{Stands}
use Rattle.dg_machine.specs.Answer.{Answered, accepted, answer_by, is_refusal, base_for, overlays, refuse, upgrading, with_handle, with_handles, with_new, with_workload}
use Rattle.dg_machine.specs.MachineState.{MachineState, history_in}
use Rattle.dg_machine.specs.Needs.{refused}
use Rattle.dg_machine.specs.Planning.{Planned}
use Rattle.dg_machine.specs.Run.{Answers, Fails_to_read, Lacks_memory, Leaves_grammar, Step, Too_long}
use Rattle.dg_machine.specs.Script.{Entry}

-- handles are no part of the index
handles_index : (m : MachineState) (all : List Stands) → (with_handles m all).index ≡ m.index
handles_index m [] = refl
handles_index m (stands ∷ more) = handles_index (with_handle m stands) more

-- the index behind an answer does not depend on what is planned
planned_index : (m : MachineState) (c : Command) (lines : List ScriptLine) (p q : Planned) → (accepted m c lines p).state.index ≡ (accepted m c lines q).state.index
planned_index m (command.At t cols) lines p q = refl
planned_index m (command.Several cols times count) lines p q =
    handles_index m (overlays cols (base_for m cols (flat_map (λ graft. graft.steps) p.grafts)) (take count times))
    ∙ sym (handles_index m (overlays cols (base_for m cols (flat_map (λ graft. graft.steps) q.grafts)) (take count times)))
planned_index m (command.Materialise node cols) lines p q = refl
planned_index m (command.Plan t cols) lines p q = refl
planned_index m c lines p q = refl

answered_index : (r : Option Refusal) (m : MachineState) (c : Command) (lines : List ScriptLine) (p q : Planned) → (answer_by r m c lines p).state.index ≡ (answer_by r m c lines q).state.index
answered_index (Some r) m c lines p q = refl
answered_index None m c lines p q = planned_index m c lines p q

-- of two answers only the one that leaves the index is a refusal
either_index : (m : MachineState) (full : Bool) (x y : Answered) → x.state.index ≡ m.index → is_refusal y.reply ≡ false
    → is_refusal (if full then x else y).reply ≡ true → (if full then x else y).state.index ≡ m.index
either_index m true x y stays accepts e = stays
either_index m false x y stays accepts e = absurd (false≢true (sym accepts ∙ e))

-- of a refusal and another answer, where the other leaves the index if it is a refusal
refusal_or : (m : MachineState) (b : Bool) (r : Refusal) (y : Answered) → (is_refusal y.reply ≡ true → y.state.index ≡ m.index)
    → is_refusal (if b then refuse m r else y).reply ≡ true → (if b then refuse m r else y).state.index ≡ m.index
refusal_or m true r y stays e = refl
refusal_or m false r y stays e = stays e

-- a batch that is refused is not kept
refused_batch : (m : MachineState) (z : History) (make : ℕ → ℕ → ℕ → Head) (due : Result Batch (ℕ × ℕ))
    → is_refusal (with_new m z make due).reply ≡ true → (with_new m z make due).state.index ≡ m.index
refused_batch m z make (Err fault) e = refl
refused_batch m z make (Ok b) e =
    refusal_or m (not (is_wide z.form) && not (are_silent b.events)) refusal.OldFormat _
    (either_index m (nat_lt m.limits.file_bytes (size (with_batch z b))) (refuse m _) (record { reply = _; state = _ }) refl refl) e

refused_workload : (m : MachineState) (due : Result Batch (ℕ × ℕ)) → is_refusal (with_workload m due).reply ≡ true → (with_workload m due).state.index ≡ m.index
refused_workload m (Err fault) e = refl
refused_workload m (Ok b) e =
    let z : History = history_in m.index in
    refusal_or m (not (is_wide z.form) && not (are_silent b.events)) refusal.OldFormat _
    (either_index m (nat_lt m.limits.file_bytes (size (with_batch z b))) (refuse m _) (record { reply = _; state = _ }) refl refl) e

-- nor is the file upgraded by a refusal
refused_upgrade : (m : MachineState) (z : History) → is_refusal (upgrading m z).reply ≡ true → (upgrading m z).state.index ≡ m.index
refused_upgrade m z e = either_index m (nat_lt m.limits.file_bytes (size (with_upgrade z))) (refuse m _) (record { reply = _; state = _ }) refl refl e

-- a refusal leaves the index
refused_command : (m : MachineState) (c : Command) (lines : List ScriptLine) (p : Planned) → is_refusal (accepted m c lines p).reply ≡ true → (accepted m c lines p).state.index ≡ m.index
refused_command m (command.Create l k function) lines p e = absurd (cc)
refused_command m (command.CreateSkewed l k r) lines p e = absurd (cc)
refused_command m command.Upgrade lines p e = refused_upgrade m (history_in m.index) e
refused_command m (command.Load count) lines p e = refused_batch m (history_in m.index) (λ events total last. head.Loaded events total last) (batch_of (history_in m.index) lines) e
refused_command m (command.Append count) lines p e = refused_batch m (history_in m.index) (λ events total last. head.Appended events total last) (batch_of (history_in m.index) lines) e
refused_command m (command.At t cols) lines p e = refl
refused_command m (command.Several cols times count) lines p e = handles_index m (overlays cols (base_for m cols (flat_map (λ graft. graft.steps) p.grafts)) (take count times))
refused_command m (command.Materialise node cols) lines p e = refl
refused_command m (command.Workload seed count) lines p e = refused_workload m (batch_of_changes (history_in m.index) (generated seed count)) e
refused_command m c lines p e = refl

refused_index : (r : Option Refusal) (m : MachineState) (c : Command) (lines : List ScriptLine) (p : Planned) → is_refusal (answer_by r m c lines p).reply ≡ true → (answer_by r m c lines p).state.index ≡ m.index
refused_index (Some r) m c lines p e = refl
refused_index None m c lines p e = refused_command m c lines p e

-- two steps with one reply come to one index
pub one_index : (m : MachineState) (e : Entry) (r s : Reply) (k n : MachineState) → r ≡ s → Step m e r k → Step m e s n → k.index ≡ n.index
one_index m e r s k n same (Answers c lines p x) (Answers d others q y) = answered_index (refused m c lines) m c lines p q
one_index m e r s k n same (Answers c lines p x) (Lacks_memory d others t) = refused_index (refused m c lines) m c lines p (ap is_refusal same)
one_index m e r s k n same (Answers c lines p x) (Fails_to_read d others t) = refused_index (refused m c lines) m c lines p (ap is_refusal same)
one_index m e r s k n same (Lacks_memory c lines t) (Answers d others q y) = sym (refused_index (refused m c lines) m c lines q (ap is_refusal (sym same)))
one_index m e r s k n same (Lacks_memory c lines t) (Lacks_memory d others u) = refl
one_index m e r s k n same (Lacks_memory c lines t) (Fails_to_read d others u) = refl
one_index m e r s k n same (Fails_to_read c lines t) (Answers d others q y) = sym (refused_index (refused m c lines) m c lines q (ap is_refusal (sym same)))
one_index m e r s k n same (Fails_to_read c lines t) (Lacks_memory d others u) = refl
one_index m e r s k n same (Fails_to_read c lines t) (Fails_to_read d others u) = refl
one_index m e r s k n same (Leaves_grammar line column x) (Leaves_grammar others other y) = refl
one_index m e r s k n same Too_long Too_long = refl
