-- Each run over the script of a history is the one that makes it.
use Rattle.std.proofs.Common.{◌≡◌, false, List, [], ◌∷◌, None, refl, sym, ap, subst, ◌∙◌, ⊎_elim}
use Rattle.std.specs.List.{All}
use Rattle.std.proofs.lemmas.Bool.{false≢true}
use Rattle.std.proofs.lemmas.List.Elements.{All-head, All-tail}
use Rattle.dg_machine.specs.declared.reply.Reply.{Reply}
use Rattle.dg_machine.specs.Answer.{Answered, is_refusal, no_memory, store_read}
use Rattle.dg_machine.specs.MachineLaws.{IsDetermined, IsFree}
use Rattle.dg_machine.specs.MachineState.{MachineState, machine_at}
use Rattle.dg_machine.specs.Run.{Run}
use Rattle.dg_machine.specs.Script.{Entry, script}
use Rattle.dg_dump.specs.DumpLaws.{Makes, ScriptsMakeNothingElse}
use Rattle.dg_dump.specs.ScriptOfHistory.{script_of}
use Rattle.dg_dump.proofs.HistoryRuns.{scripts_make_histories}

-- a free reply is a refusal
free_refuses : (r : Reply) → is_refusal r ≡ false → IsFree r → ⊥
free_refuses r ok free =
    ⊎_elim (λ (e : r ≡ no_memory). false≢true (sym ok ∙ ap (λ (r : Reply). is_refusal r) e))
    (λ (e : r ≡ store_read). false≢true (sym ok ∙ ap (λ (r : Reply). is_refusal r) e)) free

-- two runs over the same entries, in one of which each reply is ok, and in the other none is free
one_run : IsDetermined → (m : MachineState) (entries : List Entry) (xs ys : List Answered) → Run m entries xs → All (λ (a : Answered). is_refusal a.reply ≡ false) xs
    → Run m entries ys → All (λ (a : Answered). IsFree a.reply → ⊥) ys → xs ≡ ys
one_run det m [] [] [] run ok other bound = refl
one_run det m [] [] (y ∷ ys) run ok other bound = absurd other
one_run det m [] (x ∷ xs) ys run ok other bound = absurd run
one_run det m (e ∷ entries) [] ys run ok other bound = absurd run
one_run det m (e ∷ entries) (x ∷ xs) [] run ok other bound = absurd other
one_run det m (e ∷ entries) (x ∷ xs) (y ∷ ys) run ok other bound =
    let P : Answered → Type 0 = λ a. is_refusal a.reply ≡ false in
    let Q : Answered → Type 0 = λ a. IsFree a.reply → ⊥ in
    ⊎_elim
    (λ free. ⊎_elim (λ f. absurd (free_refuses x.reply (All-head P x xs ok) f)) (λ f. absurd (All-head Q y ys bound f)) free)
    (λ (same : (x.reply ≡ y.reply) × (x.state ≡ y.state)).
    let rest = one_run det x.state entries xs ys run.1 (All-tail P x xs ok) (subst (λ s. Run s entries ys) (sym same.1) other.1) (All-tail Q y ys bound) in
    λ i. record { reply = same.0 i; state = same.1 i } ∷ rest i)
    (det m e x.reply y.reply x.state y.state run.0 other.0)

pub nothing_else : IsDetermined → ScriptsMakeNothingElse
nothing_else det limits z legal brought room answers run bound =
    let made = scripts_make_histories limits z legal brought room in
    subst (Makes limits z) (one_run det (machine_at limits None) (script (script_of z)) made.0 answers made.1.run made.1.ok run bound) made.1
