-- The runs of the machine of parts by what they show: where two ways of showing agree without messages, so do the runs.
use Rattle.std.proofs.Common.{◌≡◌, ℕ, false, List, [], ◌∷◌, sym, subst}
use Rattle.dg_graph.specs.declared.element.Columns.{Columns}
use Rattle.dg_graph.specs.declared.element.Element.{Element}
use Rattle.dg_machine.specs.Answer.{headed}
use Rattle.dg_machine.specs.declared.command.Command.TheVariants as command
use Rattle.dg_machine.specs.declared.reply.Head.TheVariants as head
use Rattle.dg_machine.specs.declared.reply.Reply.{Reply}
use Rattle.dg_machine.specs.Script.{Entry, Asked}
use Rattle.dg_part_runs.specs.PartsMachine.{Fails_to_read, Gives, Lacks_memory, Leaves_grammar, Lists, PartsAnswered, PartsRun, PartsState, PartsStep, Refuses, Releases, Too_long, with_set}

abbrev Shows : Type 0
Shows = ℕ → Columns → List Element

-- they show the same of each instant that no command can make differ
abbrev pub ShowsSame : PartsState → Shows → Shows → Type 0
ShowsSame m a b = (t : ℕ) (cols : Columns) → cols.transient ≡ false → a t cols ≡ b t cols

step_as : (m : PartsState) (a b : Shows) → ShowsSame m a b → (e : Entry) (r : Reply) (k : PartsState) → PartsStep a m e r k → PartsStep b m e r k
step_as m a b same e r k (Gives t cols weight silent free weighs) =
    subst (λ (set : List Element). PartsStep b m (Asked (command.At t cols) []) (headed (head.At m.next weight)) (with_set m set)) (sym (same t cols silent)) (Gives t cols weight silent free weighs)
step_as m a b same e r k (Lists handle set is) = Lists handle set is
step_as m a b same e r k (Releases handle is) = Releases handle is
step_as m a b same e r k (Refuses c refused is) = Refuses c refused is
step_as m a b same e r k (Lacks_memory c needs free) = Lacks_memory c needs free
step_as m a b same e r k (Fails_to_read t cols free) = Fails_to_read t cols free
step_as m a b same e r k (Leaves_grammar line column is) = Leaves_grammar line column is
step_as m a b same e r k Too_long = Too_long

pub run_as : (m : PartsState) (a b : Shows) → ShowsSame m a b → (entries : List Entry) (answers : List PartsAnswered) → PartsRun a m entries answers → PartsRun b m entries answers
run_as m a b same [] [] run = tt
run_as m a b same [] (x ∷ answers) run = absurd run
run_as m a b same (e ∷ entries) [] run = absurd run
run_as m a b same (e ∷ entries) (x ∷ answers) run = (step_as m a b same e x.reply x.state run.0, run_as x.state a b same entries answers run.1)
