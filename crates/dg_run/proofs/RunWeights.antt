-- What the turns of a run weigh bounds what they read.
use Rattle.std.proofs.Common.{◌≡◌, ℕ, ◌+◌, Bool, true, false, ◌&&◌, not, List, ◌∷◌, Option, Some, None, Result, Ok, Err, IfSome, refl, sym, subst, arith}
use Rattle.std.specs.Option.{option_map}
use Rattle.dg_fold.specs.BytesRead.{Takes, TakesAtMost}
use Rattle.dg_text.specs.Lines.{ScriptLine}
use Rattle.dg_history.specs.History.{History}
use Rattle.dg_index.specs.ImageOfHistory.{StandsAs}
use Rattle.dg_index.specs.OpenedIndex.{opened_of}
use Rattle.dg_file.specs.OpeningBytes.{blank_bytes}
use Rattle.dg_machine.specs.declared.command.Command.{Command}
use Rattle.dg_machine.specs.declared.command.Command.TheVariants as command
use Rattle.dg_machine.specs.declared.reply.Reply.{Reply}
use Rattle.dg_machine.specs.Answer.{is_refusal}
use Rattle.dg_machine.specs.MachineState.{MachineState}
use Rattle.dg_machine.specs.Needs.{needs}
use Rattle.dg_machine.specs.Script.{Entry, Asked, No_command, Long_line}
use Rattle.dg_session.specs.Parts.{Parts}
use Rattle.dg_session.specs.BatchReads.{is_early}
use Rattle.dg_session.specs.Reads.{Reads, ReadsAsTold, ReadsBy, ReadsOlder, ReadsToWrite}
use Rattle.dg_session.specs.Session.{StandsFor}
use Rattle.dg_start.specs.Calls.{TakesOrFails, TakesStart}
use Rattle.dg_start.specs.SessionStart.{start_bytes}
use Rattle.dg_run.specs.RunWeights.{CutWeighs, IsOpening, Weighs, WeighsOlder, WeighsReading, WeighsToWrite, WeighsTold, WeighsWhere}
use Rattle.dg_run.specs.Turns.{ReadsBroken, ReadsTurn}

-- some bytes, and then some more
pub takes_both : (n k before mid after : ℕ) → TakesAtMost n before mid → TakesAtMost k mid after → TakesAtMost (n + k) before after
takes_both n k before mid after p q = omega (arith, p, q)

-- none
pub takes_none : (n before after : ℕ) → n ≡ 0 → after ≡ before → TakesAtMost n before after
takes_none n before after none same = omega (arith, none, same)

pub takes_exactly : (n before after : ℕ) → Takes n before after → TakesAtMost n before after
takes_exactly n before after takes = omega (arith, takes)

-- ---- a turn

older_weighs : (m : MachineState) (count l before after : ℕ) → ReadsOlder m count before after → WeighsOlder m count l → TakesAtMost l before after
older_weighs m count l before after reads w = subst (λ (n : ℕ). TakesAtMost n before after) (sym w.2) (reads w.0 w.1)

told_weighs : (b : Bool) (m : MachineState) (c : Command) (got : List ScriptLine) (reply : Reply) (l before after : ℕ) → ReadsAsTold b m c got reply before after → WeighsTold b m c got reply l → TakesAtMost l before after
told_weighs false m c got reply l before after reads w = omega (arith, reads, w)
told_weighs true m c got reply l before after reads w = subst (λ (n : ℕ). TakesAtMost n before after) (sym w.2) (reads w.0 w.1)

reading_weighs : (c : Command) (m : MachineState) (got : List ScriptLine) (reply : Reply) (l before after : ℕ) → ReadsBy m c got reply before after → WeighsReading m c got reply l → TakesAtMost l before after
reading_weighs (command.Load count) m got reply l before after reads w = older_weighs m count l before after reads w
reading_weighs (command.Append count) m got reply l before after reads w = older_weighs m count l before after reads w
reading_weighs (command.Workload seed count) m got reply l before after reads w = older_weighs m count l before after reads w
reading_weighs command.Verify m got reply l before after reads w = subst (λ (n : ℕ). TakesAtMost n before after) (sym w) reads
reading_weighs (command.Create a k f) m got reply l before after reads w = told_weighs (is_refusal reply) m (command.Create a k f) got reply l before after reads w
reading_weighs (command.CreateSkewed a k r) m got reply l before after reads w = told_weighs (is_refusal reply) m (command.CreateSkewed a k r) got reply l before after reads w
reading_weighs command.Upgrade m got reply l before after reads w = told_weighs (is_refusal reply) m command.Upgrade got reply l before after reads w
reading_weighs (command.At t cols) m got reply l before after reads w = told_weighs (is_refusal reply) m (command.At t cols) got reply l before after reads w
reading_weighs (command.Several cols times count) m got reply l before after reads w = told_weighs (is_refusal reply) m (command.Several cols times count) got reply l before after reads w
reading_weighs (command.Materialise node cols) m got reply l before after reads w = told_weighs (is_refusal reply) m (command.Materialise node cols) got reply l before after reads w
reading_weighs (command.Select what cols) m got reply l before after reads w = told_weighs (is_refusal reply) m (command.Select what cols) got reply l before after reads w
reading_weighs (command.Index key) m got reply l before after reads w = told_weighs (is_refusal reply) m (command.Index key) got reply l before after reads w
reading_weighs (command.Find t key value) m got reply l before after reads w = told_weighs (is_refusal reply) m (command.Find t key value) got reply l before after reads w
reading_weighs (command.Ask handle query) m got reply l before after reads w = told_weighs (is_refusal reply) m (command.Ask handle query) got reply l before after reads w
reading_weighs (command.Release handle) m got reply l before after reads w = told_weighs (is_refusal reply) m (command.Release handle) got reply l before after reads w
reading_weighs (command.Clean cells) m got reply l before after reads w = told_weighs (is_refusal reply) m (command.Clean cells) got reply l before after reads w
reading_weighs command.CleanAll m got reply l before after reads w = told_weighs (is_refusal reply) m command.CleanAll got reply l before after reads w
reading_weighs command.Pool m got reply l before after reads w = told_weighs (is_refusal reply) m command.Pool got reply l before after reads w
reading_weighs (command.Plan t cols) m got reply l before after reads w = told_weighs (is_refusal reply) m (command.Plan t cols) got reply l before after reads w
reading_weighs (command.Certify t cols count) m got reply l before after reads w = told_weighs (is_refusal reply) m (command.Certify t cols count) got reply l before after reads w
reading_weighs command.Tree m got reply l before after reads w = told_weighs (is_refusal reply) m command.Tree got reply l before after reads w

at_image : (image : Option (List ℕ)) (P : List ℕ → Type 0) (x : List ℕ) → IfSome image P → image ≡ Some x → P x
at_image image P x all is = let here : IfSome (Some x) P = subst (λ (o : Option (List ℕ)). IfSome o P) is all in here

command_weighs : (c : Command) (got : List ScriptLine) (old : Parts) (image : Option (List ℕ)) (x : List ℕ) (m : MachineState) (reply : Reply) (l before after : ℕ) → image ≡ Some x → StandsFor old x m
    → Reads c old image reply before after → Weighs m (Asked c got) reply l → TakesAtMost l before after
command_weighs c got old image x m reply l before after is stands reads w = by (needs c).reads refl (is_early reply) refl w
  where
    by : (r : Bool) → (needs c).reads ≡ r → (e : Bool) → is_early reply ≡ e → WeighsWhere (r && not e) m c got reply l → TakesAtMost l before after
    by false off e early w = takes_none l before after w (reads.nothing off)
    by true on true early w = takes_none l before after w (reads.early early)
    by true on false late w = reading_weighs c m got reply l before after (at_image image _ x (reads.told on) is m stands got) w

-- what a turn with a reply reads over an image that stands for the state is at most what its entry weighs
pub turn_weighs : (e : Entry) (old : Parts) (image : Option (List ℕ)) (x : List ℕ) (m : MachineState) (r : Reply) (l before after : ℕ) → image ≡ Some x → StandsFor old x m
    → ReadsTurn e old image r before after → Weighs m e r l → TakesAtMost l before after
turn_weighs (Asked c got) old image x m r l before after is stands reads w = command_weighs c got old image x m r l before after is stands reads w
turn_weighs (No_command line) old image x m r l before after is stands reads w = takes_none l before after w reads
turn_weighs Long_line old image x m r l before after is stands reads w = takes_none l before after w reads

write_weighs : (b : Bool) (c : Command) (old : Parts) (image : Option (List ℕ)) (x : List ℕ) (m : MachineState) (l before after : ℕ) → (needs c).reads ≡ b → image ≡ Some x → StandsFor old x m
    → ReadsToWrite c old image before after → WeighsToWrite b m (needs c).changes l → TakesAtMost l before after
write_weighs false c old image x m l before after off is stands reads w = takes_none l before after w (reads.nothing off)
write_weighs true c old image x m l before after on is stands reads w = older_weighs m (needs c).changes l before after (at_image image _ x reads.older is m stands) w

-- the same of a turn within which the disk failed
pub cut_weighs : (e : Entry) (rest : Option (List Entry)) (more : Option (List Entry)) (old : Parts) (image : Option (List ℕ)) (x : List ℕ) (m : MachineState) (l before after : ℕ) → more ≡ option_map (λ es. e ∷ es) rest
    → image ≡ Some x → StandsFor old x m → ReadsBroken e old image before after → CutWeighs m more l → TakesAtMost l before after
cut_weighs e rest more old image x m l before after first is stands reads w = by rest e reads (subst (λ (o : Option (List Entry)). CutWeighs m o l) first w)
  where
    by : (rest : Option (List Entry)) (e : Entry) → ReadsBroken e old image before after → CutWeighs m (option_map (λ es. e ∷ es) rest) l → TakesAtMost l before after
    by None e reads w = absurd w
    by (Some es) (Asked c got) reads w = write_weighs (needs c).reads c old image x m l before after refl is stands reads w
    by (Some es) (No_command line) reads w = absurd reads
    by (Some es) Long_line reads w = absurd reads

-- ---- a start

fails_or_takes : {A E : Type 0} (r : Result A E) (n before after : ℕ) → TakesOrFails r n before after → TakesAtMost n before after
fails_or_takes (Ok x) n before after takes = takes_exactly n before after takes
fails_or_takes (Err fault) n before after takes = takes

-- what a start reads of an image that stands for an index
pub opening_takes : {A E : Type 0} (r : Result A E) (index : Option History) (image : List ℕ) (n before after : ℕ) → StandsAs index image → TakesStart r image before after → IsOpening index image n
    → TakesAtMost n before after
opening_takes r None image n before after stands takes is =
    subst (λ (k : ℕ). TakesAtMost k before after) (sym is) (fails_or_takes r (blank_bytes image) before after (takes.blank stands))
opening_takes r (Some z) image n before after stands takes is =
    subst (λ (k : ℕ). TakesAtMost k before after) (sym is.2) (fails_or_takes r (start_bytes (opened_of z).index is.0) before after (takes.history z stands is.0 is.1))
