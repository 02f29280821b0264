-- A run, one step more at the end.
use Rattle.std.proofs.Common.{◌≡◌, List, [], ◌∷◌, ◌++◌, refl}
use Rattle.dg_machine.specs.Answer.{Answered}
use Rattle.dg_machine.specs.MachineState.{MachineState}
use Rattle.dg_machine.specs.Script.{Entry}
use Rattle.dg_machine.specs.Run.{Run, Step, last_state}

pub run_more : (m : MachineState) (entries : List Entry) (answers : List Answered) (e : Entry) (a : Answered)
    → Run m entries answers → Step (last_state m answers) e a.reply a.state → Run m (entries ++ e ∷ []) (answers ++ a ∷ [])
run_more m [] [] e a run step = (step, tt)
run_more m [] (b ∷ answers) e a run step = absurd run
run_more m (y ∷ entries) [] e a run step = absurd run
run_more m (y ∷ entries) (b ∷ answers) e a run step = (run.0, run_more b.state entries answers e a run.1 step)

pub last_more : (m : MachineState) (answers : List Answered) (a : Answered) → last_state m (answers ++ a ∷ []) ≡ a.state
last_more m [] a = refl
last_more m (b ∷ answers) a = last_more b.state answers a
