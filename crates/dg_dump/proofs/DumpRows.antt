-- Worked rows: the script of a worked history, what it answers and what it makes.
use Rattle.std.specs.Prelude.{◌≡◌, ℕ, true, List, [], ◌∷◌, ◌++◌, Option, Some, None, codes, refl}
use Rattle.std.specs.Fmt.{digits}
use Rattle.dg_graph.specs.declared.event.Body.TheVariants as body
use Rattle.dg_graph.specs.declared.function.Function.TheVariants.{Intersection}
use Rattle.dg_history.specs.declared.form.Form.TheVariants as form
use Rattle.dg_history.specs.History.{History, with_batch}
use Rattle.dg_machine.specs.declared.reply.Refusal.TheVariants as refusal
use Rattle.dg_machine.specs.Answer.{Answered, answer, refuse}
use Rattle.dg_machine.specs.MachineState.{MachineState, machine_at, names_in}
use Rattle.dg_machine.specs.Planning.{no_plan}
use Rattle.dg_machine.specs.ReplyText.{text}
use Rattle.dg_machine.specs.Script.{Entry, Asked, No_command, Long_line, script}
use Rattle.dg_dump.specs.NamesOfLines.{NamesAreOfLines}
use Rattle.dg_dump.specs.ScriptOfHistory.{script_of}

p : History
p = record {
  params = record { l = 2; k = 2; function = Intersection };
  form = form.Two;
  batches = record {
    names = codes "name" ∷ codes "A" ∷ [];
    events =
        record { time = 10; body = body.NodeAdded 1 }
        ∷ record { time = 20; body = body.NodeAdded 2 }
        ∷ record { time = 30; body = body.EdgeAdded true 5 1 2 }
        ∷ record { time = 40; body = body.NodeAttr 0 1 None (Some 1) }
        ∷ record { time = 50; body = body.EdgeRemoved true 5 1 2 } ∷ [];
  } ∷ [];
}

-- the same with a batch behind it: a value of two words with a space at its end, a message, and a value taken away
p_more : History
p_more = with_batch p (record {
  names = codes "a b " ∷ [] ∷ [];
  events =
      record { time = 60; body = body.NodeAttr 0 1 (Some 1) (Some 2) }
      ∷ record { time = 60; body = body.Message 1 2 3 }
      ∷ record { time = 61; body = body.NodeAttr 0 1 (Some 2) None } ∷ [];
})

-- the answer with ample memory
answered : MachineState → Entry → Answered
answered m (Asked c lines) = answer m c lines no_plan
answered m (No_command line) = refuse m (refusal.Syntax 1)
answered m Long_line = refuse m refusal.LineLong

-- the replies, and the history behind them
output : MachineState → List Entry → List ℕ × Option History
output m [] = ([], m.index)
output m (e ∷ entries) =
    let a = answered m e in let more = output a.state entries in (text (names_in a.state.index) a.reply ++ more.0, more.1)

-- what a script makes where there is no index
made : List ℕ → List ℕ × Option History
made bytes = output (machine_at (record { script_bytes = 1099511627776; events = 268435456; file_bytes = 281474976710656; first_handle = 1 }) None) (script bytes)

p_script : script_of p ≡ codes "create 2 2 intersection\nload 5\n10 +node 1\n20 +node 2\n30 +edge 5 1 2 dir\n40 nset 1 name A\n50 -edge 5\n"
unfolding p digits
p_script = refl

p_names : NamesAreOfLines p
unfolding p
p_names = (refl, tt)

p_again : made (script_of p) ≡ (codes "ok create\nend\nok load 5 5 50\nend\n", Some p)
unfolding p made output answered digits
p_again = refl

more_script : script_of p_more
    ≡ codes "create 2 2 intersection\nload 5\n10 +node 1\n20 +node 2\n30 +edge 5 1 2 dir\n40 nset 1 name A\n50 -edge 5\nappend 3\n60 nset 1 name a b \n60 msg 1 2 \n61 ndel 1 name\n"
unfolding p p_more digits
more_script = refl

more_names : NamesAreOfLines p_more
unfolding p p_more
more_names = (refl, (refl, tt))

more_again : made (script_of p_more) ≡ (codes "ok create\nend\nok load 5 5 50\nend\nok append 3 8 61\nend\n", Some p_more)
unfolding p p_more made output answered digits
more_again = refl
