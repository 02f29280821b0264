-- Worked examples, computed by the definition: what replies account for.
use Rattle.std.specs.Prelude.{codes, false, true, [], ◌∷◌, None, Some, refl}
use Rattle.dg_graph.specs.declared.element.Columns.{Columns}
use Rattle.dg_graph.specs.declared.event.Body.TheVariants as body
use Rattle.dg_graph.specs.declared.function.Function.TheVariants.{Intersection}
use Rattle.dg_history.specs.declared.form.Form.TheVariants as form
use Rattle.dg_history.specs.History.{History}
use Rattle.dg_machine.specs.declared.command.Command.TheVariants as command
use Rattle.dg_machine.specs.declared.reply.Head.TheVariants as head
use Rattle.dg_machine.specs.declared.reply.Refusal.TheVariants as refusal
use Rattle.dg_machine.specs.declared.reply.Reply.TheVariants as replied
use Rattle.dg_machine.specs.Answer.{Answered, headed, verify_reply}
use Rattle.dg_machine.specs.MachineState.{MachineState}
use Rattle.dg_machine.specs.Script.{Asked, No_command}
use Rattle.dg_run.specs.RunWeights.{RunWeighs}

abbrev structure : Columns
structure = record { nodes_attr = false; edges_attr = false; transient = false }

-- a file of five changes has two lists, a top, two downs and a piece, whose columns have 240 bytes together
five : History
five = record {
  params = record { l = 2; k = 2; function = Intersection };
  form = form.One;
  batches = record {
    names = codes "name" ∷ codes "A" ∷ [];
    events =
        record { time = 10; body = body.NodeAdded 1 }
        ∷ record { time = 20; body = body.NodeAdded 2 }
        ∷ record { time = 30; body = body.EdgeAdded true 5 1 2 }
        ∷ record { time = 40; body = body.NodeAttr 0 1 None (Some 1) }
        ∷ record { time = 50; body = body.EdgeRemoved true 5 1 2 } ∷ [];
  } ∷ [];
}

module _ (m : MachineState) where
  -- two retrievals, which tell 26 and 40, and between them a command that reads nothing
  abbrev at_first : Answered
  at_first = record { reply = headed (head.At 1 26); state = m }

  abbrev at_last : Answered
  at_last = record { reply = headed (head.At 2 40); state = m }

  abbrev released : Answered
  released = record { reply = headed (head.Released 1); state = m }

  retrievals : RunWeighs m (Asked (command.At 20 structure) [] ∷ Asked (command.Release 1) [] ∷ Asked (command.At 30 structure) [] ∷ []) (at_first ∷ released ∷ at_last ∷ []) 66
  retrievals = (26, 40, refl, (0, 40, refl, (40, 0, refl, refl, refl), refl), refl)

  -- a batch that is refused as there is no index, and a line that is in no command
  abbrev refused_early : Answered
  refused_early = record { reply = replied.Refused refusal.NoIndex; state = m }

  abbrev off_grammar : Answered
  off_grammar = record { reply = replied.Refused (refusal.Syntax 1); state = m }

  refusals : RunWeighs m (Asked (command.Append 1) [] ∷ No_command [] ∷ []) (refused_early ∷ off_grammar ∷ []) 0
  refusals = (0, 0, refl, (0, 0, refl, refl, refl), refl)

  abbrev sound : Answered
  sound = record { reply = verify_reply five; state = m }

  verified : RunWeighs (record m { index = Some five }) (Asked command.Verify [] ∷ []) (sound ∷ []) 240
  unfolding five
  verified = (240, 0, refl, refl, refl)
