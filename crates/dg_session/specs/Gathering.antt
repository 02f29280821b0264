-- What is gathered of a part: what leads to the graph as of an instant.
use Rattle.std.specs.Prelude.{◌≡◌, ℕ, List, [], ◌∷◌, Option, Result, IfErr, IfOk}
use Rattle.dg_fold.specs.BytesRead.{Takes}
use Rattle.dg_gather.specs.declared.gathered.Gathered.{Gathered}
use Rattle.dg_gather.specs.Gathered.{shown_by}
use Rattle.dg_graph.specs.declared.element.Columns.{Columns}
use Rattle.dg_graph.specs.declared.element.Element.{Element}
use Rattle.dg_graph.specs.Replay.{shown_at}
use Rattle.dg_history.specs.History.{events_of}
use Rattle.dg_machine.specs.MachineState.{MachineState, history_in}
use Rattle.dg_records.specs.declared.fault.RecordFault.{RecordFault}
use Rattle.dg_retrieval.specs.Retrieval.{IsNoDamage}
use Rattle.dg_session.specs.Reads.{IsRetrieved}

-- a retrieval of the graph as of this one instant weighs so much
abbrev pub WeighsAlone : MachineState → ℕ → Columns → ℕ → Type 0
WeighsAlone m t cols weight =
    (singles : List ℕ) × (bases : List (Option ℕ)) × (graphs : List (List Element)) × IsRetrieved m (t ∷ []) cols weight singles bases graphs

-- Over an image that stands for the state: what is gathered shows the graph as of the instant, and weighs what a retrieval of
-- it weighs; as many bytes are read, and no damage is met.
pub record GathersFor (m : MachineState) (t : ℕ) (cols : Columns) (before after : ℕ) (r : Result Gathered RecordFault) : Type 0 where
  pub shown : IfOk r (λ g. shown_by g ≡ shown_at (events_of (history_in m.index)) t cols)
  pub weighs : IfOk r (λ g. WeighsAlone m t cols g.weight)
  pub takes : IfOk r (λ g. Takes g.weight before after)
  pub never : IfErr r IsNoDamage
