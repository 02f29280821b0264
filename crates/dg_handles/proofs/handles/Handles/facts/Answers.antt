use Rattle.std.proofs.Common.{All, subst}
use Rattle.dg_handles.specs.Handles.{HandlesState, HoldsNode}
use Rattle.dg_handles.proofs.HandleBases.{bases_in_entries}
use Rattle.dg_machine.specs.Planning.{bases_in}
use Rattle.dg_handles.proofs.handles.Handles.facts.Goals as goal

pub returns : goal.returns
returns c = record {
  held = λ cols.
      subst (λ (s : HandlesState). All (HoldsNode s.table cols) (bases_in cols s.table)) c.self.view_is
      (bases_in_entries cols c.self.inside.next c.self.inside.entries.items c.self.invariant.3);
}
