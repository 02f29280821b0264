use Rattle.std.proofs.Common.{◌≡◌, drop, map, take}
use Rattle.dg_aux.specs.Turns.{said_by}
use Rattle.dg_session.specs.ValuesSaid.{all_said_with}
use Rattle.dg_session.proofs.session.indexes.pass.Given as goal

abbrev pub invariant-loop-aux : goal.invariant-loop-aux
invariant-loop-aux l = record {
  front : map said_by (take l.aux-index l.indexes) ≡ all_said_with l.events (map said_by (take l.aux-index l.initial.indexes));
  rest : drop l.aux-index l.indexes ≡ drop l.aux-index l.initial.indexes;
}
