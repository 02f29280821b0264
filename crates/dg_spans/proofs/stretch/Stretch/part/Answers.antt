use Rattle.std.proofs.Common.{◌-◌, ◌∙◌, ap, drop, take}
use Rattle.dg_spans.proofs.HistoryRecords.{part_from}
use Rattle.dg_spans.proofs.stretch.Stretch.part.Goals as goal

pub returns-clause-own : goal.returns-clause-own
returns-clause-own c z own =
    let s = c.args.self.now in
    part_from z s.start c.args.at c.args.end s.events.items c.cut.result.now own c.requires.held.behind
    (c.cut.ensures ∙ ap (λ events. take (c.args.end - c.args.at) (drop (c.args.at - s.start) events)) c.deref.ensures.value)
