use Rattle.std.proofs.Common.{◌≡◌, ℕ, ap, ◌∙◌, sym, arith}
use Rattle.dg_dumping.proofs.SpanLists.{early_lists}
use Rattle.dg_heard.specs.Heard.{end_before}
use Rattle.dg_heard.proofs.HeardLists.{ends_are}
use Rattle.dg_history.proofs.ParameterRanges.{in_range}
use Rattle.dg_dumping.proofs.range.first_list.Goals as goal

pub returns-clause-early : goal.returns-clause-early
returns-clause-early c z legal is =
    let o = c.args.index.now.opening in
    let lists = c.catalogue.result.now in
    early_lists z legal o is (in_range o.params.l o.params.k c.facts.ensures.parameters).list_some c.args.span c.first_open.result
    (omega (arith, c.first_open.ensures.within.1, c.list_total.ensures))
    (λ i lt. ap (end_before c.args.span.from) (sym (ends_are o lists c.catalogue.ensures.entries i)) ∙ c.first_open.ensures.ended i (omega arith) lt)
