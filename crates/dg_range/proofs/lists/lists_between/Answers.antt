use Rattle.std.proofs.Common.{◌≤◌, ◌<◌, ap, sym, ◌∙◌, arith}
use Rattle.dg_catalogue.specs.Held.{ends_of}
use Rattle.dg_heard.specs.Heard.{list_total}
use Rattle.dg_heard.proofs.HeardLists.{ends_are}
use Rattle.dg_history.specs.declared.node.Key.TheVariants as a_key
use Rattle.dg_index.specs.OpenedIndex.{entry_at}
use Rattle.dg_range.specs.Ranges.{meets}
use Rattle.dg_range.proofs.ListRows.{numbers_between}
use Rattle.dg_range.proofs.ListTimes.{meets_between, meets_none}
use Rattle.dg_range.proofs.lists.lists_between.Goals as goal

pub returns-then-until-from : goal.returns-then-until-from
returns-then-until-from c =
    let o = c.args.index.now.opening in
    record {
      within = (omega arith, omega arith);
      met =
          numbers_between (λ i. meets c.args.from c.args.until (entry_at o (a_key.List i)).ends) (list_total o) 0 0 0 (omega arith) (omega arith) (omega arith)
          (λ i from to. meets_none c.args.from c.args.until i (entry_at o (a_key.List i)).ends c.if-until-from.true);
    }

pub returns : goal.returns
returns c =
    let o = c.args.index.now.opening in
    let lists = c.catalogue-lists.result.now in
    let low = c.first_open-low in
    let high = c.first_later in
    let few : high.result ≤ list_total o = omega (arith, high.ensures.within.1, c.list_total-total.ensures) in
    record {
      within = (high.ensures.within.0, few);
      met =
          numbers_between (λ i. meets c.args.from c.args.until (entry_at o (a_key.List i)).ends) (list_total o) 0 low.result high.result (omega arith) high.ensures.within.0 (omega (arith, few))
          (λ i from at.
          let here : i < c.list_total-total.result = omega (arith, at, c.list_total-total.ensures) in
          ap (meets c.args.from c.args.until) (sym (ends_are o lists c.catalogue-lists.ensures.entries i))
          ∙ meets_between c.args.from c.args.until low.result high.result i (ends_of lists i) c.if-until-from.false
          (λ less. low.ensures.ended i (omega arith) less) (λ le. low.ensures.rest i le here)
          (high.ensures.begun i) (λ le. high.ensures.later i le here));
    }
