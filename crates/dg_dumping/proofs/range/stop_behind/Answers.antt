use Rattle.std.proofs.Common.{◌≡◌, ℕ, ◌+◌, ◌*◌, ◌<◌, ◌≤◌, false, ap, ◌∙◌, sym, arith}
use Rattle.dg_dumping.proofs.SpanLists.{late_all, late_end, late_start}
use Rattle.dg_heard.specs.Heard.{end_before, list_total}
use Rattle.dg_heard.proofs.HeardLists.{ends_are}
use Rattle.dg_history.specs.declared.node.Key.TheVariants as key
use Rattle.dg_history.specs.declared.params.Params.{Params}
use Rattle.dg_history.proofs.ParameterRanges.{in_range}
use Rattle.dg_index.specs.OpenedIndex.{entry_at}
use Rattle.dg_dumping.proofs.range.stop_behind.Goals as goal

pub returns-in_default-clause-late : goal.returns-in_default-clause-late
returns-in_default-clause-late c z legal is =
    let o = c.args.index.now.opening in
    late_all z legal o is (in_range o.params.l o.params.k c.facts.ensures.parameters).list_some c.args.span c.events_len.result c.events_len.ensures.events

pub returns-then-last-total-clause-late : goal.returns-then-last-total-clause-late
returns-then-last-total-clause-late c z legal is =
    let o = c.args.index.now.opening in
    late_all z legal o is (in_range o.params.l o.params.k c.facts.ensures.parameters).list_some c.args.span c.events_len-then-last-total.result c.events_len-then-last-total.ensures.events

pub returns-then-ends-until-clause-late : goal.returns-then-ends-until-clause-late
returns-then-ends-until-clause-late c z legal is =
    let o = c.args.index.now.opening in
    let until : ℕ = c.in-Some.until in
    let last : ℕ = c.first_open-last.result in
    let here : last < c.list_total-total.result = omega (arith, c.first_open-last.ensures.within.1, c.if-last-total.false) in
    let size : c.from-size.result ≡ o.params.l = c.from-size.ensures ∙ ap (λ (p : Params). p.l) c.params.ensures in
    let still : end_before until (entry_at o (key.List last)).ends ≡ false = ap (end_before until) (sym (ends_are o c.catalogue-lists.result.now c.catalogue-lists.ensures.entries last)) ∙ c.first_open-last.ensures.rest last (omega arith) here in
    late_end z legal o is (in_range o.params.l o.params.k c.facts.ensures.parameters).list_some c.args.span until last c.in-Some.is (omega (arith, here, c.list_total-total.ensures)) still
    (c.from.result * c.from-size.result + c.from-size.result) (λ j. c.from.ensures j * size j + size j)

pub returns-else-ends-until-clause-late : goal.returns-else-ends-until-clause-late
returns-else-ends-until-clause-late c z legal is =
    let o = c.args.index.now.opening in
    let last : ℕ = c.first_open-last.result in
    let here : last < c.list_total-total.result = omega (arith, c.first_open-last.ensures.within.1, c.if-last-total.false) in
    let size : c.from-size.result ≡ o.params.l = c.from-size.ensures ∙ ap (λ (p : Params). p.l) c.params.ensures in
    late_start z legal o is (in_range o.params.l o.params.k c.facts.ensures.parameters).list_some c.args.span c.in-Some.until last c.in-Some-list_ends.ends c.in-Some.is
    (omega (arith, here, c.list_total-total.ensures))
    (sym (ends_are o c.catalogue-lists.result.now c.catalogue-lists.ensures.entries last) ∙ sym c.list_ends.ensures.ends ∙ c.in-Some-list_ends.is)
    (omega (arith, c.if-ends-until.false)) (c.from.result * c.from-size.result) (λ j. c.from.ensures j * size j)

pub returns-in-None-clause-late : goal.returns-in-None-clause-late
returns-in-None-clause-late c z legal is =
    let o = c.args.index.now.opening in
    let until : ℕ = c.in-Some.until in
    let last : ℕ = c.first_open-last.result in
    let here : last < c.list_total-total.result = omega (arith, c.first_open-last.ensures.within.1, c.if-last-total.false) in
    let size : c.from-size.result ≡ o.params.l = c.from-size.ensures ∙ ap (λ (p : Params). p.l) c.params.ensures in
    let still : end_before until (entry_at o (key.List last)).ends ≡ false = ap (end_before until) (sym (ends_are o c.catalogue-lists.result.now c.catalogue-lists.ensures.entries last)) ∙ c.first_open-last.ensures.rest last (omega arith) here in
    late_end z legal o is (in_range o.params.l o.params.k c.facts.ensures.parameters).list_some c.args.span until last c.in-Some.is (omega (arith, here, c.list_total-total.ensures)) still
    (c.from.result * c.from-size.result + c.from-size.result) (λ j. c.from.ensures j * size j + size j)
