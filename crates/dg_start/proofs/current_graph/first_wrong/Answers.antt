use Rattle.std.proofs.Common.{◌≡◌, ℕ, ◌+◌, ◌-◌, List, take, drop, get_or, refl, sym, ◌∙◌, ap, arith}
use Rattle.dg_graph.specs.declared.event.Event.{Event}
use Rattle.dg_start.specs.declared.event_source.EventSource.{EventSource}
use Rattle.dg_start.specs.EventSources.{source_of, sources_in}
use Rattle.dg_start.proofs.RecentEventSources.{IsNextSource, next_source, no_source}
use Rattle.dg_start.proofs.EventSourceTests.{next_within, none_is, right_so_far, wrong_here}
use Rattle.dg_start.proofs.current_graph.first_wrong.Goals as goal

pub overflow_add-end : goal.overflow_add-end
overflow_add-end c =
    let s : EventSource = get_or c.args.sources.now c.loop-source.source-index no_source in
    let next : IsNextSource (sources_in c.args.sources.now) c.loop-source.source-index (source_of s) = next_source c.args.sources.now c.loop-source.source-index no_source c.loop-source-test.true in
    let within = next_within c.args.names.now c.args.first c.args.current.now.graph (sources_in c.args.sources.now) c.args.events.now c.loop-source.source-index c.loop-source.at c.loop-source.current.graph
    c.loop-source.invariant.so_far (source_of s) next in
    omega (arith, within, c.requires.numbers)

pub slice_bounds-own-end : goal.slice_bounds-own-end
slice_bounds-own-end c =
    let s : EventSource = get_or c.args.sources.now c.loop-source.source-index no_source in
    let next : IsNextSource (sources_in c.args.sources.now) c.loop-source.source-index (source_of s) = next_source c.args.sources.now c.loop-source.source-index no_source c.loop-source-test.true in
    let within = next_within c.args.names.now c.args.first c.args.current.now.graph (sources_in c.args.sources.now) c.args.events.now c.loop-source.source-index c.loop-source.at c.loop-source.current.graph
    c.loop-source.invariant.so_far (source_of s) next in
    omega (arith, within)

pub returns-then-is_some-clause-wrong : goal.returns-then-is_some-clause-wrong
returns-then-is_some-clause-wrong c =
    let s : EventSource = get_or c.args.sources.now c.loop-source.source-index no_source in
    let at : ℕ = c.loop-source.at in
    let next : IsNextSource (sources_in c.args.sources.now) c.loop-source.source-index (source_of s) = next_source c.args.sources.now c.loop-source.source-index no_source c.loop-source-test.true in
    let own : List Event = take (at + s.count - at) (drop at c.args.events.now) in
    let own_is : own ≡ take s.count (drop at c.args.events.now) = ap (λ n. take n (drop at c.args.events.now)) (let e : at + s.count - at ≡ s.count = omega arith in e) in
    wrong_here c.args.names.now c.args.first c.args.current.now.graph (sources_in c.args.sources.now) c.args.events.now c.loop-source.source-index at c.loop-source.current.graph
    c.loop-source.invariant.so_far (source_of s) next own own_is c.in_ok-wrong.wrong c.wrong_within.new.current.graph c.in_ok-wrong.ensures.wrong (sym c.is_some.ensures ∙ c.if-is_some.true)

pub loop-source-preserved : goal.loop-source-preserved
loop-source-preserved c =
    let s : EventSource = get_or c.args.sources.now c.loop-source.source-index no_source in
    let at : ℕ = c.loop-source.at in
    let next : IsNextSource (sources_in c.args.sources.now) c.loop-source.source-index (source_of s) = next_source c.args.sources.now c.loop-source.source-index no_source c.loop-source-test.true in
    let own : List Event = take (at + s.count - at) (drop at c.args.events.now) in
    let own_is : own ≡ take s.count (drop at c.args.events.now) = ap (λ n. take n (drop at c.args.events.now)) (let e : at + s.count - at ≡ s.count = omega arith in e) in
    record {
      none_pending = c.wrong_within.ensures.none;
      so_far =
          right_so_far c.args.names.now c.args.first c.args.current.now.graph (sources_in c.args.sources.now) c.args.events.now c.loop-source.source-index at c.loop-source.current.graph
          c.loop-source.invariant.so_far (source_of s) next own own_is c.in_ok-wrong.wrong c.wrong_within.new.current.graph c.in_ok-wrong.ensures.wrong
          (none_is c.in_ok-wrong.wrong (sym c.is_some.ensures ∙ c.if-is_some.false)) c.in_ok-wrong.ensures.led (at + s.count) refl;
    }
