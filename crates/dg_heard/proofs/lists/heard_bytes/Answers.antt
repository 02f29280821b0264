use Rattle.std.proofs.Common.{◌≡◌, arith}
use Rattle.dg_heard.specs.Heard.{heard_bytes}
use Rattle.dg_heard.proofs.HeardBytes.{bytes_within, next_bytes, no_bytes}
use Rattle.dg_heard.proofs.lists.heard_bytes.Goals as goal

pub loop-list-preserved : goal.loop-list-preserved
loop-list-preserved c =
    let o = c.args.index.now.opening in
    let times = c.args.times.now in
    let next = c.in-Some.ensures.some in
    let step = next_bytes o times c.loop-list.from c.in-Some.list next.0 next.1 next.2 next.3 in
    record {
      few = omega (arith, next.1);
      all = omega (arith, step, c.message_bytes-bytes.ensures, c.loop-list.invariant.all);
    }

pub overflow_add-bytes : goal.overflow_add-bytes
overflow_add-bytes c =
    let o = c.args.index.now.opening in
    let times = c.args.times.now in
    let next = c.in-Some.ensures.some in
    let step = next_bytes o times c.loop-list.from c.in-Some.list next.0 next.1 next.2 next.3 in
    omega (arith, step, c.message_bytes-bytes.ensures, c.loop-list.invariant.all, bytes_within o times, c.facts.ensures.columns, c.facts.ensures.within)

pub returns : goal.returns
returns c =
    let o = c.args.index.now.opening in
    let times = c.args.times.now in
    let rest = no_bytes o times c.loop-list.from c.loop-list.invariant.few c.in_default.ensures.none in
    let all : c.loop-list.bytes ≡ heard_bytes o times = omega (arith, rest, c.loop-list.invariant.all) in
    record {
      bytes = all;
      within = omega (arith, all, bytes_within o times, c.facts.ensures.columns, c.facts.ensures.within);
    }
