use Rattle.std.proofs.Common.{◌≡◌, ℕ, ◌*◌, ◌≤◌, [], ap, ◌∙◌, sym, take, arith}
use Rattle.dg_dumping.specs.SpanText.{events_within}
use Rattle.dg_dumping.proofs.SpanLists.{all_between}
use Rattle.dg_history.specs.declared.params.Params.{Params}
use Rattle.dg_history.specs.History.{events_of}
use Rattle.dg_dumping.proofs.range.events_to_read.Goals as goal

pub returns : goal.returns
returns c = record {
  among = λ z legal is.
      let span = c.args.span in
      let l : ℕ = c.args.index.now.opening.params.l in
      let first : ℕ = c.first_list-first.result in
      let size : c.params.result.l ≡ l = ap (λ (p : Params). p.l) c.params.ensures in
      let at : c.from.result * c.from-2.result ≡ first * l = (λ j. c.from.ensures j * (c.from-2.ensures ∙ size) j) in
      all_between span (events_of z) (c.from.result * c.from-2.result) c.stop_behind.result (omega (arith, at, c.stop_behind.ensures.behind))
      (ap (λ n. events_within span (take n (events_of z))) at ∙ c.first_list-first.ensures.early z legal is)
      (c.stop_behind.ensures.late z legal is);
}
