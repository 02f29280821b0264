use Rattle.std.proofs.Common.{◌≡◌, ℕ, zero, suc, ◌-◌, ◌∙◌, List, [], ◌∷◌, ◌++◌, length, drop, ap, sym, arith}
use Rattle.dg_append.proofs.recent.recent_behind.Goals as goal
use Rattle.dg_graph.specs.declared.event.Event.{Event}

drop_both : (n : ℕ) (xs ys : List Event) → drop n xs ++ drop (n - length xs) ys ≡ drop n (xs ++ ys)
drop_both zero xs ys = ap (λ m. xs ++ drop m ys) (let e : 0 - length xs ≡ 0 = omega arith in e)
drop_both (suc n) [] ys = ap (λ m. drop m ys) (let e : suc n - 0 ≡ suc n = omega arith in e)
drop_both (suc n) (x ∷ xs) ys = ap (λ m. drop n xs ++ drop m ys) (let e : suc n - suc (length xs) ≡ n - length xs = omega arith in e) ∙ drop_both n xs ys

pub returns-then-closed-eq0 : goal.returns-then-closed-eq0
returns-then-closed-eq0 c =
    sym (ap (λ n. drop n (c.args.recent.now ++ c.args.events.now)) (sym c.closed_by-closed.ensures ∙ (let e : c.closed_by-closed.result ≡ 0 = omega (arith, c.if-closed-eq0.true) in e)))

pub returns : goal.returns
returns c =
    c.in_ok-extend_from_slice-2.ensures.items
    ∙ (λ i. c.in_ok-extend_from_slice.ensures.items i ++ c.behind-2.ensures i)
    ∙ (λ i. (c.new-left.ensures.items i ++ c.behind.ensures i) ++ drop (c.saturating_sub.ensures i) c.args.events.now)
    ∙ drop_both c.closed_by-closed.result c.args.recent.now c.args.events.now
    ∙ ap (λ n. drop n (c.args.recent.now ++ c.args.events.now)) c.closed_by-closed.ensures
