use Rattle.std.proofs.Common.{◌≡◌, sym, ap, subst, ◌∙◌, ◌++◌, ◌∷◌, [], take, ◌+◌}
use Rattle.std.proofs.lemmas.List.{take_more}
use Rattle.dg_expr.specs.Rests.{IsLeast, lesser}
use Rattle.dg_expr.proofs.Walks.{least-push}
use Rattle.dg_expr.proofs.selection.least.Goals as goal

pub loop-rest-preserved : goal.loop-rest-preserved
loop-rest-preserved c =
    let rests = c.args.rests.now in
    let i = c.loop-rest.rest-index in
    let rest = c.rest-item.result in
    let more : take (i + 1) rests ≡ take i rests ++ rest ∷ [] =
    take_more rests i rest c.loop-rest-test.true ∙ ap (λ r. take i rests ++ r ∷ []) (sym c.rest-item.is) in
    let is = c.lesser-least.ensures ∙ ap (lesser c.loop-rest.least) c.first.ensures in
    subst (λ o. IsLeast o (take (i + 1) rests)) (sym is)
    (subst (IsLeast _) (sym more) (least-push c.loop-rest.least (take i rests) rest c.loop-rest.invariant))
