use Rattle.std.proofs.Common.{◌≡◌, ℕ, ◌*◌, ◌^◌, ◌≤◌, ◌<◌, sym, ap, ◌∙◌, arith}
use Rattle.std.proofs.lemmas.Bool.{lt-leb}
use Rattle.std.proofs.lemmas.Grind.{pow_more}
use Rattle.std.proofs.Math.Nat.{mul-le-mul_left, mul_assoc, pow-le-pow_right}
use Rattle.dg_ask.proofs.plans.have_leaves.Goals as goal

pub returns-then-width-leaves : goal.returns-then-width-leaves
returns-then-width-leaves c =
    let count : ℕ = c.args.count in
    let arity : ℕ = c.args.arity in
    let done : ℕ = c.loop.counter in
    let below : done ≤ c.args.height = (let t = c.loop-test.true in omega arith) in
    let positive : 0 < arity = (let r = c.requires.arity.0 in omega arith) in
    let more : count * arity ^ done ≤ count * arity ^ c.args.height = mul-le-mul_left count (pow-le-pow_right positive below) in
    let past : c.args.leaves < c.loop.width = (let t = c.if-width-leaves.true in omega arith) in
    let is : c.loop.width ≡ count * arity ^ done = c.loop.invariant in
    sym (lt-leb (count * arity ^ c.args.height) c.args.leaves (omega (arith, more, past, is)))

pub loop-preserved : goal.loop-preserved
loop-preserved c =
    ap (λ (w : ℕ). w * c.args.arity) c.loop.invariant
    ∙ mul_assoc c.args.count (c.args.arity ^ c.loop.counter) c.args.arity
    ∙ ap (λ (p : ℕ). c.args.count * p) (sym (pow_more c.args.arity c.loop.counter))
