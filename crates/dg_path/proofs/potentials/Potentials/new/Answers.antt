use Rattle.std.proofs.Common.{◌≡◌, ◌+◌, ◌-◌, ◌<◌, ◌∷◌, length, drop, get_or, subst, arith, ℕ}
use Rattle.dg_history.specs.declared.node.NodeId.{NodeId}
use Rattle.std.proofs.lemmas.List.{drop_more}
use Rattle.dg_history.specs.declared.node.NodeId.TheVariants.{Root}
use Rattle.dg_path.proofs.PotentialsByNode.{put_before}
use Rattle.dg_path.proofs.potentials.Potentials.new.Goals as goal

no_potential : NodeId × ℕ
no_potential = (Root, 0)

pub loop-i-preserved : goal.loop-i-preserved
unfolding no_potential
loop-i-preserved c =
    let ps = c.args.potentials.now in
    let i = c.loop-i.i - 1 in
    let lt : i < length ps = omega arith in
    let next : i + 1 ≡ c.loop-i.i = omega arith in
    let p = get_or ps i no_potential in
    put_before c.loop-i.written.entries c.insert.new.self.entries (drop c.loop-i.i ps) (drop i ps) p.0 p.1 c.args.other
    (subst (λ k. drop i ps ≡ p ∷ drop k ps) next (drop_more ps i no_potential lt))
    c.in_ok-insert.ensures.updates.0 c.loop-i.invariant
