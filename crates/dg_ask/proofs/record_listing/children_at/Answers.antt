use Rattle.std.proofs.Common.{ℕ, ◌*◌, ◌/◌, ◌≤◌, arith, div-mul-le_self}
use Rattle.std.proofs.Math.Nat.{mul-le-mul_left}

few : (leaves arity width : ℕ) → arity ≤ width → leaves / width * arity ≤ leaves
few leaves arity width wide =
    let a : leaves / width * arity ≤ leaves / width * width = mul-le-mul_left (leaves / width) wide in
    let b : leaves / width * width ≤ leaves = div-mul-le_self leaves width in
    omega (arith, a, b)
