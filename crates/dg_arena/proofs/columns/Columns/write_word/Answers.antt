use Rattle.std.proofs.Common.{arith, ◌≡◌, get_or, set, sym, ap, subst}
use Rattle.std.specs.Prelude.{None, IsSome}
use Rattle.std.proofs.lemmas.List.{set-get_or}
use Rattle.dg_arena.specs.Cells.{WritesWord}
use Rattle.dg_arena.specs.Columns.{words, masked, cells_of, RewritesRow}
use Rattle.dg_arena.proofs.ColumnCells.{has_spot}
use Rattle.dg_arena.proofs.WordWrites.{word_put}
use Rattle.dg_arena.proofs.columns.Columns.write_word.Goals as goal

pub write_word-requires : goal.write_word-requires
write_word-requires g c =
    let i = c.self.inside in
    omega (arith, has_spot i.spots i.first i.second i.third i.fourth c.args.n (subst (λ l. IsSome (get_or l c.args.n None)) (sym c.self.view_is) c.requires.there), c.self.invariant.0)

pub write_word-requires-in-1 : goal.write_word-requires-in-1
write_word-requires-in-1 g c =
    let i = c.self.inside in
    omega (arith, has_spot i.spots i.first i.second i.third i.fourth c.args.n (subst (λ l. IsSome (get_or l c.args.n None)) (sym c.self.view_is) c.requires.there), c.self.invariant.1)

pub write_word-requires-in-2 : goal.write_word-requires-in-2
write_word-requires-in-2 g c =
    let i = c.self.inside in
    omega (arith, has_spot i.spots i.first i.second i.third i.fourth c.args.n (subst (λ l. IsSome (get_or l c.args.n None)) (sym c.self.view_is) c.requires.there), c.self.invariant.2)

pub write_word-requires-in_default : goal.write_word-requires-in_default
write_word-requires-in_default g c =
    let i = c.self.inside in
    omega (arith, has_spot i.spots i.first i.second i.third i.fourth c.args.n (subst (λ l. IsSome (get_or l c.args.n None)) (sym c.self.view_is) c.requires.there), c.self.invariant.3)

pub returns-in-0 : goal.returns-in-0
returns-in-0 g c =
    let i = c.self.inside in
    let n = c.args.n in
    let bits = words i.first i.second i.third i.fourth n in
    let within = has_spot i.spots i.first i.second i.third i.fourth n (subst (λ l. IsSome (get_or l n None)) (sym c.self.view_is) c.requires.there) in
    subst (λ l. RewritesRow c.args.self.now l n (WritesWord c.args.index c.args.on c.args.off))
    (λ j. cells_of i.spots (sym c.write_word.ensures j) (set-get_or i.second n 0 j) (set-get_or i.third n 0 j) (set-get_or i.fourth n 0 j))
    (word_put i.spots i.first i.second i.third i.fourth n c.args.self.now c.self.view_is c.requires.there
    (omega (arith, within, c.self.invariant.0)) (omega (arith, within, c.self.invariant.1)) (omega (arith, within, c.self.invariant.2)) (omega (arith, within, c.self.invariant.3))
    c.args.index c.args.on c.args.off c.requires.index (omega arith)
    (masked c.args.on c.args.off (get_or i.first n 0)) (get_or i.second n 0) (get_or i.third n 0) (get_or i.fourth n 0)
    (ap (λ k. set bits k (masked c.args.on c.args.off (get_or bits k 0))) (sym c.in-0.is)))

pub returns-in-1 : goal.returns-in-1
returns-in-1 g c =
    let i = c.self.inside in
    let n = c.args.n in
    let bits = words i.first i.second i.third i.fourth n in
    let within = has_spot i.spots i.first i.second i.third i.fourth n (subst (λ l. IsSome (get_or l n None)) (sym c.self.view_is) c.requires.there) in
    subst (λ l. RewritesRow c.args.self.now l n (WritesWord c.args.index c.args.on c.args.off))
    (λ j. cells_of i.spots (set-get_or i.first n 0 j) (sym c.write_word-in-1.ensures j) (set-get_or i.third n 0 j) (set-get_or i.fourth n 0 j))
    (word_put i.spots i.first i.second i.third i.fourth n c.args.self.now c.self.view_is c.requires.there
    (omega (arith, within, c.self.invariant.0)) (omega (arith, within, c.self.invariant.1)) (omega (arith, within, c.self.invariant.2)) (omega (arith, within, c.self.invariant.3))
    c.args.index c.args.on c.args.off c.requires.index (omega arith)
    (get_or i.first n 0) (masked c.args.on c.args.off (get_or i.second n 0)) (get_or i.third n 0) (get_or i.fourth n 0)
    (ap (λ k. set bits k (masked c.args.on c.args.off (get_or bits k 0))) (sym c.in-1.is)))

pub returns-in-2 : goal.returns-in-2
returns-in-2 g c =
    let i = c.self.inside in
    let n = c.args.n in
    let bits = words i.first i.second i.third i.fourth n in
    let within = has_spot i.spots i.first i.second i.third i.fourth n (subst (λ l. IsSome (get_or l n None)) (sym c.self.view_is) c.requires.there) in
    subst (λ l. RewritesRow c.args.self.now l n (WritesWord c.args.index c.args.on c.args.off))
    (λ j. cells_of i.spots (set-get_or i.first n 0 j) (set-get_or i.second n 0 j) (sym c.write_word-in-2.ensures j) (set-get_or i.fourth n 0 j))
    (word_put i.spots i.first i.second i.third i.fourth n c.args.self.now c.self.view_is c.requires.there
    (omega (arith, within, c.self.invariant.0)) (omega (arith, within, c.self.invariant.1)) (omega (arith, within, c.self.invariant.2)) (omega (arith, within, c.self.invariant.3))
    c.args.index c.args.on c.args.off c.requires.index (omega arith)
    (get_or i.first n 0) (get_or i.second n 0) (masked c.args.on c.args.off (get_or i.third n 0)) (get_or i.fourth n 0)
    (ap (λ k. set bits k (masked c.args.on c.args.off (get_or bits k 0))) (sym c.in-2.is)))

pub returns-in_default : goal.returns-in_default
returns-in_default g c =
    let i = c.self.inside in
    let n = c.args.n in
    let bits = words i.first i.second i.third i.fourth n in
    let within = has_spot i.spots i.first i.second i.third i.fourth n (subst (λ l. IsSome (get_or l n None)) (sym c.self.view_is) c.requires.there) in
    let e : c.args.index ≡ 3 = omega (arith, c.requires.index) in
    subst (λ l. RewritesRow c.args.self.now l n (WritesWord c.args.index c.args.on c.args.off))
    (λ j. cells_of i.spots (set-get_or i.first n 0 j) (set-get_or i.second n 0 j) (set-get_or i.third n 0 j) (sym c.write_word-in_default.ensures j))
    (word_put i.spots i.first i.second i.third i.fourth n c.args.self.now c.self.view_is c.requires.there
    (omega (arith, within, c.self.invariant.0)) (omega (arith, within, c.self.invariant.1)) (omega (arith, within, c.self.invariant.2)) (omega (arith, within, c.self.invariant.3))
    c.args.index c.args.on c.args.off c.requires.index (omega arith)
    (get_or i.first n 0) (get_or i.second n 0) (get_or i.third n 0) (masked c.args.on c.args.off (get_or i.fourth n 0))
    (ap (λ k. set bits k (masked c.args.on c.args.off (get_or bits k 0))) (sym e)))
