use Rattle.std.proofs.Common.{arith, ◌≡◌, ◌*◌, ◌++◌, length, replicate, refl, sym, ap, ◌∙◌}
use Rattle.std.specs.Prelude.{None}
use Rattle.dg_arena.specs.Columns.{cells_of}
use Rattle.dg_arena.proofs.ColumnCells.{length-cells, cells_same, cells_more, err_anyway, ok_then, err_then}
use Rattle.dg_arena.proofs.columns.Columns.grow.Goals as goal

pub overflow_add-len : goal.overflow_add-len
overflow_add-len g c =
    let i = c.self.inside in
    let long : length i.spots ≡ length c.args.self.now = sym (length-cells i.spots i.first i.second i.third i.fourth) ∙ ap length c.self.view_is in
    omega (arith, c.requires, c.len.ensures, long)

pub lengthen-requires : goal.lengthen-requires
lengthen-requires g c =
    let i = c.self.inside in
    let long : length i.spots ≡ length c.args.self.now = sym (length-cells i.spots i.first i.second i.third i.fourth) ∙ ap length c.self.view_is in
    omega (arith, c.requires, c.len.ensures, long)

pub returns-in_err-lengthen-clause-err : goal.returns-in_err-lengthen-clause-err
returns-in_err-lengthen-clause-err g c =
    let i = c.self.inside in
    err_anyway c.from_residual.result (cells_same i.spots i.first c.lengthen.new.words i.second i.second i.third i.third i.fourth i.fourth c.lengthen.ensures.same (λ n. refl) (λ n. refl) (λ n. refl) ∙ c.self.view_is)

pub lengthen-requires-2 : goal.lengthen-requires-2
lengthen-requires-2 g c =
    let i = c.self.inside in
    let long : length i.spots ≡ length c.args.self.now = sym (length-cells i.spots i.first i.second i.third i.fourth) ∙ ap length c.self.view_is in
    omega (arith, c.requires, c.len.ensures, long)

pub returns-in_err-lengthen-2-clause-err : goal.returns-in_err-lengthen-2-clause-err
returns-in_err-lengthen-2-clause-err g c =
    let i = c.self.inside in
    err_anyway c.from_residual-in_err-lengthen-2.result (cells_same i.spots i.first c.lengthen.new.words i.second c.lengthen-2.new.words i.third i.third i.fourth i.fourth c.lengthen.ensures.same c.lengthen-2.ensures.same (λ n. refl) (λ n. refl) ∙ c.self.view_is)

pub lengthen-requires-3 : goal.lengthen-requires-3
lengthen-requires-3 g c =
    let i = c.self.inside in
    let long : length i.spots ≡ length c.args.self.now = sym (length-cells i.spots i.first i.second i.third i.fourth) ∙ ap length c.self.view_is in
    omega (arith, c.requires, c.len.ensures, long)

pub returns-in_err-lengthen-3-clause-err : goal.returns-in_err-lengthen-3-clause-err
returns-in_err-lengthen-3-clause-err g c =
    let i = c.self.inside in
    err_anyway c.from_residual-in_err-lengthen-3.result (cells_same i.spots i.first c.lengthen.new.words i.second c.lengthen-2.new.words i.third c.lengthen-3.new.words i.fourth i.fourth c.lengthen.ensures.same c.lengthen-2.ensures.same c.lengthen-3.ensures.same (λ n. refl) ∙ c.self.view_is)

pub lengthen-requires-4 : goal.lengthen-requires-4
lengthen-requires-4 g c =
    let i = c.self.inside in
    let long : length i.spots ≡ length c.args.self.now = sym (length-cells i.spots i.first i.second i.third i.fourth) ∙ ap length c.self.view_is in
    omega (arith, c.requires, c.len.ensures, long)

pub returns-in_err-lengthen-4-clause-err : goal.returns-in_err-lengthen-4-clause-err
returns-in_err-lengthen-4-clause-err g c =
    let i = c.self.inside in
    err_anyway c.from_residual-in_err-lengthen-4.result (cells_same i.spots i.first c.lengthen.new.words i.second c.lengthen-2.new.words i.third c.lengthen-3.new.words i.fourth c.lengthen-4.new.words c.lengthen.ensures.same c.lengthen-2.ensures.same c.lengthen-3.ensures.same c.lengthen-4.ensures.same ∙ c.self.view_is)

pub grow-requires : goal.grow-requires
grow-requires g c =
    let i = c.self.inside in
    let long : length i.spots ≡ length c.args.self.now = sym (length-cells i.spots i.first i.second i.third i.fourth) ∙ ap length c.self.view_is in
    omega (arith, c.requires, long)

pub returns-clause-ok : goal.returns-clause-ok
returns-clause-ok g c =
    let i = c.self.inside in
    let more = c.args.count * 1024 in
    ok_then c.grow.result
    (λ e. ap (λ l. cells_of l c.lengthen.new.words c.lengthen-2.new.words c.lengthen-3.new.words c.lengthen-4.new.words) e
    ∙ cells_more i.spots more c.lengthen.new.words c.lengthen-2.new.words c.lengthen-3.new.words c.lengthen-4.new.words
    ∙ ap (λ l. l ++ replicate more None) (cells_same i.spots i.first c.lengthen.new.words i.second c.lengthen-2.new.words i.third c.lengthen-3.new.words i.fourth c.lengthen-4.new.words c.lengthen.ensures.same c.lengthen-2.ensures.same c.lengthen-3.ensures.same c.lengthen-4.ensures.same ∙ c.self.view_is))
    c.grow.ensures.ok

pub returns-clause-err : goal.returns-clause-err
returns-clause-err g c =
    let i = c.self.inside in
    err_then c.grow.result
    (λ e. ap (λ l. cells_of l c.lengthen.new.words c.lengthen-2.new.words c.lengthen-3.new.words c.lengthen-4.new.words) e ∙ (cells_same i.spots i.first c.lengthen.new.words i.second c.lengthen-2.new.words i.third c.lengthen-3.new.words i.fourth c.lengthen-4.new.words c.lengthen.ensures.same c.lengthen-2.ensures.same c.lengthen-3.ensures.same c.lengthen-4.ensures.same ∙ c.self.view_is))
    c.grow.ensures.err
