use Rattle.std.proofs.Common.{◌≡◌, [], List, Option, None, Some, sym, ap, ◌∙◌, subst}
use Rattle.dg_cells.specs.Rows.{Row, CellsAreApart, cell_at}
use Rattle.dg_pool.specs.Graphs.{IsBased, IsClean, pair_at, graph_as, picked}
use Rattle.dg_query.specs.Queries.{counts_of}
use Rattle.dg_cells.specs.Rows.{is_current}
use Rattle.dg_pool.proofs.pool.Pool.new.Goals as goal

apart_none : CellsAreApart []
apart_none i j r q e f is = let none : None ≡ Some r = e in cc

pub invariant_of-result : goal.invariant_of-result
invariant_of-result c = record {
  pool = record {
    slots = record {
      count = c.all_free.ensures.count;
      first = c.all_free.ensures.free 0;
      bases = λ s low. subst (IsBased c.all_free.result) (sym (c.all_free.ensures.free s)) tt;
    };
    apart = subst CellsAreApart (sym c.new.ensures) apart_none;
    clean = λ s low. subst (IsClean c.new.result 0 s) (sym (c.all_free.ensures.free s)) (λ n. ap (λ (rows : List (Option Row)). pair_at s (cell_at rows n)) c.new.ensures);
  };
  counted = record {
    len = c.no_counts.ensures.len;
    now = c.no_counts.ensures.none 0 ∙ ap (λ (rows : List (Option Row)). counts_of (picked is_current rows)) (sym c.new.ensures);
    slots = λ s g e. let none : None ≡ Some g = sym (ap (graph_as c.new.result s) (c.all_free.ensures.free s)) ∙ e in cc;
  };
}

pub returns-clause-slots : goal.returns-clause-slots
returns-clause-slots c = λ s. ap (graph_as c.new.result s) (c.all_free.ensures.free s)
