use Rattle.std.proofs.Common.{◌≡◌, ◌<◌, ◌++◌, ◌∷◌, [], List, Bool, cond, Some, None, length, map, take, sym, ap, subst, ◌∙◌}
use Rattle.std.proofs.lemmas.List.{append-nil, length-map}
use Rattle.std.specs.List.{AllByRecursion}
use Rattle.dg_graph.specs.Elements.{IsSet}
use Rattle.dg_expr.specs.Rests.{begins, past, is_chosen, selected, left_in, IsLeast}
use Rattle.dg_expr.proofs.Walks.{selected_step, selected_none, left_less, pushed_if, Sets-past, IsSet-selected}
use Rattle.dg_expr.proofs.selection.select_rests.Goals as goal

pub loop-x-smaller : goal.loop-x-smaller
loop-x-smaller c =
    let rests = c.loop-x.rests in
    let first : IsLeast (Some c.in-Some.x) rests = c.in-Some.ensures in
    subst (λ r. left_in r < left_in rests) (sym c.skip_all-there.ensures.after) (left_less c.in-Some.x rests first.1)

pub loop-x-preserved : goal.loop-x-preserved
loop-x-preserved c =
    let ws = c.args.words.now in
    let rests = c.loop-x.rests in
    let x = c.in-Some.x in
    let inv = c.loop-x.invariant in
    let first : IsLeast (Some x) rests = c.in-Some.ensures in
    let after = c.skip_all-there.ensures.after in
    let rest = selected ws (map (past x) rests) in
    let holds : c.holds_at-holds.result ≡ is_chosen ws (map (begins x) rests) =
    c.holds_at-holds.ensures.holds ∙ ap (λ n. is_chosen ws (take n c.skip_all-there.result)) (sym inv.same) ∙ ap (is_chosen ws) c.skip_all-there.ensures.there in
    let next : selected ws rests ≡ cond c.holds_at-holds.result (x ∷ rest) rest =
    selected_step ws x rests inv.sets first.0 first.1 ∙ ap (λ h. cond h (x ∷ rest) rest) (sym holds) in
    record {
      selected = ap (λ r. c.push_if.new.out.items ++ selected ws r) after
          ∙ pushed_if c.holds_at-holds.result x c.loop-x.out.items c.push_if.new.out.items rest (selected ws rests) _ c.in_ok-push_if.ensures inv.selected next;
      known = c.holds_at-holds.ensures.known;
      same = ap length after ∙ length-map rests (past x) ∙ inv.same;
      sets = subst (AllByRecursion IsSet) (sym after) (Sets-past x rests inv.sets);
    }

pub returns-clause-value : goal.returns-clause-value
returns-clause-value c =
    let ws = c.args.words.now in
    let rests = c.loop-x.rests in
    let out = c.loop-x.out.items in
    let none : IsLeast None rests = c.in_default.ensures in
    sym (append-nil out) ∙ ap (λ l. out ++ l) (sym (selected_none ws rests none)) ∙ c.loop-x.invariant.selected

pub returns-clause-set : goal.returns-clause-set
returns-clause-set c =
    subst IsSet (sym (returns-clause-value c)) (IsSet-selected c.args.words.now _ c.requires.sets)
