-- A new planner stands behind those that are kept, and where memory for it lacks they are as before.
use Rattle.std.proofs.Common.{[], ◌∷◌, ◌++◌, Some, sym, ◌∙◌, subst}
use Rattle.std.specs.List.{Contains}
use Rattle.std.proofs.lemmas.List.Elements.{All-push, All-same, Contains-push}
use Rattle.dg_ask.specs.KeptPlanner.{IsGraphOver}
use Rattle.dg_ask.proofs.kept_planner.KeptPlanner.keep.Goals as goal

pub returns-in_err-push-clause-kept : goal.returns-in_err-push-clause-kept
returns-in_err-push-clause-kept c =
    All-same (IsGraphOver (Some c.args.index.now.opening) c.args.handles.now.table) c.push.new.self.items c.args.self.now
    (c.in_err-push.ensures.items ∙ c.self.view_is) c.requires.kept

pub returns-clause-kept : goal.returns-clause-kept
returns-clause-kept c =
    let Over = IsGraphOver (Some c.args.index.now.opening) c.args.handles.now.table in
    let old = c.self.inside.kept.items in
    let planner = c.in_ok-planner.planner in
    let cols = c.graph_columns-cols.result in
    All-same Over c.push.new.self.items (old ++ (cols, planner) ∷ []) c.in_ok-push.ensures.items
    (All-push Over old (cols, planner) (All-same Over old c.args.self.now c.self.view_is c.requires.kept) c.in_ok-planner.ensures.graph)

pub returns-clause-columns : goal.returns-clause-columns
returns-clause-columns c =
    let planner = c.in_ok-planner.planner in
    let cols = c.graph_columns-cols.result in (
      planner,
      subst (λ asked. Contains c.push.new.self.items (asked, planner)) c.graph_columns-cols.ensures
          (subst (λ kept. Contains kept (cols, planner)) (sym c.in_ok-push.ensures.items) (Contains-push c.self.inside.kept.items (cols, planner))),
    )
