use Rattle.std.proofs.Common.{◌≡◌, ◌-◌, ◌++◌, Ok, ap, rules, ◌∙◌}
use Rattle.std.proofs.lemmas.Fn.{filter_same}
use Rattle.dg_added.specs.Additions.{added_between}
use Rattle.dg_graph.specs.Elements.{asks, column_of, shown}
use Rattle.dg_index.specs.Hierarchy.{numbers}
use Rattle.dg_index.specs.OpenedIndex.{Opening}
use Rattle.dg_range.specs.Added.{IsAddedIn, asked_columns}
use Rattle.dg_range.specs.ColumnRuns.{events_along}
use Rattle.dg_range.proofs.AddedSets.{added_shown, set_named}
use Rattle.dg_heard.proofs.ListColumns.{told_so}
use Rattle.dg_range.proofs.added.read_added.Given.{Over}
use Rattle.dg_range.proofs.added.read_added.Goals as goal

-- the set is what the events of the lists and the recent ones add
set_is : (g : Over) (c : goal.After-from_unsorted g) → c.from_unsorted.result ≡ shown (added_between c.args.from c.args.until (c.in_ok-push_lists.ensures.put.events ++ c.args.recent.now)) c.args.cols
set_is g c =
    c.from_unsorted.ensures
    ∙ added_shown c.args.from c.args.until c.args.cols c.in_ok-push_lists.ensures.put.events c.args.recent.now c.new-put.result.items c.push_lists.new.put.items c.push_added.new.put.items c.retain.new.self.items
    c.new-put.ensures.items c.in_ok-push_lists.ensures.put.put c.in_ok-push_added.ensures
    (filter_same _ (λ x. asks c.args.cols (column_of x)) _ (λ x b f' k. search rules) _ _ c.retain.ensures.filtered)

pub returns-clause-added : goal.returns-clause-added
returns-clause-added g c =
    let o : Opening = c.args.index.now.opening in
    let h = c.in_ok-push_lists.ensures.put in
    let met = c.lists_between-lists.ensures.met in
    told_so (g.D.Disk.image c.args.disk.now) (λ image. events_along c.args.name_count image o (asked_columns c.args.cols (numbers c.lists_between-lists.result.0 (c.lists_between-lists.result.1 - c.lists_between-lists.result.0))) ≡ Ok h.events)
    (λ image. IsAddedIn c.args.name_count image o c.args.recent.now c.args.from c.args.until c.args.cols c.from_unsorted.result)
    (λ image read. (h.events, ap (λ lists. events_along c.args.name_count image o (asked_columns c.args.cols lists)) met ∙ read, set_is g c)) h.read

pub returns-clause-named : goal.returns-clause-named
returns-clause-named g c =
    λ recent. set_named c.args.name_count c.args.from c.args.until c.args.cols c.in_ok-push_lists.ensures.put.events c.args.recent.now c.from_unsorted.result (set_is g c) c.in_ok-push_lists.ensures.put.named recent
