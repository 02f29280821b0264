use Rattle.std.proofs.Common.{◌≡◌, ◌∙◌, true, false, Ok, sym, refl}
use Rattle.std.specs.List.{list_all}
use Rattle.dg_graph.specs.declared.element.Column.TheVariants.{NodeAttr}
use Rattle.dg_heard.proofs.HeardLists.{ends_are}
use Rattle.dg_history.specs.declared.node.Key.TheVariants as a_key
use Rattle.dg_index.specs.OpenedIndex.{entry_at}
use Rattle.dg_heard.specs.ListColumns.{IsColumnRead}
use Rattle.dg_range.specs.ListValues.{lies_in}
use Rattle.dg_heard.proofs.ListColumns.{told_so}
use Rattle.dg_range.proofs.ValueRuns.{outside_damaged, within_read}
use Rattle.dg_range.proofs.values.list_values.Given.{Over}
use Rattle.dg_range.proofs.values.list_values.Goals as goal
use Rattle.dg_range.proofs.values.list_values.Goals.{After-all_lie_in}

-- whether the events lie within the times that the index gives the list
tested : (g : Over) (c : After-all_lie_in g) → c.all_lie_in.result ≡ list_all (lies_in (entry_at c.args.index.now.opening (a_key.List c.args.list)).ends) c.in_ok-events.events.items
tested g c =
    let o = c.args.index.now.opening in
    let ends = c.list_ends.ensures.ends ∙ ends_are o c.catalogue.result.now c.catalogue.ensures.entries c.args.list in
    c.all_lie_in.ensures ∙ (λ i. list_all (lies_in (ends i)) (c.deref.ensures.value i))

pub returns-then-not-all_lie_in-clause-read : goal.returns-then-not-all_lie_in-clause-read
returns-then-not-all_lie_in-clause-read g c =
    let here = (goal.at.returns-then-not-all_lie_in-clause-read g c).After-all_lie_in in
    let out : c.all_lie_in.result ≡ false = c.if-not-all_lie_in.true in
    told_so (g.D.Disk.image c.args.disk.now) (λ image. IsColumnRead c.args.name_count image c.args.index.now.opening c.args.list NodeAttr (Ok c.in_ok-events.events)) _
    (λ image read. (outside_damaged c.args.name_count image c.args.index.now.opening c.args.list c.in_ok-events.events read (sym (tested g here) ∙ out), refl, refl))
    c.in_ok-events.ensures.read

pub returns-clause-read : goal.returns-clause-read
returns-clause-read g c =
    let here = (goal.at.returns-clause-read g c).After-all_lie_in in
    let all : c.all_lie_in.result ≡ true = c.if-not-all_lie_in.false in
    told_so (g.D.Disk.image c.args.disk.now) (λ image. IsColumnRead c.args.name_count image c.args.index.now.opening c.args.list NodeAttr (Ok c.in_ok-events.events)) _
    (λ image read. within_read c.args.name_count image c.args.index.now.opening c.args.list c.in_ok-events.events read (sym (tested g here) ∙ all))
    c.in_ok-events.ensures.read
