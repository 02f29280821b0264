use Rattle.std.proofs.Common.{List, slice_index_or, ap, ◌∙◌}
use Rattle.std.proofs.lemmas.List.{take_all}
use Rattle.std.proofs.lemmas.List.Folds.{list_any_at}
use Rattle.dg_graph.specs.declared.element.Element.{Element}
use Rattle.dg_graph.specs.declared.element.Element.TheVariants as kind
use Rattle.dg_graph.specs.Elements.{same}
use Rattle.dg_graph.proofs.Sets.{same_itself}
use Rattle.dg_cells.specs.Rows.{is_current}
use Rattle.dg_pool.specs.Graphs.{picked, changed, all_changed}
use Rattle.dg_pool.proofs.GraphSets.{picked_set}
use Rattle.dg_pool.proofs.CurrentGraph.{keeps_itself, keeps_then, has_still, changed_more, changed_none}
use Rattle.dg_pool.proofs.current.change_all.Goals as goal

pub loop-element-init : goal.loop-element-init
loop-element-init c = record {
  kept = keeps_itself c.args.slots.now c.args.cells.now;
  now = changed_none c.args.on (picked is_current c.args.cells.now) (picked_set is_current c.args.cells.now);
  counted = c.requires.known.counted;
}

pub change-passed-requires-clause-there : goal.change-passed-requires-clause-there
change-passed-requires-clause-there c = λ on.
    let items = c.args.items.now in
    let i = c.loop-element.element-index in
    let x = slice_index_or items i (kind.Node 0) in
    has_still c.args.slots.now c.args.cells.now c.loop-element.cells c.loop-element.invariant.kept x
    (c.requires.there on x (list_any_at (same x) items i (kind.Node 0) c.loop-element-test.true (same_itself x)))

pub loop-element-preserved : goal.loop-element-preserved
loop-element-preserved c =
    let items = c.args.items.now in
    let i = c.loop-element.element-index in
    let old = c.args.cells.now in
    record {
      kept = keeps_then c.args.slots.now old c.loop-element.cells c.change-passed.new.cells c.loop-element.invariant.kept c.change-passed.ensures.kept;
      counted = c.change-passed.ensures.counted;
      now = c.change-passed.ensures.now ∙ ap (changed c.args.on (slice_index_or items i (kind.Node 0))) c.loop-element.invariant.now
          ∙ changed_more c.args.on (picked is_current old) items i (kind.Node 0) (picked_set is_current old) c.loop-element-test.true;
    }

pub returns : goal.returns
returns c = record {
  now = c.loop-element.invariant.now
      ∙ ap (λ (l : List Element). all_changed c.args.on l (picked is_current c.args.cells.now)) (take_all c.loop-element.element-index c.args.items.now c.loop-element-test.false);
  counted = c.loop-element.invariant.counted;
  kept = c.loop-element.invariant.kept;
}
