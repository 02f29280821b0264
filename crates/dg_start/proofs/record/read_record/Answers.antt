use Rattle.std.proofs.Common.{◌≡◌, List, Ok, length, subst, sym, ap, ◌∙◌}
use Rattle.std.specs.List.{All}
use Rattle.dg_graph.specs.declared.element.Column.TheVariants.{NodeAttr, EdgeAttr, Transient}
use Rattle.dg_graph.specs.declared.placed.Placed.{Placed}
use Rattle.dg_index.specs.OpenedIndex.{Opening}
use Rattle.dg_plan.specs.HistoryGraph.{all_columns}
use Rattle.dg_records.specs.ColumnReads.{Takes, TakesAtMost, asked_length, kept_in}
use Rattle.dg_start.specs.EventSources.{source_of}
use Rattle.dg_start.specs.RecentEvents.{placed_in_record}
use Rattle.dg_start.proofs.ColumnMergeRecords.{IsMerged, PlacedFits, in_time, merged_fit, names_there, spelled}
use Rattle.dg_start.proofs.EventSourceBytes.{fails_with, first_fails, fourth_fails, second_fails, takes_less, takes_record, third_fails}
use Rattle.dg_start.proofs.EventSourceOutcomes.{said_before}
use Rattle.dg_start.proofs.RecentEventSources.{record_read}
use Rattle.dg_start.proofs.record.read_record.Goals as goal

pub returns-in_err-structure-clause-takes : goal.returns-in_err-structure-clause-takes
returns-in_err-structure-clause-takes g c image is =
    let o : Opening = c.args.index.now.opening in
    let a = g.D.Disk.taken c.args.disk.now in
    let b = g.D.Disk.taken c.read_column.new.disk in
    fails_with c.from_residual.result c.in_err-structure.field-0.0 (asked_length (kept_in image o) all_columns c.args.source.key) a b c.from_residual.ensures
    (first_fails image o c.args.source.key a b (c.in_err-structure.ensures.takes image is))

pub returns-in_err-node_attrs-clause-takes : goal.returns-in_err-node_attrs-clause-takes
returns-in_err-node_attrs-clause-takes g c image is =
    let o : Opening = c.args.index.now.opening in
    let told = g.D.Disk.image c.args.disk.now in
    let a = g.D.Disk.taken c.args.disk.now in
    let b = g.D.Disk.taken c.read_column.new.disk in
    let d = g.D.Disk.taken c.read_column-2.new.disk in
    fails_with c.from_residual-in_err-node_attrs.result c.in_err-node_attrs.field-0.0 (asked_length (kept_in image o) all_columns c.args.source.key) a d c.from_residual-in_err-node_attrs.ensures
    (second_fails image o c.args.source.key a b d (c.in_ok-structure.ensures.takes image is)
    (said_before (g.D.Disk.image c.read_column.new.disk) told (λ image. TakesAtMost (length (kept_in image o c.args.source.key NodeAttr)) b d)
    c.read_column.ensures.disk.same_image c.in_err-node_attrs.ensures.takes image is))

pub returns-in_err-edge_attrs-clause-takes : goal.returns-in_err-edge_attrs-clause-takes
returns-in_err-edge_attrs-clause-takes g c image is =
    let o : Opening = c.args.index.now.opening in
    let told = g.D.Disk.image c.args.disk.now in
    let a = g.D.Disk.taken c.args.disk.now in
    let b = g.D.Disk.taken c.read_column.new.disk in
    let d = g.D.Disk.taken c.read_column-2.new.disk in
    let e = g.D.Disk.taken c.read_column-3.new.disk in
    fails_with c.from_residual-in_err-edge_attrs.result c.in_err-edge_attrs.field-0.0 (asked_length (kept_in image o) all_columns c.args.source.key) a e c.from_residual-in_err-edge_attrs.ensures
    (third_fails image o c.args.source.key a b d e (c.in_ok-structure.ensures.takes image is)
    (said_before (g.D.Disk.image c.read_column.new.disk) told (λ image. Takes (length (kept_in image o c.args.source.key NodeAttr)) b d)
    c.read_column.ensures.disk.same_image c.in_ok-node_attrs.ensures.takes image is)
    (said_before (g.D.Disk.image c.read_column-2.new.disk) told (λ image. TakesAtMost (length (kept_in image o c.args.source.key EdgeAttr)) d e)
    (c.read_column-2.ensures.disk.same_image ∙ c.read_column.ensures.disk.same_image) c.in_err-edge_attrs.ensures.takes image is))

pub returns-in_err-transient-clause-takes : goal.returns-in_err-transient-clause-takes
returns-in_err-transient-clause-takes g c image is =
    let o : Opening = c.args.index.now.opening in
    let told = g.D.Disk.image c.args.disk.now in
    let a = g.D.Disk.taken c.args.disk.now in
    let b = g.D.Disk.taken c.read_column.new.disk in
    let d = g.D.Disk.taken c.read_column-2.new.disk in
    let e = g.D.Disk.taken c.read_column-3.new.disk in
    let f = g.D.Disk.taken c.read_column-4.new.disk in
    fails_with c.from_residual-in_err-transient.result c.in_err-transient.field-0.0 (asked_length (kept_in image o) all_columns c.args.source.key) a f c.from_residual-in_err-transient.ensures
    (fourth_fails image o c.args.source.key a b d e f (c.in_ok-structure.ensures.takes image is)
    (said_before (g.D.Disk.image c.read_column.new.disk) told (λ image. Takes (length (kept_in image o c.args.source.key NodeAttr)) b d)
    c.read_column.ensures.disk.same_image c.in_ok-node_attrs.ensures.takes image is)
    (said_before (g.D.Disk.image c.read_column-2.new.disk) told (λ image. Takes (length (kept_in image o c.args.source.key EdgeAttr)) d e)
    (c.read_column-2.ensures.disk.same_image ∙ c.read_column.ensures.disk.same_image) c.in_ok-edge_attrs.ensures.takes image is)
    (said_before (g.D.Disk.image c.read_column-3.new.disk) told (λ image. TakesAtMost (length (kept_in image o c.args.source.key Transient)) e f)
    (c.read_column-3.ensures.disk.same_image ∙ c.read_column-2.ensures.disk.same_image ∙ c.read_column.ensures.disk.same_image) c.in_err-transient.ensures.takes image is))

pub returns-in-Ok-clause-takes : goal.returns-in-Ok-clause-takes
returns-in-Ok-clause-takes g c image is =
    let o : Opening = c.args.index.now.opening in
    let told = g.D.Disk.image c.args.disk.now in
    let a = g.D.Disk.taken c.args.disk.now in
    let b = g.D.Disk.taken c.read_column.new.disk in
    let d = g.D.Disk.taken c.read_column-2.new.disk in
    let e = g.D.Disk.taken c.read_column-3.new.disk in
    let f = g.D.Disk.taken c.read_column-4.new.disk in
    takes_record image o c.args.source.key a b d e f (c.in_ok-structure.ensures.takes image is)
    (said_before (g.D.Disk.image c.read_column.new.disk) told (λ image. Takes (length (kept_in image o c.args.source.key NodeAttr)) b d)
    c.read_column.ensures.disk.same_image c.in_ok-node_attrs.ensures.takes image is)
    (said_before (g.D.Disk.image c.read_column-2.new.disk) told (λ image. Takes (length (kept_in image o c.args.source.key EdgeAttr)) d e)
    (c.read_column-2.ensures.disk.same_image ∙ c.read_column.ensures.disk.same_image) c.in_ok-edge_attrs.ensures.takes image is)
    (said_before (g.D.Disk.image c.read_column-3.new.disk) told (λ image. Takes (length (kept_in image o c.args.source.key Transient)) e f)
    (c.read_column-3.ensures.disk.same_image ∙ c.read_column-2.ensures.disk.same_image ∙ c.read_column.ensures.disk.same_image) c.in_ok-transient.ensures.takes image is)

pub returns-in-Err-Positions-clause-takes : goal.returns-in-Err-Positions-clause-takes
returns-in-Err-Positions-clause-takes g c image is =
    let o : Opening = c.args.index.now.opening in
    let told = g.D.Disk.image c.args.disk.now in
    let a = g.D.Disk.taken c.args.disk.now in
    let b = g.D.Disk.taken c.read_column.new.disk in
    let d = g.D.Disk.taken c.read_column-2.new.disk in
    let e = g.D.Disk.taken c.read_column-3.new.disk in
    let f = g.D.Disk.taken c.read_column-4.new.disk in
    takes_less (asked_length (kept_in image o) all_columns c.args.source.key) a f
    (takes_record image o c.args.source.key a b d e f (c.in_ok-structure.ensures.takes image is)
    (said_before (g.D.Disk.image c.read_column.new.disk) told (λ image. Takes (length (kept_in image o c.args.source.key NodeAttr)) b d)
    c.read_column.ensures.disk.same_image c.in_ok-node_attrs.ensures.takes image is)
    (said_before (g.D.Disk.image c.read_column-2.new.disk) told (λ image. Takes (length (kept_in image o c.args.source.key EdgeAttr)) d e)
    (c.read_column-2.ensures.disk.same_image ∙ c.read_column.ensures.disk.same_image) c.in_ok-edge_attrs.ensures.takes image is)
    (said_before (g.D.Disk.image c.read_column-3.new.disk) told (λ image. Takes (length (kept_in image o c.args.source.key Transient)) e f)
    (c.read_column-3.ensures.disk.same_image ∙ c.read_column-2.ensures.disk.same_image ∙ c.read_column.ensures.disk.same_image) c.in_ok-transient.ensures.takes image is))

pub returns-clause-takes : goal.returns-clause-takes
returns-clause-takes g c image is =
    let o : Opening = c.args.index.now.opening in
    let told = g.D.Disk.image c.args.disk.now in
    let a = g.D.Disk.taken c.args.disk.now in
    let b = g.D.Disk.taken c.read_column.new.disk in
    let d = g.D.Disk.taken c.read_column-2.new.disk in
    let e = g.D.Disk.taken c.read_column-3.new.disk in
    let f = g.D.Disk.taken c.read_column-4.new.disk in
    takes_less (asked_length (kept_in image o) all_columns c.args.source.key) a f
    (takes_record image o c.args.source.key a b d e f (c.in_ok-structure.ensures.takes image is)
    (said_before (g.D.Disk.image c.read_column.new.disk) told (λ image. Takes (length (kept_in image o c.args.source.key NodeAttr)) b d)
    c.read_column.ensures.disk.same_image c.in_ok-node_attrs.ensures.takes image is)
    (said_before (g.D.Disk.image c.read_column-2.new.disk) told (λ image. Takes (length (kept_in image o c.args.source.key EdgeAttr)) d e)
    (c.read_column-2.ensures.disk.same_image ∙ c.read_column.ensures.disk.same_image) c.in_ok-edge_attrs.ensures.takes image is)
    (said_before (g.D.Disk.image c.read_column-3.new.disk) told (λ image. Takes (length (kept_in image o c.args.source.key Transient)) e f)
    (c.read_column-3.ensures.disk.same_image ∙ c.read_column-2.ensures.disk.same_image ∙ c.read_column.ensures.disk.same_image) c.in_ok-transient.ensures.takes image is))

pub returns-in-Ok-clause-done : goal.returns-in-Ok-clause-done
returns-in-Ok-clause-done g c =
    let o : Opening = c.args.index.now.opening in
    let told = g.D.Disk.image c.args.disk.now in
    let names = c.args.names in
    let key = c.args.source.key in
    let structure : c.deref.result.now ≡ c.in_ok-structure.structure.items = c.deref.ensures.value in
    let node_attrs : c.deref-2.result.now ≡ c.in_ok-node_attrs.node_attrs.items = c.deref-2.ensures.value in
    let edge_attrs : c.deref-3.result.now ≡ c.in_ok-edge_attrs.edge_attrs.items = c.deref-3.ensures.value in
    let transient : c.deref-4.result.now ≡ c.in_ok-transient.transient.items = c.deref-4.ensures.value in
    let together : IsMerged names c.args.source.count c.in-Ok.events.items =
    merged_fit names c.deref.result.now c.deref-2.result.now c.deref-3.result.now c.deref-4.result.now c.args.source.count c.in-Ok.events.items
    (subst (λ (ps : List Placed). All (PlacedFits names) ps) (sym structure) c.in_ok-structure.ensures.fit)
    (subst (λ (ps : List Placed). All (PlacedFits names) ps) (sym node_attrs) c.in_ok-node_attrs.ensures.fit)
    (subst (λ (ps : List Placed). All (PlacedFits names) ps) (sym edge_attrs) c.in_ok-edge_attrs.ensures.fit)
    (subst (λ (ps : List Placed). All (PlacedFits names) ps) (sym transient) c.in_ok-transient.ensures.fit)
    c.in-Ok.ensures.ok in
    record {
      read = λ image is.
          record_read image names o (source_of c.args.source) c.deref.result.now c.deref-2.result.now c.deref-3.result.now c.deref-4.result.now c.in-Ok.events.items
          (c.in_ok-structure.ensures.read image is ∙ ap (λ (ps : List Placed). Ok ps) (sym structure))
          (said_before (g.D.Disk.image c.read_column.new.disk) told (λ image. placed_in_record image names o key NodeAttr ≡ Ok c.in_ok-node_attrs.node_attrs.items)
          c.read_column.ensures.disk.same_image c.in_ok-node_attrs.ensures.read image is ∙ ap (λ (ps : List Placed). Ok ps) (sym node_attrs))
          (said_before (g.D.Disk.image c.read_column-2.new.disk) told (λ image. placed_in_record image names o key EdgeAttr ≡ Ok c.in_ok-edge_attrs.edge_attrs.items)
          (c.read_column-2.ensures.disk.same_image ∙ c.read_column.ensures.disk.same_image) c.in_ok-edge_attrs.ensures.read image is
          ∙ ap (λ (ps : List Placed). Ok ps) (sym edge_attrs))
          (said_before (g.D.Disk.image c.read_column-3.new.disk) told (λ image. placed_in_record image names o key Transient ≡ Ok c.in_ok-transient.transient.items)
          (c.read_column-3.ensures.disk.same_image ∙ c.read_column-2.ensures.disk.same_image ∙ c.read_column.ensures.disk.same_image) c.in_ok-transient.ensures.read image is
          ∙ ap (λ (ps : List Placed). Ok ps) (sym transient))
          c.in-Ok.ensures.ok;
      fit = spelled names c.in-Ok.events.items c.requires.names together.fit;
      named = names_there names c.in-Ok.events.items together.fit;
      many = together.many;
      timed = in_time names c.in-Ok.events.items together.fit;
      rises = together.rises;
    }
