-- Over which image retrievals go, and by which graph.
use Rattle.std.specs.Prelude.{◌≡◌, ℕ, false, List, [], Option, IfSome}
use Rattle.dg_file.specs.Images.{IsOpenedAs}
use Rattle.dg_graph.specs.declared.element.Columns.{Columns}
use Rattle.dg_retrieval.specs.declared.planned_index.PlannedIndex.{PlannedIndex}
use Rattle.dg_retrieval.specs.KeptGraph.{index_edges}
use Rattle.dg_retrieval.specs.TreeLeads.{AreIndexEdges}

-- Where the disk tells its image, the index is what that is opened as. The planner's graph is that of the index in the
-- asked columns: with the current graph or without, and with bases of which none holds the graph of a list.
pub record IsOverFile (told : Option (List ℕ)) (p : PlannedIndex) : Type 0 where
  pub image : IfSome told (λ im. IsOpenedAs im p.index.now.opening)
  pub edges : AreIndexEdges p.index.now.opening p.cols p.planner.now.edges

-- The same, and the graph is that of the records alone, in these columns.
pub record IsOverRecords (told : Option (List ℕ)) (cols : Columns) (p : PlannedIndex) : Type 0 where
  pub image : IfSome told (λ im. IsOpenedAs im p.index.now.opening)
  pub edges : p.planner.now.edges ≡ index_edges p.index.now.opening cols false []
