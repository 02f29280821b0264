-- The index keeps what the walk enters; what is read of it weighs what the tree does.
use Rattle.std.proofs.Common.{List, IfSome, subst}
use Rattle.dg_fold.specs.BytesRead.{AreParts, kept_in, named_along}
use Rattle.dg_plan.specs.declared.edge.Edge.{Edge}
use Rattle.dg_retrieval.proofs.CallRecords.{of_both, of_three, tree_unread}
use Rattle.dg_retrieval.proofs.TreeLeadReads.{all_entered, all_kept, most_of, shared_of, takes_of, walked_grow, walked_lead, walked_many}
use Rattle.dg_retrieval.proofs.tree_parts.read_tree.Goals as goal

pub fetch_walk-requires-clause-kept : goal.fetch_walk-requires-clause-kept
fetch_walk-requires-clause-kept g c =
    all_kept c.in_ok-tree.ensures.walk c.args.from.now.index.now.opening c.args.from.now.cols c.requires.over.edges c.deref.ensures.value c.facts.ensures.parameters c.facts.ensures.kept

pub fetch_walk-requires-clause-entered : goal.fetch_walk-requires-clause-entered
fetch_walk-requires-clause-entered g c = all_entered c.in_ok-tree.ensures.walk c.args.from.now.index.now.opening c.args.from.now.cols c.requires.over.edges c.deref.ensures.value

pub returns-in_err-parts-clause-over : goal.returns-in_err-parts-clause-over
returns-in_err-parts-clause-over g c names =
    of_both (g.D.Disk.image c.args.disk.now)
    (most_of c.in_ok-tree.ensures.walk c.args.from.now.index.now.opening c.args.from.now.cols c.requires.over.edges c.deref.ensures.value _ _ _ names c.fetch_walk.ensures.most)
    (shared_of c.in_ok-tree.ensures.walk c.args.from.now.index.now.opening c.args.from.now.cols c.requires.over.edges c.deref.ensures.value _ _ _ names c.fetch_walk.ensures.most _ _
    c.in_ok-tree.ensures.weight c.in_ok-tree.ensures.singles c.in_ok-tree.ensures.shared)
    (λ im m s z over. tree_unread _ c.from_residual-in_err-parts.result c.from_residual-in_err-parts.ensures.0 (m z over) (s z over))

pub returns-clause-over : goal.returns-clause-over
returns-clause-over g c names =
    of_three (g.D.Disk.image c.args.disk.now)
    (takes_of c.in_ok-tree.ensures.walk c.args.from.now.index.now.opening c.args.from.now.cols c.requires.over.edges c.deref.ensures.value _ _ _ names _ c.in_ok-tree.ensures.weight c.in_ok-parts.ensures.takes)
    (most_of c.in_ok-tree.ensures.walk c.args.from.now.index.now.opening c.args.from.now.cols c.requires.over.edges c.deref.ensures.value _ _ _ names c.fetch_walk.ensures.most)
    (shared_of c.in_ok-tree.ensures.walk c.args.from.now.index.now.opening c.args.from.now.cols c.requires.over.edges c.deref.ensures.value _ _ _ names c.fetch_walk.ensures.most _ _
    c.in_ok-tree.ensures.weight c.in_ok-tree.ensures.singles c.in_ok-tree.ensures.shared)
    (λ im t m s z over. record { takes = t z over; most = m z over; shared = s z over })

pub returns-clause-done : goal.returns-clause-done
returns-clause-done g c =
    let tree = c.in_ok-tree.ensures in
    let image = g.D.Disk.image c.args.disk.now in
    record {
      walk = tree.walk;
      parts = subst (λ (walk : List Edge). IfSome image (λ im. AreParts (kept_in im c.args.from.now.index.now.opening) c.args.from.now.cols (named_along walk) c.in_ok-parts.parts.items)) c.deref.ensures.value c.in_ok-parts.ensures.parts;
      weight = tree.weight;
      singles = tree.singles;
      sum = tree.sum;
      light = tree.light;
      light_sum = tree.light_sum;
      count = walked_many tree.walk;
      lead = walked_lead tree.walk;
      grow = walked_grow tree.walk;
    }
