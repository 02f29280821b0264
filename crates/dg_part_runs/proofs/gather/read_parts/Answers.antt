use Rattle.std.proofs.Common.{List, map, ap, ◌∙◌}
use Rattle.std.specs.Prelude.{sum}
use Rattle.dg_gather.specs.declared.gathered.Gathered.{Gathered}
use Rattle.dg_gather.specs.Gathered.{shown_by}
use Rattle.dg_graph.specs.DifferentialFunction.{all_of}
use Rattle.dg_part_runs.specs.Disks.{images_of}
use Rattle.dg_part_runs.proofs.GatheredParts.{reads_so}
use Rattle.dg_part_runs.proofs.gather.read_parts.Goals as goal

pub returns-clause-reads : goal.returns-clause-reads
returns-clause-reads g c = λ limits.
    reads_so limits c.args.t c.args.cols c.args.sessions.now (images_of g.D.Disk c.args.disks.now) c.in_ok-gathered.gathered.items c.in_ok-set.set c.in-Some.weight
    (c.in_ok-gathered.ensures.gathered limits)
    (c.in_ok-set.ensures.value ∙ ap (λ (l : List Gathered). all_of (map shown_by l)) c.deref-2.ensures.value)
    (c.in-Some.ensures ∙ ap (λ (l : List Gathered). sum (map (λ (x : Gathered). x.weight) l)) c.deref.ensures.value)
