use Rattle.std.proofs.Common.{arith, [], ap, length, refl}
use Rattle.std.proofs.Math.ListN.{length-map}
use Rattle.dg_part_runs.specs.Disks.{images_of}
use Rattle.dg_part_runs.specs.StartedParts.{IsStarted}
use Rattle.dg_part_runs.proofs.PartBegins.{begun_seen, blank_seen, other_seen, stops_begun}
use Rattle.dg_part_runs.proofs.ZippedLists.{zip_length}
use Rattle.dg_part_runs.proofs.start.start_parts.Goals as goal

pub returns-in-Err-clause-not_begun : goal.returns-in-Err-clause-not_begun
returns-in-Err-clause-not_begun g c = stops_begun (images_of g.D.Disk c.args.disks.now) c.in-Err.status c.in-Err.ensures.stops

pub without_index-requires : goal.without_index-requires
without_index-requires g c = record {
  few = omega (
    arith,
    c.requires.few,
    ap length c.deref.ensures.value,
    length-map c.args.disks.now g.D.Disk.image,
    zip_length (IsStarted c.args.limits) c.in-Ok.sessions.items (images_of g.D.Disk c.args.disks.now) c.in-Ok.ensures.started,
  );
}

pub returns-in-Some-clause-not_begun : goal.returns-in-Some-clause-not_begun
returns-in-Some-clause-not_begun g c =
    blank_seen c.args.limits c.in-Ok.sessions.items c.deref.result.now (images_of g.D.Disk c.args.disks.now) [] c.deref.ensures.value refl c.in-Ok.ensures.started c.in-Some.part c.in-Some.ensures.some

pub other_names-requires : goal.other_names-requires
other_names-requires g c = record {
  few = omega (
    arith,
    c.requires.few,
    ap length c.deref-2.ensures.value,
    length-map c.args.disks.now g.D.Disk.image,
    zip_length (IsStarted c.args.limits) c.in-Ok.sessions.items (images_of g.D.Disk c.args.disks.now) c.in-Ok.ensures.started,
  );
}

pub returns-in-Some-other_names-clause-not_begun : goal.returns-in-Some-other_names-clause-not_begun
returns-in-Some-other_names-clause-not_begun g c =
    other_seen c.args.limits c.in-Ok.sessions.items c.deref.result.now (images_of g.D.Disk c.args.disks.now) c.new-none.result c.deref.ensures.value c.new-none.ensures c.in-Ok.ensures.started
    c.deref-2.result.now c.deref-2.ensures.value c.in_default.ensures.none c.in-Some-other_names.part c.in-Some-other_names.ensures.some

pub returns-clause-begun : goal.returns-clause-begun
returns-clause-begun g c =
    begun_seen c.args.limits c.in-Ok.sessions.items c.deref.result.now (images_of g.D.Disk c.args.disks.now) c.new-none.result c.deref.ensures.value c.new-none.ensures c.in-Ok.ensures.started
    c.deref-2.result.now c.deref-2.ensures.value c.in_default.ensures.none c.new.result c.new.ensures.sessions c.new.ensures.sets c.new.ensures.next c.new.ensures.nameless c.in_default-other_names.ensures.none
