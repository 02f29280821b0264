use Rattle.dg_part_files.proofs.PartWriting.{if_err, left_part, on_ok, stops_part, whole_fits, whole_stands}
use Rattle.dg_part_files.proofs.part.write_part.Goals as goal
use Rattle.dg_part_files.specs.WrittenParts.{written}

pub returns-clause-written : goal.returns-clause-written
returns-clause-written g c =
    on_ok c.write_batches.result c.write_batches.ensures.at
    (whole_stands c.args.limit c.args.params c.args.names.now c.args.events.now c.write_batches.new.live (g.D.Disk.image c.write_batches.new.out))

pub returns-clause-room : goal.returns-clause-room
returns-clause-room g c =
    on_ok c.write_batches.result c.write_batches.ensures.at
    (whole_fits c.args.limit c.args.params c.args.names.now c.args.events.now c.write_batches.new.live (g.D.Disk.image c.write_batches.new.out))

pub returns-clause-stops : goal.returns-clause-stops
returns-clause-stops g c =
    if_err c.write_batches.result c.write_batches.ensures.stops
    (λ why h. stops_part g.D.Disk (written c.args.params c.args.names.now c.args.events.now) c.begin.new.out c.write_batches.new.out c.args.limit c.args.names.now c.args.events.now why h)

pub returns-clause-front : goal.returns-clause-front
returns-clause-front g c =
    if_err c.write_batches.result c.write_batches.ensures.stops
    (λ why h. λ legal. left_part (written c.args.params c.args.names.now c.args.events.now) why (g.D.Disk.image c.args.out.now) (g.D.Disk.image c.write_batches.new.out) (h.front legal))

pub returns-clause-settled : goal.returns-clause-settled
returns-clause-settled g c = on_ok c.write_batches.result c.write_batches.ensures.settled (λ stays. stays c.in_ok-live.ensures.settled)
