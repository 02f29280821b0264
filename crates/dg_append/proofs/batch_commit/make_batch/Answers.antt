use Rattle.dg_append.proofs.batch_commit.make_batch.Goals as goal

pub recent_behind-requires : goal.recent_behind-requires
recent_behind-requires g c = c.requires.next.follows.room
