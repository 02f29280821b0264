use Rattle.std.proofs.Common.{length}
use Rattle.dg_disk.proofs.CrashTorn.{torn_none}
use Rattle.dg_file_disk.proofs.disk.FileDiskDisk.write_at.Goals as goal

pub returns-in-Ok-clause-crash : goal.returns-in-Ok-clause-crash
returns-in-Ok-clause-crash g c = λ left _. (left, tt, torn_none c.args.offset (length c.args.piece.now) left)

pub returns-in-Err-clause-crash : goal.returns-in-Err-clause-crash
returns-in-Err-clause-crash g c = λ left _. (left, tt, torn_none c.args.offset (length c.args.piece.now) left)
