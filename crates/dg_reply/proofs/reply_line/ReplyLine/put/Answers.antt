use Rattle.std.proofs.Common.{◌<◌, length, arith}
use Rattle.dg_reply.proofs.BufferedLines.{word_more}
use Rattle.dg_reply.proofs.reply_line.ReplyLine.put.Goals as goal

pub returns-clause-words : goal.returns-clause-words
returns-clause-words c =
    let below : c.args.self.now.len < length c.args.self.now.words = omega arith in
    word_more c.args.self.now.words c.args.self.now.len c.args.word below
