use Rattle.txn_engine.specs.Table.{table_of}
use Rattle.txn_engine.proofs.Causes.{rows_clause, causes_clause, unchanged_clause}
use Rattle.txn_engine.proofs.Left.{left_kept}
use Rattle.txn_engine.proofs.engine.Engine.answer.Goals as goal

pub returns-clause-leaves : goal.returns-clause-leaves
returns-clause-leaves g c = λ files w at stands. left_kept c.reply_to-reply.new.self c.kept.ensures (g.D.Disk.image c.reply_to-reply.new.disk) c.reply_to-reply.ensures.goes.backed files at w stands

pub returns-clause-rows : goal.returns-clause-rows
returns-clause-rows g c = λ tells tied.
    rows_clause c.args.self.now c.requires.whole _ c.args.request.now c.requires.asked c.args.now c.reply_to-reply.result (table_of c.reply_to-reply.new.self) (c.reply_to-reply.ensures.answers tells tied)

pub returns-clause-causes : goal.returns-clause-causes
returns-clause-causes g c = λ tells tied.
    causes_clause c.args.self.now c.requires.whole _ c.args.request.now c.requires.asked c.args.now c.reply_to-reply.result (table_of c.reply_to-reply.new.self) (c.reply_to-reply.ensures.answers tells tied)

pub returns-clause-unchanged : goal.returns-clause-unchanged
returns-clause-unchanged g c = λ tells tied.
    unchanged_clause c.args.self.now c.requires.whole _ c.args.request.now c.requires.asked c.args.now c.reply_to-reply.result (table_of c.reply_to-reply.new.self) (c.reply_to-reply.ensures.answers tells tied)
