use Rattle.std.proofs.Common.{refl}
use Rattle.txn_run.proofs.Feeding.{going_newline, broken_newline, stopped_newline}
use Rattle.txn_run.proofs.lines.take_byte.Goals as goal

pub returns-in-Err-clause-sink : goal.returns-in-Err-clause-sink
returns-in-Err-clause-sink g c is told tied first old fed so =
    rw c.if-byte-eq10.true (broken_newline _ first old fed _ _ _ _ _ so (c.in-Err.ensures.sink is told tied _ so.piece))

pub returns-in-Err-clause-disk : goal.returns-in-Err-clause-disk
returns-in-Err-clause-disk g c is told tied first old fed so =
    rw c.if-byte-eq10.true (stopped_newline _ first old fed _ _ _ _ _ so (c.in-Err.ensures.disk is told tied _ so.piece))

pub returns-in-Ok-clause-ok : goal.returns-in-Ok-clause-ok
returns-in-Ok-clause-ok g c ok told tied first old fed so =
    rw c.if-byte-eq10.true (going_newline _ first old fed _ _ _ _ _ _ so (c.in-Ok.ensures.ok refl told tied _ so.piece) c.clear.ensures.stands)
