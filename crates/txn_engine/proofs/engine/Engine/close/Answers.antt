use Rattle.std.proofs.Common.{rules}
use Rattle.txn_engine.proofs.Closing.{decision_there, undriven_at, closed_engine, close_ok, close_err, close_rose, close_goes}
use Rattle.txn_engine.proofs.engine.Engine.close.Goals as goal

pub close-requires-clause-undriven : goal.close-requires-clause-undriven
close-requires-clause-undriven g c =
    let is = decision_there _ c.requires.decided in
    undriven_at _ c.self.invariant _ c.self.view_is c.args.txn is.0 is.1 c.requires.unclosed

pub invariant_of-self : goal.invariant_of-self
invariant_of-self g c =
    let is = decision_there _ c.requires.decided in
    closed_engine _ c.self.invariant _ c.self.view_is c.requires.whole c.args.txn is.0 (search rules) is.1 c.requires.unclosed c.close.new.self c.close.result c.close.ensures.ok c.close.ensures.fault

pub returns-clause-ok : goal.returns-clause-ok
returns-clause-ok g c = λ d decided tells tied.
    close_ok _ c.self.invariant _ c.self.view_is c.requires.whole c.args.txn d (search rules) decided c.requires.unclosed c.close.new.self c.close.result c.close.ensures.ok c.close.ensures.fault

pub returns-clause-err : goal.returns-clause-err
returns-clause-err g c = λ d decided tells tied.
    close_err _ c.self.invariant _ c.self.view_is c.requires.whole c.args.txn d (search rules) decided c.requires.unclosed c.close.new.self c.close.result c.close.ensures.ok c.close.ensures.fault

pub returns-clause-rose : goal.returns-clause-rose
returns-clause-rose g c =
    let is = decision_there _ c.requires.decided in
    close_rose _ c.self.invariant _ c.self.view_is c.requires.whole c.args.txn is.0 (search rules) is.1 c.requires.unclosed c.close.new.self c.close.result c.close.ensures.ok c.close.ensures.fault _ _ _ _ c.close.ensures.cause

pub returns-clause-goes : goal.returns-clause-goes
returns-clause-goes g c =
    let is = decision_there _ c.requires.decided in
    close_goes _ c.self.invariant _ c.self.view_is c.requires.whole c.args.txn is.0 (search rules) is.1 c.requires.unclosed c.close.new.self c.close.result c.close.ensures.ok c.close.ensures.fault c.requires.marked
    g.D.Disk c.args.disk.now c.close.new.disk c.requires.backed c.close.ensures.tied c.close.ensures.backed c.close.ensures.images c.close.ensures.others c.close.ensures.cause
