use Rattle.std.proofs.Common.{rules}
use Rattle.txn_engine.proofs.Decided.{engine_clause, decided_clause, whole_clause, ready_clause, granted_clause, settled_clause, refused_clause, goes_clause}
use Rattle.txn_engine.proofs.Reading.{rose_at}
use Rattle.txn_engine.proofs.engine.Engine.decide.Goals as goal

pub invariant_of-self : goal.invariant_of-self
invariant_of-self g c =
    engine_clause _ c.self.invariant _ c.self.view_is c.requires.whole c.args.txn c.args.decision (search rules) c.decide.result c.decide.new.self c.decide.ensures.refused c.decide.ensures.repeated c.decide.ensures.ok c.decide.ensures.fault c.decide.ensures.same

pub returns-clause-refused : goal.returns-clause-refused
returns-clause-refused g c = λ tells tied.
    refused_clause _ c.self.invariant _ c.self.view_is c.requires.whole c.args.txn c.args.decision (search rules) c.decide.result c.decide.new.self c.decide.ensures.refused c.decide.ensures.repeated c.decide.ensures.ok c.decide.ensures.fault c.decide.ensures.same
    c.requires.own tied _ _ _ _ c.decide.ensures.cause

pub returns-clause-granted : goal.returns-clause-granted
returns-clause-granted g c = λ tells tied.
    granted_clause _ c.self.invariant _ c.self.view_is c.requires.whole c.args.txn c.args.decision (search rules) c.decide.result c.decide.new.self c.decide.ensures.refused c.decide.ensures.repeated c.decide.ensures.ok c.decide.ensures.fault c.decide.ensures.same
    c.requires.own tied

pub returns-clause-settled : goal.returns-clause-settled
returns-clause-settled g c = λ tells tied.
    settled_clause _ c.self.invariant _ c.self.view_is c.requires.whole c.args.txn c.args.decision (search rules) c.decide.result c.decide.new.self c.decide.ensures.refused c.decide.ensures.repeated c.decide.ensures.ok c.decide.ensures.fault c.decide.ensures.same
    c.requires.own tied

pub returns-clause-decided : goal.returns-clause-decided
returns-clause-decided g c =
    decided_clause _ c.self.invariant _ c.self.view_is c.requires.whole c.args.txn c.args.decision (search rules) c.decide.result c.decide.new.self c.decide.ensures.refused c.decide.ensures.repeated c.decide.ensures.ok c.decide.ensures.fault c.decide.ensures.same

pub returns-clause-whole : goal.returns-clause-whole
returns-clause-whole g c =
    whole_clause _ c.self.invariant _ c.self.view_is c.requires.whole c.args.txn c.args.decision (search rules) c.decide.result c.decide.new.self c.decide.ensures.refused c.decide.ensures.repeated c.decide.ensures.ok c.decide.ensures.fault c.decide.ensures.same

pub returns-clause-ready : goal.returns-clause-ready
returns-clause-ready g c = λ ready.
    ready_clause _ c.self.invariant _ c.self.view_is c.requires.whole c.args.txn c.args.decision (search rules) c.decide.result c.decide.new.self c.decide.ensures.refused c.decide.ensures.repeated c.decide.ensures.ok c.decide.ensures.fault c.decide.ensures.same
    ready

pub returns-clause-goes : goal.returns-clause-goes
returns-clause-goes g c =
    goes_clause _ c.self.invariant _ c.self.view_is c.requires.whole c.args.txn c.args.decision (search rules) c.decide.result c.decide.new.self c.decide.ensures.refused c.decide.ensures.repeated c.decide.ensures.ok c.decide.ensures.fault c.decide.ensures.same
    g.D.Disk c.args.disk.now c.decide.new.disk c.requires.backed c.decide.ensures.nothing c.decide.ensures.unwritten c.decide.ensures.tied c.decide.ensures.backed c.decide.ensures.images c.decide.ensures.others c.decide.ensures.cause

pub returns-clause-rose : goal.returns-clause-rose
returns-clause-rose g c = λ e. rose_at _ 0 (g.D.Disk.faults c.args.disk.now) (g.D.Disk.faults c.decide.new.disk) (g.D.Disk.part_faults c.args.disk.now) (g.D.Disk.part_faults c.decide.new.disk) c.self.invariant.coord.key (c.decide.ensures.cause.failed e)
