use Rattle.std.proofs.Common.{◌≡◌, true, false, sym, ap, ◌∙◌, subst, IsErr, IsTrue, not}
use Rattle.txn_base.specs.declared.reply.Outcome.{Outcome}
use Rattle.txn_model.specs.Replies.{is_stopped}
use Rattle.txn_engine.specs.Ending.{IsTellableEnd}
use Rattle.txn_coordinator.specs.View.{CoordView}
use Rattle.txn_engine.specs.Table.{table_of}
use Rattle.txn_engine.proofs.Driving.{decided_after, already_told, stops_told, close_fault_told, closes_told, part_short, rose_later, named_at, from_is_ok}
use Rattle.txn_engine.proofs.Going.{goes_then, goes_like}
use Rattle.txn_engine.proofs.Marked.{from_ok_err}
use Rattle.txn_engine.proofs.TopicNames.{coordinator_name}
use Rattle.txn_engine.specs.Told.{RoseFor}
use Rattle.txn_engine.proofs.Faults.{coordinator_named, stuck_named, index_rose}
use Rattle.txn_engine.proofs.engine.Engine.drive.Goals as goal

pub returns-then-is_closed-clause-told : goal.returns-then-is_closed-clause-told
returns-then-is_closed-clause-told g c = λ tells tied.
    already_told c.args.self.now c.is_closed.ensures.kept c.requires.whole.coord tied c.args.txn c.args.decision c.requires.decided _ _ (g.D.Disk.part_faults c.args.disk.now) (g.D.Disk.part_faults c.args.disk.now)
    c.is_closed.result c.is_closed.ensures.value c.if-is_closed.true c.closed.result c.closed.ensures

pub returns-in-Err-clause-told : goal.returns-in-Err-clause-told
returns-in-Err-clause-told g c = λ tells tied.
    stops_told c.args.self.now c.is_closed.ensures.kept c.requires.whole.coord tied c.args.txn c.args.decision c.requires.decided _ _ (g.D.Disk.part_faults c.args.disk.now) (g.D.Disk.part_faults c.mark_all.new.disk)
    c.is_closed.result c.is_closed.ensures.value c.if-is_closed.false c.stuck.result c.in-Err.at c.as_str.result.now (table_of c.mark_all.new.self) c.stuck.ensures c.in-Err.ensures.within
    (named_at c.args.self.now c.mark_all.new.self _ c.self.view_is c.in-Err.ensures.goes.names c.in-Err.at c.in-Err.ensures.within c.index.result.now c.as_str.result.now c.index.ensures c.as_str.ensures.value) (c.in-Err.ensures.err tells tied)

pub returns-in-Err-clause-tellable : goal.returns-in-Err-clause-tellable
returns-in-Err-clause-tellable g c =
    subst IsTellableEnd (sym c.stuck.ensures) (part_short c.args.self.now c.is_closed.ensures.kept c.in-Err.at c.as_str.result.now c.in-Err.ensures.within
    (named_at c.args.self.now c.mark_all.new.self _ c.self.view_is c.in-Err.ensures.goes.names c.in-Err.at c.in-Err.ensures.within c.index.result.now c.as_str.result.now c.index.ensures c.as_str.ensures.value))

pub returns-then-is_err-clause-told : goal.returns-then-is_err-clause-told
returns-then-is_err-clause-told g c = λ tells tied.
    close_fault_told c.args.self.now c.is_closed.ensures.kept c.requires.whole.coord tied c.args.txn c.args.decision c.requires.decided _ _ (g.D.Disk.part_faults c.args.disk.now) (g.D.Disk.part_faults c.close.new.disk)
    c.is_closed.result c.is_closed.ensures.value c.if-is_closed.false (table_of c.mark_all.new.self) (c.in_default.ensures.ok tells tied) c.stuck-then-is_err.result (table_of c.close.new.self) c.stuck-then-is_err.ensures
    (rose_later 0 _ _ _ (g.D.Disk.part_faults c.args.disk.now) (g.D.Disk.part_faults c.mark_all.new.disk) (g.D.Disk.part_faults c.close.new.disk) c.in_default.ensures.goes.cause.later (c.in_default.ensures.goes.cause.parts_later 0) (from_ok_err c.close.result _ (sym c.is_err.ensures.value ∙ c.if-is_err.true) c.close.ensures.rose))
    (from_ok_err c.close.result _ (sym c.is_err.ensures.value ∙ c.if-is_err.true) (c.close.ensures.err c.args.decision (decided_after _ _ c.in_default.ensures.coord c.args.txn c.args.decision c.requires.decided) tells (c.in_default.ensures.goes.tied tells tied)))

pub returns-then-is_err-clause-tellable : goal.returns-then-is_err-clause-tellable
returns-then-is_err-clause-tellable g c = subst IsTellableEnd (sym c.stuck-then-is_err.ensures) coordinator_name

pub returns-then-is_err-clause-goes : goal.returns-then-is_err-clause-goes
returns-then-is_err-clause-goes g c =
    goes_like g.D.Disk (IsErr c.close.result) _ c.args.self.now c.close.new.self c.args.disk.now c.close.new.disk
    (λ err. ap (λ (o : Outcome). is_stopped o.stuck) c.stuck-then-is_err.ensures) (λ stopped. sym c.is_err.ensures.value ∙ c.if-is_err.true)
    (goes_then g.D.Disk _ (IsErr c.close.result) c.args.self.now c.mark_all.new.self c.close.new.self c.args.disk.now c.mark_all.new.disk c.close.new.disk (λ e. cc) c.in_default.ensures.goes c.close.ensures.goes)

pub returns-clause-told : goal.returns-clause-told
returns-clause-told g c = λ tells tied.
    closes_told c.args.self.now c.is_closed.ensures.kept c.requires.whole.coord tied c.args.txn c.args.decision c.requires.decided _ _ (g.D.Disk.part_faults c.args.disk.now) (g.D.Disk.part_faults c.close.new.disk)
    c.is_closed.result c.is_closed.ensures.value c.if-is_closed.false (table_of c.mark_all.new.self) (c.in_default.ensures.ok tells tied) c.closed-2.result (table_of c.close.new.self) c.closed-2.ensures
    (from_is_ok c.close.result _ (c.is_err.ensures.negation ∙ ap not c.if-is_err.false) (c.close.ensures.ok c.args.decision (decided_after _ _ c.in_default.ensures.coord c.args.txn c.args.decision c.requires.decided) tells (c.in_default.ensures.goes.tied tells tied)))

pub returns-clause-goes : goal.returns-clause-goes
returns-clause-goes g c =
    goes_like g.D.Disk (IsErr c.close.result) (false ≡ true) c.args.self.now c.close.new.self c.args.disk.now c.close.new.disk (λ err. sym c.if-is_err.false ∙ c.is_err.ensures.value ∙ err) (λ h. cc)
    (goes_then g.D.Disk _ (IsErr c.close.result) c.args.self.now c.mark_all.new.self c.close.new.self c.args.disk.now c.mark_all.new.disk c.close.new.disk (λ e. cc) c.in_default.ensures.goes c.close.ensures.goes)

pub returns-in-Err-clause-named : goal.returns-in-Err-clause-named
returns-in-Err-clause-named g c =
    stuck_named c.args.self.now.names (RoseFor (g.D.Disk.faults c.args.disk.now) (g.D.Disk.faults c.mark_all.new.disk) (g.D.Disk.part_faults c.args.disk.now) (g.D.Disk.part_faults c.mark_all.new.disk)) c.args.decision c.as_str.result.now c.stuck.result c.stuck.ensures
    (index_rose c.args.self.now c.is_closed.ensures.kept (RoseFor (g.D.Disk.faults c.args.disk.now) (g.D.Disk.faults c.mark_all.new.disk) (g.D.Disk.part_faults c.args.disk.now) (g.D.Disk.part_faults c.mark_all.new.disk)) c.in-Err.at c.as_str.result.now c.in-Err.ensures.within
    (named_at c.args.self.now c.mark_all.new.self _ c.self.view_is c.in-Err.ensures.goes.names c.in-Err.at c.in-Err.ensures.within c.index.result.now c.as_str.result.now c.index.ensures c.as_str.ensures.value) c.in-Err.ensures.rose)

pub returns-then-is_err-clause-named : goal.returns-then-is_err-clause-named
returns-then-is_err-clause-named g c =
    stuck_named c.args.self.now.names (RoseFor (g.D.Disk.faults c.args.disk.now) (g.D.Disk.faults c.close.new.disk) (g.D.Disk.part_faults c.args.disk.now) (g.D.Disk.part_faults c.close.new.disk)) c.args.decision _ c.stuck-then-is_err.result c.stuck-then-is_err.ensures
    (coordinator_named c.args.self.now.names (RoseFor (g.D.Disk.faults c.args.disk.now) (g.D.Disk.faults c.close.new.disk) (g.D.Disk.part_faults c.args.disk.now) (g.D.Disk.part_faults c.close.new.disk))
    (rose_later 0 _ _ _ (g.D.Disk.part_faults c.args.disk.now) (g.D.Disk.part_faults c.mark_all.new.disk) (g.D.Disk.part_faults c.close.new.disk) c.in_default.ensures.goes.cause.later (c.in_default.ensures.goes.cause.parts_later 0) (from_ok_err c.close.result _ (sym c.is_err.ensures.value ∙ c.if-is_err.true) c.close.ensures.rose)))

pub close-requires-clause-whole : goal.close-requires-clause-whole
close-requires-clause-whole g c = subst (λ (k : CoordView). IsTrue k.whole) (sym c.in_default.ensures.coord) c.requires.whole.coord
