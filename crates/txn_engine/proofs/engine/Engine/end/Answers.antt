use Rattle.std.proofs.Common.{◌≡◌, true, false, arith, inl, refl}
use Rattle.std.proofs.lemmas.Bool.Decides.{nat_tests}
use Rattle.txn_engine.proofs.Ended.{foreign_end_told, end_memory_told}
use Rattle.txn_engine.proofs.Going.{goes_then}
use Rattle.txn_engine.proofs.Same.{same_table, same_whole, same_backed, same_tied, same_told, goes_same}
use Rattle.txn_engine.specs.Faults.{fault_name}
use Rattle.txn_engine.specs.Told.{RoseFor}
use Rattle.txn_engine.proofs.Faults.{named_wider}
use Rattle.txn_base.specs.declared.reply.Refusal.TheVariants as no
use Rattle.txn_base.specs.declared.reply.Reply.TheVariants as reply
use Rattle.txn_engine.specs.Ending.{end_request}
use Rattle.txn_engine.proofs.Decided.{early_end, foreign_end}
use Rattle.txn_engine.proofs.Early.{no_row, its_row}
use Rattle.txn_engine.proofs.engine.Engine.end.Goals as goal

pub returns-then-txn-ne0-clause-told : goal.returns-then-txn-ne0-clause-told
returns-then-txn-ne0-clause-told g c = λ tells tied now.
    foreign_end_told _ _ (g.D.Disk.part_faults c.args.disk.now) (g.D.Disk.part_faults c.args.disk.now) c.args.self.now c.args.txn c.args.decision now (grind (arith, nat_tests, c.if-txn-ne0.true))

pub returns-then-is_err-clause-told : goal.returns-then-is_err-clause-told
returns-then-is_err-clause-told g c = λ tells tied now.
    end_memory_told _ _ (g.D.Disk.part_faults c.args.disk.now) (g.D.Disk.part_faults c.args.disk.now) c.args.self.now c.args.txn c.args.decision now c.reserve.new.self (same_table c.args.self.now c.reserve.new.self c.reserve.ensures.same)

pub returns-then-is_err-clause-goes : goal.returns-then-is_err-clause-goes
returns-then-is_err-clause-goes g c =
    goes_same g.D.Disk (false ≡ true) (λ h. cc) c.args.self.now c.reserve.new.self c.args.disk.now c.requires.backed c.reserve.ensures.same

pub decide_and_drive-requires-clause-whole : goal.decide_and_drive-requires-clause-whole
decide_and_drive-requires-clause-whole g c = same_whole c.args.self.now c.reserve.new.self c.reserve.ensures.same c.requires.whole

pub decide_and_drive-requires-clause-backed : goal.decide_and_drive-requires-clause-backed
decide_and_drive-requires-clause-backed g c = same_backed c.args.self.now c.reserve.new.self c.reserve.ensures.same (g.D.Disk.image c.args.disk.now) c.requires.backed

pub returns-clause-told : goal.returns-clause-told
returns-clause-told g c = λ tells tied now.
    same_told c.args.self.now c.reserve.new.self c.reserve.ensures.same _ _ (g.D.Disk.part_faults c.args.disk.now) (g.D.Disk.part_faults c.decide_and_drive.new.disk) _ now _ c.decide_and_drive.new.self
    (c.decide_and_drive.ensures.told tells (same_tied c.args.self.now c.reserve.new.self c.reserve.ensures.same tied) now)

pub returns-clause-goes : goal.returns-clause-goes
returns-clause-goes g c =
    goes_then g.D.Disk ⊥ _ c.args.self.now c.reserve.new.self c.decide_and_drive.new.self c.args.disk.now c.args.disk.now c.decide_and_drive.new.disk (λ e. e)
    (goes_same g.D.Disk ⊥ (λ e. e) c.args.self.now c.reserve.new.self c.args.disk.now c.requires.backed c.reserve.ensures.same) c.decide_and_drive.ensures.goes

pub returns-clause-named : goal.returns-clause-named
returns-clause-named g c =
    named_wider c.reserve.new.self.names (RoseFor (g.D.Disk.faults c.args.disk.now) (g.D.Disk.faults c.decide_and_drive.new.disk) (g.D.Disk.part_faults c.args.disk.now) (g.D.Disk.part_faults c.decide_and_drive.new.disk)) c.args.self.now.names (RoseFor (g.D.Disk.faults c.args.disk.now) (g.D.Disk.faults c.decide_and_drive.new.disk) (g.D.Disk.part_faults c.args.disk.now) (g.D.Disk.part_faults c.decide_and_drive.new.disk)) c.reserve.ensures.same.names (λ p grew. grew) (fault_name c.decide_and_drive.result) c.decide_and_drive.ensures.named

pub returns-then-txn-ne0-clause-early : goal.returns-then-txn-ne0-clause-early
returns-then-txn-ne0-clause-early g c = its_row c.args.self.now c.args.self.now refl (end_request c.args.decision c.args.txn) (reply.No (no.UnknownCoordinator c.args.txn.most)) (no.UnknownCoordinator c.args.txn.most) (foreign_end c.args.self.now.limits c.args.self.now c.args.txn c.args.decision (grind (arith, nat_tests, c.if-txn-ne0.true))) (inl refl)

pub returns-clause-early : goal.returns-clause-early
returns-clause-early g c = no_row c.args.self.now c.args.self.now refl (end_request c.args.decision c.args.txn) c.decide_and_drive.result (early_end c.args.self.now.limits c.args.self.now c.args.txn c.args.decision (grind (arith, nat_tests, c.if-txn-ne0.false)))
