use Rattle.std.proofs.Common.{sym, subst, refl, ◌∙◌}
use Rattle.std.proofs.lemmas.Bool.{false≢true}
use Rattle.txn_base.specs.declared.request.Request.{Request}
use Rattle.txn_engine.specs.Damage.{IsDamageIn}
use Rattle.txn_engine.proofs.AtView.{asked_so}
use Rattle.txn_engine.proofs.Damage.{none_told}
use Rattle.txn_base.specs.Moves.{RoseIn}
use Rattle.txn_engine.proofs.Going.{goes_still}
use Rattle.txn_engine.proofs.Faults.{none_named}
use Rattle.txn_engine.specs.Causes.{TellsEarly}
use Rattle.txn_engine.specs.Table.{world_of}
use Rattle.txn_engine.proofs.Early.{none_other}
use Rattle.txn_engine.proofs.Opened.{whole_log, whole_topic}
use Rattle.txn_engine.proofs.engine.Engine.reply_to.Goals as goal

pub returns-in-New-clause-answers : goal.returns-in-New-clause-answers
returns-in-New-clause-answers g c = λ told tied. (asked_so _ _ (g.D.Disk.part_faults c.args.disk.now) (g.D.Disk.part_faults c.begin.new.disk) _ _ _ _ _ _ c.in-New.is (c.begin.ensures.told told tied)).answers

pub returns-in-Add-clause-answers : goal.returns-in-Add-clause-answers
returns-in-Add-clause-answers g c = λ told tied. (asked_so _ _ (g.D.Disk.part_faults c.args.disk.now) (g.D.Disk.part_faults c.add.new.disk) _ _ _ _ _ _ c.in-Add.is (c.add.ensures.told told tied c.args.now)).answers

pub returns-in-Add-clause-instead : goal.returns-in-Add-clause-instead
returns-in-Add-clause-instead g c = λ told tied long. (asked_so _ _ (g.D.Disk.part_faults c.args.disk.now) (g.D.Disk.part_faults c.add.new.disk) _ _ _ _ _ _ c.in-Add.is (c.add.ensures.told told tied c.args.now)).instead long

pub returns-in-Publish-clause-answers : goal.returns-in-Publish-clause-answers
returns-in-Publish-clause-answers g c = λ told tied. (asked_so _ _ (g.D.Disk.part_faults c.args.disk.now) (g.D.Disk.part_faults c.publish.new.disk) _ _ _ _ _ _ c.in-Publish.is (c.publish.ensures.told told tied c.args.now)).answers

pub returns-in-Publish-clause-instead : goal.returns-in-Publish-clause-instead
returns-in-Publish-clause-instead g c = λ told tied long. (asked_so _ _ (g.D.Disk.part_faults c.args.disk.now) (g.D.Disk.part_faults c.publish.new.disk) _ _ _ _ _ _ c.in-Publish.is (c.publish.ensures.told told tied c.args.now)).instead long

pub returns-in-Read-clause-answers : goal.returns-in-Read-clause-answers
returns-in-Read-clause-answers g c = λ told tied. (asked_so _ _ (g.D.Disk.part_faults c.args.disk.now) (g.D.Disk.part_faults c.read.new.disk) _ _ _ _ _ _ c.in-Read.is (c.read.ensures.told told tied c.args.now)).answers

pub returns-in-Read-clause-instead : goal.returns-in-Read-clause-instead
returns-in-Read-clause-instead g c = λ told tied long. (asked_so _ _ (g.D.Disk.part_faults c.args.disk.now) (g.D.Disk.part_faults c.read.new.disk) _ _ _ _ _ _ c.in-Read.is (c.read.ensures.told told tied c.args.now)).instead long

pub returns-in-Status-clause-answers : goal.returns-in-Status-clause-answers
returns-in-Status-clause-answers g c = λ told tied. (asked_so _ _ (g.D.Disk.part_faults c.args.disk.now) (g.D.Disk.part_faults c.args.disk.now) _ _ _ _ _ _ c.in-Status.is (c.status.ensures.told _ _ (g.D.Disk.part_faults c.args.disk.now) (g.D.Disk.part_faults c.args.disk.now) tied c.args.now)).answers

pub returns-in-Commit-clause-answers : goal.returns-in-Commit-clause-answers
returns-in-Commit-clause-answers g c = λ told tied. (asked_so _ _ (g.D.Disk.part_faults c.args.disk.now) (g.D.Disk.part_faults c.end.new.disk) _ _ _ _ _ _ c.in-Commit.is (c.end.ensures.told told tied c.args.now)).answers

pub returns-in-Commit-clause-instead : goal.returns-in-Commit-clause-instead
returns-in-Commit-clause-instead g c = λ told tied long. (asked_so _ _ (g.D.Disk.part_faults c.args.disk.now) (g.D.Disk.part_faults c.end.new.disk) _ _ _ _ _ _ c.in-Commit.is (c.end.ensures.told told tied c.args.now)).instead long

pub returns-in-Abort-clause-answers : goal.returns-in-Abort-clause-answers
returns-in-Abort-clause-answers g c = λ told tied. (asked_so _ _ (g.D.Disk.part_faults c.args.disk.now) (g.D.Disk.part_faults c.end-in-Abort.new.disk) _ _ _ _ _ _ c.in-Abort.is (c.end-in-Abort.ensures.told told tied c.args.now)).answers

pub returns-in-Abort-clause-instead : goal.returns-in-Abort-clause-instead
returns-in-Abort-clause-instead g c = λ told tied long. (asked_so _ _ (g.D.Disk.part_faults c.args.disk.now) (g.D.Disk.part_faults c.end-in-Abort.new.disk) _ _ _ _ _ _ c.in-Abort.is (c.end-in-Abort.ensures.told told tied c.args.now)).instead long

pub returns-in-New-clause-damaged : goal.returns-in-New-clause-damaged
returns-in-New-clause-damaged g c = none_told g.D.Disk.tells c.args.self.now c.args.request.now c.begin.result c.begin.ensures.undamaged

pub returns-in-Add-clause-damaged : goal.returns-in-Add-clause-damaged
returns-in-Add-clause-damaged g c = none_told g.D.Disk.tells c.args.self.now c.args.request.now c.add.result c.add.ensures.undamaged

pub returns-in-Publish-clause-damaged : goal.returns-in-Publish-clause-damaged
returns-in-Publish-clause-damaged g c = none_told g.D.Disk.tells c.args.self.now c.args.request.now c.publish.result c.publish.ensures.undamaged

pub returns-in-Status-clause-damaged : goal.returns-in-Status-clause-damaged
returns-in-Status-clause-damaged g c = none_told g.D.Disk.tells c.args.self.now c.args.request.now c.status.result c.status.ensures.undamaged

pub returns-in-Commit-clause-damaged : goal.returns-in-Commit-clause-damaged
returns-in-Commit-clause-damaged g c = none_told g.D.Disk.tells c.args.self.now c.args.request.now c.end.result c.end.ensures.undamaged

pub returns-in-Abort-clause-damaged : goal.returns-in-Abort-clause-damaged
returns-in-Abort-clause-damaged g c = none_told g.D.Disk.tells c.args.self.now c.args.request.now c.end-in-Abort.result c.end-in-Abort.ensures.undamaged

pub returns-in-Read-clause-damaged : goal.returns-in-Read-clause-damaged
returns-in-Read-clause-damaged g c = λ part place is. subst (λ (r : Request). IsDamageIn g.D.Disk.tells c.args.self.now r part place) (sym c.in-Read.is) (c.read.ensures.damaged part place is)

pub returns-in-Status-clause-named : goal.returns-in-Status-clause-named
returns-in-Status-clause-named g c = none_named c.args.self.now.names (RoseIn g.D.Disk c.args.disk.now c.args.disk.now) c.status.result c.status.ensures.unnamed

pub returns-in-New-clause-early : goal.returns-in-New-clause-early
returns-in-New-clause-early g c = subst (λ (r : Request). TellsEarly c.args.self.now.limits (world_of c.args.self.now) r c.begin.result) (sym c.in-New.is) c.begin.ensures.early

pub returns-in-Add-clause-early : goal.returns-in-Add-clause-early
returns-in-Add-clause-early g c = subst (λ (r : Request). TellsEarly c.args.self.now.limits (world_of c.args.self.now) r c.add.result) (sym c.in-Add.is) c.add.ensures.early

pub returns-in-Publish-clause-early : goal.returns-in-Publish-clause-early
returns-in-Publish-clause-early g c = subst (λ (r : Request). TellsEarly c.args.self.now.limits (world_of c.args.self.now) r c.publish.result) (sym c.in-Publish.is) c.publish.ensures.early

pub returns-in-Read-clause-early : goal.returns-in-Read-clause-early
returns-in-Read-clause-early g c = subst (λ (r : Request). TellsEarly c.args.self.now.limits (world_of c.args.self.now) r c.read.result) (sym c.in-Read.is) c.read.ensures.early

pub returns-in-Status-clause-early : goal.returns-in-Status-clause-early
returns-in-Status-clause-early g c = subst (λ (r : Request). TellsEarly c.args.self.now.limits (world_of c.args.self.now) r c.status.result) (sym c.in-Status.is) c.status.ensures.early

pub returns-in-Commit-clause-early : goal.returns-in-Commit-clause-early
returns-in-Commit-clause-early g c = subst (λ (r : Request). TellsEarly c.args.self.now.limits (world_of c.args.self.now) r c.end.result) (sym c.in-Commit.is) c.end.ensures.early

pub returns-in-Abort-clause-early : goal.returns-in-Abort-clause-early
returns-in-Abort-clause-early g c = subst (λ (r : Request). TellsEarly c.args.self.now.limits (world_of c.args.self.now) r c.end-in-Abort.result) (sym c.in-Abort.is) c.end-in-Abort.ensures.early

pub returns-in_default-clause-early : goal.returns-in_default-clause-early
returns-in_default-clause-early g c = λ row is.
    absurd (none_other c.args.request.now c.requires.asked c.in_default.not-New c.in_default.not-Add c.in_default.not-Publish c.in_default.not-Read c.in_default.not-Commit c.in_default.not-Abort c.in_default.not-Status)

pub returns-in-Status-clause-goes : goal.returns-in-Status-clause-goes
returns-in-Status-clause-goes g c =
    goes_still g.D.Disk _ (λ is. false≢true (sym c.status.ensures.no_fault ∙ is)) c.args.self.now c.args.self.now c.args.disk.now c.requires.backed refl refl refl

pub returns-in_default-clause-goes : goal.returns-in_default-clause-goes
returns-in_default-clause-goes g c =
    absurd (none_other c.args.request.now c.requires.asked c.in_default.not-New c.in_default.not-Add c.in_default.not-Publish c.in_default.not-Read c.in_default.not-Commit c.in_default.not-Abort c.in_default.not-Status)

pub begin-requires-clause-whole : goal.begin-requires-clause-whole
begin-requires-clause-whole g c = c.requires.whole.coord

pub add-requires-clause-whole : goal.add-requires-clause-whole
add-requires-clause-whole g c = c.requires.whole.coord

pub publish-requires-clause-log : goal.publish-requires-clause-log
publish-requires-clause-log g c = whole_log c.args.self.now c.requires.whole _

pub publish-requires-clause-whole : goal.publish-requires-clause-whole
publish-requires-clause-whole g c = whole_topic c.args.self.now c.requires.whole c.kept.ensures _

pub read-requires-clause-whole : goal.read-requires-clause-whole
read-requires-clause-whole g c = whole_topic c.args.self.now c.requires.whole c.kept.ensures _
