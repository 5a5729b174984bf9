use Rattle.std.proofs.Common.{◌≡◌, ⊎_elim, Result, Ok, sym, subst, ap, ◌∙◌, Err}
use Rattle.txn_base.specs.declared.txn.Status.{Status}
use Rattle.txn_coordinator.specs.declared.error.CoordError.{CoordError}
use Rattle.txn_coordinator.specs.declared.error.CoordError.TheVariants as coord_error
use Rattle.txn_base.specs.declared.reply.Refusal.{Refusal}
use Rattle.txn_base.specs.declared.reply.Reply.TheVariants as reply
use Rattle.txn_engine.specs.Damage.{is_damage}
use Rattle.txn_engine.specs.Told.{IsTellable, RoseFor}
use Rattle.txn_engine.proofs.AtView.{tell_at}
use Rattle.txn_engine.proofs.Begun.{tellable_refusal}
use Rattle.txn_engine.proofs.Damage.{refusal_sound}
use Rattle.txn_engine.proofs.Driving.{rose_later}
use Rattle.txn_engine.proofs.Ended.{ended_told}
use Rattle.txn_engine.proofs.Going.{goes_then}
use Rattle.txn_engine.specs.Faults.{stuck_name}
use Rattle.txn_engine.proofs.Faults.{named_for, refusal_named, named_wider}
use Rattle.txn_engine.proofs.engine.Engine.decide_and_drive.Goals as goal

pub returns-in-Ok-clause-told : goal.returns-in-Ok-clause-told
returns-in-Ok-clause-told g c = λ tells tied now.
    let went = c.in-Ok.ensures.goes in
    ended_told _ _ (g.D.Disk.part_faults c.args.disk.now) (g.D.Disk.part_faults c.drive.new.disk) c.args.self.now c.args.txn c.args.decision now (c.in-Ok.ensures.granted tells tied) c.decide.new.self c.drive.new.self (c.in-Ok.ensures.settled tells tied) _
    (λ p grew. rose_later p _ _ _ (g.D.Disk.part_faults c.args.disk.now) (g.D.Disk.part_faults c.decide.new.disk) (g.D.Disk.part_faults c.drive.new.disk) went.cause.later (went.cause.parts_later p) grew)
    c.drive.result (c.drive.ensures.told tells (went.tied tells tied))

pub returns-in-Ok-clause-goes : goal.returns-in-Ok-clause-goes
returns-in-Ok-clause-goes g c =
    goes_then g.D.Disk _ _ c.args.self.now c.decide.new.self c.drive.new.self c.args.disk.now c.decide.new.disk c.drive.new.disk (λ e. cc) c.in-Ok.ensures.goes c.drive.ensures.goes

pub returns-in-Err-clause-told : goal.returns-in-Err-clause-told
returns-in-Err-clause-told g c = λ tells tied now.
    tell_at _ _ (g.D.Disk.part_faults c.args.disk.now) (g.D.Disk.part_faults c.decide.new.disk) _ _ _ _ _ _ (ap (λ (row : Refusal). reply.No row) (sym c.coord_refusal.ensures)) (c.in-Err.ensures.refused tells tied now)

pub returns-in-Err-clause-tellable : goal.returns-in-Err-clause-tellable
returns-in-Err-clause-tellable g c = subst (λ (row : Refusal). IsTellable (reply.No row)) (sym c.coord_refusal.ensures) (tellable_refusal c.in-Err.error)

pub returns-in-Err-clause-undamaged : goal.returns-in-Err-clause-undamaged
returns-in-Err-clause-undamaged g c = ap (λ (row : Refusal). is_damage (reply.No row)) c.coord_refusal.ensures ∙ refusal_sound c.in-Err.error

pub returns-in-Ok-clause-named : goal.returns-in-Ok-clause-named
returns-in-Ok-clause-named g c =
    let went = c.in-Ok.ensures.goes in
    named_wider c.decide.new.self.names (RoseFor (g.D.Disk.faults c.decide.new.disk) (g.D.Disk.faults c.drive.new.disk) (g.D.Disk.part_faults c.decide.new.disk) (g.D.Disk.part_faults c.drive.new.disk)) c.args.self.now.names (RoseFor (g.D.Disk.faults c.args.disk.now) (g.D.Disk.faults c.drive.new.disk) (g.D.Disk.part_faults c.args.disk.now) (g.D.Disk.part_faults c.drive.new.disk)) went.names
    (λ p grew. rose_later p _ _ _ (g.D.Disk.part_faults c.args.disk.now) (g.D.Disk.part_faults c.decide.new.disk) (g.D.Disk.part_faults c.drive.new.disk) went.cause.later (went.cause.parts_later p) grew)
    (stuck_name c.drive.result.stuck) c.drive.ensures.named

pub returns-in-Err-clause-named : goal.returns-in-Err-clause-named
returns-in-Err-clause-named g c =
    named_for c.args.self.now.names (RoseFor (g.D.Disk.faults c.args.disk.now) (g.D.Disk.faults c.decide.new.disk) (g.D.Disk.part_faults c.args.disk.now) (g.D.Disk.part_faults c.decide.new.disk)) _ _ (ap (λ (row : Refusal). reply.No row) c.coord_refusal.ensures)
    (refusal_named c.args.self.now.names (RoseFor (g.D.Disk.faults c.args.disk.now) (g.D.Disk.faults c.decide.new.disk) (g.D.Disk.part_faults c.args.disk.now) (g.D.Disk.part_faults c.decide.new.disk)) c.in-Err.error (λ e. c.in-Err.ensures.rose (ap Err e)))

pub decide-requires-clause-whole : goal.decide-requires-clause-whole
decide-requires-clause-whole g c = c.requires.whole.coord

pub drive-requires-clause-whole : goal.drive-requires-clause-whole
drive-requires-clause-whole g c = ⊎_elim (λ stays. stays c.requires.whole) (λ e. absurd (never e)) c.in-Ok.ensures.goes.whole
  where
    never : {s : Status} → ◌≡◌ {A = Result Status CoordError} (Ok s) (Err coord_error.Fault) → ⊥
    never e = cc
