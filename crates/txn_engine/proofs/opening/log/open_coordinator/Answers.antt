use Rattle.std.proofs.Common.{ℕ, ap, sym, ◌∙◌, subst, Err}
use Rattle.txn_model.specs.Coord.{CoordLawful}
use Rattle.txn_model.specs.Skeletons.{coord_skeletons}
use Rattle.txn_coordinator.specs.Mending.{AreReplayed, IsFirstBadRecord}
use Rattle.txn_model.specs.Sound.{ledger_file}
use Rattle.txn_engine.proofs.OpeningFiles.{mended_keeps, others_then, not_damaged, part_none, part_then, part_at, part_but}
use Rattle.txn_engine.proofs.OpeningLog.{opening_step, told_step, opening_is_log, same_log_content, fewer, damaged_log, not_fault}
use Rattle.txn_engine.proofs.OpeningTopic.{unmended_file, unmended_fault}
use Rattle.txn_engine.proofs.opening.log.open_coordinator.Goals as goal

pub loop-file-preserved : goal.loop-file-preserved
loop-file-preserved g c =
    let was = c.loop-file.invariant in
    let now = c.in_default-mend_step.ensures in
    let lawful = subst (λ (k : ℕ). CoordLawful k (coord_skeletons c.mend_step.new.self.front)) was.log.named_is now.lawful in
    record {
      log = opening_step c.args.limits.now c.args.named c.loop-file.coordinator c.mend_step.new.self was.log (sym c.is_whole.ensures.whole ∙ c.loop-file-test.true) now.ok lawful;
      backed = now.backed;
      images = mended_keeps g.D.Disk (ledger_file 0) c.loop-file.coordinator.content c.args.disk.now c.loop-file.disk c.mend_step.new.disk was.log.key was.log.settled_is was.backed was.images now.images;
      others = others_then c.loop-file.coordinator.content.key (ledger_file 0) (g.D.Disk.seen c.args.disk.now) (g.D.Disk.seen c.loop-file.disk) (g.D.Disk.seen c.mend_step.new.disk) was.log.key was.others now.others;
      counts = part_none 0 _ _ (g.D.Disk.part_faults c.args.disk.now) (g.D.Disk.part_faults c.mend_step.new.disk) _
          (part_then 0 _ _ _ (g.D.Disk.part_faults c.args.disk.now) (g.D.Disk.part_faults c.loop-file.disk) (g.D.Disk.part_faults c.mend_step.new.disk) _ _ was.counts
          (part_at 0 c.loop-file.coordinator.content.key _ _ (g.D.Disk.part_faults c.loop-file.disk) (g.D.Disk.part_faults c.mend_step.new.disk) _ was.log.key now.cause));
      told = λ told. told_step c.args.limits.now c.args.named c.loop-file.coordinator c.mend_step.new.self was.log (sym c.is_whole.ensures.whole ∙ c.loop-file-test.true) now.ok lawful (g.D.Disk.seen c.args.disk.now (ledger_file 0)) (was.told told) (subst (λ (k : ℕ). AreReplayed k c.loop-file.coordinator.content c.loop-file.coordinator.front → AreReplayed k c.mend_step.new.self.content c.mend_step.new.self.front) was.log.named_is (now.replayed told) (was.told told).replayed);
    }

pub returns-in-Err-mend_step-clause-damaged : goal.returns-in-Err-mend_step-clause-damaged
returns-in-Err-mend_step-clause-damaged g c file entry e =
    let was = c.loop-file.invariant in
    let now = c.in-Err-mend_step.ensures in
    let is = unmended_file (ledger_file 0) file entry c.in-Err-mend_step.error (ap Err (sym c.unmended.ensures) ∙ e) in (
      is.0,
      λ told. damaged_log c.args.named c.loop-file.coordinator c.mend_step.new.self (g.D.Disk.seen c.args.disk.now (ledger_file 0))
          (same_log_content c.loop-file.coordinator.content c.mend_step.new.self.content was.log.settled_is (now.settled (λ fault. not_fault entry (sym is.1 ∙ fault)))) (was.told told) entry (subst (λ (k : ℕ). AreReplayed k c.loop-file.coordinator.content c.loop-file.coordinator.front → IsFirstBadRecord k c.mend_step.new.self.content entry) was.log.named_is (λ replayed. now.bad told replayed entry (ap Err is.1)) (was.told told).replayed),
    )

pub returns-in-Err-mend_step-clause-images : goal.returns-in-Err-mend_step-clause-images
returns-in-Err-mend_step-clause-images g c =
    let was = c.loop-file.invariant in
    mended_keeps g.D.Disk (ledger_file 0) c.loop-file.coordinator.content c.args.disk.now c.loop-file.disk c.mend_step.new.disk was.log.key was.log.settled_is was.backed was.images c.in-Err-mend_step.ensures.images

pub returns-in-Err-mend_step-clause-cause : goal.returns-in-Err-mend_step-clause-cause
returns-in-Err-mend_step-clause-cause g c =
    part_then 0 _ _ _ (g.D.Disk.part_faults c.args.disk.now) (g.D.Disk.part_faults c.loop-file.disk) (g.D.Disk.part_faults c.mend_step.new.disk) _ _ c.loop-file.invariant.counts
    (part_but 0 _ _ (g.D.Disk.part_faults c.loop-file.disk) (g.D.Disk.part_faults c.mend_step.new.disk) _ _ (λ fault. ap Err (unmended_fault (ledger_file 0) c.in-Err-mend_step.error (ap Err (sym c.unmended.ensures) ∙ fault)))
    (part_at 0 c.loop-file.coordinator.content.key _ _ (g.D.Disk.part_faults c.loop-file.disk) (g.D.Disk.part_faults c.mend_step.new.disk) _ c.loop-file.invariant.log.key c.in-Err-mend_step.ensures.cause))

pub returns-clause-told : goal.returns-clause-told
returns-clause-told g c = λ told.
    opening_is_log c.args.limits.now c.args.named c.loop-file.coordinator (g.D.Disk.seen c.args.disk.now (ledger_file 0)) c.loop-file.invariant.log (sym c.is_whole.ensures.whole ∙ c.loop-file-test.false) (c.loop-file.invariant.told told)

pub loop-file-smaller : goal.loop-file-smaller
loop-file-smaller g c =
    fewer c.args.limits.now c.args.named c.loop-file.coordinator c.mend_step.new.self c.loop-file.invariant.log (sym c.is_whole.ensures.whole ∙ c.loop-file-test.true) c.in_default-mend_step.ensures.ok c.requires.limits.step.least

pub returns-in-Err-mend_step-clause-uncut : goal.returns-in-Err-mend_step-clause-uncut
returns-in-Err-mend_step-clause-uncut g c = λ tells.
    not_damaged (g.D.Disk.seen c.args.disk.now (ledger_file 0)) (g.D.Disk.seen c.mend_step.new.disk (ledger_file 0)) c.loop-file.coordinator.content.batches (c.loop-file.invariant.told tells).stands

pub returns-clause-uncut : goal.returns-clause-uncut
returns-clause-uncut g c = λ tells.
    not_damaged (g.D.Disk.seen c.args.disk.now (ledger_file 0)) (g.D.Disk.seen c.loop-file.disk (ledger_file 0)) c.loop-file.coordinator.content.batches (c.loop-file.invariant.told tells).stands
