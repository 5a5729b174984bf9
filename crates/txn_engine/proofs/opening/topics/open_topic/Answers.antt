use Rattle.std.proofs.Common.{ap, sym, ◌∙◌, Err}
use Rattle.txn_model.specs.Sound.{ledger_file}
use Rattle.txn_engine.proofs.OpeningFiles.{mended_keeps, others_then, not_damaged, part_none, part_then, part_at, part_but}
use Rattle.txn_engine.proofs.OpeningTopic.{opening_step, told_step, opening_is_topic, damaged_topic, unmended_file, unmended_fault}
use Rattle.txn_engine.proofs.opening.topics.open_topic.Goals as goal

pub loop-file-preserved : goal.loop-file-preserved
loop-file-preserved g c =
    let was = c.loop-file.invariant in
    let now = c.in_default-mend_step.ensures in
    record {
      part = opening_step c.args.limits.now c.args.part c.loop-file.topic c.mend_step.new.self c.in_default-mend_step.field-0 was.part now.settled now.ok;
      backed = now.backed;
      images = mended_keeps g.D.Disk (ledger_file c.args.part) c.loop-file.topic.content c.args.disk.now c.loop-file.disk c.mend_step.new.disk was.part.key was.part.settled_is was.backed was.images now.images;
      others = others_then c.loop-file.topic.content.key (ledger_file c.args.part) (g.D.Disk.seen c.args.disk.now) (g.D.Disk.seen c.loop-file.disk) (g.D.Disk.seen c.mend_step.new.disk) was.part.key was.others now.others;
      counts = part_none c.args.part _ _ (g.D.Disk.part_faults c.args.disk.now) (g.D.Disk.part_faults c.mend_step.new.disk) _
          (part_then c.args.part _ _ _ (g.D.Disk.part_faults c.args.disk.now) (g.D.Disk.part_faults c.loop-file.disk) (g.D.Disk.part_faults c.mend_step.new.disk) _ _ was.counts
          (part_at c.args.part c.loop-file.topic.content.key _ _ (g.D.Disk.part_faults c.loop-file.disk) (g.D.Disk.part_faults c.mend_step.new.disk) _ was.part.key now.cause));
      told = λ told. told_step c.args.limits.now c.args.part c.loop-file.topic c.mend_step.new.self c.in_default-mend_step.field-0 was.part now.settled now.ok (g.D.Disk.seen c.args.disk.now (ledger_file c.args.part)) (was.told told) (now.tied told (was.told told).tied);
    }

pub returns-in-Err-mend_step-clause-damaged : goal.returns-in-Err-mend_step-clause-damaged
returns-in-Err-mend_step-clause-damaged g c file entry e =
    let was = c.loop-file.invariant in
    let now = c.in-Err-mend_step.ensures in
    let is = unmended_file (ledger_file c.args.part) file entry c.in-Err-mend_step.error (ap Err (sym c.unmended.ensures) ∙ e) in (
      is.0,
      λ told. damaged_topic c.args.limits.now c.args.part c.loop-file.topic c.mend_step.new.self was.part now.settled (g.D.Disk.seen c.args.disk.now (ledger_file c.args.part)) (was.told told) entry
          (now.damaged entry (ap Err is.1)) (now.first_bad entry (ap Err is.1) told (was.told told).tied),
    )

pub returns-in-Err-mend_step-clause-images : goal.returns-in-Err-mend_step-clause-images
returns-in-Err-mend_step-clause-images g c =
    let was = c.loop-file.invariant in
    mended_keeps g.D.Disk (ledger_file c.args.part) c.loop-file.topic.content c.args.disk.now c.loop-file.disk c.mend_step.new.disk was.part.key was.part.settled_is was.backed was.images c.in-Err-mend_step.ensures.images

pub returns-in-Err-mend_step-clause-cause : goal.returns-in-Err-mend_step-clause-cause
returns-in-Err-mend_step-clause-cause g c =
    part_then c.args.part _ _ _ (g.D.Disk.part_faults c.args.disk.now) (g.D.Disk.part_faults c.loop-file.disk) (g.D.Disk.part_faults c.mend_step.new.disk) _ _ c.loop-file.invariant.counts
    (part_but c.args.part _ _ (g.D.Disk.part_faults c.loop-file.disk) (g.D.Disk.part_faults c.mend_step.new.disk) _ _ (λ fault. ap Err (unmended_fault (ledger_file c.args.part) c.in-Err-mend_step.error (ap Err (sym c.unmended.ensures) ∙ fault)))
    (part_at c.args.part c.loop-file.topic.content.key _ _ (g.D.Disk.part_faults c.loop-file.disk) (g.D.Disk.part_faults c.mend_step.new.disk) _ c.loop-file.invariant.part.key c.in-Err-mend_step.ensures.cause))

pub returns-clause-told : goal.returns-clause-told
returns-clause-told g c = λ told.
    opening_is_topic c.args.limits.now c.args.part c.loop-file.topic (g.D.Disk.seen c.args.disk.now (ledger_file c.args.part)) c.loop-file.invariant.part (sym c.is_whole.ensures.whole ∙ c.loop-file-test.false) c.is_whole.ensures.lawful (c.loop-file.invariant.told told)

pub returns-in-Err-mend_step-clause-uncut : goal.returns-in-Err-mend_step-clause-uncut
returns-in-Err-mend_step-clause-uncut g c = λ tells.
    not_damaged (g.D.Disk.seen c.args.disk.now (ledger_file c.args.part)) (g.D.Disk.seen c.mend_step.new.disk (ledger_file c.args.part)) c.loop-file.topic.content.batches (c.loop-file.invariant.told tells).stands

pub returns-clause-uncut : goal.returns-clause-uncut
returns-clause-uncut g c = λ tells.
    not_damaged (g.D.Disk.seen c.args.disk.now (ledger_file c.args.part)) (g.D.Disk.seen c.loop-file.disk (ledger_file c.args.part)) c.loop-file.topic.content.batches (c.loop-file.invariant.told tells).stands
