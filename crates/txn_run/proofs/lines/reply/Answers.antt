use Rattle.std.proofs.Common.{◌≡◌, ◌∙◌, sym, ap, false}
use Rattle.std.proofs.lemmas.Bool.{false≢true}
use Rattle.txn_model.specs.Cut.{is_blank}
use Rattle.txn_wire.specs.Lines.{request_of}
use Rattle.txn_run.proofs.Answering.{answers_from}
use Rattle.txn_run.proofs.LineKinds.{answer_told, asked_here}
use Rattle.txn_run.proofs.Serving.{serves_none, serves_once}
use Rattle.txn_run.proofs.lines.reply.Goals as goal

pub returns-then-is_answered-clause-some : goal.returns-then-is_answered-clause-some
returns-then-is_answered-clause-some g c told tied piece stands =
    let line = c.as_slice-line.ensures ∙ stands.kept c.if-pending.false in
    let busy : is_blank piece ≡ false = ap is_blank (sym line) ∙ sym c.is_blank.ensures ∙ c.if-is_blank.false in
    let later = c.answer.ensures.goes.cause.later in
    let parts_later = c.answer.ensures.goes.cause.parts_later in
    answer_told c.args.limits.now piece _ c.in-Ok.request c.answer.result _ (stands.short c.if-pending.false) busy (ap request_of (sym line) ∙ c.in-Ok.ensures.request) (sym c.is_answered.ensures ∙ c.if-is_answered.true)
    (answers_from c.args.limits.now _ c.args.engine.now c.answer.new.self _ _ _ _ (g.D.Disk.part_faults c.args.disk.now) (g.D.Disk.part_faults c.answer.new.disk) c.in-Ok.request c.moment_for-now.result c.answer.result c.requires.ready.limits_are c.moment_for-now.ensures later parts_later (c.answer.ensures.answers told tied))
    (λ long. answers_from c.args.limits.now _ c.args.engine.now c.answer.new.self _ _ _ _ (g.D.Disk.part_faults c.args.disk.now) (g.D.Disk.part_faults c.answer.new.disk) c.in-Ok.request c.moment_for-now.result _ c.requires.ready.limits_are c.moment_for-now.ensures later parts_later (c.answer.ensures.instead told tied long))

pub answer-requires-clause-asked : goal.answer-requires-clause-asked
answer-requires-clause-asked g c = asked_here c.in-Ok.request (sym c.is_answered.ensures ∙ c.if-is_answered.true) c.in-Ok.ensures.some

pub returns-then-is_answered-clause-serves : goal.returns-then-is_answered-clause-serves
returns-then-is_answered-clause-serves g c = serves_once g.D.Disk c.answer.ensures.limits c.answer.ensures.kept c.answer.ensures.goes

pub returns-then-pending-clause-serves : goal.returns-then-pending-clause-serves
returns-then-pending-clause-serves g c = serves_none g.D.Disk _ _ c.requires.ready.engine c.requires.ready.backed (λ is. false≢true is)

pub returns-then-is_blank-clause-serves : goal.returns-then-is_blank-clause-serves
returns-then-is_blank-clause-serves g c = serves_none g.D.Disk _ _ c.requires.ready.engine c.requires.ready.backed (λ is. false≢true is)

pub returns-in-Ok-clause-serves : goal.returns-in-Ok-clause-serves
returns-in-Ok-clause-serves g c = serves_none g.D.Disk _ _ c.requires.ready.engine c.requires.ready.backed (λ is. false≢true is)

pub returns-in-Err-BadLine-clause-serves : goal.returns-in-Err-BadLine-clause-serves
returns-in-Err-BadLine-clause-serves g c = serves_none g.D.Disk _ _ c.requires.ready.engine c.requires.ready.backed (λ is. false≢true is)
