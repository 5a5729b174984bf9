use Rattle.std.proofs.Common.{subst}
use Rattle.txn_base.specs.Outside.{PutsAll}
use Rattle.txn_wire.specs.Replies.{text_of}
use Rattle.txn_run.proofs.RebuiltParts.{some_unrebuilt}
use Rattle.txn_run.proofs.Telling.{told_line, told_front, told_fault, puts_grow, ends_with_fault, not_whole}
use Rattle.txn_run.proofs.Serving.{serves_as, tells_none}
use Rattle.txn_run.proofs.lines.answer_line.Goals as goal

pub returns-then-is_whole-clause-ok : goal.returns-then-is_whole-clause-ok
returns-then-is_whole-clause-ok g c ok told tied piece stands =
    let put = c.in-Ok.ensures.bytes in
    told_line _ _ _ c.in-Some.reply put.0 _ _ _ (c.in-Some.ensures.some told tied piece stands) put.1 put.2

pub returns-in-Ok-clause-disk : goal.returns-in-Ok-clause-disk
returns-in-Ok-clause-disk g c stopped told tied piece stands =
    let put = c.in-Ok.ensures.bytes in
    told_fault _ _ _ c.in-Some.reply put.0 _ _ _ (c.in-Some.ensures.some told tied piece stands) put.1 (not_whole _ _ _ c.if-is_whole.false c.is_whole.ensures.whole c.in-Some.ensures.whole) (some_unrebuilt _ _ c.if-is_whole.false c.is_whole.ensures.whole) put.2

pub returns-in-Some-clause-sink : goal.returns-in-Some-clause-sink
returns-in-Some-clause-sink g c stopped told tied piece stands =
    let put = c.put_reply.ensures.bytes in
    let front = subst (λ r. PutsAll (g.O.Sink.held c.args.sink.now) (g.O.Sink.held c.put_reply.new.sink) r (text_of put.0)) c.in-Err.is put.2 in
    told_front _ _ _ c.in-Some.reply put.0 _ _ _ front.0 (c.in-Some.ensures.some told tied piece stands) put.1 front.2

pub returns-then-is_whole-clause-tells : goal.returns-then-is_whole-clause-tells
returns-then-is_whole-clause-tells g c =
    let put = c.put_reply.ensures in
    record { grown = puts_grow _ _ _ _ put.bytes.2; beside = put.beside; later = put.cause.later; failed = λ is. cc; stopped = λ is. cc }

pub returns-in-Ok-clause-tells : goal.returns-in-Ok-clause-tells
returns-in-Ok-clause-tells g c =
    let put = c.put_reply.ensures in
    let texts = c.in-Ok.ensures.bytes in
    record {
      grown = puts_grow _ _ _ _ put.bytes.2;
      beside = put.beside;
      later = put.cause.later;
      failed = λ is. cc;
      stopped = λ is. ends_with_fault c.in-Some.reply texts.0 _ _ texts.1 (not_whole _ _ _ c.if-is_whole.false c.is_whole.ensures.whole c.in-Some.ensures.whole) texts.2;
    }

pub returns-in-Some-clause-tells : goal.returns-in-Some-clause-tells
returns-in-Some-clause-tells g c =
    let put = c.put_reply.ensures in
    record { grown = puts_grow _ _ _ _ put.bytes.2; beside = put.beside; later = put.cause.later; failed = λ is. c.in-Err.ensures.cause.failed; stopped = λ is. cc }

pub returns-clause-tells : goal.returns-clause-tells
returns-clause-tells g c = tells_none g.O.Sink _ c.args.sink.now (λ is. cc) (λ is. cc)

pub returns-then-is_whole-clause-serves : goal.returns-then-is_whole-clause-serves
returns-then-is_whole-clause-serves g c = serves_as g.D.Disk (λ is. cc) c.reply.ensures.serves

pub returns-in-Ok-clause-serves : goal.returns-in-Ok-clause-serves
returns-in-Ok-clause-serves g c = serves_as g.D.Disk (λ is. not_whole _ _ _ c.if-is_whole.false c.is_whole.ensures.whole c.in-Some.ensures.whole) c.in-Some.ensures.serves

pub returns-in-Some-clause-serves : goal.returns-in-Some-clause-serves
returns-in-Some-clause-serves g c = serves_as g.D.Disk (λ is. cc) c.reply.ensures.serves

pub returns-clause-serves : goal.returns-clause-serves
returns-clause-serves g c = serves_as g.D.Disk (λ is. cc) c.reply.ensures.serves
