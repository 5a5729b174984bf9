use Rattle.std.proofs.Common.{◌≡◌, ◌<◌, List, length, get_or, ap, ◌∙◌, arith}
use Rattle.std.specs.Prelude.{Err}
use Rattle.txn_base.specs.Bytes.{contents_of}
use Rattle.txn_base.specs.Frames.{Record}
use Rattle.txn_base.specs.Records.{ends_record}
use Rattle.txn_base.specs.Snapshots.{ends_piece}
use Rattle.txn_records.specs.declared.error.RecordError.TheVariants as why
use Rattle.txn_records.proofs.Pieces.{pieces_more, pieces_all, piece_due, ends_record_at, item_at, contents_length}
use Rattle.txn_records.proofs.snapshot.read_ends.Goals as goal

pub returns-in-Err-clause-bad : goal.returns-in-Err-clause-bad
returns-in-Err-clause-bad c same ends fit counted are =
    let below : c.loop-bytes.bytes-index < length (contents_of c.args.records.now) = omega (arith, contents_length c.args.records.now, c.loop-bytes-test.true) in
    let due = piece_due (contents_of c.args.records.now) c.loop-bytes.bytes-index c.args.total c.loop-bytes.found.items ends below c.loop-bytes.invariant fit counted are in
    let at : c.as_slice.result.now ≡ get_or (contents_of c.args.records.now) c.loop-bytes.bytes-index c.as_slice.result.now =
    item_at c.args.records.now c.loop-bytes.bytes-index c.bytes-item.result c.as_slice.result.now c.loop-bytes-test.true c.bytes-item.is c.as_slice.ensures in
    let piece : c.as_slice.result.now ≡ ends_record (ends_piece ends c.loop-bytes.bytes-index) =
    at ∙ ap (λ (l : List Record). get_or l c.loop-bytes.bytes-index c.as_slice.result.now) are ∙ ends_record_at 63 ends c.loop-bytes.bytes-index c.as_slice.result.now (omega (arith, below, ap length are)) in
    let bad : c.in-Err.why ≡ why.Bad = cc in
    c.in-Err.ensures.bad (ap Err bad) (ends_piece ends c.loop-bytes.bytes-index) (omega (arith, due.2, c.min-count.ensures, c.len.ensures, c.loop-bytes.found.ok.0)) piece

pub loop-bytes-preserved : goal.loop-bytes-preserved
loop-bytes-preserved c =
    pieces_more (contents_of c.args.records.now) c.loop-bytes.bytes-index c.args.total c.min-count.result c.loop-bytes.found.items c.push_record.new.found.items c.as_slice.result.now
    (omega (arith, contents_length c.args.records.now, c.loop-bytes-test.true))
    (omega (arith, contents_length c.args.records.now, c.requires.few))
    (item_at c.args.records.now c.loop-bytes.bytes-index c.bytes-item.result c.as_slice.result.now c.loop-bytes-test.true c.bytes-item.is c.as_slice.ensures)
    c.loop-bytes.invariant (omega (arith, c.min-count.ensures, c.len.ensures, c.loop-bytes.found.ok.0)) c.if-count-lt1.false c.in-Ok.ensures.ok

pub returns-then-len-total-clause-bad : goal.returns-then-len-total-clause-bad
returns-then-len-total-clause-bad c same ends fit counted are =
    let whole : c.loop-bytes.bytes-index ≡ length (contents_of c.args.records.now) = omega (arith, contents_length c.args.records.now, c.loop-bytes-test.false, c.loop-bytes.auto.bytes-index-end) in
    let one = pieces_all (contents_of c.args.records.now) c.loop-bytes.bytes-index c.args.total c.loop-bytes.found.items ends whole c.requires.total c.loop-bytes.invariant fit counted are in
    omega (arith, ap length one, counted, c.len-2.ensures, c.loop-bytes.found.ok.0, c.if-len-total.true)
