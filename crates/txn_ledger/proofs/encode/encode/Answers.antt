use Rattle.std.proofs.Common.{ℕ, ◌+◌, List, ◌++◌, length, drop, sym, ap, ◌∙◌, subst, arith, length-append, append_assoc}
use Rattle.std.specs.Prelude.{All}
use Rattle.std.proofs.lemmas.List.Elements.{All-head, All-tail}
use Rattle.txn_base.specs.Bytes.{contents_of}
use Rattle.txn_base.specs.Frames.{Record, Batch, IsRecord, record_bytes, body_of}
use Rattle.txn_ledger.proofs.Bodies.{item_next, body_next}
use Rattle.txn_ledger.proofs.encode.encode.Goals as goal

pub put_record-requires-clause-small : goal.put_record-requires-clause-small
put_record-requires-clause-small c =
    let i : ℕ = c.loop-item.item-index in
    let next = item_next c.args.batch.now i c.item-item.result c.loop-item-test.true c.item-item.is in
    let is_record = All-head IsRecord c.item-item.result.bytes (contents_of (drop (i + 1) c.args.batch.now)) (subst (λ (b : Batch). All IsRecord b) next c.loop-item.invariant.each) in
    omega (arith, is_record.no_longer, ap length c.as_slice.ensures)

pub put_record-requires-clause-room : goal.put_record-requires-clause-room
put_record-requires-clause-room c =
    let i : ℕ = c.loop-item.item-index in
    let next = body_next c.args.batch.now i c.item-item.result c.loop-item-test.true c.item-item.is in
    omega (arith, next, ap length c.as_slice.ensures, ap length c.loop-item.invariant.so_far, length-append c.loop-item.out.bytes (body_of (contents_of (drop i c.args.batch.now))), c.loop-item.invariant.kept, c.put.ensures.kept, c.clear.ensures.kept, c.requires.room)

pub loop-item-preserved : goal.loop-item-preserved
loop-item-preserved c =
    let i : ℕ = c.loop-item.item-index in
    let rest : Batch = contents_of (drop (i + 1) c.args.batch.now) in
    let next = item_next c.args.batch.now i c.item-item.result c.loop-item-test.true c.item-item.is in
    record {
      so_far = ap (λ (l : List ℕ). l ++ body_of rest) (c.put_record.ensures.bytes ∙ ap (λ (x : Record). c.loop-item.out.bytes ++ record_bytes x) c.as_slice.ensures)
          ∙ append_assoc c.loop-item.out.bytes (record_bytes c.item-item.result.bytes) (body_of rest)
          ∙ ap (λ (b : Batch). c.loop-item.out.bytes ++ body_of b) (sym next) ∙ c.loop-item.invariant.so_far;
      each = All-tail IsRecord c.item-item.result.bytes rest (subst (λ (b : Batch). All IsRecord b) next c.loop-item.invariant.each);
      kept = omega (arith, c.loop-item.invariant.kept, c.put_record.ensures.kept);
    }
