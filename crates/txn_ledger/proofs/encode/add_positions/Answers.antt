use Rattle.std.proofs.Common.{ℕ, ◌+◌, List, [], ◌∷◌, ◌++◌, drop, sym, ap, ◌∙◌, subst, arith, append_assoc}
use Rattle.std.specs.Prelude.{All}
use Rattle.std.proofs.lemmas.List.Elements.{All-head, All-tail}
use Rattle.txn_base.specs.Bytes.{contents_of}
use Rattle.txn_base.specs.Frames.{Batch, IsRecord}
use Rattle.txn_ledger.specs.declared.position.Position.{Position}
use Rattle.txn_ledger.specs.Positions.{positions_of}
use Rattle.txn_ledger.proofs.Bodies.{item_next, body_next}
use Rattle.txn_ledger.proofs.encode.add_positions.Goals as goal

pub overflow_cast-len : goal.overflow_cast-len
overflow_cast-len c =
    let i : ℕ = c.loop-item.item-index in
    let next = item_next c.args.batch.now i c.item-item.result c.loop-item-test.true c.item-item.is in
    let is_record = All-head IsRecord c.item-item.result.bytes (contents_of (drop (i + 1) c.args.batch.now)) (subst (λ (b : Batch). All IsRecord b) next c.loop-item.invariant.each) in
    omega (arith, is_record.no_longer, c.len-len.ensures)

pub loop-item-preserved : goal.loop-item-preserved
loop-item-preserved c =
    let i : ℕ = c.loop-item.item-index in
    let rest : Batch = contents_of (drop (i + 1) c.args.batch.now) in
    let next = item_next c.args.batch.now i c.item-item.result c.loop-item-test.true c.item-item.is in
    let long = body_next c.args.batch.now i c.item-item.result c.loop-item-test.true c.item-item.is in
    let old : List Position = c.loop-item.positions.items in
    let at : ℕ = c.loop-item.at in
    let len : ℕ = c.len-len.result in
    let position : Position = record { offset = at + 2; len = len } in
    record {
      so_far = ap (λ (l : List Position). l ++ positions_of (at + (len + 2)) rest) c.put_position.ensures.items
          ∙ append_assoc old (position ∷ []) (positions_of (at + (len + 2)) rest)
          ∙ ap (λ (n : ℕ). old ++ record { offset = at + 2; len = n } ∷ positions_of (at + (n + 2)) rest) c.len-len.ensures
          ∙ ap (λ (b : Batch). old ++ positions_of at b) (sym next) ∙ c.loop-item.invariant.so_far;
      bound = omega (arith, long, c.len-len.ensures, c.loop-item.invariant.bound);
      each = All-tail IsRecord c.item-item.result.bytes rest (subst (λ (b : Batch). All IsRecord b) next c.loop-item.invariant.each);
      count = omega (arith, c.loop-item.invariant.count, c.put_position.ensures.len);
      kept = omega (arith, c.loop-item.invariant.kept, c.put_position.ensures.kept);
    }
