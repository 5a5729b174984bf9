use Rattle.std.proofs.Common.{◌≡◌, List, length, sym, ap, ◌∙◌, arith}
use Rattle.txn_base.specs.declared.txn.TxnId.{TxnId}
use Rattle.txn_base.specs.declared.txn.Decision.{Decision}
use Rattle.txn_base.specs.Records.{ends_record}
use Rattle.txn_base.specs.Snapshots.{ends_piece}
use Rattle.txn_records.proofs.Pieces.{some_left, piece_small, piece_fits, record_behind}
use Rattle.txn_records.proofs.snapshot.write_ends.Goals as goal

pub piece_of-requires-clause-few : goal.piece_of-requires-clause-few
piece_of-requires-clause-few c = omega (arith, c.requires.snapshot.few, ap length c.as_slice.ensures)

pub piece_of-requires-clause-some : goal.piece_of-requires-clause-some
piece_of-requires-clause-some c = omega (arith, some_left 63 c.args.snap.now.ends c.args.piece c.requires.piece, ap length c.as_slice.ensures)

pub ends_bytes-requires : goal.ends_bytes-requires
ends_bytes-requires c = omega (arith, ap length c.piece_of.ensures, piece_small c.as_slice.result.now c.args.piece)

pub returns-clause-written : goal.returns-clause-written
returns-clause-written c =
    let piece : c.piece_of.result.now ≡ ends_piece c.args.snap.now.ends c.args.piece = c.piece_of.ensures ∙ ap (λ (l : List (TxnId × Decision)). ends_piece l c.args.piece) c.as_slice.ensures in
    record {
      bytes_are = c.in_ok-bytes.ensures ∙ ap ends_record piece;
      count_fits = omega (arith, piece_small c.args.snap.now.ends c.args.piece);
      each = piece_fits c.args.snap.now.ends c.args.piece c.requires.snapshot.each;
    }

pub returns-clause-place : goal.returns-clause-place
returns-clause-place c =
    let piece : c.piece_of.result.now ≡ ends_piece c.args.snap.now.ends c.args.piece = c.piece_of.ensures ∙ ap (λ (l : List (TxnId × Decision)). ends_piece l c.args.piece) c.as_slice.ensures in
    c.in_ok-bytes.ensures ∙ ap ends_record piece ∙ sym (record_behind c.args.snap.now c.args.piece c.requires.piece)
