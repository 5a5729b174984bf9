use Rattle.txn_records.proofs.Pieces.{piece_taken}
use Rattle.txn_records.proofs.snapshot.piece_of.Goals as goal

pub returns : goal.returns
returns c = piece_taken c.args.ends.now c.split_at.result.1.now c.split_at-2.result.0.now c.args.piece c.min-count.result c.split_at.ensures.back c.min-count.ensures c.split_at-2.ensures.front
