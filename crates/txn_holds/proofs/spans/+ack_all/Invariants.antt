use Rattle.std.proofs.Common.{length}
use Rattle.txn_holds.proofs.spans.+ack_all.Given as goal

abbrev pub decreases-ack_all : goal.decreases-ack_all
decreases-ack_all l = length l.places.now
