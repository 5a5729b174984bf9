use Rattle.std.proofs.Common.{◌≡◌, take, None}
use Rattle.txn_model.specs.Skeletons.{topic_skeletons}
use Rattle.txn_model.specs.Topic.{marker_of}
use Rattle.txn_buffer.proofs.replay.has_marker.Given as goal

abbrev pub invariant-loop-found : goal.invariant-loop-found
invariant-loop-found l = marker_of (topic_skeletons (take l.found-index l.staged)) l.txn ≡ None
