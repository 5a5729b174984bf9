use Rattle.std.proofs.Common.{◌∷◌, []}
use Rattle.txn_buffer.specs.View.{topic_batch}
use Rattle.txn_records.specs.Topics.{marker_entry}
use Rattle.txn_engine.proofs.Marks.{appends_nothing}
use Rattle.txn_engine.proofs.end.mark_topic.Goals as goal

pub returns-then-is_some-clause-images : goal.returns-then-is_some-clause-images
returns-then-is_some-clause-images g c =
    appends_nothing g.D.Disk c.args.topic.now.content (topic_batch (marker_entry c.args.txn c.args.decision ∷ [])) c.args.disk.now c.requires.settled c.requires.backed
