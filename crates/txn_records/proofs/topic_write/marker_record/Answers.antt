use Rattle.std.proofs.Common.{ap, ◌∙◌, ◌≡◌, ◌++◌}
use Rattle.txn_base.specs.Decoded.{topic_entry_of}
use Rattle.txn_base.specs.Records.{topic_record}
use Rattle.txn_records.specs.Topics.{marker_entry}
use Rattle.txn_records.proofs.Topics.{marker_decoded}
use Rattle.txn_records.proofs.topic_write.marker_record.Goals as goal

pub returns-clause-entry : goal.returns-clause-entry
returns-clause-entry c =
    let bytes : c.put_marker.new.out.bytes ≡ topic_record (marker_entry c.args.txn c.args.decision) =
    c.put_marker.ensures.bytes ∙ ap (λ l. l ++ topic_record (marker_entry c.args.txn c.args.decision)) (c.in_ok-reserve.ensures.bytes ∙ c.new-out.ensures) in
    ap topic_entry_of bytes ∙ marker_decoded c.args.txn c.args.decision c.put_marker.ensures.fits
