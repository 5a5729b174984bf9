use Rattle.std.proofs.Common.{◌≡◌, ℕ, List, ◌++◌, ap, ◌∙◌}
use Rattle.txn_base.specs.Decoded.{topic_entry_of}
use Rattle.txn_base.specs.Records.{topic_record}
use Rattle.txn_records.specs.Topics.{marker_entry}
use Rattle.txn_records.proofs.Laws.{topic_again, marker_decoded}
use Rattle.txn_buffer.proofs.topic.finish.write_marker.Goals as goal

pub returns-clause-entry : goal.returns-clause-entry
returns-clause-entry c =
    let bytes : c.put_marker.new.out.bytes ≡ topic_record (marker_entry c.args.txn c.args.decision) =
    c.put_marker.ensures.bytes ∙ ap (λ (l : List ℕ). l ++ topic_record (marker_entry c.args.txn c.args.decision)) c.requires.empty in
    ap topic_entry_of bytes ∙ marker_decoded c.args.txn c.args.decision c.put_marker.ensures.fits

pub returns-clause-grammar : goal.returns-clause-grammar
returns-clause-grammar c =
    topic_again c.put_marker.new.out.bytes (marker_entry c.args.txn c.args.decision) (record {
      bytes_are = c.put_marker.ensures.bytes ∙ ap (λ (l : List ℕ). l ++ topic_record (marker_entry c.args.txn c.args.decision)) c.requires.empty;
      fits = c.put_marker.ensures.fits;
    })
