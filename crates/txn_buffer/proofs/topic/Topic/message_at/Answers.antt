use Rattle.std.proofs.Common.{◌≡◌, ◌≤◌, length, get_or, ap, sym, ◌∙◌, subst}
use Rattle.txn_base.specs.Frames.{records}
use Rattle.txn_base.specs.Decoded.{topic_entry_of}
use Rattle.txn_buffer.specs.Record.{IsInGrammar}
use Rattle.txn_buffer.specs.View.{TopicView, topic_total}
use Rattle.txn_buffer.proofs.Tied.{tied_record}
use Rattle.txn_buffer.proofs.topic.Topic.message_at.Goals as goal

pub get-requires-clause-reads : goal.get-requires-clause-reads
get-requires-clause-reads g c = λ told.
    subst (λ (v : TopicView). g.R.RecordLog.begins v.content.key (g.D.Disk.seen c.args.disk.now) v.content.batches) (sym c.self.view_is) (c.requires.reads told)

pub returns-in-Ok-clause-undamaged : goal.returns-in-Ok-clause-undamaged
returns-in-Ok-clause-undamaged g c = λ at tells tied refused.
    let within : length c.args.self.now.front ≤ topic_total c.args.self.now = subst (λ (v : TopicView). length v.front ≤ topic_total v) c.self.view_is c.self.invariant.within in
    let read : c.in-Ok.bytes.bytes ≡ get_or (records (g.R.RecordLog.content c.self.inside.log).batches) c.args.place c.in-Ok.bytes.bytes = c.in-Ok.ensures.record tells in
    let is_in : IsInGrammar c.in-Ok.bytes.bytes = tied_record c.args.self.now c.args.place c.in-Ok.bytes.bytes tied c.requires.place within (read ∙ ap (λ (v : TopicView). get_or (records v.content.batches) c.args.place c.in-Ok.bytes.bytes) c.self.view_is) in
    (c.shown_of.ensures.damaged at refused).1 (topic_entry_of c.in-Ok.bytes.bytes) is_in
