use Rattle.std.proofs.Common.{◌≡◌, List, [], ◌∷◌, ◌++◌, length, map, ap, sym, ◌∙◌, subst, rules}
use Rattle.std.specs.Prelude.{All}
use Rattle.txn_base.specs.Bytes.{contents_of}
use Rattle.txn_base.specs.Content.{LedgerContent, landed}
use Rattle.txn_base.specs.Decoded.{topic_entry_of}
use Rattle.txn_base.specs.Room.{Roomy}
use Rattle.txn_buffer.specs.Adding.{AreBodies, IsMessageOf}
use Rattle.txn_buffer.specs.View.{TopicView, topic_total}
use Rattle.txn_buffer.proofs.Adding.{are_published, are_messages}
use Rattle.txn_buffer.proofs.Tied.{tied_more}
use Rattle.txn_buffer.proofs.topic.Topic.add_messages.Goals as goal

pub prepare-requires-clause-bodies : goal.prepare-requires-clause-bodies
prepare-requires-clause-bodies g c =
    are_published _ _ c.self.invariant.in_range (subst (λ (v : TopicView). AreBodies v.limits (contents_of c.args.bodies.now)) (sym c.self.view_is) c.requires.bodies)

pub add_messages-requires-clause-each : goal.add_messages-requires-clause-each
add_messages-requires-clause-each g c =
    subst (λ (l : List Roomy). All (IsMessageOf c.args.txn) (contents_of l)) (sym c.deref-2.ensures.value)
    (are_messages c.args.txn (contents_of c.in_ok-batch.batch.items) (contents_of c.args.bodies.now) c.in_ok-batch.ensures.entries c.in_ok-batch.ensures.grammar)

pub returns-clause-tied : goal.returns-clause-tied
returns-clause-tied g c =
    let batch = contents_of c.in_ok-batch.batch.items in
    let was : length c.args.self.now.front ≡ topic_total c.args.self.now =
    ap (λ (v : TopicView). length v.front) (sym c.self.view_is) ∙ c.self.invariant.count (ap (λ (v : TopicView). v.whole) c.self.view_is ∙ c.requires.whole) ∙ ap topic_total c.self.view_is in
    let front : c.add_messages.new.self.entries ≡ c.args.self.now.front ++ map topic_entry_of batch =
    c.add_messages.ensures.entries ∙ ap (λ l. l ++ map topic_entry_of (contents_of c.deref-2.result.now)) (c.prepare.ensures.front ∙ ap (λ (v : TopicView). v.front) c.self.view_is)
    ∙ ap (λ (l : List Roomy). c.args.self.now.front ++ map topic_entry_of (contents_of l)) c.deref-2.ensures.value in
    let ok : g.R.RecordLog.content c.append.new.self ≡ landed (g.R.RecordLog.content c.prepare.new.log) (contents_of c.deref.result.now) = search rules in
    let content : g.R.RecordLog.content c.prepare.new.log ≡ c.args.self.now.content = c.prepare.ensures.content ∙ ap (λ (v : TopicView). v.content) c.self.view_is in
    tied_more c.args.self.now _ batch was front
    (ap (λ (l : LedgerContent). l.batches) (ok ∙ ap (λ (l : List Roomy). landed (g.R.RecordLog.content c.prepare.new.log) (contents_of l)) c.deref.ensures.value) ∙ ap (λ (l : LedgerContent). l.batches ++ batch ∷ []) content)
    c.in_ok-batch.ensures.grammar
