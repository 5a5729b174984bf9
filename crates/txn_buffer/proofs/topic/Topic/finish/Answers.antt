use Rattle.std.proofs.Common.{◌≡◌, None, ap, sym, ◌∙◌}
use Rattle.std.proofs.lemmas.Result.{on_ok_weaker}
use Rattle.txn_model.specs.Skeletons.{topic_skeletons}
use Rattle.txn_model.specs.Topic.{marker_of}
use Rattle.txn_buffer.specs.View.{TopicView}
use Rattle.txn_buffer.proofs.Staged.{none_of, marker_stands}
use Rattle.txn_buffer.proofs.topic.Topic.finish.Goals as goal

pub returns-clause-stands : goal.returns-clause-stands
returns-clause-stands g c =
    let none : marker_of (topic_skeletons c.args.self.now.front) c.args.txn ≡ None =
    ap (λ (v : TopicView). marker_of (topic_skeletons v.front) c.args.txn) (sym c.self.view_is) ∙ sym c.marker.ensures ∙ none_of c.marker.result (sym c.if-is_some.ensures) in
    on_ok_weaker c.add_marker.result (λ grown. ap (λ (v : TopicView). marker_of (topic_skeletons v.front) c.args.txn) grown ∙ marker_stands c.args.self.now.front c.args.txn c.args.decision none) c.add_marker.ensures.ok
