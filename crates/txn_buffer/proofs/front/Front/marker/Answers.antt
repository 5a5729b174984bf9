use Rattle.std.proofs.Common.{ap, ◌∙◌}
use Rattle.txn_model.specs.Skeletons.{topic_skeletons}
use Rattle.txn_model.specs.Topic.{marker_of}
use Rattle.txn_buffer.specs.Front.{FrontView}
use Rattle.txn_buffer.proofs.front.Front.marker.Goals as goal

pub returns : goal.returns
returns c = c.copied.ensures ∙ c.get.ensures.value ∙ c.self.invariant.marked c.args.txn ∙ ap (λ (v : FrontView). marker_of (topic_skeletons v.entries) c.args.txn) c.self.view_is
