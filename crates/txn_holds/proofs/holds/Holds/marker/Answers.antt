use Rattle.std.proofs.Common.{ap, ◌∙◌}
use Rattle.txn_model.specs.Skeletons.{ack_skeletons}
use Rattle.txn_model.specs.Topic.{marker_of}
use Rattle.txn_holds.specs.Holds.{HoldsView}
use Rattle.txn_holds.proofs.holds.Holds.marker.Goals as goal

pub returns : goal.returns
returns c = c.copied.ensures ∙ c.get.ensures.value ∙ c.self.invariant.marked c.args.txn ∙ ap (λ (v : HoldsView). marker_of (ack_skeletons v.entries) c.args.txn) c.self.view_is
