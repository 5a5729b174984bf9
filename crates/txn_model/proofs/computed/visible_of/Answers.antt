use Rattle.std.proofs.Common.{◌++◌, rules, sym, ap, ◌∙◌}
use Rattle.txn_model.specs.Skeletons.{topic_skeletons}
use Rattle.txn_model.proofs.Visible.{visible_from, visible_fused}
use Rattle.txn_model.proofs.computed.visible_of.Goals as goal

pub loop-entry-init : goal.loop-entry-init
loop-entry-init c = (
  ap (λ ms. ms ++ visible_from (topic_skeletons c.args.list.now) 0 c.args.list.now) c.new-messages.ensures ∙ sym (visible_fused c.args.list.now),
  search rules,
  c.requires,
)
