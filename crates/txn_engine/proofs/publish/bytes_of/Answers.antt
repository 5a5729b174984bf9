use Rattle.std.proofs.Common.{IsUtf8, All, subst, ◌∙◌}
use Rattle.std.proofs.lemmas.List.{take_all}
use Rattle.std.proofs.lemmas.List.Elements.{All-more}
use Rattle.txn_engine.proofs.Bodies.{copied_one}
use Rattle.txn_engine.proofs.publish.bytes_of.Goals as goal

pub loop-text-preserved : goal.loop-text-preserved
loop-text-preserved c = (
  copied_one c.loop-text.all.items c.push.new.self.items c.args.texts.now c.loop-text.text-index c.in_ok-from_slice.field-0 c.text-item.result c.loop-text.invariant.0 c.in_ok-push.ensures.items
      (c.in_ok-from_slice.ensures ∙ c.as_bytes.ensures.value ∙ c.as_str-body.ensures.value) c.text-item.is c.loop-text-test.true,
  All-more IsUtf8 c.args.texts.now c.loop-text.text-index c.text-item.result c.loop-text-test.true c.loop-text.invariant.1 (subst IsUtf8 c.text-item.is c.as_str-body.ensures.utf8),
)

pub returns-clause-texts : goal.returns-clause-texts
returns-clause-texts c = subst (All IsUtf8) (take_all c.loop-text.text-index c.args.texts.now c.loop-text-test.false) c.loop-text.invariant.1
