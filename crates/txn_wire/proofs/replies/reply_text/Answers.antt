use Rattle.std.proofs.Common.{◌++◌, ◌∷◌, [], ap, ◌∙◌}
use Rattle.serde_json.specs.Written.{compact_text}
use Rattle.txn_wire.specs.Replies.{text_of}
use Rattle.txn_wire.proofs.Texts.{reply_whole}
use Rattle.txn_wire.proofs.replies.reply_text.Goals as goal

pub returns : goal.returns
unfolding text_of
returns c =
    let built = c.in_ok-value.ensures in
    let whole = rw (← built) at (reply_whole c.args.reply.now) in
    let text = c.in_ok-text.ensures.text whole in
    c.from_vec.ensures ∙ c.in_ok-push.ensures.items ∙ ap (λ t. t ++ 10 ∷ []) (text ∙ ap compact_text built)
