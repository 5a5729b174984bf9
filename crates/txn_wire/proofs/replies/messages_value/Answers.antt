use Rattle.std.proofs.Common.{◌≡◌, ◌+◌, ◌++◌, ◌∷◌, [], take, sym, ap, ◌∙◌}
use Rattle.std.proofs.lemmas.List.{take_more, take_all}
use Rattle.serde_json.specs.Data.{array}
use Rattle.serde_json.proofs.Views.{view-Array}
use Rattle.serde_json.specs.View.{items_view}
use Rattle.txn_wire.specs.Replies.{messages_data}
use Rattle.txn_wire.proofs.Texts.{messages_push}
use Rattle.txn_wire.proofs.replies.messages_value.Goals as goal

pub loop-message-preserved : goal.loop-message-preserved
loop-message-preserved c =
    let ms = c.args.messages.now in
    let i = c.loop-message.message-index in
    let m = c.message-item.result in
    let more : take (i + 1) ms ≡ take i ms ++ m ∷ [] = take_more ms i m c.loop-message-test.true ∙ ap (λ x. take i ms ++ x ∷ []) (sym c.message-item.is) in
    ap items_view c.in_ok-push.ensures.items ∙ messages_push c.loop-message.items.items c.in_ok-message_value.field-0 (take i ms) m c.loop-message.invariant c.in_ok-message_value.ensures ∙ ap messages_data (sym more)

pub returns : goal.returns
returns c =
    let all : take c.loop-message.message-index c.args.messages.now ≡ c.args.messages.now = take_all _ _ c.loop-message-test.false in
    view-Array c.loop-message.items ∙ ap array (c.loop-message.invariant ∙ ap messages_data all)
