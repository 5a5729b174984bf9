-- Opening, computed.
use Rattle.std.specs.Prelude.{◌≡◌, [], ◌∷◌, codes, refl}
use Rattle.txn_base.specs.Limits.{standard}
use Rattle.txn_model.proofs.Words.{Committed, World, message_at, txn, plain_replies, opened}
use Rattle.txn_base.specs.declared.entry.CoordEntry.TheVariants as coord
use Rattle.txn_base.specs.declared.entry.TopicEntry.TheVariants as topic
use Rattle.txn_base.specs.declared.request.Request.TheVariants as request
use Rattle.txn_base.specs.declared.reply.Reply.TheVariants as reply
use Rattle.txn_base.specs.Bytes.{only_bytes}

abbrev left_committing : World
left_committing =
    record {
      names = codes "orders" ∷ [];
      coord = coord.New (txn 0) 60000 ∷ coord.AddPart (txn 0) 1 ∷ coord.Committing (txn 0) ∷ [];
      topics = (1, topic.Opened (txn 0) (only_bytes (codes "b")) ∷ []) ∷ [];
      subs = [];
    }

-- A transaction that was left Committing is driven at opening.
pub opening_redrives_committing : plain_replies standard (opened left_committing (codes "orders" ∷ [])) ((0, request.Status (txn 0)) ∷ (0, request.Read (codes "orders") 0 10) ∷ [])
    ≡ reply.Status Committed ∷ reply.Read 2 (message_at 0 (codes "b") ∷ []) ∷ []
opening_redrives_committing = refl
