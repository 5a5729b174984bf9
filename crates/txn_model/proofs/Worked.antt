-- Worked examples, computed.
use Rattle.std.specs.Prelude.{◌≡◌, ℕ, List, [], ◌∷◌, Some, None, codes, refl}
use Rattle.txn_base.specs.Limits.{standard}
use Rattle.txn_model.proofs.Words.{Commit, Abort, Committed, Aborted, Request, message_at, txn, ended, TableState, moved, plain_answer, plain_replies, fresh}
use Rattle.txn_base.specs.declared.request.Request.TheVariants as request
use Rattle.txn_base.specs.declared.reply.Reply.TheVariants as reply
use Rattle.txn_base.specs.declared.reply.Refusal.TheVariants as no

abbrev pub orders : List ℕ
orders = codes "orders"

abbrev a : List ℕ
a = codes "a"

abbrev b : List ℕ
b = codes "b"

abbrev c : List ℕ
c = codes "c"

abbrev d : List ℕ
d = codes "d"

abbrev pub billing : List ℕ
billing = codes "orders/billing"

abbrev pub at_0 : List Request → List (ℕ × Request)
at_0 [] = []
at_0 (r ∷ rs) = (0, r) ∷ at_0 rs

abbrev pub after : TableState → List Request → TableState
after t [] = t
after t (r ∷ rs) = after (plain_answer standard (moved r 0 t) r).1 rs

abbrev one_topic : TableState
one_topic = fresh (orders ∷ [])

abbrev read_all : Request
read_all = request.Read orders 0 10

-- A read barrier is lifted by a commit.
pub commit_lifts_the_read_barrier : plain_replies standard one_topic (at_0 (
    request.New 60000 ∷ request.Add (txn 0) orders ∷ request.Publish orders (Some (txn 0)) (b ∷ []) ∷ request.Publish orders None (c ∷ []) ∷ read_all
    ∷ request.Commit (txn 0) ∷ read_all ∷ []))
    ≡ reply.New (txn 0) ∷ reply.Add ∷ reply.Publish 0 1 ∷ reply.Publish 1 1 ∷ reply.Read 0 []
    ∷ reply.Ended Commit (ended Committed) ∷ reply.Read 3 (message_at 0 b ∷ message_at 1 c ∷ []) ∷ []
commit_lifts_the_read_barrier = refl

-- After an abort its message isn't shown.
pub abort_hides_its_message : plain_replies standard one_topic (at_0 (
    request.New 60000 ∷ request.Add (txn 0) orders ∷ request.Publish orders (Some (txn 0)) (b ∷ []) ∷ request.Publish orders None (c ∷ [])
    ∷ request.Abort (txn 0) ∷ read_all ∷ []))
    ≡ reply.New (txn 0) ∷ reply.Add ∷ reply.Publish 0 1 ∷ reply.Publish 1 1
    ∷ reply.Ended Abort (ended Aborted) ∷ reply.Read 3 (message_at 1 c ∷ []) ∷ []
abort_hides_its_message = refl

-- A commit without parts closes at once; again it adds nothing; the opposite end is refused, and so are publishes.
pub ends_and_refusals : plain_replies standard one_topic (at_0 (
    request.New 60000 ∷ request.Commit (txn 0) ∷ request.Commit (txn 0) ∷ request.Abort (txn 0) ∷ request.Publish orders (Some (txn 0)) (a ∷ [])
    ∷ request.New 60000 ∷ request.Publish orders (Some (txn 1)) (a ∷ []) ∷ request.Publish orders (Some (txn 9)) (a ∷ [])
    ∷ request.Publish orders (Some (record { most = 7; least = 0 })) (a ∷ []) ∷ []))
    ≡ reply.New (txn 0) ∷ reply.Ended Commit (ended Committed) ∷ reply.Ended Commit (ended Committed) ∷ reply.No (no.NotOpen Committed) ∷ reply.No (no.NotOpen Committed)
    ∷ reply.New (txn 1) ∷ reply.No (no.NotRegistered orders) ∷ reply.No no.NotFound ∷ reply.No (no.UnknownCoordinator 7) ∷ []
ends_and_refusals = refl

-- The earliest transaction without a marker bounds reads.
pub earliest_open_transaction_bounds_reads : plain_replies standard one_topic (at_0 (
    request.New 60000 ∷ request.New 60000 ∷ request.Add (txn 0) orders ∷ request.Add (txn 1) orders
    ∷ request.Publish orders (Some (txn 0)) (a ∷ []) ∷ request.Publish orders (Some (txn 1)) (b ∷ [])
    ∷ request.Commit (txn 1) ∷ read_all ∷ request.Commit (txn 0) ∷ read_all ∷ []))
    ≡ reply.New (txn 0) ∷ reply.New (txn 1) ∷ reply.Add ∷ reply.Add ∷ reply.Publish 0 1 ∷ reply.Publish 1 1
    ∷ reply.Ended Commit (ended Committed) ∷ reply.Read 0 [] ∷ reply.Ended Commit (ended Committed) ∷ reply.Read 4 (message_at 0 a ∷ message_at 1 b ∷ []) ∷ []
earliest_open_transaction_bounds_reads = refl
