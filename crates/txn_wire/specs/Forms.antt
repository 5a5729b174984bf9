-- The request of each form: an object that has each key of the form, and no more keys than those.
use Rattle.std.specs.Prelude.{◌==◌, ◌&&◌, nat_lt, if◌then◌else◌, Option, Some, None, codes}
use Rattle.serde_json.specs.Data.{Data}
use Rattle.serde_json.specs.Find.{get}
use Rattle.txn_base.specs.declared.txn.TxnId.{TxnId}
use Rattle.txn_base.specs.declared.request.Request.{Request}
use Rattle.txn_base.specs.declared.request.Request.TheVariants as request
use Rattle.txn_wire.specs.Values.{◌>>=◌, text_at, number_at, keys, id_at, id_if, keys_beside, places_of, bodies_of}

-- `new`: beside `do`, `timeout`, a number.
unfoldable pub new_of : Data → Option Request
new_of d = do
  timeout ← number_at (codes "timeout") d
  if keys d == 2 then Some (request.New timeout) else None

-- `add`: `txn`, an id, and `part`, a text.
unfoldable pub add_of : Data → Option Request
add_of d = do
  txn ← id_at (codes "txn") d
  part ← text_at (codes "part") d
  if keys d == 3 then Some (request.Add txn part) else None

-- `publish`: `topic`, a text; `data`, a text or a list of at least one; and `txn`, an id, or no such key.
unfoldable pub publish_of : Data → Option Request
publish_of d = do
  topic ← text_at (codes "topic") d
  given ← get (codes "data") d
  bodies ← bodies_of given
  txn ← id_if (get (codes "txn") d)
  if keys d == keys_beside txn then Some (request.Publish topic txn bodies) else None

-- `ack`: `sub`, a text; `places`, a list of numbers; and `txn`, an id, or no such key.
unfoldable pub ack_of : Data → Option Request
ack_of d = do
  sub ← text_at (codes "sub") d
  given ← get (codes "places") d
  places ← places_of given
  txn ← id_if (get (codes "txn") d)
  if keys d == keys_beside txn then Some (request.Ack sub txn places) else None

-- `ack_upto`: `sub`, a text; `place`, a number; and `txn`, an id, or no such key.
unfoldable pub ack_upto_of : Data → Option Request
ack_upto_of d = do
  sub ← text_at (codes "sub") d
  place ← number_at (codes "place") d
  txn ← id_if (get (codes "txn") d)
  if keys d == keys_beside txn then Some (request.AckUpTo sub txn place) else None

-- `commit`, `abort`, `status`: `txn`, an id.
unfoldable pub only_txn_of : Data → Option TxnId
only_txn_of d = do
  txn ← id_at (codes "txn") d
  if keys d == 2 then Some txn else None

-- `read`: `topic`, a text; `from`, a number; and `max`, a number of at least 1.
unfoldable pub read_of : Data → Option Request
read_of d = do
  topic ← text_at (codes "topic") d
  first ← number_at (codes "from") d
  max ← number_at (codes "max") d
  if keys d == 4 && nat_lt 0 max then Some (request.Read topic first max) else None

-- `receive`: `sub`, a text, and `max`, a number of at least 1.
unfoldable pub receive_of : Data → Option Request
receive_of d = do
  sub ← text_at (codes "sub") d
  max ← number_at (codes "max") d
  if keys d == 3 && nat_lt 0 max then Some (request.Receive sub max) else None

-- `redeliver`: `sub`, a text.
unfoldable pub redeliver_of : Data → Option Request
redeliver_of d = do
  sub ← text_at (codes "sub") d
  if keys d == 2 then Some (request.Redeliver sub) else None

-- `tick`, `stop`: nothing.
unfoldable pub bare_of : Request → Data → Option Request
bare_of form d = if keys d == 1 then Some form else None
