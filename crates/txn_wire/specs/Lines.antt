-- The request that a line is.
use Rattle.std.specs.Prelude.{◌≡◌, ℕ, ◌≤◌, List, length, if◌then◌else◌, Option, Some, None, Result, Ok, Err, option_map, bytes_eq, codes}
use Rattle.std.specs.Str.{is_utf8}
use Rattle.serde_json.specs.Data.{Data}
use Rattle.serde_json.specs.Read.{read}
use Rattle.txn_base.specs.declared.request.Request.{Request}
use Rattle.txn_base.specs.declared.request.Request.TheVariants as request
use Rattle.txn_wire.specs.declared.error.WireError.{WireError}
use Rattle.txn_wire.specs.declared.error.WireError.TheVariants.{BadLine, NoMemory}
use Rattle.txn_wire.specs.Values.{◌>>=◌, text_at}
use Rattle.txn_wire.specs.Forms.{new_of, add_of, publish_of, ack_of, ack_upto_of, only_txn_of, read_of, receive_of, redeliver_of, bare_of}

-- By the name of the form, the request.
unfoldable pub form_of : List ℕ → Data → Option Request
form_of name d =
    if bytes_eq name (codes "new") then new_of d
    else (if bytes_eq name (codes "add") then add_of d
    else (if bytes_eq name (codes "publish") then publish_of d
    else (if bytes_eq name (codes "ack") then ack_of d
    else (if bytes_eq name (codes "ack_upto") then ack_upto_of d
    else (if bytes_eq name (codes "commit") then option_map request.Commit (only_txn_of d)
    else (if bytes_eq name (codes "abort") then option_map request.Abort (only_txn_of d)
    else (if bytes_eq name (codes "status") then option_map request.Status (only_txn_of d)
    else (if bytes_eq name (codes "read") then read_of d
    else (if bytes_eq name (codes "receive") then receive_of d
    else (if bytes_eq name (codes "redeliver") then redeliver_of d
    else (if bytes_eq name (codes "tick") then bare_of request.Tick d
    else (if bytes_eq name (codes "stop") then bare_of request.Stop d else None))))))))))))

-- The name of the form is the text at `do`.
unfoldable pub request_of_data : Data → Option Request
request_of_data d = text_at (codes "do") d >>= λ name. form_of name d

-- The request of a line: its bytes are UTF-8, and are one value that is a request.
unfoldable pub request_of : List ℕ → Option Request
request_of line = if is_utf8 line then read line >>= request_of_data else None

-- A publish has at least one text, and a read or a receive asks for at least one message.
abbrev pub AsksForSome : Request → Type 0
AsksForSome (request.Publish topic txn bodies) = 1 ≤ length bodies
AsksForSome (request.Read topic first max) = 1 ≤ max
AsksForSome (request.Receive sub max) = 1 ≤ max
AsksForSome _ = Unit {0}

-- What a function returned is what the definition gives: a value where there is one, `BadLine` where
-- there is none, unless memory ran out.
abbrev pub Lacks : {Y : Type 0} → WireError → Option Y → Type 0
Lacks BadLine o = o ≡ None
Lacks NoMemory o = Unit {0}

abbrev pub Gives : {X Y : Type 0} → (X → Y) → Result X WireError → Option Y → Type 0
Gives view (Ok x) o = o ≡ Some (view x)
Gives view (Err e) o = Lacks e o
