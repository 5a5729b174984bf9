-- What a line is for this program.
use Rattle.std.specs.Prelude.{ℕ, Bool, true, false, if◌then◌else◌, List, map, Option, Some, None}
use Rattle.txn_base.specs.declared.limits.Limits.{Limits}
use Rattle.txn_base.specs.declared.request.Request.{Request}
use Rattle.txn_base.specs.declared.request.Request.TheVariants as request
use Rattle.txn_model.specs.Replies.{LineKind, line_kind_of}
use Rattle.txn_wire.specs.Lines.{request_of}

-- The forms that are answered so far. Every other one is a bad line.
abbrev pub is_answered : Request → Bool
is_answered (request.New timeout) = true
is_answered (request.Add x part) = true
is_answered (request.Publish topic who bodies) = true
is_answered (request.Commit x) = true
is_answered (request.Abort x) = true
is_answered (request.Status x) = true
is_answered (request.Read topic first max) = true
is_answered _ = false

abbrev pub if_answered : Option Request → Option Request
if_answered None = None
if_answered (Some r) = if is_answered r then Some r else None

-- The request of a line, where it is of a form that is answered.
abbrev pub asked_of : List ℕ → Option Request
asked_of line = if_answered (request_of line)

abbrev pub line_kind : Limits → List ℕ → LineKind
line_kind limits line = line_kind_of asked_of limits line

abbrev pub line_kinds : Limits → List (List ℕ) → List LineKind
line_kinds limits lines = map (line_kind limits) lines
