-- What a line is, by what was read of it.
use Rattle.std.proofs.Common.{◌≡◌, ℕ, List, Bool, true, false, cond, Some, None, IsUtf8, refl}
use Rattle.std.proofs.lemmas.Str.{IsUtf8-from_is_utf8, is_utf8-from_IsUtf8}
use Rattle.std.specs.Str.{is_utf8}
use Rattle.serde_json.specs.Data.{Data}
use Rattle.serde_json.specs.Read.{read}
use Rattle.txn_wire.specs.Values.{◌>>=◌}
use Rattle.txn_wire.specs.Lines.{request_of_data, request_of}

pub request_of-value : (line : List ℕ) (d : Data) → IsUtf8 line → read line ≡ Some d → request_of line ≡ request_of_data d
unfolding request_of
request_of-value line d text e = rw (is_utf8-from_IsUtf8 line text, e) refl

none_at : (b : Bool) (line : List ℕ) → is_utf8 line ≡ b → (IsUtf8 line → read line ≡ None) → cond b (read line >>= request_of_data) None ≡ None
none_at true line e h = rw (h (IsUtf8-from_is_utf8 line e)) refl
none_at false line e h = refl

pub request_of-none : (line : List ℕ) → (IsUtf8 line → read line ≡ None) → request_of line ≡ None
unfolding request_of
request_of-none line h = none_at (is_utf8 line) line refl h
