use Rattle.std.proofs.Common.{append_assoc}
use Rattle.json.specs.Print.{escape_byte}
use Rattle.txn_wire.proofs.short_refusals.put_unread.Goals as goal

pub returns-clause-bytes : goal.returns-clause-bytes
unfolding escape_byte
returns-clause-bytes c =
    rw (c.put_str-3.ensures.bytes, c.put_number-2.ensures.bytes, c.put_str-2.ensures.bytes, c.put_number.ensures.bytes, c.put_str.ensures.bytes) (simp append_assoc)
