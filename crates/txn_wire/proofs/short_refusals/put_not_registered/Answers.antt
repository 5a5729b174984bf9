use Rattle.std.proofs.Common.{append_assoc}
use Rattle.json.specs.Print.{escape_byte}
use Rattle.txn_wire.proofs.short_refusals.put_not_registered.Goals as goal

pub returns-clause-bytes : goal.returns-clause-bytes
unfolding escape_byte
returns-clause-bytes c =
    rw (c.put_str-2.ensures.bytes, c.put_name.ensures.bytes, c.put_str.ensures.bytes) (simp append_assoc)
