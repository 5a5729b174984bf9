use Rattle.std.proofs.Common.{append_assoc}
use Rattle.txn_wire.proofs.Names.{escape-name}
use Rattle.txn_wire.proofs.short_pieces.put_name.Goals as goal

pub returns-clause-bytes : goal.returns-clause-bytes
returns-clause-bytes c =
    rw (escape-name c.args.name.now c.requires.name.plain, c.put_str-3.ensures.bytes, c.put_str-2.ensures.bytes, c.put_str.ensures.bytes, c.as_str.ensures.value) (simp append_assoc)
