use Rattle.std.proofs.Common.{sym}
use Rattle.txn_records.proofs.Coords.{coord_decodes}
use Rattle.txn_records.proofs.coord.read_coord.Goals as goal

pub returns-clause-entry : goal.returns-clause-entry
returns-clause-entry c = sym (coord_decodes c.args.bytes.now c.in_ok-entry.entry c.in_ok-entry.ensures.some)
