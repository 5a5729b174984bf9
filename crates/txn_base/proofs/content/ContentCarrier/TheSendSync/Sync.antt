-- A carrier owns nothing, so threads may share it.
use denote.Param.Send.{IsSync, part_keyless}
use Rattle.txn_base.specs.contracts.content.ContentCarrier.{the_row}
use Rattle.txn_base.proofs.content.ContentCarrier.TheSendSync.Send.{send}

pub sync : IsSync the_row
sync = record { shared = λ d b o κ q. part_keyless the_row send q d b o }
